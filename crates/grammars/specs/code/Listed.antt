-- What the test of a listing asks and gives. Definitions that serve a step.
use Rattle.std.specs.Prelude.{ℕ, ◌≤◌, ◌<◌, min, cond, true, ◌&&◌, List, ◌≡◌, eqb}
use Rattle.forest.specs.Forest.{count, tree}
use Rattle.forest.specs.Lists.{same_bytes}
use Rattle.words.specs.Trees.{list, word_of}
use Rattle.lexemes.specs.Lists.{Items, close_of, inside, item, name_of}
use Rattle.lexemes.specs.code.Standing.{ItemAt, ListAt, Stands}
use Rattle.shapes.specs.Shapes.{all, group_shape, pair_shape}
use Rattle.written_sorts.specs.Written.{sort_of}
use Rattle.names.specs.Scopes.{Named, names_of, named_sorts}
use Rattle.names.specs.code.Lookup.{Names, source_of}
use Rattle.names.specs.code.Table.{name_in, names_from, non_terminal_row, row_count, sort_in, sorts_from}
use Rattle.grammars.specs.Listing.{listing_misfit, start_misfit}
use Rattle.forest.specs.Limits.{most_non_terminals}

-- A list of pairs stands at word i.
pub record PairsAt (lexemes : List ℕ) (i : ℕ) : Type 0 where
  pub here : ListAt lexemes i
  pub shaped : all pair_shape here.operands ≡ true

-- The word at fault in the start is found.
abbrev pub StartTested : {lexemes : List ℕ} {i : ℕ} → PairsAt lexemes i → (result nowhere r : ℕ) → Type 0
StartTested p result nowhere r = r ≡ start_misfit nowhere result p.here.close p.here.operands

-- A list of groups stands at word i, and the table has the non-terminals that are declared, so many of them.
pub record GroupsAt (text lexemes names : List ℕ) (i listed : ℕ) : Type 0 where
  pub close : ℕ
  pub groups : Items
  pub more : Items
  pub end : ℕ
  pub stands : Stands (source_of text lexemes) i (tree (list i close) groups more) end
  pub shaped : all group_shape groups ≡ true
  pub table : Names names
  pub declared : List Named
  pub names_are : names_from names non_terminal_row listed ≡ names_of declared
  pub sorts_are : sorts_from names non_terminal_row listed ≡ named_sorts declared
  pub few : listed ≤ most_non_terminals

-- The least word at fault is found.
abbrev pub ListingTested : {text lexemes names : List ℕ} {i listed : ℕ} → GroupsAt text lexemes names i listed → (nowhere r : ℕ) → Type 0
ListingTested p nowhere r = r ≡ listing_misfit nowhere p.close p.declared p.groups

-- A group stands at word i, and the table has a row for the non-terminal that it lists.
pub record GroupAt (text lexemes names : List ℕ) (i row : ℕ) : Type 0 where
  pub here : ItemAt lexemes i
  pub read : here.source ≡ source_of text lexemes
  pub shaped : group_shape here.label here.operands ≡ true
  pub table : Names names
  pub within : row < row_count

-- The word at fault in the name and sort of a group, which are to be those in a row.
abbrev pub name_misfit : (nowhere : ℕ) → (names : List ℕ) → (row : ℕ) → (group : Items) → ℕ
name_misfit nowhere names row group =
    cond (same_bytes (name_of (item 0 group)) (name_in names row) && eqb (sort_of (item 1 group) (inside 1 group)) (sort_in names row)) nowhere
    (word_of (item 0 group))

-- The word at fault in a list of rules that a bracket closes.
abbrev pub rules_misfit : (nowhere close : ℕ) → (rules : Items) → ℕ
rules_misfit nowhere close rules = cond (eqb (count rules) 0) close nowhere

-- The least word at fault in a group.
abbrev pub group_misfit : (nowhere : ℕ) → (names : List ℕ) → (row : ℕ) → (group : Items) → ℕ
group_misfit nowhere names row group = min (name_misfit nowhere names row group) (rules_misfit nowhere (close_of (item 2 group)) (inside 2 group))

-- The word at fault in the name and sort of the group is found, for whatever the tables hold.
abbrev pub TestsName : (text lexemes names : List ℕ) → (i row nowhere r : ℕ) → Type 0
TestsName text lexemes names i row nowhere r = (p : GroupAt text lexemes names i row) → r ≡ name_misfit nowhere names row p.here.operands

-- The least word at fault in the group is found, for whatever the tables hold.
abbrev pub TestsGroup : (text lexemes names : List ℕ) → (i row nowhere r : ℕ) → Type 0
TestsGroup text lexemes names i row nowhere r = (p : GroupAt text lexemes names i row) → r ≡ group_misfit nowhere names row p.here.operands
