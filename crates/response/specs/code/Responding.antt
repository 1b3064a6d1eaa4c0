-- What the parts of the reading of a response have in common.
use Rattle.std.specs.Prelude.{ℕ, ◌+◌, ◌*◌, ◌≤◌, ◌<◌, true, List, ◌++◌, ◌≡◌, drop, length}
use Rattle.forest.specs.code.Cursors.{size}
use Rattle.terms.specs.Labels.{Terms}
use Rattle.terms.specs.code.Nodes.{row_width as nodeWidth}
use Rattle.evaluation.specs.code.Tables.{TermStands}
use Rattle.lexemes.specs.Lists.{Items, inside, is, item}
use Rattle.lexemes.specs.code.Standing.{Stands}
use Rattle.lexemes.specs.code.Table.{next_at, start_at}
use Rattle.shapes.specs.Shapes.{define_fun_shape}
use Rattle.term_nodes.specs.code.Table.{row_width as rawWidth, uncounted_table}
use Rattle.term_nodes.specs.Terms.{raw_term}
use Rattle.names.specs.code.Lookup.{source_of}
use Rattle.term_faults.specs.code.Bodies.{Lawful}
use Rattle.forest.specs.Limits.{script_words}
use Rattle.script.specs.Script.{Known}
use Rattle.script.specs.code.Tables.{Counted, GrammarsHold, NamesHold, PlacesHold}
use Rattle.script.specs.code.Places.{body_in, functions_place, offset_in}
use Rattle.script.specs.declared.Progress.{Progress}
use Rattle.script.specs.Outcome.{offset_of}
use Rattle.script.specs.Response.{Body}

-- The table of lexemes has the offset of each of so many words.
abbrev pub Starts : (text lexemes : List ℕ) → (nowhere : ℕ) → Type 0
Starts text lexemes nowhere = (w : ℕ) → w < nowhere → start_at lexemes w ≡ offset_of text w

-- The nodes of the body of a `define-fun`, which is of its shape, are gathered.
pub record Gathered (lexemes raw : List ℕ) (i : ℕ) (c : Items) (rows : ℕ) : Type 0 where
  pub by : is "define-fun" (item 0 c) ≡ true
  pub shaped : define_fun_shape c ≡ true
  pub rest : List ℕ
  pub raw_is : raw ≡ uncounted_table (raw_term (item 4 c) (inside 4 c)) ++ rest
  pub counted : rows ≡ size (raw_term (item 4 c) (inside 4 c))
  pub few : i + rows ≤ next_at lexemes i

-- The items from word i to before word e are left of a response of so many words, for the functions from function j on; what is known of the script stands
-- in the tables, and so do the bodies before, in so many rows.
pub record Reading (text lexemes names raw places nodes : List ℕ) (p : Progress) (i e j rows nowhere : ℕ) (k : Known) : Type 0 where
  pub items : Items
  pub stands : Stands (source_of text lexemes) i items e
  pub lawful : Lawful (source_of text lexemes) nowhere
  pub starts : Starts text lexemes nowhere
  pub few : nowhere ≤ script_words
  pub counted : Counted p k
  pub names_hold : NamesHold names k
  pub places_hold : PlacesHold places nodes (p.nodes + rows) k
  pub forms : List ℕ
  pub grammars_hold : GrammarsHold (drop functions_place places) forms p.forms k.functions
  pub low : rows ≤ i
  pub passed : j ≤ p.functions
  pub raw_room : rawWidth * nowhere ≤ length raw
  pub nodes_room : nodeWidth * (p.nodes + nowhere) ≤ length nodes

-- What the tables have of a body of function j more.
pub record OneMore (text places : List ℕ) (base : ℕ) (k : Known) (all : Terms) (j : ℕ) (b : Body) (placesAfter nodesAfter : List ℕ) (rows : ℕ) : Type 0 where
  pub places_hold : PlacesHold placesAfter nodesAfter (base + rows) k
  pub begins : TermStands places_hold.all (body_in placesAfter j) b.term
  pub offset_is : offset_in placesAfter j ≡ offset_of text b.first
  pub wider : (n : ℕ) (t : Terms) → TermStands all n t → TermStands places_hold.all n t
  pub same_bodies : (n : ℕ) → n < j → body_in placesAfter n ≡ body_in places n
  pub same_offsets : (n : ℕ) → n < j → offset_in placesAfter n ≡ offset_in places n
