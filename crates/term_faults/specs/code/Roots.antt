-- What the test of a root asks and gives.
use Rattle.std.specs.Prelude.{ℕ, ◌-◌, ◌≤◌, cond, List, ◌++◌, eqb, ◌≡◌}
use Rattle.lexemes.specs.code.Codes.{weight_code}
use Rattle.lexemes.specs.code.Table.{code_at, next_at}
use Rattle.forest.specs.Forest.{Forest, none, tree}
use Rattle.forest.specs.code.Cursors.{from}
use Rattle.operators.specs.Sorts.{max_width}
use Rattle.term_sorts.specs.code.Forms.{sort_column}
use Rattle.term_nodes.specs.code.Table.{raw_table}
use Rattle.term_nodes.specs.Terms.{Raw, first_word}
use Rattle.names.specs.Scopes.{View, forms_of}
use Rattle.term_faults.specs.Faults.{one_sort, raw_sorts, scope_of}

-- A tree stands at a node of terms whose nodes and sorts are in tables, and a sort that it is to have.
pub record RootAt (raw column : List ℕ) (node sort : ℕ) : Type 0 where
  pub F : Forest Raw
  pub rest : List ℕ
  pub is_raw : raw ≡ raw_table F ++ rest
  pub view : View
  pub more : List ℕ
  pub is_column : column ≡ sort_column (scope_of view) (forms_of view F) ++ more
  pub root : Raw
  pub operands : Forest Raw
  pub later : Forest Raw
  pub here : from F node ≡ tree root operands later
  pub low : sort ≤ max_width

-- Its first word is found, where it is not of the sort.
abbrev pub RootFits : {raw column : List ℕ} {node sort : ℕ} → RootAt raw column node sort → (nowhere r : ℕ) → Type 0
RootFits {sort = sort} p nowhere r = r ≡ cond (one_sort (raw_sorts p.view (tree p.root p.operands none)) sort) nowhere (first_word p.root)

-- The first word of the rule whose right side begins at word w: behind the term of a rule with attributes stands `:weight`, and before it `(!`.
unfoldable pub rule_first : (lexemes : List ℕ) → (w : ℕ) → ℕ
rule_first lexemes w = cond (eqb (code_at lexemes (next_at lexemes w)) weight_code) (w - 2) w

-- The first word of the rule whose right side the tree is, is found, where it is not of the sort.
abbrev pub SideFits : (lexemes : List ℕ) → {raw column : List ℕ} {node sort : ℕ} → RootAt raw column node sort → (nowhere r : ℕ) → Type 0
SideFits lexemes {sort = sort} p nowhere r =
    r ≡ cond (one_sort (raw_sorts p.view (tree p.root p.operands none)) sort) nowhere (rule_first lexemes (first_word p.root))
