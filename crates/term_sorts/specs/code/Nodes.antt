-- What the sort of one node asks and gives.
use Rattle.std.specs.Prelude.{ℕ, ◌+◌, ◌<◌, Bool, cond, List, [], ◌∷◌, ◌≡◌, eqb, length}
use Rattle.std.proofs.Math.Option.{Option}
use Rattle.forest.specs.Forest.{Forest, none, tree}
use Rattle.forest.specs.code.Cursors.{from}
use Rattle.derivation.specs.Derivation.{Item}
use Rattle.terms.specs.code.Codes.{non_terminal_kind, function_kind}
use Rattle.term_sorts.specs.Forms.{FormScope, form_sorts, sorted, tree_sort}
use Rattle.term_sorts.specs.code.Forms.{sort_number}
use Rattle.term_sorts.specs.code.Signatures.{Sortable, function_signature, non_terminal_signature}
use Rattle.term_sorts.specs.code.Operands.{Stand}

-- The row of the first `define-fun`, synthesized function or non-terminal, by the kind.
abbrev pub first_row : (kind : ℕ) → ℕ
first_row kind = cond (eqb kind function_kind) function_signature (cond (eqb kind non_terminal_kind) non_terminal_signature 0)

-- The sorts of the trees of forms.
unfoldable pub tree_sorts : FormScope → Forest Item → List (Option ℕ)
tree_sorts scope none = []
tree_sorts scope (tree i ops rest) = tree_sort scope i (form_sorts scope ops) ∷ tree_sorts scope rest

-- A node of the forms, whose operands' numbers are in the column; `whole` says whether these have sorts.
pub record NodeAt (forms signatures column : List ℕ) (node : ℕ) (whole : Bool) : Type 0 where
  pub given : Sortable forms signatures
  pub item : Item
  pub operands : Forest Item
  pub rest : Forest Item
  pub is : from given.F node ≡ tree item operands rest
  pub within : node < length column
  pub stand : Stand sort_number forms column (node + 1) (tree_sorts given.scope operands)
  pub whole_is : whole ≡ sorted (form_sorts given.scope operands)

-- The sort of its tree.
abbrev pub NodeGives : (forms signatures column : List ℕ) (node : ℕ) (whole : Bool) (r : ℕ) → Type 0
NodeGives forms signatures column node whole r =
    (e : NodeAt forms signatures column node whole) → r ≡ sort_number (tree_sort e.given.scope e.item (form_sorts e.given.scope e.operands))
