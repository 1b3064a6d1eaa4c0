-- The nodes of forms that have no sort, and the sorts of all nodes.
use Rattle.std.specs.Prelude.{ℕ, suc, ◌+◌, min, cond, List, [], ◌∷◌, ◌++◌, ltb}
use Rattle.std.proofs.Math.Option.{Option, none as nothing, some}
use Rattle.forest.specs.Forest.{Forest, none, tree}
use Rattle.forest.specs.code.Cursors.{size}
use Rattle.derivation.specs.Derivation.{Item}
use Rattle.term_sorts.specs.Forms.{FormScope, form_sorts, sorted, tree_sort}

-- "first word .. of a faulty term whose operands have none": the first node, the forms' own being node k and those behind it, that has no sort though its
-- operands have; nowhere, where there is none.
unfoldable pub fault_from : FormScope → (nowhere k : ℕ) → Forest Item → ℕ
fault_from scope nowhere k none = nowhere
fault_from scope nowhere k (tree i ops rest) =
    let within = fault_from scope nowhere (k + 1) ops in
    let here = cond (sorted (tree_sort scope i (form_sorts scope ops))) nowhere k in
    min (cond (ltb within nowhere) within here) (fault_from scope nowhere (k + suc (size ops)) rest)

-- A sort that may be missing as a number: 0 where it is, one more than the sort where it is not.
abbrev pub sort_number : Option ℕ → ℕ
sort_number nothing = 0
sort_number (some s) = s + 1

-- The sort of each node's tree, in the order of the text.
unfoldable pub sort_column : FormScope → Forest Item → List ℕ
sort_column scope none = []
sort_column scope (tree i ops rest) = sort_number (tree_sort scope i (form_sorts scope ops)) ∷ (sort_column scope ops ++ sort_column scope rest)
