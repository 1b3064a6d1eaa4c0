-- The sorts of forms, and whether there is one.
use Rattle.std.specs.Prelude.{Bool, true, false}
use Rattle.std.proofs.Math.Option.{Option, none as nothing, some}
-- passed on: the sorts of forms
pub use Rattle.derivation.specs.Sorts.{FormScope, tree_sort}
unfoldable pub use Rattle.derivation.specs.Sorts.{form_sorts, item_sort}

-- Whether there is a sort.
abbrev pub sorted : {A : Type 0} → Option A → Bool
sorted nothing = false
sorted (some s) = true
