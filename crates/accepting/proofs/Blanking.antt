-- An area that shows nothing.
use Prim.Native.Nat.{ℕ}
use mathlib.Core.Path.{◌≡◌, refl, sym, ap, ◌∙◌}
use mathlib.Core.List.{List}
use lib.ListN.{length, replicate}
use Rattle.forest.specs.Limits.{area_size, unused}
use Rattle.outcome.specs.Checked.{unshown}
use Rattle.outcome.specs.Derived.{blank_area}
use Rattle.outcome.proofs.Areas.{unshown_blank}

-- an area whose entries are all unused
pub blank_is : replicate area_size unused ≡ blank_area
unfolding blank_area
blank_is = refl

-- an area of right size that is filled with them
pub blanked : (area : List ℕ) {after : List ℕ} → after ≡ replicate (length area) unused → length area ≡ area_size → after ≡ unshown area
blanked area filled sized = filled ∙ ap (λ (n : ℕ). replicate n unused) sized ∙ blank_is ∙ sym (unshown_blank area sized)
