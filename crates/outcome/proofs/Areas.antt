-- What an area that shows nothing has in it, by its size.
use Prim.Native.Nat.{ℕ}
use mathlib.Core.List.{List}
use mathlib.Core.Path.{◌≡◌}
use borrow.Author.Tests.{eq-eqb, ne_eqb}
use lib.ListN.{length, length-replicate}
use Rattle.forest.specs.Limits.{area_size, unused}
use Rattle.outcome.specs.Checked.{unshown}
use Rattle.outcome.specs.Derived.{blank_area}

-- The blank area is of its size.
pub blank_long : length blank_area ≡ area_size
unfolding blank_area
blank_long = length-replicate area_size unused

-- One of right size is blank.
pub unshown_blank : (area : List ℕ) → length area ≡ area_size → unshown area ≡ blank_area
unshown_blank area h = rw (eq-eqb (length area) area_size h)

-- One of wrong size is as it was.
pub unshown_same : {area : List ℕ} → (length area ≡ area_size → ⊥) → area ≡ unshown area
unshown_same {area} h = rw (ne_eqb (length area) area_size h)
