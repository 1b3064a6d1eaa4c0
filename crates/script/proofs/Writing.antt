-- The sorts of a function's arguments, written one after the other behind the first two numbers of its row.
use Prim.Native.Nat.{ℕ, suc, ◌+◌, ◌-◌, ◌≤◌, ◌<◌}
use native.Mathlib.Omega.{arith}
use mathlib.Core.Path.{◌≡◌, ◌∙◌}
use mathlib.Core.List.{List, ◌∷◌}
use lib.ListN.{length, set, length-set}
use lib.Seq.{sets}
use Rattle.names.specs.code.Table.{sort_in, sorts_from}

-- The first k of them are written.
pub record Writing (before names places : List ℕ) (first arguments at k : ℕ) : Type 0 where
  pub long : length places ≡ length before
  pub passed : k ≤ arguments
  pub left : sets places (at + 2 + k) (sorts_from names (first + k) (arguments - k)) ≡ sets before (at + 2) (sorts_from names first arguments)

module _ {before names places : List ℕ} {first arguments at k : ℕ} (w : Writing before names places first arguments at k) where
  -- one more
  pub sort_written : k < arguments → {sort : ℕ} → sort ≡ sort_in names (first + k)
      → Writing before names (set places (at + 2 + k) sort) first arguments at (k + 1)
  unfolding sorts_from
  sort_written h {sort} e =
      let more : arguments - k ≡ suc (arguments - (k + 1)) = omega arith in
      let next : at + 2 + (k + 1) ≡ suc (at + 2 + k) = omega arith in
      let row : first + (k + 1) ≡ first + k + 1 = omega arith in
      record { long = length-set places _ sort ∙ w.long; passed = omega arith; left = rw (next, row, e) (rw more at w.left) }

  -- all are written
  pub all_written : arguments ≤ k → places ≡ sets before (at + 2) (sorts_from names first arguments)
  unfolding sorts_from
  all_written h = let none : arguments - k ≡ 0 = omega (arith, w.passed) in rw none at w.left

-- A row is written whole.
pub row_written : (places sorts : List ℕ) (at arguments result : ℕ)
    → sets (set (set places at arguments) (at + 1) result) (at + 2) sorts ≡ sets places at (arguments ∷ result ∷ sorts)
row_written places sorts at arguments result =
    let one : at + 1 ≡ suc at = omega arith in
    let two : at + 2 ≡ suc (suc at) = omega arith in
    rw (one, two)
