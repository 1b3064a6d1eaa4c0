-- Sums over points.
use Prim.Native.Nat.{ℕ, zero, suc, ◌+◌, ◌≤◌}
use native.Mathlib.Omega.{arith}
use mathlib.Core.Path.{◌≡◌, ap, subst}
use Rattle.outcome.specs.Units.{sum_from}

module _ (has : ℕ → ℕ) where
  -- One point more at the end.
  sum_end : (p n : ℕ) → sum_from has p (suc n) ≡ sum_from has p n + has (p + n)
  unfolding sum_from
  sum_end p zero = let same = let e : p ≡ p + 0 = omega arith in ap has e in omega arith
  sum_end p (suc n) = let same = let e : p + 1 + n ≡ p + suc n = omega arith in ap has e in omega (arith, sum_end (p + 1) n)

  -- The same from the first point on.
  pub sum-next : (n : ℕ) → sum_from has 0 (n + 1) ≡ sum_from has 0 n + has n
  sum-next n =
      let one : suc n ≡ n + 1 = omega arith in
      let same = let e : 0 + n ≡ n = omega arith in ap has e in
      let all = subst (λ (m : ℕ). sum_from has 0 m ≡ sum_from has 0 n + has (0 + n)) one (sum_end 0 n) in
      omega arith

  -- More points have no less.
  pub sum_most : (p m n : ℕ) → m ≤ n → sum_from has p m ≤ sum_from has p n
  unfolding sum_from
  sum_most p zero n h = omega arith
  sum_most p (suc m) zero h = absurd (omega arith)
  sum_most p (suc m) (suc n) h = omega (arith, sum_most (p + 1) m n (omega arith))

  -- Where each point has one at the most, they have no more than there are.
  pub sum_few : ((p : ℕ) → has p ≤ 1) → (p n : ℕ) → sum_from has p n ≤ n
  unfolding sum_from
  sum_few each p zero = omega arith
  sum_few each p (suc n) = omega (arith, each p, sum_few each (p + 1) n)
