-- Numbers that are written into a list from a place on: what is read there, before it and behind it.
use Prim.Native.Nat.{ℕ, zero, suc, ◌+◌, ◌≤◌, ◌<◌}
use native.Mathlib.Nat.{add-zero}
use native.Mathlib.Omega.{arith}
use mathlib.Core.Path.{◌≡◌, refl, ◌∙◌}
use mathlib.Core.List.{List, [], ◌∷◌}
use lib.ListN.{drop, get_or, length, set, take, length-set}
use lib.Seq.{drop-set-lt, get_or-set_other, get_or-set_same, sets, take-set-le}

-- a number before them
pub before_written : (l : List ℕ) (i : ℕ) (vs : List ℕ) (j : ℕ) → j < i → get_or (sets l i vs) j 0 ≡ get_or l j 0
before_written l i [] j h = refl
before_written l i (v ∷ vs) j h = before_written (set l i v) (suc i) vs j (omega arith) ∙ get_or-set_other l i j v 0 (λ e. omega arith)

-- a number behind them
pub behind_written : (l : List ℕ) (i : ℕ) (vs : List ℕ) (j : ℕ) → i + length vs ≤ j → get_or (sets l i vs) j 0 ≡ get_or l j 0
behind_written l i [] j h = refl
behind_written l i (v ∷ vs) j h = behind_written (set l i v) (suc i) vs j (omega arith) ∙ get_or-set_other l i j v 0 (λ e. omega arith)

-- one of them
pub read_written : (l : List ℕ) (i : ℕ) (vs : List ℕ) (k : ℕ) → i + length vs ≤ length l → k < length vs → get_or (sets l i vs) (i + k) 0 ≡ get_or vs k 0
read_written l i [] k room h = absurd (omega arith)
read_written l i (v ∷ vs) zero room h = rw add-zero (before_written (set l i v) (suc i) vs i (omega arith) ∙ get_or-set_same l i v 0 (omega arith))
read_written l i (v ∷ vs) (suc k) room h =
    let next : i + suc k ≡ suc i + k = omega arith in
    rw next (read_written (set l i v) (suc i) vs k (rw length-set (omega arith)) (omega arith))

-- all before them
pub take_written : (n : ℕ) (l : List ℕ) (i : ℕ) (vs : List ℕ) → n ≤ i → take n (sets l i vs) ≡ take n l
take_written n l i [] h = refl
take_written n l i (v ∷ vs) h = take_written n (set l i v) (suc i) vs (omega arith) ∙ take-set-le n l i v h

-- all behind them
pub drop_written : (n : ℕ) (l : List ℕ) (i : ℕ) (vs : List ℕ) → i + length vs ≤ n → drop n (sets l i vs) ≡ drop n l
drop_written n l i [] h = refl
drop_written n l i (v ∷ vs) h = drop_written n (set l i v) (suc i) vs (omega arith) ∙ drop-set-lt n l i v (omega arith)
