-- The totals of eight functions, read one by one.
use Prim.Native.Nat.{ℕ}
use native.Mathlib.Omega.{arith}
use mathlib.Core.List.{List, [], ◌∷◌}
use mathlib.Core.Path.{◌≡◌, refl, ap}
use lib.ListN.{get_or, length}
use Rattle.forest.specs.Limits.{most_functions}
use Rattle.outcome.specs.Located.{answer_numbers}
use Rattle.outcome.specs.declared.Answer.{Answer}

-- eight numbers of a list of eight are the list
eight_read : (l : List ℕ) → length l ≡ most_functions
    → get_or l 0 0 ∷ get_or l 1 0 ∷ get_or l 2 0 ∷ get_or l 3 0 ∷ get_or l 4 0 ∷ get_or l 5 0 ∷ get_or l 6 0 ∷ get_or l 7 0 ∷ [] ≡ l
eight_read (a ∷ b ∷ c ∷ d ∷ e ∷ f ∷ g ∷ h ∷ []) z = refl
eight_read [] z = absurd (omega arith)
eight_read (a ∷ []) z = absurd (omega arith)
eight_read (a ∷ b ∷ []) z = absurd (omega arith)
eight_read (a ∷ b ∷ c ∷ []) z = absurd (omega arith)
eight_read (a ∷ b ∷ c ∷ d ∷ []) z = absurd (omega arith)
eight_read (a ∷ b ∷ c ∷ d ∷ e ∷ []) z = absurd (omega arith)
eight_read (a ∷ b ∷ c ∷ d ∷ e ∷ f ∷ []) z = absurd (omega arith)
eight_read (a ∷ b ∷ c ∷ d ∷ e ∷ f ∷ g ∷ []) z = absurd (omega arith)
eight_read (a ∷ b ∷ c ∷ d ∷ e ∷ f ∷ g ∷ h ∷ i ∷ more) z = absurd (omega arith)

-- an answer in its sixteen numbers
pub numbers_written : (found : Answer) → length found.totals ≡ most_functions
    → found.outcome.number ∷ found.outcome.text ∷ found.outcome.place ∷ found.outcome.second ∷ found.outcome.units
    ∷ found.location.end ∷ found.location.line ∷ found.location.column
    ∷ get_or found.totals 0 0 ∷ get_or found.totals 1 0 ∷ get_or found.totals 2 0 ∷ get_or found.totals 3 0
    ∷ get_or found.totals 4 0 ∷ get_or found.totals 5 0 ∷ get_or found.totals 6 0 ∷ get_or found.totals 7 0 ∷ []
    ≡ answer_numbers found
numbers_written found long =
    let o = found.outcome in
    let l = found.location in
    ap (λ (w : List ℕ). o.number ∷ o.text ∷ o.place ∷ o.second ∷ o.units ∷ l.end ∷ l.line ∷ l.column ∷ w) (eight_read found.totals long)
