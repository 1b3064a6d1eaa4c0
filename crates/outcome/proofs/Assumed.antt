-- Whether assumptions hold at a point, and what their evaluation costs there.
use Prim.Native.Nat.{ℕ, zero, suc, ◌≤◌, ◌<◌}
use native.Mathlib.Omega.{arith}
use mathlib.Core.Bool.{Bool, true, false, ◌&&◌}
use mathlib.Core.List.{List, [], ◌∷◌}
use mathlib.Core.Path.{◌≡◌, refl}
use lib.ListN.{get_or, length, take}
use Rattle.forest.specs.Forest.{none}
use Rattle.forest.proofs.Bools.{and_left, and_right}
use Rattle.terms.specs.Labels.{Terms}
use Rattle.terms.specs.Sorts.{Definition}
use Rattle.terms.specs.Values.{values_at}
use Rattle.terms.specs.declared.Value.{Value}
use Rattle.evaluation.specs.Running.{is_true_value}
use Rattle.outcome.specs.Units.{all_hold, assumed_cost, summed}

-- Where one of two tests fails, not both pass.
and-false : (a : Bool) → a && false ≡ false
and-false true = refl
and-false false = refl

module _ (defs funs : List Definition) (point : List Value) where
  -- Whether term i is true.
  abbrev pub holds : List Terms → (i : ℕ) → Bool
  holds ts i = is_true_value (values_at defs funs point (get_or ts i none))

  -- The terms before i are true.
  abbrev pub TrueTo : List Terms → (i : ℕ) → Type 0
  TrueTo ts i = (j : ℕ) → j < i → holds ts j ≡ true

  -- All terms hold where each is true.
  pub all_hold_lem : (ts : List Terms) → TrueTo ts (length ts) → all_hold defs funs point ts ≡ true
  unfolding all_hold
  all_hold_lem [] more = refl
  all_hold_lem (t ∷ ts) more = let h = more 0 (omega arith) in rw (h, all_hold_lem ts (λ j l. more (suc j) (omega arith)))

  -- Not all do where one is false.
  pub not_all : (ts : List Terms) (i : ℕ) → i < length ts → holds ts i ≡ false → all_hold defs funs point ts ≡ false
  unfolding all_hold
  not_all [] i inside f = absurd (omega arith)
  not_all (t ∷ ts) zero inside f = rw f
  not_all (t ∷ ts) (suc i) inside f = rw (not_all ts i (omega arith) f) (and-false (is_true_value (values_at defs funs point t)))

  -- Where all hold, each is evaluated.
  pub cost_all : (ts : List Terms) → all_hold defs funs point ts ≡ true → assumed_cost defs funs point ts ≡ summed defs funs ts
  unfolding all_hold assumed_cost summed
  cost_all [] h = refl
  cost_all (t ∷ ts) h =
      rw (
        and_left (is_true_value (values_at defs funs point t)) (all_hold defs funs point ts) h,
        cost_all ts (and_right (is_true_value (values_at defs funs point t)) (all_hold defs funs point ts) h),
      )

  -- Where term i is the first false one, those up to it are.
  pub cost_to : (ts : List Terms) (i : ℕ) → i < length ts → TrueTo ts i → holds ts i ≡ false
      → assumed_cost defs funs point ts ≡ summed defs funs (take (suc i) ts)
  unfolding assumed_cost summed
  cost_to [] i inside more f = absurd (omega arith)
  cost_to (t ∷ ts) zero inside more f = rw f
  cost_to (t ∷ ts) (suc i) inside more f =
      let h = more 0 (omega arith) in
      rw (h, cost_to ts i (omega arith) (λ j l. more (suc j) (omega arith)) f)

  -- Where the terms before i are true, those up to it are evaluated.
  pub cost_least : (ts : List Terms) (i : ℕ) → TrueTo ts i → summed defs funs (take (suc i) ts) ≤ assumed_cost defs funs point ts
  unfolding assumed_cost summed
  cost_least [] i more = omega arith
  cost_least (t ∷ ts) zero more = omega arith
  cost_least (t ∷ ts) (suc i) more =
      let h = more 0 (omega arith) in
      rw h (omega (arith, cost_least ts i (λ j l. more (suc j) (omega arith))))
