-- "the units spent: the summed cost of evaluations done, a false one included"; of assumptions: "Units include them" (E1). In closed form: where 14 names point
-- p and constraint c these are those of the points before p, of all assumptions and of c + 1 constraints; where 15 names point p and a term, those of the
-- points before p and of what stands before the term at p; and with 0 those of all points.
use Rattle.std.specs.Prelude.{ℕ, zero, suc, ◌+◌, Bool, true, cond, ◌&&◌, List, [], ◌∷◌}
use Rattle.terms.specs.Costs.{cost_of}
use Rattle.terms.specs.Labels.{Terms}
use Rattle.terms.specs.Sorts.{Definition}
use Rattle.terms.specs.Values.{values_at}
use Rattle.terms.specs.declared.Value.{Value}
use Rattle.evaluation.specs.Running.{is_true_value}

-- The summed cost of terms, each evaluated once.
unfoldable pub summed : (defs funs : List Definition) → List Terms → ℕ
summed defs funs [] = 0
summed defs funs (t ∷ more) = cost_of defs funs t + summed defs funs more

-- Whether all terms are true at a point.
unfoldable pub all_hold : (defs funs : List Definition) → (point : List Value) → List Terms → Bool
all_hold defs funs point [] = true
all_hold defs funs point (t ∷ more) = is_true_value (values_at defs funs point t) && all_hold defs funs point more

-- The cost of assumptions at a point, "up to the first false one" (E1), which is evaluated too.
unfoldable pub assumed_cost : (defs funs : List Definition) → (point : List Value) → List Terms → ℕ
assumed_cost defs funs point [] = 0
assumed_cost defs funs point (t ∷ more) =
    let later = assumed_cost defs funs point more in
    cost_of defs funs t + cond (is_true_value (values_at defs funs point t)) later 0

-- The cost of a whole point: of its assumptions, and where all of them hold, of all constraints.
abbrev pub point_cost : (defs funs : List Definition) → (point : List Value) → (assumptions constraints : List Terms) → ℕ
point_cost defs funs point assumptions constraints =
    assumed_cost defs funs point assumptions + cond (all_hold defs funs point assumptions) (summed defs funs constraints) 0

-- The sum of what each of n points has, from point p on.
unfoldable pub sum_from : (has : ℕ → ℕ) → (p n : ℕ) → ℕ
sum_from has p zero = 0
sum_from has p (suc n) = has p + sum_from has (p + 1) n
