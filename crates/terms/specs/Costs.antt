-- What evaluating terms costs.
use Rattle.std.specs.Prelude.{ℕ, ◌+◌, cond, List, [], ◌∷◌, eqb, length}
use Rattle.forest.specs.Forest.{none, tree}
use Rattle.terms.specs.Labels.{Label, Terms, defined, function, literal, name, operator}
use Rattle.terms.specs.Sorts.{Definition}

-- What the bodies of the functions cost, by their numbers.
pub record BodyCosts : Type 0 where
  pub defined : ℕ → ℕ
  pub functions : ℕ → ℕ

-- "plus the body's cost where it is a `define-fun` or a synthesized function"; 0 for any other label.
abbrev pub body_cost : BodyCosts → Label → ℕ
body_cost bodies (defined k) = bodies.defined k
body_cost bodies (function k) = bodies.functions k
body_cost bodies (literal s v) = 0
body_cost bodies (name s k) = 0
body_cost bodies (operator o i j) = 0

-- The summed cost of the terms. "Cost of a literal or variable is 1; of an application (a function without arguments too) 1 plus its operands' costs, plus the
-- body's cost ..". "All operands are evaluated, also of `ite`." "It is a whole number and may pass 2^64."
unfoldable pub costs : BodyCosts → Terms → ℕ
costs bodies none = 0
costs bodies (tree l ops rest) = 1 + costs bodies ops + body_cost bodies l + costs bodies rest

-- The cost of the body of `define-fun` k; they stand the last first, and each sees only those before it.
unfoldable pub defined_cost : List Definition → (k : ℕ) → ℕ
defined_cost [] k = 0
defined_cost (d ∷ earlier) k =
    cond (eqb k (length earlier)) (costs (record { defined = defined_cost earlier; functions = λ (f : ℕ). 0 }) d.body) (defined_cost earlier k)

-- The cost of the body of synthesized function k; they stand the last first, and each sees the `define-fun`s.
unfoldable pub function_cost : (defs : List Definition) → List Definition → (k : ℕ) → ℕ
function_cost defs [] k = 0
function_cost defs (f ∷ earlier) k =
    cond (eqb k (length earlier)) (costs (record { defined = defined_cost defs; functions = λ (g : ℕ). 0 }) f.body) (function_cost defs earlier k)

-- The cost of terms, where the script has these `define-fun`s and the response these functions.
abbrev pub cost_of : (defs funs : List Definition) → Terms → ℕ
cost_of defs funs t = costs (record { defined = defined_cost defs; functions = function_cost defs funs }) t
