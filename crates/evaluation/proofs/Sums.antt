-- Costs as sums, and as what is held of them.
use Prim.Native.Nat.{ℕ, ◌+◌, ◌-◌, ◌^◌, ◌≤◌, min}
use native.Mathlib.Omega.{arith}
use mathlib.Core.Path.{◌≡◌}
use Rattle.forest.specs.Forest.{join, none, tree}
use Rattle.forest.specs.code.Cursors.{size}
use Rattle.terms.specs.Costs.{BodyCosts, body_cost, costs}
use Rattle.terms.specs.Labels.{Label, Terms}
use Rattle.evaluation.specs.code.Budget.{held}

-- What the bodies that terms apply cost.
unfoldable pub bodies_cost : BodyCosts → Terms → ℕ
bodies_cost bodies none = 0
bodies_cost bodies (tree l ops rest) = body_cost bodies l + bodies_cost bodies ops + bodies_cost bodies rest

-- The cost of terms is that of their nodes and of those bodies.
pub cost_parts : (bodies : BodyCosts) (t : Terms) → costs bodies t ≡ size t + bodies_cost bodies t
unfolding bodies_cost costs size
cost_parts bodies none = omega arith
cost_parts bodies (tree l ops rest) = omega (arith, cost_parts bodies ops, cost_parts bodies rest)

-- The bodies of two forests, joined.
pub bodies_join : (bodies : BodyCosts) (a b : Terms) → bodies_cost bodies (join a b) ≡ bodies_cost bodies a + bodies_cost bodies b
unfolding bodies_cost join
bodies_join bodies none b = omega arith
bodies_join bodies (tree l ops rest) b = omega (arith, bodies_join bodies rest b)

-- A tree costs something.
pub cost_some : (bodies : BodyCosts) (l : Label) (ops rest : Terms) → 1 ≤ costs bodies (tree l ops rest)
unfolding costs
cost_some bodies l ops rest = omega arith

-- What is held of a cost, and 1, added to a sum.
add_held : (s c : ℕ) {h a r : ℕ} → h ≡ held c → 1 ≤ c → a ≡ min (s + h) (2 ^ 64 - 1) → r ≡ min (a + 1) (2 ^ 64 - 1) → r ≡ min (s + c) (2 ^ 64 - 1)
add_held s c e l p q = omega arith

-- More, added to a sum that is held.
add_more : (s c x : ℕ) {r : ℕ} → r ≡ min (s + c) (2 ^ 64 - 1) → min (s + (c + x)) (2 ^ 64 - 1) ≡ min (r + x) (2 ^ 64 - 1)
add_more s c x e = omega arith

-- A sum to which what is held of a body's cost is added, and 1, has that body's cost more.
pub sum_more : (s c x : ℕ) {h a r : ℕ} → h ≡ held c → 1 ≤ c → a ≡ min (s + h) (2 ^ 64 - 1) → r ≡ min (a + 1) (2 ^ 64 - 1)
    → min (s + (c + x)) (2 ^ 64 - 1) ≡ min (r + x) (2 ^ 64 - 1)
sum_more s c x e l p q = add_more s c x (add_held s c e l p q)
