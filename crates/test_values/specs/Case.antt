-- A small case: a `define-fun`, a synthesized function, two constraints, an assumption and two points, all of 8 bits.
use Rattle.std.specs.Prelude.{ℕ, ◌+◌, ◌*◌, List, [], ◌∷◌, replicate, set, take}
use Rattle.forest.specs.Forest.{none, tree}
use Rattle.forest.specs.Limits.{most_nodes}
use Rattle.terms.specs.Labels.{Terms, defined, function, literal, name, operator}
use Rattle.terms.specs.Sorts.{Definition}
use Rattle.evaluation.specs.code.Running.{stated_terms}
use Rattle.evaluation.specs.declared.Ran.{Ran}
use Rattle.evaluation.specs.declared.Ran.TheVariants.{Ended, False, Passed}

-- The name x, and the terms that follow it.
abbrev pub x : Terms → Terms
x rest = tree (name 8 0) none rest

-- "`d0` = (bvadd x x)"
abbrev pub d0 : Definition
d0 = record { signature = record { arguments = 8 ∷ []; result = 8 }; body = tree (operator 13 0 0) (x (x none)) none }

-- The function f0, whose body applies d0 twice.
abbrev pub f0 : Definition
f0 = record { signature = record { arguments = 8 ∷ []; result = 8 }; body = tree (defined 0) (tree (defined 0) (x none) none) none }

-- (= (f0 x) (bvshl x #x02))
abbrev pub shifted : Terms
shifted = tree (operator 5 0 0) (tree (function 0) (x none) (tree (operator 18 0 0) (x (tree (literal 8 2) none none)) none)) none

-- (bvult (f0 x) #x80)
abbrev pub small : Terms
small = tree (operator 20 0 0) (tree (function 0) (x none) (tree (literal 8 128) none none)) none

-- The terms of the case, one after the other.
abbrev pub all : Terms
all =
    tree (operator 13 0 0) (x (x none))
    (tree (defined 0) (tree (defined 0) (x none) none)
    (tree (operator 5 0 0) (tree (function 0) (x none) (tree (operator 18 0 0) (x (tree (literal 8 2) none none)) none))
    (tree (operator 20 0 0) (tree (function 0) (x none) (tree (literal 8 128) none none)) none)))

-- The `define-fun`s.
abbrev pub defs : List Definition
defs = d0 ∷ []

-- The synthesized functions.
abbrev pub funs : List Definition
funs = f0 ∷ []

-- The constraints.
abbrev pub constraints : List Terms
constraints = shifted ∷ small ∷ []

-- None, or the second constraint, as assumptions.
abbrev pub assumed : (n : ℕ) → List Terms
assumed n = take n (small ∷ [])

-- The nodes at which the constraints and the assumption begin, each at its number.
abbrev pub places : List ℕ
places = set (replicate stated_terms 12) 0 6

-- The sorts of the variables.
abbrev pub sorts : List ℕ
sorts = 8 ∷ []

-- The points x = 3 and x = 33.
abbrev pub numbers : List ℕ
numbers = 3 ∷ 33 ∷ []

-- The number of the answer that a run leads to: "0 accepted", "14 constraint false", "15 budget ended".
abbrev pub answer_of : Ran → ℕ
answer_of (Passed left) = 0
answer_of (False p k left) = 14
answer_of (Ended p k left) = 15

-- How many values a stack has for x, for the nodes of the first constraint and for those of two bodies.
abbrev pub room : ℕ
room = 1 + 6 + 2 * most_nodes
