-- Steps for a small stack controller (E11), and the list of steps of a body.
use Rattle.std.specs.Prelude.{ℕ, Bool, true, false, cond, ◌||◌, List, [], ◌∷◌, ◌++◌, eqb}
use Rattle.forest.specs.Forest.{count, none, tree}
use Rattle.forest.specs.Lists.{spelling}
use Rattle.operators.specs.Operators.{operator_of}
use Rattle.terms.specs.Labels.{Label, Terms, defined, function, literal, name, operator}

-- "push argument is 1"
abbrev pub push_argument : ℕ
push_argument = 1

-- "push constant 2"
abbrev pub push_constant : ℕ
push_constant = 2

-- "apply 3"
abbrev pub apply_operator : ℕ
apply_operator = 3

-- Whether an operator is `(_ extract i j)`.
abbrev pub is_extract : (o : ℕ) → Bool
is_extract o = eqb o (operator_of (spelling "extract"))

-- "each four numbers, unused ones 0: push argument is 1, its number; push constant 2, value, width (0 Bool); apply 3, operator's number in the table, operand
-- count (extract: i, j)". The application of a `define-fun` is no step: "A body using a `define-fun` .. gets answer 18"; a body applies no synthesized
-- function.
abbrev pub step_of : Label → (operands : ℕ) → List ℕ
step_of (name s k) n = push_argument ∷ k ∷ 0 ∷ 0 ∷ []
step_of (literal s v) n = push_constant ∷ v ∷ s ∷ 0 ∷ []
step_of (operator o i j) n = apply_operator ∷ o ∷ cond (is_extract o) i n ∷ cond (is_extract o) j 0 ∷ []
step_of (defined k) n = []
step_of (function k) n = []

-- "as many steps as the body has nodes, operands in order, operator after them"
unfoldable pub steps_of : Terms → List ℕ
steps_of none = []
steps_of (tree l ops rest) = steps_of ops ++ step_of l (count ops) ++ steps_of rest

-- Whether a label applies a function of the script.
abbrev pub is_applied : Label → Bool
is_applied (defined k) = true
is_applied (function k) = true
is_applied (literal s v) = false
is_applied (name s k) = false
is_applied (operator o i j) = false

-- "A body using a `define-fun`".
unfoldable pub uses_defined : Terms → Bool
uses_defined none = false
uses_defined (tree l ops rest) = is_applied l || uses_defined ops || uses_defined rest
