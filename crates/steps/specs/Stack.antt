-- The stack controller (E11): what each step does, and how a list of steps ends. A stack is a list of values, the newest first.
use Rattle.std.specs.Prelude.{ℕ, ◌+◌, ◌-◌, ◌/◌, Bool, cond, ◌&&◌, List, [], ◌∷◌, ◌++◌, Result, Ok, Err, eqb, leb, ltb, drop, get_or, length, take}
use Rattle.std.proofs.Math.Option.{Option, none as nothing, some}
use Rattle.forest.specs.Forest.{nodes_of, none, tree}
use Rattle.operators.specs.Operators.{operator_sort, operator_value}
use Rattle.operators.specs.Sorts.{max_width, values_of}
use Rattle.terms.specs.Labels.{Terms}
use Rattle.terms.specs.Values.{numbers_in, operator_gives, sorts_in, value}
use Rattle.terms.specs.declared.Value.{Value}
use Rattle.steps.specs.Steps.{apply_operator, is_extract, push_argument, push_constant}
use Rattle.steps.specs.declared.Refusal.{Refusal}
use Rattle.steps.specs.declared.Refusal.TheVariants.{BadArgument, BadStep}

-- "would put a 257th value on the stack": how many values it holds.
abbrev pub most_values : ℕ
most_values = 256

-- Whether a number is a value of a sort, "0 Bool, else a width to 64".
abbrev pub fits : (sort number : ℕ) → Bool
fits sort number = leb sort max_width && ltb number (values_of sort)

-- The stack with a value more; none where it is full.
abbrev pub pushed : (stack : List Value) → Value → Option (List Value)
pushed stack v = cond (ltb (length stack) most_values) (some (v ∷ stack)) nothing

-- Values in the other order.
unfoldable pub turned : List Value → List Value
turned [] = []
turned (v ∷ more) = turned more ++ v ∷ []

-- The stack with the value of an operator in the place of its operands, where it has one.
abbrev pub replaced : Option Value → (rest : List Value) → Option (List Value)
replaced nothing rest = nothing
replaced (some v) rest = some (v ∷ rest)

-- Operator o, with the numbers i and j of an `extract`, on the n newest values, the oldest of them the first operand: none where there are too few, or they are
-- not of the operator's sorts.
abbrev pub applied : (o i j n : ℕ) → (stack : List Value) → Option (List Value)
applied o i j n stack =
    let vs = turned (take n stack) in
    cond (leb n (length stack))
    (replaced (operator_gives (operator_sort o i j (sorts_in vs)) (operator_value o i j (sorts_in vs) (numbers_in vs))) (drop n stack))
    nothing

-- One step of four numbers; none where it is "malformed .., finds too few or wrongly sorted operands, or would put a 257th value on the stack".
unfoldable pub step_on : (arguments : List Value) → (a b c d : ℕ) → (stack : List Value) → Option (List Value)
step_on arguments a b c d stack =
    cond (eqb a push_argument)
    (cond (ltb b (length arguments) && eqb c 0 && eqb d 0) (pushed stack (value (get_or (sorts_in arguments) b 0) (get_or (numbers_in arguments) b 0))) nothing)
    (cond (eqb a push_constant) (cond (fits c b && eqb d 0) (pushed stack (value c b)) nothing)
    (cond (eqb a apply_operator && is_extract b) (applied b c d 1 stack)
    (cond (eqb a apply_operator && eqb d 0) (applied b 0 0 c stack)
    nothing)))

-- How a list of steps ends: stopped at a step by its number, or with a stack.
pub data Ended : Type 0 where
  stopped : (step : ℕ) → Ended
  ended : (stack : List Value) → Ended

-- What comes after a step: it is refused, or the others follow.
abbrev pub go_on : (step : ℕ) → Option (List Value) → (List Value → Ended) → Ended
go_on step nothing later = stopped step
go_on step (some stack) later = later stack

-- The steps from number k on, four numbers each; one that is "cut short" is refused.
unfoldable pub run_from : (arguments : List Value) → (k : ℕ) → (steps : List ℕ) → (stack : List Value) → Ended
run_from arguments k [] stack = ended stack
run_from arguments k (a ∷ []) stack = stopped k
run_from arguments k (a ∷ b ∷ []) stack = stopped k
run_from arguments k (a ∷ b ∷ c ∷ []) stack = stopped k
run_from arguments k (a ∷ b ∷ c ∷ d ∷ more) stack =
    let later : List Value → Ended = λ (next : List Value). run_from arguments (k + 1) more next in
    go_on k (step_on arguments a b c d stack) later

-- The first index from n on at which a sort is none, or the number no value of it; past the last where there is none.
unfoldable pub first_bad : (n : ℕ) → (sorts numbers : List ℕ) → ℕ
first_bad n [] numbers = n
first_bad n (s ∷ sorts) [] = n
first_bad n (s ∷ sorts) (v ∷ numbers) = cond (fits s v) (first_bad (n + 1) sorts numbers) n

-- Numbers as values of the sorts given along.
unfoldable pub as_values : (sorts numbers : List ℕ) → List Value
as_values [] numbers = []
as_values (s ∷ sorts) [] = []
as_values (s ∷ sorts) (v ∷ numbers) = value s v ∷ as_values sorts numbers

-- What running a list of steps gives: one value, or a refusal.
abbrev pub Ran : Type 0
Ran = Result Value Refusal

-- The number of the answer: 0 for a value, "answer 19" and "answer 20" for the refusals.
abbrev pub number_of : Ran → ℕ
number_of (Ok v) = 0
number_of (Err (BadStep k)) = 19
number_of (Err (BadArgument k)) = 20

-- Its place.
abbrev pub place_of : Ran → ℕ
place_of (Ok v) = 0
place_of (Err (BadStep k)) = k
place_of (Err (BadArgument k)) = k

-- Its value, which is 0 of sort 0 after a refusal.
abbrev pub value_of : Ran → Value
value_of (Ok v) = v
value_of (Err e) = value 0 0

-- "A list that ends with anything but one value is answer 19 at its length", which is counted in steps.
abbrev pub ended_with : (length : ℕ) → Ended → Ran
ended_with n (stopped k) = Err (BadStep k)
ended_with n (ended []) = Err (BadStep n)
ended_with n (ended (v ∷ [])) = Ok v
ended_with n (ended (v ∷ u ∷ more)) = Err (BadStep n)

-- The runner: "with answer 20 arguments of wrong count or range for the list of sorts given along .., tested before the steps", "20 the first bad index
-- (argument count if counts differ)"; then "answer 19 at the first step that is malformed or cut short ..".
unfoldable pub ran : (sorts arguments steps : List ℕ) → Ran
ran sorts arguments steps =
    cond (eqb (length sorts) (length arguments))
    (cond (ltb (first_bad 0 sorts arguments) (length arguments)) (Err (BadArgument (first_bad 0 sorts arguments)))
    (ended_with (length steps / 4) (run_from (as_values sorts arguments) 0 steps [])))
    (Err (BadArgument (length arguments)))

-- How many nodes terms have.
abbrev pub node_count : Terms → ℕ
node_count t = length (nodes_of t)

-- "the finished subterms whose parent is not finished, oldest lowest", after n steps: the oldest first. A subterm is finished when the step of its own node is
-- done; its steps stand together, as many as it has nodes.
unfoldable pub finished : (n : ℕ) → Terms → List Terms
finished n none = []
finished n (tree l ops rest) =
    let here = node_count (tree l ops none) in
    cond (leb here n) (tree l ops none ∷ finished (n - here) rest) (finished n ops)
