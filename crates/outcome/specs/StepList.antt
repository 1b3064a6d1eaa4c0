-- The list of steps of an accepted body (E11): which answer, how many steps, what stands in the lent area afterwards, and what running the list comes to.
use Rattle.std.specs.Prelude.{ℕ, zero, suc, ◌*◌, ◌≤◌, true, false, List, [], ◌∷◌, ◌≡◌, drop, length, take}
use Rattle.std.proofs.Math.Option.{some}
use Rattle.std.proofs.lemmas.List.Edits.{sets}
use Rattle.operators.specs.Sorts.{AllFit}
use Rattle.terms.specs.Labels.{Terms}
use Rattle.terms.specs.Values.{function_value, meaning_at}
use Rattle.steps.specs.Ends.{Stated, Body as Runnable}
use Rattle.steps.specs.Stack.{as_values, node_count}
use Rattle.steps.specs.Steps.{steps_of, uses_defined}
use Rattle.names.specs.Scopes.{Function, named_sorts}
use Rattle.script.specs.Script.{Known, definitions_of}
use Rattle.script.specs.Response.{Body, in_script_order}
use Rattle.outcome.specs.Checked.{Passing, refusal}
use Rattle.outcome.specs.Derived.{blank_area, no_totals, terms_of}
use Rattle.outcome.specs.Evaluated.{functions_with}
use Rattle.outcome.specs.Located.{AnswerGiven, answer_numbers, no_location}
use Rattle.outcome.specs.declared.Answer.{Answer}

-- "an area not of 1,024 64-bit numbers": how many it has to have.
abbrev pub step_numbers : ℕ
step_numbers = 1024

-- An answer of steps by its number and place: it speaks of no text, carries nothing, and no list is shown.
abbrev pub step_refusal : (number place : ℕ) → Answer
step_refusal number place = record { outcome = refusal number 3 place; location = no_location; totals = no_totals }

-- Function number j of functions in script order, and its body.
pub data FunctionAt : List Function → List Terms → (j : ℕ) → Function → Terms → Type 0 where
  here : {f : Function} {t : Terms} {fs : List Function} {ts : List Terms} → FunctionAt (f ∷ fs) (t ∷ ts) zero f t
  later : {f g : Function} {t u : Terms} {fs : List Function} {ts : List Terms} {j : ℕ} → FunctionAt fs ts j g u → FunctionAt (f ∷ fs) (t ∷ ts) (suc j) g u

-- "an accepted body": the checker's own answer for the texts, the points and the budget, in an area of its own, is 0.
pub record AcceptedFor (script response points : List ℕ) (budget : ℕ) (answer : Answer) (k : Known) (bs : List Body) : Type 0 where
  pub shown : List ℕ
  pub answered : AnswerGiven script response points budget blank_area answer shown
  pub zero : answer.outcome.number ≡ 0
  pub passing : Passing script response points blank_area k bs

-- "The list has as many steps as the body has nodes ..; the rest of the area stays as lent. A response not accepted is answered by its number, area
-- untouched. A body using a `define-fun`, or a function number the script lacks, gets answer 18 and an untouched area, as does an area not of 1,024 64-bit
-- numbers (answer 17, tested first)."
pub data StepList (script response points : List ℕ) (budget function : ℕ) (area : List ℕ) : Answer → (count : ℕ) → (areaAfter : List ℕ) → Type 0 where
  area_missized : (length area ≡ step_numbers → ⊥) → StepList script response points budget function area (step_refusal 17 (length area)) 0 area
  not_accepted : {answer : Answer} {shown : List ℕ} → length area ≡ step_numbers → AnswerGiven script response points budget blank_area answer shown
      → (answer.outcome.number ≡ 0 → ⊥) → StepList script response points budget function area answer 0 area
  no_function : {answer : Answer} {k : Known} {bs : List Body} → length area ≡ step_numbers → AcceptedFor script response points budget answer k bs
      → length (in_script_order k.functions) ≤ function → StepList script response points budget function area (step_refusal 18 function) 0 area
  uses_define : {answer : Answer} {k : Known} {bs : List Body} {f : Function} {t : Terms} → length area ≡ step_numbers
      → AcceptedFor script response points budget answer k bs → FunctionAt (in_script_order k.functions) (terms_of bs) function f t → uses_defined t ≡ true
      → StepList script response points budget function area (step_refusal 18 function) 0 area
  listed : {answer : Answer} {k : Known} {bs : List Body} {f : Function} {t : Terms} → length area ≡ step_numbers
      → AcceptedFor script response points budget answer k bs → FunctionAt (in_script_order k.functions) (terms_of bs) function f t → uses_defined t ≡ false
      → StepList script response points budget function area answer (node_count t) (sets area 0 (steps_of t))

-- What C is given: the answer's number, the sixteen numbers, the count of steps, and the area afterwards.
pub record StepsForC (script response points : List ℕ) (budget function : ℕ) (area : List ℕ) (number : ℕ) (numbers : List ℕ) (count : ℕ)
    (areaAfter : List ℕ) : Type 0 where
  pub answer : Answer
  pub answered : StepList script response points budget function area answer count areaAfter
  pub number_is : number ≡ answer.outcome.number
  pub numbers_are : numbers ≡ answer_numbers answer

-- "Running the list on any arguments of the right sorts ends with the body's value alone on the stack. After each step the stack holds exactly the values of
-- the finished subterms whose parent is not finished, oldest lowest." The body's value is what the function gives for these arguments in a constraint, and
-- its subterms have the values that they have there.
pub record Runs (k : Known) (bs : List Body) (function : ℕ) (f : Function) (t : Terms) (numbers : List ℕ) : Type 0 where
  pub body : Runnable (named_sorts f.arguments) numbers t
  pub meaning_is : body.meaning ≡ meaning_at (definitions_of k.defined) [] (as_values (named_sorts f.arguments) numbers)
  pub gives : function_value (definitions_of k.defined) (functions_with k (terms_of bs)) function (as_values (named_sorts f.arguments) numbers) ≡ some body.v
  pub stated : Stated body

-- What a list that is given is: the steps of the body of the function of that number, in front of an area whose rest is as lent, and what running them comes
-- to.
pub record ListStated (script response points : List ℕ) (function : ℕ) (area : List ℕ) (count : ℕ) (areaAfter : List ℕ) : Type 0 where
  pub k : Known
  pub bs : List Body
  pub f : Function
  pub t : Terms
  pub passing : Passing script response points blank_area k bs
  pub at : FunctionAt (in_script_order k.functions) (terms_of bs) function f t
  pub as_many : count ≡ node_count t
  pub list_is : take (4 * count) areaAfter ≡ steps_of t
  pub rest_is : drop (4 * count) areaAfter ≡ drop (4 * count) area
  pub runs : (numbers : List ℕ) → AllFit (named_sorts f.arguments) numbers → Runs k bs function f t numbers
