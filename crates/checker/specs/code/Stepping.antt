-- What the functions that list the steps of an accepted body ask and give.
use Rattle.std.specs.Prelude.{ℕ, ◌≤◌, ◌<◌, true, false, List, ◌≡◌, length}
use Rattle.std.proofs.Math.Option.{none as nothing}
use Rattle.std.proofs.lemmas.List.Edits.{sets}
use Rattle.words.specs.Limits.{response_limits}
use Rattle.terms.specs.Labels.{Terms}
use Rattle.steps.specs.Stack.{node_count}
use Rattle.steps.specs.Steps.{steps_of, uses_defined}
use Rattle.names.specs.Scopes.{Function}
use Rattle.script.specs.Script.{Known}
use Rattle.script.specs.declared.Progress.{Progress}
use Rattle.script.specs.Response.{Body, in_script_order}
use Rattle.script.specs.Outcome.{given, response_outcome, said, script_outcome}
use Rattle.outcome.specs.Checked.{Checked, size_answer}
use Rattle.outcome.specs.Derived.{blank_area, terms_of}
use Rattle.outcome.specs.Located.{AnswerGiven}
use Rattle.outcome.specs.StepList.{FunctionAt, StepList, step_numbers}
use Rattle.outcome.specs.declared.Answer.{Answer}
use Rattle.outcome.specs.code.Held.{Held}
use Rattle.both_texts.specs.code.Both.{BothHeld}
use Rattle.accepting.specs.code.Bodies.{AllDerived}
use Rattle.accepting.specs.declared.TextsWeighed.{TextsWeighed}
use Rattle.checker.specs.declared.stepping.Listed.{Listed}

-- The checker's own answer, in an area of its own.
pub record AnsweredAlone (script response points : List ℕ) (budget : ℕ) (answer : Answer) : Type 0 where
  pub shown : List ℕ
  pub given : AnswerGiven script response points budget blank_area answer shown

-- Every body is derived: the tables hold both texts, and some area of right size shows how.
pub record DerivedAlone (script response points names places nodes : List ℕ) (r : TextsWeighed) : Type 0 where
  pub forms : List ℕ
  pub shown : List ℕ
  pub sized : size_answer script response points blank_area ≡ nothing
  pub long : length shown ≡ length blank_area
  pub all : AllDerived response_limits script response names places nodes forms r.progress shown r.weighed.totals

-- Where the number is 0 they are; where it is another it is the checker's own answer, whatever the budget.
pub record BodiesAnswered (script response points names places nodes : List ℕ) (r : TextsWeighed) : Type 0 where
  pub all! : r.weighed.outcome.number ≡ 0 → DerivedAlone script response points names places nodes r
  pub declined! : (r.weighed.outcome.number ≡ 0 → ⊥) → (budget : ℕ)
      → Checked script response points budget blank_area r.weighed.outcome blank_area r.weighed.totals

-- The checker's own answer, which is 0 only where every body is derived.
pub record AnsweredFrom (script response points : List ℕ) (budget : ℕ) (told : TextsWeighed) (answer : Answer) : Type 0 where
  pub alone : AnsweredAlone script response points budget answer
  pub derived! : answer.outcome.number ≡ 0 → told.weighed.outcome.number ≡ 0

-- The tables hold a script and a response that pass, and the area is of its size.
pub record BodiesStand (places nodes : List ℕ) (p : Progress) (area : List ℕ) : Type 0 where
  pub text : List ℕ
  pub names : List ℕ
  pub forms : List ℕ
  pub known : Known
  pub bodies : List Body
  pub held : Held text names places nodes forms p known bodies
  pub sized : length area ≡ step_numbers

-- The steps of the body of a function, by its number: none are written where there is no such function or its body applies a `define-fun`; else they stand in
-- front of the area, and there is one at least.
pub data BodySteps (k : Known) (bs : List Body) (function : ℕ) (area : List ℕ) : (count : ℕ) → (areaAfter : List ℕ) → Type 0 where
  lacking : length (in_script_order k.functions) ≤ function → BodySteps k bs function area 0 area
  applying : {f : Function} {t : Terms} → FunctionAt (in_script_order k.functions) (terms_of bs) function f t → uses_defined t ≡ true
      → BodySteps k bs function area 0 area
  written : {f : Function} {t : Terms} → FunctionAt (in_script_order k.functions) (terms_of bs) function f t → uses_defined t ≡ false → 0 < node_count t
      → BodySteps k bs function area (node_count t) (sets area 0 (steps_of t))

-- The same, for whatever the tables hold.
abbrev pub BodyListed : (places nodes : List ℕ) → Progress → (function : ℕ) → (area areaAfter : List ℕ) → (r : ℕ) → Type 0
BodyListed places nodes p function area areaAfter r = (q : BodiesStand places nodes p area) → BodySteps q.known q.bodies function area r areaAfter

-- The steps of the body of a function of texts that pass.
pub record TextsListed (script response : List ℕ) (function : ℕ) (area areaAfter : List ℕ) (r : ℕ) : Type 0 where
  pub known : Known
  pub bodies : List Body
  pub says : script_outcome script ≡ said known
  pub gives : response_outcome known response ≡ given bodies
  pub steps : BodySteps known bodies function area r areaAfter

-- The tables hold the two texts.
pub record BothStand (script response places nodes : List ℕ) (p : Progress) : Type 0 where
  pub names : List ℕ
  pub forms : List ℕ
  pub both : BothHeld response_limits script response names places nodes forms p

-- The checker's own answer on two texts, which the tables hold where it is 0; the area is of its size.
pub record HeldAnswer (places nodes : List ℕ) (p : Progress) (found : Answer) (area : List ℕ) : Type 0 where
  pub script : List ℕ
  pub response : List ℕ
  pub points : List ℕ
  pub budget : ℕ
  pub alone : AnsweredAlone script response points budget found
  pub both! : found.outcome.number ≡ 0 → BothStand script response places nodes p
  pub sized : length area ≡ step_numbers

-- The list of steps of these texts.
abbrev pub ListGiven : (places nodes : List ℕ) → Progress → (found : Answer) → (function : ℕ) → (area : List ℕ) → Listed → (areaAfter : List ℕ) → Type 0
ListGiven places nodes p found function area r areaAfter =
    (q : HeldAnswer places nodes p found area)
    → StepList q.script q.response q.points q.budget function area r.answer r.count areaAfter
