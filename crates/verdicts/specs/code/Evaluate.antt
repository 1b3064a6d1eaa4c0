-- What the evaluation of a script and a response asks and gives.
use Rattle.std.specs.Prelude.{ℕ, List, ◌≡◌, Result, Ok, Err}
use Rattle.terms.specs.Labels.{Terms}
use Rattle.evaluation.specs.Points.{points_of}
use Rattle.evaluation.specs.declared.Run.{Run}
use Rattle.names.specs.Scopes.{named_sorts}
use Rattle.script.specs.Script.{Known}
use Rattle.script.specs.declared.Progress.{Progress}
use Rattle.script.specs.Response.{Body}
use Rattle.script.specs.code.Answers.{points_answer}
use Rattle.outcome.specs.code.Texts.{points_text}
use Rattle.outcome.specs.code.Held.{Held}
use Rattle.outcome.specs.Derived.{terms_of}
use Rattle.outcome.specs.Evaluated.{ran_with, run_outcome}
use Rattle.outcome.specs.declared.Outcome.{Outcome}

-- 16: "point list not whole points, or value outside its sort", at "list length, or first bad index"; else what the run gives.
abbrev pub points_outcome : Known → List Terms → (points : List ℕ) → (budget : ℕ) → Result ℕ ℕ → Outcome
points_outcome k ts points budget (Err place) = record { number = points_answer; text = points_text; place = place; second = 0; units = 0 }
points_outcome k ts points budget (Ok n) = run_outcome budget (ran_with k ts points n budget)

-- What the points give.
abbrev pub points_give : Known → List Terms → (points : List ℕ) → (budget : ℕ) → Outcome
points_give k ts points budget = points_outcome k ts points budget (points_of (named_sorts k.variables) points)

-- The tables hold a script and a response that pass.
pub record Evaluable (names places nodes : List ℕ) (p : Progress) : Type 0 where
  pub text : List ℕ
  pub forms : List ℕ
  pub known : Known
  pub bodies : List Body
  pub held : Held text names places nodes forms p known bodies

-- The answer is what the points give.
abbrev pub Evaluates : (names places nodes : List ℕ) → Progress → (points : List ℕ) → (budget : ℕ) → Outcome → Type 0
Evaluates names places nodes p points budget r =
    (q : Evaluable names places nodes p) → r ≡ points_give q.known (terms_of q.bodies) points budget

-- The tables hold a script and a response that pass, and a list of numbers is points of the script's variables, which have these sorts.
pub record Constrained (places nodes : List ℕ) (p : Progress) (sorts points : List ℕ) : Type 0 where
  pub names : List ℕ
  pub tables : Evaluable names places nodes p
  pub sorts_are : sorts ≡ named_sorts tables.known.variables
  pub count : ℕ
  pub good : points_of sorts points ≡ Ok count

-- The run is that of the script's constraints and assumptions, where its functions have the terms of the response for bodies.
abbrev pub StatedRan : (places nodes : List ℕ) → Progress → (sorts points : List ℕ) → (budget : ℕ) → Run → Type 0
StatedRan places nodes p sorts points budget r =
    (q : Constrained places nodes p sorts points) → r ≡ ran_with q.tables.known (terms_of q.tables.bodies) points q.count budget
