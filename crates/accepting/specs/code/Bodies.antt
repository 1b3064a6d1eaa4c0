-- What the answer on two texts and their bodies asks and gives.
use Rattle.std.specs.Prelude.{ℕ, List, ◌≡◌}
use Rattle.words.specs.declared.Limits.{Limits}
use Rattle.script.specs.declared.Progress.{Progress}
use Rattle.script.specs.Response.{Body, in_script_order}
use Rattle.script.specs.Outcome.{offset_of}
use Rattle.script.specs.code.Answers.{underived_answer}
use Rattle.outcome.specs.Accepted.{Accepted, Declined}
use Rattle.outcome.specs.Derived.{FirstUnderived, blank_area, no_totals, shown_area, totals}
use Rattle.outcome.specs.code.Texts.{response_text}
use Rattle.outcome.specs.declared.Weighed.{Weighed}
use Rattle.both_texts.specs.code.Both.{BothHeld}
use Rattle.verdicts.specs.code.Derive.{AllShown, Derivable}
use Rattle.accepting.specs.declared.TextsWeighed.{TextsWeighed}

-- 13: function j is the first whose grammar derives its body by no list of rules; the answer names the function and the place of the body's first word, the
-- area shows nothing, and the totals are 0.
pub record BodyUnderived {places nodes forms area : List ℕ} {p : Progress} (q : Derivable places nodes forms p area no_totals) (r : Weighed)
    (areaAfter : List ℕ) : Type 0 where
  pub j : ℕ
  pub body : Body
  pub first : FirstUnderived (in_script_order q.known.functions) q.bodies j body
  pub answer : r.outcome ≡ record { number = underived_answer; text = response_text; place = offset_of q.text body.first; second = j; units = 0 }
  pub blanked : areaAfter ≡ blank_area
  pub unweighed : r.totals ≡ no_totals

-- Where the number is 0 every body is derived, the area shows how, and the totals say what each list weighs; where it is another it is 13.
pub record Sought {places nodes forms area : List ℕ} {p : Progress} (q : Derivable places nodes forms p area no_totals) (r : Weighed)
    (areaAfter : List ℕ) : Type 0 where
  pub all! : r.outcome.number ≡ 0 → AllShown q areaAfter r.totals
  pub one! : (r.outcome.number ≡ 0 → ⊥) → BodyUnderived q r areaAfter

-- The answer on the bodies that the tables hold.
abbrev pub BodiesDerived : (places nodes forms : List ℕ) → Progress → (area : List ℕ) → Weighed → (areaAfter : List ℕ) → Type 0
BodiesDerived places nodes forms p area r areaAfter = (q : Derivable places nodes forms p area no_totals) → Sought q r areaAfter

-- Both texts are accepted: the tables hold them, the area shows the least derivation of each body, and the totals say what these weigh.
pub record AllDerived (limits : Limits) (script response names places nodes forms : List ℕ) (p : Progress) (areaAfter weights : List ℕ) : Type 0 where
  pub both : BothHeld limits script response names places nodes forms p
  pub lists : List (List ℕ)
  pub accepted : Accepted limits script response both.known both.bodies lists
  pub area_is : areaAfter ≡ shown_area lists
  pub weigh : weights ≡ totals (in_script_order both.known.functions) lists

-- Where the number is 0 they are; where it is another the answer declines them, the area shows nothing, and the totals are 0.
pub record TextsAnswered (limits : Limits) (script response names places nodes forms : List ℕ) (r : TextsWeighed) (areaAfter : List ℕ) : Type 0 where
  pub all! : r.weighed.outcome.number ≡ 0
      → AllDerived limits script response names places nodes forms r.progress areaAfter r.weighed.totals
  pub declined! : (r.weighed.outcome.number ≡ 0 → ⊥) → Declined limits script response r.weighed.outcome
  pub blanked! : (r.weighed.outcome.number ≡ 0 → ⊥) → areaAfter ≡ blank_area
  pub unweighed! : (r.weighed.outcome.number ≡ 0 → ⊥) → r.weighed.totals ≡ no_totals
