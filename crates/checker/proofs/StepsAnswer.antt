-- The answer of the list of steps, from the checker's own answer and the steps of the function's body.
use Prim.Native.Nat.{ℕ, zero, suc}
use native.Mathlib.Omega.{arith}
use mathlib.Core.Path.{◌≡◌, refl, sym, ap, subst, ◌∙◌}
use mathlib.Core.Bool.{Bool, true, false}
use mathlib.Core.List.{List}
use borrow.Author.Tests.{eqb-true, eqb-false}
use lib.Dec.{eqb}
use lib.ListN.{length}
use Rattle.forest.specs.Limits.{area_size}
use Rattle.words.specs.Limits.{response_limits}
use Rattle.words.specs.declared.Limits.{Limits}
use Rattle.script.specs.Script.{Known}
use Rattle.script.specs.Response.{Body}
use Rattle.script.specs.Outcome.{given, response_outcome, said, script_outcome}
use Rattle.script.specs.code.Answers.{points_answer}
use Rattle.outcome.specs.Accepted.{Declined}
use Rattle.outcome.specs.Checked.{Checked, judged, missized, refusal}
use Rattle.outcome.specs.Demands.{BodiesDerived, Showing, accepted, showing}
use Rattle.outcome.specs.Derived.{blank_area, no_totals}
use Rattle.outcome.specs.Located.{located, unlocated}
use Rattle.outcome.specs.StepList.{AcceptedFor, StepList, area_missized, listed, no_function, not_accepted, step_numbers, step_refusal, uses_define}
use Rattle.outcome.specs.declared.Answer.{Answer}
use Rattle.outcome.specs.declared.Location.{Location}
use Rattle.outcome.specs.declared.Outcome.{Outcome}
use Rattle.outcome.specs.declared.Weighed.{Weighed}
use Rattle.outcome.proofs.Areas.{blank_long, unshown_blank}
use Rattle.outcome.proofs.Exact.{exact}
use Rattle.both_texts.specs.code.Both.{Lent}
use Rattle.accepting.specs.code.Bodies.{AllDerived, TextsAnswered}
use Rattle.accepting.specs.declared.TextsWeighed.{TextsWeighed}
use Rattle.checker.specs.code.Judge.{Judgeable, PointsJudged}
use Rattle.checker.specs.code.Sizes.{SizesTold}
use Rattle.checker.specs.code.Stepping.{AnsweredAlone, AnsweredFrom, BodiesAnswered, BodySteps, HeldAnswer, ListGiven, TextsListed, applying, lacking}
use Rattle.checker.specs.code.Stepping.{written}
use Rattle.checker.specs.declared.stepping.Listed.{Listed}
use Rattle.checker.proofs.Judgements.{AreaAfter, all_derive, declined_checked, evaluable}

-- an answer that speaks of no text
pub refused_is : {number place : ℕ} {o : Outcome} {answer : Answer} → o ≡ refusal number 3 place → answer ≡ unlocated o
    → ◌≡◌ {A = Listed} (record { answer = answer; count = 0 }) (record { answer = step_refusal number place; count = 0 })
refused_is e is = rw (is, e)

-- an area that shows nothing is of its size
right_size : length blank_area ≡ area_size
right_size = blank_long

module _ {script response points names places nodes : List ℕ} {o : Outcome} (sizes : SizesTold script response points area_size o) {r : TextsWeighed} where
  -- a size is not right
  pub size_declined : (o.number ≡ 0 → ⊥) → r.weighed ≡ record { outcome = o; totals = no_totals } → BodiesAnswered script response points names places nodes r
  size_declined other e =
      record {
        all! = λ zero. absurd (other (sym (ap (λ (w : Weighed). w.outcome.number) e) ∙ zero));
        declined! = λ some budget.
            subst (λ (w : Weighed). Checked script response points budget blank_area w.outcome blank_area w.totals) (sym e)
            (subst (λ (shown : List ℕ). Checked script response points budget blank_area o shown no_totals) (unshown_blank blank_area right_size)
            (missized (sizes.refused other blank_area right_size)));
      }

  -- every size is, and the texts and their bodies are answered
  pub bodies_answered : {limits : Limits} {forms shown between : List ℕ} → o.number ≡ 0 → limits ≡ response_limits → shown ≡ blank_area
      → TextsAnswered limits script response names places nodes forms r between → length between ≡ length shown
      → BodiesAnswered script response points names places nodes r
  bodies_answered {limits} {forms} {shown} {between} none e blank told long =
      let sized = sizes.passes none blank_area right_size in
      record {
        all! = λ zero.
            record {
              forms = forms;
              shown = between;
              sized = sized;
              long = long ∙ ap length blank;
              all = subst (λ (l : Limits). AllDerived l script response names places nodes forms r.progress between r.weighed.totals) e (told.all! zero);
            };
        declined! = λ other budget.
            let declined = subst (λ (l : Limits). Declined l script response r.weighed.outcome) e (told.declined! other) in
            rw (told.unweighed! other) (declined_checked sized declined);
      }

module _ {script response points names places nodes : List ℕ} {told : TextsWeighed} (answered : BodiesAnswered script response points names places nodes told)
  where
    -- what the evaluation asks
    pub judgeable : Judgeable names places nodes told
    judgeable = record { evaluable! = λ z. evaluable (answered.all! z).all }

    module _ {budget : ℕ} {w : Weighed} (judged-so : PointsJudged names places nodes told points budget w) where
      -- an answer on the bodies stays
      stays : (told.weighed.outcome.number ≡ 0 → ⊥) → Checked script response points budget blank_area w.outcome blank_area w.totals
      stays other =
          subst (λ (x : Weighed). Checked script response points budget blank_area x.outcome blank_area x.totals) (sym (judged-so.declined! other))
          (answered.declined! other budget)

      module _ (zero : told.weighed.outcome.number ≡ 0) where
        -- the points, where every body is derived
        points_judged : {after : List ℕ} → AreaAfter w.outcome.number (answered.all! zero).shown after
            → Checked script response points budget blank_area w.outcome after w.totals
        points_judged area-after =
            let d = answered.all! zero in
            let passing = d.all.both.passing in
            judged (record { sized = d.sized; says = passing.says; gives = passing.gives })
            (all_derive d.all zero judged-so d.long area-after)

      module _ {l : Location} (carried : l ≡ located script response w.outcome) where
        -- the checker's own answer
        pub answered_from : AnsweredFrom script response points budget told (record { outcome = w.outcome; location = l; totals = w.totals })
        answered_from = go told.weighed.outcome.number refl
          where
            at : (zero : told.weighed.outcome.number ≡ 0) (b : Bool) → eqb w.outcome.number points_answer ≡ b
                → AnsweredAlone script response points budget (record { outcome = w.outcome; location = l; totals = w.totals })
            at z true e = record { shown = _; given = record { checked = points_judged z (record { bad! = λ n. refl; other! = λ other. absurd (other (eqb-true _ _ e)) }); carried = carried } }
            at z false e =
                record { shown = _; given = record { checked = points_judged z (record { bad! = λ n. absurd (eqb-false _ _ e n); other! = λ n. refl }); carried = carried } }

            go : (n : ℕ) → told.weighed.outcome.number ≡ n
                → AnsweredFrom script response points budget told (record { outcome = w.outcome; location = l; totals = w.totals })
            go zero e = record { alone = at e (eqb w.outcome.number points_answer) refl; derived! = λ z. e }
            go (suc n) e =
                let other : told.weighed.outcome.number ≡ 0 → ⊥ = λ z. absurd (omega arith) in
                record {
                  alone = record { shown = blank_area; given = record { checked = stays other; carried = carried } };
                  derived! = λ z. ap (λ (x : Weighed). x.outcome.number) (sym (judged-so.declined! other)) ∙ z;
                }

    -- what listing the steps asks
    abbrev pub held_answer : {budget : ℕ} {answer : Answer} {area : List ℕ} → AnsweredFrom script response points budget told answer
        → length area ≡ step_numbers → HeldAnswer places nodes told.progress answer area
    held_answer {budget} from sized =
        record {
          script = script;
          response = response;
          points = points;
          budget = budget;
          alone = from.alone;
          both! = λ z.
              let d = answered.all! (from.derived! z) in
              record { names = names; forms = d.forms; both = d.all.both };
          sized = sized;
        }

    -- the list of steps, from what listing them gives
    pub steps_given : {budget function : ℕ} {answer : Answer} {area after : List ℕ} {r : Listed} → AnsweredFrom script response points budget told answer
        → length area ≡ step_numbers → ListGiven places nodes told.progress answer function area r after
        → StepList script response points budget function area r.answer r.count after
    steps_given from sized list = list (held_answer from sized)

-- the tables that are lent, within limits that are those of a response
pub relent : {limits : Limits} {script response names places nodes forms : List ℕ} → limits ≡ response_limits
    → Lent response_limits script response names places nodes forms → Lent limits script response names places nodes forms
relent e tables = rw e tables

module _ {script response points : List ℕ} {budget : ℕ} where
  -- an area of another size
  pub wrong_size : {function : ℕ} {area : List ℕ} {r : Listed} → (length area ≡ step_numbers → ⊥)
      → r ≡ record { answer = step_refusal 17 (length area); count = 0 } → StepList script response points budget function area r.answer r.count area
  wrong_size other e = rw e (area_missized other)

  module _ {answer : Answer} (found : AnsweredAlone script response points budget answer) where
    -- a response that is not accepted
    pub declined : {function : ℕ} {area : List ℕ} → length area ≡ step_numbers → (answer.outcome.number ≡ 0 → ⊥)
        → StepList script response points budget function area answer 0 area
    declined sized other = not_accepted sized found.given other

    module _ (is_zero : answer.outcome.number ≡ 0) where
      -- both texts pass where it is accepted
      pub pass : BodiesDerived script response points blank_area
      pass = (exact found.given.checked).passed_derived (showing (subst Showing (sym is_zero) accepted))

      -- it is accepted with what they say and give
      as_accepted : {k : Known} {bs : List Body} → script_outcome script ≡ said k → response_outcome k response ≡ given bs
          → AcceptedFor script response points budget answer k bs
      as_accepted says gives =
          record {
            shown = found.shown;
            answered = found.given;
            zero = is_zero;
            passing = record { sized = pass.passing.sized; says = says; gives = gives };
          }

      module _ {function : ℕ} {area : List ℕ} (sized : length area ≡ step_numbers) {count : ℕ} {after : List ℕ}
          (texts : TextsListed script response function area after count) where
        -- no steps are written
        pub unlisted : {r : Listed} → count ≡ 0 → r ≡ record { answer = step_refusal 18 function; count = 0 }
            → StepList script response points budget function area r.answer r.count after
        unlisted none e = rw e (go none texts.steps)
          where
            go : {n : ℕ} {last : List ℕ} → n ≡ 0 → BodySteps texts.known texts.bodies function area n last
                → StepList script response points budget function area (step_refusal 18 function) 0 last
            go z (lacking past) = no_function sized (as_accepted texts.says texts.gives) past
            go z (applying at uses) = uses_define sized (as_accepted texts.says texts.gives) at uses
            go z (written at none_used some) = absurd (omega arith)

        -- or some are
        pub is_listed : (count ≡ 0 → ⊥) → StepList script response points budget function area answer count after
        is_listed some = go some texts.steps
          where
            go : {n : ℕ} {last : List ℕ} → (n ≡ 0 → ⊥) → BodySteps texts.known texts.bodies function area n last
                → StepList script response points budget function area answer n last
            go s (lacking past) = absurd (s refl)
            go s (applying at uses) = absurd (s refl)
            go s (written at none_used more) = listed sized (as_accepted texts.says texts.gives) at none_used
