-- The verdict on texts of right sizes, from the answer on them and their bodies and from that on the points.
use Rattle.std.specs.Prelude.{Result, Ok, Err}
use Prim.Native.Nat.{ℕ, zero, suc}
use native.Mathlib.Omega.{arith}
use mathlib.Core.Path.{◌≡◌, refl, sym, ap, subst, ◌∙◌}
use mathlib.Core.Bool.{Bool, true, false}
use mathlib.Core.List.{List}
use mathlib.Core.Option.{none as nothing}
use borrow.Author.Tests.{eqb-false, eqb-true}
use lib.Dec.{eqb}
use lib.ListN.{length}
use Rattle.words.specs.Limits.{response_limits}
use Rattle.words.specs.declared.Limits.{Limits}
use Rattle.evaluation.specs.Points.{points_of}
use Rattle.names.specs.Scopes.{named_sorts}
use Rattle.script.specs.declared.Progress.{Progress}
use Rattle.script.specs.Outcome.{given, response_within}
use Rattle.script.specs.code.Answers.{points_answer}
use Rattle.outcome.specs.Accepted.{Declined}
use Rattle.outcome.specs.Checked.{Checked, Judgement, judged, size_answer, unshown}
use Rattle.outcome.specs.Demands.{Showing}
use Rattle.outcome.specs.Derived.{blank_area, no_totals, terms_of}
use Rattle.outcome.specs.Evaluated.{ran_with}
use Rattle.outcome.specs.declared.Outcome.{Outcome}
use Rattle.outcome.specs.declared.Weighed.{Weighed}
use Rattle.outcome.proofs.Areas.{blank_long, unshown_blank}
use Rattle.outcome.proofs.Stages.{not_showing, run_showing}
use Rattle.verdicts.specs.code.Evaluate.{Evaluable, Evaluates, points_outcome}
use Rattle.accepting.specs.code.Bodies.{AllDerived, TextsAnswered}
use Rattle.accepting.specs.declared.TextsWeighed.{TextsWeighed}
use Rattle.checker.specs.code.Judge.{Judgeable, Judging, PointsJudged}

-- Texts of right sizes that are declined: the checker's answer is the same, and its area shows nothing.
pub declined_checked : {script response points area : List ℕ} {budget : ℕ} {o : Outcome} → size_answer script response points area ≡ nothing
    → Declined response_limits script response o → Checked script response points budget area o blank_area no_totals
declined_checked sized (Declined.texts_refused t) = Checked.texts_refused sized t
declined_checked sized (Declined.underived p u) = judged (record { sized = sized; says = p.says; gives = p.gives }) (Judgement.underived u)

-- What stands in the area after the points are answered: nothing after 16, after any other answer what stood there.
pub record AreaAfter (number : ℕ) (area after : List ℕ) : Type 0 where
  pub bad! : number ≡ points_answer → after ≡ unshown area
  pub other! : (number ≡ points_answer → ⊥) → after ≡ area

-- An area that shows nothing stays so.
blank_stays : {number : ℕ} {area after : List ℕ} → area ≡ blank_area → AreaAfter number area after → after ≡ blank_area
blank_stays {number} {area} {after} blank x = go (eqb number points_answer) refl
  where
    go : (b : Bool) → eqb number points_answer ≡ b → after ≡ blank_area
    go true e = x.bad! (eqb-true _ _ e) ∙ unshown_blank area (ap length blank ∙ blank_long)
    go false e = x.other! (eqb-false _ _ e) ∙ blank

-- what the evaluation asks
abbrev pub evaluable : {limits : Limits} {script response names places nodes forms between weights : List ℕ} {p : Progress}
    → AllDerived limits script response names places nodes forms p between weights → Evaluable names places nodes p
evaluable {response = response} {forms = forms} all =
    record { text = response; forms = forms; known = all.both.known; bodies = all.both.bodies; held = all.both.held }

module _ {limits : Limits} {script response names places nodes forms between points : List ℕ} {budget : ℕ} {told : TextsWeighed} {w : Weighed}
    (all : AllDerived limits script response names places nodes forms told.progress between told.weighed.totals)
    (zero-told : told.weighed.outcome.number ≡ 0) (answer : PointsJudged names places nodes told points budget w) where
  -- every body is derived, and the points are answered; after 16 the totals are 0
  pub all_derive : {after : List ℕ} → length between ≡ length blank_area → AreaAfter w.outcome.number between after
      → Judgement response all.both.known all.both.bodies points budget w.outcome after w.totals
  all_derive {after} long area-after =
      go (points_of (named_sorts all.both.known.variables) points) refl (answer.given! zero-told (evaluable all))
    where
      go : (found : Result ℕ ℕ) → points_of (named_sorts all.both.known.variables) points ≡ found
          → w.outcome ≡ points_outcome all.both.known (terms_of all.both.bodies) points budget found
          → Judgement response all.both.known all.both.bodies points budget w.outcome after w.totals
      go (Err place) found f =
          let sixteen = ap (λ (x : Outcome). x.number) f in
          let blank = area-after.bad! sixteen ∙ unshown_blank between (long ∙ blank_long) in
          let nothing = answer.bad! zero-told sixteen in
          rw (f, blank, nothing) (Judgement.points_refused all.accepted.shown found)
      go (Ok m) found f =
          let shows = run_showing budget (ran_with all.both.known (terms_of all.both.bodies) points m budget) in
          let shown = subst Showing (sym (ap (λ (x : Outcome). x.number) f)) shows in
          let other : w.outcome.number ≡ points_answer → ⊥ = λ n. not_showing (omega arith, omega arith, omega arith) shown in
          let same = area-after.other! other ∙ all.area_is in
          let weigh = answer.other! zero-told other ∙ all.weigh in
          rw (f, same, weigh) (Judgement.evaluated all.accepted.shown found)

module _ {limits : Limits} {script response points area names places nodes forms between : List ℕ} {told : TextsWeighed} (e : limits ≡ response_limits)
    (sizes : Judging script response points area) (texts : TextsAnswered limits script response names places nodes forms told between) where
  -- what the points are asked for
  pub to_judge : Judgeable names places nodes told
  to_judge = record { evaluable! = λ z. evaluable (texts.all! z) }

  module _ {budget : ℕ} {w : Weighed} (answer : PointsJudged names places nodes told points budget w) {after : List ℕ}
      (area-after : AreaAfter w.outcome.number between after) where
    -- a text that is refused, or a body without a derivation
    declined : (told.weighed.outcome.number ≡ 0 → ⊥) → Checked script response points budget area w.outcome after w.totals
    declined other =
        let refused = subst (λ (l : Limits). Declined l script response told.weighed.outcome) e (texts.declined! other) in
        let blank = blank_stays (texts.blanked! other) area-after in
        rw (answer.declined! other, blank, texts.unweighed! other) (declined_checked sizes.sized refused)

    -- the points, where every body is derived
    derived : told.weighed.outcome.number ≡ 0 → length between ≡ length area → Checked script response points budget area w.outcome after w.totals
    derived none long =
        let all = texts.all! none in
        let p = all.both.passing in
        let gives = subst (λ (l : Limits). response_within l all.both.known response ≡ given all.both.bodies) e p.gives in
        judged (record { sized = sizes.sized; says = p.says; gives = gives })
        (all_derive all none answer (long ∙ ap length sizes.blank) area-after)

    -- the checker's answer
    pub judged_checked : length between ≡ length area → Checked script response points budget area w.outcome after w.totals
    judged_checked long = go told.weighed.outcome.number refl
      where
        go : (n : ℕ) → told.weighed.outcome.number ≡ n → Checked script response points budget area w.outcome after w.totals
        go zero z = derived z long
        go (suc n) s = declined (λ z. absurd (omega arith))

-- the constraints may be evaluated
pub to_evaluate : {names places nodes : List ℕ} {told : TextsWeighed} → Judgeable names places nodes told → told.weighed.outcome.number ≡ 0
    → Evaluable names places nodes told.progress
to_evaluate held none = held.evaluable! none

module _ {names places nodes points : List ℕ} {told : TextsWeighed} {budget : ℕ} where
  -- an answer on the bodies
  pub judge_stays : (told.weighed.outcome.number ≡ 0 → ⊥) → PointsJudged names places nodes told points budget told.weighed
  judge_stays other =
      record { declined! = λ o. refl; given! = λ z. absurd (other z); bad! = λ z. absurd (other z); other! = λ z. absurd (other z) }

  module _ (none : told.weighed.outcome.number ≡ 0) where
    module _ {found : Outcome} (run : Evaluates names places nodes told.progress points budget found) where
      -- 16
      pub judge_16 : {w : Weighed} → found.number ≡ points_answer → w ≡ record { outcome = found; totals = no_totals }
          → PointsJudged names places nodes told points budget w
      judge_16 bad e =
          rw e (record { declined! = λ o. absurd (o none); given! = λ z. run; bad! = λ z n. refl; other! = λ z o. absurd (o bad) })

      -- what the run gives
      pub judge_run : (found.number ≡ points_answer → ⊥)
          → PointsJudged names places nodes told points budget (record { outcome = found; totals = told.weighed.totals })
      judge_run other =
          record { declined! = λ o. absurd (o none); given! = λ z. run; bad! = λ z n. absurd (other n); other! = λ z o. refl }
