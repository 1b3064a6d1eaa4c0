-- The texts' own answer: there is one, and the checker's agrees with it.
use Prim.Native.Nat.{ℕ, ◌≤◌}
use native.Mathlib.Omega.{arith}
use mathlib.Core.Bool.{Bool, true, false, cond}
use mathlib.Core.List.{List}
use mathlib.Core.Option.{Option, none as nothing, some}
use mathlib.Core.Path.{◌≡◌, ap, refl, sym, ◌∙◌}
use borrow.Author.Tests.{eq-eqb, le-ltb, ltb-false}
use lib.Dec.{eqb, ltb}
use lib.ListN.{length}
use Rattle.forest.proofs.Options.{never}
use Rattle.words.specs.Limits.{response_limits, script_limits}
use Rattle.forest.specs.Limits.{area_size, most_numbers, response_bytes, script_bytes}
use Rattle.script.specs.Script.{Known}
use Rattle.script.specs.Response.{Body}
use Rattle.outcome.specs.Agreed.{AfterTexts, Agreed, goes_on, later, the_same}
use Rattle.outcome.specs.Checked.{Checked, Judgement, TextsTold, both_pass, evaluated, length_answer, points_refused, refusal, refused, size_answer}
use Rattle.outcome.specs.Checked.{too_long, underived}
use Rattle.outcome.specs.Demands.{Showing, budget_ended, constraint_false}
use Rattle.outcome.specs.Derived.{terms_of}
use Rattle.outcome.specs.Evaluated.{ran_with}
use Rattle.outcome.specs.Located.{TextsAnswerForC, TextsAnswerGiven, answer_numbers, located}
use Rattle.outcome.specs.declared.Answer.{Answer}
use Rattle.outcome.specs.declared.Outcome.{Outcome}
use Rattle.outcome.proofs.Unique.{answer_same}
use Rattle.outcome.proofs.Stages.{not_both, of_missized, of_passing, of_refused, one_refused, refused_number, run_showing}

-- No second answer of the texts alone.
pub one_told : {script response : List ℕ} {o other : Outcome} → TextsTold script response o → TextsTold script response other → o ≡ other
one_told (too_long e) (too_long h) = cc
one_told (too_long e) (refused n t) = never (sym n ∙ e)
one_told (too_long e) (both_pass n s g) = never (sym n ∙ e)
one_told (refused n t) (too_long h) = never (sym n ∙ h)
one_told (refused n t) (refused m u) = one_refused t u
one_told (refused n t) (both_pass m s g) = not_both t s g
one_told (both_pass n s g) (too_long h) = never (sym n ∙ h)
one_told (both_pass n s g) (refused m t) = not_both t s g
one_told (both_pass n s g) (both_pass m t h) = refl

-- The answer that the lengths of two texts give is the first, whatever is tested after them.
lengths_first : (t u : Bool) (one other : Outcome) (rest : Option Outcome) {answer : Outcome} → cond t (some one) (cond u (some other) nothing) ≡ some answer
    → cond t (some one) (cond u (some other) rest) ≡ some answer
lengths_first true u one other rest e = e
lengths_first false true one other rest e = e
lengths_first false false one other rest e = never e

-- Where they give none, what is tested after them is left.
lengths_left : (t u : Bool) (one other : Outcome) {rest : Option Outcome} → cond t (some one) (cond u (some other) nothing) ≡ nothing
    → cond t (some one) (cond u (some other) rest) ≡ rest
lengths_left true u one other e = never (sym e)
lengths_left false true one other e = never (sym e)
lengths_left false false one other e = refl

-- A length that is too great is answered with the number 1.
pub long_number : (script response : List ℕ) {answer : Outcome} → length_answer script response ≡ some answer → answer.number ≡ 1
unfolding length_answer
long_number script response e = go (ltb script_limits.bytes (length script)) (ltb response_limits.bytes (length response)) e
  where
    go : (t u : Bool) {answer : Outcome} → cond t (some (refusal 1 0 (length script))) (cond u (some (refusal 1 1 (length response))) nothing) ≡ some answer
        → answer.number ≡ 1
    go true u h = cc
    go false true h = cc
    go false false h = never h

-- An answer that shows derivations comes after the texts.
showing_after : {number : ℕ} → Showing number → AfterTexts number
showing_after Showing.accepted = AfterTexts.accepted
showing_after constraint_false = later {number = 14} (omega arith)
showing_after budget_ended = later {number = 15} (omega arith)

-- What is tested after the lengths of the texts.
abbrev pub after_lengths : (points area : List ℕ) → Option Outcome
after_lengths points area =
    cond (ltb most_numbers (length points)) (some (refusal 1 2 (length points)))
    (cond (eqb (length area) area_size) nothing (some (refusal 1 3 (length area))))

-- A text that is too long is answered first, whatever points and area are.
pub long_first : (script response points area : List ℕ) {answer : Outcome} → length_answer script response ≡ some answer
    → size_answer script response points area ≡ some answer
unfolding length_answer size_answer
long_first script response points area e =
    lengths_first (ltb script_limits.bytes (length script)) (ltb response_limits.bytes (length response)) (refusal 1 0 (length script))
    (refusal 1 1 (length response)) (after_lengths points area) e

-- Where no text is too long, the sizes of points and area are left.
pub short_left : (script response points area : List ℕ) → length_answer script response ≡ nothing
    → size_answer script response points area ≡ after_lengths points area
unfolding length_answer size_answer
short_left script response points area e =
    lengths_left (ltb script_limits.bytes (length script)) (ltb response_limits.bytes (length response)) (refusal 1 0 (length script))
    (refusal 1 1 (length response)) e

-- Where no text is too long, each has at most its bytes.
pub short_texts : (script response : List ℕ) → length_answer script response ≡ nothing → (length script ≤ script_bytes) × (length response ≤ response_bytes)
unfolding length_answer
short_texts script response e =
    go (ltb script_limits.bytes (length script)) refl (ltb response_limits.bytes (length response)) refl e
  where
    go : (t : Bool) → ltb script_limits.bytes (length script) ≡ t → (u : Bool) → ltb response_limits.bytes (length response) ≡ u
        → cond t (some (refusal 1 0 (length script))) (cond u (some (refusal 1 1 (length response))) nothing) ≡ nothing
        → (length script ≤ script_bytes) × (length response ≤ response_bytes)
    go true et u eu h = never (sym h)
    go false et true eu h = never (sym h)
    go false et false eu h = (ltb-false _ _ et, ltb-false _ _ eu)

-- The texts' own answer has a number up to 12.
pub told_small : {script response : List ℕ} {o : Outcome} → TextsTold script response o → o.number ≤ 12
told_small {script} {response} (too_long e) = omega (arith, long_number script response e)
told_small (refused n t) = (refused_number t).most
told_small (both_pass n s g) = omega arith

module _ {script response points : List ℕ} {budget : ℕ} {area : List ℕ} {o : Outcome} {a w : List ℕ}
    (checked : Checked script response points budget area o a w) where
  -- A text that is too long is answered alike, whatever points and area are.
  pub long_alike : {told : Outcome} → length_answer script response ≡ some told → o ≡ told
  long_alike e = (of_missized (long_first script response points area e) checked).0

  module _ (points_fit : length points ≤ most_numbers) (area-fits : length area ≡ area_size) where
    -- Where no text is too long, every size is right.
    all_right : length_answer script response ≡ nothing → size_answer script response points area ≡ nothing
    all_right e =
        short_left script response points area e
        ∙ rw (le-ltb most_numbers (length points) points_fit, eq-eqb (length area) area_size area-fits) refl

    -- A verdict on texts that pass speaks of what comes after them.
    verdict_after : {k : Known} {bs : List Body} {x : Outcome} {b v : List ℕ} → Judgement response k bs points budget x b v → AfterTexts x.number
    verdict_after (underived u) = later {number = 13} (omega arith)
    verdict_after (points_refused s e) = later {number = 16} (omega arith)
    verdict_after {k} {bs} (evaluated {n = n} s e) = showing_after (run_showing budget (ran_with k (terms_of bs) points n budget))

    -- Of points and an area of right sizes `check` gives the texts' own answer, or goes on where both texts pass.
    pub agreed : {told : Outcome} → TextsTold script response told → Agreed told o
    agreed (too_long e) = the_same (λ zero. absurd (omega (arith, long_number script response e))) (long_alike e)
    agreed (refused n t) = the_same (λ zero. absurd (omega (arith, (refused_number t).least))) (of_refused (all_right n) t checked).0
    agreed (both_pass n s g) =
        goes_on refl (verdict_after (of_passing (record { sized = all_right n; says = s; gives = g }) checked))

module _ {script response : List ℕ} where
  -- No second answer of the texts alone, with what it carries.
  pub texts_answered : {answer other : Answer} → TextsAnswerGiven script response answer → TextsAnswerGiven script response other → answer ≡ other
  texts_answered one two =
      let same = one_told one.told two.told in
      let location = one.carried ∙ ap (located script response) same ∙ sym two.carried in
      answer_same same location (one.unweighed ∙ sym two.unweighed)

  -- None for C.
  pub texts_for_c : {number another : ℕ} {numbers others : List ℕ} → TextsAnswerForC script response number numbers
      → TextsAnswerForC script response another others → (number ≡ another) × (numbers ≡ others)
  texts_for_c one two =
      let same = texts_answered one.given two.given in (
        one.number_is ∙ ap (λ (x : Answer). x.outcome.number) same ∙ sym two.number_is,
        one.numbers_are ∙ ap answer_numbers same ∙ sym two.numbers_are,
      )
