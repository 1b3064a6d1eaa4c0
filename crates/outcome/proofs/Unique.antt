-- No second outcome satisfies the checker's contract.
use Rattle.std.specs.Prelude.{Ok, Err}
use Prim.Native.Nat.{ℕ}
use native.Mathlib.Omega.{arith}
use mathlib.Core.List.{List}
use mathlib.Core.Path.{◌≡◌, refl, ap, ap₂, sym, ◌∙◌}
use Rattle.script.specs.Script.{Known}
use Rattle.script.specs.Response.{Body, in_script_order}
use Rattle.outcome.specs.Checked.{Answered, Checked, Judgement, evaluated, judged, missized, points_refused, texts_refused, underived}
use Rattle.outcome.specs.Derived.{shown_area, terms_of, totals}
use Rattle.outcome.specs.Evaluated.{ran_with, run_outcome}
use Rattle.outcome.specs.Located.{AnswerGiven, AnswerForC, answer_numbers, located}
use Rattle.outcome.specs.declared.Answer.{Answer}
use Rattle.outcome.specs.declared.Location.{Location}
use Rattle.outcome.specs.declared.Outcome.{Outcome}
use Rattle.outcome.proofs.Deriving.{first_only, lists_only, not_derived, shown_derived}
use Rattle.outcome.proofs.Stages.{of_missized, of_passing, of_refused}

-- No list of points is good and bad.
not_good : {A : Type 0} {place n : ℕ} → Err place ≡ Ok n → A
not_good e = let z : ◌≡◌ {A = ℕ} 0 1 = cc in absurd (omega arith)

-- One verdict on texts that pass, with one area afterwards and one list of totals.
one_verdict : {response : List ℕ} {k : Known} {bs : List Body} {points : List ℕ} {budget : ℕ} {o other : Outcome} {a b w v : List ℕ}
    → Judgement response k bs points budget o a w → Judgement response k bs points budget other b v → (o ≡ other) × (a ≡ b) × (w ≡ v)
one_verdict (underived u) (underived v) = let h = first_only u v in (cc, refl, refl)
one_verdict (underived u) (points_refused s e) = absurd (not_derived u (shown_derived s))
one_verdict (underived u) (evaluated s e) = absurd (not_derived u (shown_derived s))
one_verdict (points_refused s e) (underived u) = absurd (not_derived u (shown_derived s))
one_verdict (points_refused s e) (points_refused t h) = (cc, refl, refl)
one_verdict (points_refused s e) (evaluated t h) = not_good (sym e ∙ h)
one_verdict (evaluated s e) (underived u) = absurd (not_derived u (shown_derived s))
one_verdict (evaluated s e) (points_refused t h) = not_good (sym h ∙ e)
one_verdict {k = k} {bs} {points} {budget} (evaluated {n = n} s e) (evaluated {n = m} t h) =
    let same : n ≡ m = cc in
    let lists = lists_only s t in (
      ap (λ (c : ℕ). run_outcome budget (ran_with k (terms_of bs) points c budget)) same,
      ap shown_area lists,
      ap (totals (in_script_order k.functions)) lists,
    )

-- "Every public call has a stated outcome for every input: answer, place, units and the lent areas, refused calls too; show that no second outcome would
-- satisfy it." The exception, "which derivation is shown where several exist", has ended: "the shown list is unique" (E13).
pub unique : {script response points : List ℕ} {budget : ℕ} {area : List ℕ} {o other : Outcome} {a b w v : List ℕ}
    → Checked script response points budget area o a w → Checked script response points budget area other b v → (o ≡ other) × (a ≡ b) × (w ≡ v)
unique (missized e) d = let h = of_missized e d in (sym h.0, sym h.1, sym h.2)
unique (texts_refused n t) d = let h = of_refused n t d in (sym h.0, sym h.1, sym h.2)
unique (judged p v) d = one_verdict v (of_passing p d)

-- The same of a call that does not give the totals.
pub unique_unweighed : {script response points : List ℕ} {budget : ℕ} {area : List ℕ} {o other : Outcome} {a b : List ℕ}
    → Answered script response points budget area o a → Answered script response points budget area other b → (o ≡ other) × (a ≡ b)
unique_unweighed c d = let h = unique c.checked d.checked in (h.0, h.1)

-- Answers with the same parts are the same.
pub answer_same : {o other : Outcome} {l location : Location} {w v : List ℕ} → o ≡ other → l ≡ location → w ≡ v
    → ◌≡◌ {A = Answer} (record { outcome = o; location = l; totals = w }) (record { outcome = other; location = location; totals = v })
answer_same {other = other} {location = location} {w = w} e h z =
    ap₂ {C = Answer} (λ (o : Outcome) (l : Location). record { outcome = o; location = l; totals = w }) e h
    ∙ ap {B = Answer} (λ (v : List ℕ). record { outcome = other; location = location; totals = v }) z

module _ {script response points : List ℕ} {budget : ℕ} {area a b : List ℕ} where
  -- The same of the answer with what it carries.
  pub answered : {answer other : Answer} → AnswerGiven script response points budget area answer a → AnswerGiven script response points budget area other b
      → (answer ≡ other) × (a ≡ b)
  answered c d =
      let same = unique c.checked d.checked in
      let location = c.carried ∙ ap (located script response) same.0 ∙ sym d.carried in
      (answer_same same.0 location same.2, same.1)

  -- The same of what C is given.
  pub answered_for_c : {number numberOther : ℕ} {numbers numbersOther : List ℕ} → AnswerForC script response points budget area number numbers a
      → AnswerForC script response points budget area numberOther numbersOther b → (number ≡ numberOther) × (numbers ≡ numbersOther) × (a ≡ b)
  answered_for_c c d =
      let same = answered c.answered d.answered in (
        c.number_is ∙ ap (λ (x : Answer). x.outcome.number) same.0 ∙ sym d.number_is,
        c.numbers_are ∙ ap answer_numbers same.0 ∙ sym d.numbers_are,
        same.1,
      )
