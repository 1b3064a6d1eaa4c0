-- The sizes of what is lent.
use Prim.Native.Nat.{ℕ, ◌≤◌, ◌<◌}
use native.Mathlib.Omega.{arith}
use mathlib.Core.Path.{◌≡◌, refl, sym, ap, ◌∙◌, subst}
use mathlib.Core.List.{List}
use mathlib.Core.Option.{none as nothing, some}
use borrow.Author.Tests.{eq-eqb, le-ltb, lt-ltb, ne_eqb}
use lib.ListN.{length}
use Rattle.forest.specs.Limits.{area_size, most_numbers}
use Rattle.outcome.specs.Checked.{Checked, judged, missized, refusal, size_answer, texts_refused, unshown}
use Rattle.outcome.specs.Derived.{blank_area, no_totals}
use Rattle.outcome.specs.declared.Outcome.{Outcome}
use Rattle.outcome.specs.declared.Weighed.{Weighed}
use Rattle.outcome.proofs.Areas.{blank_long, unshown_blank}
use Rattle.outcome.proofs.Texts.{after_lengths, long_first, short_left}
use Rattle.script.specs.code.Answers.{long_answer}
use Rattle.outcome.specs.code.Texts.{points_text, no_text}
use Rattle.both_texts.specs.code.Lengths.{LengthsTold}
use Rattle.checker.specs.code.Judge.{Judging}
use Rattle.checker.specs.code.Sizes.{SizesTold}

module _ {script response points : List ℕ} {size : ℕ} {t : Outcome} (lengths : LengthsTold (length script) (length response) t) where
  -- a text that is too long
  pub text_long : (t.number ≡ 0 → ⊥) → SizesTold script response points size t
  text_long long =
      record {
        refused = λ other area l. long_first script response points area (lengths.refused other (record { script_is = refl; response_is = refl }));
        passes = λ zero. absurd (long zero);
        sized = λ zero. absurd (long zero);
      }

  module _ (none : t.number ≡ 0) where
    -- a size that is not right
    told_refused : {r : Outcome} {text place : ℕ} → r ≡ refusal long_answer text place
        → ((area : List ℕ) → length area ≡ size → after_lengths points area ≡ some (refusal long_answer text place)) → SizesTold script response points size r
    told_refused e answers =
        rw e
        (record {
          refused = λ other area l. short_left script response points area (lengths.passes none (record { script_is = refl; response_is = refl })) ∙ answers area l;
          passes = λ zero. absurd (omega arith);
          sized = λ zero. absurd (omega arith);
        })

    -- a list of points that is too long
    pub points_long : {r : Outcome} → r ≡ refusal long_answer points_text (length points) → most_numbers < length points → SizesTold script response points size r
    points_long e h = told_refused e (λ area l. rw (lt-ltb most_numbers (length points) h))

    module _ (points_fit : length points ≤ most_numbers) where
      -- an area of wrong size
      pub area_other : {r : Outcome} → r ≡ refusal long_answer no_text size → (size ≡ area_size → ⊥) → SizesTold script response points size r
      area_other e h = told_refused e (λ area l. rw (le-ltb most_numbers (length points) points_fit, l, ne_eqb size area_size h))

      -- sizes that are right
      pub all_sized : size ≡ area_size → SizesTold script response points size t
      all_sized h =
          record {
            refused = λ other. absurd (other none);
            passes = λ zero area l.
                short_left script response points area (lengths.passes none (record { script_is = refl; response_is = refl }))
                ∙ rw (le-ltb most_numbers (length points) points_fit, l, eq-eqb size area_size h);
            sized = λ zero. h;
          }

-- an answer after which no list is shown
pub weighed_as : {script response points area after : List ℕ} {budget : ℕ} {r : Outcome} {w : Weighed} → w ≡ record { outcome = r; totals = no_totals }
    → Checked script response points budget area r after no_totals → Checked script response points budget area w.outcome after w.totals
weighed_as e checked = rw e checked

-- of two areas of right size the answer is the same
pub checked_same : {script response points area other after weights : List ℕ} {budget : ℕ} {r : Outcome} → size_answer script response points area ≡ nothing
    → size_answer script response points other ≡ nothing → Checked script response points budget area r after weights
    → Checked script response points budget other r after weights
checked_same sized right (missized e) = let z : ◌≡◌ {A = ℕ} 0 1 = cc in absurd (omega arith)
checked_same sized right (texts_refused z t) = texts_refused right t
checked_same sized right (judged p v) = judged (record { sized = right; says = p.says; gives = p.gives }) v

module _ {script response points after : List ℕ} {r : Outcome} (area : List ℕ) (told : SizesTold script response points (length area) r)
    (blanked : after ≡ unshown area) where
  -- a size is not right
  pub size_refused : {budget : ℕ} {w : Weighed} → (r.number ≡ 0 → ⊥) → w ≡ record { outcome = r; totals = no_totals }
      → Checked script response points budget area w.outcome after w.totals
  size_refused {budget} refused e =
      weighed_as e
      (subst (λ (shown : List ℕ). Checked script response points budget area r shown no_totals) (sym blanked) (missized (told.refused refused area refl)))

  module _ (zero : r.number ≡ 0) where
    -- every size is right
    pub sizes_right : Judging script response points after
    sizes_right =
        let blank : after ≡ blank_area = blanked ∙ unshown_blank area (told.sized zero) in
        let long = ap length blank ∙ blank_long in
        record { sized = told.passes zero after (omega (arith, long, told.sized zero)); blank = blank }

    -- and the texts are judged
    pub texts_judged : {o : Outcome} {last weights : List ℕ} {budget : ℕ} → Checked script response points budget after o last weights
        → Checked script response points budget area o last weights
    texts_judged checked = checked_same sizes_right.sized (told.passes zero area refl) checked
