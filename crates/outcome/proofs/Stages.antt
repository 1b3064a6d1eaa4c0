-- Which answers each stage of the check gives.
use Prim.Native.Nat.{ℕ, ◌≤◌}
use native.Mathlib.Omega.{arith}
use mathlib.Core.Bool.{Bool, true, false, cond}
use mathlib.Core.List.{List}
use mathlib.Core.Option.{Option, none as nothing, some}
use mathlib.Core.Path.{◌≡◌, refl, subst, subst₂, sym, ◌∙◌}
use borrow.Author.Tests.{ltb-false}
use lib.Dec.{eqb, ltb}
use lib.ListN.{length}
use Rattle.forest.proofs.Options.{never}
use Rattle.words.specs.Limits.{response_limits, script_limits}
use Rattle.words.specs.declared.Limits.{Limits}
use Rattle.forest.specs.Limits.{area_size, most_numbers, response_bytes, script_bytes}
use Rattle.evaluation.specs.declared.Ran.{Ran}
use Rattle.evaluation.specs.declared.Ran.TheVariants.{Passed, False, Ended}
use Rattle.evaluation.specs.declared.Run.{Run}
use Rattle.script.specs.Script.{Known}
use Rattle.script.specs.Response.{Body}
use Rattle.script.specs.Outcome.{ResponseOutcome, ScriptOutcome, given, response_within, said, script_outcome}
use Rattle.script.proofs.Numbers.{Numbered, in_response, in_script, response_numbered, script_numbered}
use Rattle.script.specs.code.Answers.{long_answer}
use Rattle.outcome.specs.code.Texts.{script_text, response_text, points_text, no_text}
use Rattle.outcome.specs.Checked.{Checked, Passing, Judgement, TextsRefused, judged, missized, refusal, response_refused, script_refused, size_answer}
use Rattle.outcome.specs.Checked.{texts_refused, unshown}
use Rattle.outcome.specs.Accepted.{TextsPass}
use Rattle.outcome.specs.Demands.{Showing, accepted, budget_ended, constraint_false}
use Rattle.outcome.specs.Derived.{blank_area, no_totals}
use Rattle.outcome.specs.Evaluated.{ran_outcome, run_outcome}
use Rattle.outcome.specs.Table.{AnswerRow, LengthOf, of_the_area, of_the_points, of_the_response, of_the_script, too_long}
use Rattle.outcome.specs.declared.Outcome.{Outcome}

-- An answer 1: it names one of the four and its length, and has no units.
pub record TooLong (script response points area : List ℕ) (o : Outcome) : Type 0 where
  pub number : o.number ≡ long_answer
  pub text : o.text ≤ 3
  pub units : o.units ≡ 0
  pub row : AnswerRow script response points area o

-- The same, where there is an answer.
data Sized (script response points area : List ℕ) : Option Outcome → Type 0 where
  right : Sized script response points area nothing
  wrong : {o : Outcome} → TooLong script response points area o → Sized script response points area (some o)

-- An answer of sizes is such.
answered : {script response points area : List ℕ} {o : Outcome} → Sized script response points area (some o) → TooLong script response points area o
answered (wrong h) = h

-- A size that is not right is answer 1.
pub missized_one : (script response points area : List ℕ) {o : Outcome} → size_answer script response points area ≡ some o
    → TooLong script response points area o
unfolding size_answer
missized_one script response points area e =
    answered (subst (Sized script response points area) e
    (either (ltb script_limits.bytes (length script)) (one of_the_script (omega arith))
    (either (ltb response_limits.bytes (length response)) (one of_the_response (omega arith))
    (either (ltb most_numbers (length points)) (one of_the_points (omega arith))
    (either (eqb (length area) area_size) right (one of_the_area (omega arith)))))))
  where
    one : {text place : ℕ} → LengthOf script response points area text place → text ≤ 3 → Sized script response points area (some (refusal long_answer text place))
    one is h = wrong (record { number = refl; text = h; units = refl; row = too_long is })

    either : {a b : Option Outcome} (t : Bool) → Sized script response points area a → Sized script response points area b
        → Sized script response points area (cond t a b)
    either true p q = p
    either false p q = q

-- A script that is refused has a number from 1 to 12.
script_number : (script : List ℕ) {number offset second : ℕ} → script_outcome script ≡ ScriptOutcome.faulty number offset second
    → (1 ≤ number) × (number ≤ 12)
script_number script e = let h = subst (Numbered in_script) e (script_numbered script) in (h.some, h.few)

-- So has a response.
response_number : (limits : Limits) (k : Known) (response : List ℕ) {number offset : ℕ} → response_within limits k response ≡ ResponseOutcome.faulty number offset
    → (1 ≤ number) × (number ≤ 12)
response_number limits k response e = let h = subst (Numbered in_response) e (response_numbered limits k response) in (h.some, h.few)

-- An answer that refuses a text has such a number, and no units.
pub record OfText (o : Outcome) : Type 0 where
  pub least : 1 ≤ o.number
  pub most : o.number ≤ 12
  pub units : o.units ≡ 0

-- What refuses one of two texts is such.
pub refused_number : {limits : Limits} {script response : List ℕ} {o : Outcome} → TextsRefused limits script response o → OfText o
refused_number {script = script} (script_refused e) = let h = script_number script e in record { least = h.0; most = h.1; units = refl }
refused_number {limits} {response = response} (response_refused {k = k} s e) =
    let h = response_number limits k response e in
    record { least = h.0; most = h.1; units = refl }

-- A test that gives no answer has failed, and the next gives none.
not_answered : (t : Bool) (o : Outcome) {later : Option Outcome} → cond t (some o) later ≡ nothing → (t ≡ false) × (later ≡ nothing)
not_answered true o e = never (sym e)
not_answered false o e = (refl, e)

module _ (script response points area : List ℕ) (sized : size_answer script response points area ≡ nothing) where
  -- Where all sizes are right, the texts have at most their bytes, and that of the area gives no answer.
  all_sized : (length script ≤ script_bytes) × (length response ≤ response_bytes)
      × (cond (eqb (length area) area_size) nothing (some (refusal long_answer no_text (length area))) ≡ nothing)
  unfolding size_answer
  all_sized =
      let script-fits = not_answered (ltb script_limits.bytes (length script)) (refusal long_answer script_text (length script)) sized in
      let response_fits = not_answered (ltb response_limits.bytes (length response)) (refusal long_answer response_text (length response)) script-fits.1 in
      let points_fit = not_answered (ltb most_numbers (length points)) (refusal long_answer points_text (length points)) response_fits.1 in
      (ltb-false _ _ script-fits.0, ltb-false _ _ response_fits.0, points_fit.1)

  -- The texts have at most their bytes.
  pub sized_texts : (length script ≤ script_bytes) × (length response ≤ response_bytes)
  sized_texts = (all_sized.0, all_sized.1)

  -- An area that shows nothing is blank.
  pub sized_area : unshown area ≡ blank_area
  sized_area = go (eqb (length area) area_size) (refusal long_answer no_text (length area)) all_sized.2
    where
      go : (t : Bool) (o : Outcome) → cond t nothing (some o) ≡ nothing → cond t blank_area area ≡ blank_area
      go true o h = refl
      go false o h = never (sym h)

-- A script that is refused says nothing.
not_said : {A : Type 0} {number offset second : ℕ} {k : Known} → ScriptOutcome.faulty number offset second ≡ said k → A
not_said e = let z : ◌≡◌ {A = ℕ} 0 1 = cc in absurd (omega arith)

-- A response that is refused gives no bodies.
not_given : {A : Type 0} {number offset : ℕ} {bs : List Body} → ResponseOutcome.faulty number offset ≡ given bs → A
not_given e = let z : ◌≡◌ {A = ℕ} 0 1 = cc in absurd (omega arith)

-- A script says one thing.
one_known : (script : List ℕ) {k other : Known} → script_outcome script ≡ said k → script_outcome script ≡ said other → k ≡ other
one_known script e h = cc

-- To what the script says a response is one thing.
of_known : (limits : Limits) (script response : List ℕ) {k other : Known} {r : ResponseOutcome} → script_outcome script ≡ said k
    → script_outcome script ≡ said other → response_within limits k response ≡ r → response_within limits other response ≡ r
of_known limits script response {r = r} e h x = subst (λ (k : Known). response_within limits k response ≡ r) (one_known script e h) x

-- Two texts are refused in one way.
pub one_refused : {limits : Limits} {script response : List ℕ} {o other : Outcome} → TextsRefused limits script response o
    → TextsRefused limits script response other → o ≡ other
one_refused (script_refused e) (script_refused h) = cc
one_refused (script_refused e) (response_refused s h) = not_said (sym e ∙ s)
one_refused (response_refused s e) (script_refused h) = not_said (sym h ∙ s)
one_refused {limits} {script} {response} (response_refused s e) (response_refused t h) = let x = of_known limits script response s t e in cc

-- Texts that are refused do not pass.
pub not_both : {A : Type 0} {limits : Limits} {script response : List ℕ} {o : Outcome} {k : Known} {bs : List Body} → TextsRefused limits script response o
    → script_outcome script ≡ said k → response_within limits k response ≡ given bs → A
not_both (script_refused e) says gives = not_said (sym e ∙ says)
not_both {limits = limits} {script} {response} (response_refused s e) says gives = not_given (sym (of_known limits script response s says e) ∙ gives)

-- Texts that pass say one thing.
pub one-pass : {limits : Limits} {script response : List ℕ} {k other : Known} {bs cs : List Body} → TextsPass limits script response k bs
    → TextsPass limits script response other cs → (k ≡ other) × (bs ≡ cs)
one-pass {limits} {script} {response} p q =
    let x = of_known limits script response p.says q.says p.gives in
    let y = q.gives in
    (one_known script p.says q.says, cc)

-- The same where every size is right.
pub one_passing : {script response points area : List ℕ} {k other : Known} {bs cs : List Body} → Passing script response points area k bs
    → Passing script response points area other cs → (k ≡ other) × (bs ≡ cs)
one_passing p q = one-pass {limits = response_limits} (record { says = p.says; gives = p.gives }) (record { says = q.says; gives = q.gives })

module _ {script response points : List ℕ} {budget : ℕ} {area : List ℕ} where
  -- Where a size is not right, that is answered, and nothing is shown.
  pub of_missized : {answer o : Outcome} {a w : List ℕ} → size_answer script response points area ≡ some answer
      → Checked script response points budget area o a w → (o ≡ answer) × (a ≡ unshown area) × (w ≡ no_totals)
  of_missized e (missized h) = (cc, refl, refl)
  of_missized e (texts_refused z t) = never (sym z ∙ e)
  of_missized e (judged p v) = never (sym p.sized ∙ e)

  -- Else, where a text is refused, that is answered, and nothing is shown.
  pub of_refused : {answer o : Outcome} {a w : List ℕ} → size_answer script response points area ≡ nothing → TextsRefused response_limits script response answer
      → Checked script response points budget area o a w → (o ≡ answer) × (a ≡ blank_area) × (w ≡ no_totals)
  of_refused n t (missized h) = never (sym n ∙ h)
  of_refused n t (texts_refused z u) = (one_refused u t, refl, refl)
  of_refused n t (judged p v) = not_both t p.says p.gives

  -- Where both pass, the verdict on them is.
  pub of_passing : {k : Known} {bs : List Body} {o : Outcome} {a w : List ℕ} → Passing script response points area k bs
      → Checked script response points budget area o a w → Judgement response k bs points budget o a w
  of_passing p (missized h) = never (sym p.sized ∙ h)
  of_passing p (texts_refused z t) = not_both t p.says p.gives
  of_passing {o = o} {a} {w} p (judged q v) =
      let same = one_passing q p in
      subst₂ (λ (k : Known) (bs : List Body). Judgement response k bs points budget o a w) same.0 same.1 v

-- A number that is none of the three shows nothing.
pub not_showing : {n : ℕ} → (n ≡ 0 → ⊥) × (n ≡ 14 → ⊥) × (n ≡ 15 → ⊥) → Showing n → ⊥
not_showing h accepted = h.0 refl
not_showing h constraint_false = h.1 refl
not_showing h budget_ended = h.2 refl

-- What a run finds is one of the three.
ran_showing : (budget held : ℕ) (ran : Ran) → Showing (ran_outcome budget held ran).number
ran_showing budget held (Passed left) = accepted
ran_showing budget held (False point constraint left) = constraint_false
ran_showing budget held (Ended point term left) = budget_ended

-- The same of the answer of a run.
pub run_showing : (budget : ℕ) (r : Run) → Showing (run_outcome budget r).number
run_showing budget r = ran_showing budget r.held r.ran
