-- Every answer is a row of the table of answers.
use Rattle.std.specs.Prelude.{Ok, Err}
use Prim.Native.Nat.{ℕ, ◌≤◌}
use native.Mathlib.Omega.{arith}
use mathlib.Core.Bool.{Bool, true, false, cond}
use mathlib.Core.List.{List}
use mathlib.Core.Path.{◌≡◌, refl, subst}
use borrow.Author.Tests.{ltb-true}
use lib.Dec.{ltb}
use lib.ListN.{length}
use Rattle.terms.specs.Labels.{Terms}
use Rattle.evaluation.specs.Points.{cut_short, first_outside, point_count, points_of}
use Rattle.evaluation.specs.declared.Ran.{Ran}
use Rattle.evaluation.specs.declared.Ran.TheVariants.{Passed, False, Ended}
use Rattle.names.specs.Scopes.{Function, named_sorts}
use Rattle.script.specs.Script.{Known}
use Rattle.script.specs.Response.{Body}
use Rattle.script.specs.Outcome.{ResponseOutcome, ScriptOutcome, given, offset_of, response_outcome, said, script_outcome}
use Rattle.script.specs.Rows.{AtWord, ResponseRow, ScriptRow}
use Rattle.words.specs.Limits.{response_limits}
use Rattle.script.proofs.Rows.{FirstWords, ResponseKept, ScriptKept, response_kept, script_kept}
use Rattle.outcome.specs.Checked.{Checked, Judgement, Passing, TextsRefused, evaluated, judged, missized, points_refused, response_refused, script_refused}
use Rattle.outcome.specs.Checked.{texts_refused, underived}
use Rattle.outcome.specs.Demands.{AllDone, InOrder, assumed_at}
use Rattle.outcome.specs.Derived.{FirstUnderived, terms_of}
use Rattle.outcome.specs.Evaluated.{ran_outcome, ran_with}
use Rattle.outcome.specs.Table.{AnswerRow, accepted, bad_points, budget_ended, constraint_false, no_derivation, of_response, of_script}
use Rattle.outcome.specs.declared.Outcome.{Outcome}
use Rattle.outcome.proofs.Deriving.{underived_within}
use Rattle.outcome.proofs.Stages.{missized_one}
use Rattle.outcome.proofs.Sums.{sum_few}
use Rattle.outcome.proofs.Units.{in_order}

-- The row of a script that is refused.
script_row : (script : List ℕ) {number place second : ℕ} → script_outcome script ≡ ScriptOutcome.faulty number place second
    → ScriptRow script number place second
script_row script e = go (subst (ScriptKept script) e (script_kept script))
  where
    go : {number place second : ℕ} → ScriptKept script (ScriptOutcome.faulty number place second) → ScriptRow script number place second
    go (ScriptKept.refuses row) = row

-- And of a response.
response_row : (k : Known) (response : List ℕ) {number place : ℕ} → response_outcome k response ≡ ResponseOutcome.faulty number place
    → ResponseRow response number place
response_row k response e = go (subst (ResponseKept response) e (response_kept response_limits k response))
  where
    go : {number place : ℕ} → ResponseKept response (ResponseOutcome.faulty number place) → ResponseRow response number place
    go (ResponseKept.refuses row) = row

-- The bodies of a response begin at words of it.
first-words : (k : Known) (response : List ℕ) {bs : List Body} → response_outcome k response ≡ given bs → FirstWords response bs
first-words k response e = go (subst (ResponseKept response) e (response_kept response_limits k response))
  where
    go : {bs : List Body} → ResponseKept response (given bs) → FirstWords response bs
    go (ResponseKept.gives first) = first

-- So does the one that has no derivation.
underived_there : {text : List ℕ} {fs : List Function} {bs : List Body} {j : ℕ} {b : Body} → FirstUnderived fs bs j b → FirstWords text bs
    → AtWord text (offset_of text b.first)
underived_there (FirstUnderived.here n) (FirstWords.also a more) = a
underived_there (FirstUnderived.later d u) (FirstWords.also a more) = underived_there u more

-- A list that is not points is refused at its length or before it.
bad_within : (sorts numbers : List ℕ) {place : ℕ} → points_of sorts numbers ≡ Err place → place ≤ length numbers
unfolding points_of
bad_within sorts numbers {place} h =
    by_case (cut_short (length sorts) (length numbers)) (ltb (first_outside sorts numbers 0) (length numbers)) refl h
  where
    by_case : (cut outside : Bool) → ltb (first_outside sorts numbers 0) (length numbers) ≡ outside
        → cond cut (Err (length numbers)) (cond outside (Err (first_outside sorts numbers 0)) (Ok (point_count (length sorts) (length numbers)))) ≡ Err place
        → place ≤ length numbers
    by_case true outside o g = let e : length numbers ≡ place = cc in omega arith
    by_case false true o g = let e : first_outside sorts numbers 0 ≡ place = cc in omega (arith, ltb-true (first_outside sorts numbers 0) (length numbers) o)
    by_case false false o g = let z : ◌≡◌ {A = ℕ} 0 1 = cc in absurd (omega arith)

-- All assumptions hold at no more points than there are.
held_few : {k : Known} {ts : List Terms} {points : List ℕ} {held : ℕ} (d : AllDone k ts points held) → held ≤ d.n
held_few {k} {ts} {points} d =
    omega (arith, d.counted, sum_few (λ (q : ℕ). cond (assumed_at k ts points q) 1 0) (λ q. one (assumed_at k ts points q)) 0 d.n)
  where
    one : (b : Bool) → cond b 1 0 ≤ 1
    one true = omega arith
    one false = omega arith

module _ {script response points area : List ℕ} {k : Known} where
  -- What a run finds.
  ran_row : {ts : List Terms} (budget held : ℕ) (ran : Ran) → script_outcome script ≡ said k → InOrder k ts points (ran_outcome budget held ran)
      → AnswerRow script response points area (ran_outcome budget held ran)
  ran_row budget held (Passed left) says order = let h = order.accepted refl in accepted says h.whole (held_few h)
  ran_row budget held (False point constraint left) says order = constraint_false says (order.constraint_false refl).0
  ran_row budget held (Ended point term left) says order =
      let h = order.budget_ended refl in
      budget_ended says h.whole h.point h.named

  -- A verdict on texts that pass.
  verdict_row : {bs : List Body} {budget : ℕ} {o : Outcome} {a w : List ℕ} → Passing script response points area k bs
      → Judgement response k bs points budget o a w → InOrder k (terms_of bs) points o → AnswerRow script response points area o
  verdict_row p (underived u) order = no_derivation p.says (underived_there u (first-words k response p.gives)) (underived_within u)
  verdict_row p (points_refused s e) order = bad_points p.says e (bad_within (named_sorts k.variables) points e)
  verdict_row {bs} {budget} p (evaluated {n = n} s e) order =
      let r = ran_with k (terms_of bs) points n budget in
      ran_row budget r.held r.ran p.says order

-- What refuses a text.
text_row : {script response points area : List ℕ} {o : Outcome} → TextsRefused response_limits script response o → AnswerRow script response points area o
text_row {script} (script_refused e) = of_script (script_row script e)
text_row {response = response} (response_refused {k = k} s e) = of_response (response_row k response e)

-- "one answer from the table in document 01".
pub table : {script response points : List ℕ} {budget : ℕ} {area : List ℕ} {o : Outcome} {a w : List ℕ}
    → Checked script response points budget area o a w → AnswerRow script response points area o
table {script} {response} {points} {area = area} (missized e) = (missized_one script response points area e).row
table (texts_refused n t) = text_row t
table (judged p v) = verdict_row p v (in_order p (judged p v))
