-- The number of the answer on the writing of an evidence file is small.
use Prim.Native.Nat.{ℕ, ◌≤◌}
use native.Mathlib.Omega.{arith}
use mathlib.Core.List.{List}
use Rattle.words.specs.declared.Limits.{Limits}
use Rattle.outcome.specs.Accepted.{Declined, texts_refused, underived}
use Rattle.outcome.specs.declared.Answer.{Answer}
use Rattle.outcome.specs.declared.Outcome.{Outcome}
use Rattle.outcome.proofs.Stages.{refused_number}
use Rattle.outcome.proofs.Texts.{long_number}
use Rattle.evidence.specs.Evidence.{Filed, area_short, declined, filed, too_long}

-- what declines two texts has a number to 13
declined_small : {limits : Limits} {script response : List ℕ} {o : Outcome} → Declined limits script response o → o.number ≤ 13
declined_small (texts_refused t) = omega (arith, (refused_number t).most)
declined_small (underived p u) = omega arith

-- an answer on the writing of a file has a number to 17
pub filed_small : {script response area : List ℕ} {answer : Answer} {size : ℕ} {after : List ℕ} → Filed script response area answer size after
    → answer.outcome.number ≤ 17
filed_small {script} {response} (too_long e) = omega (arith, long_number script response e)
filed_small (declined n d) = omega (arith, declined_small d)
filed_small (area_short f h) = omega arith
filed_small (filed f h) = omega arith
