-- What the parts of the writing of a file ask and give.
use Rattle.std.specs.Prelude.{ℕ, List, ◌≡◌}
use Rattle.std.proofs.Math.Option.{none as nothing}
use Rattle.words.specs.Limits.{response_limits}
use Rattle.script.specs.Script.{Known}
use Rattle.script.specs.Response.{Body, in_script_order}
use Rattle.outcome.specs.Accepted.{Declined}
use Rattle.outcome.specs.Checked.{length_answer}
use Rattle.outcome.specs.Derived.{blank_area, no_totals, shown_area, totals}
use Rattle.outcome.specs.declared.Weighed.{Weighed}
use Rattle.evidence.specs.Evidence.{Fileable}

-- Two texts that are not too long, and an area that shows nothing.
pub record Derivable (script response shown : List ℕ) : Type 0 where
  pub short : length_answer script response ≡ nothing
  pub blank : shown ≡ blank_area

-- Both texts pass through 13, the area shows the lists of their bodies, and the totals say what these weigh.
pub record AllFound (script response : List ℕ) (weights shown : List ℕ) : Type 0 where
  pub k : Known
  pub bs : List Body
  pub lists : List (List ℕ)
  pub fileable : Fileable script response k bs lists
  pub shown_is : shown ≡ shown_area lists
  pub weigh : weights ≡ totals (in_script_order k.functions) lists

-- Where the number is 0 they do; where it is another the answer declines the texts, and the totals are 0.
pub record ListsFound (script response : List ℕ) (r : Weighed) (shown : List ℕ) : Type 0 where
  pub short : length_answer script response ≡ nothing
  pub all! : r.outcome.number ≡ 0 → AllFound script response r.totals shown
  pub declined! : (r.outcome.number ≡ 0 → ⊥) → Declined response_limits script response r.outcome
  pub unweighed! : (r.outcome.number ≡ 0 → ⊥) → r.totals ≡ no_totals
