-- How the texts' own answer and the checker's stand to each other.
use Rattle.std.specs.Prelude.{ℕ, ◌≤◌, ◌≡◌}
use Rattle.outcome.specs.Checked.{refusal}
use Rattle.outcome.specs.declared.Outcome.{Outcome}

-- A number that speaks of what comes after the texts: 0, or 13 and more.
pub data AfterTexts : (number : ℕ) → Type 0 where
  accepted : AfterTexts 0
  later : {number : ℕ} → 13 ≤ number → AfterTexts number

-- Where a text is refused both answers are the same; where both texts pass, the one is 0, and the other speaks of what comes after them.
pub data Agreed (told checked : Outcome) : Type 0 where
  the_same : (told.number ≡ 0 → ⊥) → checked ≡ told → Agreed told checked
  goes_on : told ≡ refusal 0 3 0 → AfterTexts checked.number → Agreed told checked
