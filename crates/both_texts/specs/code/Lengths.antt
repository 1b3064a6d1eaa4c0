-- What the answer on the lengths of two texts gives.
use Rattle.std.specs.Prelude.{ℕ, ◌≤◌, List, ◌≡◌, length}
use Rattle.std.proofs.Math.Option.{none as nothing, some}
use Rattle.forest.specs.Limits.{response_bytes, script_bytes}
use Rattle.outcome.specs.Checked.{length_answer}
use Rattle.outcome.specs.declared.Outcome.{Outcome}

-- Texts of these lengths.
pub record Sized (script response : ℕ) (a b : List ℕ) : Type 0 where
  pub script_is : length a ≡ script
  pub response_is : length b ≡ response

-- Answer 1 for a text that is too long, or the number 0 where neither is.
pub record LengthsTold (script response : ℕ) (r : Outcome) : Type 0 where
  pub refused : (r.number ≡ 0 → ⊥) → {a b : List ℕ} → Sized script response a b → length_answer a b ≡ some r
  pub passes : r.number ≡ 0 → {a b : List ℕ} → Sized script response a b → length_answer a b ≡ nothing
  pub short : r.number ≡ 0 → (script ≤ script_bytes) × (response ≤ response_bytes)
