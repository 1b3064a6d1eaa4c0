-- What the parts of the checker ask and give.
use Rattle.std.specs.Prelude.{ℕ, List, ◌≡◌, length}
use Rattle.std.proofs.Math.Option.{none as nothing, some}
use Rattle.forest.specs.Limits.{area_size}
use Rattle.outcome.specs.Checked.{size_answer}
use Rattle.outcome.specs.declared.Outcome.{Outcome}

-- Answer 1, or the number 0 where every size is right, that of the area too.
pub record SizesTold (script response points : List ℕ) (size : ℕ) (r : Outcome) : Type 0 where
  pub refused : (r.number ≡ 0 → ⊥) → (area : List ℕ) → length area ≡ size → size_answer script response points area ≡ some r
  pub passes : r.number ≡ 0 → (area : List ℕ) → length area ≡ size → size_answer script response points area ≡ nothing
  pub sized : r.number ≡ 0 → size ≡ area_size
