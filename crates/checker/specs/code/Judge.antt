-- What the verdict on two texts of right sizes asks and gives.
use Rattle.std.specs.Prelude.{ℕ, List, ◌≡◌}
use Rattle.std.proofs.Math.Option.{none as nothing}
use Rattle.script.specs.code.Answers.{points_answer}
use Rattle.outcome.specs.Checked.{size_answer}
use Rattle.outcome.specs.Derived.{blank_area, no_totals}
use Rattle.outcome.specs.declared.Weighed.{Weighed}
use Rattle.verdicts.specs.code.Evaluate.{Evaluable, Evaluates}
use Rattle.accepting.specs.declared.TextsWeighed.{TextsWeighed}

-- Every size is right, and the area shows nothing.
pub record Judging (script response points area : List ℕ) : Type 0 where
  pub sized : size_answer script response points area ≡ nothing
  pub blank : area ≡ blank_area

-- Where every body is derived, the constraints may be evaluated.
pub record Judgeable (names places nodes : List ℕ) (told : TextsWeighed) : Type 0 where
  pub evaluable! : told.weighed.outcome.number ≡ 0 → Evaluable names places nodes told.progress

-- What the points give where every body is derived, with totals that are 0 after 16; else the answer on the bodies.
pub record PointsJudged (names places nodes : List ℕ) (told : TextsWeighed) (points : List ℕ) (budget : ℕ) (r : Weighed) : Type 0 where
  pub declined! : (told.weighed.outcome.number ≡ 0 → ⊥) → r ≡ told.weighed
  pub given! : told.weighed.outcome.number ≡ 0 → Evaluates names places nodes told.progress points budget r.outcome
  pub bad! : told.weighed.outcome.number ≡ 0 → r.outcome.number ≡ points_answer → r.totals ≡ no_totals
  pub other! : told.weighed.outcome.number ≡ 0 → (r.outcome.number ≡ points_answer → ⊥) → r.totals ≡ told.weighed.totals
