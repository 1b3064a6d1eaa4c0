-- Whether a list of rules derives a body.
use Rattle.std.specs.Prelude.{◌≡◌, Bool, true, false, ℕ, List, []}
use Rattle.forest.specs.Forest.{count}
use Rattle.derivation.specs.Derivation.{Simple}
use Rattle.derivation.specs.code.Tables.{Given}
use Rattle.derivation.specs.Answer.{start}

-- The tables hold rules and one body.
pub record FollowsPre (rules forms body : List ℕ) : Type 0 where
  pub given : Given rules forms body
  pub one : count given.F ≡ 1

-- "each list derives its body without using a non-terminal twice at one place": the answer is yes where the whole list does so, and no where it does not.
pub record FollowsPost (rules forms body list : List ℕ) (p : FollowsPre rules forms body) (answer : Bool) : Type 0 where
  pub yes! : answer ≡ true → Simple p.given.G [] start p.given.F list
  pub no! : answer ≡ false → Simple p.given.G [] start p.given.F list → ⊥

-- The same, for whatever the tables hold.
abbrev pub Follows : (rules forms body list : List ℕ) → Bool → Type 0
Follows rules forms body list answer = (p : FollowsPre rules forms body) → FollowsPost rules forms body list p answer
