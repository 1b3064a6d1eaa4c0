-- Sets of non-terminals as masks.
use Rattle.std.specs.Prelude.{Bool, true, ℕ, ◌/◌, ◌%◌, ◌^◌, eqb, ◌≡◌}

-- The non-terminal A is in the set that a mask stands for.
unfoldable pub has : ℕ → ℕ → Bool
has mask A = eqb (mask / 2 ^ A % 2) 1

-- r is the set m with a put in.
pub record Puts (m a r : ℕ) : Type 0 where
  pub on : has r a ≡ true
  pub off : (b : ℕ) → (b ≡ a → ⊥) → has r b ≡ has m b
