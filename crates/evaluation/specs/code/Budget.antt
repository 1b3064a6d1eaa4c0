-- Costs as 64-bit numbers. "It is a whole number and may pass 2^64", yet it is compared with "budget any 64-bit number".
use Rattle.std.specs.Prelude.{ℕ, ◌+◌, ◌-◌, ◌^◌, ◌<◌, min, List, ◌≡◌, get_or, length}
use Rattle.terms.specs.Costs.{defined_cost, function_cost}
use Rattle.terms.specs.Sorts.{Definition}
use Rattle.forest.specs.Limits.{most_defined}

-- A cost as it is held: one less, and at most 2^64 - 1. A cost is at least 1, so that it is at most a 64-bit budget exactly where what is held is
-- less than the budget.
abbrev pub held : ℕ → ℕ
held cost = min (cost - 1) (2 ^ 64 - 1)

-- The list `costs` has what is held of the costs of the bodies: of `define-fun`s from place 0 on, of synthesized functions behind the places for these.
pub record Priced (costs : List ℕ) (defs funs : List Definition) : Type 0 where
  pub defined : (k : ℕ) → k < length defs → get_or costs k 0 ≡ held (defined_cost defs k)
  pub functions : (k : ℕ) → k < length funs → get_or costs (most_defined + k) 0 ≡ held (function_cost defs funs k)
