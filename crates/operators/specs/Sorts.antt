-- Sorts, and the rules that give an operator's sort by those of its operands. A sort is written as a number: 0 is `Bool`, and n is `(_ BitVec n)`.
use Rattle.std.specs.Prelude.{ℕ, ◌+◌, ◌-◌, ◌^◌, ◌<◌, ◌≤◌, Bool, true, cond, ◌&&◌, List, [], ◌∷◌, ◌==◌, nat_le, nat_lt}
use Rattle.std.proofs.Math.Option.{Option, none as nothing, some}

-- `Bool`
abbrev pub bool : ℕ
bool = 0

-- "Sorts: `Bool`, `(_ BitVec n)`, n from 1 to 64"
abbrev pub max_width : ℕ
max_width = 64

-- Whether a sort is a `(_ BitVec n)`.
abbrev pub vector : ℕ → Bool
vector s = nat_lt 0 s

-- How many values a sort has: 2 for Bool, 2 ^ n for `(_ BitVec n)`.
abbrev pub values_of : ℕ → ℕ
values_of s = cond (vector s) (2 ^ s) 2

-- A sort, and a number that is a value of it.
pub record Fit (s v : ℕ) : Type 0 where
  pub sort : s ≤ max_width
  pub value : v < values_of s

-- Sorts, and for each a value of it.
pub data AllFit : (ss vs : List ℕ) → Type 0 where
  no_more : AllFit [] []
  also : {s v : ℕ} {ss vs : List ℕ} → Fit s v → AllFit ss vs → AllFit (s ∷ ss) (v ∷ vs)

-- Whether each of the sorts is s.
abbrev pub all_are : ℕ → List ℕ → Bool
all_are s [] = true
all_are s (t ∷ more) = t == s && all_are s more

-- The sort where the test passes, none where it fails.
abbrev pub sort_where : Bool → ℕ → Option ℕ
sort_where test s = cond test (some s) nothing

-- The sort rules of the operators.
pub data SortRule : Type 0 where
  -- operands Bool, result Bool: `not and or xor =>`
  logic : SortRule
  -- operands of one sort, result Bool: `= distinct`
  equality : SortRule
  -- a Bool and two operands of one sort, which is the result's: `ite`
  choice : SortRule
  -- operands of one width, which is the result's: `bvnot` to `bvlshr`, `bvsdiv` to `bvashr`
  width : SortRule
  -- operands of one width, result Bool: `bvult`, `bvslt` to `bvuge`
  order : SortRule
  -- the result as wide as its two operands together: `concat`
  joining : SortRule
  -- bits i down to j of the operand: `(_ extract i j)`
  cutting : SortRule

-- The sort of the result, where the operands have the sorts ss and i and j are the numbers of `(_ extract i j)`; none for operands that do not fit.
-- "`(_ extract i j)`(1), where j ≤ i < n (else 8) and the width is i - j + 1. A `concat` wider than 64 is answer 8."
unfoldable pub sort_by : SortRule → (i j : ℕ) → (ss : List ℕ) → Option ℕ
sort_by logic i j ss = sort_where (all_are bool ss) bool
sort_by equality i j (s ∷ more) = sort_where (all_are s more) bool
sort_by equality i j [] = nothing
sort_by choice i j (c ∷ s ∷ more) = sort_where (c == bool && all_are s more) s
sort_by choice i j (c ∷ []) = nothing
sort_by choice i j [] = nothing
sort_by width i j (s ∷ more) = sort_where (vector s && all_are s more) s
sort_by width i j [] = nothing
sort_by order i j (s ∷ more) = sort_where (vector s && all_are s more) bool
sort_by order i j [] = nothing
sort_by joining i j (s ∷ t ∷ more) = sort_where (vector s && vector t && nat_le (s + t) max_width) (s + t)
sort_by joining i j (s ∷ []) = nothing
sort_by joining i j [] = nothing
sort_by cutting i j (s ∷ more) = sort_where (nat_le j i && nat_lt i s) (i - j + 1)
sort_by cutting i j [] = nothing
