-- Walks over trees that stand one after the other: what each turn finds, and what it leaves.
use Prim.Native.Nat.{ℕ, ◌+◌, ◌-◌, ◌≤◌, ◌<◌}
use native.Mathlib.Omega.{arith}
use mathlib.Core.Path.{◌≡◌}
use mathlib.Core.List.{List, [], ◌∷◌}
use lib.ListN.{get_or, length}
use Rattle.terms.specs.code.Nodes.{size_at}
use Rattle.term_sorts.specs.code.Operands.{Stand, Trees}

-- So many trees are left from node `here` on, and what is owed of their sorts.
pub record Left {A : Type 0} (number : A → ℕ) (forms column : List ℕ) (here left : ℕ) (Owed : List A → Type 0) : Type 0 where
  pub rest : List A
  pub stand : Stand number forms column here rest
  pub counted : left ≡ length rest
  pub owed : Owed rest

-- The first of them, and those that follow.
pub record Turn {A : Type 0} (number : A → ℕ) (forms column : List ℕ) (here left : ℕ) (Owed : List A → Type 0) : Type 0 where
  pub first : A
  pub more : List A
  pub number_is : get_or column here 0 ≡ number first
  pub room : here + size_at forms here ≤ length column
  pub stand : Stand number forms column (here + size_at forms here) more
  pub counted : left - 1 ≡ length more
  pub owed : Owed (first ∷ more)

module _ {A : Type 0} {number : A → ℕ} {forms column : List ℕ} where
  -- All of them are left, at the start.
  pub all_left : {place count : ℕ} (t : Trees number forms column place count) {Owed : List A → Type 0} → Owed t.sorts
      → Left number forms column place count Owed
  all_left t owed = record { rest = t.sorts; stand = t.stand; counted = t.counted; owed = owed }

  module _ {here left : ℕ} {Owed : List A → Type 0} where
    -- None of them is left, at the end.
    pub none_left : Left number forms column here left Owed → left ≤ 0 → Owed []
    none_left l h = go l.rest l.counted l.owed
      where
        go : (rest : List A) → left ≡ length rest → Owed rest → Owed []
        go [] counted owed = owed
        go (s ∷ more) counted owed = absurd (omega arith)

    -- The first of trees of these sorts.
    turn_of : (rest : List A) → Stand number forms column here rest → left ≡ length rest → Owed rest → 0 < left → Turn number forms column here left Owed
    unfolding Stand
    turn_of [] stand counted owed h = absurd (omega arith)
    turn_of (s ∷ more) stand counted owed h =
        record { first = s; more = more; number_is = stand.0; room = stand.1; stand = stand.2; counted = omega arith; owed = owed }

    -- One is the first, where some are left.
    pub turn : Left number forms column here left Owed → 0 < left → Turn number forms column here left Owed
    turn l h = turn_of l.rest l.stand l.counted l.owed h

    -- Those that follow it are left.
    pub rest_left : {Owing : List A → Type 0} (t : Turn number forms column here left Owed) {size : ℕ} → size ≡ size_at forms here → Owing t.more
        → Left number forms column (here + size) (left - 1) Owing
    rest_left t q owed = record { rest = t.more; stand = rw q t.stand; counted = t.counted; owed = owed }
