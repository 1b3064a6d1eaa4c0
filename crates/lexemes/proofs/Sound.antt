-- A word of a text that has no fault.
use Prim.Native.Nat.{ℕ}
use native.Mathlib.Omega.{arith}
use mathlib.Core.Path.{◌≡◌}
use Rattle.std.specs.Prelude.{None}
use Rattle.word_kinds.specs.declared.Fault.{Fault}
use Rattle.word_kinds.specs.declared.Kind.{Kind}
use Rattle.word_kinds.specs.declared.Kind.TheVariants.{Close, Faulty}
use Rattle.words.specs.Reading.{close_fault, fault_at, lesser, limit_fault, own_fault}
use Rattle.words.specs.declared.Limits.{Limits}
use Rattle.words.proofs.ScanTurns.{lesser_none}

module _ (limits : Limits) (i depth : ℕ) where
  -- neither by its bytes nor as a bracket
  parts : (kind : Kind) → fault_at limits kind i depth ≡ None → (own_fault kind ≡ None) × (close_fault kind depth ≡ None)
  unfolding fault_at
  parts kind well =
      let p = lesser_none (own_fault kind) (lesser (close_fault kind depth) (limit_fault limits kind i depth)) well in
      (p.0, (lesser_none (close_fault kind depth) (limit_fault limits kind i depth) p.1).0)

  -- it is not faulty
  pub not_faulty : (fault : Fault) → fault_at limits (Faulty fault) i depth ≡ None → ⊥
  not_faulty fault well = let p = (parts (Faulty fault) well).0 in let z : ◌≡◌ {A = ℕ} 0 1 = cc in omega arith

  -- where it closes a list one is open
  pub some_open : fault_at limits Close i depth ≡ None → depth ≡ 0 → ⊥
  some_open well e = let p = rw e at (parts Close well).1 in let z : ◌≡◌ {A = ℕ} 0 1 = cc in omega arith
