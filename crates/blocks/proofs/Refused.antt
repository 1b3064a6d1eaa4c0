-- The block that answer 21 names is one of the file's.
use mathlib.Core.Path.{◌≡◌, refl}
use mathlib.Core.Bool.{Bool, true, false, cond}
use mathlib.Core.Option.{Option, none, some}
use Prim.Native.Nat.{ℕ, zero, suc, ◌+◌, ◌*◌, ◌<◌}
use native.Mathlib.Omega.{arith}
use mathlib.Core.List.{List}
use lib.Dec.{ltb}
use lib.ListN.{length}
use borrow.Author.Tests.{ltb-false, ltb-true}
use Rattle.forest.proofs.Options.{never}
use Rattle.blocks.specs.Blocks.{blocks_in, first_wrong, payload_in, right_block, wrong_from}
use Rattle.blocks.specs.Layout.{file_fault, filling_in, last_needed, misfilled, needed_in, or_else, zeros}
use Rattle.blocks.proofs.Again.{payload_length}

-- a wrong block is one of those that were looked at
wrong_low : (file : List ℕ) (k n i : ℕ) → wrong_from file k n ≡ some i → i < k + n
unfolding wrong_from
wrong_low file k zero i e = let z : ◌≡◌ {A = ℕ} 0 1 = cc in absurd (omega arith)
wrong_low file k (suc n) i e = go (right_block file k) e (wrong_low file (k + 1) n i)
  where
    go : (r : Bool) → cond r (wrong_from file (k + 1) n) (some k) ≡ some i → (wrong_from file (k + 1) n ≡ some i → i < k + 1 + n) → i < k + suc n
    go true f more = omega (arith, more f)
    go false f more = let z : k ≡ i = cc in omega arith

pub first_low : (file : List ℕ) (i : ℕ) → first_wrong file ≡ some i → i < blocks_in file
unfolding first_wrong
first_low file i e = omega (arith, wrong_low file 0 (blocks_in file) i e)

told_low : (a z s : Bool) (k n i : ℕ) → cond a (some 0) (cond z (cond s (some (k + 1)) none) (some k)) ≡ some i → 0 < n → (a ≡ false → k < n)
    → (s ≡ true → k + 1 < n) → i < n
told_low true z s k n i e h f g = let q : ◌≡◌ {A = ℕ} 0 i = cc in omega arith
told_low false false s k n i e h f g = let q : k ≡ i = cc in omega (arith, f refl)
told_low false true true k n i e h f g = let q : k + 1 ≡ i = cc in omega (arith, g refl)
told_low false true false k n i e h f g = never e

filling_low : (file : List ℕ) (i : ℕ) → misfilled file ≡ some i → i < blocks_in file
unfolding misfilled
filling_low file i e =
    let l = payload_length file in
    told_low (ltb (length (payload_in file)) (needed_in file)) (zeros (filling_in file)) (ltb (510 * (last_needed file + 1)) (length (payload_in file)))
    (last_needed file) (blocks_in file) i e (omega arith)
    (λ q. let h = ltb-false (length (payload_in file)) (needed_in file) q in omega arith)
    (λ q. let h = ltb-true (510 * (last_needed file + 1)) (length (payload_in file)) q in omega arith)

either_low : (o later : Option ℕ) (n i : ℕ) → or_else o later ≡ some i → ((k : ℕ) → o ≡ some k → k < n) → ((k : ℕ) → later ≡ some k → k < n) → i < n
either_low none later n i e f g = g i e
either_low (some k) later n i e f g = f i e

-- a block that is refused is one of the file's
pub fault_low : (file : List ℕ) (i : ℕ) → file_fault file ≡ some i → i < blocks_in file
unfolding file_fault
fault_low file i e = either_low (first_wrong file) (misfilled file) (blocks_in file) i e (first_low file) (filling_low file)
