-- Zeros behind the payload that is needed, and the block that answer 21 names.
use mathlib.Core.Path.{◌≡◌, refl, sym, ap, ◌∙◌}
use mathlib.Core.Bool.{Bool, true, false, ◌&&◌}
use mathlib.Core.Option.{none, some}
use Prim.Native.Nat.{ℕ, zero, suc, ◌+◌, ◌*◌, ◌-◌, ◌/◌, ◌<◌, ◌≤◌}
use native.Mathlib.Omega.{arith}
use mathlib.Core.List.{List, [], ◌∷◌}
use Rattle.std.proofs.Common.{◌↔◌}
use lib.Dec.{eqb, ltb}
use lib.ListN.{drop, get_or, length, length-drop, length-take, take}
use lib.Seq.{get_or-drop, get_or-take}
use borrow.Author.Tests.{eq-eqb, eqb-true, le-ltb, lt-ltb}
use Rattle.forest.proofs.Bools.{and_left, and_right}
use Rattle.blocks.specs.Blocks.{payload_in}
use Rattle.blocks.specs.Layout.{filling_in, last_needed, misfilled, needed_in, zeros}
use Rattle.blocks.proofs.Again.{payload_length}

-- bytes are zeros where each is
zeros_iff : (bytes : List ℕ) → zeros bytes ≡ true ↔ ((k : ℕ) → k < length bytes → get_or bytes k 0 ≡ 0)
unfolding zeros
zeros_iff [] = (λ e k h. absurd (omega arith), λ all. refl)
zeros_iff (b ∷ bytes) = (to (zeros_iff bytes).0, from (zeros_iff bytes).1)
  where
    to : (zeros bytes ≡ true → (k : ℕ) → k < length bytes → get_or bytes k 0 ≡ 0) → eqb b 0 && zeros bytes ≡ true → (k : ℕ) → k < suc (length bytes) → get_or (b ∷ bytes) k 0 ≡ 0
    to more e zero h = eqb-true b 0 (and_left (eqb b 0) (zeros bytes) e)
    to more e (suc k) h = more (and_right (eqb b 0) (zeros bytes) e) k (omega arith)

    from : (((k : ℕ) → k < length bytes → get_or bytes k 0 ≡ 0) → zeros bytes ≡ true) → ((k : ℕ) → k < suc (length bytes) → get_or (b ∷ bytes) k 0 ≡ 0) → eqb b 0 && zeros bytes ≡ true
    from more all = rw (eq-eqb b 0 (all 0 (omega arith)), more (λ k h. all (suc k) (omega arith)))

-- and so are those of a part
pub zeros_told : (P : List ℕ) {from end : ℕ} → end ≤ length P → {r : Bool} → r ≡ true ↔ ((k : ℕ) → from ≤ k → k < end → get_or P k 0 ≡ 0)
    → r ≡ zeros (take (end - from) (drop from P))
zeros_told P {from} {end} within {r} told = same r (zeros part) (λ e. (zeros_iff part).1 (inner e)) (λ e. told.1 (outer e))
  where
    part : List ℕ
    part = take (end - from) (drop from P)

    same : (a b : Bool) → (a ≡ true → b ≡ true) → (b ≡ true → a ≡ true) → a ≡ b
    same true b f g = sym (f refl)
    same false false f g = refl
    same false true f g = g refl

    long : length part ≡ end - from
    long = omega (arith, length-take (end - from) (drop from P), length-drop from P)

    inner : r ≡ true → (k : ℕ) → k < length part → get_or part k 0 ≡ 0
    inner e k h = get_or-take (end - from) (drop from P) k 0 (omega (arith, long)) ∙ get_or-drop from P k 0 ∙ told.0 e (from + k) (omega arith) (omega (arith, long))

    outer : zeros part ≡ true → (k : ℕ) → from ≤ k → k < end → get_or P k 0 ≡ 0
    outer e k l h =
        let z : from + (k - from) ≡ k = omega arith in
        ap (λ (n : ℕ). get_or P n 0) (sym z)
        ∙ sym (get_or-take (end - from) (drop from P) (k - from) 0 (omega arith) ∙ get_or-drop from P (k - from) 0)
        ∙ (zeros_iff part).0 e (k - from) (omega (arith, long))

-- what the code answers is `misfilled`
module _ (file : List ℕ) {needed : ℕ} (en : needed ≡ needed_in file) where
  pub past_told : 510 * (length file / 512) < needed → misfilled file ≡ some 0
  unfolding misfilled
  past_told h = rw (lt-ltb (length (payload_in file)) (needed_in file) (omega (arith, payload_length file)))

  module _ (h : needed ≤ 510 * (length file / 512)) where
    pub block_within : 510 * ((needed - 1) / 510 + 1) ≤ length (payload_in file)
    block_within = omega (arith, payload_length file)

    fits : ltb (length (payload_in file)) (needed_in file) ≡ false
    fits = le-ltb (length (payload_in file)) (needed_in file) (omega (arith, payload_length file))

    last_is : last_needed file ≡ (needed - 1) / 510
    last_is = ap (λ (n : ℕ). (n - 1) / 510) (sym en)

    module _ {z : Bool} (ez : z ≡ zeros (take (510 * ((needed - 1) / 510 + 1) - needed) (drop needed (payload_in file)))) where
      zeros_are : zeros (filling_in file) ≡ z
      unfolding filling_in
      zeros_are = sym (ez ∙ ap (λ (n : ℕ). zeros (take (510 * ((n - 1) / 510 + 1) - n) (drop n (payload_in file)))) en)

      pub filling_told : z ≡ false → misfilled file ≡ some ((needed - 1) / 510)
      unfolding misfilled
      filling_told t = rw (fits, zeros_are ∙ t) (ap some last_is)

      module _ (t : z ≡ true) where
        pub spare_told : 510 * ((needed - 1) / 510 + 1) < 510 * (length file / 512) → misfilled file ≡ some ((needed - 1) / 510 + 1)
        unfolding misfilled
        spare_told s =
            rw (
              fits,
              zeros_are ∙ t,
              lt-ltb (510 * (last_needed file + 1)) (length (payload_in file)) (omega (arith, payload_length file, last_is)),
            )
            (ap (λ (n : ℕ). some (n + 1)) last_is)

        pub none_told : 510 * (length file / 512) ≤ 510 * ((needed - 1) / 510 + 1) → misfilled file ≡ none
        unfolding misfilled
        none_told s =
            rw (
              fits,
              zeros_are ∙ t,
              le-ltb (510 * (last_needed file + 1)) (length (payload_in file)) (omega (arith, payload_length file, last_is)),
            )
