-- Numbers and their bytes, low byte first, are told by each other.
use mathlib.Core.Path.{◌≡◌, refl, ap, ◌∙◌}
use Prim.Native.Nat.{ℕ, zero, suc, ◌+◌, ◌*◌, ◌/◌, ◌%◌, ◌^◌, ◌<◌}
use native.Mathlib.Omega.{arith}
use mathlib.Core.List.{List, [], ◌∷◌}
use lib.ListN.{get_or, length}
use Rattle.blocks.specs.Blocks.{low, number_of}

pub number_low : (size n : ℕ) → n < 256 ^ size → number_of (low size n) ≡ n
number_low zero n h = omega arith
number_low (suc size) n h = omega (arith, number_low size (n / 256) (omega arith))

pub low_number : (bytes : List ℕ) → ((k : ℕ) → get_or bytes k 0 < 256) → low (length bytes) (number_of bytes) ≡ bytes
low_number [] h = refl
low_number (b ∷ bytes) h =
    let l : b < 256 = h 0 in
    let e1 : (b + 256 * number_of bytes) % 256 ≡ b = omega arith in
    let e2 : (b + 256 * number_of bytes) / 256 ≡ number_of bytes = omega arith in
    let e3 : low (length bytes) (number_of bytes) ≡ bytes = low_number bytes (λ k. h (suc k)) in
    ap (λ (x : ℕ). x ∷ low (length bytes) ((b + 256 * number_of bytes) / 256)) e1
    ∙ ap (λ (x : ℕ). b ∷ low (length bytes) x) e2
    ∙ ap (λ (x : List ℕ). b ∷ x) e3
