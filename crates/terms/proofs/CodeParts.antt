-- What is put into a code or a value is read out of it.
use Prim.Native.Nat.{ℕ, ◌<◌}
use native.Mathlib.Omega.{arith}
use mathlib.Core.Path.{◌≡◌}
use Rattle.terms.specs.code.Codes.{code_with, cut_value, head_of, high_in, kind_count, kind_of, low_count, low_in}

-- The kind.
pub kind_with : (kind head : ℕ) → kind < kind_count → kind_of (code_with kind head) ≡ kind
kind_with kind head h = omega arith

-- What stands beside it.
pub head_with : (kind head : ℕ) → kind < kind_count → head_of (code_with kind head) ≡ head
head_with kind head h = omega arith

-- The numbers of `(_ extract i j)`.
pub high-in : (i j : ℕ) → j < low_count → high_in (cut_value i j) ≡ i
high-in i j h = omega arith

pub low-in : (i j : ℕ) → j < low_count → low_in (cut_value i j) ≡ j
low-in i j h = omega arith
