-- Laws of options.
use Prim.Native.Nat.{ℕ}
use native.Mathlib.Omega.{arith}
use mathlib.Core.Path.{◌≡◌, refl}
use mathlib.Core.Bool.{Bool, true, false, cond}
use mathlib.Core.Option.{Option, none as nothing, some}

-- nothing is both none and some
pub never : {A B : Type 0} {x : A} → nothing ≡ some x → B
never h = let z : ◌≡◌ {A = ℕ} 0 1 = cc in absurd (omega arith)

-- a test that gives something has passed
pub passed : {A : Type 0} (test : Bool) {m : Option A} {x : A} → cond test m nothing ≡ some x → (test ≡ true) × (m ≡ some x)
passed true h = (refl, h)
passed false h = never h
