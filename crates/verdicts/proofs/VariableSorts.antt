-- The sorts of a script's variables, read from the table of names one after the other.
use Prim.Native.Nat.{ℕ, ◌+◌, ◌<◌}
use native.Mathlib.Numerals.{add-one}
use native.Mathlib.Omega.{arith}
use mathlib.Core.Path.{◌≡◌, refl}
use mathlib.Core.List.{List}
use lib.ListN.{length, length-set, set, take}
use lib.Seq.{take-suc-set}
use Rattle.forest.specs.Limits.{most_variables}
use Rattle.names.specs.code.Table.{sort_in, sorts_from, variable_row}
use Rattle.names.proofs.NamePut.{last_row}

-- The sorts of the first k variables are read.
pub record SortsRead (names sorts : List ℕ) (k : ℕ) : Type 0 where
  pub long : length sorts ≡ most_variables
  pub read : take k sorts ≡ sorts_from names variable_row k

-- At the start none is.
pub sorts_start : (names sorts : List ℕ) → length sorts ≡ most_variables → SortsRead names sorts 0
unfolding sorts_from
sorts_start names sorts long = record { long = long; read = refl }

-- One more is.
pub sorts_more : {names sorts : List ℕ} {k sort : ℕ} → SortsRead names sorts k → k < most_variables → sort ≡ sort_in names (variable_row + k)
    → SortsRead names (set sorts k sort) (k + 1)
sorts_more {names} {sorts} {k} {sort} done low is =
    record {
      long = rw length-set done.long;
      read = rw ((last_row names variable_row k).sort, ← done.read, ← is, add-one) (take-suc-set sorts k sort (omega (arith, done.long)));
    }
