-- What putting payload bytes writes at a place of a file, and where the place is then.
use Rattle.std.specs.Prelude.{◌≡◌, cond, ℕ, ◌+◌, ◌*◌, ◌%◌, ◌<◌, ◌≤◌, List, [], ◌∷◌, ◌++◌, eqb, length}
use Rattle.std.proofs.lemmas.List.Edits.{sets}
use Rattle.blocks.specs.declared.Place.{Place}
use Rattle.blocks.specs.Blocks.{low, pay_size}

-- The sum of the open block with one byte more.
abbrev pub sum_with : (filled sum byte : ℕ) → ℕ
sum_with filled sum byte = (sum + (filled + 1) * byte) % 65521

-- A payload byte, and behind the last one of a block the two bytes of the sum.
abbrev pub put_out : (filled sum byte : ℕ) → List ℕ
put_out filled sum byte = cond (eqb (filled + 1) pay_size) (byte ∷ low 2 (sum_with filled sum byte)) (byte ∷ [])

-- How many bytes the open block has then.
abbrev pub filled_next : (filled : ℕ) → ℕ
filled_next filled = cond (eqb (filled + 1) pay_size) 0 (filled + 1)

-- The sum of the open block after a byte; 0 where a new one is begun.
abbrev pub sum_next : (filled sum byte : ℕ) → ℕ
sum_next filled sum byte = cond (eqb (filled + 1) pay_size) 0 (sum_with filled sum byte)

-- What payload bytes write.
unfoldable pub written : (filled sum : ℕ) → List ℕ → List ℕ
written filled sum [] = []
written filled sum (b ∷ more) = put_out filled sum b ++ written (filled_next filled) (sum_next filled sum b) more

-- How many payload bytes the open block has after these.
unfoldable pub filled_by : (filled : ℕ) → List ℕ → ℕ
filled_by filled [] = filled
filled_by filled (b ∷ more) = filled_by (filled_next filled) more

-- The sum of the open block after these.
unfoldable pub sum_by : (filled sum : ℕ) → List ℕ → ℕ
sum_by filled sum [] = sum
sum_by filled sum (b ∷ more) = sum_by (filled_next filled) (sum_next filled sum b) more

-- What payload bytes write at a place.
abbrev pub out : Place → List ℕ → List ℕ
out place bytes = written place.filled place.sum bytes

-- The place is within a block, and there is room for what the bytes write.
pub record Fitting (place : Place) (bytes area : List ℕ) : Type 0 where
  pub filled_low : place.filled < pay_size
  pub sum_low : place.sum < 65521
  pub room : place.at + length (out place bytes) ≤ length area

-- The bytes are written, and the place is behind them.
pub record Written (place : Place) (bytes lent area : List ℕ) (after : Place) : Type 0 where
  pub area_is : area ≡ sets lent place.at (out place bytes)
  pub at_is : after.at ≡ place.at + length (out place bytes)
  pub filled_is : after.filled ≡ filled_by place.filled bytes
  pub sum_is : after.sum ≡ sum_by place.filled place.sum bytes
