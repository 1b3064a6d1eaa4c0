-- What the sort of a call asks and gives.
use Rattle.std.specs.Prelude.{ℕ, ◌<◌, Bool, List, ◌≡◌, length}
use Rattle.operators.specs.Sorts.{sort_where}
use Rattle.terms.specs.Sorts.{Signature, same_sorts}
use Rattle.term_sorts.specs.code.Forms.{sort_number}
use Rattle.term_sorts.specs.code.Signatures.{RowIs, all_rows}
use Rattle.term_sorts.specs.code.Operands.{SortedTrees}

-- Operands that have sorts, and a row of a signature.
pub record Called (forms signatures column : List ℕ) (place count row : ℕ) : Type 0 where
  pub trees : SortedTrees forms column place count
  pub by : Signature
  pub row_is : RowIs signatures row by
  pub low : row < all_rows

-- The sort that the function has over them.
abbrev pub CalledGives : (forms signatures column : List ℕ) (place count row r : ℕ) → Type 0
CalledGives forms signatures column place count row r =
    (e : Called forms signatures column place count row) → r ≡ sort_number (sort_where (same_sorts e.trees.sorts e.by.arguments) e.by.result)

-- As many operands as the function has arguments.
pub record CalledFully (forms signatures column : List ℕ) (place count row : ℕ) : Type 0 where
  pub called : Called forms signatures column place count row
  pub full : count ≡ length called.by.arguments

-- Whether their sorts are those of the arguments.
abbrev pub ArgumentsFit : (forms signatures column : List ℕ) (place count row : ℕ) → Bool → Type 0
ArgumentsFit forms signatures column place count row r =
    (e : CalledFully forms signatures column place count row) → r ≡ same_sorts e.called.trees.sorts e.called.by.arguments
