-- What the functions of the operator table ask and give.
use Rattle.std.specs.Prelude.{◌≡◌, ℕ, ◌<◌, false, List, [], ◌∷◌, map, slice_index}
use Rattle.std.proofs.Math.Option.{some}
use Rattle.forest.specs.Lists.{spelling}
use Rattle.operators.specs.Operators.{Operator, operator_at, operator_sort, operator_value}
use Rattle.operators.specs.Sorts.{AllFit}
use Rattle.operators.specs.code.Vectors.{Words}

-- The number of `extract`.
abbrev pub extract_number : ℕ
extract_number = 22

-- The bytes of the names of the rows.
abbrev pub spellings : List Operator → List (List ℕ)
spellings rows = map spelling (map (λ (o : Operator). o.name) rows)

-- Operands of these values that an operator takes, with the numbers of an `extract`, and of the first two the widths. A width that is not there is 0.
pub record Operable (operator high low widthOne widthTwo : ℕ) (values : List ℕ) : Type 0 where
  pub sorts : List ℕ
  pub result : ℕ
  pub sorted : operator_sort operator high low sorts ≡ some result
  pub fit : AllFit sorts values
  pub width_one : widthOne ≡ slice_index sorts 0
  pub width_two : widthTwo ≡ slice_index sorts 1

-- The value that the operator gives them.
abbrev pub Applied : (operator high low widthOne widthTwo : ℕ) (values : List ℕ) (r : ℕ) → Type 0
Applied operator high low widthOne widthTwo values r =
    (e : Operable operator high low widthOne widthTwo values) → r ≡ operator_value operator high low e.sorts values

-- Operands that an operator of a fixed number of operands takes: of the first three the values. What is not there is 0.
pub record FixedOperable (operator high low widthOne widthTwo one two three : ℕ) : Type 0 where
  pub fixed : (operator_at operator).many ≡ false
  pub sorts : List ℕ
  pub values : List ℕ
  pub result : ℕ
  pub sorted : operator_sort operator high low sorts ≡ some result
  pub fit : AllFit sorts values
  pub width_one : widthOne ≡ slice_index sorts 0
  pub width_two : widthTwo ≡ slice_index sorts 1
  pub is_one : one ≡ slice_index values 0
  pub is_two : two ≡ slice_index values 1
  pub is_three : three ≡ slice_index values 2

-- The value that the operator gives them.
abbrev pub FixedApplied : (operator high low widthOne widthTwo one two three r : ℕ) → Type 0
FixedApplied operator high low widthOne widthTwo one two three r =
    (e : FixedOperable operator high low widthOne widthTwo one two three) → r ≡ operator_value operator high low e.sorts e.values

-- An operator behind `extract`, and two words of a width.
pub record LaterOperable (operator width one two : ℕ) : Type 0 where
  pub later : extract_number < operator
  pub words : Words width one two

-- The value that the operator gives them.
abbrev pub LaterApplied : (operator width one two r : ℕ) → Type 0
LaterApplied operator width one two r = r ≡ operator_value operator 0 0 (width ∷ []) (one ∷ two ∷ [])

-- Operands that an operator takes, with the numbers of an `extract`: of the first two the sorts. What is not there is 0.
pub record Sortable (operator high low sortOne sortTwo : ℕ) : Type 0 where
  pub sorts : List ℕ
  pub result : ℕ
  pub sorted : operator_sort operator high low sorts ≡ some result
  pub sort_one : sortOne ≡ slice_index sorts 0
  pub sort_two : sortTwo ≡ slice_index sorts 1

-- The sort that the operator gives them.
abbrev pub ResultSort : (operator high low sortOne sortTwo r : ℕ) → Type 0
ResultSort operator high low sortOne sortTwo r = (e : Sortable operator high low sortOne sortTwo) → r ≡ e.result
