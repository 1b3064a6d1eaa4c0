-- The operator table. "Each operator's name, operand count and sort rule stand in one table."
use Rattle.std.specs.Prelude.{ℕ, ◌+◌, Bool, true, false, cond, ◌&&◌, List, [], ◌∷◌, length, drop, ◌==◌, nat_eq, nat_le, nat_lt, slice_index, slice_index_or}
use Prim.Native.String.{String}
use Rattle.std.proofs.Math.Option.{Option, none as nothing}
use Rattle.forest.specs.Lists.{same_bytes, spelling}
use Rattle.operators.specs.Sorts.{SortRule, choice, cutting, equality, joining, logic, order, sort_by, width}
use Rattle.operators.specs.Values.{and_value, bvadd_value, bvand_value, bvashr_value, bvlshr_value, bvmul_value, bvneg_value, bvnot_value, bvor_value, bvsdiv_value}
use Rattle.operators.specs.Values.{bvsge_value, bvsgt_value, bvshl_value, bvsle_value, bvslt_value, bvsmod_value, bvsrem_value, bvsub_value, bvudiv_value}
use Rattle.operators.specs.Values.{bvuge_value, bvugt_value, bvule_value, bvult_value, bvurem_value, bvxor_value, chained, concat_value, differ, extract_value}
use Rattle.operators.specs.Values.{group_left, group_right, implies_value, ite_value, not_value, or_value, pairwise, truth, xor_value}

-- What an operator's value is made of: the numbers of `(_ extract i j)`, and the sorts and the values of its operands.
pub record Operands : Type 0 where
  pub i : ℕ
  pub j : ℕ
  pub sorts : List ℕ
  pub values : List ℕ

-- The value of the first operand.
abbrev pub one : Operands → ℕ
one x = slice_index x.values 0

-- The value of the second operand.
abbrev pub two : Operands → ℕ
two x = slice_index x.values 1

-- The value of the third operand.
abbrev pub three : Operands → ℕ
three x = slice_index x.values 2

-- The values of the operands behind the first.
abbrev pub others : Operands → List ℕ
others x = drop 1 x.values

-- The width of the first operand.
abbrev pub width_of_one : Operands → ℕ
width_of_one x = slice_index x.sorts 0

-- The width of the second operand.
abbrev pub width_of_two : Operands → ℕ
width_of_two x = slice_index x.sorts 1

-- A row of the table: an operator's name, how many operands it has, whether it may have more, its sort rule and its value. Its number is its place in the
-- table.
pub record Operator : Type 0 where
  pub name : String
  pub operands : ℕ
  pub many : Bool
  pub rule : SortRule
  pub value : Operands → ℕ

-- A row of an operator that has as many operands as it says.
abbrev pub row : String → ℕ → SortRule → (Operands → ℕ) → Operator
row name operands rule value = record { name = name; operands = operands; many = false; rule = rule; value = value }

-- A row of an operator "with two or more operands as Core says" (E3).
abbrev pub wide : String → SortRule → (Operands → ℕ) → Operator
wide name rule value = record { name = name; operands = 2; many = true; rule = rule; value = value }

-- Whether an operator takes n operands.
abbrev pub takes : Operator → ℕ → Bool
takes r n = cond r.many (nat_le r.operands n) (n == r.operands)

-- "Operators, two operands each unless said: `not`(1) `and or xor => = distinct ite`(3); `bvnot`(1) `bvneg`(1) `bvand bvor bvxor bvadd bvsub bvmul bvudiv
-- bvurem bvshl bvlshr bvult concat`, `(_ extract i j)`(1)"; "`and or xor` group from the left, `=>` from the right, `=` chains, `distinct` is pairwise, each
-- with two or more operands as Core says." (E3) "Add `bvsdiv bvsrem bvsmod bvashr bvslt bvsle bvsgt bvsge` and the unsigned `bvule bvugt bvuge`, with SMT-LIB's
-- meaning." (E4) A row keeps its place for good: step lists that are stored name operators by their numbers.
unfoldable pub operators : List Operator
operators =
    row "not" 1 logic (λ x. not_value (one x))
    ∷ wide "and" logic (λ x. group_left and_value (one x) (others x))
    ∷ wide "or" logic (λ x. group_left or_value (one x) (others x))
    ∷ wide "xor" logic (λ x. group_left xor_value (one x) (others x))
    ∷ wide "=>" logic (λ x. group_right implies_value (one x) (others x))
    ∷ wide "=" equality (λ x. truth (chained nat_eq (one x) (others x)))
    ∷ wide "distinct" equality (λ x. truth (pairwise differ x.values))
    ∷ row "ite" 3 choice (λ x. ite_value (one x) (two x) (three x))
    ∷ row "bvnot" 1 width (λ x. bvnot_value (width_of_one x) (one x))
    ∷ row "bvneg" 1 width (λ x. bvneg_value (width_of_one x) (one x))
    ∷ row "bvand" 2 width (λ x. bvand_value (one x) (two x))
    ∷ row "bvor" 2 width (λ x. bvor_value (one x) (two x))
    ∷ row "bvxor" 2 width (λ x. bvxor_value (one x) (two x))
    ∷ row "bvadd" 2 width (λ x. bvadd_value (width_of_one x) (one x) (two x))
    ∷ row "bvsub" 2 width (λ x. bvsub_value (width_of_one x) (one x) (two x))
    ∷ row "bvmul" 2 width (λ x. bvmul_value (width_of_one x) (one x) (two x))
    ∷ row "bvudiv" 2 width (λ x. bvudiv_value (width_of_one x) (one x) (two x))
    ∷ row "bvurem" 2 width (λ x. bvurem_value (one x) (two x))
    ∷ row "bvshl" 2 width (λ x. bvshl_value (width_of_one x) (one x) (two x))
    ∷ row "bvlshr" 2 width (λ x. bvlshr_value (width_of_one x) (one x) (two x))
    ∷ row "bvult" 2 order (λ x. bvult_value (one x) (two x))
    ∷ row "concat" 2 joining (λ x. concat_value (width_of_two x) (one x) (two x))
    ∷ row "extract" 1 cutting (λ x. extract_value x.i x.j (one x))
    ∷ row "bvsdiv" 2 width (λ x. bvsdiv_value (width_of_one x) (one x) (two x))
    ∷ row "bvsrem" 2 width (λ x. bvsrem_value (width_of_one x) (one x) (two x))
    ∷ row "bvsmod" 2 width (λ x. bvsmod_value (width_of_one x) (one x) (two x))
    ∷ row "bvashr" 2 width (λ x. bvashr_value (width_of_one x) (one x) (two x))
    ∷ row "bvslt" 2 order (λ x. bvslt_value (width_of_one x) (one x) (two x))
    ∷ row "bvsle" 2 order (λ x. bvsle_value (width_of_one x) (one x) (two x))
    ∷ row "bvsgt" 2 order (λ x. bvsgt_value (width_of_one x) (one x) (two x))
    ∷ row "bvsge" 2 order (λ x. bvsge_value (width_of_one x) (one x) (two x))
    ∷ row "bvule" 2 order (λ x. bvule_value (one x) (two x))
    ∷ row "bvugt" 2 order (λ x. bvugt_value (one x) (two x))
    ∷ row "bvuge" 2 order (λ x. bvuge_value (one x) (two x))
    ∷ []

-- How many operators there are, which is the number of rows (`proofs/Table: operators_counted`); also the number that stands for "no operator".
abbrev pub operator_count : ℕ
operator_count = 34

-- A row for a number that is no operator's.
abbrev pub no_operator : Operator
no_operator = row "" 0 logic (λ x. 0)

-- Operator o.
unfoldable pub operator_at : ℕ → Operator
operator_at o = slice_index_or operators o no_operator

-- The place of the first row that has the name, counted from o; past the last row where none has it.
unfoldable pub named : List Operator → ℕ → (name : List ℕ) → ℕ
named [] o name = o
named (r ∷ more) o name =
    let later = named more (o + 1) name in
    cond (same_bytes (spelling r.name) name) o later

-- The number of the operator that a word names, `operator_count` where it names none. `extract` has a number too; that it heads no term but within
-- `(_ extract i j)` is said where symbols get their meaning.
unfoldable pub operator_of : (word : List ℕ) → ℕ
operator_of word = named operators 0 word

-- The sort of operator o over operands of the sorts ss; none where there is no such operator, or their number or a sort is wrong.
unfoldable pub operator_sort : (o i j : ℕ) → (ss : List ℕ) → Option ℕ
operator_sort o i j ss = cond (nat_lt o operator_count && takes (operator_at o) (length ss)) (sort_by (operator_at o).rule i j ss) nothing

-- The value of operator o over operands of the sorts ss and the values vs.
unfoldable pub operator_value : (o i j : ℕ) → (ss vs : List ℕ) → ℕ
operator_value o i j ss vs = (operator_at o).value (record { i = i; j = j; sorts = ss; values = vs })
