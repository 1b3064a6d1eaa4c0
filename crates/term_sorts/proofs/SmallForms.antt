-- Small forms with their sorts and faults, and tables that hold one of them: what `fill_sorts` asks can be met.
use Prim.Native.Nat.{ℕ, zero, suc, ◌+◌, ◌≤◌, ◌<◌}
use native.Mathlib.Omega.{arith}
use mathlib.Core.Path.{◌≡◌, refl, sym}
use mathlib.Core.List.{List, [], ◌∷◌, ◌++◌, append-nil, map}
use lib.ListN.{get_or, length, replicate}
use Rattle.forest.specs.Forest.{Forest, none, tree}
use Rattle.forest.specs.Lists.{spelling, same_bytes}
use Rattle.forest.specs.code.Cursors.{size}
use Rattle.forest.specs.code.Rows.{number_at}
use Rattle.operators.specs.Operators.{named, operator_at, operator_of, operator_sort, operators}
use Rattle.operators.specs.Sorts.{sort_by}
use Rattle.derivation.specs.Derivation.{Item, non_terminal, the}
use Rattle.derivation.specs.code.Tables.{form_table}
use Rattle.terms.specs.Labels.{function, literal, operator}
use Rattle.terms.specs.Sorts.{called_sort, label_sort, same_sorts, sort_over, with_sort}
use Rattle.term_sorts.specs.Forms.{FormScope, form_sorts, item_sort}
use Rattle.term_sorts.specs.code.Forms.{fault_from, sort_column}
use Rattle.term_sorts.specs.code.Sorting.{SortsFilling}
use Rattle.term_sorts.specs.code.Signatures.{Every, RowsAre, Sortable, SortsAre, function_signature, signature_width}

-- A synthesized function from two bits to a Bool, and a non-terminal of one bit.
abbrev scope : FormScope
scope = record {
  terms = record { names = []; defined = []; functions = record { arguments = 2 ∷ []; result = 0 } ∷ [] };
  non_terminals = 1 ∷ [];
}

-- The table of these.
abbrev signatures : List ℕ
signatures = replicate 320 0 ++ (1 ∷ 0 ∷ 2 ∷ replicate 77 0) ++ (0 ∷ 1 ∷ [])

-- The non-terminal, and `#b1`.
abbrev hole : (rest : Forest Item) → Forest Item
hole rest = tree (non_terminal 0) none rest

abbrev bit : (rest : Forest Item) → Forest Item
bit rest = tree (the (literal 1 1)) none rest

-- `concat` of the two, and the function of a term.
abbrev pair : (rest : Forest Item) → Forest Item
pair rest = tree (the (operator (operator_of (spelling "concat")) 0 0)) (hole (bit none)) rest

abbrev test : (ops : Forest Item) → Forest Item
test ops = tree (the (function 0)) ops none

-- Forms: sound, with an operand of another sort, with an operand too few, and with a fault in an operand.
abbrev cases : List (Forest Item)
cases = test (pair none) ∷ test (hole none) ∷ test none ∷ test (test (bit none)) ∷ []

-- Their sorts, each one more, and 0 where there is none.
pub bench_sorts : map (sort_column scope) cases ≡ (1 ∷ 3 ∷ 2 ∷ 2 ∷ []) ∷ (0 ∷ 2 ∷ []) ∷ (0 ∷ []) ∷ (0 ∷ 0 ∷ 2 ∷ []) ∷ []
unfolding called_sort form_sorts item_sort label_sort named operator_at operator_of operator_sort operators same_bytes same_sorts sort_by sort_column sort_over with_sort
bench_sorts = refl

-- Their first faults, 9 where there is none.
pub bench_faults : map (fault_from scope 9 0) cases ≡ 9 ∷ 0 ∷ 0 ∷ 1 ∷ []
unfolding called_sort fault_from form_sorts item_sort label_sort named operator_at operator_of operator_sort operators same_bytes same_sorts size sort_by sort_over with_sort
bench_faults = refl

-- The sort of the function's one argument.
argument_is : (k : ℕ) → k < 1 → number_at signature_width signatures function_signature (2 + k) ≡ get_or (2 ∷ []) k 0
unfolding number_at
argument_is zero l = refl
argument_is (suc k) l = absurd (omega arith)

-- The table of forms of the first of them, and the signatures, are what is asked for.
held : Sortable (form_table (test (pair none))) signatures
unfolding Every RowsAre SortsAre number_at
held = record {
  F = test (pair none);
  scope = scope;
  rest = [];
  is_forms = sym (append-nil (form_table (test (pair none))));
  real = (omega arith, (omega arith, (omega arith, tt, (record { sort = omega arith; value = omega arith }, tt, tt)), tt), tt);
  narrow = (tt, (tt, (tt, tt, (tt, tt, tt)), tt), tt);
  defined_are = tt;
  functions_are = (record { counted = refl; result_is = refl; arguments_are = argument_is; few = omega arith; sort = omega arith }, tt);
  non_terminals_are = (record { counted = refl; result_is = refl; arguments_are = λ k l. absurd (omega arith); few = omega arith; sort = omega arith }, tt);
  few_defined = omega arith;
  few_functions = omega arith;
  few_non_terminals = omega arith;
}

-- So a column of at least four numbers can be filled.
pub bench_held : (column : List ℕ) → 4 ≤ length column → SortsFilling (form_table (test (pair none))) signatures 4 column
unfolding held size
bench_held column h = record { given = held; counted = refl; room = h }
