-- The sort of an item, by its code and its value.
use Prim.Native.Nat.{ℕ, zero, suc, ◌+◌, ◌≤◌, ◌<◌}
use native.Mathlib.Nat.{add-zero}
use native.Mathlib.Omega.{arith}
use mathlib.Core.Bool.{Bool, true, false, ◌&&◌}
use mathlib.Core.Path.{◌≡◌, refl, sym}
use mathlib.Core.List.{List, [], ◌∷◌}
use borrow.Author.Tests.{eq-eqb, eqb-false, eqb-true, le-leb, leb-true, lt-ltb, ne_eqb}
use lib.Dec.{eqb, leb, lit<}
use lib.ListN.{get_or, length}
use Rattle.forest.proofs.Bools.{and_left, and_right, apart}
use Rattle.operators.specs.Operators.{operator_sort}
use Rattle.operators.specs.Sorts.{max_width, values_of, sort_where}
use Rattle.derivation.specs.Derivation.{Item, any_argument, any_literal, non_terminal, the}
use Rattle.derivation.specs.code.Tables.{item_code, item_value}
use Rattle.terms.specs.Labels.{defined, function, literal, name, operator}
use Rattle.terms.specs.code.Codes.{any_argument_kind, any_literal_kind, code_with, defined_kind, head_of, high_in, kind_of, literal_kind, low_in, name_kind}
use Rattle.terms.specs.code.Codes.{non_terminal_kind, operator_kind}
use Rattle.terms.specs.code.Nodes.{Plain}
use Rattle.terms.proofs.CodeParts.{head_with, high-in, low-in}
use Rattle.terms.specs.Sorts.{Signature, called_sort, label_sort, same_sorts}
use Rattle.term_sorts.specs.Forms.{FormScope, item_sort}
use Rattle.term_sorts.specs.code.Nodes.{first_row}
use Rattle.term_sorts.specs.code.Signatures.{Real, RowIs, RowsAre, Sortable, SortsAre, all_rows, function_signature, non_terminal_signature}

-- A label that its numbers tell; any other item is told by them anyway.
abbrev pub Told : Item → Type 0
Told (the l) = Plain l
Told (non_terminal A) = Unit {0}
Told (any_literal s) = Unit {0}
Told (any_argument s) = Unit {0}

-- The sort of an operator.
pub operator_item : (scope : FormScope) (i : Item) → Told i → kind_of (item_code i) ≡ operator_kind → (ss : List ℕ)
    → item_sort scope i ss ≡ operator_sort (head_of (item_code i)) (high_in (item_value i)) (low_in (item_value i)) ss
unfolding item_sort label_sort
operator_item scope (the (operator o i j)) p h ss = rw (head_with operator_kind o (lit< tt), high-in i j p, low-in i j p)
operator_item scope (the (literal s v)) p h ss = absurd (omega arith)
operator_item scope (the (name s k)) p h ss = absurd (omega arith)
operator_item scope (the (defined k)) p h ss = absurd (omega arith)
operator_item scope (the (function k)) p h ss = absurd (omega arith)
operator_item scope (non_terminal A) p h ss = absurd (omega arith)
operator_item scope (any_literal s) p h ss = absurd (omega arith)
operator_item scope (any_argument s) p h ss = absurd (omega arith)

-- Whether a kind is that of functions or non-terminals.
abbrev pub is_called : (kind : ℕ) → Bool
is_called kind = leb defined_kind kind && leb kind non_terminal_kind

-- The sort of an item that is no operator, no function and no non-terminal.
pub leaf_item : (scope : FormScope) (i : Item) → Real scope i → (kind_of (item_code i) ≡ operator_kind → ⊥) → is_called (kind_of (item_code i)) ≡ false
    → (ss : List ℕ) → item_sort scope i ss ≡ sort_where (eqb (length ss) 0) (head_of (item_code i))
unfolding item_sort label_sort
leaf_item scope (the (literal s v)) r n h ss =
    rw (le-leb s max_width r.sort, lt-ltb v (values_of s) r.value, head_with literal_kind s (lit< tt))
leaf_item scope (the (name s k)) r n h ss =
    let known = lt-ltb k (length scope.terms.names) r.0 in
    rw (known, eq-eqb (get_or scope.terms.names k 0) s r.1, head_with name_kind s (lit< tt))
leaf_item scope (the (operator o i j)) r n h ss = absurd (n (omega arith))
leaf_item scope (the (defined k)) r n h ss = apart (sym h)
leaf_item scope (the (function k)) r n h ss = apart (sym h)
leaf_item scope (non_terminal A) r n h ss = apart (sym h)
leaf_item scope (any_literal s) r n h ss = rw (head_with any_literal_kind s (lit< tt))
leaf_item scope (any_argument s) r n h ss = rw (head_with any_argument_kind s (lit< tt))

-- The signature of function k, in row `row`.
pub record Known (signatures : List ℕ) (fs : List Signature) (k row : ℕ) : Type 0 where
  pub by : Signature
  pub row_is : RowIs signatures row by
  pub called : (ss : List ℕ) → called_sort fs k ss ≡ sort_where (same_sorts ss by.arguments) by.result

-- Each of the functions has one.
known : (signatures : List ℕ) (base : ℕ) (fs : List Signature) (k : ℕ) → RowsAre signatures base fs → k < length fs → Known signatures fs k (base + k)
unfolding RowsAre called_sort
known signatures base [] k rows h = absurd (omega arith)
known signatures base (f ∷ earlier) k rows h = go (eqb k (length earlier)) refl (λ l. known signatures base earlier k rows.1 l)
  where
    go : (here : Bool) → eqb k (length earlier) ≡ here → (k < length earlier → Known signatures earlier k (base + k))
        → Known signatures (f ∷ earlier) k (base + k)
    go true e others = record { by = f; row_is = rw (eqb-true k (length earlier) e) rows.0; called = λ ss. rw e }
    go false e others =
        let n = eqb-false k (length earlier) e in
        let r = others (omega arith) in
        record { by = r.by; row_is = r.row_is; called = λ ss. rw e (r.called ss) }

-- A non-terminal has the row of a function without arguments.
sort_row : (signatures : List ℕ) (r : ℕ) (sorts : List ℕ) (A : ℕ) → SortsAre signatures r sorts → A < length sorts
    → RowIs signatures (r + A) (record { arguments = []; result = get_or sorts A 0 })
unfolding SortsAre
sort_row signatures r [] A rows h = absurd (omega arith)
sort_row signatures r (s ∷ more) zero rows h = rw add-zero rows.0
sort_row signatures r (s ∷ more) (suc A) rows h =
    let next : r + 1 + A ≡ r + suc A = omega arith in
    rw (← next) (sort_row signatures (r + 1) more A rows.1 (omega arith))

-- Operands of the sorts of no arguments are none.
no_arguments : (ss : List ℕ) → same_sorts ss [] ≡ eqb (length ss) 0
unfolding same_sorts
no_arguments [] = refl
no_arguments (s ∷ ss) = sym (ne_eqb (suc (length ss)) 0 (λ e. omega arith))

-- The signature of an item that is a function or a non-terminal, and its row.
pub record Callable (signatures : List ℕ) (scope : FormScope) (i : Item) (row : ℕ) : Type 0 where
  pub by : Signature
  pub row_is : RowIs signatures row by
  pub low : row < all_rows
  pub gives : (ss : List ℕ) → item_sort scope i ss ≡ sort_where (same_sorts ss by.arguments) by.result

-- The kinds of functions and non-terminals.
called_kind : (kind : ℕ) → is_called kind ≡ true → (defined_kind ≤ kind) × (kind ≤ non_terminal_kind)
called_kind kind h = (leb-true defined_kind kind (and_left _ _ h), leb-true kind non_terminal_kind (and_right (leb defined_kind kind) _ h))

-- Each such item has one.
pub callable : {forms signatures : List ℕ} (g : Sortable forms signatures) (i : Item) → Real g.scope i
    → is_called (kind_of (item_code i)) ≡ true → Callable signatures g.scope i (first_row (kind_of (item_code i)) + item_value i)
unfolding item_sort label_sort
callable {signatures = signatures} g (the (defined k)) r h =
    let q = known signatures 0 g.scope.terms.defined k g.defined_are r in
    record { by = q.by; row_is = q.row_is; low = omega (arith, g.few_defined); gives = q.called }
callable {signatures = signatures} g (the (function k)) r h =
    let q = known signatures function_signature g.scope.terms.functions k g.functions_are r in
    record { by = q.by; row_is = q.row_is; low = omega (arith, g.few_functions); gives = q.called }
callable {signatures = signatures} g (non_terminal A) r h =
    let sorts = g.scope.non_terminals in
    record {
      by = record { arguments = []; result = get_or sorts A 0 };
      row_is = sort_row signatures non_terminal_signature sorts A g.non_terminals_are r;
      low = omega (arith, g.few_non_terminals);
      gives = λ ss. rw (lt-ltb A (length sorts) r, no_arguments ss);
    }
callable g (the (literal s v)) r h = let k = called_kind (kind_of (code_with literal_kind s)) h in absurd (omega arith)
callable g (the (name s k)) r h = let k = called_kind (kind_of (code_with name_kind s)) h in absurd (omega arith)
callable g (the (operator o i j)) r h = let k = called_kind (kind_of (code_with operator_kind o)) h in absurd (omega arith)
callable g (any_literal s) r h = let k = called_kind (kind_of (code_with any_literal_kind s)) h in absurd (omega arith)
callable g (any_argument s) r h = let k = called_kind (kind_of (code_with any_argument_kind s)) h in absurd (omega arith)
