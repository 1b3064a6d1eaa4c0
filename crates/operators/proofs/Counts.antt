-- What the numbers i and j and the count of operands do to an operator's sort and value: only `extract` looks at i and j, and each operator takes some operand.
use Rattle.std.proofs.Common.{◌≡◌, ℕ, zero, suc, ◌<◌, ◌≤◌, Bool, true, false, ◌&&◌, eqb, ltb, List, [], ◌∷◌, length, get_or, sym, refl, ap, ◌∙◌, arith, ltb-true, eqb-true}
use mathlib.Core.Option.{some}
use lib.ListN.{get_or-replicate}
use Rattle.forest.proofs.Bools.{and_left, and_right, apart}
use Rattle.forest.proofs.Options.{passed}
use Rattle.operators.specs.Operators.{Operator, no_operator, operator_at, operator_count, operator_sort, operator_value, operators, takes}
use Rattle.operators.specs.Sorts.{SortRule, choice, cutting, equality, joining, logic, order, sort_by, width}
use Rattle.operators.specs.code.Operators.{extract_number}
use Rattle.operators.proofs.Table.{Each, column, each_at, ◌and◌}

-- P holds of each of some things but of that at k.
abbrev EachBut : {A : Type 0} → (A → Type 0) → (k : ℕ) → List A → Type 0
EachBut P k [] = Unit
EachBut P zero (x ∷ more) = Each P more
EachBut P (suc k) (x ∷ more) = P x × EachBut P k more

-- It holds of what stands at another place, if it holds of what stands for nothing.
each_but : {A : Type 0} (P : A → Type 0) (k : ℕ) (l : List A) (d : A) → EachBut P k l → P d → (o : ℕ) → (o ≡ k → ⊥) → P (get_or l o d)
each_but P k [] d h g o n = g
each_but P zero (x ∷ more) d h g zero n = absurd (n refl)
each_but P zero (x ∷ more) d h g (suc o) n = each_at P more d h g o
each_but P (suc k) (x ∷ more) d h g zero n = h.0
each_but P (suc k) (x ∷ more) d h g (suc o) n = each_but P k more d h.1 g o (λ e. n (ap suc e))

-- Whether a rule looks at i and j.
abbrev cuts : SortRule → Bool
cuts cutting = true
cuts logic = false
cuts equality = false
cuts choice = false
cuts width = false
cuts order = false
cuts joining = false

-- A rule that does not gives one sort for all.
uncut_sort : (rule : SortRule) → cuts rule ≡ false → (i j : ℕ) (ss : List ℕ) → sort_by rule i j ss ≡ sort_by rule 0 0 ss
unfolding sort_by
uncut_sort cutting h i j ss = apart (sym h)
uncut_sort logic h i j ss = refl
uncut_sort equality h i j [] = refl
uncut_sort equality h i j (s ∷ more) = refl
uncut_sort choice h i j [] = refl
uncut_sort choice h i j (c ∷ []) = refl
uncut_sort choice h i j (c ∷ s ∷ more) = refl
uncut_sort width h i j [] = refl
uncut_sort width h i j (s ∷ more) = refl
uncut_sort order h i j [] = refl
uncut_sort order h i j (s ∷ more) = refl
uncut_sort joining h i j [] = refl
uncut_sort joining h i j (s ∷ []) = refl
uncut_sort joining h i j (s ∷ t ∷ more) = refl

-- An operator whose sort and value do not depend on i and j.
record Uncut (r : Operator) : Type 0 where
  rule : cuts r.rule ≡ false
  value : (i j : ℕ) (ss vs : List ℕ)
      → r.value (record { i = i; j = j; sorts = ss; values = vs }) ≡ r.value (record { i = 0; j = 0; sorts = ss; values = vs })

-- A row that looks at neither.
plain : {r : Operator} → cuts r.rule ≡ false
    → ((i j : ℕ) (ss vs : List ℕ) → r.value (record { i = i; j = j; sorts = ss; values = vs }) ≡ r.value (record { i = 0; j = 0; sorts = ss; values = vs }))
    → Uncut r
plain c v = record { rule = c; value = v }

-- Every row but that of `extract`.
rows_uncut : EachBut Uncut extract_number operators
unfolding operators
rows_uncut =
    plain refl (λ i j ss vs. refl)
    and plain refl (λ i j ss vs. refl)
    and plain refl (λ i j ss vs. refl)
    and plain refl (λ i j ss vs. refl)
    and plain refl (λ i j ss vs. refl)
    and plain refl (λ i j ss vs. refl)
    and plain refl (λ i j ss vs. refl)
    and plain refl (λ i j ss vs. refl)
    and plain refl (λ i j ss vs. refl)
    and plain refl (λ i j ss vs. refl)
    and plain refl (λ i j ss vs. refl)
    and plain refl (λ i j ss vs. refl)
    and plain refl (λ i j ss vs. refl)
    and plain refl (λ i j ss vs. refl)
    and plain refl (λ i j ss vs. refl)
    and plain refl (λ i j ss vs. refl)
    and plain refl (λ i j ss vs. refl)
    and plain refl (λ i j ss vs. refl)
    and plain refl (λ i j ss vs. refl)
    and plain refl (λ i j ss vs. refl)
    and plain refl (λ i j ss vs. refl)
    and plain refl (λ i j ss vs. refl)
    and plain refl (λ i j ss vs. refl)
    and plain refl (λ i j ss vs. refl)
    and plain refl (λ i j ss vs. refl)
    and plain refl (λ i j ss vs. refl)
    and plain refl (λ i j ss vs. refl)
    and plain refl (λ i j ss vs. refl)
    and plain refl (λ i j ss vs. refl)
    and plain refl (λ i j ss vs. refl)
    and plain refl (λ i j ss vs. refl)
    and plain refl (λ i j ss vs. refl)
    and plain refl (λ i j ss vs. refl)
    and tt

module _ (o : ℕ) (n : o ≡ extract_number → ⊥) (i j : ℕ) (ss : List ℕ) where
  -- An operator that is no `extract`.
  at_operator : Uncut (operator_at o)
  unfolding operator_at
  at_operator = each_but Uncut extract_number operators no_operator rows_uncut (plain refl (λ a b c d. refl)) o n

  -- Its sort.
  pub sort_uncut : operator_sort o i j ss ≡ operator_sort o 0 0 ss
  unfolding operator_sort
  sort_uncut = rw (uncut_sort (operator_at o).rule at_operator.rule i j ss)

  -- Its value.
  pub value_uncut : (vs : List ℕ) → operator_value o i j ss vs ≡ operator_value o 0 0 ss vs
  unfolding operator_value
  value_uncut vs = at_operator.value i j ss vs

-- `extract` takes one operand.
pub extract_one : (i j : ℕ) (ss : List ℕ) {s : ℕ} → operator_sort extract_number i j ss ≡ some s → length ss ≡ 1
unfolding operator_sort operator_at operators
extract_one i j ss h = eqb-true (length ss) 1 (passed (eqb (length ss) 1) h).0

-- No operator takes 0 operands.
some_taken : {o : ℕ} → o < operator_count → takes (operator_at o) 0 ≡ false
unfolding operators
some_taken {o} h = sym (column (λ (r : Operator). takes r 0) o) ∙ get_or-replicate operator_count o false true h

-- An operator that has a sort has operands.
pub operands_some : (o i j : ℕ) (ss : List ℕ) {s : ℕ} → operator_sort o i j ss ≡ some s → 1 ≤ length ss
unfolding operator_sort
operands_some o i j [] h =
    let counts = takes (operator_at o) 0 in
    let p = passed (ltb o operator_count && counts) h in
    let b = ltb-true o operator_count (and_left (ltb o operator_count) counts p.0) in
    apart (sym (some_taken b) ∙ and_right (ltb o operator_count) counts p.0)
operands_some o i j (s ∷ more) h = omega arith
