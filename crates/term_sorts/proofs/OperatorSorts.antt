-- The sort of an operator by its rule.
use Prim.Native.Nat.{ℕ, ◌≤◌, ◌<◌}
use native.Mathlib.Omega.{arith}
use mathlib.Core.Bool.{Bool, true, false, ◌&&◌}
use mathlib.Core.Path.{◌≡◌, refl, sym, ◌∙◌}
use mathlib.Core.List.{List}
use borrow.Author.Tests.{eqb-true, leb-true, ltb-true}
use lib.Dec.{leb, ltb}
use lib.ListN.{length}
use Rattle.forest.proofs.Bools.{and_left, and_right, each}
use Rattle.operators.specs.Operators.{operator_at, operator_count, operator_sort, operators, takes}
use Rattle.operators.specs.code.Rules.{sort_rule}
use Rattle.operators.specs.declared.rules.Rule.{Rule}
use Rattle.term_sorts.specs.code.Rules.{OperatorGives, RuleGives, Ruled, least}
use Rattle.term_sorts.specs.code.Operands.{SortedTrees}

-- Each operator has as many operands as its rule asks for.
enough_operands : {o : ℕ} → o < operator_count → least (operator_at o).rule ≤ (operator_at o).operands
unfolding operator_at operators
enough_operands {o} h = leb-true _ _ (each operator_count (λ (k : ℕ). leb (least (operator_at k).rule) (operator_at k).operands) tt o h)

-- An operator takes no fewer operands than it has.
least_taken : (o n : ℕ) → takes (operator_at o) n ≡ true → (operator_at o).operands ≤ n
least_taken o n h = by_case (operator_at o).many refl
  where
    by_case : (many : Bool) → (operator_at o).many ≡ many → (operator_at o).operands ≤ n
    by_case true q = leb-true _ _ (rw q at h)
    by_case false q = omega (arith, eqb-true n _ (rw q at h))

module _ {forms column : List ℕ} {place count : ℕ} (operator : ℕ) {taken : Bool} (taken_is : taken ≡ takes (operator_at operator) count) where
  module _ (fits : ltb operator operator_count && taken ≡ true) {rule : Rule} (rule_is : sort_rule rule ≡ (operator_at operator).rule) where
    -- The rule can be asked.
    pub rule_asked : SortedTrees forms column place count → Ruled forms column place count rule
    rule_asked e =
        let known = ltb-true operator operator_count (and_left _ _ fits) in
        let full = least_taken operator count (sym taken_is ∙ and_right (ltb operator operator_count) _ fits) in
        record { trees = e; enough = rw rule_is (omega (arith, enough_operands known, full)) }

    -- The operator has the sort that its rule gives.
    pub operator-gives : (value : ℕ) {r : ℕ} → RuleGives forms column place count rule value r → OperatorGives forms column place count operator value r
    unfolding operator_sort rule_asked
    operator-gives value w e =
        let test : ltb operator operator_count && takes (operator_at operator) (length e.sorts) ≡ true = rw (← e.counted, ← taken_is) fits in
        w (rule_asked e) ∙ rw (test, rule_is)

  -- There is no such operator, or it has another number of operands.
  pub operator_fails : (value : ℕ) → ltb operator operator_count && taken ≡ false → OperatorGives forms column place count operator value 0
  unfolding operator_sort
  operator_fails value fails e =
      let test : ltb operator operator_count && takes (operator_at operator) (length e.sorts) ≡ false = rw (← e.counted, ← taken_is) fails in
      rw test
