-- The sort of an operator's result, by its rule and the sorts of its first two operands.
use Rattle.std.proofs.Common.{◌≡◌, ℕ, ◌+◌, ◌-◌, ◌<◌, ◌≤◌, true, ◌&&◌, eqb, ltb, leb, List, [], ◌∷◌, length, get_or, ◌∙◌, ltb-true, leb-true}
use mathlib.Core.Logic.{◌⊎◌, inl, inr}
use mathlib.Core.Option.{some}
use Rattle.forest.proofs.Options.{never, passed}
use Rattle.operators.specs.Operators.{operator_at, operator_count, operator_sort, takes}
use Rattle.operators.specs.Sorts.{SortRule, all_are, bool, choice, cutting, joining, max_width, sort_by, vector, width}
use Rattle.operators.proofs.RuledOperands.{both, gives_bool, ruled, truths}
use Rattle.operators.specs.code.Rules.{sort_rule}
use Rattle.operators.specs.declared.rules.Rule.{Rule}
use Rattle.operators.specs.declared.rules.Rule.TheVariants.{Logic, Equality, Order}
use Rattle.operators.specs.code.Operators.{ResultSort, Sortable}

-- What the rule `choice` gives.
choice_sort : (i j : ℕ) (ss : List ℕ) {r : ℕ} → sort_by choice i j ss ≡ some r → get_or ss 1 0 ≡ r
unfolding sort_by
choice_sort i j [] h = never h
choice_sort i j (c ∷ []) h = never h
choice_sort i j (c ∷ s ∷ more) h = (ruled (eqb c bool && all_are s more) h).1

-- What the rule `width` gives.
pub width_sort : (i j : ℕ) (ss : List ℕ) {r : ℕ} → sort_by width i j ss ≡ some r → get_or ss 0 0 ≡ r
unfolding sort_by
width_sort i j [] h = never h
width_sort i j (s ∷ more) h = (ruled (vector s && all_are s more) h).1

-- What the rule `joining` gives, and that it is at most 64.
joining_sort : (i j : ℕ) (ss : List ℕ) {r : ℕ} → sort_by joining i j ss ≡ some r → (get_or ss 0 0 + get_or ss 1 0 ≡ r) × (get_or ss 0 0 + get_or ss 1 0 ≤ max_width)
unfolding sort_by
joining_sort i j [] h = never h
joining_sort i j (s ∷ []) h = never h
joining_sort i j (s ∷ t ∷ more) h =
    let p = ruled (vector s && vector t && leb (s + t) max_width) h in
    (p.1, leb-true _ _ (both (vector s && vector t) (leb (s + t) max_width) p.0).1)

-- What the rule `cutting` gives, and that i and j are in order and below the width.
cutting_sort : (i j : ℕ) (ss : List ℕ) {r : ℕ} → sort_by cutting i j ss ≡ some r → (i - j + 1 ≡ r) × (j ≤ i) × (i < get_or ss 0 0)
unfolding sort_by
cutting_sort i j [] h = never h
cutting_sort i j (s ∷ more) h =
    let p = ruled (leb j i && ltb i s) h in
    let q = both (leb j i) (ltb i s) p.0 in
    (p.1, leb-true _ _ q.0, ltb-true _ _ q.1)

module _ {operator high low first second : ℕ} where
  -- The rule gives the result.
  by_rule : {rule : SortRule} → rule ≡ (operator_at operator).rule → (e : Sortable operator high low first second) → sort_by rule high low e.sorts ≡ some e.result
  unfolding operator_sort
  by_rule q e = rw q (passed (ltb operator operator_count && takes (operator_at operator) (length e.sorts)) e.sorted).1

  -- The result of the rule `choice`.
  pub chosen_result : choice ≡ (operator_at operator).rule → ResultSort operator high low first second second
  chosen_result q e = e.sort_two ∙ choice_sort high low e.sorts (by_rule q e)

  -- The result of the rule `width`.
  pub width_result : width ≡ (operator_at operator).rule → ResultSort operator high low first second first
  width_result q e = e.sort_one ∙ width_sort high low e.sorts (by_rule q e)

  -- The result of the rule `joining`.
  pub joined_result : joining ≡ (operator_at operator).rule → ResultSort operator high low first second (first + second)
  joined_result q e = rw (e.sort_one, e.sort_two) (joining_sort high low e.sorts (by_rule q e)).0

  -- It is at most 64.
  pub joined_narrow : joining ≡ (operator_at operator).rule → Sortable operator high low first second → first + second ≤ max_width
  joined_narrow q e = rw (e.sort_one, e.sort_two) (joining_sort high low e.sorts (by_rule q e)).1

  -- The result of the rule `cutting`.
  pub cut_result : cutting ≡ (operator_at operator).rule → ResultSort operator high low first second (high - low + 1)
  cut_result q e = (cutting_sort high low e.sorts (by_rule q e)).0

  -- Its numbers are in order.
  pub cut_order : cutting ≡ (operator_at operator).rule → Sortable operator high low first second → low ≤ high
  cut_order q e = (cutting_sort high low e.sorts (by_rule q e)).1

  -- They are below the width.
  pub cut_below : cutting ≡ (operator_at operator).rule → Sortable operator high low first second → high < first
  cut_below q e = rw e.sort_one (cutting_sort high low e.sorts (by_rule q e)).2

  -- Any other rule gives Bool.
  pub bool_result : {rule : Rule} → (rule ≡ Logic) ⊎ ((rule ≡ Equality) ⊎ (rule ≡ Order)) → sort_rule rule ≡ (operator_at operator).rule
      → ResultSort operator high low first second 0
  bool_result {rule} b q e = truths (sort_rule rule) (gives-bool b) high low e.sorts (by_rule q e)
    where
      gives-bool : (rule ≡ Logic) ⊎ ((rule ≡ Equality) ⊎ (rule ≡ Order)) → gives_bool (sort_rule rule) ≡ true
      gives-bool (inl q) = rw q
      gives-bool (inr (inl q)) = rw q
      gives-bool (inr (inr q)) = rw q
