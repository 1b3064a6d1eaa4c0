-- Tests of sorts: whether a number is a value of one, and whether a rule, and so an operator, takes operands of some.
use Rattle.std.proofs.Common.{◌≡◌, ℕ, ◌+◌, ◌-◌, ◌<◌, ◌≤◌, Bool, true, false, cond, ◌&&◌, eqb, ltb, leb, List, [], ◌∷◌, length, get_or, drop, sym, refl, ap}
use Rattle.std.proofs.Common.{◌∙◌, arith, ltb-true, eqb-true, leb-true}
use mathlib.Core.Logic.{◌⊎◌, inl, inr}
use lib.ListN.{get_or-replicate}
use Rattle.std.specs.List.{list_all}
use Rattle.forest.proofs.Bools.{and_left, and_right}
use Rattle.operators.specs.Operators.{Operator, operator_at, operator_count, operator_sort, operators, takes}
use Rattle.operators.specs.Sorts.{SortRule, all_are, bool, choice, cutting, equality, joining, max_width, order, sort_by, sort_where, vector}
use Rattle.operators.specs.Sorts.{width}
use Rattle.operators.specs.code.Rules.{sort_rule}
use Rattle.operators.specs.declared.rules.Rule.{Rule}
use Rattle.operators.specs.declared.rules.Rule.TheVariants.{Logic, Equality, Choice, Width, Order, Joining, Cutting}
use Rattle.operators.specs.code.Sorting.{has_sort, least_operands}
use Rattle.operators.proofs.Table.{column}

-- Each of the sorts is one and the same.
pub each_is : (sort : ℕ) (sorts : List ℕ) → list_all (λ t. eqb t sort) sorts ≡ all_are sort sorts
each_is sort [] = refl
each_is sort (t ∷ more) = ap (λ r. eqb t sort && r) (each_is sort more)

-- A test that gives a sort.
when_test : (test : Bool) (s : ℕ) → test ≡ has_sort (sort_where test s)
when_test true s = refl
when_test false s = refl

module _ (i j : ℕ) where
  -- `equality`, by the first sort.
  equality_by : (ss : List ℕ) → 1 ≤ length ss → all_are (get_or ss 0 0) (drop 1 ss) ≡ has_sort (sort_by equality i j ss)
  unfolding sort_by
  equality_by [] h = absurd (omega arith)
  equality_by (s ∷ more) h = when_test (all_are s more) bool

  -- `choice`, by the first two.
  choice_by : (ss : List ℕ) → 2 ≤ length ss → (eqb (get_or ss 0 0) 0 && all_are (get_or ss 1 0) (drop 2 ss)) ≡ has_sort (sort_by choice i j ss)
  unfolding sort_by
  choice_by [] h = absurd (omega arith)
  choice_by (c ∷ []) h = absurd (omega arith)
  choice_by (c ∷ s ∷ more) h = when_test (eqb c bool && all_are s more) s

  -- `joining`, by the first two.
  joining_by : (ss : List ℕ) → 2 ≤ length ss
      → (vector (get_or ss 0 0) && vector (get_or ss 1 0) && leb (get_or ss 0 0 + get_or ss 1 0) max_width) ≡ has_sort (sort_by joining i j ss)
  unfolding sort_by
  joining_by [] h = absurd (omega arith)
  joining_by (s ∷ []) h = absurd (omega arith)
  joining_by (s ∷ t ∷ more) h = when_test (vector s && vector t && leb (s + t) max_width) (s + t)

  -- `cutting`, by the first.
  cutting_by : (ss : List ℕ) → 1 ≤ length ss → (leb j i && ltb i (get_or ss 0 0)) ≡ has_sort (sort_by cutting i j ss)
  unfolding sort_by
  cutting_by [] h = absurd (omega arith)
  cutting_by (s ∷ more) h = when_test (leb j i && ltb i s) (i - j + 1)

  -- `width` and `order`, by the first.
  width_by : (ss : List ℕ) → 1 ≤ length ss → (ltb 0 (get_or ss 0 0) && all_are (get_or ss 0 0) (drop 1 ss)) ≡ has_sort (sort_by width i j ss)
  unfolding sort_by
  width_by [] h = absurd (omega arith)
  width_by (s ∷ more) h = when_test (vector s && all_are s more) s

  order_by : (ss : List ℕ) → 1 ≤ length ss → (ltb 0 (get_or ss 0 0) && all_are (get_or ss 0 0) (drop 1 ss)) ≡ has_sort (sort_by order i j ss)
  unfolding sort_by
  order_by [] h = absurd (omega arith)
  order_by (s ∷ more) h = when_test (vector s && all_are s more) bool

module _ (rule : Rule) (ss : List ℕ) (i j : ℕ) where
  -- Whether the rule gives a sort.
  abbrev pub Gives : Bool → Type 0
  Gives r = r ≡ has_sort (sort_by (sort_rule rule) i j ss)

  -- What the code tests for each rule.
  module _ (enough : least_operands (sort_rule rule) ≤ length ss) {first second : ℕ} (first_is : first ≡ get_or ss 0 0) (second_is : second ≡ get_or ss 1 0) where
    pub logic_told : {t : Bool} → rule ≡ Logic → t ≡ all_are 0 (drop 0 ss) → Gives t
    unfolding sort_by
    logic_told q z = z ∙ (rw q (when_test (all_are bool ss) bool))

    pub equality_told : {t : Bool} → rule ≡ Equality → t ≡ all_are first (drop 1 ss) → Gives t
    equality_told q z = z ∙ (rw (q, first_is) (equality_by i j ss (rw q at enough)))

    pub choice_told : {t : Bool} → rule ≡ Choice → t ≡ all_are second (drop 2 ss) → Gives (eqb first 0 && t)
    choice_told q z = rw (q, z, first_is, second_is) (choice_by i j ss (rw q at enough))

    pub joining_told : {t : Bool} → rule ≡ Joining → t ≡ (vector first && vector second && leb (first + second) max_width) → Gives t
    joining_told q z = z ∙ (rw (q, first_is, second_is) (joining_by i j ss (rw q at enough)))

    pub cutting_told : rule ≡ Cutting → Gives (leb j i && ltb i first)
    cutting_told q = rw (q, first_is) (cutting_by i j ss (rw q at enough))

    pub width_told : {t : Bool} → (rule ≡ Width) ⊎ (rule ≡ Order) → t ≡ all_are first (drop 1 ss) → Gives (ltb 0 first && t)
    width_told (inl q) z = rw (q, z, first_is) (width_by i j ss (rw q at enough))
    width_told (inr q) z = rw (q, z, first_is) (order_by i j ss (rw q at enough))

-- Whether an operator has as many operands as its rule looks at.
abbrev enough_in : Operator → Bool
enough_in r = leb (least_operands r.rule) r.operands

-- Every operator has.
all_enough : {o : ℕ} → o < operator_count → enough_in (operator_at o) ≡ true
unfolding operators
all_enough {o} h = sym (column enough_in o) ∙ get_or-replicate operator_count o true true h

-- It takes no fewer.
taken_least : (r : Operator) (n : ℕ) → takes r n ≡ true → r.operands ≤ n
taken_least r n h = go r.many h
  where
    go : (many : Bool) → cond many (leb r.operands n) (eqb n r.operands) ≡ true → r.operands ≤ n
    go true e = leb-true r.operands n e
    go false e = omega (arith, eqb-true n r.operands e)

module _ (o : ℕ) (ss : List ℕ) {rule : SortRule} {t : Bool} (known : ltb o operator_count && t ≡ true) (t-is : t ≡ takes (operator_at o) (length ss))
    (rule_is : rule ≡ (operator_at o).rule) where
  -- An operator that takes so many operands looks at no more.
  pub operator_ruled : least_operands rule ≤ length ss
  operator_ruled =
      let low = ltb-true o operator_count (and_left (ltb o operator_count) t known) in
      let least = leb-true (least_operands (operator_at o).rule) (operator_at o).operands (all_enough low) in
      rw rule_is (omega (arith, least, taken_least (operator_at o) (length ss) (sym t-is ∙ and_right (ltb o operator_count) t known)))

  -- It has a sort where its rule gives one.
  pub sort_told : (i j : ℕ) {r : Bool} → r ≡ has_sort (sort_by rule i j ss) → r ≡ has_sort (operator_sort o i j ss)
  unfolding operator_sort
  sort_told i j g = g ∙ (rw (← t-is, known, rule_is))

-- An operator that is not there, or takes another number of operands, has none.
pub sort_none : (o i j : ℕ) (ss : List ℕ) {t : Bool} → ltb o operator_count && t ≡ false → t ≡ takes (operator_at o) (length ss)
    → false ≡ has_sort (operator_sort o i j ss)
unfolding operator_sort
sort_none o i j ss h q = rw (← q, h)
