-- An operator on the newest values of the stack.
use Prim.Native.Nat.{ℕ, ◌+◌, ◌-◌, ◌≤◌, ◌<◌}
use native.Mathlib.Omega.{arith}
use mathlib.Core.Path.{◌≡◌, refl, sym, ap, ap₂, ◌∙◌}
use mathlib.Core.Bool.{Bool, true, false, not}
use mathlib.Core.List.{List}
use mathlib.Core.Option.{Option, none as nothing, some}
use borrow.Author.Tests.{le-leb, lt-leb, not-false, not-true}
use lib.ListN.{drop, get_or, length, length-map, set, take}
use Rattle.forest.proofs.Bools.{apart}
use Rattle.operators.proofs.Closed.{closed}
use Rattle.operators.proofs.Counts.{operands_some}
use Rattle.operators.specs.Operators.{operator_sort, operator_value}
use Rattle.operators.specs.Sorts.{Fit}
use Rattle.operators.specs.code.Operators.{Applied, Operable, ResultSort, Sortable}
use Rattle.operators.specs.code.Sorting.{has_sort}
use Rattle.steps.specs.Stack.{applied, replaced}
use Rattle.terms.specs.Values.{numbers_in, operator_gives, sorts_in, value}
use Rattle.terms.specs.declared.Value.{Value}
use Rattle.runner.specs.code.Stack.{Appliable, Given, Ready, Stepped}
use Rattle.std.specs.Prelude.{None, Some}
use Rattle.runner.specs.code.Stack.Stepped.{done, not_done}
use Rattle.runner.proofs.Holding.{below, held_below, held_put, operand_numbers, operand_sorts, operands, operands_counted, operands_fit}

module _ {o i j first second : ℕ} {values sorts : List ℕ} (one : first ≡ get_or sorts 0 0) (two : second ≡ get_or sorts 1 0) where
  -- Operands that an operator takes have a sort for the result.
  pub appliable_sort : Appliable o i j values sorts → Sortable o i j first second
  appliable_sort e = record { sorts = sorts; result = e.result; sorted = e.sorted; sort_one = one; sort_two = two }

  -- They have a value.
  pub appliable_value : Appliable o i j values sorts → Operable o i j first second values
  appliable_value e = record { sorts = sorts; result = e.result; sorted = e.sorted; fit = e.fit; width_one = one; width_two = two }

  -- Sort and number make the value.
  pub given_value : {s v : ℕ} → ResultSort o i j first second s → Applied o i j first second values v → Given o i j values sorts (value s v)
  unfolding appliable_sort appliable_value
  given_value a b e =
      let q = a (appliable_sort e) in
      let r = b (appliable_value e) in
      rw (q, r)

-- There is a sort, or none.
sort_there : (m : Option ℕ) → has_sort m ≡ true → (s : ℕ) × (m ≡ some s)
sort_there nothing h = apart h
sort_there (some s) h = (s, refl)

sort_missing : (m : Option ℕ) → has_sort m ≡ false → m ≡ nothing
sort_missing nothing h = refl
sort_missing (some s) h = apart (sym h)

module _ (o i j : ℕ) {n : ℕ} {values sorts : List ℕ} {top : ℕ} (e : Ready values sorts top) where
  -- There are too few values.
  pub too_few : top < n → Stepped values sorts top None (applied o i j n e.stack)
  too_few h = rw (lt-leb n (length e.stack) (omega (arith, e.held.counted))) not_done

  module _ (few : n ≤ top) where
    -- What is applied to the operands.
    gives : applied o i j n e.stack
        ≡ replaced
        (operator_gives (operator_sort o i j (sorts_in (operands e n few))) (operator_value o i j (sorts_in (operands e n few)) (numbers_in (operands e n few))))
        (below e n few)
    gives = rw (le-leb n (length e.stack) (omega (arith, e.held.counted)))

    module _ {t : Bool} (t-is : t ≡ has_sort (operator_sort o i j (take (top - (top - n)) (drop (top - n) sorts)))) where
      has-sort : t ≡ has_sort (operator_sort o i j (sorts_in (operands e n few)))
      has-sort = t-is ∙ ap (λ (ss : List ℕ). has_sort (operator_sort o i j ss)) (operand_sorts e n few)

      -- The operator does not take them.
      pub not_taken : not t ≡ true → Stepped values sorts top None (applied o i j n e.stack)
      unfolding operator_gives
      not_taken h =
          let none_there = sort_missing (operator_sort o i j (sorts_in (operands e n few))) (sym has-sort ∙ not-true t h) in
          rw (gives, none_there) not_done

      module _ (h : not t ≡ false) where
        -- It takes them.
        taken : (s : ℕ) × (operator_sort o i j (sorts_in (operands e n few)) ≡ some s)
        taken = sort_there (operator_sort o i j (sorts_in (operands e n few))) (sym has-sort ∙ not-false t h)

        pub taken_appliable : Appliable o i j (take (top - (top - n)) (drop (top - n) values)) (take (top - (top - n)) (drop (top - n) sorts))
        taken_appliable = record {
          fit = rw (operand_numbers e n few, operand_sorts e n few) (operands_fit e n few);
          result = taken.0;
          sorted = ap (λ (ss : List ℕ). operator_sort o i j ss) (operand_sorts e n few) ∙ taken.1;
        }

        -- There is at least one.
        some_operand : 1 ≤ n
        some_operand =
            let sorts_counted = length-map (operands e n few) (λ (u : Value). u.sort) in
            omega
            (arith, operands_some o i j (sorts_in (operands e n few)) taken.1, sorts_counted, operands_counted e n few)

        -- Its place is in both tables.
        pub base_place : (top - n < length values) × (top - n < length sorts)
        base_place = (omega (arith, some_operand, e.held.most, e.held.values_long), omega (arith, some_operand, e.held.most, e.held.sorts_long))

        -- The value stands in their place.
        pub value_placed : {v : Value} → Given o i j (take (top - (top - n)) (drop (top - n) values)) (take (top - (top - n)) (drop (top - n) sorts)) v
            → Stepped (set values (top - n) v.number) (set sorts (top - n) v.sort) (top - n + 1) (Some tt) (applied o i j n e.stack)
        unfolding operator_gives taken_appliable
        value_placed {v} g =
            let vs = operands e n few in
            let is : v ≡ value taken.0 (operator_value o i j (sorts_in vs) (numbers_in vs)) =
            g taken_appliable ∙ ap₂ (λ (ss ns : List ℕ). value taken.0 (operator_value o i j ss ns)) (operand_sorts e n few) (operand_numbers e n few) in
            let fit : Fit v.sort v.number = rw is (closed o i j (operands_fit e n few) taken.1) in
            let held = held_put (held_below e n few) (omega (arith, some_operand, e.held.most)) v fit in
            rw (gives, taken.1, ← is) (done held)
