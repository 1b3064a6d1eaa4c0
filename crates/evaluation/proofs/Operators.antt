-- What an operator gives for operands that have values.
use Prim.Native.Nat.{ℕ, ◌-◌}
use mathlib.Core.Path.{◌≡◌, ap, ap₂, ◌∙◌}
use mathlib.Core.List.{List}
use mathlib.Core.Option.{some}
use lib.ListN.{drop, take}
use Rattle.operators.specs.Operators.{operator_sort}
use Rattle.terms.specs.code.Codes.{high_in, low_in}
use Rattle.terms.proofs.CodeParts.{high-in, low-in}
use Rattle.operators.specs.code.Operators.{Applied, Operable, ResultSort, Sortable}
use Rattle.terms.specs.Values.{sorts_in, value}
use Rattle.evaluation.specs.code.Evaluator.{OperatorGave, OperatorReady}

module _ {operator bounds sortOne sortTwo top past : ℕ} {stack : List ℕ} (e : OperatorReady operator bounds sortOne sortTwo stack top past)
    {high low : ℕ} (is-high : high ≡ high_in bounds) (is-low : low ≡ low_in bounds) where
  -- The first number of `(_ extract i j)`, by the label's value.
  same_high : high ≡ e.high
  same_high = is-high ∙ ap high_in e.bounds_are ∙ high-in e.high e.low e.small

  -- The second.
  same_low : low ≡ e.low
  same_low = is-low ∙ ap low_in e.bounds_are ∙ low-in e.high e.low e.small

  -- The operator's sort over the sorts of the values.
  pub sorted : operator_sort operator high low (sorts_in e.vs) ≡ some e.sort
  sorted = rw (same_high, same_low) e.sorted

  -- The operator takes the sorts.
  abbrev pub sortable : Sortable operator high low sortOne sortTwo
  sortable = record { sorts = sorts_in e.vs; result = e.sort; sorted = sorted; sort_one = e.sort_one; sort_two = e.sort_two }

  -- It takes the operands.
  abbrev pub operable : Operable operator high low sortOne sortTwo (take (past - top) (drop top stack))
  operable =
      record {
        sorts = sorts_in e.vs;
        result = e.sort;
        sorted = sorted;
        fit = rw e.numbers e.fit;
        width_one = e.sort_one;
        width_two = e.sort_two;
      }

-- The sort and the number are those of its value.
pub gave : {operator bounds high low sortOne sortTwo sort number top past : ℕ} {stack : List ℕ} → high ≡ high_in bounds → low ≡ low_in bounds
    → ResultSort operator high low sortOne sortTwo sort → Applied operator high low sortOne sortTwo (take (past - top) (drop top stack)) number
    → OperatorGave operator bounds sortOne sortTwo stack top past (value sort number)
gave h l s n e = ap₂ value (s (sortable e h l)) (n (operable e h l) ∙ rw (same_high e h l, same_low e h l, e.numbers))
