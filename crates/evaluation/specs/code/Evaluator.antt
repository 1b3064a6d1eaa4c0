-- What the evaluator asks and gives.
use Rattle.std.specs.Prelude.{ℕ, ◌+◌, ◌-◌, ◌*◌, ◌≤◌, ◌<◌, List, [], ◌∷◌, ◌++◌, ◌≡◌, drop, get_or, length, take}
use Rattle.std.proofs.Math.Option.{some}
use Rattle.forest.specs.Forest.{join}
use Rattle.forest.specs.Limits.{most_nodes}
use Rattle.forest.specs.code.Cursors.{from, size}
use Rattle.operators.specs.Operators.{operator_sort, operator_value}
use Rattle.operators.specs.Sorts.{AllFit}
use Rattle.terms.specs.Costs.{cost_of}
use Rattle.terms.specs.Labels.{Terms}
use Rattle.terms.specs.Sorts.{Definition}
use Rattle.terms.specs.Values.{numbers_in, sorts_in, value, values_at}
use Rattle.terms.specs.declared.Value.{Value}
use Rattle.evaluation.specs.code.Tables.{BodiesHold, TermStands}
use Rattle.terms.specs.code.Codes.{cut_value, low_count}

-- The stack has the numbers of the point from `base` on.
abbrev pub Names : (stack : List ℕ) (base : ℕ) (point : List Value) → Type 0
Names stack base point = take (length point) (drop base stack) ≡ numbers_in point

-- The stack has room from `top` on for the values of so many nodes, and for those of the bodies that they call: each of these calls fewer functions.
abbrev pub Room : (stack : List ℕ) (top nodes : ℕ) (defs funs : List Definition) → Type 0
Room stack top nodes defs funs = top + nodes + most_nodes * (length defs + length funs) ≤ length stack

-- A term that has a value stands at node i, and costs no more than `left`; the stack has the values of its names from `base` up to `top` at most, and room
-- behind them.
pub record Evaluable (nodes bodies stack : List ℕ) (base top i left : ℕ) : Type 0 where
  pub defs : List Definition
  pub funs : List Definition
  pub holds : BodiesHold nodes bodies defs funs
  pub point : List Value
  pub names : Names stack base point
  pub under : base + length point ≤ top
  pub fits : AllFit (sorts_in point) (numbers_in point)
  pub t : Terms
  pub stands : TermStands holds.all i t
  pub v : Value
  pub has : values_at defs funs point t ≡ some (v ∷ [])
  pub cost : cost_of defs funs t ≤ left
  pub room : Room stack top (size t) defs funs

-- This value, and a stack that is as before up to `top`.
pub record ValueIs (stack after : List ℕ) (top : ℕ) (r v : Value) : Type 0 where
  pub is : r ≡ v
  pub kept : take top after ≡ take top stack
  pub as_long : length after ≡ length stack

-- The value of the term.
abbrev pub Evaluated : (nodes bodies stack after : List ℕ) (base top i left : ℕ) (r : Value) → Type 0
Evaluated nodes bodies stack after base top i left r = (e : Evaluable nodes bodies stack base top i left) → ValueIs stack after top r e.v

-- Operands that have values stand from node i up to node `stop`, and cost no more than `left`; the stack has the values of their names from `base` up to
-- `top` at most, and room behind them.
pub record OperandsEvaluable (nodes bodies stack : List ℕ) (base top i stop left : ℕ) : Type 0 where
  pub defs : List Definition
  pub funs : List Definition
  pub holds : BodiesHold nodes bodies defs funs
  pub point : List Value
  pub names : Names stack base point
  pub under : base + length point ≤ top
  pub fits : AllFit (sorts_in point) (numbers_in point)
  pub ops : Terms
  pub rest : Terms
  pub at : from holds.all i ≡ join ops rest
  pub ends : stop ≡ i + size ops
  pub vs : List Value
  pub has : values_at defs funs point ops ≡ some vs
  pub cost : cost_of defs funs ops ≤ left
  pub room : Room stack top (size ops) defs funs

-- A stack that is as before up to `top` and has the numbers of the values from there on.
pub record Pushed (stack after : List ℕ) (top : ℕ) (vs : List Value) : Type 0 where
  pub numbers : take (top + length vs) after ≡ take top stack ++ numbers_in vs
  pub as_long : length after ≡ length stack

-- The numbers of the operands on the stack from `top` on, and the sorts of the first two.
pub record OperandsAre (stack after : List ℕ) (top one two : ℕ) (vs : List Value) : Type 0 where
  pub pushed : Pushed stack after top vs
  pub sort_one : one ≡ get_or (sorts_in vs) 0 0
  pub sort_two : two ≡ get_or (sorts_in vs) 1 0

-- The values of the operands.
abbrev pub OperandsEvaluated : (nodes bodies stack after : List ℕ) (base top i stop left one two : ℕ) → Type 0
OperandsEvaluated nodes bodies stack after base top i stop left one two =
    (e : OperandsEvaluable nodes bodies stack base top i stop left) → OperandsAre stack after top one two e.vs

-- Operands of values that an operator gives a value, with the numbers of an `extract`: the sorts of the first two, of which one that is not there is 0, and
-- the numbers, which the stack has from `top` up to `past`.
pub record OperatorReady (operator bounds sortOne sortTwo : ℕ) (stack : List ℕ) (top past : ℕ) : Type 0 where
  pub high : ℕ
  pub low : ℕ
  pub bounds_are : bounds ≡ cut_value high low
  pub small : low < low_count
  pub vs : List Value
  pub fit : AllFit (sorts_in vs) (numbers_in vs)
  pub sort : ℕ
  pub sorted : operator_sort operator high low (sorts_in vs) ≡ some sort
  pub sort_one : sortOne ≡ get_or (sorts_in vs) 0 0
  pub sort_two : sortTwo ≡ get_or (sorts_in vs) 1 0
  pub order : top ≤ past
  pub within : past ≤ length stack
  pub numbers : take (past - top) (drop top stack) ≡ numbers_in vs

-- The value that it gives them.
abbrev pub OperatorGave : (operator bounds sortOne sortTwo : ℕ) (stack : List ℕ) (top past : ℕ) (r : Value) → Type 0
OperatorGave operator bounds sortOne sortTwo stack top past r =
    (e : OperatorReady operator bounds sortOne sortTwo stack top past)
    → r ≡ value e.sort (operator_value operator e.high e.low (sorts_in e.vs) (numbers_in e.vs))
