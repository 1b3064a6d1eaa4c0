-- What the functions that hold costs ask and give.
use Rattle.std.specs.Prelude.{ℕ, ◌+◌, ◌≤◌, ◌<◌, List, ◌≡◌, get_or, length}
use Rattle.forest.specs.Forest.{count}
use Rattle.terms.specs.Costs.{cost_of}
use Rattle.terms.specs.Labels.{Terms}
use Rattle.terms.specs.Sorts.{Definition}
use Rattle.evaluation.specs.code.Budget.{Priced, held}
use Rattle.evaluation.specs.code.Tables.{CallsKnown, BodiesHold, TermStands}
use Rattle.forest.specs.Limits.{most_defined, most_functions}

-- A term stands at node i, and the costs of the bodies that it calls are known.
pub record Costing (nodes bodies costs : List ℕ) (i : ℕ) : Type 0 where
  pub defs : List Definition
  pub funs : List Definition
  pub holds : BodiesHold nodes bodies defs funs
  pub priced : Priced costs defs funs
  pub t : Terms
  pub stands : TermStands holds.all i t
  pub calls : CallsKnown (length defs) (length funs) t

-- What is held of its cost.
abbrev pub Cost : (nodes bodies costs : List ℕ) (i r : ℕ) → Type 0
Cost nodes bodies costs i r = (e : Costing nodes bodies costs i) → r ≡ held (cost_of e.defs e.funs e.t)

-- A term stands at node i, the costs of the bodies that it calls are known, and it has this cost.
pub record Priceable (nodes bodies costs : List ℕ) (i price : ℕ) : Type 0 where
  pub costing : Costing nodes bodies costs i
  pub is : price ≡ cost_of costing.defs costing.funs costing.t

-- The list `after` has what is held of the first k prices from place `base` on, and before that what the list `costs` has.
pub record FilledTo (costs after : List ℕ) (base k : ℕ) (price : ℕ → ℕ) : Type 0 where
  pub kept : (j : ℕ) → j < base → get_or after j 0 ≡ get_or costs j 0
  pub filled : (j : ℕ) → j < k → get_or after (base + j) 0 ≡ held (price j)
  pub as_long : length after ≡ length costs

-- Bodies whose nodes stand from place `base` on, `count` of them; the cost of each can be told once those of the bodies before it are filled in.
pub record Filling (nodes bodies costs : List ℕ) (base count : ℕ) : Type 0 where
  pub long : length costs ≡ most_defined + most_functions
  pub room : base + count ≤ most_defined + most_functions
  pub price : ℕ → ℕ
  pub bodies_at : (k : ℕ) → k < count → (after : List ℕ) → FilledTo costs after base k price → Priceable nodes bodies after (get_or bodies (base + k) 0) (price k)

-- Their costs, filled in.
abbrev pub FilledIn : (nodes bodies costs after : List ℕ) (base count : ℕ) → Type 0
FilledIn nodes bodies costs after base count = (e : Filling nodes bodies costs base count) → FilledTo costs after base count e.price

-- Tables that hold functions whose bodies' costs are to be filled in.
pub record Pricing (nodes bodies : List ℕ) (definedCount functionCount : ℕ) : Type 0 where
  pub defs : List Definition
  pub funs : List Definition
  pub holds : BodiesHold nodes bodies defs funs
  pub defined_are : definedCount ≡ length defs
  pub functions_are : functionCount ≡ length funs

-- The costs, filled in.
abbrev pub Prices : (nodes bodies : List ℕ) (definedCount functionCount : ℕ) (costs : List ℕ) → Type 0
Prices nodes bodies definedCount functionCount costs = (e : Pricing nodes bodies definedCount functionCount) → Priced costs e.defs e.funs
