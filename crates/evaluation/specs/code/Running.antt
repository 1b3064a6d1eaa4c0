-- What the run over points asks and gives.
use Rattle.std.specs.Prelude.{ℕ, ◌+◌, ◌*◌, ◌≤◌, ◌<◌, List, [], ◌∷◌, ◌≡◌, get_or, length, take}
use Rattle.std.proofs.Math.Option.{some}
use Rattle.operators.specs.Sorts.{AllFit, bool}
use Rattle.forest.specs.Limits.{first_assumption, most_assumptions, most_defined, most_functions, most_nodes, most_variables}
use Rattle.forest.specs.code.Cursors.{size}
use Rattle.terms.specs.Costs.{cost_of}
use Rattle.terms.specs.Labels.{Terms}
use Rattle.terms.specs.Sorts.{Definition}
use Rattle.terms.specs.Values.{numbers_in, sorts_in, values_at}
use Rattle.terms.specs.declared.Value.{Value}
use Rattle.evaluation.specs.code.Budget.{Priced, held}
use Rattle.evaluation.specs.code.Tables.{CallsKnown, BodiesHold, TermStands}
use Rattle.evaluation.specs.code.Evaluator.{Names, Room}
use Rattle.evaluation.specs.code.Costs.{Cost, Costing}
use Rattle.evaluation.specs.Points.{point_at, point_count}
use Rattle.evaluation.specs.Running.{run_point, run_points, run_terms}
use Rattle.evaluation.specs.declared.Ran.{Ran}
use Rattle.evaluation.specs.declared.Run.{Run}
use Rattle.evaluation.specs.declared.Stated.{Stated}
use Rattle.evaluation.specs.declared.Turn.{Turn}
use Rattle.evaluation.specs.declared.Visit.{Visit}

-- Terms, from number m on, stand at the nodes that the table has.
unfoldable pub TermsFrom : (all : Terms) → (places : List ℕ) → (m : ℕ) → List Terms → Type 0
TermsFrom all places m [] = Unit {0}
TermsFrom all places m (t ∷ ts) = TermStands all (get_or places m 0) t × TermsFrom all places (m + 1) ts

-- The term has one value at the point, and it is a Bool.
pub record HasTruth (defs funs : List Definition) (point : List Value) (t : Terms) : Type 0 where
  pub v : Value
  pub is : values_at defs funs point t ≡ some (v ∷ [])
  pub truth : v.sort ≡ bool

-- Each of the terms has one value at the point, a Bool.
unfoldable pub AllValued : (defs funs : List Definition) → (point : List Value) → List Terms → Type 0
AllValued defs funs point [] = Unit {0}
AllValued defs funs point (t ∷ ts) = HasTruth defs funs point t × AllValued defs funs point ts

-- How many terms a table of them has room for: constraints in front, and assumptions from their first number on.
abbrev pub stated_terms : ℕ
stated_terms = first_assumption + most_assumptions

-- Terms of the numbers from `first` on, `count` of them, stand at the nodes that the table has, and the costs of the bodies that they call are known.
pub record TermsCosting (nodes bodies costs places : List ℕ) (first count : ℕ) : Type 0 where
  pub within : first + count ≤ stated_terms
  pub long : length places ≡ stated_terms
  pub each : (k : ℕ) → first ≤ k → k < first + count → Costing nodes bodies costs (get_or places k 0)

-- The table `prices` has what is held of the cost of each of them, and elsewhere what it had.
pub record Prices (nodes bodies costs places prices after : List ℕ) (first end : ℕ) : Type 0 where
  pub each : (k : ℕ) → first ≤ k → k < end → Cost nodes bodies costs (get_or places k 0) (get_or after k 0)
  pub before : (k : ℕ) → k < first → get_or after k 0 ≡ get_or prices k 0
  pub as_long : length after ≡ length prices

-- The same of constraints, from 0 on, and of assumptions, from their first number on.
pub record StatedCosting (nodes bodies costs places : List ℕ) (s : Stated) : Type 0 where
  pub constraints : TermsCosting nodes bodies costs places 0 s.constraints
  pub assumptions : TermsCosting nodes bodies costs places first_assumption s.assumptions
  pub few : s.constraints ≤ first_assumption

-- The table `prices` has what is held of the cost of each of them.
pub record StatedPriced (nodes bodies costs places : List ℕ) (s : Stated) (prices : List ℕ) : Type 0 where
  pub constraints : (k : ℕ) → k < s.constraints → Cost nodes bodies costs (get_or places k 0) (get_or prices k 0)
  pub assumptions : (k : ℕ) → first_assumption ≤ k → k < first_assumption + s.assumptions → Cost nodes bodies costs (get_or places k 0) (get_or prices k 0)
  pub as_long : length prices ≡ stated_terms

-- Each of the terms has no more nodes than a constraint may have.
unfoldable pub SmallTerms : List Terms → Type 0
SmallTerms [] = Unit {0}
SmallTerms (t ∷ ts) = (size t ≤ most_nodes) × SmallTerms ts

-- How many values the stack of a run holds: those of the variables, and of the nodes of a constraint and of each body that it may be within.
abbrev pub stack_size : ℕ
stack_size = most_variables + most_nodes * (most_defined + most_functions + 1)

-- A stack that has the numbers at its front, and is as long as before.
pub record Fronted (stack after numbers : List ℕ) : Type 0 where
  pub front : take (length numbers) after ≡ numbers
  pub as_long : length after ≡ length stack

-- Terms, from number `first` on, stand at the nodes that the table has, each of no more nodes than it may have, and they have room in the table.
pub record Placed (all : Terms) (places : List ℕ) (first : ℕ) (terms : List Terms) : Type 0 where
  pub at : TermsFrom all places first terms
  pub small : SmallTerms terms
  pub within : first + length terms ≤ stated_terms

-- The table `prices` has what is held of the costs of the terms from number `first` on, before `end`.
abbrev pub PricedBetween : (all : Terms) → (defs funs : List Definition) → (prices places : List ℕ) → (first end : ℕ) → Type 0
PricedBetween all defs funs prices places first end =
    (k : ℕ) → first ≤ k → k < end → (t : Terms) → TermStands all (get_or places k 0) t → CallsKnown (length defs) (length funs) t
    → get_or prices k 0 ≡ held (cost_of defs funs t)

-- A point, whose values are the first `width` of a stack that has room behind them for any term.
pub record PointStands (stack : List ℕ) (width : ℕ) (defs funs : List Definition) (point : List Value) : Type 0 where
  pub names : Names stack 0 point
  pub under : length point ≤ width
  pub room : Room stack width most_nodes defs funs
  pub fits : AllFit (sorts_in point) (numbers_in point)

-- Terms of the numbers from `first` on, `count` of them, that can be run one after the other at a point, and what is held of the cost of each.
pub record Runnable (nodes bodies prices places stack : List ℕ) (width first count : ℕ) : Type 0 where
  pub defs : List Definition
  pub funs : List Definition
  pub holds : BodiesHold nodes bodies defs funs
  pub point : List Value
  pub stands : PointStands stack width defs funs point
  pub terms : List Terms
  pub counted : count ≡ length terms
  pub placed : Placed holds.all places first terms
  pub priced : PricedBetween holds.all defs funs prices places first (first + count)
  pub valued : AllValued defs funs point terms
  pub places_long : length places ≡ stated_terms
  pub prices_long : length prices ≡ stated_terms

-- A stack that is as before up to `width`, and as long.
pub record FrontKept (stack after : List ℕ) (width : ℕ) : Type 0 where
  pub kept : take width after ≡ take width stack
  pub as_long : length after ≡ length stack

-- What running them finds; the values of the point stand as before.
abbrev pub TermsRan : (nodes bodies prices places stack after : List ℕ) (width : ℕ) (t : Turn) (left : ℕ) (r : Ran) → Type 0
TermsRan nodes bodies prices places stack after width t left r =
    (e : Runnable nodes bodies prices places stack width t.first t.count)
    → (r ≡ run_terms e.defs e.funs e.point e.terms t.point t.first left) × FrontKept stack after width

-- Constraints and assumptions that can be run at a point, and what is held of the cost of each.
pub record PointRunnable (nodes bodies prices places stack : List ℕ) (width : ℕ) (s : Stated) : Type 0 where
  pub defs : List Definition
  pub funs : List Definition
  pub holds : BodiesHold nodes bodies defs funs
  pub point : List Value
  pub stands : PointStands stack width defs funs point
  pub constraints : List Terms
  pub assumptions : List Terms
  pub constraints_counted : s.constraints ≡ length constraints
  pub assumptions_counted : s.assumptions ≡ length assumptions
  pub constraints_placed : Placed holds.all places 0 constraints
  pub assumptions_placed : Placed holds.all places first_assumption assumptions
  pub constraints_priced : PricedBetween holds.all defs funs prices places 0 s.constraints
  pub assumptions_priced : PricedBetween holds.all defs funs prices places first_assumption (first_assumption + s.assumptions)
  pub constraints_valued : AllValued defs funs point constraints
  pub assumptions_valued : AllValued defs funs point assumptions
  pub places_long : length places ≡ stated_terms
  pub prices_long : length prices ≡ stated_terms

-- What running them finds.
abbrev pub PointRan : (nodes bodies prices places stack after : List ℕ) (width : ℕ) (v : Visit) (left : ℕ) (r : Run) → Type 0
PointRan nodes bodies prices places stack after width v left r =
    (e : PointRunnable nodes bodies prices places stack width v.stated)
    → (r ≡ run_point e.defs e.funs e.point e.assumptions e.constraints v.point left) × (length after ≡ length stack)

-- Constraints and assumptions that can be run at every point of a list.
pub record PointsRunnable (nodes bodies costs places : List ℕ) (s : Stated) (sorts numbers : List ℕ) : Type 0 where
  pub defs : List Definition
  pub funs : List Definition
  pub holds : BodiesHold nodes bodies defs funs
  pub priced : Priced costs defs funs
  pub few_variables : length sorts ≤ most_variables
  pub constraints : List Terms
  pub assumptions : List Terms
  pub constraints_counted : s.constraints ≡ length constraints
  pub assumptions_counted : s.assumptions ≡ length assumptions
  pub constraints_placed : Placed holds.all places 0 constraints
  pub assumptions_placed : Placed holds.all places first_assumption assumptions
  pub few_constraints : s.constraints ≤ first_assumption
  pub places_long : length places ≡ stated_terms
  pub whole : point_count (length sorts) (length numbers) * length sorts ≡ length numbers
  pub fits : (p : ℕ) → p < point_count (length sorts) (length numbers) → AllFit sorts (numbers_in (point_at sorts numbers p))
  pub constraints_valued : (p : ℕ) → p < point_count (length sorts) (length numbers) → AllValued defs funs (point_at sorts numbers p) constraints
  pub assumptions_valued : (p : ℕ) → p < point_count (length sorts) (length numbers) → AllValued defs funs (point_at sorts numbers p) assumptions

-- What running them finds.
abbrev pub PointsRan : (nodes bodies costs places : List ℕ) (s : Stated) (sorts numbers : List ℕ) (budget : ℕ) (r : Run) → Type 0
PointsRan nodes bodies costs places s sorts numbers budget r =
    (e : PointsRunnable nodes bodies costs places s sorts numbers)
    → r ≡ run_points e.defs e.funs sorts numbers e.assumptions e.constraints (point_count (length sorts) (length numbers)) 0 0 budget
