-- What follows from the checker's contract, `Checked`: the words in which proofs/ states it (Exact, Units, Demands).
use Rattle.std.specs.Prelude.{ℕ, ◌+◌, ◌≤◌, ◌<◌, Bool, true, false, cond, List, [], ◌∷◌, ◌≡◌, get_or, length, take, Ok}
use Rattle.std.proofs.Math.Option.{Option, some}
use Rattle.forest.specs.Forest.{none}
use Rattle.forest.specs.Limits.{first_assumption}
use Rattle.operators.specs.Sorts.{AllFit, bool}
use Rattle.terms.specs.Labels.{Terms}
use Rattle.terms.specs.Values.{numbers_in, sorts_in, value, values_at}
use Rattle.terms.specs.declared.Value.{Value}
use Rattle.evaluation.specs.Points.{point_at, points_of}
use Rattle.evaluation.specs.Running.{is_true_value}
use Rattle.names.specs.Scopes.{named_sorts}
use Rattle.script.specs.Script.{Known, definitions_of}
use Rattle.script.specs.Response.{Body, in_script_order}
use Rattle.script.specs.Outcome.{offset_of}
use Rattle.outcome.specs.Checked.{Passing, unshown}
use Rattle.outcome.specs.Derived.{Derived, FirstUnderived, ListsShown, no_totals, shown_area, terms_of, totals}
use Rattle.outcome.specs.Evaluated.{functions_with}
use Rattle.outcome.specs.Units.{all_hold, point_cost, sum_from, summed}
use Rattle.outcome.specs.declared.Outcome.{Outcome}

-- The answers 0, 14 and 15: "These three show the derivations".
pub data Showing : (number : ℕ) → Type 0 where
  accepted : Showing 0
  constraint_false : Showing 14
  budget_ended : Showing 15

-- Texts that pass, an area that shows a derivation of each body from its function's grammar, and what each weighs.
pub record DerivationsShown (script response points area areaAfter weights : List ℕ) : Type 0 where
  pub k : Known
  pub bs : List Body
  pub lists : List (List ℕ)
  pub passing : Passing script response points area k bs
  pub shown : ListsShown (in_script_order k.functions) (terms_of bs) lists
  pub is : areaAfter ≡ shown_area lists
  pub weigh : weights ≡ totals (in_script_order k.functions) lists

-- "These three show the derivations; after any other answer each entry is 65,535, except that an area of wrong size is unchanged."
-- "The total is reported for each function, 0 where none is shown." (E13)
pub data AreaStated (script response points area : List ℕ) (o : Outcome) (areaAfter weights : List ℕ) : Type 0 where
  shows : Showing o.number → DerivationsShown script response points area areaAfter weights → AreaStated script response points area o areaAfter weights
  shows_none : (Showing o.number → ⊥) → areaAfter ≡ unshown area → weights ≡ no_totals → AreaStated script response points area o areaAfter weights

-- Texts that pass, of which the answer names the first function whose grammar derives its body by no list of rules, of any length, and the body's first word.
pub record NoDerivation (script response points area : List ℕ) (o : Outcome) : Type 0 where
  pub k : Known
  pub bs : List Body
  pub b : Body
  pub passing : Passing script response points area k bs
  pub first : FirstUnderived (in_script_order k.functions) bs o.second b
  pub place : o.place ≡ offset_of response b.first
  pub none_derived : Derived (in_script_order k.functions) (terms_of bs) → ⊥

-- The answers of a response that "passes the grammar check": the three that show derivations, and 16, which speaks of the points.
pub data GrammarPassed : (number : ℕ) → Type 0 where
  showing : {number : ℕ} → Showing number → GrammarPassed number
  bad_points : GrammarPassed 16

-- Texts that pass, each of whose bodies its function's grammar derives.
pub record BodiesDerived (script response points area : List ℕ) : Type 0 where
  pub k : Known
  pub bs : List Body
  pub passing : Passing script response points area k bs
  pub derived : Derived (in_script_order k.functions) (terms_of bs)

-- "a well-sorted response passes the grammar check exactly when each body has a derivation from its function's grammar": where the texts pass and each body is
-- derived the answer is 0, 14, 15 or 16, and it is one of these only there; where a body is not derived it is 13, which names the first such body, and 13 is
-- answered only there.
pub record Exact (script response points area : List ℕ) (o : Outcome) : Type 0 where
  pub derived_passes : {k : Known} {bs : List Body} → Passing script response points area k bs → Derived (in_script_order k.functions) (terms_of bs)
      → GrammarPassed o.number
  pub passed_derived : GrammarPassed o.number → BodiesDerived script response points area
  pub underived_refused : {k : Known} {bs : List Body} → Passing script response points area k bs
      → (Derived (in_script_order k.functions) (terms_of bs) → ⊥) → o.number ≡ 13
  pub refused_underived : o.number ≡ 13 → NoDerivation script response points area o

-- Point p of the list.
abbrev pub point_of : Known → (points : List ℕ) → (p : ℕ) → List Value
point_of k points p = point_at (named_sorts k.variables) points p

-- The summed cost of terms, where the functions of the script have the terms ts for bodies.
abbrev pub cost_on : Known → (ts terms : List Terms) → ℕ
cost_on k ts terms = summed (definitions_of k.defined) (functions_with k ts) terms

-- Whether all assumptions hold at point p.
abbrev pub assumed_at : Known → (ts : List Terms) → (points : List ℕ) → (p : ℕ) → Bool
assumed_at k ts points p = all_hold (definitions_of k.defined) (functions_with k ts) (point_of k points p) k.assumptions

-- The cost of all points before p.
abbrev pub spent_before : Known → (ts : List Terms) → (points : List ℕ) → (p : ℕ) → ℕ
spent_before k ts points p =
    sum_from (λ (q : ℕ). point_cost (definitions_of k.defined) (functions_with k ts) (point_of k points q) k.assumptions k.constraints) 0 p

-- The number of points before p at which all assumptions hold.
abbrev pub held_before : Known → (ts : List Terms) → (points : List ℕ) → (p : ℕ) → ℕ
held_before k ts points p = sum_from (λ (q : ℕ). cond (assumed_at k ts points q) 1 0) 0 p

-- The values of a term at point p, where the functions of the script have the terms ts for bodies.
abbrev pub values_on : Known → (ts : List Terms) → (points : List ℕ) → (p : ℕ) → Terms → Option (List Value)
values_on k ts points p t = values_at (definitions_of k.defined) (functions_with k ts) (point_of k points p) t

-- The first n of the terms are true at point p.
abbrev pub TrueTo : Known → (ts : List Terms) → (points : List ℕ) → (p : ℕ) → (terms : List Terms) → (n : ℕ) → Type 0
TrueTo k ts points p terms n = (d : ℕ) → d < n → is_true_value (values_on k ts points p (get_or terms d none)) ≡ true

-- The term that 15 names: a constraint by its number, or an assumption, as "Answer 15 numbers assumptions from 64" (E1).
pub data TermNamed (k : Known) : (number : ℕ) → Type 0 where
  constraint_named : {c : ℕ} → c < length k.constraints → TermNamed k c
  assumption_named : {a : ℕ} → a < length k.assumptions → TermNamed k (first_assumption + a)

-- The cost of what is evaluated before it at its point.
abbrev pub cost_before : (k : Known) → (ts : List Terms) → {number : ℕ} → TermNamed k number → ℕ
cost_before k ts (constraint_named {c} h) = cost_on k ts k.assumptions + cost_on k ts (take c k.constraints)
cost_before k ts (assumption_named {a} h) = cost_on k ts (take a k.assumptions)

-- The same with its own.
abbrev pub cost_with : (k : Known) → (ts : List Terms) → {number : ℕ} → TermNamed k number → ℕ
cost_with k ts (constraint_named {c} h) = cost_on k ts k.assumptions + cost_on k ts (take (c + 1) k.constraints)
cost_with k ts (assumption_named {a} h) = cost_on k ts (take (a + 1) k.assumptions)

-- "One whose cost exceeds what the budget has left isn't begun": the units are those of what is evaluated before the term that is named, and with its cost they
-- would exceed the budget.
pub record NotBegun (k : Known) (ts : List Terms) (points : List ℕ) (budget : ℕ) (o : Outcome) : Type 0 where
  pub named : TermNamed k o.second
  pub units : o.units ≡ spent_before k ts points o.place + cost_before k ts named
  pub exceeds : budget < spent_before k ts points o.place + cost_with k ts named

-- "the units spent: the summed cost of evaluations done, a false one included".
pub record UnitsStated (k : Known) (ts : List Terms) (points : List ℕ) (budget : ℕ) (o : Outcome) : Type 0 where
  pub accepted : o.number ≡ 0 → (n : ℕ) → points_of (named_sorts k.variables) points ≡ Ok n → o.units ≡ spent_before k ts points n
  pub constraint_false : o.number ≡ 14
      → o.units ≡ spent_before k ts points o.place + (cost_on k ts k.assumptions + cost_on k ts (take (o.second + 1) k.constraints))
  pub budget_ended : o.number ≡ 15 → NotBegun k ts points budget o
  pub within : o.units ≤ budget

-- A point of the list and a constraint, by their numbers.
pub record Named (k : Known) (points : List ℕ) (p c : ℕ) : Type 0 where
  pub n : ℕ
  pub whole : points_of (named_sorts k.variables) points ≡ Ok n
  pub point : p < n
  pub constraint : c < length k.constraints

-- At each of the points before p at which all assumptions hold, every constraint is true.
abbrev pub PassedBefore : Known → (ts : List Terms) → (points : List ℕ) → (p : ℕ) → Type 0
PassedBefore k ts points p = (q : ℕ) → q < p → assumed_at k ts points q ≡ true → TrueTo k ts points q k.constraints (length k.constraints)

-- All points are done, and so many hold their assumptions.
pub record AllDone (k : Known) (ts : List Terms) (points : List ℕ) (held : ℕ) : Type 0 where
  pub n : ℕ
  pub whole : points_of (named_sorts k.variables) points ≡ Ok n
  pub passed : PassedBefore k ts points n
  pub counted : held ≡ held_before k ts points n

-- What is evaluated at point p before the term of the number: "the assumptions .. first, in script order", then the constraints in theirs, all of them true.
abbrev pub TrueBefore : (k : Known) → (ts : List Terms) → (points : List ℕ) → (p : ℕ) → {number : ℕ} → TermNamed k number → Type 0
TrueBefore k ts points p (constraint_named {c} h) = (assumed_at k ts points p ≡ true) × TrueTo k ts points p k.constraints c
TrueBefore k ts points p (assumption_named {a} h) = TrueTo k ts points p k.assumptions a

-- The run ended before the term of the number at point p.
pub record EndedBefore (k : Known) (ts : List Terms) (points : List ℕ) (p number : ℕ) : Type 0 where
  pub n : ℕ
  pub whole : points_of (named_sorts k.variables) points ≡ Ok n
  pub point : p < n
  pub passed : PassedBefore k ts points p
  pub named : TermNamed k number
  pub true_before : TrueBefore k ts points p named

-- "for each point, each constraint in script order; the first false one ends the work with answer 14"; "At each point the assumptions are evaluated first, in
-- script order, up to the first false one, which skips the point's constraints." (E1)
pub record InOrder (k : Known) (ts : List Terms) (points : List ℕ) (o : Outcome) : Type 0 where
  pub accepted : o.number ≡ 0 → AllDone k ts points o.second
  pub constraint_false : o.number ≡ 14 → Named k points o.place o.second × PassedBefore k ts points o.place
      × (assumed_at k ts points o.place ≡ true) × TrueTo k ts points o.place k.constraints o.second
      × (is_true_value (values_on k ts points o.place (get_or k.constraints o.second none)) ≡ false)
  pub budget_ended : o.number ≡ 15 → EndedBefore k ts points o.place o.second

-- A "point of the right sorts": a value for each variable, of the variable's sort.
pub record RightSorts (k : Known) (point : List Value) : Type 0 where
  pub sorts : sorts_in point ≡ named_sorts k.variables
  pub values : AllFit (sorts_in point) (numbers_in point)

-- "one truth value": one value, and it is false or true.
pub data OneTruth : Option (List Value) → Type 0 where
  is_false : OneTruth (some (value bool 0 ∷ []))
  is_true : OneTruth (some (value bool 1 ∷ []))

-- "the budget is at least the summed cost of all the evaluations", those of n points.
abbrev pub Affords : Known → (ts : List Terms) → (points : List ℕ) → (n budget : ℕ) → Type 0
Affords k ts points n budget = spent_before k ts points n ≤ budget

-- At each of n points at which all assumptions hold, every constraint is true.
abbrev pub AllTrue : Known → (ts : List Terms) → (points : List ℕ) → (n : ℕ) → Type 0
AllTrue k ts points n =
    (p c : ℕ) → p < n → assumed_at k ts points p ≡ true → c < length k.constraints
    → values_on k ts points p (get_or k.constraints c none) ≡ some (value bool 1 ∷ [])

-- A point at which all assumptions hold, and a constraint that is false there, by their numbers.
pub record NamedFalse (k : Known) (ts : List Terms) (points : List ℕ) (p c : ℕ) : Type 0 where
  pub named : Named k points p c
  pub assumed : assumed_at k ts points p ≡ true
  pub is_false : values_on k ts points p (get_or k.constraints c none) ≡ some (value bool 0 ∷ [])

-- "accepted" and "constraint false", for every budget: with 0 every constraint is true at every point whose assumptions hold, and 14 names a point whose
-- assumptions hold and a constraint that is false there.
pub record Truthful (k : Known) (ts : List Terms) (points : List ℕ) (o : Outcome) : Type 0 where
  pub accepted : o.number ≡ 0 → (n : ℕ) → points_of (named_sorts k.variables) points ≡ Ok n → AllTrue k ts points n
  pub constraint_false : o.number ≡ 14 → NamedFalse k ts points o.place o.second

-- "the answer can only be accepted or a named false constraint": every constraint is true at every point whose assumptions hold; or the constraint named is
-- false at the point named, whose assumptions hold.
pub data Decided (k : Known) (ts : List Terms) (points : List ℕ) (n : ℕ) (o : Outcome) : Type 0 where
  all_true : o.number ≡ 0 → AllTrue k ts points n → Decided k ts points n o
  named_false : o.number ≡ 14 → NamedFalse k ts points o.place o.second → Decided k ts points n o
