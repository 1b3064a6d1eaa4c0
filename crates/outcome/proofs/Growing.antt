-- One command more: what was sorted before stays so.
use Prim.Native.Nat.{ℕ, suc, ◌-◌, ◌≤◌}
use native.Mathlib.Omega.{arith}
use mathlib.Core.Bool.{Bool}
use mathlib.Core.List.{List, [], ◌∷◌, ◌++◌, map, map-append}
use mathlib.Core.Option.{some}
use mathlib.Core.Path.{◌≡◌}
use lib.ListN.{length}
use Rattle.terms.specs.Labels.{Terms}
use Rattle.terms.specs.Sorts.{Scope, sorts_of as termSorts}
use Rattle.terms.specs.code.Sorted.{AllSorted, BodySorted}
use Rattle.names.specs.Scopes.{Defined, Function, Named, signature_of}
use Rattle.term_faults.specs.Faults.{scope_of}
use Rattle.script.specs.Script.{Known, constraint_view}
use Rattle.outcome.specs.Sorted.{grammar_scope}
use Rattle.outcome.specs.code.Sorted.{AllBool, AllRulesSorted, RulesSorted, Sorted}
use Rattle.outcome.proofs.Widening.{bool_wider, wider_defined, wider_functions, wider_names}

-- No function has more `define-fun`s before it than there are.
unfoldable pub AllBefore : (count : ℕ) → List Function → Type 0
AllBefore count [] = Unit {0}
AllBefore count (f ∷ others) = (f.before ≤ count) × AllBefore count others

-- What is known is sorted, and the functions stand behind their `define-fun`s.
pub record Sound (k : Known) : Type 0 where
  pub sorted : Sorted k
  pub before : AllBefore (length k.defined) k.functions

-- One `define-fun` more does not come before the functions.
before_more : (count : ℕ) (fs : List Function) → AllBefore count fs → AllBefore (suc count) fs
unfolding AllBefore
before_more count [] all = tt
before_more count (f ∷ others) all = let h = all.0 in (omega arith, before_more count others all.1)

-- The rules of a function see the same with one `define-fun` more.
same_scope : (d : Defined) (defs : List Defined) (f : Function) → f.before ≤ length defs → grammar_scope defs f ≡ grammar_scope (d ∷ defs) f
same_scope d defs f h =
    let less : suc (length defs) - f.before ≡ suc (length defs - f.before) = omega arith in
    rw less

-- The rules stay sorted with one `define-fun` more.
rules_more : (d : Defined) (defs : List Defined) (fs : List Function) → AllBefore (length defs) fs → AllRulesSorted defs fs → AllRulesSorted (d ∷ defs) fs
unfolding AllBefore AllRulesSorted
rules_more d defs [] before all = tt
rules_more d defs (f ∷ others) before all =
    let e = same_scope d defs f before.0 in
    let s = all.0 in
    let first : RulesSorted (d ∷ defs) f =
    record { start = s.start; heads = s.heads; rules = λ r h. rw (← e) (s.rules r h); arguments = s.arguments } in
    (first, rules_more d defs others before.1 all.1)

-- Terms that are Bool, and one more.
pub bool_more : (scope : Scope) (ts : List Terms) (t : Terms) → AllBool scope ts → termSorts scope t ≡ some (0 ∷ []) → AllBool scope (ts ++ t ∷ [])
unfolding AllBool
bool_more scope [] t all h = (h, tt)
bool_more scope (u ∷ more) t all h = (all.0, bool_more scope more t all.1 h)

module _ (k : Known) (logic weights ended : Bool) (sound : Sound k) where
  -- Constraints and assumptions are said, which are Bool.
  pub with_stated : (constraints assumptions : List Terms) → AllBool (scope_of (constraint_view k)).terms constraints
      → AllBool (scope_of (constraint_view k)).terms assumptions → Sound (record {
        logic = logic;
        weights = weights;
        ended = ended;
        variables = k.variables;
        defined = k.defined;
        functions = k.functions;
        constraints = constraints;
        assumptions = assumptions;
      })
  with_stated constraints assumptions constrained assumed =
      let s = sound.sorted in
      record {
        sorted = record { bodies = s.bodies; functions = s.functions; constraints = constrained; assumptions = assumed };
        before = sound.before;
      }

  -- A variable more is declared.
  pub with_variable : (v : Named) → Sound (record {
    logic = logic;
    weights = weights;
    ended = ended;
    variables = k.variables ++ v ∷ [];
    defined = k.defined;
    functions = k.functions;
    constraints = k.constraints;
    assumptions = k.assumptions;
  })
  with_variable v =
      let s = sound.sorted in
      let wider = wider_names (scope_of (constraint_view k)).terms v.sort in
      let sorts = map-append (λ (n : Named). n.sort) k.variables (v ∷ []) in
      record {
        sorted = record {
          bodies = s.bodies;
          functions = s.functions;
          constraints = rw sorts (bool_wider wider k.constraints s.constraints);
          assumptions = rw sorts (bool_wider wider k.assumptions s.assumptions);
        };
        before = sound.before;
      }

  -- A `define-fun` more is read, whose body has its sort.
  pub with_definition : (d : Defined) → BodySorted (map (λ (e : Defined). e.definition) k.defined) d.definition → Sound (record {
    logic = logic;
    weights = weights;
    ended = ended;
    variables = k.variables;
    defined = d ∷ k.defined;
    functions = k.functions;
    constraints = k.constraints;
    assumptions = k.assumptions;
  })
  unfolding AllSorted
  with_definition d h =
      let s = sound.sorted in
      let wider = wider_defined (scope_of (constraint_view k)).terms d.definition.signature in
      record {
        sorted = record {
          bodies = (h, s.bodies);
          functions = rules_more d k.defined k.functions sound.before s.functions;
          constraints = bool_wider wider k.constraints s.constraints;
          assumptions = bool_wider wider k.assumptions s.assumptions;
        };
        before = before_more (length k.defined) k.functions sound.before;
      }

  -- A function more is to be synthesized, whose rules have their sorts.
  pub with-function : (f : Function) → f.before ≤ length k.defined → RulesSorted k.defined f → Sound (record {
    logic = logic;
    weights = weights;
    ended = ended;
    variables = k.variables;
    defined = k.defined;
    functions = f ∷ k.functions;
    constraints = k.constraints;
    assumptions = k.assumptions;
  })
  unfolding AllBefore AllRulesSorted
  with-function f b h =
      let s = sound.sorted in
      let wider = wider_functions (scope_of (constraint_view k)).terms (signature_of f) in
      record {
        sorted = record {
          bodies = s.bodies;
          functions = (h, s.functions);
          constraints = bool_wider wider k.constraints s.constraints;
          assumptions = bool_wider wider k.assumptions s.assumptions;
        };
        before = (b, sound.before);
      }
