-- The bodies of functions: what tables that hold them say of the body of function k.
use Prim.Native.Nat.{ℕ, ◌+◌, ◌≤◌, ◌<◌}
use native.Mathlib.Omega.{arith}
use mathlib.Core.Path.{◌≡◌, refl, sym, ◌∙◌}
use mathlib.Core.Bool.{Bool, true, false}
use mathlib.Core.List.{List, [], ◌∷◌}
use mathlib.Core.Option.{Option}
use borrow.Author.Tests.{eqb-true, eqb-false, ne_eqb}
use lib.Dec.{eqb, lit≤}
use lib.ListN.{get_or, length}
use Rattle.forest.specs.code.Cursors.{size}
use Rattle.terms.specs.Costs.{cost_of, defined_cost, function_cost}
use Rattle.terms.specs.Labels.{Terms}
use Rattle.terms.specs.Sorts.{Definition}
use Rattle.terms.specs.Values.{called, defined_value, function_value}
use Rattle.terms.specs.declared.Value.{Value}
use Rattle.evaluation.specs.code.Tables.{BodiesAt, CallsDefined, CallsEarlier, CallsKnown, BodiesHold, SmallBodies, TermStands}
use Rattle.forest.specs.Limits.{most_defined, most_nodes}

-- `define-fun`s that a body sees stand in the tables.
pub record Seen (all : Terms) (bodies : List ℕ) (defs : List Definition) : Type 0 where
  pub at : BodiesAt all bodies 0 defs
  pub small : SmallBodies defs
  pub calls : CallsEarlier defs
  pub most : length defs ≤ most_defined

-- The body of a function that gives these values at this cost: its place in the tables, and the `define-fun`s that it sees, fewer than `callable`.
pub record Body (all : Terms) (bodies : List ℕ) (callable place cost : ℕ) (give : List Value → Option Value) : Type 0 where
  pub d : Definition
  pub sees : List Definition
  pub seen : Seen all bodies sees
  pub stands : TermStands all (get_or bodies place 0) d.body
  pub cost_is : cost ≡ cost_of sees [] d.body
  pub gives : (vs : List Value) → give vs ≡ called (defined_value sees) d vs
  pub small : size d.body ≤ most_nodes
  pub fewer : length sees < callable
  pub calls : CallsKnown (length sees) 0 d.body

-- The body of a function that gives the same values at the same cost, where no fewer can be called.
abbrev pub same_body : {all : Terms} {bodies : List ℕ} {callable callable' place cost cost' : ℕ} {give give' : List Value → Option Value} → callable ≤ callable'
    → cost' ≡ cost → ((vs : List Value) → give' vs ≡ give vs) → Body all bodies callable place cost give → Body all bodies callable' place cost' give'
same_body l e g b =
    record {
      d = b.d;
      sees = b.sees;
      seen = b.seen;
      stands = b.stands;
      cost_is = e ∙ b.cost_is;
      gives = λ vs. g vs ∙ b.gives vs;
      small = b.small;
      fewer = omega (arith, l, b.fewer);
      calls = b.calls;
    }

-- `define-fun` k, its body, and the cost of those before it.
pub record Defined (all : Terms) (bodies : List ℕ) (defs : List Definition) (k : ℕ) : Type 0 where
  pub body : Body all bodies (length defs) k (defined_cost defs k) (defined_value defs k)
  pub number : length body.sees ≡ k
  pub before : (j : ℕ) → j < k → defined_cost defs j ≡ defined_cost body.sees j

-- The body of `define-fun` k.
defined_body : {all : Terms} {bodies : List ℕ} (defs : List Definition) → Seen all bodies defs → (k : ℕ) → k < length defs → Defined all bodies defs k
unfolding defined_cost defined_value BodiesAt SmallBodies CallsEarlier function_cost
defined_body [] s k h = absurd (omega arith)
defined_body {all} {bodies} (d ∷ earlier) s k h = by_case (eqb k (length earlier)) refl (defined_body earlier others k)
  where
    others : Seen all bodies earlier
    others = record { at = s.at.1; small = s.small.1; calls = s.calls.1; most = omega (arith, s.most) }

    other : (j : ℕ) → j < length earlier → eqb j (length earlier) ≡ false
    other j l = ne_eqb j (length earlier) (λ z. omega arith)

    by_case : (here : Bool) → eqb k (length earlier) ≡ here → (k < length earlier → Defined all bodies earlier k) → Defined all bodies (d ∷ earlier) k
    by_case true e later =
        let q = eqb-true k (length earlier) e in
        let place : 0 + length earlier ≡ k = omega arith in
        record {
          body = record {
            d = d;
            sees = earlier;
            seen = others;
            stands = rw place at s.at.0;
            cost_is = rw e;
            gives = λ vs. rw e;
            small = s.small.0;
            fewer = omega arith;
            calls = s.calls.0;
          };
          number = sym q;
          before = λ j l. rw (other j (omega arith));
        }
    by_case false e later =
        let q = eqb-false k (length earlier) e in
        let r = later (omega arith) in
        record {
          body = same_body (omega arith) (rw e) (λ vs. rw e) r.body;
          number = r.number;
          before = λ j l. rw (other j (omega arith)) (r.before j l);
        }

-- Synthesized function k and its body.
pub record Function (all : Terms) (bodies : List ℕ) (defs funs : List Definition) (k : ℕ) : Type 0 where
  pub body : Body all bodies (length defs + length funs) (most_defined + k) (function_cost defs funs k) (function_value defs funs k)
  pub sees_all : body.sees ≡ defs

-- The body of synthesized function k.
function_body : {all : Terms} {bodies : List ℕ} (defs funs : List Definition) → Seen all bodies defs → BodiesAt all bodies most_defined funs → SmallBodies funs
    → CallsDefined (length defs) funs → (k : ℕ) → k < length funs → Function all bodies defs funs k
unfolding function_cost function_value BodiesAt SmallBodies CallsDefined
function_body defs [] s at small calls k h = absurd (omega arith)
function_body {all} {bodies} defs (f ∷ earlier) s at small calls k h =
    by_case (eqb k (length earlier)) refl (function_body defs earlier s at.1 small.1 calls.1 k)
  where
    by_case : (here : Bool) → eqb k (length earlier) ≡ here
        → (k < length earlier → Function all bodies defs earlier k) → Function all bodies defs (f ∷ earlier) k
    by_case true e later =
        let q = eqb-true k (length earlier) e in
        record {
          body = record {
            d = f;
            sees = defs;
            seen = s;
            stands = rw (← q) at at.0;
            cost_is = rw e;
            gives = λ vs. rw e;
            small = small.0;
            fewer = omega arith;
            calls = calls.0;
          };
          sees_all = refl;
        }
    by_case false e later =
        let q = eqb-false k (length earlier) e in
        let r = later (omega arith) in
        record {
          body = same_body (omega arith) (rw e) (λ vs. rw e) r.body;
          sees_all = r.sees_all;
        }

-- No bodies stand anywhere.
pub none_at : (all : Terms) (bodies : List ℕ) (base : ℕ) → BodiesAt all bodies base []
unfolding BodiesAt
none_at all bodies base = tt

-- No functions have small bodies.
pub none_small : SmallBodies []
unfolding SmallBodies
none_small = tt

-- No functions apply only what is known.
pub none_calls : (defs : ℕ) → CallsDefined defs []
unfolding CallsDefined
none_calls defs = tt

module _ {nodes bodies : List ℕ} {defs funs : List Definition} (h : BodiesHold nodes bodies defs funs) where
  -- The `define-fun`s that tables hold.
  seen : Seen h.all bodies defs
  seen = record { at = h.defined_at; small = h.small_defined; calls = h.defined_calls; most = h.defined_most }

  -- The body of `define-fun` k in the tables.
  pub held_defined : (k : ℕ) → k < length defs → Defined h.all bodies defs k
  held_defined k l = defined_body defs seen k l

  -- The body of synthesized function k in the tables.
  pub held_function : (k : ℕ) → k < length funs → Function h.all bodies defs funs k
  held_function k l = function_body defs funs seen h.functions_at h.small_functions h.function_calls k l

  -- The tables hold what a body sees.
  abbrev pub held_seen : {sees : List Definition} → Seen h.all bodies sees → BodiesHold nodes bodies sees []
  held_seen {sees} s =
      record {
        all = h.all;
        rest = h.rest;
        nodes_are = h.nodes_are;
        plain = h.plain;
        defined_at = s.at;
        functions_at = none_at h.all bodies most_defined;
        small_defined = s.small;
        small_functions = none_small;
        defined_calls = s.calls;
        function_calls = none_calls (length sees);
        defined_most = s.most;
        functions_most = lit≤ tt;
      }
