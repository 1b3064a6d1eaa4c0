-- The costs of bodies, filled in one after the other.
use Prim.Native.Nat.{ℕ, ◌+◌, ◌≤◌, ◌<◌}
use native.Mathlib.Omega.{arith}
use native.Mathlib.Nat.{zero-add}
use mathlib.Core.Path.{◌≡◌, refl, sym, ap, ◌∙◌}
use mathlib.Core.Bool.{Bool, true, false}
use mathlib.Core.List.{List, []}
use borrow.Author.Tests.{eqb-false, eqb-true}
use lib.Dec.{eqb}
use lib.ListN.{get_or, length, length-set, set}
use lib.Seq.{get_or-set_other, get_or-set_same}
use Rattle.terms.specs.Costs.{defined_cost, function_cost}
use Rattle.evaluation.specs.code.Budget.{Priced, held}
use Rattle.evaluation.specs.code.Costs.{Cost, FilledTo, Filling, Priceable, Pricing}
use Rattle.forest.specs.Limits.{most_defined, most_functions}
use Rattle.evaluation.proofs.Bodies.{held_defined, held_function, held_seen}

-- What is held of one price more.
pub fill_more : {costs after : List ℕ} {base k v : ℕ} {price : ℕ → ℕ} → FilledTo costs after base k price → base + k < length after → v ≡ held (price k)
    → FilledTo costs (set after (base + k) v) base (k + 1) price
fill_more {after = after} {base = base} {k = k} {v = v} {price = price} f h e =
    record {
      kept = λ j l. get_or-set_other after (base + k) j v 0 (λ q. omega arith) ∙ f.kept j l;
      filled = λ j l. by_case j l (eqb j k) refl;
      as_long = rw length-set f.as_long;
    }
  where
    by_case : (j : ℕ) → j < k + 1 → (here : Bool) → eqb j k ≡ here → get_or (set after (base + k) v) (base + j) 0 ≡ held (price j)
    by_case j l true q = rw (eqb-true j k q) (get_or-set_same after (base + k) v 0 h ∙ e)
    by_case j l false q =
        let other = eqb-false j k q in
        get_or-set_other after (base + k) (base + j) v 0 (λ z. other (omega arith)) ∙ f.filled j (omega arith)

-- The cost of the body at a place is its price.
pub cost_priced : {nodes bodies costs : List ℕ} {i j p v : ℕ} → i ≡ j → Priceable nodes bodies costs j p → Cost nodes bodies costs i v → v ≡ held p
cost_priced {nodes} {bodies} {costs} {p = p} e q c =
    let r = rw (← e) at q in
    c r.costing ∙ ap held (sym r.is)

module _ {nodes bodies : List ℕ} {defined functions : ℕ} (e : Pricing nodes bodies defined functions) where
  -- The cost of a `define-fun` can be told once those before it are filled in.
  pub priceable_defined : {costs : List ℕ} (k : ℕ) → k < defined → (after : List ℕ) → FilledTo costs after 0 k (defined_cost e.defs)
      → Priceable nodes bodies after (get_or bodies (0 + k) 0) (defined_cost e.defs k)
  priceable_defined k h after f =
      let d = held_defined e.holds k (omega (arith, e.defined_are)) in
      let b = d.body in
      rw zero-add
      (record {
        costing = record {
          defs = b.sees;
          funs = [];
          holds = held_seen e.holds b.seen;
          priced = record {
            defined = λ j l. rw zero-add at (f.filled j (omega (arith, d.number))) ∙ ap held (d.before j (omega (arith, d.number)));
            functions = λ j l. absurd (omega arith);
          };
          t = b.d.body;
          stands = b.stands;
          calls = b.calls;
        };
        is = b.cost_is;
      })

  -- There is room for them.
  pub defined_room : 0 + defined ≤ most_defined + most_functions
  defined_room = omega (arith, e.defined_are, e.holds.defined_most)

  -- The `define-fun`s are filled in from the first place on.
  abbrev pub fill_defined : {costs : List ℕ} → length costs ≡ most_defined + most_functions → Filling nodes bodies costs 0 defined
  fill_defined long = record { long = long; room = defined_room; price = defined_cost e.defs; bodies_at = priceable_defined }

  module _ {blank costs : List ℕ} (long : length blank ≡ most_defined + most_functions) (done : FilledTo blank costs 0 defined (defined_cost e.defs)) where
    -- What is held of the cost of a `define-fun`, filled in.
    defined_priced : (j : ℕ) → j < length e.defs → get_or costs j 0 ≡ held (defined_cost e.defs j)
    defined_priced j l = rw zero-add at (done.filled j (omega (arith, e.defined_are)))

    -- The cost of a synthesized function can be told.
    pub priceable_function : (k : ℕ) → k < functions → (after : List ℕ) → FilledTo costs after most_defined k (function_cost e.defs e.funs)
        → Priceable nodes bodies after (get_or bodies (most_defined + k) 0) (function_cost e.defs e.funs k)
    priceable_function k h after f =
        let d = held_function e.holds k (omega (arith, e.functions_are)) in
        let b = d.body in
        record {
          costing = record {
            defs = b.sees;
            funs = [];
            holds = held_seen e.holds b.seen;
            priced = rw d.sees_all
                (record {
                  defined = λ j l. f.kept j (omega (arith, e.holds.defined_most)) ∙ defined_priced j l;
                  functions = λ j l. absurd (omega arith);
                });
            t = b.d.body;
            stands = b.stands;
            calls = b.calls;
          };
          is = b.cost_is;
        }

    -- There is room for them.
    pub function_room : most_defined + functions ≤ most_defined + most_functions
    function_room = omega (arith, e.functions_are, e.holds.functions_most)

    -- The synthesized functions are filled in behind the places for the `define-fun`s.
    abbrev pub fill_functions : Filling nodes bodies costs most_defined functions
    fill_functions =
        record {
          long = done.as_long ∙ long;
          room = function_room;
          price = function_cost e.defs e.funs;
          bodies_at = priceable_function;
        }

    -- All costs, once those of the synthesized functions are filled in.
    pub all_priced : {all : List ℕ} → FilledTo costs all most_defined functions (function_cost e.defs e.funs) → Priced all e.defs e.funs
    all_priced f =
        record {
          defined = λ j l. f.kept j (omega (arith, e.holds.defined_most)) ∙ defined_priced j l;
          functions = λ j l. f.filled j (omega (arith, e.functions_are));
        }
