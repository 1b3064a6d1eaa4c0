-- The loop over terms that are run one after the other, within a budget.
use Prim.Native.Nat.{ℕ, suc, ◌+◌, ◌-◌, ◌^◌, ◌≤◌, ◌<◌}
use native.Mathlib.Omega.{arith}
use mathlib.Core.Path.{◌≡◌, refl, ap, ◌∙◌}
use mathlib.Core.Bool.{cond}
use mathlib.Core.List.{List, [], ◌∷◌}
use borrow.Author.Tests.{eq-eqb, le-leb, lt-leb, ne_eqb}
use lib.Dec.{eqb, leb}
use lib.ListN.{get_or, length}
use Rattle.forest.specs.Limits.{most_nodes}
use Rattle.forest.specs.code.Cursors.{size}
use Rattle.terms.specs.Costs.{cost_of}
use Rattle.terms.specs.Labels.{Terms}
use Rattle.terms.specs.Values.{values_at}
use Rattle.terms.specs.declared.Value.{Value}
use Rattle.evaluation.specs.code.Budget.{held}
use Rattle.evaluation.specs.code.Evaluator.{Evaluable, Evaluated, Names, Room}
use Rattle.evaluation.specs.code.Tables.{CallsKnown, TermStands}
use Rattle.evaluation.specs.Running.{is_true_value, run_terms}
use Rattle.evaluation.specs.code.Running.{AllValued, FrontKept, HasTruth, Runnable, SmallTerms, TermsFrom}
use Rattle.evaluation.specs.declared.Ran.{Ran}
use Rattle.evaluation.specs.declared.Ran.TheVariants.{Ended, False, Passed}
use Rattle.evaluation.proofs.ValuedTrees.{calls_known}
use Rattle.evaluation.proofs.Stack.{below_same}
use Rattle.evaluation.proofs.Sums.{cost_some}

-- What is to be run before term k, with `left` of the budget, is what was to be run; the stack has the point's values as at the start.
pub record TermsLeft {nodes bodies prices places stack : List ℕ} {width first count : ℕ} (e : Runnable nodes bodies prices places stack width first count)
    (now : List ℕ) (p budget left k : ℕ) : Type 0 where
  pub front : FrontKept stack now width
  pub begun : first ≤ k
  pub later : List Terms
  pub inside : k + length later ≡ first + count
  pub at : TermsFrom e.holds.all places k later
  pub valued : AllValued e.defs e.funs e.point later
  pub small : SmallTerms later
  pub so_far : run_terms e.defs e.funs e.point later p k left ≡ run_terms e.defs e.funs e.point e.terms p first budget

-- A term stands at the node of number k, and others at those behind it.
pub record First (all : Terms) (places : List ℕ) (k : ℕ) (ts : List Terms) : Type 0 where
  pub t : Terms
  pub others : List Terms
  pub is : ts ≡ t ∷ others
  pub stands : TermStands all (get_or places k 0) t
  pub at : TermsFrom all places (k + 1) others

-- So it is where there is a term.
first-at : (all : Terms) (places : List ℕ) (k : ℕ) (ts : List Terms) → 0 < length ts → TermsFrom all places k ts → First all places k ts
unfolding TermsFrom
first-at all places k [] l h = absurd (omega arith)
first-at all places k (t ∷ ts) l h = record { t = t; others = ts; is = refl; stands = h.0; at = h.1 }

-- A list of no length has no terms.
none_left : (ts : List Terms) → length ts ≡ 0 → ts ≡ []
none_left [] h = refl
none_left (t ∷ ts) h = absurd (omega arith)

module _ {nodes bodies prices places stack : List ℕ} {width first count : ℕ} (e : Runnable nodes bodies prices places stack width first count)
    (p budget : ℕ) where
  -- At the start all terms are.
  pub terms_start : TermsLeft e stack p budget budget first
  terms_start =
      record {
        front = record { kept = refl; as_long = refl };
        begun = omega arith;
        later = e.terms;
        inside = omega (arith, e.counted);
        at = e.placed.at;
        valued = e.valued;
        small = e.placed.small;
        so_far = refl;
      }

  module _ {now : List ℕ} {left k : ℕ} (r : TermsLeft e now p budget left k) where
    -- Past the last term all are true.
    pub terms_end : first + count ≤ k → Passed left ≡ run_terms e.defs e.funs e.point e.terms p first budget
    unfolding run_terms
    terms_end h =
        let none_later : r.later ≡ [] = none_left r.later (omega (arith, r.inside)) in
        rw none_later at r.so_far

    module _ (h : k < first + count) where
      -- Term k.
      pub the_first : First e.holds.all places k r.later
      the_first = first-at _ _ _ _ (omega (arith, r.inside)) r.at

      -- The values of term k and of those behind it.
      values : HasTruth e.defs e.funs e.point the_first.t × AllValued e.defs e.funs e.point the_first.others
      unfolding AllValued
      values = rw the_first.is at r.valued

      -- Term k is small, and so are those behind it.
      smalls : (size the_first.t ≤ most_nodes) × SmallTerms the_first.others
      unfolding SmallTerms
      smalls = rw the_first.is at r.small

      -- The stack has the values of its names.
      pub the_names : Names now 0 e.point
      the_names =
          below_same (length e.point) 0 width now stack (omega (arith, e.stands.under)) r.front.kept ∙ e.stands.names

      -- It has room for the term.
      pub the_room : Room now width (size the_first.t) e.defs e.funs
      the_room = omega (arith, e.stands.room, r.front.as_long, smalls.0)

      -- It has a value.
      pub the_value : HasTruth e.defs e.funs e.point the_first.t
      the_value = values.0

      -- It applies only functions that are known.
      pub the_calls : CallsKnown (length e.defs) (length e.funs) the_first.t
      the_calls = calls_known e.defs e.funs e.point the_first.t the_value.is

      -- What is held of its cost.
      price_is : get_or prices k 0 ≡ held (cost_of e.defs e.funs the_first.t)
      price_is = e.priced k r.begun h the_first.t the_first.stands the_calls

      -- It costs something.
      some_cost : 1 ≤ cost_of e.defs e.funs the_first.t
      some_cost = rw the_first.stands.is (cost_some _ _ _ _)

      -- There are as many behind it.
      others_inside : k + 1 + length the_first.others ≡ first + count
      others_inside = let more : length r.later ≡ suc (length the_first.others) = ap length the_first.is in omega (arith, r.inside)

      -- What running it finds.
      abbrev found : Ran
      found =
          let cost = cost_of e.defs e.funs the_first.t in
          let later = run_terms e.defs e.funs e.point the_first.others p (k + 1) (left - cost) in
          cond (leb cost left) (cond (is_true_value (values_at e.defs e.funs e.point the_first.t)) later (False p k (left - cost))) (Ended p k left)

      -- It is what was to be run.
      found_is : found ≡ run_terms e.defs e.funs e.point e.terms p first budget
      unfolding run_terms
      found_is = rw the_first.is at r.so_far

      -- One whose cost exceeds what is left isn't begun.
      pub term_ended : left ≤ get_or prices k 0 → Ended p k left ≡ run_terms e.defs e.funs e.point e.terms p first budget
      term_ended q =
          let dear : left < cost_of e.defs e.funs the_first.t = omega (arith, price_is, some_cost) in
          rw (lt-leb _ left dear) at found_is

      module _ (fits : left ≤ 2 ^ 64 - 1) (cheap : get_or prices k 0 < left) where
        -- One whose cost is at most that is.
        pub within_budget : cost_of e.defs e.funs the_first.t ≤ left
        within_budget = omega (arith, price_is, some_cost)

        -- It can be evaluated.
        abbrev pub term_evaluable : Evaluable nodes bodies now 0 width (get_or places k 0) left
        term_evaluable =
            record {
              defs = e.defs;
              funs = e.funs;
              holds = e.holds;
              point = e.point;
              names = the_names;
              under = omega (arith, e.stands.under);
              fits = e.stands.fits;
              t = the_first.t;
              stands = the_first.stands;
              v = the_value.v;
              has = the_value.is;
              cost = within_budget;
              room = the_room;
            }

        -- What is left once it is evaluated.
        after : left - get_or prices k 0 - 1 ≡ left - cost_of e.defs e.funs the_first.t
        after = omega (arith, price_is, some_cost)

        module _ {next : List ℕ} {v : Value} (got : Evaluated nodes bodies now next 0 width (get_or places k 0) left v) where
          -- Whether it is true is whether its number is 1.
          truth : is_true_value (values_at e.defs e.funs e.point the_first.t) ≡ eqb v.number 1
          unfolding is_true_value
          truth = rw (the_value.is, the_value.truth, (got term_evaluable).is)

          -- The stack has the point's values as before.
          pub next_front : FrontKept stack next width
          next_front = record { kept = (got term_evaluable).kept ∙ r.front.kept; as_long = (got term_evaluable).as_long ∙ r.front.as_long }

          -- A false one ends the work, and is counted.
          pub term_false : (v.number ≡ 1 → ⊥) → False p k (left - get_or prices k 0 - 1) ≡ run_terms e.defs e.funs e.point e.terms p first budget
          term_false q = rw after (rw (le-leb _ left within_budget, truth ∙ ne_eqb v.number 1 q) at found_is)

          -- Past a true one the terms behind it are run.
          pub term_true : v.number ≡ 1 → TermsLeft e next p budget (left - get_or prices k 0 - 1) (k + 1)
          term_true q =
              record {
                front = next_front;
                begun = omega (arith, r.begun);
                later = the_first.others;
                inside = others_inside;
                at = the_first.at;
                valued = values.1;
                small = smalls.1;
                so_far = rw after (rw (le-leb _ left within_budget, truth ∙ eq-eqb v.number 1 q) at found_is);
              }
