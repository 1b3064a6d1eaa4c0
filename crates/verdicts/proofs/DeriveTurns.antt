-- The loop over functions: the bodies of those before function j are derived, and the area shows how.
use Prim.Native.Nat.{ℕ, suc, ◌+◌, ◌*◌, ◌≤◌, ◌<◌}
use native.Mathlib.Nat.{add-zero, zero-add}
use native.Mathlib.Omega.{arith}
use mathlib.Core.Path.{◌≡◌, refl, ap, ap₂, ◌∙◌}
use Rattle.std.specs.Prelude.{None, Some}
use mathlib.Core.List.{List, [], ◌∷◌, ◌++◌, append_assoc, append-nil}
use lib.ListN.{drop, drop_of_length-le, length, length-append, length-set, set}
use lib.Seq.{length-sets, sets}
use Rattle.derivation.specs.Answer.{list_of}
use Rattle.forest.specs.Limits.{list_size, most_functions}
use Rattle.derivation.proofs.Simple.{simple_derives}
use Rattle.names.specs.Scopes.{Function}
use Rattle.script.specs.declared.Progress.{Progress}
use Rattle.script.specs.Response.{Body, in_script_order}
use Rattle.outcome.specs.Derived.{FirstUnderived, ListsShown, lists_of, shown_area, terms_of, totals, weighed}
use Rattle.outcome.specs.Derived.FirstUnderived.{here, later}
use Rattle.outcome.specs.Derived.ListsShown.{also, no_more}
use Rattle.outcome.proofs.Areas.{blank_long}
use Rattle.one_function.proofs.FunctionAndBody.{Both}
use Rattle.one_function.proofs.NextFunction.{bodies_many, functions_many, next, next_body, one_held}
use Rattle.verdicts.specs.code.Derive.{Derivable, Judged, JudgesOne, OneDerivable}
use Rattle.verdicts.proofs.ShownLists.{area_blank, area_more, lists_more, totals_more, totals_none, weighed_long}

module _ {places nodes forms area₀ weights₀ : List ℕ} {p : Progress} (q : Derivable places nodes forms p area₀ weights₀) where
  -- The functions, in script order.
  abbrev pub ordered : List Function
  ordered = in_script_order q.known.functions

  -- The functions before function j are derived by lists that the area shows, and the totals say what they weigh: with lists for the others all are shown,
  -- and what comes first of the others comes first of all.
  pub record Going (area weights : List ℕ) (j : ℕ) : Type 0 where
    pub lists : List (List ℕ)
    pub area_is : area ≡ shown_area lists
    pub room : length (lists_of lists) ≡ list_size * j
    pub long : length area ≡ length area₀
    pub listed : length lists ≡ j
    pub weights_are : weights ≡ totals ordered lists
    pub weighed_long : length (weighed ordered lists) ≡ j
    pub as_many : length weights ≡ length weights₀
    pub low : j ≤ p.functions
    pub shown_all : (more : List (List ℕ)) → ListsShown (drop j ordered) (terms_of (drop j q.bodies)) more
        → ListsShown ordered (terms_of q.bodies) (lists ++ more)
    pub first_all : (n : ℕ) (b : Body) → FirstUnderived (drop j ordered) (drop j q.bodies) n b → FirstUnderived ordered q.bodies (j + n) b

  -- Before the first function none is derived.
  pub going_start : Going area₀ weights₀ 0
  unfolding lists_of weighed
  going_start = record {
    lists = [];
    area_is = q.blank ∙ area_blank;
    room = refl;
    long = refl;
    listed = refl;
    weights_are = q.unweighed ∙ totals_none ordered;
    weighed_long = refl;
    as_many = refl;
    low = omega arith;
    shown_all = λ more shown. shown;
    first_all = λ n b first. rw (zero-add n) first;
  }

  -- Past the last function all are derived.
  pub going_done : {area weights : List ℕ} {j : ℕ} → Going area weights j → p.functions ≤ j → Judged q area weights j
  going_done {j = j} g past =
      let no_function : drop j ordered ≡ [] = drop_of_length-le ordered {i = j} (omega (arith, functions_many q.held)) in
      let no_body : drop j q.bodies ≡ [] = drop_of_length-le q.bodies {i = j} (omega (arith, bodies_many q.held)) in
      record {
        all! = λ e. record {
          lists = g.lists;
          shown = rw append-nil at (g.shown_all [] (rw (no_function, no_body) no_more));
          area_is = g.area_is;
          weigh = g.weights_are;
        };
        one! = λ h. absurd (h (omega (arith, g.low)));
        long = g.long;
        as_many = g.as_many;
      }

  module _ {j : ℕ} (more : j < p.functions) where
    -- Function j and its body.
    abbrev this : Both q.known.defined ordered q.bodies j
    this = next q.held more

    module _ {area weights : List ℕ} (g : Going area weights j) where
      -- A derivation of its body may be sought.
      abbrev pub next_derivable : OneDerivable places nodes forms j area
      next_derivable = record { held = one_held q.held more; sized = g.long ∙ ap length q.blank ∙ blank_long }

      module _ {areaAfter : List ℕ} where
        -- A body that is not derived is the first.
        pub going_fails : JudgesOne places nodes forms j area areaAfter None → Judged q areaAfter weights j
        going_fails judged =
            let failed = judged next_derivable in
            let first = g.first_all 0 this.body (rw (this.function_is, this.body_is) (here failed.none_derives)) in
            record {
              all! = λ e. absurd (omega arith);
              one! = λ h. record { body = this.body; first = rw add-zero at first; offset = (next_body q.held more).offset_is };
              long = ap length failed.unchanged ∙ g.long;
              as_many = g.as_many;
            }

        -- One that is derived is shown behind those before it.
        pub going_turn : {total : ℕ} → JudgesOne places nodes forms j area areaAfter (Some total) → {weightsAfter : List ℕ}
            → weightsAfter ≡ set weights j total → Going areaAfter weightsAfter (j + 1)
        going_turn {total} judged put =
            let found = judged next_derivable in
            let ds = found.ds in
            let few : j < most_functions = omega (arith, q.held.counted.few_functions) in
            record {
              lists = g.lists ++ ds ∷ [];
              area_is = found.shown ∙ ap (λ (a : List ℕ). sets a (list_size * j) (list_of ds)) g.area_is
                  ∙ area_more g.lists ds j g.room found.few few;
              room = lists_more g.lists ds j g.room found.few;
              long = ap length found.shown ∙ length-sets area (list_size * j) (list_of ds) ∙ g.long;
              listed = omega (arith, length-append g.lists (ds ∷ []), g.listed);
              weights_are = put ∙ ap₂ (λ (l : List ℕ) (n : ℕ). set l j n) g.weights_are found.weighs
                  ∙ totals_more ordered g.lists ds g.listed g.weighed_long this.function_is few;
              weighed_long = weighed_long ordered g.lists ds g.listed g.weighed_long this.function_is;
              as_many = ap length put ∙ length-set weights j total ∙ g.as_many;
              low = omega arith;
              shown_all = λ others shown. rw (append_assoc g.lists (ds ∷ []) others)
                  (g.shown_all (ds ∷ others) (rw (this.function_is, this.body_is) (also found.derivation found.least found.few shown)));
              first_all = λ n b first.
                  let one_on : j + 1 + n ≡ j + suc n = omega arith in
                  rw one_on (g.first_all (suc n) b (rw (this.function_is, this.body_is) (later (simple_derives _ found.derivation) first)));
            }
