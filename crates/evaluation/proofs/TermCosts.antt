-- The loop that fills in what is held of the cost of each term that is to be run.
use Prim.Native.Nat.{ℕ, ◌+◌, ◌≤◌, ◌<◌}
use native.Mathlib.Omega.{arith}
use mathlib.Core.Path.{◌≡◌, refl, ◌∙◌}
use mathlib.Core.Bool.{Bool, true, false}
use mathlib.Core.List.{List, [], ◌∷◌}
use borrow.Author.Tests.{eqb-false, eqb-true}
use lib.Dec.{eqb}
use lib.ListN.{get_or, length, length-set, set}
use lib.Seq.{get_or-set_other, get_or-set_same}
use Rattle.terms.specs.Labels.{Terms}
use Rattle.terms.specs.Sorts.{Definition}
use Rattle.terms.specs.declared.Value.{Value}
use Rattle.evaluation.specs.code.Costs.{Cost}
use Rattle.evaluation.specs.code.Tables.{CallsKnown, TermStands}
use Rattle.evaluation.specs.code.Running.{AllValued, Prices, TermsFrom}
use Rattle.evaluation.proofs.ValuedTrees.{calls_known}

-- A term stands at node i, and applies only functions that are known.
pub record KnownAt (all : Terms) (defs funs i : ℕ) : Type 0 where
  pub t : Terms
  pub stands : TermStands all i t
  pub calls : CallsKnown defs funs t

-- Such a term stands at each of their nodes, where the terms have values.
pub known_at : (all : Terms) (defs funs : List Definition) (point : List Value) (places : List ℕ) (m : ℕ) (ts : List Terms) → TermsFrom all places m ts
    → AllValued defs funs point ts → (k : ℕ) → m ≤ k → k < m + length ts → KnownAt all (length defs) (length funs) (get_or places k 0)
unfolding TermsFrom AllValued
known_at all defs funs point places m [] h v k a l = absurd (omega arith)
known_at all defs funs point places m (t ∷ ts) h v k a l = by_case (eqb k m) refl (known_at all defs funs point places (m + 1) ts h.1 v.1 k)
  where
    by_case : (here : Bool) → eqb k m ≡ here → (m + 1 ≤ k → k < m + 1 + length ts → KnownAt all (length defs) (length funs) (get_or places k 0))
        → KnownAt all (length defs) (length funs) (get_or places k 0)
    by_case true q later = rw (eqb-true k m q) (record { t = t; stands = h.0; calls = calls_known defs funs point t v.0.is })
    by_case false q later = let other = eqb-false k m q in later (omega arith) (omega arith)

module _ {nodes bodies costs places prices : List ℕ} {first : ℕ} where
  -- What is held of one cost more.
  pub prices_more : {after : List ℕ} {n cost : ℕ} → Prices nodes bodies costs places prices after first n → first ≤ n → n < length prices
      → Cost nodes bodies costs (get_or places n 0) cost → Prices nodes bodies costs places prices (set after n cost) first (n + 1)
  prices_more {after} {n} {cost} f past room c =
      record {
        each = λ k a l. by_case k a l (eqb k n) refl;
        before = λ k l. get_or-set_other after n k cost 0 (λ z. omega arith) ∙ f.before k l;
        as_long = length-set after n cost ∙ f.as_long;
      }
    where
      by_case : (k : ℕ) → first ≤ k → k < n + 1 → (here : Bool) → eqb k n ≡ here → Cost nodes bodies costs (get_or places k 0) (get_or (set after n cost) k 0)
      by_case k a l true q = rw (eqb-true k n q, get_or-set_same after n cost 0 (omega (arith, f.as_long))) c
      by_case k a l false q =
          let other = eqb-false k n q in
          rw (get_or-set_other after n k cost 0 (λ z. other (omega arith))) (f.each k a (omega arith))
