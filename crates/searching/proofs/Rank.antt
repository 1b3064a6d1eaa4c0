-- Ranks, and what they say of lists.
use mathlib.Core.Path.{◌≡◌, refl, sym, ◌∙◌, subst}
use mathlib.Core.Logic.{inl, inr}
use Prim.Native.Nat.{ℕ, ◌+◌, ◌*◌, ◌<◌, ◌≤◌}
use native.Mathlib.Decide.{dec_lt}
use native.Mathlib.Omega.{arith}
use mathlib.Core.List.{List, [], ◌∷◌, ◌++◌}
use lib.ListN.{length, length-append}
use Rattle.terms.specs.Labels.{Terms}
use Rattle.derivation.specs.Derivation.{Grammar, form_of, weight_of, most_weight}
use Rattle.derivation.specs.Least.{Before, First, Least, total_of, here, fewer, lighter, lower}
use Rattle.derivation.proofs.Order.{least_unique, total_append, total_bound, total_cons}
use Rattle.searching.specs.code.Ranks.{Through, rank_of, per_weight}
use Rattle.searching.specs.code.Filling.{Worse, dearer, later, nothing}

module _ (G : Grammar) where
  -- of lists of fewer than 8,192 rules the one of lower rank goes first
  pub rank_less : (ds es : List ℕ) → length ds < per_weight → length es < per_weight → rank_of G ds < rank_of G es → Before G ds es
  rank_less ds es h k l = go (dec_lt (total_of G.rules ds) (total_of G.rules es))
    where
      go : Dec (total_of G.rules ds < total_of G.rules es) → Before G ds es
      go (yes y!) = lighter y!
      go (no n) = fewer (omega arith) (omega arith)

  pub rank_total : (ds es : List ℕ) → length ds < per_weight → length es < per_weight → rank_of G ds ≡ rank_of G es → total_of G.rules ds ≡ total_of G.rules es
  rank_total ds es h k e = omega arith

  pub rank_length : (ds es : List ℕ) → length ds < per_weight → length es < per_weight → rank_of G ds ≡ rank_of G es → length ds ≡ length es
  rank_length ds es h k e = omega arith

  pub rank_append : (ds es : List ℕ) → rank_of G (ds ++ es) ≡ rank_of G ds + rank_of G es
  rank_append ds es = omega (arith, total_append G.rules ds es, length-append ds es)

  pub rank_none : rank_of G [] ≡ 0
  unfolding total_of
  rank_none = refl

  pub rank_cons : (r : ℕ) (ds : List ℕ) → rank_of G (r ∷ ds) ≡ per_weight * weight_of G.rules r + 1 + rank_of G ds
  rank_cons r ds = omega (arith, total_cons G.rules r ds)

  pub rank_bound : ((r : ℕ) → weight_of G.rules r ≤ most_weight) → (ds : List ℕ) → rank_of G ds ≤ per_weight * (most_weight + 1) * length ds
  rank_bound h ds = omega (arith, total_bound G.rules most_weight h ds)

  -- what the better of two rules leads to goes first
  pub better_first : {T : Terms} {r n c k m x : ℕ} (a : Through G T r n c) (b : Through G T k m x) → n < per_weight → m < per_weight → (x ≡ 0 → ⊥) → Worse c r x k
      → First G (r ∷ a.ds) (k ∷ b.ds)
  better_first a b hn hm nx (nothing e) = absurd (nx e)
  better_first {r = r} {k = k} a b hn hm nx (dearer nc l) =
      inr (rank_less (r ∷ a.ds) (k ∷ b.ds) (omega (arith, a.few)) (omega (arith, b.few)) (omega (arith, a.rank, b.rank)))
  better_first {T} {r = r} {k = k} a b hn hm nx (later nc e l) = go (dec_lt r k)
    where
      la : length (r ∷ a.ds) < per_weight
      la = omega (arith, a.few)

      lb : length (k ∷ b.ds) < per_weight
      lb = omega (arith, b.few)

      is : rank_of G (r ∷ a.ds) ≡ rank_of G (k ∷ b.ds)
      is = sym a.rank ∙ e ∙ b.rank

      go : Dec (r < k) → First G (r ∷ a.ds) (k ∷ b.ds)
      go (yes h) = inr (lower (rank_total (r ∷ a.ds) (k ∷ b.ds) la lb is) (rank_length (r ∷ a.ds) (k ∷ b.ds) la lb is) (here h))
      go (no h) =
          let q : k ≡ r = omega arith in
          let u : a.ds ≡ b.ds = least_unique G a.least (subst (λ (z : ℕ). Least G (form_of G.rules z) T b.ds) q b.least) in
          inl (cc)
