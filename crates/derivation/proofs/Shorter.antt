-- A derivation that uses a non-terminal twice at one place can be shortened: whatever is derived has a derivation that does so nowhere, and that is no longer.
use mathlib.Core.Path.{◌≡◌, ◌∙◌}
use mathlib.Core.Logic.{◌⊎◌, inl, inr}
use Prim.Native.Nat.{ℕ, ◌≤◌}
use native.Mathlib.Decide.{ℕ_discrete}
use native.Mathlib.Omega.{arith}
use mathlib.Core.List.{List, [], ◌∷◌, ◌++◌}
use lib.ListN.{length, length-append}
use Rattle.forest.specs.Forest.{Forest, none, tree}
use Rattle.terms.specs.Labels.{Label, Terms}
use Rattle.derivation.specs.Derivation.{Item, form_of, Derives, Fresh, Simple, Grammar}
use Rattle.derivation.specs.Derivation.Item.{non_terminal}
use Rattle.derivation.specs.Derivation.Derives.{done, use-rule, leaf, same}
use Rattle.derivation.specs.Derivation.Simple.{s_done, s_rule, s_leaf, s_same}
use Rattle.derivation.proofs.Simple.{simples}
use Rattle.derivation.proofs.Splits.{one_then}

-- one more that A is to differ from, the last
fresh_more : (A B : ℕ) (seen : List ℕ) → Fresh A seen → (A ≡ B → ⊥) → Fresh A (seen ++ (B ∷ []))
unfolding Fresh
fresh_more A B [] f n = (n, tt)
fresh_more A B (C ∷ seen) f n = (f.0, fresh_more A B seen f.1 n)

module _ (G : Grammar) where
  -- fewer that were used at the place of the first tree
  fewer : {seen seen' : List ℕ} {P : Forest Item} {T : Terms} {ds : List ℕ} → ((A : ℕ) → Fresh A seen → Fresh A seen') → Simple G seen P T ds
      → Simple G seen' P T ds
  unfolding Fresh
  fewer less s_done = s_done
  fewer less (s_rule {A = A} r h e f d d2) = s_rule r h e (less A f) (fewer (λ B g. (g.0, less B g.1)) d) d2
  fewer less (s_leaf a d) = s_leaf a d
  fewer less (s_same e d d2) = s_same e d d2

  -- the forms P derive the terms T, with no non-terminal twice at one place, by at most n rules
  pub record Shorter (P : Forest Item) (T : Terms) (n : ℕ) : Type 0 where
    pub es : List ℕ
    pub simple : Simple G [] P T es
    pub short : length es ≤ n

  -- a derivation from A alone
  abbrev From : (A : ℕ) (T : Terms) (n : ℕ) → Type 0
  From A T n = Shorter (tree (non_terminal A) none none) T n

  -- A is not used at the place of the first tree, or that tree has a derivation from A that is no longer
  avoid : (A : ℕ) {seen : List ℕ} {P : Forest Item} {l : Label} {ts us : Terms} {ds : List ℕ} → Simple G seen P (tree l ts us) ds
      → Simple G (seen ++ (A ∷ [])) P (tree l ts us) ds ⊎ From A (tree l ts none) (length ds)
  unfolding Fresh
  avoid A (s_leaf a d) = inl (s_leaf a d)
  avoid A (s_same e d d2) = inl (s_same e d d2)
  avoid A {seen} {l = l} {ts = ts} {us = us} (s_rule {A = B} {ps = ps} {ds = ds} {es = es} r h e f d d2) = go (ℕ_discrete B A) (avoid A d)
    where
      go : Dec (B ≡ A) → Simple G ((B ∷ seen) ++ (A ∷ [])) (form_of G.rules r) (tree l ts none) ds ⊎ From A (tree l ts none) (length ds)
          → Simple G (seen ++ (A ∷ [])) (tree (non_terminal B) none ps) (tree l ts us) (r ∷ (ds ++ es)) ⊎ From A (tree l ts none) (length (r ∷ (ds ++ es)))
      go (yes q) x =
          let one : Simple G (B ∷ []) (form_of G.rules r) (tree l ts none) ds = fewer (λ C g. (g.0, tt)) d in
          inr (record {
            es = r ∷ (ds ++ []);
            simple = s_rule r h (e ∙ q) tt (rw q at one) s_done;
            short = omega (arith, length-append ds es, length-append {A = ℕ} ds []);
          })
      go (no q) (inl x) = inl (s_rule r h e (fresh_more B A seen f q) x d2)
      go (no q) (inr x) = inr (record { es = x.es; simple = x.simple; short = omega (arith, x.short, length-append ds es) })

  pub shorter : {P : Forest Item} {T : Terms} {ds : List ℕ} → Derives G P T ds → Shorter P T (length ds)
  unfolding Fresh
  shorter done = record { es = []; simple = s_done; short = omega arith }
  shorter (leaf a d) = let s = shorter d in record { es = s.es; simple = s_leaf a s.simple; short = s.short }
  shorter (same {ds = ds} {es = es} e d d2) =
      let s = shorter d in
      let t = shorter d2 in
      record {
        es = s.es ++ t.es;
        simple = s_same e s.simple t.simple;
        short = omega (arith, s.short, t.short, length-append ds es, length-append s.es t.es);
      }
  shorter (use-rule {A = A} {ps = ps} {l = l} {ts = ts} {us = us} {ds = ds} {es = es} r h e d d2) = go (shorter d) (shorter d2)
    where
      go : Shorter (form_of G.rules r) (tree l ts none) (length ds) → Shorter ps us (length es)
          → Shorter (tree (non_terminal A) none ps) (tree l ts us) (length (r ∷ (ds ++ es)))
      go s t = pick (avoid A s.simple)
        where
          pick : Simple G (A ∷ []) (form_of G.rules r) (tree l ts none) s.es ⊎ From A (tree l ts none) (length s.es)
              → Shorter (tree (non_terminal A) none ps) (tree l ts us) (length (r ∷ (ds ++ es)))
          pick (inl x) = record {
            es = r ∷ (s.es ++ t.es);
            simple = s_rule r h e tt x t.simple;
            short = omega (arith, s.short, t.short, length-append ds es, length-append s.es t.es);
          }
          pick (inr x) = record {
            es = x.es ++ t.es;
            simple = one_then (simples G) (non_terminal A) none ps l ts us x.es t.es x.simple t.simple;
            short = omega (arith, x.short, s.short, t.short, length-append ds es, length-append x.es t.es);
          }
