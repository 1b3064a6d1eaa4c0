-- What a form derives.
use mathlib.Core.Path.{◌≡◌, refl, sym, ap}
use Prim.Native.Nat.{ℕ, suc, ◌<◌}
use native.Mathlib.Omega.{arith}
use mathlib.Core.List.{List, [], ◌∷◌, ◌++◌, append_assoc}
use lib.ListN.{length}
use Rattle.forest.specs.Forest.{Forest, none, tree, count, join}
use Rattle.forest.specs.code.Cursors.{first}
use Rattle.forest.proofs.Laws.{count_join, first_join}
use Rattle.terms.specs.Labels.{Label, Terms}
use Rattle.derivation.specs.Derivation.{Item, non_terminal, head_of, form_of, Derives, done, use-rule, leaf, same, Grammar}
use Rattle.derivation.specs.code.Forms.{DerivesAt, Fits}
use Rattle.derivation.proofs.Likeness.{Alike, Bare, NotHole, any, any_not_hole, labels}
use Rattle.derivation.proofs.Splits.{Kind, Uncons, one_then, over_first}

module _ (G : Grammar) where
  abbrev D : Forest Item → Terms → List ℕ → Type 0
  D = Derives G

  pub uncons : {i : Item} {x X : Forest Item} {l : Label} {y Y : Terms} {ds : List ℕ} → D (tree i x X) (tree l y Y) ds → Uncons D i x X l y Y ds
  uncons (use-rule {ds = ds} {es = es} r h e d d2) = record { hs = r ∷ ds; es = es; is = refl; tail = d2; head = λ X' Y' es' q. use-rule r h e d q }
  uncons (leaf {es = es} a d) = record { hs = []; es = es; is = refl; tail = d; head = λ X' Y' es' q. leaf a q }
  uncons (same {ds = ds} {es = es} e d d2) = record { hs = ds; es = es; is = refl; tail = d2; head = λ X' Y' es' q. same e d q }

  pub empty : {ds : List ℕ} → D none none ds → ds ≡ []
  empty done = refl

  abbrev pub derivations : Kind G.arguments D
  derivations = record { nil = done; empty = empty; of_leaf = leaf; of_same = same; uncons = uncons }

  -- a form and what it derives have as many trees
  pub der_count : {P : Forest Item} {T : Terms} {ds : List ℕ} → D P T ds → count P ≡ count T
  unfolding count
  der_count done = refl
  der_count (use-rule r h e d d2) = ap suc (der_count d2)
  der_count (leaf a d) = ap suc (der_count d)
  der_count (same e d d2) = ap suc (der_count d2)

  -- two derivations, one after the other
  pub der_join : {P Q : Forest Item} {T U : Terms} {ds es : List ℕ} → D P T ds → D Q U es → D (join P Q) (join T U) (ds ++ es)
  unfolding join
  der_join done q = q
  der_join (use-rule r h e d d2) q = rw append_assoc (use-rule r h e d (der_join d2 q))
  der_join (leaf a d) q = leaf a (der_join d q)
  der_join (same e d d2) q = rw append_assoc (same e d (der_join d2 q))

  -- P derives the terms T by some list
  abbrev pub Some : Forest Item → Terms → Type 0
  Some P T = (ds : List ℕ) × D P T ds

  inv_hole : {A : ℕ} {ps : Forest Item} {l : Label} {ts us : Terms} {ds : List ℕ} → D (tree (non_terminal A) none ps) (tree l ts us) ds
      → (r : ℕ) × (r < length G.rules) × (head_of G.rules r ≡ A) × Some (form_of G.rules r) (tree l ts none)
  inv_hole (use-rule r h e d d2) = (r, h, e, (_, d))
  inv_hole (leaf a d) = absurd (any_not_hole a _ refl)

  -- a non-terminal, then other forms
  pub fits_hole_to : (A : ℕ) (ps : Forest Item) (B : Terms) → Fits G (tree (non_terminal A) none ps) B → DerivesAt G A B
  unfolding Fits first count DerivesAt
  fits_hole_to A ps none q = absurd (omega (arith, der_count q.1))
  fits_hole_to A ps (tree l ts us) q = let i = inv_hole q.1 in (_, use-rule i.0 i.1 i.2 i.3.1 done)

  pub fits_hole_rest : (A : ℕ) (ps : Forest Item) (l : Label) (ts us : Terms) → Fits G (tree (non_terminal A) none ps) (tree l ts us) → Fits G ps us
  unfolding Fits first count
  fits_hole_rest A ps l ts us q = let u = uncons q.1 in (u.es, u.tail)

  pub fits_hole : (A : ℕ) (ps : Forest Item) (l : Label) (ts us : Terms) → DerivesAt G A (tree l ts us) → Fits G ps us
      → Fits G (tree (non_terminal A) none ps) (tree l ts us)
  unfolding Fits first count DerivesAt
  fits_hole A ps l ts us a q = (_, one_then derivations _ _ _ _ _ _ _ _ a.1 q.1)

  -- an item that is no non-terminal, over its operands, then other forms
  inv_node : {i : Item} {ps qs : Forest Item} {m : Label} {ts us : Terms} {ds : List ℕ} → NotHole i → D (tree i ps qs) (tree m ts us) ds
      → Alike G.arguments i m × (count ts ≡ count ps) × Some (join ps qs) (join ts us)
  unfolding join count
  inv_node n (use-rule {A = A} r h e d d2) = absurd (n A refl)
  inv_node n (leaf a d) = (any a, refl, (_, d))
  inv_node n (same e d d2) = (labels e, sym (der_count d), (_, der_join d d2))

  pub fits_node_to : (i : Item) (ps qs : Forest Item) (m : Label) (ts us : Terms) → NotHole i → Fits G (tree i ps qs) (tree m ts us)
      → Alike G.arguments i m × (count ts ≡ count ps) × Fits G (join ps qs) (join ts us)
  unfolding Fits first count
  fits_node_to i ps qs m ts us n q = let v = inv_node n q.1 in (v.0, v.1, rw (count_join, ← v.1, first_join) v.2)

  pub fits_node : (i : Item) (ps qs : Forest Item) (m : Label) (ts us : Terms) → Alike G.arguments i m → Bare i ps → count ts ≡ count ps
      → Fits G (join ps qs) (join ts us) → Fits G (tree i ps qs) (tree m ts us)
  unfolding Fits
  fits_node i ps qs m ts us a b c q = (q.0, over_first derivations i m ps qs ts us q.0 a b c q.1)
