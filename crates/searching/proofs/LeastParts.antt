-- The least list of a form is made of the least lists of its parts.
use mathlib.Core.Path.{◌≡◌, refl, sym, subst}
use mathlib.Core.Logic.{inl}
use Prim.Native.Nat.{ℕ}
use native.Mathlib.Omega.{arith}
use mathlib.Core.List.{List, [], ◌∷◌, ◌++◌, append-nil}
use Rattle.forest.specs.Forest.{Forest, count, join, none, tree}
use Rattle.forest.proofs.Laws.{count_join, first_join}
use Rattle.terms.specs.Labels.{Label, Terms}
use Rattle.derivation.specs.Derivation.{Derives, Grammar, Item, form_of, non_terminal, done, leaf, same, use-rule}
use Rattle.derivation.specs.Least.{First, Least}
use Rattle.searching.specs.code.Search.{Best}
use Rattle.derivation.proofs.Order.{first_append, least_unique}
use Rattle.derivation.proofs.Likeness.{Alike, Bare, NotHole, any_not_hole}
use Rattle.derivation.proofs.Splits.{one_then, over}
use Rattle.derivation.proofs.Meta.{der_join, derivations, empty, uncons}
use Rattle.forest.specs.code.Cursors.{first}

module _ (G : Grammar) where
  pub least_none : Least G none none []
  least_none = record { derivation = done; least = λ es d. inl (sym (empty G d)) }

  -- one tree, then others
  least_then : (i : Item) (x X : Forest Item) (l : Label) (y Y : Terms) (ds es : List ℕ) → Least G (tree i x none) (tree l y none) ds → Least G X Y es
      → Least G (tree i x X) (tree l y Y) (ds ++ es)
  least_then i x X l y Y ds es a b = record {
    derivation = one_then (derivations G) i x X l y Y ds es a.derivation b.derivation;
    least = λ os d.
        let u = uncons G d in
        let f : First G ds u.hs = subst (First G ds) (append-nil u.hs) (a.least (u.hs ++ []) (u.head none none [] done)) in
        subst (First G (ds ++ es)) (sym u.is) (first_append G f (b.least u.es u.tail));
  }

  -- a node that is no non-terminal has the lists of its operands and what follows
  under : {i : Item} {ps qs : Forest Item} {m : Label} {ts us : Terms} {ds : List ℕ} → NotHole i → Derives G (tree i ps qs) (tree m ts us) ds
      → Derives G (join ps qs) (join ts us) ds
  unfolding join
  under n (use-rule {A = A} r h e d d2) = absurd (n A refl)
  under n (leaf a d) = d
  under n (same e d d2) = der_join G d d2

  least_over : (i : Item) (m : Label) (ps qs : Forest Item) (ts us : Terms) (ds : List ℕ) → NotHole i → Alike G.arguments i m → Bare i ps
      → count ts ≡ count ps → Least G (join ps qs) (join ts us) ds
      → Least G (tree i ps qs) (tree m ts us) ds
  least_over i m ps qs ts us ds n a b c l =
      record { derivation = over (derivations G) i m ps qs ts us ds a b c l.derivation; least = λ es d. l.least es (under n d) }

  -- the same of the first trees, as many as the forms have
  pub least_node : (i : Item) (m : Label) (ps qs : Forest Item) (ts us : Terms) (ds : List ℕ) → NotHole i → Alike G.arguments i m → Bare i ps
      → count ts ≡ count ps → Least G (join ps qs) (first (count (join ps qs)) (join ts us)) ds
      → Least G (tree i ps qs) (first (count (tree i ps qs)) (tree m ts us)) ds
  unfolding first count
  least_node i m ps qs ts us ds n a b c l =
      let l2 : Least G (join ps qs) (join ts (first (count qs) us)) ds = rw (count_join, ← c, first_join) at l in
      least_over i m ps qs ts (first (count qs) us) ds n a b c l2

  pub least_hole : (A : ℕ) (ps : Forest Item) (l : Label) (ts us : Terms) (ds es : List ℕ) → Least G (tree (non_terminal A) none none) (tree l ts none) ds
      → Least G ps (first (count ps) us) es
      → Least G (tree (non_terminal A) none ps) (first (count (tree (non_terminal A) none ps)) (tree l ts us)) (ds ++ es)
  unfolding first count
  least_hole A ps l ts us ds es a b = least_then (non_terminal A) none ps l ts (first (count ps) us) ds es a b

  -- the first rule of a least list is the best
  pub best : (F : Terms) (A r : ℕ) (ds : List ℕ) → Least G (form_of G.rules r) (first 1 F) ds
      → Least G (tree (non_terminal A) none none) (first 1 F) (r ∷ ds) → Best G F A r
  best F A r ds a b es l =
      subst (λ (x : List ℕ). Least G (tree (non_terminal A) none none) (first 1 F) (r ∷ x)) (least_unique G a l) b

  -- a non-terminal derives nothing by no rules
  pub never : {A : ℕ} {ps : Forest Item} {T : Terms} {ds : List ℕ} → Derives G (tree (non_terminal A) none ps) T ds → ds ≡ [] → ⊥
  never (use-rule r h e d d2) z = let q : ◌≡◌ {A = ℕ} 0 1 = cc in omega arith
  never (leaf a d) z = any_not_hole a _ refl
