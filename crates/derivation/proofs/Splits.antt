-- Derivations taken apart and put together, tree by tree: for every kind of derivation at once.
use mathlib.Core.Path.{◌≡◌, refl, sym, ap, ◌∙◌, subst}
use Prim.Native.Nat.{ℕ}
use native.Mathlib.Omega.{arith}
use mathlib.Core.List.{List, [], ◌++◌, append_assoc, append-nil}
use Rattle.forest.specs.Forest.{Forest, count, join, none, tree}
use Rattle.forest.specs.code.Cursors.{first}
use Rattle.forest.proofs.Laws.{count_join, count_zero, first_join}
use Rattle.terms.specs.Labels.{Label, Terms}
use Rattle.derivation.specs.Derivation.{AnyLeaf, Item, SameLabel, the}
use Rattle.derivation.proofs.Likeness.{Alike, Bare, any, any_bare, labels}

-- that forms derive terms by a list of rules
abbrev pub Derivation : Type 1
Derivation = Forest Item → Terms → List ℕ → Type 0

-- the first tree's derivation, by hs, stands by itself: another tail may follow it
pub record Uncons (D : Derivation) (i : Item) (x X : Forest Item) (l : Label) (y Y : Terms) (ds : List ℕ) : Type 0 where
  pub hs : List ℕ
  pub es : List ℕ
  pub is : ds ≡ hs ++ es
  pub tail : D X Y es
  pub head : (X' : Forest Item) (Y' : Terms) (es' : List ℕ) → D X' Y' es' → D (tree i x X') (tree l y Y') (hs ++ es')

-- what the laws below ask of a kind of derivation
pub record Kind (arguments : List ℕ) (D : Derivation) : Type 0 where
  pub nil : D none none []
  pub empty : {ds : List ℕ} → D none none ds → ds ≡ []
  pub of_leaf : {i : Item} {l : Label} {ps : Forest Item} {us : Terms} {es : List ℕ} → AnyLeaf arguments i l → D ps us es
      → D (tree i none ps) (tree l none us) es
  pub of_same : {l m : Label} {ps qs : Forest Item} {ts us : Terms} {ds es : List ℕ} → SameLabel l m → D ps ts ds → D qs us es
      → D (tree (the l) ps qs) (tree m ts us) (ds ++ es)
  pub uncons : {i : Item} {x X : Forest Item} {l : Label} {y Y : Terms} {ds : List ℕ} → D (tree i x X) (tree l y Y) ds → Uncons D i x X l y Y ds

-- a derivation of some trees and of those that follow them
pub record Split (D : Derivation) (P Q : Forest Item) (T U : Terms) (ds : List ℕ) : Type 0 where
  pub ls : List ℕ
  pub rs : List ℕ
  pub is : ds ≡ ls ++ rs
  pub left : D P T ls
  pub right : D Q U rs

module _ {arguments : List ℕ} {D : Derivation} (K : Kind arguments D) where
  pub split : (P Q : Forest Item) (T U : Terms) → count P ≡ count T → (ds : List ℕ) → D (join P Q) (join T U) ds → Split D P Q T U ds
  unfolding join count
  split none Q none U c ds d = record { ls = []; rs = ds; is = refl; left = K.nil; right = d }
  split none Q (tree l ts us) U c ds d = absurd (omega arith)
  split (tree i ps qs) Q none U c ds d = absurd (omega arith)
  split (tree i ps qs) Q (tree l ts us) U c ds d =
      let u = K.uncons d in
      let s = split qs Q us U (omega arith) u.es u.tail in
      record {
        ls = u.hs ++ s.ls;
        rs = s.rs;
        is = u.is ∙ ap (λ (x : List ℕ). u.hs ++ x) s.is ∙ sym (append_assoc u.hs s.ls s.rs);
        left = u.head qs us s.ls s.left;
        right = s.right;
      }

  -- the same list, where a node is put over its operands
  pub over : (i : Item) (m : Label) (ps qs : Forest Item) (ts us : Terms) (ds : List ℕ) → Alike arguments i m → Bare i ps → count ts ≡ count ps
      → D (join ps qs) (join ts us) ds
      → D (tree i ps qs) (tree m ts us) ds
  unfolding join count
  over i m ps qs ts us ds (labels e) b c d = let s = split ps qs ts us (sym c) ds d in rw s.is (K.of_same e s.left s.right)
  over i m ps qs ts us ds (any a) b c d =
      let eP : ps ≡ none = any_bare a b in
      let eT : ts ≡ none = count_zero ts (c ∙ ap count eP) in
      let d2 : D qs us ds = rw (eP, eT) at d in
      rw (eP, eT) (K.of_leaf a d2)

  -- the same of the first trees, as many as the forms have
  pub over_first : (i : Item) (m : Label) (ps qs : Forest Item) (ts us : Terms) (ds : List ℕ) → Alike arguments i m → Bare i ps → count ts ≡ count ps
      → D (join ps qs) (first (count (join ps qs)) (join ts us)) ds → D (tree i ps qs) (first (count (tree i ps qs)) (tree m ts us)) ds
  unfolding first count
  over_first i m ps qs ts us ds a b c d =
      let d2 : D (join ps qs) (join ts (first (count qs) us)) ds = rw (count_join, ← c, first_join) at d in
      over i m ps qs ts (first (count qs) us) ds a b c d2

  -- one tree, then others
  pub one_then : (i : Item) (x X : Forest Item) (l : Label) (y Y : Terms) (ds es : List ℕ) → D (tree i x none) (tree l y none) ds → D X Y es
      → D (tree i x X) (tree l y Y) (ds ++ es)
  one_then i x X l y Y ds es d d2 =
      let u = K.uncons d in
      let e : u.hs ≡ ds = sym (append-nil u.hs) ∙ ap (λ (k : List ℕ). u.hs ++ k) (sym (K.empty u.tail)) ∙ sym u.is in
      subst (λ (k : List ℕ). D (tree i x X) (tree l y Y) (k ++ es)) e (u.head X Y es d2)
