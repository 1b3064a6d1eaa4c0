-- Lists that derive the same terms from the same forms are prefix free, and what a list begins with can be taken apart form by form.
use mathlib.Core.Path.{◌≡◌, refl, sym, ap, ◌∙◌, subst}
use Prim.Native.Nat.{ℕ, ◌<◌}
use mathlib.Core.List.{List, [], ◌∷◌, ◌++◌, append_assoc, append_cancel_left, append-nil}
use lib.ListN.{length}
use Rattle.forest.specs.Forest.{Forest, count, join, none, tree}
use Rattle.terms.specs.Labels.{Label, Terms}
use Rattle.derivation.specs.Derivation.{Fresh, Grammar, Item, Simple, form_of, head_of, non_terminal, s_done, s_leaf, s_rule, s_same}
use Rattle.derivation.proofs.Likeness.{Alike, Bare, NotHole, any, any_not_hole, any_not_label, labels}
use Rattle.derivation.proofs.Simple.{simple_derives, simples, uncons}
use Rattle.derivation.proofs.Meta.{der_count}
use Rattle.derivation.proofs.Splits.{one_then, over}
use Rattle.following.specs.code.Steps.{Reads}

module _ (G : Grammar) where
  -- two lists of which one is a front of the other are the same, whatever was used at the place before
  pub prefix_free : {seen seen' : List ℕ} {P : Forest Item} {T : Terms} {ds es : List ℕ} → Simple G seen P T ds → Simple G seen' P T es
      → (x y : List ℕ) → ds ++ x ≡ es ++ y → ds ≡ es
  prefix_free s_done s_done x y e = refl
  prefix_free (s_rule {l = l} {ts = ts} {ds = ds} {es = es} r h f n d d2) (s_rule {seen = seen'} {A = A} {ds = ds'} {es = es'} r' h' f' n' d' d2') x y e =
      let er : r' ≡ r = cc in
      let q : (ds ++ es) ++ x ≡ (ds' ++ es') ++ y = cc in
      let q2 : ds ++ (es ++ x) ≡ ds' ++ (es' ++ y) = sym (append_assoc ds es x) ∙ q ∙ append_assoc ds' es' y in
      let d3 : Simple G (A ∷ seen') (form_of G.rules r) (tree l ts none) ds' =
      subst (λ (k : ℕ). Simple G (A ∷ seen') (form_of G.rules k) (tree l ts none) ds') er d' in
      let e1 : ds ≡ ds' = prefix_free d d3 (es ++ x) (es' ++ y) q2 in
      let q3 : es ++ x ≡ es' ++ y = append_cancel_left ds (es ++ x) (es' ++ y) (q2 ∙ ap (λ (k : List ℕ). k ++ (es' ++ y)) (sym e1)) in
      let e2 : es ≡ es' = prefix_free d2 d2' x y q3 in
      cc
  prefix_free (s_rule r h f n d d2) (s_leaf a d') x y e = absurd (any_not_hole a _ refl)
  prefix_free (s_leaf a d) (s_rule r h f n d' d2) x y e = absurd (any_not_hole a _ refl)
  prefix_free (s_leaf a d) (s_leaf a' d') x y e = prefix_free d d' x y e
  prefix_free (s_leaf a d) (s_same f d' d2) x y e = absurd (any_not_label a _ refl)
  prefix_free (s_same f d d2) (s_leaf a d') x y e = absurd (any_not_label a _ refl)
  prefix_free (s_same {ds = ds} {es = es} f d d2) (s_same {ds = ds'} {es = es'} f' d' d2') x y e =
      let q2 : ds ++ (es ++ x) ≡ ds' ++ (es' ++ y) = sym (append_assoc ds es x) ∙ e ∙ append_assoc ds' es' y in
      let e1 : ds ≡ ds' = prefix_free d d' (es ++ x) (es' ++ y) q2 in
      let q3 : es ++ x ≡ es' ++ y = append_cancel_left ds (es ++ x) (es' ++ y) (q2 ∙ ap (λ (k : List ℕ). k ++ (es' ++ y)) (sym e1)) in
      let e2 : es ≡ es' = prefix_free d2 d2' x y q3 in
      cc

  -- so what follows is the same
  pub same_rest : {seen seen' : List ℕ} {P : Forest Item} {T : Terms} {list rest rest' : List ℕ} → Reads G seen P T list rest
      → Reads G seen' P T list rest' → rest ≡ rest'
  same_rest {rest = rest} {rest' = rest'} a b =
      let q : a.ds ++ rest ≡ b.ds ++ rest' = sym a.is ∙ b.is in
      let e : a.ds ≡ b.ds = prefix_free a.derivation b.derivation rest rest' q in
      append_cancel_left a.ds rest rest' (q ∙ ap (λ (k : List ℕ). k ++ rest') (sym e))

  abbrev R : Forest Item → Terms → (list rest : List ℕ) → Type 0
  R = Reads G []

  pub reads_as : {P P' : Forest Item} {T T' : Terms} {list rest : List ℕ} → P ≡ P' → T ≡ T' → R P T list rest → R P' T' list rest
  reads_as e f x = rw (e, f) at x

  -- nothing is left to derive
  pub reads_none : (list : List ℕ) → R none none list list
  reads_none list = record { ds = []; is = refl; derivation = s_done }

  -- a non-terminal at one tree, and the rule that a list begins with
  pub record Begins (seen : List ℕ) (A : ℕ) (l : Label) (ts : Terms) (list rest : List ℕ) : Type 0 where
    pub r : ℕ
    pub more : List ℕ
    pub is : list ≡ r ∷ more
    pub is_rule : r < length G.rules
    pub head : head_of G.rules r ≡ A
    pub fresh : Fresh A seen
    pub reads : Reads G (A ∷ seen) (form_of G.rules r) (tree l ts none) more rest

  abbrev alone : ℕ → Forest Item
  alone A = tree (non_terminal A) none none

  begins_go : {seen : List ℕ} {A : ℕ} {l : Label} {ts : Terms} {ds : List ℕ} (list rest : List ℕ) → list ≡ ds ++ rest
      → Simple G seen (alone A) (tree l ts none) ds
      → Begins seen A l ts list rest
  begins_go list rest q (s_rule {ds = ds} r h f n d s_done) =
      record {
        r =
            r;
        more =
            ds ++ rest;
        is =
            q ∙ ap (λ (k : List ℕ). r ∷ (k ++ rest)) (append-nil ds);
        is_rule =
            h;
        head = f;
        fresh = n;
        reads = record { ds = ds; is = refl; derivation = d };
      }
  begins_go list rest q (s_leaf a d) = absurd (any_not_hole a _ refl)

  pub begins : {seen : List ℕ} {A : ℕ} {l : Label} {ts : Terms} {list rest : List ℕ} → Reads G seen (alone A) (tree l ts none) list rest
      → Begins seen A l ts list rest
  begins {list = list} {rest = rest} x = begins_go list rest x.is x.derivation

  pub begin : {seen : List ℕ} {A : ℕ} {l : Label} {ts : Terms} {list rest : List ℕ} (r : ℕ) → r < length G.rules → head_of G.rules r ≡ A → Fresh A seen
      → Reads G (A ∷ seen) (form_of G.rules r) (tree l ts none) list rest → Reads G seen (alone A) (tree l ts none) (r ∷ list) rest
  begin {rest = rest} r h f n x = record {
    ds = r ∷ (x.ds ++ []);
    is = ap (λ (k : List ℕ). r ∷ k) (x.is ∙ ap (λ (k : List ℕ). k ++ rest) (sym (append-nil x.ds)));
    derivation = s_rule r h f n x.derivation s_done;
  }

  -- a non-terminal at one tree, then other forms
  pub hole_then : {A : ℕ} {ps : Forest Item} {l : Label} {ts us : Terms} {list mid rest : List ℕ} → R (alone A) (tree l ts none) list mid → R ps us mid rest
      → R (tree (non_terminal A) none ps) (tree l ts us) list rest
  hole_then {A} {ps} {l} {ts} {us} {rest = rest} a b = record {
    ds = a.ds ++ b.ds;
    is = a.is ∙ ap (λ (k : List ℕ). a.ds ++ k) b.is ∙ sym (append_assoc a.ds b.ds rest);
    derivation = one_then (simples G) (non_terminal A) none ps l ts us a.ds b.ds a.derivation b.derivation;
  }

  pub record Parted (A : ℕ) (ps : Forest Item) (l : Label) (ts us : Terms) (list rest : List ℕ) : Type 0 where
    pub mid : List ℕ
    pub front : R (alone A) (tree l ts none) list mid
    pub back : R ps us mid rest

  pub part : {A : ℕ} {ps : Forest Item} {l : Label} {ts us : Terms} {list rest : List ℕ} → R (tree (non_terminal A) none ps) (tree l ts us) list rest
      → Parted A ps l ts us list rest
  part {rest = rest} x =
      let u = uncons G x.derivation in
      record {
        mid = u.es ++ rest;
        front = record {
          ds = u.hs ++ [];
          is =
              x.is ∙ ap (λ (k : List ℕ). k ++ rest) u.is ∙ append_assoc u.hs u.es rest
              ∙ ap (λ (k : List ℕ). k ++ (u.es ++ rest)) (sym (append-nil u.hs));
          derivation = u.head none none [] s_done;
        };
        back = record { ds = u.es; is = refl; derivation = u.tail };
      }

  -- the front is what a front of the list was found to derive
  pub part_at : {A : ℕ} {ps : Forest Item} {l : Label} {ts us : Terms} {list mid rest : List ℕ} → R (alone A) (tree l ts none) list mid
      → R (tree (non_terminal A) none ps) (tree l ts us) list rest → R ps us mid rest
  part_at {ps = ps} {us = us} {rest = rest} a x =
      let p = part x in
      subst (λ (k : List ℕ). R ps us k rest) (same_rest p.front a) p.back

  -- any other item, over its operands
  simple_join : {P Q : Forest Item} {T U : Terms} {ds es : List ℕ} → Simple G [] P T ds → Simple G [] Q U es → Simple G [] (join P Q) (join T U) (ds ++ es)
  unfolding join
  simple_join s_done q = q
  simple_join (s_rule r h e f d d2) q = rw append_assoc (s_rule r h e f d (simple_join d2 q))
  simple_join (s_leaf a d) q = s_leaf a (simple_join d q)
  simple_join (s_same e d d2) q = rw append_assoc (s_same e d (simple_join d2 q))

  pub record Opened (i : Item) (ps qs : Forest Item) (m : Label) (ts us : Terms) (list rest : List ℕ) : Type 0 where
    pub alike : Alike G.arguments i m
    pub counts : count ts ≡ count ps
    pub reads : R (join ps qs) (join ts us) list rest

  open_go : {i : Item} {ps qs : Forest Item} {m : Label} {ts us : Terms} {ds : List ℕ} (list rest : List ℕ) → list ≡ ds ++ rest → NotHole i
      → Simple G [] (tree i ps qs) (tree m ts us) ds → Opened i ps qs m ts us list rest
  unfolding join count
  open_go list rest q n (s_rule {A = A} r h e f d d2) = absurd (n A refl)
  open_go list rest q n (s_leaf a d) = record { alike = any a; counts = refl; reads = record { ds = _; is = q; derivation = d } }
  open_go list rest q n (s_same e d d2) =
      record { alike = labels e; counts = sym (der_count G (simple_derives G d)); reads = record { ds = _; is = q; derivation = simple_join d d2 } }

  pub opened : {i : Item} {ps qs : Forest Item} {m : Label} {ts us : Terms} {list rest : List ℕ} → NotHole i
      → R (tree i ps qs) (tree m ts us) list rest → Opened i ps qs m ts us list rest
  opened {list = list} {rest = rest} n x = open_go list rest x.is n x.derivation

  pub shut : {i : Item} {ps qs : Forest Item} {m : Label} {ts us : Terms} {list rest : List ℕ} → Alike G.arguments i m → Bare i ps → count ts ≡ count ps
      → R (join ps qs) (join ts us) list rest → R (tree i ps qs) (tree m ts us) list rest
  shut {i} {ps} {qs} {m} {ts} {us} a b c x =
      record { ds = x.ds; is = x.is; derivation = over (simples G) i m ps qs ts us x.ds a b c x.derivation }
