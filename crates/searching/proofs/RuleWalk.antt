-- The walk of a rule over the body: what holds at each pair of places, and how a step keeps it.
use Rattle.forest.specs.Limits.{most_non_terminals}
use mathlib.Core.Path.{◌≡◌, refl, sym, ap, ◌∙◌, subst}
use Prim.Native.Nat.{ℕ, ◌+◌, ◌*◌, ◌<◌, ◌≤◌}
use native.Mathlib.Omega.{arith}
use mathlib.Core.Bool.{true, false, true≢false}
use mathlib.Core.List.{List}
use lib.ListN.{length}
use Rattle.forest.specs.Forest.{Forest, none, tree, count, join}
use Rattle.forest.specs.code.Cursors.{size, from}
use Rattle.terms.specs.Labels.{Label, Terms}
use Rattle.terms.specs.code.Nodes.{Plain, code_at, row_width, size_at, value_at}
use Rattle.terms.proofs.Bodies.{Says, plain_at}
use Rattle.forest.proofs.Laws.{count_join, count_node, count_tree, from_one, from_over, inside, join_assoc, Tree, size_from, size_join, size_tree, tree_at}
use Rattle.forest.proofs.Laws.{tree_of_count, tree_of_size}
use Rattle.derivation.specs.Derivation.{Item, non_terminal, form_of, Grammar}
use Rattle.derivation.specs.code.Tables.{right_sides, item_code, item_value}
use Rattle.terms.specs.code.Codes.{non_terminal_kind}
use Rattle.derivation.specs.code.Forms.{Fits, DerivesAt}
use Rattle.derivation.specs.code.Admitted.{LeafFits, Proper}
use Rattle.derivation.specs.code.Matching.{alike}
use Rattle.searching.specs.code.Matching.{AsksNoChain}
use Rattle.derivation.specs.code.Masks.{has}
use Rattle.searching.specs.code.Masks.{mask_at}
use Rattle.derivation.specs.code.Rules.{start_at}
use Rattle.derivation.proofs.RuleRows.{RuleAt, rule-at}
use Rattle.derivation.proofs.RuleFirst.{past_fits, past_is}
use Rattle.derivation.proofs.Meta.{fits_hole_to, fits_hole_rest, fits_hole, fits_node_to, fits_node}
use Rattle.derivation.proofs.Leaves.{fit_at}
use Rattle.derivation.proofs.Likeness.{Alike, NotHole, alike_sound, alike_complete, hole_item, proper_bare, proper_on}
use Rattle.derivation.proofs.Reading.{ItemSays, body_length, body_says, forms_length, item_says, size_node}

module _ {rules forms body masks : List ℕ} {i r : ℕ} (q : AsksNoChain rules forms body masks i r) where
  abbrev pub G : Grammar
  G = q.asks.given.G

  abbrev pub F : Terms
  F = q.asks.given.F

  abbrev pub P : Forest Item
  P = form_of G.rules r

  abbrev pub where_rule : RuleAt rules G.rules r
  where_rule = rule-at G.rules q.asks.given.holds.is_rules r q.is_rule

  -- the node of the rules' table past rule r
  abbrev pub end : ℕ
  end = start_at rules r + size P

  -- `left` is what is left of the rule at node p of the rules, j the node of the body that it is held against
  pub record At (p j : ℕ) : Type 0 where
    pub left : Forest Item
    pub is : from (right_sides G.rules) p ≡ join left where_rule.rest
    pub ends : p + size left ≡ end
    pub enough : count left ≤ count (from F j)
    pub prop : Proper most_non_terminals left
    pub past : i ≤ j
    pub late : (A : ℕ) (ps qs : Forest Item) → left ≡ tree (non_terminal A) ps qs → i < j
    pub to : Fits G P (from F i) → Fits G left (from F j)
    pub back : Fits G left (from F j) → Fits G P (from F i)

  unfoldable pub at_start : At (start_at rules r) i
  at_start = record {
    left = P;
    is = where_rule.is;
    ends = refl;
    enough = omega (arith, q.asks.given.admitted.single r q.is_rule, count_tree (tree_at F i q.asks.inside));
    prop = q.asks.given.admitted.proper r q.is_rule;
    past = omega arith;
    late = λ A ps qs e. absurd (q.no_chain A ps qs e);
    to = λ f. f;
    back = λ f. f;
  }

  module _ (p j : ℕ) (a : At p j) (h : p < end) where
    pub rule_tree : Tree a.left
    rule_tree = tree_of_size a.left (omega (arith, a.ends))

    pub body_tree : Tree (from F j)
    body_tree = tree_of_count (from F j) (omega (arith, a.enough, count_tree rule_tree))

    pub in_body : j < size F
    in_body = inside F j body_tree

    -- what the two nodes' numbers say
    pub rule_says : (l : Item) (ps qs : Forest Item) → a.left ≡ tree l ps qs → ItemSays forms p l ps
    unfolding join
    rule_says l ps qs e = item_says (right_sides G.rules) q.asks.given.holds.is_forms (a.is ∙ ap (λ (x : Forest Item). join x where_rule.rest) e)

    pub node_says : (l : Label) (ts us : Terms) → from F j ≡ tree l ts us → Says body j l ts
    node_says l ts us e = body_says F q.asks.given.holds.is_body e

    plain_here : Plain body_tree.l
    plain_here = plain_at F j body_tree.l body_tree.ops body_tree.rest q.asks.given.holds.plain body_tree.is

    fits_here : LeafFits G.arguments body_tree.l
    fits_here = fit_at G.arguments F j body_tree.l body_tree.ops body_tree.rest q.asks.given.holds.leaves body_tree.is

    -- the rule goes one node on
    pub on : (l : Item) (ps qs : Forest Item) → a.left ≡ tree l ps qs → from (right_sides G.rules) (p + 1) ≡ join (join ps qs) where_rule.rest
    unfolding join
    on l ps qs e =
        from_one (right_sides G.rules) p l ps (join qs where_rule.rest) (a.is ∙ ap (λ (x : Forest Item). join x where_rule.rest) e)
        ∙ sym (join_assoc ps qs where_rule.rest)

    -- a non-terminal of the rule
    pub record HoleAt : Type 0 where
      pub A : ℕ
      pub qs : Forest Item
      pub is : a.left ≡ tree (non_terminal A) none qs
      pub low : A < most_non_terminals
      pub value : value_at forms p ≡ A
      pub prop : Proper most_non_terminals qs

    pub hole_view : code_at forms p ≡ non_terminal_kind → HoleAt
    unfolding Proper
    hole_view k =
        let t = rule_tree in
        let says = rule_says t.l t.ops t.rest t.is in
        let e = t.is ∙ ap (λ (x : Item). tree x t.ops t.rest) (hole_item t.l (sym says.code ∙ k)) in
        let pr = subst (Proper most_non_terminals) e a.prop in
        record {
          A = item_value t.l;
          qs = t.rest;
          is = e ∙ ap (λ (x : Forest Item). tree (non_terminal (item_value t.l)) x t.rest) pr.1;
          low = pr.0;
          value = says.value;
          prop = pr.2;
        }

    pub hole_low : code_at forms p ≡ non_terminal_kind → value_at forms p < most_non_terminals
    hole_low k = let v = hole_view k in omega (arith, v.low, v.value)

    pub hole_late : code_at forms p ≡ non_terminal_kind → i < j
    hole_late k = let v = hole_view k in a.late v.A none v.qs v.is

    unfoldable pub step_hole : code_at forms p ≡ non_terminal_kind → has (mask_at masks j) (value_at forms p) ≡ true → At (p + 1) (j + size_at body j)
    unfolding join size
    step_hole k y =
        let v = hole_view k in
        let b = body_tree in
        let s = (node_says b.l b.ops b.rest b.is).size in
        let eF : from F (j + size_at body j) ≡ b.rest = ap (λ (x : ℕ). from F (j + x)) s ∙ from_over F j b.l b.ops b.rest b.is in
        let der : DerivesAt G v.A (from F j) =
        (q.asks.exact j (hole_late k) in_body).sound v.A v.low (ap (has (mask_at masks j)) (sym v.value) ∙ y) in
        record {
          left = v.qs;
          is = on (non_terminal v.A) none v.qs v.is;
          ends = omega (arith, a.ends, ap size v.is);
          enough = omega (arith, a.enough, ap count v.is, count_tree b, ap count eF, count_node (non_terminal v.A) none v.qs);
          prop = v.prop;
          past = omega (arith, a.past);
          late = λ _ _ _ _. omega (arith, s, a.past);
          to = λ f. rw eF (fits_hole_rest G v.A v.qs b.l b.ops b.rest (rw (v.is, b.is) at (a.to f)));
          back = λ f. a.back (rw (v.is, b.is) (fits_hole G v.A v.qs b.l b.ops b.rest (rw b.is at der) (rw eF at f)));
        }

    pub fail_hole : code_at forms p ≡ non_terminal_kind → has (mask_at masks j) (value_at forms p) ≡ false → Fits G P (from F i) → ⊥
    fail_hole k n f =
        let v = hole_view k in
        let der : DerivesAt G v.A (from F j) = fits_hole_to G v.A v.qs (from F j) (rw v.is at (a.to f)) in
        let y : has (mask_at masks j) v.A ≡ true = (q.asks.exact j (hole_late k) in_body).complete v.A v.low der in
        true≢false (sym y ∙ ap (has (mask_at masks j)) (sym v.value) ∙ n)

    -- any other item of the rule
    pub not_hole : (code_at forms p ≡ non_terminal_kind → ⊥) → NotHole rule_tree.l
    not_hole k A e = k ((rule_says rule_tree.l rule_tree.ops rule_tree.rest rule_tree.is).code ∙ ap item_code e)

    unfoldable pub step_alike : (l : Item) (ps qs : Forest Item) (m : Label) (ts us : Terms) → a.left ≡ tree l ps qs → from F j ≡ tree m ts us
        → NotHole l → Alike G.arguments l m → count ts ≡ count ps → At (p + 1) (j + 1)
    step_alike l ps qs m ts us eP eF n al ec =
        let eF1 : from F (j + 1) ≡ join ts us = from_one F j m ts us eF in
        let pr = subst (Proper most_non_terminals) eP a.prop in
        record {
          left = join ps qs;
          is = on l ps qs eP;
          ends = omega (arith, a.ends, ap size eP, size_node l ps qs, size_join ps qs);
          enough =
              omega
              (arith, a.enough, ap count eP, ap count eF, ap count eF1, count_join ps qs, count_join ts us, count_node l ps qs, count_node m ts us);
          prop = proper_on most_non_terminals l ps qs pr;
          past = omega (arith, a.past);
          late = λ _ _ _ _. omega (arith, a.past);
          to = λ f. rw eF1 (fits_node_to G l ps qs m ts us n (rw (eP, eF) at (a.to f))).2;
          back = λ f. a.back (rw (eP, eF) (fits_node G l ps qs m ts us al (proper_bare most_non_terminals l ps qs pr) ec (rw eF1 at f)));
        }

    -- the nodes of the rule and of the body, where they are alike
    pub record Alikes : Type 0 where
      pub l : Item
      pub ps : Forest Item
      pub qs : Forest Item
      pub m : Label
      pub ts : Terms
      pub us : Terms
      pub is : a.left ≡ tree l ps qs
      pub at : from F j ≡ tree m ts us
      pub not_hole : NotHole l
      pub alike : Alike G.arguments l m
      pub counts : count ts ≡ count ps

    pub node_alike : (code_at forms p ≡ non_terminal_kind → ⊥) → alike forms p body j ≡ true → Alikes
    node_alike k w =
        let l = rule_tree in
        let b = body_tree in
        let x = rule_says l.l l.ops l.rest l.is in
        let y = node_says b.l b.ops b.rest b.is in
        let z = alike_sound x y plain_here fits_here most_non_terminals l.rest (not_hole k) (subst (Proper most_non_terminals) l.is a.prop) w in
        record {
          l = l.l;
          ps = l.ops;
          qs = l.rest;
          m = b.l;
          ts = b.ops;
          us = b.rest;
          is = l.is;
          at = b.is;
          not_hole = not_hole k;
          alike = z.0;
          counts = z.1;
        }

    pub fail_node : (code_at forms p ≡ non_terminal_kind → ⊥) → alike forms p body j ≡ false → Fits G P (from F i) → ⊥
    fail_node k w f =
        let l = rule_tree in
        let b = body_tree in
        let x = rule_says l.l l.ops l.rest l.is in
        let y = node_says b.l b.ops b.rest b.is in
        let g = fits_node_to G l.l l.ops l.rest b.l b.ops b.rest (not_hole k) (rw (l.is, b.is) at (a.to f)) in
        true≢false (sym (alike_complete x y plain_here g.0 g.1) ∙ w)

    -- the numbers that the code needs
    pub record Room : Type 0 where
      pub in_forms : row_width * p < length forms
      pub in_body : row_width * j < length body
      pub over : row_width * (j + size_at body j) ≤ length body

    pub room : Room
    room =
        let b = body_tree in
        let s = (node_says b.l b.ops b.rest b.is).size in
        let x = size_from F j in
        let y = size_tree b in
        let z = body_length F q.asks.given.holds.is_body in
        let u = forms_length (right_sides G.rules) q.asks.given.holds.is_forms in
        record {
          in_forms = omega (arith, ap size a.is, size_join a.left where_rule.rest, size_from (right_sides G.rules) p, size_tree rule_tree);
          in_body = omega arith;
          over = omega arith;
        }

module _ {rules forms body masks : List ℕ} {i r : ℕ} where
  pub end_is : (q : AsksNoChain rules forms body masks i r) → start_at rules r + size_at forms (start_at rules r) ≡ end q
  end_is q = past_is q.asks.given r q.is_rule

  pub end_small : AsksNoChain rules forms body masks i r → {p n : ℕ} → p ≡ start_at rules r → n ≡ size_at forms p → p + n ≤ length forms
  end_small q ep en = omega (arith, ep, en ∙ ap (size_at forms) ep, end_is q, past_fits q.asks.given r q.is_rule)
