-- The walk of a rule over the body, with the list that is read.
use mathlib.Core.Path.{◌≡◌, refl, sym, ap, ◌∙◌, subst}
use Prim.Native.Nat.{ℕ, ◌+◌, ◌*◌, ◌<◌, ◌≤◌}
use native.Mathlib.Omega.{arith}
use mathlib.Core.Bool.{Bool, true, false, not, true≢false}
use mathlib.Core.List.{List, []}
use lib.ListN.{drop, length}
use Rattle.std.specs.Prelude.{Option, None, Some}
use borrow.Author.Tests.{not-true, not-false}
use Rattle.forest.specs.Forest.{Forest, count, join, none, tree}
use Rattle.forest.specs.code.Cursors.{first, from, size}
use Rattle.forest.proofs.Laws.{Tree, count_join, count_tree, count_zero, from_one, from_over, inside, join_assoc, size_from, size_join, size_tree, size_zero}
use Rattle.forest.proofs.Laws.{tree_at, tree_of_count, tree_of_size}
use Rattle.terms.specs.Labels.{Label, Terms}
use Rattle.terms.specs.code.Nodes.{Plain, code_at, size_at, value_at, row_width}
use Rattle.terms.proofs.Bodies.{Says, plain_at}
use Rattle.derivation.specs.Derivation.{Grammar, Item, form_of, non_terminal}
use Rattle.derivation.specs.code.Admitted.{LeafFits, Proper}
use Rattle.derivation.specs.code.Tables.{item_code, item_value, right_sides}
use Rattle.terms.specs.code.Codes.{non_terminal_kind}
use Rattle.derivation.specs.code.Matching.{alike}
use Rattle.derivation.specs.code.Rules.{start_at}
use Rattle.derivation.proofs.Leaves.{fit_at}
use Rattle.derivation.proofs.Likeness.{NotHole, alike_complete, alike_sound, hole_item, proper_bare, proper_on}
use Rattle.derivation.proofs.Reading.{ItemSays, body_length, body_says, forms_length, item_says, size_node}
use Rattle.derivation.proofs.RuleRows.{RuleAt}
use Rattle.derivation.proofs.RuleFirst.{past_fits, past_is, there}
use Rattle.following.specs.code.Steps.{FitPre, Found, FoundOr, Reads, UsePre, Uses, one_at}
use Rattle.following.proofs.Prefix.{hole_then, opened, part, part_at, reads_as, reads_none, shut}
use Rattle.forest.specs.Limits.{most_non_terminals}

first_one : {T ts us : Terms} {l : Label} → T ≡ tree l ts us → first 1 T ≡ tree l ts none
unfolding first
first_one e = rw e

count_one : {T ts us : Terms} {l : Label} → T ≡ tree l ts us → count (first 1 T) ≡ 1
unfolding first count
count_one e = rw e

join_one : {T ts us : Terms} {l : Label} → T ≡ tree l ts us → T ≡ join (first 1 T) us
unfolding first join
join_one e = rw e

module _ {rules forms body list : List ℕ} {r i at : ℕ} (q : FitPre rules forms body list r i at) where
  abbrev pub G : Grammar
  G = q.given.G

  abbrev pub F : Terms
  F = q.given.F

  abbrev pub P : Forest Item
  P = form_of G.rules r

  abbrev where_rule : RuleAt rules G.rules r
  where_rule = there q.given r q.is_rule

  -- the node of the rules' table past rule r
  abbrev pub end : ℕ
  end = start_at rules r + size P

  abbrev R : Forest Item → Terms → (list rest : List ℕ) → Type 0
  R = Reads G []

  -- `left` is what is left of the rule at node p of the rules, `terms` what it has to derive at node j of the body, by the list from w on
  pub record At (p j w : ℕ) : Type 0 where
    pub left : Forest Item
    pub is : from (right_sides G.rules) p ≡ join left where_rule.rest
    pub ends : p + size left ≡ end
    pub terms : Terms
    pub more : Terms
    pub stands : from F j ≡ join terms more
    pub counts : count left ≡ count terms
    pub prop : Proper most_non_terminals left
    pub after : at ≤ w
    pub within : w ≤ length list
    pub to : (rest : List ℕ) → R P (one_at F i) (drop at list) rest → R left terms (drop w list) rest
    pub back : (rest : List ℕ) → R left terms (drop w list) rest → R P (one_at F i) (drop at list) rest

  pub at_start : At (start_at rules r) i at
  at_start =
      let t = tree_at F i q.inside in
      record {
        left = P;
        is = where_rule.is;
        ends = refl;
        terms = one_at F i;
        more = t.rest;
        stands = join_one t.is;
        counts = omega (arith, q.given.admitted.single r q.is_rule, count_one t.is);
        prop = q.given.admitted.proper r q.is_rule;
        after = omega arith;
        within = q.room;
        to = λ rest x. x;
        back = λ rest x. x;
      }

  pub at_end : {p j w : ℕ} → At p j w → end ≤ p → Found G P (one_at F i) list at w
  unfolding count
  at_end {w = w} a h =
      let e : a.left ≡ none = size_zero a.left (omega (arith, a.ends)) in
      let e2 : a.terms ≡ none = count_zero a.terms (sym a.counts ∙ ap count e) in
      record { after = a.after; within = a.within; reads = a.back (drop w list) (rw (e, e2) (reads_none G (drop w list))) }

  module _ {p j w : ℕ} (a : At p j w) (h : p < end) where
    rule_tree : Tree a.left
    rule_tree = tree_of_size a.left (omega (arith, a.ends))

    term_tree : Tree a.terms
    term_tree = tree_of_count a.terms (omega (arith, a.counts, count_tree rule_tree))

    -- the tree of the body at j
    body_is : from F j ≡ tree term_tree.l term_tree.ops (join term_tree.rest a.more)
    unfolding join
    body_is = a.stands ∙ ap (λ (x : Terms). join x a.more) term_tree.is

    pub in_body : j < size F
    in_body = inside F j (record { l = _; ops = _; rest = _; is = body_is })

    rule_says : (l : Item) (ps qs : Forest Item) → a.left ≡ tree l ps qs → ItemSays forms p l ps
    unfolding join
    rule_says l ps qs e = item_says (right_sides G.rules) q.given.holds.is_forms (a.is ∙ ap (λ (x : Forest Item). join x where_rule.rest) e)

    node_says : Says body j term_tree.l term_tree.ops
    node_says = body_says F q.given.holds.is_body body_is

    plain_here : Plain term_tree.l
    plain_here = plain_at F j term_tree.l term_tree.ops (join term_tree.rest a.more) q.given.holds.plain body_is

    fits_here : LeafFits G.arguments term_tree.l
    fits_here = fit_at G.arguments F j term_tree.l term_tree.ops (join term_tree.rest a.more) q.given.holds.leaves body_is

    -- the rule goes one node on
    on : (l : Item) (ps qs : Forest Item) → a.left ≡ tree l ps qs → from (right_sides G.rules) (p + 1) ≡ join (join ps qs) where_rule.rest
    unfolding join
    on l ps qs e =
        from_one (right_sides G.rules) p l ps (join qs where_rule.rest) (a.is ∙ ap (λ (x : Forest Item). join x where_rule.rest) e)
        ∙ sym (join_assoc ps qs where_rule.rest)

    -- a non-terminal of the rule
    record HoleAt : Type 0 where
      pub A : ℕ
      pub qs : Forest Item
      pub is : a.left ≡ tree (non_terminal A) none qs
      pub low : A < most_non_terminals
      pub value : value_at forms p ≡ A
      pub prop : Proper most_non_terminals qs

    hole_view : code_at forms p ≡ non_terminal_kind → HoleAt
    unfolding Proper
    hole_view k =
        let t = rule_tree in
        let says = rule_says t.l t.ops t.rest t.is in
        let e = t.is ∙ ap (λ (x : Item). tree x t.ops t.rest) (hole_item t.l (sym says.code ∙ k)) in
        let pr = subst (Proper most_non_terminals) e a.prop in
        record {
          A = item_value t.l;
          qs = t.rest;
          is = e ∙ ap (λ (x : Forest Item). tree (non_terminal (item_value t.l)) x t.rest) pr.1;
          low = pr.0;
          value = says.value;
          prop = pr.2;
        }

    abbrev hole : ℕ → Forest Item
    hole A = tree (non_terminal A) none none

    one_here : one_at F j ≡ tree term_tree.l term_tree.ops none
    one_here = first_one body_is

    -- what a call for a non-terminal asks
    pub hole_pre : code_at forms p ≡ non_terminal_kind → UsePre rules forms body list j (value_at forms p) w
    hole_pre k =
        let v = hole_view k in
        record { given = q.given; inside = in_body; low = omega (arith, v.low, v.value); room = a.within }

    pub step_hole : code_at forms p ≡ non_terminal_kind → {w' : ℕ} → Found G (hole (value_at forms p)) (one_at F j) list w w' → At (p + 1) (j + size_at body j) w'
    unfolding join size count
    step_hole k {w'} f =
        let v = hole_view k in
        let t = term_tree in
        let eF : from F (j + size_at body j) ≡ join t.rest a.more =
        ap (λ (x : ℕ). from F (j + x)) node_says.size ∙ from_over F j t.l t.ops (join t.rest a.more) body_is in
        let x : R (hole v.A) (tree t.l t.ops none) (drop w list) (drop w' list) = rw (v.value, one_here) at f.reads in
        record {
          left = v.qs;
          is = on (non_terminal v.A) none v.qs v.is;
          ends = omega (arith, a.ends, ap size v.is);
          terms = t.rest;
          more = a.more;
          stands = eF;
          counts = omega (arith, a.counts, ap count v.is, count_tree t);
          prop = v.prop;
          after = omega (arith, a.after, f.after);
          within = f.within;
          to = λ rest y. part_at G x (reads_as G v.is t.is (a.to rest y));
          back = λ rest y. a.back rest (reads_as G (sym v.is) (sym t.is) (hole_then G x y));
        }

    pub fail_hole : code_at forms p ≡ non_terminal_kind → ((rest : List ℕ) → R (hole (value_at forms p)) (one_at F j) (drop w list) rest → ⊥)
        → (rest : List ℕ) → R P (one_at F i) (drop at list) rest → ⊥
    fail_hole k n rest y =
        let v = hole_view k in
        let t = term_tree in
        let z = part G (reads_as G v.is t.is (a.to rest y)) in
        n z.mid (rw (v.value, one_here) z.front)

    -- any other item of the rule
    not_hole : (code_at forms p ≡ non_terminal_kind → ⊥) → NotHole rule_tree.l
    not_hole k A e = k ((rule_says rule_tree.l rule_tree.ops rule_tree.rest rule_tree.is).code ∙ ap item_code e)

    pub step_node : (code_at forms p ≡ non_terminal_kind → ⊥) → alike forms p body j ≡ true → At (p + 1) (j + 1) w
    step_node k e =
        let s = rule_tree in
        let t = term_tree in
        let pr : Proper most_non_terminals (tree s.l s.ops s.rest) = subst (Proper most_non_terminals) s.is a.prop in
        let z = alike_sound (rule_says s.l s.ops s.rest s.is) node_says plain_here fits_here most_non_terminals s.rest (not_hole k) pr e in
        let eF : from F (j + 1) ≡ join (join t.ops t.rest) a.more =
        from_one F j t.l t.ops (join t.rest a.more) body_is ∙ sym (join_assoc t.ops t.rest a.more) in
        record {
          left = join s.ops s.rest;
          is = on s.l s.ops s.rest s.is;
          ends = omega (arith, a.ends, ap size s.is, size_node s.l s.ops s.rest, size_join s.ops s.rest);
          terms = join t.ops t.rest;
          more = a.more;
          stands = eF;
          counts = omega (arith, a.counts, count_tree s, count_tree t, count_join s.ops s.rest, count_join t.ops t.rest, z.1);
          prop = proper_on most_non_terminals s.l s.ops s.rest pr;
          after = a.after;
          within = a.within;
          to = λ rest y. (opened G (not_hole k) (reads_as G s.is t.is (a.to rest y))).reads;
          back = λ rest y. a.back rest (reads_as G (sym s.is) (sym t.is) (shut G z.0 (proper_bare most_non_terminals s.l s.ops s.rest pr) z.1 y));
        }

    pub fail_node : (code_at forms p ≡ non_terminal_kind → ⊥) → alike forms p body j ≡ false → (rest : List ℕ) → R P (one_at F i) (drop at list) rest → ⊥
    fail_node k e rest y =
        let s = rule_tree in
        let t = term_tree in
        let z = opened G (not_hole k) (reads_as G s.is t.is (a.to rest y)) in
        true≢false (sym (alike_complete (rule_says s.l s.ops s.rest s.is) node_says plain_here z.alike z.counts) ∙ e)

    -- the numbers that the code needs
    pub record Room : Type 0 where
      pub in_forms : row_width * p < length forms
      pub in_body : row_width * j < length body
      pub over : row_width * (j + size_at body j) ≤ length body

    pub room : Room
    room =
        let b : Tree (from F j) = record { l = _; ops = _; rest = _; is = body_is } in
        let s = node_says.size in
        let x = size_from F j in
        let y = size_tree b in
        let z = body_length F q.given.holds.is_body in
        let u = forms_length (right_sides G.rules) q.given.holds.is_forms in
        record {
          in_forms = omega (arith, ap size a.is, size_join a.left where_rule.rest, size_from (right_sides G.rules) p, size_tree rule_tree);
          in_body = omega arith;
          over = omega arith;
        }

-- the loop's invariant
pub record Inv (rules forms body list : List ℕ) (r i at stop p j w : ℕ) : Type 0 where
  pub pre : FitPre rules forms body list r i at
  pub stops : (q : FitPre rules forms body list r i at) → stop ≡ end q
  pub known : (q : FitPre rules forms body list r i at) → At q p j w
  pub after : at ≤ w
  pub within : w ≤ length list

module _ {rules forms body list : List ℕ} {r i at : ℕ} where
  abbrev Post : FitPre rules forms body list r i at → Option ℕ → Type 0
  Post q found = FoundOr q.given.G (form_of q.given.G.rules r) (one_at q.given.F i) list at found

  pub end_small : FitPre rules forms body list r i at → {p n : ℕ} → p ≡ start_at rules r → n ≡ size_at forms p → p + n ≤ length forms
  end_small q ep en = omega (arith, ep, en ∙ ap (size_at forms) ep, past_is q.given r q.is_rule, past_fits q.given r q.is_rule)

  inv_of : {stop p j w : ℕ} → FitPre rules forms body list r i at → ((q : FitPre rules forms body list r i at) → stop ≡ end q)
      → ((q : FitPre rules forms body list r i at) → At q p j w) → Inv rules forms body list r i at stop p j w
  inv_of q s k = record { pre = q; stops = s; known = k; after = (k q).after; within = (k q).within }

  pub inv_start : FitPre rules forms body list r i at → (p n : ℕ) → p ≡ start_at rules r → n ≡ size_at forms p → Inv rules forms body list r i at (p + n) p i at
  inv_start q p n ep en =
      inv_of q (λ q2. omega (
        arith,
        ep,
        past_is q2.given r q2.is_rule,
        en
            ∙ ap (size_at forms) ep,
      )) (λ q2. subst (λ (x : ℕ). At q2 x i at) (sym ep) (at_start q2))

  module _ {stop p j w : ℕ} (v : Inv rules forms body list r i at stop p j w) where
    pub turn_end : stop ≤ p → (q : FitPre rules forms body list r i at) → Post q (Some w)
    turn_end h q = at_end q (v.known q) (omega (arith, v.stops q))

    module _ (h : p < stop) where
      in_rule : (q : FitPre rules forms body list r i at) → p < end q
      in_rule q = omega (arith, v.stops q)

      space : Room v.pre (v.known v.pre) (in_rule v.pre)
      space = room v.pre (v.known v.pre) (in_rule v.pre)

      pub turn_here : j + 1 ≤ length body
      turn_here = omega (arith, space.in_body)

      pub turn_over : {n : ℕ} → n ≡ size_at body j → j + n ≤ length body
      turn_over en = omega (arith, en, space.over)

      module _ {code : ℕ} (ec : code ≡ code_at forms p) where
        module _ (k : code ≡ non_terminal_kind → ⊥) {b : Bool} (eb : b ≡ alike forms p body j) where
          pub miss_node : not b ≡ true → (q : FitPre rules forms body list r i at) → Post q None
          miss_node y q = fail_node q (v.known q) (in_rule q) (λ e. k (ec ∙ e)) (sym eb ∙ not-true b y)

          pub turn_node : not b ≡ false → Inv rules forms body list r i at stop (p + 1) (j + 1) w
          turn_node y = inv_of v.pre v.stops (λ q. step_node q (v.known q) (in_rule q) (λ e. k (ec ∙ e)) (sym eb ∙ not-false b y))

        module _ (k : code ≡ non_terminal_kind) {x : ℕ} (ex : x ≡ value_at forms p) where
          asked : FitPre rules forms body list r i at → UsePre rules forms body list j x w
          asked q = rw ex (hole_pre q (v.known q) (in_rule q) (sym ec ∙ k))

          pub turn_asks : UsePre rules forms body list j x w
          turn_asks = asked v.pre

          given : (found : Option ℕ) → Uses rules forms body list j x w found → (q : FitPre rules forms body list r i at)
              → FoundOr q.given.G (tree (non_terminal (value_at forms p)) none none) (one_at q.given.F j) list w found
          unfolding hole_pre
          given found g q = subst (λ (y : ℕ). Uses rules forms body list j y w found) ex g (hole_pre q (v.known q) (in_rule q) (sym ec ∙ k))

          pub miss_hole : Uses rules forms body list j x w None → (q : FitPre rules forms body list r i at) → Post q None
          miss_hole g q = fail_hole q (v.known q) (in_rule q) (sym ec ∙ k) (given None g q)

          pub turn_hole : {w' : ℕ} → Uses rules forms body list j x w (Some w') → {n : ℕ} → n ≡ size_at body j
              → Inv rules forms body list r i at stop (p + 1) (j + n) w'
          turn_hole {w'} g {n} en =
              inv_of v.pre v.stops
              (λ q.
              subst (λ (z : ℕ). At q (p + 1) (j + z) w') (sym en)
              (step_hole q (v.known q) (in_rule q) (sym ec ∙ k) (given (Some w') g q)))
