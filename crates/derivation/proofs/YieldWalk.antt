-- The walk over the nodes of a rule that asks whether each has something to stand for it.
use Prim.Native.Nat.{ℕ, zero, suc, ◌+◌, ◌*◌, ◌<◌, ◌≤◌}
use native.Mathlib.Omega.{arith}
use mathlib.Core.Bool.{Bool, true, false, ◌&&◌, and_assoc, not}
use mathlib.Core.List.{List, [], ◌∷◌}
use mathlib.Core.Path.{◌≡◌, refl, sym, ap, ◌∙◌, subst}
use lib.Dec.{lit<}
use lib.ListN.{drop, length}
use lib.Seq.{drop-nil}
use borrow.Author.Tests.{ne_eqb, not-false, not-true}
use Rattle.forest.specs.Forest.{Forest, count, join, none, tree}
use Rattle.forest.specs.Limits.{most_non_terminals}
use Rattle.forest.specs.code.Cursors.{from, size}
use Rattle.forest.proofs.Laws.{Tree, count_node, count_size, count_zero, from_one, join_assoc, size_from, size_join, size_zero, tree_of_count, tree_of_size}
use Rattle.terms.specs.code.Codes.{any_argument_kind, any_literal_kind, kind_of, non_terminal_kind}
use Rattle.terms.specs.code.Nodes.{code_at, code_of, row_width, size_at, value_at}
use Rattle.terms.proofs.CodeParts.{head_with, kind_with}
use Rattle.derivation.specs.Derivation.{Grammar, Item, form_of}
use Rattle.derivation.specs.Derivation.Item.{any_argument, any_literal, non_terminal, the}
use Rattle.derivation.specs.Productive.{form_yields, node_yields}
use Rattle.derivation.specs.code.Admitted.{Proper}
use Rattle.derivation.specs.code.Productive.{AsksForm, AsksNode, FormTested, Marks, yields_at}
use Rattle.derivation.specs.code.Rules.{start_at}
use Rattle.derivation.specs.code.Tables.{right_sides}
use Rattle.derivation.proofs.Likeness.{label_kind, proper_on}
use Rattle.derivation.proofs.Reading.{ItemSays, forms_length, item_says, size_node}
use Rattle.derivation.proofs.RuleRows.{RuleAt, rule-at}

-- nothing stands past a list's end
pub drop_none : {A : Type 0} (l : List A) (n : ℕ) → length l ≤ n → drop n l ≡ []
drop_none [] n h = drop-nil n
drop_none (x ∷ l) zero h = absurd (omega arith)
drop_none (x ∷ l) (suc n) h = drop_none l n (omega arith)

-- ---- a node

module _ {forms : List ℕ} {p : ℕ} where
  -- a node that is a non-terminal is one of the 16
  item_low : (i : Item) (ps qs : Forest Item) → Proper most_non_terminals (tree i ps qs) → ItemSays forms p i ps → kind_of (code_at forms p) ≡ non_terminal_kind
      → value_at forms p < most_non_terminals
  unfolding Proper
  item_low (the l) ps qs proper says k = absurd (omega (arith, label_kind l, ap kind_of says.code))
  item_low (non_terminal A) ps qs proper says k = omega (arith, proper.0, says.value)
  item_low (any_literal s) ps qs proper says k = absurd (omega (arith, kind_with any_literal_kind s (lit< tt), ap kind_of says.code))
  item_low (any_argument s) ps qs proper says k = absurd (omega (arith, kind_with any_argument_kind s (lit< tt), ap kind_of says.code))

  -- the numbers of a node say whether it has something to stand for it
  item_yields : (arguments found : List ℕ) (mask : ℕ) → Marks mask found → (i : Item) (ps qs : Forest Item) → Proper most_non_terminals (tree i ps qs)
      → ItemSays forms p i ps → yields_at forms arguments mask p ≡ node_yields arguments found i
  unfolding Proper
  item_yields arguments found mask marks (the l) ps qs proper says =
      rw (
        says.code,
        ne_eqb (kind_of (code_of l)) non_terminal_kind (λ e. omega (arith, label_kind l)),
        ne_eqb (kind_of (code_of l)) any_argument_kind (λ e. omega (arith, label_kind l)),
      )
  item_yields arguments found mask marks (non_terminal A) ps qs proper says = rw (says.code, says.value) (marks.same A proper.0)
  item_yields arguments found mask marks (any_literal s) ps qs proper says = rw (says.code, kind_with any_literal_kind s (lit< tt))
  item_yields arguments found mask marks (any_argument s) ps qs proper says =
      rw (says.code, kind_with any_argument_kind s (lit< tt), head_with any_argument_kind s (lit< tt))

-- forms one after the other
yields_join : (arguments found : List ℕ) (a b : Forest Item)
    → form_yields arguments found (join a b) ≡ form_yields arguments found a && form_yields arguments found b
unfolding form_yields join
yields_join arguments found none b = refl
yields_join arguments found (tree i ops more) b =
    rw (yields_join arguments found more b) (sym (and_assoc (node_yields arguments found i && form_yields arguments found ops) _ _))

-- what follows the first node, where the first has something to stand for it
yields_on : (arguments found : List ℕ) (i : Item) (ps qs : Forest Item) → node_yields arguments found i ≡ true
    → form_yields arguments found (join ps qs) ≡ form_yields arguments found (tree i ps qs)
unfolding form_yields
yields_on arguments found i ps qs e = yields_join arguments found ps qs ∙ rw e

-- and where the first has nothing
yields_none : (arguments found : List ℕ) (i : Item) (ps qs : Forest Item) → node_yields arguments found i ≡ false
    → false ≡ form_yields arguments found (tree i ps qs)
unfolding form_yields
yields_none arguments found i ps qs e = rw e

-- ---- the walk

module _ {rules forms arguments : List ℕ} {r : ℕ} (q : AsksForm rules forms arguments r) where
  abbrev pub G : Grammar
  G = q.tabled.G

  abbrev pub P : Forest Item
  P = form_of G.rules r

  abbrev pub where_rule : RuleAt rules G.rules r
  where_rule = rule-at G.rules q.tabled.is_rules r q.is_rule

  -- the node past rule r
  abbrev pub end : ℕ
  end = start_at rules r + size P

  -- `left` is what is left of the rule at node p
  pub record At (mask p : ℕ) : Type 0 where
    pub left : Forest Item
    pub is : from (right_sides G.rules) p ≡ join left where_rule.rest
    pub ends : p + size left ≡ end
    pub prop : Proper most_non_terminals left
    pub same : (found : List ℕ) → Marks mask found → form_yields G.arguments found left ≡ form_yields G.arguments found P

  unfoldable pub at_start : (mask : ℕ) → At mask (start_at rules r)
  at_start mask = record {
    left = P;
    is = where_rule.is;
    ends = refl;
    prop = q.tabled.admitted.proper r q.is_rule;
    same = λ found marks. refl;
  }

  -- the size of the rule's first tree is that of the rule
  pub end_is : start_at rules r + size_at forms (start_at rules r) ≡ end
  unfolding join size
  end_is = go t.l t.ops t.rest t.is
    where
      t : Tree P
      t = tree_of_count P (omega (arith, q.tabled.admitted.single r q.is_rule))

      go : (l : Item) (ps qs : Forest Item) → P ≡ tree l ps qs → start_at rules r + size_at forms (start_at rules r) ≡ end
      go l ps qs e =
          let z : qs ≡ none = count_zero qs (omega (arith, q.tabled.admitted.single r q.is_rule, ap count e, count_node l ps qs)) in
          let x =
          item_says (right_sides G.rules) q.tabled.is_forms (where_rule.is ∙ ap (λ (o : Forest Item). join o where_rule.rest) e) in
          omega (arith, x.size, ap size e, ap size z)

  module _ {mask p : ℕ} (a : At mask p) (h : p < end) where
    node : Tree a.left
    node = tree_of_size a.left (omega (arith, a.ends))

    says : ItemSays forms p node.l node.ops
    unfolding join
    says =
        item_says (right_sides G.rules) q.tabled.is_forms
        (a.is ∙ ap (λ (x : Forest Item). join x where_rule.rest) node.is)

    proper : Proper most_non_terminals (tree node.l node.ops node.rest)
    proper = subst (Proper most_non_terminals) node.is a.prop

    pub node_asks : AsksNode forms p
    node_asks = record { low = item_low node.l node.ops node.rest proper says }

    -- the numbers say what is said of the node
    node_says : (found : List ℕ) → Marks mask found → yields_at forms arguments mask p ≡ node_yields G.arguments found node.l
    node_says found marks =
        subst (λ (x : List ℕ). yields_at forms x mask p ≡ node_yields G.arguments found node.l) (sym q.tabled.are_arguments)
        (item_yields G.arguments found mask marks node.l node.ops node.rest proper says)

    pub step : yields_at forms arguments mask p ≡ true → At mask (p + 1)
    unfolding join
    step y = record {
      left = join node.ops node.rest;
      is =
          from_one (right_sides G.rules) p node.l node.ops (join node.rest where_rule.rest)
          (a.is ∙ ap (λ (x : Forest Item). join x where_rule.rest) node.is)
          ∙ sym (join_assoc node.ops node.rest where_rule.rest);
      ends = omega (arith, a.ends, ap size node.is, size_node node.l node.ops node.rest, size_join node.ops node.rest);
      prop = proper_on most_non_terminals node.l node.ops node.rest proper;
      same = λ found marks.
          yields_on G.arguments found node.l node.ops node.rest (sym (node_says found marks) ∙ y)
          ∙ ap (form_yields G.arguments found) (sym node.is)
          ∙ a.same found marks;
    }

    pub fails : yields_at forms arguments mask p ≡ false → (found : List ℕ) → Marks mask found → false ≡ form_yields G.arguments found P
    fails y found marks =
        yields_none G.arguments found node.l node.ops node.rest (sym (node_says found marks) ∙ y)
        ∙ ap (form_yields G.arguments found) (sym node.is)
        ∙ a.same found marks

  pub at_end : {mask p : ℕ} → At mask p → end ≤ p → (found : List ℕ) → Marks mask found → true ≡ form_yields G.arguments found P
  unfolding form_yields
  at_end a h found marks = let e : a.left ≡ none = size_zero a.left (omega (arith, a.ends)) in rw e at (a.same found marks)

  -- the end of the rule is a number of the table's rows
  pub end_fits : row_width * end ≤ length forms
  end_fits =
      omega (
        arith,
        forms_length (right_sides G.rules) q.tabled.is_forms,
        ap size where_rule.is,
        size_join P where_rule.rest,
        size_from (right_sides G.rules) (start_at rules r),
        count_size P,
        q.tabled.admitted.single r q.is_rule,
      )

-- the walk's invariant
pub record Inv (rules forms arguments : List ℕ) (mask r stop p : ℕ) : Type 0 where
  pub pre : AsksForm rules forms arguments r
  pub stops : (q : AsksForm rules forms arguments r) → stop ≡ end q
  pub known : (q : AsksForm rules forms arguments r) → At q mask p

module _ {rules forms arguments : List ℕ} {r : ℕ} where
  pub end_small : AsksForm rules forms arguments r → {p n : ℕ} → p ≡ start_at rules r → n ≡ size_at forms p → p + n ≤ length forms
  end_small q ep en = omega (arith, ep, en ∙ ap (size_at forms) ep, end_is q, end_fits q)

  pub inv_start : AsksForm rules forms arguments r → {mask : ℕ} → (p n : ℕ) → p ≡ start_at rules r → n ≡ size_at forms p
      → Inv rules forms arguments mask r (p + n) p
  inv_start q {mask} p n ep en = record {
    pre = q;
    stops = λ q2. omega (arith, end_is q2, en ∙ ap (size_at forms) ep);
    known = λ q2. subst (λ (x : ℕ). At q2 mask x) (sym ep) (at_start q2 mask);
  }

  module _ {mask stop p : ℕ} (v : Inv rules forms arguments mask r stop p) where
    module _ (h : p < stop) where
      within : (q : AsksForm rules forms arguments r) → p < end q
      within q = omega (arith, v.stops q)

      pub turn_asks : AsksNode forms p
      turn_asks = node_asks v.pre (v.known v.pre) (within v.pre)

      module _ {b : Bool} (eb : b ≡ yields_at forms arguments mask p) where
        pub turn_on : not b ≡ false → Inv rules forms arguments mask r stop (p + 1)
        turn_on y = record { pre = v.pre; stops = v.stops; known = λ q. step q (v.known q) (within q) (sym eb ∙ not-false b y) }

        pub turn_fails : not b ≡ true → FormTested rules forms arguments mask r false
        turn_fails y = record { is = λ q found marks. fails q (v.known q) (within q) (sym eb ∙ not-true b y) found marks }

    pub turn_end : stop ≤ p → FormTested rules forms arguments mask r true
    turn_end h = record { is = λ q found marks. at_end q (v.known q) (omega (arith, v.stops q)) found marks }
