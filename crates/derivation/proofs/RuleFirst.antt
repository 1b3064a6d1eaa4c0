-- What the tables say of a rule: its row, its first node, and the node past it.
use mathlib.Core.Path.{◌≡◌, sym, ap, ◌∙◌, subst}
use Prim.Native.Nat.{ℕ, ◌+◌, ◌*◌, ◌<◌, ◌≤◌}
use native.Mathlib.Omega.{arith}
use mathlib.Core.List.{List}
use lib.ListN.{length}
use Rattle.forest.specs.Forest.{Forest, none, tree, count, join}
use Rattle.forest.specs.code.Cursors.{size}
use Rattle.forest.specs.Limits.{most_non_terminals}
use Rattle.forest.proofs.Laws.{Tree, tree_of_count, count_node, count_size, count_zero, size_from, size_join}
use Rattle.terms.specs.code.Codes.{non_terminal_kind}
use Rattle.terms.specs.code.Nodes.{code_at, row_width, size_at, value_at}
use Rattle.derivation.specs.Derivation.{Item, non_terminal, head_of, form_of, weight_of}
use Rattle.derivation.specs.code.Admitted.{Proper}
use Rattle.derivation.specs.code.Tables.{Given, item_value, right_sides}
use Rattle.derivation.specs.code.Rules.{non_terminal_at, rule_width, start_at, weight_at}
use Rattle.derivation.specs.code.Forms.{NoChain}
use Rattle.derivation.proofs.Reading.{ItemSays, forms_length, item_says}
use Rattle.derivation.proofs.Likeness.{hole_item}
use Rattle.derivation.proofs.RuleRows.{RuleAt, rule-at, length_rules}

module _ {rules forms body : List ℕ} (g : Given rules forms body) where
  pub rules_count : length rules ≡ rule_width * length g.G.rules
  rules_count = ap length g.holds.is_rules ∙ length_rules 0 g.G.rules

  module _ (r : ℕ) (h : r < length g.G.rules) where
    abbrev form : Forest Item
    form = form_of g.G.rules r

    abbrev pub there : RuleAt rules g.G.rules r
    there = rule-at g.G.rules g.holds.is_rules r h

    pub head_is : non_terminal_at rules r ≡ head_of g.G.rules r
    head_is = there.head

    pub head_low : non_terminal_at rules r < most_non_terminals
    head_low = omega (arith, there.head, g.admitted.low r h)

    pub weight_is : weight_at rules r ≡ weight_of g.G.rules r
    weight_is = there.weight

    rule_tree : Tree form
    rule_tree = tree_of_count form (omega (arith, g.admitted.single r h))

    first_says : (l : Item) (ps qs : Forest Item) → form ≡ tree l ps qs → ItemSays forms (start_at rules r) l ps
    unfolding join
    first_says l ps qs e = item_says (right_sides g.G.rules) g.holds.is_forms (there.is ∙ ap (λ (x : Forest Item). join x there.rest) e)

    -- a chain rule
    pub record ChainIs : Type 0 where
      pub B : ℕ
      pub is : form_of g.G.rules r ≡ tree (non_terminal B) none none
      pub low : B < most_non_terminals
      pub value : value_at forms (start_at rules r) ≡ B

    pub chain_view : code_at forms (start_at rules r) ≡ non_terminal_kind → ChainIs
    unfolding Proper
    chain_view k =
        let t = rule_tree in
        let says = first_says t.l t.ops t.rest t.is in
        let hole : Item = non_terminal (item_value t.l) in
        let e = t.is ∙ ap (λ (x : Item). tree x t.ops t.rest) (hole_item t.l (sym says.code ∙ k)) in
        let pr = subst (Proper most_non_terminals) e (g.admitted.proper r h) in
        let z : t.rest ≡ none = count_zero t.rest (omega (arith, g.admitted.single r h, ap count e, count_node hole t.ops t.rest)) in
        record {
          B = item_value t.l;
          is = e ∙ ap (λ (x : Forest Item). tree hole x t.rest) pr.1 ∙ ap (tree hole none) z;
          low = pr.0;
          value = says.value;
        }

    pub no_chain_view : (code_at forms (start_at rules r) ≡ non_terminal_kind → ⊥) → NoChain (form_of g.G.rules r)
    no_chain_view k A ps qs e = k (first_says (non_terminal A) ps qs e).code

    pub chain_code : (B : ℕ) → form_of g.G.rules r ≡ tree (non_terminal B) none none → code_at forms (start_at rules r) ≡ non_terminal_kind
    chain_code B e = (first_says (non_terminal B) none none e).code

    -- the size of the rule's first tree is that of the rule
    pub past_is : start_at rules r + size_at forms (start_at rules r) ≡ start_at rules r + size (form_of g.G.rules r)
    unfolding size
    past_is =
        let t = rule_tree in
        let z : t.rest ≡ none = count_zero t.rest (omega (arith, g.admitted.single r h, ap count t.is, count_node t.l t.ops t.rest)) in
        omega (arith, (first_says t.l t.ops t.rest t.is).size, ap size t.is, ap size z)

    pub past_fits : row_width * (start_at rules r + size (form_of g.G.rules r)) ≤ length forms
    past_fits =
        omega (
          arith,
          forms_length (right_sides g.G.rules) g.holds.is_forms,
          ap size there.is,
          size_join form there.rest,
          size_from (right_sides g.G.rules) (start_at rules r),
          count_size form,
          g.admitted.single r h,
        )
