-- The nodes of a rule: one where it is `(Constant σ)` or `(Variable σ)`, else those of a term.
use Prim.Native.Nat.{ℕ, ◌+◌, ◌*◌, ◌≤◌, ◌<◌}
use native.Mathlib.Omega.{arith}
use mathlib.Core.Path.{◌≡◌, refl, sym, ap, ◌∙◌, subst}
use mathlib.Core.Bool.{Bool, true, false, not}
use mathlib.Core.List.{List, [], ◌∷◌}
use borrow.Author.Tests.{not-false, not-true}
use lib.ListN.{length, drop}
use lib.Seq.{length-sets, sets}
use Rattle.forest.specs.Forest.{Node, count, nodes_of, none, tree}
use Rattle.forest.specs.code.Cursors.{size}
use Rattle.forest.proofs.Laws.{size_join}
use Rattle.forest.proofs.Nodes.{length_nodes, nodes_join}
use Rattle.words.specs.Trees.{word_of}
use Rattle.lexemes.specs.Lists.{inside, is, item}
use Rattle.lexemes.specs.code.Standing.{ItemAt, Source, Stands, ends}
use Rattle.lexemes.specs.code.Table.{next_at, row_width as lexemeWidth}
use Rattle.lexemes.proofs.Standing.{here}
use Rattle.shapes.specs.Shapes.{is_pattern}
use Rattle.term_nodes.specs.code.Table.{row_width, uncounted, uncounted_table}
use Rattle.term_nodes.specs.code.Gather.{Gathered, GatheredRule, Gathering, GatheringRule, term_word}
use Rattle.term_nodes.specs.Terms.{Raw, pattern}
use Rattle.term_nodes.proofs.NodeRows.{row_added}
use Rattle.term_nodes.proofs.RuleTerms.{RuleTerm, rule_term}
use Rattle.term_nodes.proofs.TermWords.{first_of}

none_ends : {s : Source} {i e : ℕ} → Stands s i none e → i ≡ e
none_ends ends = refl

module _ {lexemes : List ℕ} {at : ℕ} {raw : List ℕ} {node : ℕ} where
  -- the rule as an item
  rule_item : GatheringRule lexemes at raw node → ItemAt lexemes at
  rule_item p = record {
    source = p.source;
    same = p.same;
    label = p.label;
    operands = p.operands;
    more = none;
    end = p.end;
    stands = p.stands;
  }

  -- it ends before the word that its first word says
  rule_end : (p : GatheringRule lexemes at raw node) → next_at lexemes at ≡ p.end
  rule_end p = none_ends (here p.same p.stands).rest

  pub rule_room : (p : GatheringRule lexemes at raw node) → lexemeWidth * at < length lexemes
  rule_room p = (here p.same p.stands).room

  pub row_room : (p : GatheringRule lexemes at raw node) → row_width * node + row_width ≤ length raw
  row_room p = omega (arith, (here p.same p.stands).ahead, rule_end p, p.rows.room)

  module _ {r : Bool} (known : (x : ItemAt lexemes at) → r ≡ is_pattern x.label x.operands) where
    module _ (other : not r ≡ true) {first : ℕ} (ef : (x : ItemAt lexemes at) → first ≡ term_word at x.label x.operands)
        {next : ℕ} (en : next ≡ next_at lexemes first) where
      no_pattern_here : (p : GatheringRule lexemes at raw node) → is_pattern p.label p.operands ≡ false
      unfolding rule_item
      no_pattern_here p = sym (known (rule_item p)) ∙ not-true r other

      -- its term
      term_here : (p : GatheringRule lexemes at raw node) → RuleTerm p.source at p.end (term_word at p.label p.operands) p.label p.operands
      term_here p = rule_term p.stands (rw (no_pattern_here p) at p.shaped)

      -- and where it stands
      first_here : (p : GatheringRule lexemes at raw node) → first ≡ term_word at p.label p.operands
      unfolding rule_item
      first_here p = ef (rule_item p)

      next_here : (p : GatheringRule lexemes at raw node) → next ≡ next_at p.source.lexemes (term_word at p.label p.operands)
      next_here p = en ∙ rw (first_here p, p.same)

      pub rule_terms : GatheringRule lexemes at raw node → Gathering lexemes first next raw node
      rule_terms p =
          let t = term_here p in
          let G = tree t.label t.held none in
          let st = subst (λ (k : ℕ). Stands p.source (term_word at p.label p.operands) G k) (sym (next_here p)) t.stands in
          record {
            source = p.source;
            same = p.same;
            items = G;
            stands = subst (λ (j : ℕ). Stands p.source j G next) (sym (first_here p)) st;
            shaped = t.shaped;
            rows = record {
              before = p.rows.before;
              rest = p.rows.rest;
              is = p.rows.is;
              counted = p.rows.counted;
              room = omega (arith, p.rows.room, t.begins, t.ends_by, next_here p, first_here p);
            };
          }

      pub rule_gathered : {rawAfter : List ℕ} {m : ℕ} → ((g : Gathering lexemes first next raw node) → Gathered g rawAfter m)
          → (p : GatheringRule lexemes at raw node) → GatheredRule p rawAfter m
      unfolding rule_terms
      rule_gathered gathered p = rw (no_pattern_here p, (term_here p).side_is) (gathered (rule_terms p))

    module _ (pattern-here : not r ≡ false) where
      node_of : GatheringRule lexemes at raw node → Node Raw
      node_of p = record {
        label = pattern (word_of p.label) (is "Constant" (item 0 p.operands)) (item 1 p.operands) (inside 1 p.operands);
        operands = none;
      }

      row_of : (p : GatheringRule lexemes at raw node) → at ∷ (at + 1) ∷ 0 ∷ 0 ∷ [] ≡ uncounted (node_of p)
      unfolding count node_of
      row_of p = rw (first_of p.stands)

      pub pattern_gathered : {rawAfter : List ℕ} → rawAfter ≡ sets raw (row_width * node) (at ∷ (at + 1) ∷ 0 ∷ 0 ∷ [])
          → (p : GatheringRule lexemes at raw node) → GatheredRule p rawAfter (node + 1)
      unfolding nodes_of node_of rule_item size uncounted_table
      pattern_gathered {rawAfter} er p =
          let before = p.rows.before in
          let counted : node ≡ length (nodes_of before) = p.rows.counted ∙ sym (length_nodes before) in
          let written = row_added raw (nodes_of before) p.rows.rest (node_of p) node _ p.rows.is counted (row_of p) (row_room p) in
          rw (sym (known (rule_item p)) ∙ not-false r pattern-here) (record {
            rest = drop 4 p.rows.rest;
            is = er ∙ rw nodes_join written;
            counted = rw size_join (omega (arith, p.rows.counted));
            long = ap length er ∙ length-sets raw (row_width * node) (at ∷ (at + 1) ∷ 0 ∷ 0 ∷ []);
          })
