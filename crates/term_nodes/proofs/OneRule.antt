-- A rule that is gathered behind others.
use Prim.Native.Nat.{ℕ, suc, ◌+◌, ◌*◌, ◌≤◌, ◌<◌, min}
use native.Mathlib.Nat.{zero-add}
use native.Mathlib.Omega.{arith}
use mathlib.Core.Path.{◌≡◌, refl, sym, ap, ap₂, ◌∙◌}
use mathlib.Core.List.{List, [], ◌∷◌, ◌++◌}
use lib.ListN.{length, drop, set, length-append}
use lib.Seq.{drop-append_seam, length-sets, sets}
use Rattle.forest.specs.Forest.{none}
use Rattle.forest.specs.code.Cursors.{size}
use Rattle.forest.specs.Tables.{over}
use Rattle.forest.proofs.Laws.{size_join}
use Rattle.forest.proofs.Rows.{over_more}
use Rattle.derivation.specs.code.Rules.{rule_width}
use Rattle.words.specs.Trees.{Lexeme, word_of}
use Rattle.lexemes.specs.Lists.{Items}
use Rattle.lexemes.specs.code.Standing.{ItemAt}
use Rattle.term_nodes.specs.code.Gather.{GatheredRule, GatheringRule}
use Rattle.term_nodes.specs.code.Limits.{TermNodes, WordPast}
use Rattle.term_nodes.specs.Terms.{raw_rule}
use Rattle.term_nodes.proofs.Saying.{say_rule}
use Rattle.shapes.specs.Shapes.{rule_shape}
use Rattle.written_sorts.specs.code.Places.{ShapedAt}
use Rattle.written_sorts.proofs.Walked.{placed}
use Rattle.term_nodes.specs.Rules.{Ruled, attributes_in, attributes_past, nodes_past, rule_past, rules_of, sides, weight_by, weight_in}
use Rattle.term_nodes.specs.code.RuleGathering.{RuleAt, RuleGathered, start_table}
use Rattle.term_nodes.specs.declared.Gathered.{Gathered}
use Rattle.term_nodes.proofs.Listing.{first_past, length_starts, no_rule_past, nodes_more, nodes_within, sides_more, some_node, starts_append}
use Rattle.term_nodes.proofs.Listing.{still_past}

-- three numbers written one after the other
pub row_written : (l : List ℕ) (i a b c : ℕ) → set (set (set l i a) (i + 1) b) (i + 2) c ≡ sets l i (a ∷ b ∷ c ∷ [])
row_written l i a b c = let one : i + 1 ≡ suc i = omega arith in let two : i + 2 ≡ suc (suc i) = omega arith in rw (one, two)

-- the row of one rule more, written behind those of the rules
starts_written : (table : List ℕ) (done : List Ruled) (r : Ruled) (more : List ℕ) → table ≡ start_table 0 done ++ more
    → rule_width * length done + rule_width ≤ length table
    → sets table (rule_width * length done) (size (sides done) ∷ r.head ∷ weight_in r ∷ []) ≡ over (start_table 0 (done ++ r ∷ [])) table
unfolding start_table
starts_written table done r more is room =
    let starts = start_table 0 done in
    let row = size (sides done) ∷ r.head ∷ weight_in r ∷ [] in
    let long = length_starts 0 done in
    let all : start_table 0 (done ++ r ∷ []) ≡ starts ++ row = rw zero-add at (starts_append 0 done (r ∷ [])) in
    let lent : table ≡ over starts table =
    is ∙ ap (λ (l : List ℕ). starts ++ l) (sym (drop-append_seam starts more) ∙ ap (λ (l : List ℕ). drop (length starts) l) (sym is)) in
    ap (λ (l : List ℕ). sets l (rule_width * length done) row) lent
    ∙ ap (λ (i : ℕ). sets (over starts table) i row) (sym long)
    ∙ over_more starts row table (omega arith)
    ∙ ap (λ (l : List ℕ). over l table) (sym all)

-- the rule of the non-terminal A that an item is
abbrev ruled : (A : ℕ) → Lexeme → Items → Ruled
ruled A l ops = record { head = A; first = word_of l; side = raw_rule l ops; attributes = attributes_in l ops }

module _ {lexemes : List ℕ} {at nowhere most nodes : ℕ} {raw rules : List ℕ} {g : Gathered} where
  -- the rule as an item
  abbrev pub item_here : RuleAt lexemes at nowhere most nodes raw rules g → ItemAt lexemes at
  item_here p =
      record { source = p.source; same = p.same; label = p.label; operands = p.operands; more = none; end = p.end; stands = p.stands }

  -- and as an item of its shape
  abbrev pub shaped_here : RuleAt lexemes at nowhere most nodes raw rules g → ShapedAt rule_shape lexemes at
  shaped_here p = record { here = item_here p; shaped = p.shaped }

  -- the rule and the rows behind which its nodes go
  abbrev pub rule_here : RuleAt lexemes at nowhere most nodes raw rules g → GatheringRule lexemes at raw g.row
  rule_here p = record {
    source = p.source;
    same = p.same;
    label = p.label;
    operands = p.operands;
    end = p.end;
    stands = p.stands;
    shaped = p.shaped;
    rows = record { before = sides p.done; rest = p.holds.rest; is = p.holds.raw_is; counted = p.holds.rows; room = p.room };
  }

  module _ {rawAfter : List ℕ} {row : ℕ} (gathered : (q : GatheringRule lexemes at raw g.row) → GatheredRule q rawAfter row) where
    -- its nodes
    abbrev pub nodes_here : RuleAt lexemes at nowhere most nodes raw rules g → TermNodes lexemes rawAfter g.row row
    nodes_here p =
        let q = gathered (rule_here p) in
        record {
          source = p.source;
          same = p.same;
          before = sides p.done;
          F = raw_rule p.label p.operands;
          rest = q.rest;
          is = q.is;
          begins = p.holds.rows;
          ends = q.counted;
          say = say_rule p.stands p.shaped;
        }

    module _ {within : ℕ} (known : (q : TermNodes lexemes rawAfter g.row row) → WordPast q nodes nowhere within)
        {over : ℕ} (weighed : (x : ItemAt lexemes at) → over ≡ attributes_past nowhere (attributes_in x.label x.operands))
        {past : ℕ} (both : past ≡ min within over) {place : ℕ} (least : place ≡ min g.place past) (A : ℕ) where
      module _ (p : RuleAt lexemes at nowhere most nodes raw rules g) where
        -- the rules that were gathered, and this one behind them
        all : List Ruled
        all = p.done ++ ruled A p.label p.operands ∷ []

        -- there is one more
        counted : g.rule + 1 ≡ length all
        unfolding all
        counted = rw length-append (omega (arith, p.holds.counted))

        -- it is gathered behind them, whatever becomes of its start and of the word past a limit
        one_more : {rulesAfter : List ℕ} (more : List ℕ) → (g.rule + 1 ≤ most → rulesAfter ≡ start_table 0 all ++ more) → length rulesAfter ≡ length rules
            → {word : ℕ} → word ≡ min (rule_past nowhere most all) (min (nodes_past nowhere nodes p.done) past)
            → RuleGathered p A rawAfter rulesAfter (record { row = row; rule = g.rule + 1; place = word })
        unfolding all rules_of
        one_more more rules_are long is_IsWord =
            let q = gathered (rule_here p) in
            let own = raw_rule p.label p.operands in
            let sides-are = sides_more p.done A p.label p.operands in
            record {
              rest = q.rest;
              raw_is = rw sides-are q.is;
              raw_long = q.long;
              rows = rw sides-are q.counted;
              counted = counted;
              few = omega (arith, q.counted, size_join (sides p.done) own, some_node p.label p.operands, p.holds.few);
              more = more;
              rules_are = rules_are;
              rules_long = long;
              room = omega (arith, p.holds.room);
              place_is =
                  is_IsWord
                  ∙ ap (λ (n : ℕ). min (rule_past nowhere most all) (min (nodes_past nowhere nodes p.done) n))
                  (both ∙ ap₂ min (known (nodes_here p)) (weighed (item_here p)))
                  ∙ ap (min (rule_past nowhere most all)) (sym (nodes_more nowhere nodes p.done (ruled A p.label p.operands)));
            }

      -- its start, its non-terminal and its weight are put into the table, which has room for it
      pub rule_put : g.rule < most → {weight : ℕ} → ((q : ShapedAt rule_shape lexemes at) → weight ≡ weight_by (attributes_in q.here.label q.here.operands))
          → {rulesAfter : List ℕ} → rulesAfter ≡ sets rules (rule_width * g.rule) (g.row ∷ A ∷ weight ∷ [])
          → (p : RuleAt lexemes at nowhere most nodes raw rules g)
          → RuleGathered p A rawAfter rulesAfter (record { row = row; rule = g.rule + 1; place = place })
      unfolding all rules_of
      rule_put h {weight} weighs {rulesAfter} put p =
          let done = p.done in
          let heavy = weighs (shaped_here p) in
          let starts = p.holds.rules_are (omega arith) in
          let r = ruled A p.label p.operands in
          let written = starts_written rules done r p.holds.more starts (omega (arith, p.holds.counted, p.holds.room)) in
          let before = no_rule_past nowhere most done (omega (arith, p.holds.counted)) in
          let now = no_rule_past nowhere most (all p) (omega (arith, counted p)) in
          one_more p (drop (length (start_table 0 (all p))) rules) (λ _. put ∙ rw (p.holds.counted, p.holds.rows, heavy) written)
          (ap length put ∙ length-sets rules (rule_width * g.rule) (g.row ∷ A ∷ weight ∷ [])) (omega (arith, p.holds.place_is))

      -- it is the first for which there is no room
      pub rule-past : most ≤ g.rule → g.rule ≡ most → {lesser : ℕ} → lesser ≡ min place at
          → (p : RuleAt lexemes at nowhere most nodes raw rules g)
          → RuleGathered p A rawAfter rules (record { row = row; rule = g.rule + 1; place = lesser })
      unfolding all rules_of
      rule-past h last lesser p =
          let done = p.done in
          let before = no_rule_past nowhere most done (omega (arith, p.holds.counted)) in
          let now = first_past nowhere most done (ruled A p.label p.operands) (omega (arith, p.holds.counted)) in
          one_more p [] (λ (over : g.rule + 1 ≤ most). absurd (omega arith)) refl
          (omega (arith, p.holds.place_is, nodes_within nowhere nodes done, placed p.stands))

      -- it is behind that one
      pub rule_behind : most ≤ g.rule → (g.rule ≡ most → ⊥) → (p : RuleAt lexemes at nowhere most nodes raw rules g)
          → RuleGathered p A rawAfter rules (record { row = row; rule = g.rule + 1; place = place })
      unfolding all rules_of
      rule_behind h other p =
          let now = still_past nowhere most p.done (ruled A p.label p.operands) (omega (arith, p.holds.counted)) in
          one_more p [] (λ (over : g.rule + 1 ≤ most). absurd (omega arith)) refl (omega (arith, p.holds.place_is))
