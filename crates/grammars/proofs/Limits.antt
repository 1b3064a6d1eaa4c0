-- A grammar within its limits: its rules gathered, and the least word past a limit.
use Prim.Native.Nat.{ℕ, ◌+◌, ◌-◌, min}
use native.Mathlib.Omega.{arith}
use mathlib.Core.Path.{◌≡◌, ap₂, ◌∙◌}
use mathlib.Core.List.{List}
use Rattle.forest.specs.Limits.{most_nodes, most_non_terminals, most_rules}
use Rattle.lexemes.specs.code.Standing.{Between}
use Rattle.lexemes.specs.code.Table.{next_at}
use Rattle.lexemes.proofs.Standing.{forward}
use Rattle.shapes.specs.Shapes.{group_shape}
use Rattle.written_sorts.specs.code.Headers.{SynthFunAt}
use Rattle.written_sorts.specs.Written.{grammar_sorts}
use Rattle.written_sorts.specs.declared.Fault.TheVariants.{TooWide}
use Rattle.term_nodes.specs.Rules.{item_past}
use Rattle.term_nodes.specs.code.RuleGathering.{GroupsBetween, RulesGathered}
use Rattle.term_nodes.specs.declared.Gathered.{Gathered}
use Rattle.term_faults.proofs.Rising.{rules_rise}
use Rattle.grammars.specs.code.Read.{GrammarAt, Limited}
use Rattle.grammars.specs.code.Parts.{groups_word, non_terminals_word}
use Rattle.grammars.proofs.SynthFunParts.{as_list, groups, groups_within, items_between, items_shaped, pairs_between}
use Rattle.grammars.proofs.Within.{rising_few}

module _ {lexemes raw rules : List ℕ} {at : ℕ} (p : GrammarAt lexemes raw rules at) where
  module _ {list : ℕ} (el : list ≡ groups_word lexemes at) {close : ℕ} (ec : close ≡ next_at lexemes list - 1) where
    -- what is listed of each stands in its list, and there is room for its rules
    abbrev pub listed_in : GroupsBetween lexemes (list + 1) close most_rules raw rules
    listed_in =
        let within = groups_within p.command el in
        let b = items_between (as_list group_shape (groups p.command el)) ec in
        record {
          source = b.source;
          same = b.same;
          items = b.items;
          stands = b.stands;
          shaped = items_shaped group_shape (groups p.command el);
          raw_room = omega (arith, within.0, within.1, p.room);
          rules_room = p.rules_room;
        }

  -- the rules are gathered and the word is found
  pub limited : {non_terminals : ℕ} → non_terminals ≡ non_terminals_word lexemes at → {list : ℕ} → list ≡ groups_word lexemes at
      → {nowhere sorts : ℕ} → ((q : SynthFunAt lexemes at) → sorts ≡ grammar_sorts TooWide nowhere q.here.operands)
      → {close : ℕ} → close ≡ next_at lexemes non_terminals - 1
      → {declared : ℕ} → ((b : Between lexemes (non_terminals + 1) close) → declared ≡ item_past nowhere most_non_terminals b.items)
      → {end : ℕ} → end ≡ next_at lexemes list - 1
      → {rawAfter rulesAfter : List ℕ} {g : Gathered}
      → ((q : GroupsBetween lexemes (list + 1) end most_rules raw rules) → RulesGathered q nowhere most_nodes rawAfter rulesAfter g)
      → {later : ℕ} → later ≡ min sorts g.place → {place : ℕ} → place ≡ min declared later
      → Limited p nowhere rawAfter rulesAfter (record { row = g.row; rule = g.rule; place = place })
  limited en el by-sorts ec by-declared ee by-rules e-later e =
      let q = listed_in el ee in
      let h = by-rules q in
      let within = groups_within p.command el in
      let few = rising_few _ (rules_rise q.stands q.shaped 0) (forward q.stands) in
      record {
        rest = h.rest;
        raw_is = h.raw_is;
        raw_long = h.raw_long;
        rows_are = h.rows;
        few = omega (arith, h.rows, few, within.0, within.1);
        counted = h.counted;
        more = h.more;
        rules_are = h.rules_are;
        rules_long = h.rules_long;
        place_is = e ∙ ap₂ min (by-declared (pairs_between p.command en ec)) (e-later ∙ ap₂ min (by-sorts p.command) h.place_is);
      }
