use Rattle.searching.proofs.Uses.{price_start, price_asks, price_chain, price_plain, price_nothing}
use Rattle.searching.proofs.filling.price_rules.Goals.{else-code_at-eq-NON_TERMINAL+else-cost-ne0, else-code_at-eq-NON_TERMINAL+then-cost-ne0}
use Rattle.searching.proofs.filling.price_rules.Goals.{then-code_at-eq-NON_TERMINAL}
use Rattle.searching.proofs.filling.price_rules.Goals as goal

pub loop-rule-init : goal.loop-rule-init
loop-rule-init c = search price_start

pub rank_of-cost-requires : goal.rank_of-cost-requires
rank_of-cost-requires c =
    price_asks c.loop-rule.invariant c.loop-rule-test.true c.start_at.ensures c.code_at.ensures c.if-code_at-eq-NON_TERMINAL.false

pub loop-rule-preserved : goal.loop-rule-preserved
loop-rule-preserved c =
    let inv = c.loop-rule.invariant in
    let more = c.loop-rule-test.true in
    let start = c.start_at.ensures in
    let code = c.code_at.ensures in
    elim c.if-code_at-eq-NON_TERMINAL.branch [
      | then-code_at-eq-NON_TERMINAL w ↦ rw (w.costs-is, w.live-is, w.kept-is) (price_chain inv more start code w.if-code_at-eq-NON_TERMINAL.true)
      | else-code_at-eq-NON_TERMINAL+then-cost-ne0 w ↦ rw (w.costs-is, w.live-is, w.kept-is) (price_plain inv more start code w.if-code_at-eq-NON_TERMINAL.false w.rank_of-cost.ensures)
      | else-code_at-eq-NON_TERMINAL+else-cost-ne0 w ↦ rw (w.costs-is, w.live-is, w.kept-is) (price_nothing inv more start code w.if-code_at-eq-NON_TERMINAL.false w.rank_of-cost.ensures w.if-cost-ne0.false)
    ]
