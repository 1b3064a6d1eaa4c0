use mathlib.Core.Bool.{not}
use mathlib.Core.Path.{ap}
use Rattle.following.proofs.Chain.{inv_start, turn_end, turn_more, turn_no, turn_room}
use native.Mathlib.Omega.{arith}
use Rattle.following.proofs.follow_chain.Goals as goal

pub loop-nonterminal-init : goal.loop-nonterminal-init
loop-nonterminal-init c = search inv_start

pub returns-then-not-usable : goal.returns-then-not-usable
returns-then-not-usable c = search turn_no

pub overflow_add-next : goal.overflow_add-next
overflow_add-next c = omega (arith, turn_room c.loop-nonterminal.invariant c.rule_in-rule.ensures c.usable.ensures (ap not c.if-not-usable.false))

pub returns-then-code_at-ne-NON_TERMINAL : goal.returns-then-code_at-ne-NON_TERMINAL
returns-then-code_at-ne-NON_TERMINAL c = search turn_end

pub loop-nonterminal-smaller : goal.loop-nonterminal-smaller
loop-nonterminal-smaller c =
    omega (
      arith,
      turn_room c.loop-nonterminal.invariant
          c.rule_in-rule.ensures
          c.usable.ensures (ap not c.if-not-usable.false),
    )

pub loop-nonterminal-preserved : goal.loop-nonterminal-preserved
loop-nonterminal-preserved c = search turn_more
