use native.Mathlib.Omega.{arith}
use Rattle.searching.proofs.Members.{state_start, node_done, member_low, more_members, rule_small, state_step}
use Rattle.searching.proofs.filling.settle.Goals as goal

pub loop-choice-init : goal.loop-choice-init
loop-choice-init c = search state_start

pub returns : goal.returns
returns c = node_done c.loop-choice.invariant c.in_default.ensures

pub overflow_cast-chosen : goal.overflow_cast-chosen
overflow_cast-chosen c = omega (arith, rule_small c.loop-choice.invariant c.in-Some.ensures)

pub offset_bounds-chosen-nonterminal : goal.offset_bounds-chosen-nonterminal
offset_bounds-chosen-nonterminal c = omega (arith, member_low c.loop-choice.invariant c.in-Some.ensures c.non_terminal_at-nonterminal.ensures)

pub bounds-chosen-nonterminal : goal.bounds-chosen-nonterminal
bounds-chosen-nonterminal c = omega (arith, member_low c.loop-choice.invariant c.in-Some.ensures c.non_terminal_at-nonterminal.ensures)

pub offset_bounds-row-nonterminal : goal.offset_bounds-row-nonterminal
offset_bounds-row-nonterminal c = omega (arith, member_low c.loop-choice.invariant c.in-Some.ensures c.non_terminal_at-nonterminal.ensures)

pub bounds-row-nonterminal : goal.bounds-row-nonterminal
bounds-row-nonterminal c = omega (arith, member_low c.loop-choice.invariant c.in-Some.ensures c.non_terminal_at-nonterminal.ensures)

pub put-known-requires : goal.put-known-requires
put-known-requires c = member_low c.loop-choice.invariant c.in-Some.ensures c.non_terminal_at-nonterminal.ensures

pub loop-choice-smaller : goal.loop-choice-smaller
loop-choice-smaller c = more_members c.loop-choice.invariant c.in-Some.ensures c.non_terminal_at-nonterminal.ensures c.put-known.ensures

pub loop-choice-preserved : goal.loop-choice-preserved
loop-choice-preserved c = state_step c.loop-choice.invariant c.in-Some.ensures c.non_terminal_at-nonterminal.ensures c.put-known.ensures
