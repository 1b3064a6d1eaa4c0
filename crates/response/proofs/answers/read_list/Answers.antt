use Rattle.response.proofs.ItemRead.{base_room}
use Rattle.response.proofs.ListRead.{first_ahead, going_start, going_turn, item_asked, item_less, item_low, item_stops, list_short, list_whole}
use Rattle.response.proofs.ListRead.{more_behind}
use borrow.Author.Rules.{rules}
use native.Mathlib.Omega.{arith}
use Rattle.response.proofs.answers.read_list.Goals as goal

pub overflow_sub-close : goal.overflow_sub-close
overflow_sub-close c = omega (arith, first_ahead c.next_at-close.ensures c.requires.lexemes_value c.requires.responding)

pub loop-at-init : goal.loop-at-init
loop-at-init c = going_start c.next_at-close.ensures c.requires.lexemes_value c.requires.responding

pub overflow_add-base : goal.overflow_add-base
overflow_add-base c = omega (arith, base_room (item_asked c.loop-at.invariant c.loop-at-test.true), c.loop-at.invariant.same_nodes)

pub read_item-read-requires : goal.read_item-read-requires
read_item-read-requires c = item_asked c.loop-at.invariant c.loop-at-test.true

pub returns-then-read-ne-ACCEPTED : goal.returns-then-read-ne-ACCEPTED
returns-then-read-ne-ACCEPTED c = item_stops c.loop-at.invariant c.loop-at-test.true c.read_item-read.ensures c.if-read-ne-ACCEPTED.true (search rules)

pub overflow_add-function : goal.overflow_add-function
overflow_add-function c = omega (arith, c.loop-at.invariant.few)

pub overflow_add-rows : goal.overflow_add-rows
overflow_add-rows c = omega (arith, item_low c.loop-at.invariant c.loop-at-test.true c.read_item-read.ensures c.if-read-ne-ACCEPTED.false c.next_at-at.ensures)

pub loop-at-smaller : goal.loop-at-smaller
loop-at-smaller c = item_less c.loop-at.invariant c.loop-at-test.true c.read_item-read.ensures c.if-read-ne-ACCEPTED.false c.next_at-at.ensures

pub loop-at-preserved : goal.loop-at-preserved
loop-at-preserved c =
    going_turn
    c.loop-at.invariant
    c.loop-at-test.true
    c.read_item-read.ensures
    c.if-read-ne-ACCEPTED.false
    c.next_at-at.ensures
    (search rules)
    (search rules)
    (search rules)

pub returns-then-function-progress : goal.returns-then-function-progress
returns-then-function-progress c =
    rw c.verdict.ensures
    (list_short c.loop-at.invariant c.loop-at-test.false c.if-function-progress.true)

pub overflow_add-close : goal.overflow_add-close
overflow_add-close c = omega arith

pub overflow_add-close-then-close-nowhere : goal.overflow_add-close-then-close-nowhere
overflow_add-close-then-close-nowhere c = omega arith

pub returns-then-close-nowhere : goal.returns-then-close-nowhere
returns-then-close-nowhere c =
    rw c.verdict-then-close-nowhere.ensures
    (more_behind c.loop-at.invariant c.loop-at-test.false c.if-function-progress.false c.if-close-nowhere.true)

pub returns : goal.returns
returns c =
    rw c.verdict-2.ensures
    (list_whole c.loop-at.invariant c.loop-at-test.false c.if-function-progress.false c.if-close-nowhere.false)
