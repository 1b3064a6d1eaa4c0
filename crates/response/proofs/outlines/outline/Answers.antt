use mathlib.Core.Bool.{not}
use mathlib.Core.Path.{ap}
use Rattle.response.proofs.ShapeAndLimits.{body-in, head_in, misshapen, other_command, past_limit, some_uncarried, within_limits}
use Rattle.lexemes.proofs.Listed.{as_item, between, item_ahead, list_room}
use native.Mathlib.Omega.{arith}
use Rattle.response.proofs.outlines.outline.Goals as goal

pub overflow_add-at : goal.overflow_add-at
overflow_add-at c = omega (arith, list_room c.requires.here)

pub returns-then-code_at-ne-DEFINE_FUN : goal.returns-then-code_at-ne-DEFINE_FUN
returns-then-code_at-ne-DEFINE_FUN c =
    rw c.verdict.ensures
    (search other_command)

pub overflow_add-at-2 : goal.overflow_add-at-2
overflow_add-at-2 c = omega (arith, list_room c.requires.here)

pub overflow_sub-next_at : goal.overflow_sub-next_at
overflow_sub-next_at c = omega (arith, item_ahead (as_item c.requires.here) c.next_at.ensures)

pub any_uncarried-requires : goal.any_uncarried-requires
any_uncarried-requires c = between c.requires.here c.next_at.ensures

pub returns-then-any_uncarried : goal.returns-then-any_uncarried
returns-then-any_uncarried c =
    rw c.verdict-then-any_uncarried.ensures
    (search some_uncarried)

pub returns-then-not-define_fun_shape : goal.returns-then-not-define_fun_shape
returns-then-not-define_fun_shape c =
    rw c.verdict-then-not-define_fun_shape.ensures
    (search misshapen)

pub head_past-head-requires : goal.head_past-head-requires
head_past-head-requires c = search head_in

pub body_limit-body-requires : goal.body_limit-body-requires
body_limit-body-requires c =
    body-in
    c.code_at.ensures
    c.if-code_at-ne-DEFINE_FUN.false
    c.next_at.ensures
    c.any_uncarried.ensures
    c.if-any_uncarried.false
    c.define_fun_shape.ensures
    (ap not c.if-not-define_fun_shape.false)
    c.body_word-first.ensures
    c.requires

pub returns-then-place-nowhere : goal.returns-then-place-nowhere
returns-then-place-nowhere c =
    rw c.verdict-then-place-nowhere.ensures
    (search past_limit)

pub returns : goal.returns
returns c =
    rw c.verdict-2.ensures
    (search within_limits)
