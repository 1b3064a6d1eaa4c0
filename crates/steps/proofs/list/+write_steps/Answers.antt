use native.Mathlib.Omega.{arith}
use Rattle.steps.proofs.Writing.{after_long, all_written, next_ends, next_within, none_written, one_written, operands_listable, operands_long, step_room}
use Rattle.steps.proofs.list.+write_steps.Goals as goal

pub loop-node-init : goal.loop-node-init
loop-node-init t c = (omega arith, λ e. none_written e)

pub overflow_add-past : goal.overflow_add-past
overflow_add-past t c =
    let e = c.requires in
    omega (arith, next_within e (c.loop-node.invariant.1 e) c.loop-node-test.true c.size_at.ensures)

pub overflow_add-node : goal.overflow_add-node
overflow_add-node t c = omega (arith, c.loop-node-test.true)

pub write_steps-place-requires : goal.write_steps-place-requires
write_steps-place-requires t c =
    let e = c.requires in
    let s = c.loop-node.invariant.1 e in
    let h = c.loop-node-test.true in
    let q = c.size_at.ensures in
    (omega (arith, c.loop-node.invariant.0, h, (next_ends e s h q).0, (next_ends e s h q).1), operands_listable e s h q)

pub put_step-requires : goal.put_step-requires
put_step-requires t c =
    let e = c.requires in
    step_room e (c.loop-node.invariant.1 e)
    c.loop-node-test.true c.size_at.ensures
    c.write_steps-place.ensures

pub overflow_add-place : goal.overflow_add-place
overflow_add-place t c =
    let e = c.requires in
    let room = step_room e (c.loop-node.invariant.1 e)
    c.loop-node-test.true
    c.size_at.ensures
    c.write_steps-place.ensures in
    let long = operands_long e (c.loop-node.invariant.1 e)
    c.loop-node-test.true
    c.size_at.ensures
    c.write_steps-place.ensures in
    omega (arith, room, long)

pub loop-node-smaller : goal.loop-node-smaller
loop-node-smaller t c =
    let e = c.requires in
    let h = c.loop-node-test.true in
    let s = c.loop-node.invariant.1 e in
    omega (arith, (next_ends e s h c.size_at.ensures).0, h)

pub loop-node-preserved : goal.loop-node-preserved
loop-node-preserved t c = (
  omega (arith, c.loop-node.invariant.0),
  λ e. one_written e (c.loop-node.invariant.1 e)
      c.loop-node-test.true
      c.size_at.ensures
      c.write_steps-place.ensures c.step_of.ensures
      c.put_step.ensures,
)

pub shape_of-area : goal.shape_of-area
shape_of-area t c =
    let e = c.requires in
    after_long e (c.loop-node.invariant.1 e)

pub returns : goal.returns
returns t c = λ e. all_written e (c.loop-node.invariant.1 e) c.loop-node-test.false
