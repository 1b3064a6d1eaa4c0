use native.Mathlib.Omega.{arith}
use Rattle.bodies.proofs.TablePart.{part_found, part_sought, part_starts}
use Rattle.bodies.proofs.read.body_sort.Goals as goal

pub overflow_mul-forms : goal.overflow_mul-forms
overflow_mul-forms c =
    omega (arith, part_starts c.args.nodes.now c.args.base c.requires)

pub offset_bounds-nodes-base : goal.offset_bounds-nodes-base
offset_bounds-nodes-base c =
    omega (arith, part_starts c.args.nodes.now c.args.base c.requires)

pub slice_bounds-forms-count : goal.slice_bounds-forms-count
slice_bounds-forms-count c = search part_starts

pub slice_bounds-forms-start : goal.slice_bounds-forms-start
slice_bounds-forms-start c = search part_starts

pub body_fault-requires : goal.body_fault-requires
body_fault-requires c = search part_sought

pub returns : goal.returns
returns c = search part_found
