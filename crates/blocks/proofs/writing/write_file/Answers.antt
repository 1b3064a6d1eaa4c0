use Rattle.blocks.proofs.Filing.{area_told, length_told, place_low, write_head, write_response, write_rules, write_script, write_zeros}
use native.Mathlib.Omega.{arith}
use Rattle.blocks.proofs.writing.write_file.Goals as goal

pub put_head-head-requires : goal.put_head-head-requires
put_head-head-requires c = record { shown_len = c.requires.shown_len; fitting = write_head c.args.script.now c.args.response.now c.args.shown.now c.args.area.now c.requires.shown_in_bounds }

pub put_bytes-first-requires : goal.put_bytes-first-requires
put_bytes-first-requires c = write_script c.args.script.now c.args.response.now c.args.shown.now c.args.area.now c.requires.shown_in_bounds c.put_head-head.ensures

pub put_bytes-second-requires : goal.put_bytes-second-requires
put_bytes-second-requires c = write_response c.args.script.now c.args.response.now c.args.shown.now c.args.area.now c.requires.shown_in_bounds c.put_head-head.ensures c.put_bytes-first.ensures

pub put_lists-lists-requires : goal.put_lists-lists-requires
put_lists-lists-requires c = record { shown_len = c.requires.shown_len; fitting = write_rules c.args.script.now c.args.response.now c.args.shown.now c.args.area.now c.requires.shown_in_bounds c.put_head-head.ensures c.put_bytes-first.ensures c.put_bytes-second.ensures }

pub overflow_sub-lists : goal.overflow_sub-lists
overflow_sub-lists c = omega (arith, place_low c.args.script.now c.args.response.now c.args.shown.now c.args.area.now c.requires.shown_in_bounds c.put_head-head.ensures c.put_bytes-first.ensures c.put_bytes-second.ensures c.put_lists-lists.ensures)

pub put_zeros-end-requires : goal.put_zeros-end-requires
put_zeros-end-requires c = write_zeros c.args.script.now c.args.response.now c.args.shown.now c.args.area.now c.requires.shown_in_bounds c.put_head-head.ensures c.put_bytes-first.ensures c.put_bytes-second.ensures c.put_lists-lists.ensures

pub returns : goal.returns
returns c = record { value = length_told c.args.script.now c.args.response.now c.args.shown.now c.args.area.now c.requires.shown_in_bounds c.put_head-head.ensures c.put_bytes-first.ensures c.put_bytes-second.ensures c.put_lists-lists.ensures c.put_zeros-end.ensures; area_after = area_told c.args.script.now c.args.response.now c.args.shown.now c.args.area.now c.requires.shown_in_bounds c.put_head-head.ensures c.put_bytes-first.ensures c.put_bytes-second.ensures c.put_lists-lists.ensures c.put_zeros-end.ensures }
