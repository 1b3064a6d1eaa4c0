use Rattle.blocks.proofs.Filing.{head_first, head_second, head_third, head_written}
use native.Mathlib.Omega.{arith}
use Rattle.blocks.proofs.writing.put_head.Goals as goal

pub put_number-first-requires : goal.put_number-first-requires
put_number-first-requires c = record { size_low = omega arith; fitting = head_first c.args.script c.args.response c.requires.fitting }

pub put_number-second-requires : goal.put_number-second-requires
put_number-second-requires c = record { size_low = omega arith; fitting = head_second c.args.script c.args.response c.requires.fitting c.put_number-first.ensures }

pub put_lengths-requires : goal.put_lengths-requires
put_lengths-requires c = record { shown_len = c.requires.shown_len; fitting = head_third c.args.script c.args.response c.requires.fitting c.put_number-first.ensures c.put_number-second.ensures }

pub returns : goal.returns
returns c = head_written c.args.script c.args.response c.requires.fitting c.put_number-first.ensures c.put_number-second.ensures c.put_lengths.ensures
