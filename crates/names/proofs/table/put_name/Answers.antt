use Rattle.names.proofs.Names.{name_byte, row_written, unwritten, written, zero_byte}
use Rattle.names.specs.code.Table.{row_width}
use native.Mathlib.Omega.{arith}
use mathlib.Core.Path.{◌∙◌}
use Prim.Native.Nat.{◌*◌}
use Rattle.names.proofs.table.put_name.Goals as goal
use Rattle.names.proofs.table.put_name.Goals.{else-k-word, then-k-word}

pub loop-k-init : goal.loop-k-init
loop-k-init c = search unwritten

pub loop-k-preserved : goal.loop-k-preserved
loop-k-preserved c = elim c.if-k-word.branch [ then-k-word w ↦ search name_byte | else-k-word w ↦ search zero_byte ]

pub returns : goal.returns
returns c =
    let given = c.args in
    written _ c.requires.word_len_bound c.loop-k.invariant (omega arith) ∙ row_written given.names.now given.word.now (row_width * given.row) given.sort given.place
