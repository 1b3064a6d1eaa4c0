use Rattle.words.proofs.Lines.{count_byte, count_ends, count_line}
use Rattle.words.proofs.positions.end_position.Goals as goal
use Rattle.words.proofs.positions.end_position.Goals.{else-byte-eq-LINE_END, then-byte-eq-LINE_END}

pub loop-byte-preserved : goal.loop-byte-preserved
loop-byte-preserved c =
    elim c.if-byte-eq-LINE_END.branch [ then-byte-eq-LINE_END w ↦ search count_line | else-byte-eq-LINE_END w ↦ search count_byte ]

pub returns : goal.returns
returns c = search count_ends
