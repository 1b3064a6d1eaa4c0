use Rattle.blocks.proofs.Filling.{block_within, filling_told, none_told, past_told, spare_told}
use Rattle.blocks.proofs.reading.filling_fault.Goals as goal

pub returns-then-needed-whole : goal.returns-then-needed-whole
returns-then-needed-whole c = past_told c.args.file.now c.list_at-needed.ensures c.if-needed-whole.true

pub zeros_between-requires : goal.zeros_between-requires
zeros_between-requires c = block_within c.args.file.now c.list_at-needed.ensures c.if-needed-whole.false

pub returns-then-not-zeros_between : goal.returns-then-not-zeros_between
returns-then-not-zeros_between c = filling_told c.args.file.now c.list_at-needed.ensures c.if-needed-whole.false c.zeros_between.ensures c.if-not-zeros_between.true

pub returns-then-last-whole : goal.returns-then-last-whole
returns-then-last-whole c = spare_told c.args.file.now c.list_at-needed.ensures c.if-needed-whole.false c.zeros_between.ensures c.if-not-zeros_between.false c.if-last-whole.true

pub returns : goal.returns
returns c = none_told c.args.file.now c.list_at-needed.ensures c.if-needed-whole.false c.zeros_between.ensures c.if-not-zeros_between.false c.if-last-whole.false
