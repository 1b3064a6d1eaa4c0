use Rattle.std.proofs.Common.{rules}
use Rattle.blocks.specs.Layout.{file_fault}
use Rattle.blocks.proofs.reading.file_fault.Goals as goal

pub returns : goal.returns
unfolding file_fault
returns c = search rules
