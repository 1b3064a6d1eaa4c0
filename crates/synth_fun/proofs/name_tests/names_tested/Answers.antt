use Rattle.synth_fun.proofs.SortVerdicts.{same_verdict}
use Rattle.synth_fun.proofs.SynthFunParts.{synth_at}
use Rattle.synth_fun.proofs.NameVerdicts.{names_refused, unnamed_here, unsorted_here}
use Rattle.synth_fun.proofs.name_tests.names_tested.Goals as goal

pub header_of-header-requires : goal.header_of-header-requires
header_of-header-requires c =
    synth_at c.requires.given.of

pub names_place-place-requires : goal.names_place-place-requires
names_place-place-requires c =
    unnamed_here c.requires c.header_of-header.ensures

pub returns-then-place-command : goal.returns-then-place-command
returns-then-place-command c =
    λ s. same_verdict c.verdict.ensures (names_refused s c.header_of-header.ensures c.names_place-place.ensures c.if-place-command.true)

pub sorts_tested-requires : goal.sorts_tested-requires
sorts_tested-requires c =
    unsorted_here c.requires c.header_of-header.ensures c.names_place-place.ensures c.if-place-command.false

pub returns : goal.returns
returns c =
    λ s. c.sorts_tested.ensures (unsorted_here s c.header_of-header.ensures c.names_place-place.ensures c.if-place-command.false)
