use Rattle.written_sorts.proofs.HeaderSorts.{header}
use Rattle.synth_fun.proofs.SortVerdicts.{same_verdict}
use Rattle.synth_fun.proofs.SynthFunParts.{synth_at}
use Rattle.synth_fun.proofs.NameVerdicts.{found_then, full_refused, gathering_here, grammar_at, limit_refused}
use Rattle.synth_fun.proofs.command.synth_fun.Goals as goal

pub returns-then-functions-ge-FUNCTIONS : goal.returns-then-functions-ge-FUNCTIONS
returns-then-functions-ge-FUNCTIONS c =
    λ d. same_verdict c.verdict.ensures (full_refused d c.if-functions-ge-FUNCTIONS.true)

pub grammar_past-gathered-requires : goal.grammar_past-gathered-requires
grammar_past-gathered-requires c =
    grammar_at c.requires c.if-functions-ge-FUNCTIONS.false c.rules_place-first.ensures

pub head_past-head-requires : goal.head_past-head-requires
head_past-head-requires c =
    header (synth_at c.requires.of)

pub returns-then-past-nowhere : goal.returns-then-past-nowhere
returns-then-past-nowhere c =
    λ d. same_verdict c.verdict-then-past-nowhere.ensures
    (limit_refused d c.if-functions-ge-FUNCTIONS.false c.rules_place-first.ensures c.grammar_past-gathered.ensures c.head_past-head.ensures c.least-past.ensures
    c.if-past-nowhere.true)

pub names_tested-requires : goal.names_tested-requires
names_tested-requires c =
    gathering_here c.requires c.if-functions-ge-FUNCTIONS.false c.rules_place-first.ensures c.grammar_past-gathered.ensures c.head_past-head.ensures
    c.least-past.ensures c.if-past-nowhere.false

pub returns : goal.returns
returns c =
    λ d. found_then d c.if-functions-ge-FUNCTIONS.false c.rules_place-first.ensures c.grammar_past-gathered.ensures c.head_past-head.ensures c.least-past.ensures
    c.if-past-nowhere.false c.names_tested.ensures
