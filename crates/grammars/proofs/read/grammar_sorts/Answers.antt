use Prim.Native.Nat.{min}
use mathlib.Core.Path.{ap, ap₂, ◌∙◌}
use Rattle.term_faults.specs.Faults.{term_fault}
use Rattle.grammars.proofs.read.grammar_sorts.Goals as goal

pub returns : goal.returns
returns c = λ p.
    let found = c.fault_word-within.ensures p.sought in
    let rules = found.place_is ∙ ap (term_fault _ p.sought.view) p.is in
    let sorts = c.grammar_place-written.ensures p.command in
    record { column_is = found.column_is; place_is = c.least.ensures ∙ ap₂ min sorts rules }
