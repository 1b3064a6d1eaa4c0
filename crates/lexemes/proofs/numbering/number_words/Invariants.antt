use Rattle.lexemes.proofs.Filling.{Filling}
use Rattle.lexemes.proofs.numbering.number_words.Given as goal

abbrev pub invariant-loop-word : goal.invariant-loop-word
invariant-loop-word l = Filling l.text l.initial.lexemes l.count l.lexemes l.word
