use mathlib.Core.Path.{sym, ◌∙◌}
use Rattle.texts.proofs.TextLexemes.{lexed_refused, lexed_whole, to_number}
use Rattle.texts.proofs.lexed.lexemes_in.Goals as goal

pub number_words-requires : goal.number_words-requires
number_words-requires c = to_number c.requires c.read_words-reading.ensures (sym c.number_of.ensures ∙ c.if-number_of-eq0.true) c.passed_of.ensures

pub returns-then-number_of-eq0 : goal.returns-then-number_of-eq0
returns-then-number_of-eq0 c = lexed_whole c.requires c.read_words-reading.ensures (sym c.number_of.ensures ∙ c.if-number_of-eq0.true) c.number_words.ensures

pub returns-else-number_of-eq0 : goal.returns-else-number_of-eq0
returns-else-number_of-eq0 c = lexed_refused c.requires c.read_words-reading.ensures (λ z. c.if-number_of-eq0.false (c.number_of.ensures ∙ z))
