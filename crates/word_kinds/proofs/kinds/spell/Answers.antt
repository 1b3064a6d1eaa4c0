use Rattle.word_kinds.proofs.Digits.{below_goes, spell_add, spell_ends, spell_goes, spell_more, spell_mul}
use Rattle.word_kinds.proofs.kinds.spell.Goals as goal

pub overflow_mul-value : goal.overflow_mul-value
overflow_mul-value c = record { fits = search spell_mul }

pub overflow_add-value : goal.overflow_add-value
overflow_add-value c = record { fits = search spell_add }

pub loop-digit-preserved : goal.loop-digit-preserved
loop-digit-preserved c = (search spell_goes, search below_goes, search spell_more)

pub returns : goal.returns
returns c = search spell_ends
