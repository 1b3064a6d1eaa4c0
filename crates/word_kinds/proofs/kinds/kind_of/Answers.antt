use Rattle.word_kinds.proofs.Forms.{kind_close, kind_hashed, kind_marked, kind_none, kind_numeral, kind_open, kind_symbol}
use Rattle.word_kinds.proofs.kinds.kind_of.Goals as goal

pub returns-then-word-eq0 : goal.returns-then-word-eq0
returns-then-word-eq0 c = search kind_none

pub returns-then-first-eq40 : goal.returns-then-first-eq40
returns-then-first-eq40 c = search kind_open

pub returns-then-first-eq41 : goal.returns-then-first-eq41
returns-then-first-eq41 c = search kind_close

pub returns-then-is_uncarried : goal.returns-then-is_uncarried
returns-then-is_uncarried c = search kind_marked

pub returns-then-is_digit : goal.returns-then-is_digit
returns-then-is_digit c = search kind_numeral

pub returns-then-first-eq35 : goal.returns-then-first-eq35
returns-then-first-eq35 c = search kind_hashed

pub returns : goal.returns
returns c = search kind_symbol
