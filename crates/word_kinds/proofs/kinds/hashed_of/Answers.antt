use Rattle.word_kinds.specs.code.Digits.{binary, hex}
use Rattle.word_kinds.proofs.Forms.{hashed_bad, hashed_binary, hashed_hex, hashed_none}
use Rattle.word_kinds.proofs.kinds.hashed_of.Goals as goal

pub returns-then-word-eq0 : goal.returns-then-word-eq0
returns-then-word-eq0 c = search hashed_none

pub literal_of-requires : goal.literal_of-requires
literal_of-requires c = hex

pub returns-then-word-eq120 : goal.returns-then-word-eq120
returns-then-word-eq120 c = search hashed_hex

pub literal_of-requires-then-word-eq98 : goal.literal_of-requires-then-word-eq98
literal_of-requires-then-word-eq98 c = binary

pub returns-then-word-eq98 : goal.returns-then-word-eq98
returns-then-word-eq98 c = search hashed_binary

pub returns : goal.returns
returns c = search hashed_bad
