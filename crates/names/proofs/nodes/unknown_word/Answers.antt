use native.Mathlib.Omega.{arith}
use Prim.Native.Nat.{◌*◌, ◌<◌}
use lib.ListN.{length}
use Rattle.lexemes.specs.code.Table.{row_width as lexemeWidth}
use Rattle.names.proofs.ByWords.{head-word, pattern_within, sort_word}
use Rattle.names.proofs.nodes.unknown_word.Goals as goal

pub overflow_add-result : goal.overflow_add-result
overflow_add-result c = let h : lexemeWidth * c.args.head < length c.args.lexemes.now = search pattern_within in omega arith

pub returns-then-is_pattern : goal.returns-then-is_pattern
returns-then-is_pattern c = search sort_word

pub returns : goal.returns
returns c = search head-word
