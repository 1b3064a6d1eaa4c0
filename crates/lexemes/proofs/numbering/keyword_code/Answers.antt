use Rattle.lexemes.proofs.Filling.{code_feature, code_other, code_weight}
use Rattle.lexemes.proofs.numbering.keyword_code.Goals as goal

pub returns-then-same_bytes : goal.returns-then-same_bytes
returns-then-same_bytes c = search code_feature

pub returns-then-same_bytes-2 : goal.returns-then-same_bytes-2
returns-then-same_bytes-2 c = search code_weight

pub returns : goal.returns
returns c = search code_other
