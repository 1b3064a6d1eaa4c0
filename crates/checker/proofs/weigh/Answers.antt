use Rattle.checker.proofs.Sizing.{size_refused, sizes_right, texts_judged}
use Rattle.checker.proofs.weigh.Goals as goal

pub returns-then-size-ne-ACCEPTED : goal.returns-then-size-ne-ACCEPTED
returns-then-size-ne-ACCEPTED c = search size_refused

pub judge_texts-requires : goal.judge_texts-requires
judge_texts-requires c = search sizes_right

pub returns : goal.returns
returns c = search texts_judged
