use Rattle.blocks.proofs.Again.{pay_past, pay_told}
use mathlib.Core.Path.{refl}
use native.Mathlib.Omega.{arith}
use Rattle.blocks.proofs.pay_at.Goals as goal

pub returns-then-block-file : goal.returns-then-block-file
returns-then-block-file c = pay_past c.args.file.now c.args.place c.if-block-file.true

pub returns : goal.returns
returns c = pay_told c.args.file.now c.args.place (omega arith) refl
