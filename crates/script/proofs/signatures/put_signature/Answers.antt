use Rattle.names.specs.code.Table.{sorts_from}
use Rattle.term_sorts.specs.code.Signatures.{signature_width}
use Prim.Native.Nat.{◌*◌}
use mathlib.Core.Path.{◌∙◌}
use native.Mathlib.Omega.{arith}
use Rattle.script.proofs.Writing.{all_written, row_written, sort_written}
use Rattle.script.proofs.signatures.put_signature.Goals as goal

pub loop-k-preserved : goal.loop-k-preserved
loop-k-preserved c = search sort_written

pub returns : goal.returns
returns c =
    let given = c.args in
    let sorts = sorts_from given.names.now given.first given.arguments in
    all_written c.loop-k.invariant (omega arith) ∙ row_written given.places.now sorts (signature_width * given.row) given.arguments given.res
