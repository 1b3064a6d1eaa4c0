use mathlib.Core.Path.{◌≡◌, ap, ◌∙◌}
use lib.ListN.{take}
use Rattle.blocks.specs.Blocks.{low}
use Rattle.blocks.proofs.Putting.{low_bytes}
use Rattle.blocks.proofs.writing.put_number.Goals as goal

pub put_bytes-requires : goal.put_bytes-requires
put_bytes-requires c =
    let e : take c.args.size c.to_le_bytes.result ≡ low c.args.size c.args.number = ap (take c.args.size) c.to_le_bytes.ensures ∙ low_bytes c.args.size c.args.number c.requires.size_low in
    rw e c.requires.fitting

pub returns : goal.returns
returns c =
    let e : take c.args.size c.to_le_bytes.result ≡ low c.args.size c.args.number = ap (take c.args.size) c.to_le_bytes.ensures ∙ low_bytes c.args.size c.args.number c.requires.size_low in
    rw e at c.put_bytes.ensures
