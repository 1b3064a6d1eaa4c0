use Rattle.searching.proofs.Top.{masks_fit, show_pre, derive_no, derive_yes}
use lib.ListN.{length, length-take}
use mathlib.Core.Path.{refl}
use Prim.Native.Nat.{◌/◌, ◌*◌}
use native.Mathlib.Omega.{arith}
use Rattle.terms.specs.code.Nodes.{row_width}
use Rattle.searching.specs.code.Masks.{mark_width}
use Rattle.searching.proofs.derive.Goals as goal

pub slice_bounds-masks-end : goal.slice_bounds-masks-end
slice_bounds-masks-end c =
    omega (
      arith,
      masks_fit {n = length c.args.body.now / row_width * mark_width} refl c.requires,
      c.filled-masks.ensures,
    )

pub slice_bounds-show-end : goal.slice_bounds-show-end
slice_bounds-show-end c =
    omega (
      arith,
      length-take (length c.args.body.now / row_width * mark_width) c.filled-masks.result,
      masks_fit {n = length c.args.body.now / row_width * mark_width} refl c.requires,
      c.filled-masks.ensures,
    )

pub show-requires : goal.show-requires
show-requires c =
    show_pre refl c.filled-masks.result c.filled-masks.ensures c.filled-choices.ensures
    c.blank-list.ensures c.requires

pub returns-in_err-rank : goal.returns-in_err-rank
returns-in_err-rank c =
    rw c.from_residual.ensures
    (derive_no refl c.filled-masks.result c.filled-masks.ensures c.filled-choices.ensures
    c.blank-list.ensures c.in_err-rank.ensures)

pub returns : goal.returns
returns c =
    derive_yes refl c.filled-masks.result c.filled-masks.ensures c.filled-choices.ensures
    c.blank-list.ensures c.in_ok-rank.ensures c.copy.ensures
