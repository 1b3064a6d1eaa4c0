use mathlib.Core.Path.{refl}
use Rattle.evaluation.proofs.Prices.{all_priced, fill_defined, fill_functions}
use Rattle.evaluation.proofs.costs.body_costs.Goals as goal

pub fill_from-requires : goal.fill_from-requires
fill_from-requires c = fill_defined c.requires refl

pub fill_from-requires-2 : goal.fill_from-requires-2
fill_from-requires-2 c = let e = c.requires in
    fill_functions e refl (c.fill_from.ensures (fill_defined e refl))

pub returns : goal.returns
returns c = λ e.
    let done = c.fill_from.ensures (fill_defined e refl) in
    all_priced e refl done (c.fill_from-2.ensures (fill_functions e refl done))
