use Rattle.std.proofs.Common.{◌≡◌, ap, drop, ◌∙◌, rules, tests}
use Rattle.std.specs.List.{list_all, zip}
use Rattle.std.proofs.lemmas.Iterator.{YieldsList-from_slice, YieldsList-from_zip}
use Rattle.std.proofs.lemmas.Iterator.Adapters.{YieldsList-from_skip}
use Rattle.std.proofs.lemmas.Iterator.Search.{all_from_yields_List}
use Rattle.operators.specs.Values.{truth}
use Rattle.operators.proofs.Many.{alike, all_linked}
use Rattle.operators.proofs.truth.all_alike.Goals as goal

pub returns : goal.returns
returns c =
    let e : c.all.result ≡ list_all alike (zip c.args.values.now (drop 1 c.args.values.now)) =
    all_from_yields_List alike c.all.new.self _ c.all.result c.all.ensures.ran
    (YieldsList-from_zip (YieldsList-from_slice c.args.values.now cc) (YieldsList-from_skip 1 (YieldsList-from_slice c.args.values.now cc) cc))
    (λ x b q k. search (rules, tests)) in
    let t : c.from.result ≡ truth c.all.result = search rules in
    t ∙ ap truth (e ∙ all_linked c.args.values.now)
