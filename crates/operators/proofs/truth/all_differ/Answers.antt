use Rattle.std.proofs.Common.{◌≡◌, ap, ◌∙◌, rules, tests}
use Rattle.std.specs.List.{enumerate_from, list_all}
use Rattle.std.proofs.lemmas.Iterator.{YieldsList-from_slice}
use Rattle.std.proofs.lemmas.Iterator.Consumers.{YieldsList-from_enumerate}
use Rattle.std.proofs.lemmas.Iterator.Search.{all_from_yields_List}
use Rattle.operators.specs.Values.{truth}
use Rattle.operators.proofs.Many.{all_apart, apart_behind}
use Rattle.operators.proofs.truth.all_differ.Goals as goal

pub returns : goal.returns
returns c =
    let e : c.all.result ≡ list_all (apart_behind c.args.values.now) (enumerate_from 0 c.args.values.now) =
    all_from_yields_List (apart_behind c.args.values.now) c.all.new.self _ c.all.result c.all.ensures.ran
    (YieldsList-from_enumerate (YieldsList-from_slice c.args.values.now cc) cc)
    (λ x b q k. search (rules, tests)) in
    let t : c.from.result ≡ truth c.all.result = search rules in
    t ∙ ap truth (e ∙ all_apart c.args.values.now)
