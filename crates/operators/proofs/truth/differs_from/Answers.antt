use Rattle.std.proofs.Common.{drop, ◌∙◌, rules, tests}
use Rattle.std.proofs.lemmas.Iterator.{YieldsList-from_slice}
use Rattle.std.proofs.lemmas.Iterator.Adapters.{YieldsList-from_skip}
use Rattle.std.proofs.lemmas.Iterator.Search.{all_from_yields_List}
use Rattle.operators.specs.Values.{differ}
use Rattle.operators.proofs.Many.{each_differs}
use Rattle.operators.proofs.truth.differs_from.Goals as goal

pub returns : goal.returns
returns c =
    all_from_yields_List (differ c.args.value) _ _ _ c.all.ensures.ran
    (YieldsList-from_skip c.args.from (YieldsList-from_slice c.args.values.now cc) cc) (λ x b q k. search (rules, tests))
    ∙ each_differs c.args.value (drop c.args.from c.args.values.now)
