use Rattle.std.proofs.Common.{eqb, drop, ◌∙◌, rules, tests}
use Rattle.std.proofs.lemmas.Iterator.{YieldsList-from_slice}
use Rattle.std.proofs.lemmas.Iterator.Adapters.{YieldsList-from_skip}
use Rattle.std.proofs.lemmas.Iterator.Search.{all_from_yields_List}
use Rattle.operators.proofs.SortTests.{each_is}
use Rattle.operators.proofs.sorting.all_are.Goals as goal

pub returns : goal.returns
returns c =
    all_from_yields_List (λ t. eqb t c.args.sort) _ _ _ c.all.ensures.ran
    (YieldsList-from_skip c.args.from (YieldsList-from_slice c.args.sorts.now cc) cc) (λ x b q k. search (rules, tests))
    ∙ each_is c.args.sort (drop c.args.from c.args.sorts.now)
