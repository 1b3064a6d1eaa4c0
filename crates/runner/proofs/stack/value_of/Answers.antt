use Rattle.runner.proofs.OnTop.{appliable_sort, appliable_value, given_value}
use Rattle.runner.proofs.stack.value_of.Goals as goal

pub result_sort-requires : goal.result_sort-requires
result_sort-requires c = appliable_sort c.entry_at-first.ensures c.entry_at-second.ensures c.requires

pub apply-requires : goal.apply-requires
apply-requires c = appliable_value c.entry_at-first.ensures c.entry_at-second.ensures c.requires

pub returns : goal.returns
returns c =
    given_value c.entry_at-first.ensures c.entry_at-second.ensures c.result_sort.ensures c.apply.ensures
