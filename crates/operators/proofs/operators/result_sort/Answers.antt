use Rattle.std.proofs.Common.{arith}
use Rattle.operators.proofs.Results.{bool_result, chosen_result, cut_below, cut_order, cut_result, joined_narrow, joined_result, width_result}
use Rattle.operators.proofs.operators.result_sort.Goals as goal

pub overflow_add-result : goal.overflow_add-result
overflow_add-result c = omega (arith, joined_narrow c.in-Joining.ensures c.requires)

pub overflow_sub-result : goal.overflow_sub-result
overflow_sub-result c = cut_order c.in-Cutting.ensures c.requires

pub overflow_add-result-in-Cutting : goal.overflow_add-result-in-Cutting
overflow_add-result-in-Cutting c = omega (arith, cut_below c.in-Cutting.ensures c.requires)

pub returns-in-Choice : goal.returns-in-Choice
returns-in-Choice c = chosen_result c.in-Choice.ensures

pub returns-in-Width : goal.returns-in-Width
returns-in-Width c = width_result c.in-Width.ensures

pub returns-in-Joining : goal.returns-in-Joining
returns-in-Joining c = joined_result c.in-Joining.ensures

pub returns-in-Cutting : goal.returns-in-Cutting
returns-in-Cutting c = cut_result c.in-Cutting.ensures

pub returns-in-Logic : goal.returns-in-Logic
returns-in-Logic c = bool_result c.in-Logic.is c.rule_of.ensures
