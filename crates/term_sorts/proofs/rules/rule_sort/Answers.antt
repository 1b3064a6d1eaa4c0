use Rattle.term_sorts.proofs.RuleSorts.{all_operands, choice_gives, cutting_gives, equality_gives, first_room, first_there, joining_gives, logic_gives}
use Rattle.term_sorts.proofs.RuleSorts.{order_gives, other_operands, second_there, width_gives}
use mathlib.Core.Path.{refl}
use Rattle.operators.specs.declared.rules.Rule.TheVariants.{Choice, Joining}
use native.Mathlib.Omega.{arith}
use Rattle.term_sorts.proofs.rules.rule_sort.Goals as goal

pub overflow_sub-first : goal.overflow_sub-first
overflow_sub-first c = omega (arith, first_there c.requires)

pub overflow_add-second : goal.overflow_add-second
overflow_add-second c = omega (arith, first_room c.requires)

pub returns-in-Cutting : goal.returns-in-Cutting
returns-in-Cutting c = cutting_gives _ c.sort_at-first.ensures c.in-Cutting.is c.high_in.ensures c.low_in.ensures c.cut_sort.ensures

pub overflow_sub-sort_at : goal.overflow_sub-sort_at
overflow_sub-sort_at c = omega (arith, second_there c.size_at.ensures Joining refl c.in-Joining.is c.requires)

pub returns-in-Joining : goal.returns-in-Joining
returns-in-Joining c = joining_gives _ c.sort_at-first.ensures c.size_at.ensures c.in-Joining.is c.sort_at.ensures c.joined_sort.ensures

pub overflow_sub-count : goal.overflow_sub-count
overflow_sub-count c = (all_operands c.requires).any

pub common_sort-requires : goal.common_sort-requires
common_sort-requires c = other_operands c.size_at.ensures Choice refl c.in-Choice.is c.requires

pub returns-in-Choice : goal.returns-in-Choice
returns-in-Choice c =
    choice_gives _ c.sort_at-first.ensures c.size_at.ensures c.in-Choice.is c.common_sort.ensures c.number_when.ensures

pub returns-in-Logic : goal.returns-in-Logic
returns-in-Logic c = logic_gives _ c.common_sort-in-Logic.ensures c.in-Logic.is c.number_when-in-Logic.ensures

pub returns-in-Equality : goal.returns-in-Equality
returns-in-Equality c = equality_gives _ c.common_sort-in-Equality.ensures c.in-Equality.is c.number_when-in-Equality.ensures

pub returns-in-Order : goal.returns-in-Order
returns-in-Order c = order_gives _ c.common_sort-in-Order.ensures c.in-Order.is c.number_when-in-Order.ensures

pub returns-in-Width : goal.returns-in-Width
returns-in-Width c = width_gives _ c.common_sort-common.ensures c.in-Width.is c.number_when-in-Width.ensures
