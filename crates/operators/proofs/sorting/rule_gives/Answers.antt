use Rattle.operators.proofs.SortTests.{choice_told, cutting_told, equality_told, joining_told, logic_told, width_told}
use Rattle.operators.proofs.sorting.rule_gives.Goals as goal

pub returns-in-Logic : goal.returns-in-Logic
returns-in-Logic c = search logic_told

pub returns-in-Equality : goal.returns-in-Equality
returns-in-Equality c = search equality_told

pub returns-in-Choice : goal.returns-in-Choice
returns-in-Choice c = search choice_told

pub returns-in-Joining : goal.returns-in-Joining
returns-in-Joining c = search joining_told

pub returns-in-Cutting : goal.returns-in-Cutting
returns-in-Cutting c = search cutting_told

pub returns-in-Width : goal.returns-in-Width
returns-in-Width c = search width_told
