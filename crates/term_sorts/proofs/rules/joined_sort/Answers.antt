use Rattle.term_sorts.proofs.RuleSorts.{joined_fits, joined_wide}
use native.Mathlib.Omega.{arith}
use Rattle.term_sorts.proofs.rules.joined_sort.Goals as goal

pub returns-then-first-gt-MAX_WIDTH : goal.returns-then-first-gt-MAX_WIDTH
returns-then-first-gt-MAX_WIDTH c = joined_wide c.args.first c.args.second (omega arith)

pub returns-then-first-second : goal.returns-then-first-second
returns-then-first-second c = joined_wide c.args.first c.args.second (omega arith)

pub returns : goal.returns
returns c = joined_fits c.args.first c.args.second (omega arith) c.number_when.ensures
