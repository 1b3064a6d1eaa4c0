use Rattle.grammars.proofs.Groups.{group_least, listed_rules}
use Rattle.lexemes.proofs.Listed.{item_room}
use native.Mathlib.Omega.{arith}
use Rattle.grammars.proofs.listed.group_misfit.Goals as goal

pub overflow_add-group : goal.overflow_add-group
overflow_add-group c = omega (arith, item_room c.requires.here)

pub rules_misfit-requires : goal.rules_misfit-requires
rules_misfit-requires c = search listed_rules

pub returns : goal.returns
returns c = search group_least
