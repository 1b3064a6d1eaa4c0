use Rattle.operators.specs.Operators.{operator_at, operators}
use Rattle.operators.proofs.Applying.{later_applied, later_past}
use Rattle.operators.proofs.operators.later_value.Goals as goal

pub returns-in-23 : goal.returns-in-23
unfolding operator_at operators
returns-in-23 c = search later_applied

pub returns-in-24 : goal.returns-in-24
unfolding operator_at operators
returns-in-24 c = search later_applied

pub returns-in-25 : goal.returns-in-25
unfolding operator_at operators
returns-in-25 c = search later_applied

pub returns-in-26 : goal.returns-in-26
unfolding operator_at operators
returns-in-26 c = search later_applied

pub returns-in-27 : goal.returns-in-27
unfolding operator_at operators
returns-in-27 c = search later_applied

pub returns-in-28 : goal.returns-in-28
unfolding operator_at operators
returns-in-28 c = search later_applied

pub returns-in-29 : goal.returns-in-29
unfolding operator_at operators
returns-in-29 c = search later_applied

pub returns-in-30 : goal.returns-in-30
unfolding operator_at operators
returns-in-30 c = search later_applied

pub returns-in-31 : goal.returns-in-31
unfolding operator_at operators
returns-in-31 c = search later_applied

pub returns-in-32 : goal.returns-in-32
unfolding operator_at operators
returns-in-32 c = search later_applied

pub returns-in-33 : goal.returns-in-33
unfolding operator_at operators
returns-in-33 c = search later_applied

pub returns-in_default : goal.returns-in_default
returns-in_default c = later_past _ _ _ c.requires.later c.in_default.in_default-own.rest
