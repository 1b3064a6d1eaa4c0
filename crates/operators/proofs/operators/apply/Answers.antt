use Rattle.std.proofs.Common.{rules}
use Rattle.operators.specs.Values.{and_value, or_value, xor_value}
use Rattle.operators.specs.Operators.{operator_at, operators}
use Rattle.operators.proofs.Applying.{applied, fixed_gives, fixed_operable}
use Rattle.operators.proofs.operators.apply.Goals as goal

pub fixed_value-requires : goal.fixed_value-requires
fixed_value-requires c =
    fixed_operable c.in_default.in_default-own.rest c.operand.ensures c.operand-in_default.ensures c.operand-in_default-2.ensures
    c.requires

pub returns-in-1 : goal.returns-in-1
unfolding operator_at operators
returns-in-1 c =
    let e = c.group_left.ensures and_value (λ a b r p. search rules) in
    search applied

pub returns-in-2 : goal.returns-in-2
unfolding operator_at operators
returns-in-2 c =
    let e = c.group_left-in-2.ensures or_value (λ a b r p. search rules) in
    search applied

pub returns-in-3 : goal.returns-in-3
unfolding operator_at operators
returns-in-3 c =
    let e = c.group_left-in-3.ensures xor_value (λ a b r p. search rules) in
    search applied

pub returns-in-4 : goal.returns-in-4
unfolding operator_at operators
returns-in-4 c = search applied

pub returns-in-5 : goal.returns-in-5
unfolding operator_at operators
returns-in-5 c = search applied

pub returns-in-6 : goal.returns-in-6
unfolding operator_at operators
returns-in-6 c = search applied

pub returns-in_default : goal.returns-in_default
returns-in_default c =
    fixed_gives c.in_default.in_default-own.rest c.operand.ensures c.operand-in_default.ensures
    c.operand-in_default-2.ensures c.fixed_value.ensures
