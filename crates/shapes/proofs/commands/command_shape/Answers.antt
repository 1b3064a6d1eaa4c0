use lib.Dec.{eqb}
use Prim.Native.Nat.{ℕ}
use mathlib.Core.Path.{◌∙◌, ap}
use Rattle.shapes.proofs.Choosing.{constraint_or_assume, named_command, no_command}
use Rattle.lexemes.proofs.Listed.{list_room}
use native.Mathlib.Omega.{arith}
use borrow.Author.Rules.{rules}
use Rattle.shapes.proofs.commands.command_shape.Goals as goal

pub overflow_add-at : goal.overflow_add-at
overflow_add-at c = omega (arith, list_room c.requires)

pub returns-in-11 : goal.returns-in-11
returns-in-11 c = λ here. c.set_logic_shape.ensures here ∙ named_command c.code_at-command.ensures c.in-11.is here

pub returns-in-12 : goal.returns-in-12
returns-in-12 c =
    λ here. c.declare_var_shape.ensures here ∙ named_command c.code_at-command.ensures c.in-12.is
    here

pub returns-in-13 : goal.returns-in-13
returns-in-13 c = λ here. c.define_fun_shape.ensures here ∙ named_command c.code_at-command.ensures c.in-13.is here

pub returns-in-14 : goal.returns-in-14
returns-in-14 c = λ here. c.synth_fun_shape.ensures here ∙ named_command c.code_at-command.ensures c.in-14.is here

pub returns-in-15 : goal.returns-in-15
returns-in-15 c = λ here. c.constraint_shape.ensures here ∙ constraint_or_assume c.code_at-command.ensures c.in-15.is here

pub returns-in-16 : goal.returns-in-16
returns-in-16 c =
    λ here. ap (λ (n : ℕ). eqb n 1) (c.count_in.ensures here) ∙ named_command c.code_at-command.ensures
    c.in-16.is here

pub returns-in-18 : goal.returns-in-18
returns-in-18 c = λ here. c.set_feature_shape.ensures here ∙ named_command c.code_at-command.ensures c.in-18.is here

pub returns-in_default : goal.returns-in_default
returns-in_default c =
    no_command c.code_at-command.ensures (λ e. omega arith) (λ e. omega arith) (λ e. omega arith) (λ e. omega arith) (search rules)
    (λ e. omega arith)
    (λ e. omega arith)
