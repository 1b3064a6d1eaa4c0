use native.Mathlib.Omega.{arith}
use mathlib.Core.Bool.{true, false}
use Rattle.script_reader.proofs.CommandWords.{word_fits}
use Rattle.script_reader.proofs.TestedByCode.{declared, declaring, defined, defining, others, stated, stating, synthesized, synthesizing}
use Rattle.script_reader.proofs.command.test_command.Goals as goal

pub overflow_add-command : goal.overflow_add-command
overflow_add-command c = omega (arith, word_fits c.requires.commanded.here)

pub declare_var-requires : goal.declare_var-requires
declare_var-requires c = declaring c.code_at-code.ensures c.requires c.in-12.is

pub define_fun-requires : goal.define_fun-requires
define_fun-requires c = defining c.code_at-code.ensures c.requires c.in-13.is

pub synth_fun-requires : goal.synth_fun-requires
synth_fun-requires c = synthesizing c.code_at-code.ensures c.requires c.in-14.is

pub state-requires : goal.state-requires
state-requires c = stating c.code_at-code.ensures c.requires false c.in-15.is

pub state-requires-in-17 : goal.state-requires-in-17
state-requires-in-17 c = stating c.code_at-code.ensures c.requires true c.in-17.is

pub returns-in-12 : goal.returns-in-12
returns-in-12 c =
    let coded = c.code_at-code.ensures in
    λ s. declared coded s c.in-12.is (c.declare_var.ensures (declaring coded s c.in-12.is))

pub returns-in-13 : goal.returns-in-13
returns-in-13 c =
    let coded = c.code_at-code.ensures in
    λ s. defined coded s c.in-13.is (c.define_fun.ensures (defining coded s c.in-13.is))

pub returns-in-14 : goal.returns-in-14
returns-in-14 c =
    let coded = c.code_at-code.ensures in
    λ s. synthesized coded s c.in-14.is (c.synth_fun.ensures (synthesizing coded s c.in-14.is))

pub returns-in-15 : goal.returns-in-15
returns-in-15 c =
    let coded = c.code_at-code.ensures in
    λ s. stated coded s false c.in-15.is (c.state.ensures (stating coded s false c.in-15.is))

pub returns-in-17 : goal.returns-in-17
returns-in-17 c =
    let coded = c.code_at-code.ensures in
    λ s. stated coded s true c.in-17.is (c.state-in-17.ensures (stating coded s true c.in-17.is))

pub returns-in_default : goal.returns-in_default
returns-in_default c =
    λ s. let n = c.in_default.in_default-own.rest in
    others c.code_at-code.ensures s n.0.0.0.0.1 n.0.0.0.1 n.0.0.1 n.0.1 n.1 c.verdict.ensures
