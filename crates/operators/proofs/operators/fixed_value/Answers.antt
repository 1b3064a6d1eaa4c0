use Rattle.std.proofs.Common.{refl}
use Rattle.operators.specs.Operators.{operator_at, operators}
use Rattle.operators.proofs.Applying.{a_cut, a_pair, a_width, a_word, fixed_applied, later_gives, later_operable, two_words}
use Rattle.operators.proofs.operators.fixed_value.Goals as goal

pub bvnot-requires : goal.bvnot-requires
unfolding operator_at operators
bvnot-requires c = search a_word

pub bvneg-requires : goal.bvneg-requires
unfolding operator_at operators
bvneg-requires c = search a_word

pub bvadd-requires : goal.bvadd-requires
unfolding operator_at operators
bvadd-requires c = search a_width

pub bvsub-requires : goal.bvsub-requires
unfolding operator_at operators
bvsub-requires c = search two_words

pub bvmul-requires : goal.bvmul-requires
unfolding operator_at operators
bvmul-requires c = search a_width

pub bvudiv-requires : goal.bvudiv-requires
unfolding operator_at operators
bvudiv-requires c = search a_width

pub bvshl-requires : goal.bvshl-requires
unfolding operator_at operators
bvshl-requires c = search a_width

pub bvlshr-requires : goal.bvlshr-requires
unfolding operator_at operators
bvlshr-requires c = search a_width

pub concat-requires : goal.concat-requires
unfolding operator_at operators
concat-requires c = search a_pair

pub extract-requires : goal.extract-requires
unfolding operator_at operators
extract-requires c = a_cut c.in-22.is c.requires refl

pub later_value-requires : goal.later_value-requires
later_value-requires c = later_operable c.in_default.in_default-own.rest c.requires

pub returns-in-0 : goal.returns-in-0
unfolding operator_at operators
returns-in-0 c = search fixed_applied

pub returns-in-7 : goal.returns-in-7
unfolding operator_at operators
returns-in-7 c = search fixed_applied

pub returns-in-8 : goal.returns-in-8
unfolding operator_at operators
returns-in-8 c = search fixed_applied

pub returns-in-9 : goal.returns-in-9
unfolding operator_at operators
returns-in-9 c = search fixed_applied

pub returns-in-10 : goal.returns-in-10
unfolding operator_at operators
returns-in-10 c = search fixed_applied

pub returns-in-11 : goal.returns-in-11
unfolding operator_at operators
returns-in-11 c = search fixed_applied

pub returns-in-12 : goal.returns-in-12
unfolding operator_at operators
returns-in-12 c = search fixed_applied

pub returns-in-13 : goal.returns-in-13
unfolding operator_at operators
returns-in-13 c = search fixed_applied

pub returns-in-14 : goal.returns-in-14
unfolding operator_at operators
returns-in-14 c = search fixed_applied

pub returns-in-15 : goal.returns-in-15
unfolding operator_at operators
returns-in-15 c = search fixed_applied

pub returns-in-16 : goal.returns-in-16
unfolding operator_at operators
returns-in-16 c = search fixed_applied

pub returns-in-17 : goal.returns-in-17
unfolding operator_at operators
returns-in-17 c = search fixed_applied

pub returns-in-18 : goal.returns-in-18
unfolding operator_at operators
returns-in-18 c = search fixed_applied

pub returns-in-19 : goal.returns-in-19
unfolding operator_at operators
returns-in-19 c = search fixed_applied

pub returns-in-20 : goal.returns-in-20
unfolding operator_at operators
returns-in-20 c = search fixed_applied

pub returns-in-21 : goal.returns-in-21
unfolding operator_at operators
returns-in-21 c = search fixed_applied

pub returns-in-22 : goal.returns-in-22
unfolding operator_at operators
returns-in-22 c = search fixed_applied

pub returns-in_default : goal.returns-in_default
returns-in_default c = λ e. later_gives c.in_default.in_default-own.rest e c.later_value.ensures
