use mathlib.Core.Bool.{not}
use mathlib.Core.Path.{ap}
use Rattle.evaluation.proofs.Visits.{assumed_front, constraints_runnable, point_long, point_skipped, point_tested}
use Rattle.evaluation.proofs.running.run_point.Goals as goal

pub returns-then-not-all_passed : goal.returns-then-not-all_passed
returns-then-not-all_passed c = λ e.
    let args = c.args in
    let got = c.run_terms-assumed.ensures in
    let passed = c.all_passed.ensures in (
      point_skipped args.visit e args.budget got passed (ap not c.if-not-all_passed.true) c.skipping.ensures,
      (assumed_front args.visit e args.budget got passed).as_long,
    )

pub run_terms-requires : goal.run_terms-requires
run_terms-requires c = constraints_runnable c.args.visit c.requires c.args.budget c.run_terms-assumed.ensures c.all_passed.ensures

pub returns : goal.returns
returns c = λ e.
    let args = c.args in
    let got = c.run_terms-assumed.ensures in
    let passed = c.all_passed.ensures in
    let left = c.left-left.ensures in
    let then = c.run_terms.ensures in (
      point_tested args.visit e args.budget got passed _ left then (ap not c.if-not-all_passed.false),
      point_long args.visit e args.budget got passed _ left then,
    )
