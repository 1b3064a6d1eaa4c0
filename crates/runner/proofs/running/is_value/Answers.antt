use Rattle.runner.proofs.Stepping.{no_sort, value_told}
use Rattle.runner.proofs.running.is_value.Goals as goal

pub returns-then-sort-gt-MAX_WIDTH : goal.returns-then-sort-gt-MAX_WIDTH
returns-then-sort-gt-MAX_WIDTH c = no_sort c.args.sort c.args.number c.if-sort-gt-MAX_WIDTH.true

pub returns : goal.returns
returns c = value_told c.args.sort c.args.number c.if-sort-gt-MAX_WIDTH.false c.fits.ensures
