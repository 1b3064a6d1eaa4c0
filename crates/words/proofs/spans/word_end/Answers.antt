use borrow.Author.Rules.{rules}
use native.Mathlib.Omega.{arith}
use mathlib.Core.Path.{◌≡◌, ◌∙◌}
use lib.ListN.{length}
use Rattle.words.proofs.Offsets.{bracket_ends, run_ends, run_goes, run_stops}
use Rattle.words.proofs.spans.word_end.Goals as goal

pub returns-then-is_bracket : goal.returns-then-is_bracket
returns-then-is_bracket c = search bracket_ends

pub returns-then-ends_run : goal.returns-then-ends_run
returns-then-ends_run c = search run_stops

pub loop-i-preserved : goal.loop-i-preserved
loop-i-preserved c = (search run_goes, search rules)

pub returns : goal.returns
returns c =
    let last : length c.args.text.now ≡ c.loop-i.i = omega arith in
    last ∙ run_ends _ _ _ c.loop-i.invariant.0 c.loop-i.invariant.1 c.loop-i-test.false
