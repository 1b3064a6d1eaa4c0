use mathlib.Core.Path.{refl}
use Rattle.checker.proofs.Judgements.{judged_checked, to_judge}
use Rattle.both_texts.proofs.Reading.{lent}
use Rattle.checker.proofs.judge.judge_in.Goals as goal

pub accept-told-requires : goal.accept-told-requires
accept-told-requires c = record { lent = lent c.response_limits-limits.ensures c.no_names-names.ensures c.no_places-places.ensures c.requires.rooms; shown_value = c.requires.judging.blank }

pub judge_points-found-requires : goal.judge_points-found-requires
judge_points-found-requires c = to_judge c.response_limits-limits.ensures c.requires.judging c.accept-told.ensures

pub returns-then-found-eq-POINTS : goal.returns-then-found-eq-POINTS
returns-then-found-eq-POINTS c = judged_checked c.response_limits-limits.ensures c.requires.judging c.accept-told.ensures c.judge_points-found.ensures (record { bad! = λ n. c.blank_area.ensures; other! = λ other. absurd (other c.if-found-eq-POINTS.true) }) c.accept-told.auto.shown

pub returns-else-found-eq-POINTS : goal.returns-else-found-eq-POINTS
returns-else-found-eq-POINTS c = judged_checked c.response_limits-limits.ensures c.requires.judging c.accept-told.ensures c.judge_points-found.ensures (record { bad! = λ n. absurd (c.if-found-eq-POINTS.false n); other! = λ other. refl }) c.accept-told.auto.shown
