use Rattle.evaluation.proofs.PointLists.{bad_length, bad_number, good_points}
use Rattle.evaluation.proofs.points.points_of.Goals as goal

pub returns-then-cut_short : goal.returns-then-cut_short
returns-then-cut_short c = search bad_length

pub returns-in-Some : goal.returns-in-Some
returns-in-Some c = bad_number _ _ c.cut_short.ensures c.if-cut_short.false c.in-Some.ensures

pub returns-in-None : goal.returns-in-None
returns-in-None c = good_points _ _ c.cut_short.ensures c.if-cut_short.false c.in-None.ensures c.point_count.ensures
