use Rattle.checker.proofs.Sizing.{all_sized, area_other, points_long, text_long}
use Rattle.checker.proofs.sizes.size_answer.Goals as goal

pub returns-then-texts-ne-ACCEPTED : goal.returns-then-texts-ne-ACCEPTED
returns-then-texts-ne-ACCEPTED c = search text_long

pub returns-then-points-gt-POINT_NUMBERS : goal.returns-then-points-gt-POINT_NUMBERS
returns-then-points-gt-POINT_NUMBERS c = search points_long

pub returns-then-area-ne-AREA : goal.returns-then-area-ne-AREA
returns-then-area-ne-AREA c = search area_other

pub returns : goal.returns
returns c = search all_sized
