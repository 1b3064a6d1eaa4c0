use Rattle.lexemes.proofs.Pending.{list_given}
use Rattle.shapes.proofs.CarriedWalks.{uncarried_begin, uncarried_end, uncarried_enter, uncarried_found, uncarried_word}
use Rattle.shapes.proofs.carried.any_uncarried.Goals as goal
use Rattle.shapes.proofs.carried.any_uncarried.Goals.{else-code_at-eq-OPEN-via-then-code_at-eq-OPEN+else-uncarried_start}
use Rattle.shapes.proofs.carried.any_uncarried.Goals.{else-code_at-eq-OPEN-via-else-code_at-eq-OPEN}

pub loop-at-init : goal.loop-at-init
loop-at-init c = search uncarried_begin

pub uncarried_start-requires : goal.uncarried_start-requires
uncarried_start-requires c = search list_given

pub returns-then-uncarried_start : goal.returns-then-uncarried_start
returns-then-uncarried_start c = search uncarried_found

pub loop-at-preserved : goal.loop-at-preserved
loop-at-preserved c =
    elim c.else-code_at-eq-OPEN.branch [
      | else-code_at-eq-OPEN-via-then-code_at-eq-OPEN+else-uncarried_start w ↦ search uncarried_enter
      | else-code_at-eq-OPEN-via-else-code_at-eq-OPEN w ↦ search uncarried_word
    ]

pub returns : goal.returns
returns c = search uncarried_end
