use Rattle.checker.proofs.StepsAnswer.{held_answer, steps_given}
use Rattle.checker.proofs.stepping.list_in.Goals as goal

pub list_held-requires : goal.list_held-requires
list_held-requires c = held_answer c.accept_alone-told.ensures c.answer_held-found.ensures c.requires.area_len

pub returns : goal.returns
returns c = steps_given c.accept_alone-told.ensures c.answer_held-found.ensures c.requires.area_len c.list_held.ensures
