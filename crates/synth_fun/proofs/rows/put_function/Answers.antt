use Rattle.synth_fun.proofs.FunctionPut.{put_done}
use Rattle.synth_fun.proofs.rows.put_function.Goals as goal

pub returns : goal.returns
returns c =
    put_done c.put_signature.ensures c.put_numbers.ensures
