-- The tables of a script and a response that pass.
use Rattle.std.specs.Prelude.{ℕ, ◌*◌, ◌≤◌, List, drop, length}
use Rattle.terms.specs.code.Nodes.{row_width}
use Rattle.script.specs.Script.{Known}
use Rattle.script.specs.code.Tables.{Counted, GrammarsHold, NamesHold}
use Rattle.script.specs.code.Places.{functions_place}
use Rattle.script.specs.declared.Progress.{Progress}
use Rattle.script.specs.Response.{Body, in_script_order}
use Rattle.response.specs.code.Answers.{BodiesHeld}
use Rattle.outcome.specs.code.Assured.{Assured, BodiesFit}

-- The tables hold what the script says and the bodies that the response, which is this text, gives.
pub record Held (text names places nodes forms : List ℕ) (p : Progress) (k : Known) (bs : List Body) : Type 0 where
  pub counted : Counted p k
  pub names_hold : NamesHold names k
  pub rows : ℕ
  pub bodies_held : BodiesHeld text places nodes rows k bs
  pub grammars_hold : GrammarsHold (drop functions_place places) forms p.forms k.functions
  pub forms_room : row_width * p.forms ≤ length forms
  pub script : Assured k
  pub response : BodiesFit k.defined (in_script_order k.functions) bs
