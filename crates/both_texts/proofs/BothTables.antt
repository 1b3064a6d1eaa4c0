-- The tables of a script and a response that pass, from what their readers promise.
use Prim.Native.Nat.{ℕ, ◌+◌}
use mathlib.Core.List.{List}
use mathlib.Core.Path.{◌≡◌}
use Rattle.words.specs.declared.Limits.{Limits}
use Rattle.script.specs.Script.{Known}
use Rattle.script.specs.code.Tables.{TablesHold}
use Rattle.script.specs.declared.Progress.{Progress}
use Rattle.script.specs.declared.Verdict.{Verdict}
use Rattle.script.specs.Response.{Body}
use Rattle.script.specs.Outcome.{given, response_within}
use Rattle.texts.specs.code.Responses.{ResponseTold}
use Rattle.outcome.specs.code.Assured.{Assured}
use Rattle.outcome.specs.code.Held.{Held}
use Rattle.outcome.proofs.ResponseFits.{response_fits}

-- They hold what the script says and the bodies that the response gives.
pub held : (limits : Limits) (response : List ℕ) (v : Verdict) {names places nodes forms placesAfter nodesAfter : List ℕ} {p : Progress} {k : Known} {bs : List Body} → Assured k
    → TablesHold names places nodes forms p k → response_within limits k response ≡ given bs → ResponseTold (given bs) k response placesAfter nodesAfter forms p v
    → Held response names placesAfter nodesAfter forms p k bs
held limits response v {p = p} {k = k} script tables gives told =
    record {
      counted = tables.counted;
      names_hold = tables.names_hold;
      rows = p.nodes + v.rows;
      bodies_held = told.1;
      grammars_hold = told.2;
      forms_room = tables.forms_room;
      script = script;
      response = response_fits limits k response gives;
    }
