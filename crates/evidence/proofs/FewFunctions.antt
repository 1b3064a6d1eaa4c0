-- A script that passes has at most eight functions.
use Prim.Native.Nat.{ℕ, ◌≤◌, ◌<◌, min}
use native.Mathlib.Omega.{arith}
use mathlib.Core.Bool.{Bool, true, false, cond}
use mathlib.Core.List.{List}
use mathlib.Core.Path.{◌≡◌, refl}
use lib.Dec.{ltb}
use lib.ListN.{length}
use borrow.Author.Tests.{ltb-true}
use Rattle.forest.specs.Limits.{allowed, most_functions}
use Rattle.lexemes.specs.Lists.{Items}
use Rattle.script.specs.Limits.{command_past}
use Rattle.script.specs.Script.{Known, known_after, limit_place}
use Rattle.script.specs.Outcome.{said, script_outcome}
use Rattle.script.proofs.Keeping.{script_keeps}
use Rattle.outcome.proofs.OneCommand.{Command, Tests, another, assuming, command, constraining, declaring, defining, synthesizing}

-- What is known has at most eight functions.
abbrev Few : Known → Type 0
Few k = length k.functions ≤ most_functions

-- Where a command is not past its limit, there are fewer of its kind before it.
fewer : (nowhere most before at others : ℕ) → at < nowhere → nowhere ≤ min (command_past nowhere most before at) others → before < most
fewer nowhere most before at others ahead h = go (ltb before most) refl h
  where
    go : (b : Bool) → ltb before most ≡ b → nowhere ≤ min (cond b nowhere at) others → before < most
    go true e h = ltb-true before most e
    go false e h = absurd (omega arith)

-- Every command within its limits leaves at most eight.
module _ {nowhere : ℕ} (k : Known) (at : ℕ) (c : Items) (ahead : at < nowhere) (limited : nowhere ≤ limit_place allowed nowhere k at c) (few : Few k) where
  -- After a `synth-fun`.
  after_function : Tests c false false true false false → Few (known_after k c)
  unfolding known_after limit_place
  after_function t =
      let fits = rw (t.declares, t.defines, t.synthesizes) at limited in
      let before = fewer nowhere most_functions (length k.functions) at _ ahead fits in
      rw t.synthesizes (omega arith)

  -- After another command.
  after_other : {declared defined constrained assumed : Bool} → Tests c declared defined false constrained assumed → Few (known_after k c)
  unfolding known_after
  after_other t = rw t.synthesizes few

  -- After any command.
  after_command : Command c → Few (known_after k c)
  after_command (declaring t) = after_other t
  after_command (synthesizing t) = after_function t
  after_command (defining t) = after_other t
  after_command (constraining t) = after_other t
  after_command (assuming t) = after_other t
  after_command (another t) = after_other t

-- "8 synthesized functions": a script that passes has no more.
pub functions_few : (text : List ℕ) {k : Known} → script_outcome text ≡ said k → length k.functions ≤ most_functions
functions_few text e =
    script_keeps Few (λ nowhere k at c ahead below limited sorted ruled few. after_command k at c ahead limited few (command c)) text e (omega arith)
