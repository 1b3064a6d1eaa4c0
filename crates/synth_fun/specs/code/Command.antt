-- What the command `synth-fun` promises.
use Rattle.std.specs.Prelude.{ℕ, List}
use Rattle.script.specs.declared.Command.{Command}
use Rattle.script.specs.declared.Verdict.{Verdict}
use Rattle.synth_fun.specs.code.Synthesizing.{Synthesizing, Synthesized}

-- The same, for whatever the tables hold.
abbrev pub Synthesizes : (text lexemes names raw places forms : List ℕ) → Command → (namesAfter rawAfter placesAfter formsAfter : List ℕ) → Verdict → Type 0
Synthesizes text lexemes names raw places forms c namesAfter rawAfter placesAfter formsAfter v =
    (d : Synthesizing text lexemes names raw places forms c.progress c.at c.nowhere) → Synthesized d namesAfter rawAfter placesAfter formsAfter v
