-- What the look-up of the second number of a refusal asks and gives.
use Rattle.std.specs.Prelude.{ℕ, ◌+◌, true, List, ◌≡◌}
use Rattle.forest.specs.Forest.{count}
use Rattle.lexemes.specs.Lists.{Items, inside}
use Rattle.lexemes.specs.code.Codes.{declare_var_code, define_fun_code, synth_fun_code}
use Rattle.lexemes.specs.code.Table.{code_at}
use Rattle.shapes.specs.Shapes.{command_shape}
use Rattle.written_sorts.specs.code.Headers.{HeaderAt}
use Rattle.script.specs.Script.{Known, earlier_place}
use Rattle.script.specs.code.Answers.{name_answer}
use Rattle.script.specs.code.Tables.{CommandAt, Counted}
use Rattle.script.specs.code.Taken.{DefinitionTaken, FunctionTaken, VariableTaken}
use Rattle.script.specs.declared.Command.{Command}
use Rattle.script.specs.declared.Progress.{Progress}
use Rattle.script.specs.declared.Verdict.{Verdict}

-- The table of names has what tells by which name a new name of the command is taken, by the command's code.
pub record TakenBy (code : ℕ) (names : List ℕ) (p : Progress) (k : Known) (c : Items) : Type 0 where
  pub variable : code ≡ declare_var_code → VariableTaken names p k c
  pub definition : code ≡ define_fun_code → DefinitionTaken names p k c
  pub function : code ≡ synth_fun_code → FunctionTaken names p k c

-- A command of its shape stands at word i, and the table of names has what tells by which name a new name of it is taken.
pub record Refused (lexemes names : List ℕ) (p : Progress) (i nowhere : ℕ) : Type 0 where
  pub text : List ℕ
  pub here : CommandAt text lexemes i nowhere
  pub shaped : command_shape here.command ≡ true
  pub known : Known
  pub counted : Counted p known
  pub taken : TakenBy (code_at lexemes (i + 1)) names p known here.command

-- The place of the earlier declaration is found.
abbrev pub FindsTaken : (lexemes names : List ℕ) → Command → (place r : ℕ) → Type 0
FindsTaken lexemes names c place r =
    (t : Refused lexemes names c.progress c.at c.nowhere) → r ≡ earlier_place t.known t.here.command place

-- The second number of a verdict is found.
pub record FindsSecond (lexemes names : List ℕ) (c : Command) (v : Verdict) (r : ℕ) : Type 0 where
  pub none : (v.number ≡ name_answer → ⊥) → r ≡ 0
  pub taken : v.number ≡ name_answer → FindsTaken lexemes names c v.place r

-- The arguments are counted.
abbrev pub CountsArguments : (lexemes : List ℕ) → (i r : ℕ) → Type 0
CountsArguments lexemes i r = (p : HeaderAt lexemes i) → r ≡ count (inside 2 p.here.operands)
