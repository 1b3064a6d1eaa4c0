-- What is known after a `synth-fun`: one function more.
use Prim.Native.Nat.{ℕ}
use mathlib.Core.Bool.{◌||◌}
use mathlib.Core.Path.{◌≡◌}
use mathlib.Core.List.{List, ◌∷◌}
use lib.ListN.{length}
use Rattle.words.specs.Trees.{word_of}
use Rattle.lexemes.specs.Lists.{Items, inside, is, item, name_of}
use Rattle.written_sorts.specs.Written.{sort_of}
use Rattle.names.specs.Scopes.{Function}
use Rattle.names.specs.New.{named_by}
use Rattle.grammars.specs.Grammars.{grammar_in}
use Rattle.script.specs.Script.{Known, arguments_of, known_after, view_of}
use Rattle.script.specs.code.Tables.{After, CommandOf}
use Rattle.script.specs.declared.Progress.{Progress}
use Rattle.synth_fun.proofs.SynthFunParts.{synth_chosen}

-- The function that a `synth-fun` says.
abbrev pub function_of : Known → Items → Function
function_of k c = record {
  name = name_of (item 1 c);
  at = word_of (item 1 c);
  arguments = arguments_of c;
  result = sort_of (item 3 c) (inside 3 c);
  non_terminals = named_by (inside 4 c);
  grammar = grammar_in (view_of k c) c;
  before = length k.defined;
}

-- What is known with it.
abbrev pub with_function : Known → Items → Known
with_function k c = record {
  logic = k.logic || is "set-logic" (item 0 c);
  weights = k.weights || is "set-feature" (item 0 c);
  ended = k.ended || is "check-synth" (item 0 c);
  variables = k.variables;
  defined = k.defined;
  functions = function_of k c ∷ k.functions;
  constraints = k.constraints;
  assumptions = k.assumptions;
}

-- That is what is known after the command.
pub after_is : {text lexemes : List ℕ} {p : Progress} {i nowhere : ℕ} (of : CommandOf "synth-fun" text lexemes p i nowhere)
    → After of ≡ with_function of.known of.here.command
unfolding known_after
after_is of = let t = synth_chosen of in rw (t.declares, t.defines, t.synthesizes, t.constrains, t.assumes)
