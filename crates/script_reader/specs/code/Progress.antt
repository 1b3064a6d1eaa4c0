-- What a command says, in numbers.
use Rattle.std.specs.Prelude.{ℕ, ◌≤◌, Bool, ◌&&◌, ◌||◌, not, ◌≡◌, eqb}
use Rattle.lexemes.specs.code.Codes.{check_synth_code, set_feature_code, set_logic_code}
use Rattle.forest.specs.Limits.{most_assumptions, most_constraints, most_defined, most_functions, most_variables, script_words}
use Rattle.script.specs.declared.Progress.{Progress}
use Rattle.script.specs.declared.Verdict.{Verdict}
use Rattle.script_reader.specs.declared.Step.{Step}
use Rattle.script_reader.specs.code.Commands.{said_by}

-- Whether the logic line, and no other command, has been read, by the numbers.
abbrev pub after_logic_by : Progress → Bool
after_logic_by p =
    not p.weights
    && eqb p.variables 0
    && eqb p.defined 0
    && eqb p.functions 0
    && eqb p.constraints 0
    && eqb p.assumptions 0

-- Whether a command is out of place, by the numbers and by its code.
abbrev pub out_of_place_by : Progress → (code : ℕ) → Bool
out_of_place_by p code =
    p.ended
    || not p.logic && not (eqb code set_logic_code)
    || p.logic && eqb code set_logic_code
    || eqb code check_synth_code && eqb p.functions 0
    || eqb code set_feature_code && not (after_logic_by p)

-- The numbers are within their bounds.
pub record Few (p : Progress) : Type 0 where
  pub variables : p.variables ≤ most_variables
  pub defined : p.defined ≤ most_defined
  pub functions : p.functions ≤ most_functions
  pub constraints : p.constraints ≤ most_constraints
  pub assumptions : p.assumptions ≤ most_assumptions
  pub nodes : p.nodes ≤ script_words
  pub forms : p.forms ≤ script_words

-- The step is that of the verdict and the word of its second number.
pub record Stepped (p : Progress) (code : ℕ) (v : Verdict) (second : ℕ) (s : Step) : Type 0 where
  pub number_is : s.number ≡ v.number
  pub place_is : s.place ≡ v.place
  pub second_is : s.second ≡ second
  pub progress_is : v.number ≡ 0 → s.progress ≡ said_by p code v.rows
