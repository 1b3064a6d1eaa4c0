-- What the parts of the reading of scripts have in common.
use Rattle.std.specs.Prelude.{ℕ, ◌+◌, ◌*◌, ◌≤◌, cond, ◌||◌, List, ◌≡◌, eqb, length}
use Rattle.terms.specs.code.Nodes.{row_width as nodeWidth}
use Rattle.lexemes.specs.code.Codes.{assume_code, check_synth_code, constraint_code, declare_var_code, define_fun_code, set_feature_code, set_logic_code, synth_fun_code}
use Rattle.term_nodes.specs.code.Table.{row_width as rawWidth}
use Rattle.script.specs.Script.{Read, passed, refused}
use Rattle.script.specs.code.Tables.{TablesHold}
use Rattle.script.specs.declared.Progress.{Progress}
use Rattle.script_reader.specs.declared.Step.{Step}

-- What was read: a refusal with its number, its word and the word of its second number; or what is known, which the tables hold.
abbrev pub Reads : Read → (names places nodes forms : List ℕ) → Step → Type 0
Reads (refused number place second) names places nodes forms s = (s.number ≡ number) × (s.place ≡ place) × (s.second ≡ second)
Reads (passed k) names places nodes forms s = (s.number ≡ 0) × TablesHold names places nodes forms s.progress k

-- A row for each word of a text in the table of what is gathered, in that of nodes and in that of forms.
pub record Roomy (raw nodes forms : List ℕ) (nowhere : ℕ) : Type 0 where
  pub raw_room : rawWidth * nowhere ≤ length raw
  pub nodes_room : nodeWidth * nowhere ≤ length nodes
  pub forms_room : nodeWidth * nowhere ≤ length forms

-- The numbers after a command that takes so many rows, by its code.
abbrev pub said_by : Progress → (code rows : ℕ) → Progress
said_by p code rows = record {
  logic = p.logic || eqb code set_logic_code;
  weights = p.weights || eqb code set_feature_code;
  ended = p.ended || eqb code check_synth_code;
  variables = cond (eqb code declare_var_code) (p.variables + 1) p.variables;
  defined = cond (eqb code define_fun_code) (p.defined + 1) p.defined;
  functions = cond (eqb code synth_fun_code) (p.functions + 1) p.functions;
  constraints = cond (eqb code constraint_code) (p.constraints + 1) p.constraints;
  assumptions = cond (eqb code assume_code) (p.assumptions + 1) p.assumptions;
  nodes = cond (eqb code define_fun_code || eqb code constraint_code || eqb code assume_code) (p.nodes + rows) p.nodes;
  forms = cond (eqb code synth_fun_code) (p.forms + rows) p.forms;
}
