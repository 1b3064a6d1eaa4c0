-- What the functions that write a list of steps ask and give.
use Rattle.std.specs.Prelude.{ℕ, ◌+◌, ◌*◌, ◌≤◌, Bool, cond, false, List, [], ◌∷◌, ◌++◌, ◌≡◌, eqb, length}
use Rattle.std.proofs.lemmas.List.Edits.{sets}
use Rattle.forest.specs.Forest.{join}
use Rattle.forest.specs.code.Cursors.{from, size}
use Rattle.operators.specs.code.Operators.{extract_number}
use Rattle.terms.specs.Labels.{Terms}
use Rattle.terms.specs.code.Codes.{head_of, high_in, kind_of, literal_kind, low_in, name_kind}
use Rattle.terms.specs.code.Nodes.{AllPlain, node_table}
use Rattle.steps.specs.Steps.{apply_operator, push_argument, push_constant, steps_of, uses_defined}
use Rattle.steps.specs.declared.Step.{Step}

-- How many numbers a step has.
abbrev pub step_width : ℕ
step_width = 4

-- A step by its four numbers.
abbrev pub step : (first second third fourth : ℕ) → Step
step first second third fourth = record { first = first; second = second; third = third; fourth = fourth }

-- The four numbers of a step.
abbrev pub numbers_of : Step → List ℕ
numbers_of s = s.first ∷ s.second ∷ s.third ∷ s.fourth ∷ []

-- The step of a node, by its label's two numbers and how many operands it has.
abbrev pub step_by : (code value operands : ℕ) → Step
step_by code value operands =
    cond (eqb (kind_of code) literal_kind) (step push_constant value (head_of code) 0)
    (cond (eqb (kind_of code) name_kind) (step push_argument value 0 0)
    (cond (eqb (head_of code) extract_number) (step apply_operator (head_of code) (high_in value) (low_in value))
    (step apply_operator (head_of code) operands 0)))

-- Terms stand in a node table from node `start` up to node `stop`.
pub record TermsStand (nodes : List ℕ) (start stop : ℕ) : Type 0 where
  pub all : Terms
  pub behind : List ℕ
  pub nodes_are : nodes ≡ node_table all ++ behind
  pub terms : Terms
  pub rest : Terms
  pub at : from all start ≡ join terms rest
  pub ends : stop ≡ start + size terms

-- Whether they apply a function of the script.
abbrev pub UsesTold : (nodes : List ℕ) (start stop : ℕ) (r : Bool) → Type 0
UsesTold nodes start stop r = (e : TermsStand nodes start stop) → r ≡ uses_defined e.terms

-- They apply none, their labels are told by their numbers, and an area has room for their steps from step `at` on.
pub record Listable (nodes area : List ℕ) (start stop at : ℕ) : Type 0 where
  pub stand : TermsStand nodes start stop
  pub plain : AllPlain stand.all
  pub none_used : uses_defined stand.terms ≡ false
  pub room : step_width * (at + size stand.terms) ≤ length area

-- Their steps are written from step `at` on, as many as they have nodes, and nothing else is changed.
pub record Written (terms : Terms) (area after : List ℕ) (at past : ℕ) : Type 0 where
  pub area_is : after ≡ sets area (step_width * at) (steps_of terms)
  pub past_is : past ≡ at + size terms

-- What writing them gives.
abbrev pub Listed : (nodes area after : List ℕ) (start stop at past : ℕ) → Type 0
Listed nodes area after start stop at past = (e : Listable nodes area start stop at) → Written e.stand.terms area after at past
