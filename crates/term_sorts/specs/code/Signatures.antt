-- What a form may name as a table: for each `define-fun`, synthesized function and non-terminal how many arguments it has, its sort, and the sorts of its
-- arguments.
use Rattle.std.specs.Prelude.{ℕ, ◌+◌, ◌≤◌, ◌<◌, List, [], ◌∷◌, ◌++◌, ◌≡◌, get_or, length}
use Rattle.forest.specs.Forest.{Forest, none, tree}
use Rattle.forest.specs.Limits.{most_arguments, most_defined, most_functions, most_non_terminals}
use Rattle.forest.specs.code.Rows.{number_at}
use Rattle.operators.specs.Sorts.{Fit, max_width}
use Rattle.derivation.specs.Derivation.{Item, any_argument, any_literal, non_terminal, the}
use Rattle.derivation.specs.code.Tables.{form_table}
use Rattle.terms.specs.Labels.{defined, function, literal, name, operator}
use Rattle.terms.specs.Sorts.{Signature}
use Rattle.term_sorts.specs.Forms.{FormScope}

-- How many numbers a row has.
abbrev pub signature_width : ℕ
signature_width = 2 + most_arguments

-- The row of the first synthesized function, behind those of `define-fun`s.
abbrev pub function_signature : ℕ
function_signature = most_defined

-- The row of the first non-terminal, behind those of synthesized functions.
abbrev pub non_terminal_signature : ℕ
non_terminal_signature = function_signature + most_functions

-- How many rows there are.
abbrev pub all_rows : ℕ
all_rows = non_terminal_signature + most_non_terminals

-- Row r is that of a signature.
pub record RowIs (signatures : List ℕ) (r : ℕ) (f : Signature) : Type 0 where
  pub counted : number_at signature_width signatures r 0 ≡ length f.arguments
  pub result_is : number_at signature_width signatures r 1 ≡ f.result
  pub arguments_are : (k : ℕ) → k < length f.arguments → number_at signature_width signatures r (2 + k) ≡ get_or f.arguments k 0
  pub few : length f.arguments ≤ most_arguments
  pub sort : f.result ≤ max_width

-- Functions, the last first, have the rows from `base` on.
unfoldable pub RowsAre : (signatures : List ℕ) → (base : ℕ) → List Signature → Type 0
RowsAre signatures base [] = Unit {0}
RowsAre signatures base (f ∷ earlier) = RowIs signatures (base + length earlier) f × RowsAre signatures base earlier

-- Non-terminals, in their order, have the rows from r on, each as a function without arguments.
unfoldable pub SortsAre : (signatures : List ℕ) → (r : ℕ) → List ℕ → Type 0
SortsAre signatures r [] = Unit {0}
SortsAre signatures r (s ∷ more) = RowIs signatures r (record { arguments = []; result = s }) × SortsAre signatures (r + 1) more

-- A literal's value is one of its sort, the numbers of `extract` are below 64, and a name, a function or a non-terminal is one of those in scope, a name of its
-- sort: the reader makes no others.
abbrev pub Real : FormScope → Item → Type 0
Real scope (the (literal s v)) = Fit s v
Real scope (the (name s k)) = (k < length scope.terms.names) × (get_or scope.terms.names k 0 ≡ s)
Real scope (the (operator o i j)) = j < max_width
Real scope (the (defined k)) = k < length scope.terms.defined
Real scope (the (function k)) = k < length scope.terms.functions
Real scope (non_terminal A) = A < length scope.non_terminals
Real scope (any_literal s) = Unit {0}
Real scope (any_argument s) = Unit {0}

-- A fact holds of every node.
unfoldable pub Every : {A : Type 0} → (A → Type 0) → Forest A → Type 0
Every holds none = Unit {0}
Every holds (tree i ops rest) = holds i × Every holds ops × Every holds rest

-- Every node is one that the reader makes.
abbrev pub AllReal : FormScope → Forest Item → Type 0
AllReal scope F = Every (Real scope) F

-- The sort of a name, of `(Constant σ)` and of `(Variable σ)` is at most 64 wide.
abbrev pub Narrow : Item → Type 0
Narrow (the (literal s v)) = Unit {0}
Narrow (the (name s k)) = s ≤ max_width
Narrow (the (operator o i j)) = Unit {0}
Narrow (the (defined k)) = Unit {0}
Narrow (the (function k)) = Unit {0}
Narrow (non_terminal A) = Unit {0}
Narrow (any_literal s) = s ≤ max_width
Narrow (any_argument s) = s ≤ max_width

-- The tables hold the forms F and what they may name.
pub record Sortable (forms signatures : List ℕ) : Type 0 where
  pub F : Forest Item
  pub scope : FormScope
  pub rest : List ℕ
  pub is_forms : forms ≡ form_table F ++ rest
  pub real : AllReal scope F
  pub narrow : Every Narrow F
  pub defined_are : RowsAre signatures 0 scope.terms.defined
  pub functions_are : RowsAre signatures function_signature scope.terms.functions
  pub non_terminals_are : SortsAre signatures non_terminal_signature scope.non_terminals
  pub few_defined : length scope.terms.defined ≤ most_defined
  pub few_functions : length scope.terms.functions ≤ most_functions
  pub few_non_terminals : length scope.non_terminals ≤ most_non_terminals
