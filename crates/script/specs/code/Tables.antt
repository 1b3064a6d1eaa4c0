-- What is known after each command as tables: the table of names; a table of places; the nodes of bodies, constraints and assumptions; and the forms of rules.
-- The table of places has the signatures in front, then where each body, constraint and assumption begins, four numbers for each synthesized function, and its
-- rules.
use Rattle.std.specs.Prelude.{ℕ, ◌+◌, ◌*◌, ◌≤◌, true, List, [], ◌∷◌, ◌++◌, map, ◌≡◌, drop, get_or, length, take}
use Prim.Native.String.{String}
use Rattle.forest.specs.Forest.{tree}
use Rattle.forest.specs.code.Cursors.{size}
use Rattle.words.specs.Trees.{list}
use Rattle.lexemes.specs.Lists.{Items, is, item}
use Rattle.shapes.specs.Shapes.{command_shape}
use Rattle.forest.specs.Limits.{allowed, first_assumption, most_arguments, most_assumptions, most_constraints, most_defined, most_functions, most_rules, most_variables}
use Rattle.forest.specs.Limits.{script_words}
use Rattle.lexemes.specs.code.Standing.{Stands as Standing}
use Rattle.term_faults.specs.code.Bodies.{Lawful}
use Rattle.terms.specs.Labels.{Terms}
use Rattle.terms.specs.code.Nodes.{AllPlain, node_table, row_width as nodeWidth}
use Rattle.terms.specs.Sorts.{Signature}
use Rattle.evaluation.specs.code.Tables.{BodiesAt, TermStands}
use Rattle.derivation.specs.code.Rules.{rule_width}
use Rattle.derivation.specs.code.Tables.{form_table, right_sides, rule_table}
use Rattle.term_sorts.specs.code.Signatures.{RowsAre, function_signature}
use Rattle.names.specs.Scopes.{Defined, Function, defined_names, function_names, in_order, names_of, signature_of, named_sorts}
use Rattle.names.specs.Earlier.{Declared, declared_defined, declared_functions, declared_names}
use Rattle.names.specs.code.Lookup.{Names, source_of}
use Rattle.names.specs.code.Table.{declared_from, defined_row, function_row, names_from, own_argument_row, sorts_from, variable_row}
use Rattle.script.specs.Script.{Known, Read, known_after, passed, refused, tested, definitions_of}
use Rattle.script.specs.declared.Progress.{Progress}
use Rattle.script.specs.declared.Verdict.{Verdict}
use Rattle.script.specs.code.Places.{bodies_place, constraints_place, function_width, functions_place, places_length, rules_place}

-- The numbers of each kind are those of what is known, and within the limits.
pub record Counted (p : Progress) (k : Known) : Type 0 where
  pub logic_is : p.logic ≡ k.logic
  pub weights_is : p.weights ≡ k.weights
  pub ended_is : p.ended ≡ k.ended
  pub variables_are : p.variables ≡ length k.variables
  pub defined_are : p.defined ≡ length k.defined
  pub functions_are : p.functions ≡ length k.functions
  pub constraints_are : p.constraints ≡ length k.constraints
  pub assumptions_are : p.assumptions ≡ length k.assumptions
  pub few_variables : p.variables ≤ most_variables
  pub few_defined : p.defined ≤ most_defined
  pub few_functions : p.functions ≤ most_functions
  pub few_constraints : p.constraints ≤ most_constraints
  pub few_assumptions : p.assumptions ≤ most_assumptions

-- The arguments of functions, the last first, stand in their own rows.
unfoldable pub ArgumentsHold : (names : List ℕ) → List Function → Type 0
ArgumentsHold names [] = Unit {0}
ArgumentsHold names (f ∷ earlier) =
    (names_from names (own_argument_row (length earlier)) (length f.arguments) ≡ names_of f.arguments)
    × (sorts_from names (own_argument_row (length earlier)) (length f.arguments) ≡ named_sorts f.arguments)
    × (length f.arguments ≤ most_arguments)
    × ArgumentsHold names earlier

-- Declared names that stand the last first, in script order.
unfoldable pub declared_in_order : List Declared → List Declared
declared_in_order [] = []
declared_in_order (d ∷ earlier) = declared_in_order earlier ++ d ∷ []

-- The table of names has the names that are known with the places of their declarations.
pub record PlacedNames (names : List ℕ) (k : Known) : Type 0 where
  pub variables_are : declared_from names variable_row (length k.variables) ≡ declared_names k.variables
  pub defined_are : declared_from names defined_row (length k.defined) ≡ declared_in_order (declared_defined k.defined)
  pub functions_are : declared_from names function_row (length k.functions) ≡ declared_in_order (declared_functions k.functions)

-- The table of names has the names that are known.
pub record NamesHold (names : List ℕ) (k : Known) : Type 0 where
  pub table : Names names
  pub variables_are : names_from names variable_row (length k.variables) ≡ names_of k.variables
  pub variable-sorts : sorts_from names variable_row (length k.variables) ≡ named_sorts k.variables
  pub defined_are : names_from names defined_row (length k.defined) ≡ in_order (defined_names k.defined)
  pub functions_are : names_from names function_row (length k.functions) ≡ in_order (function_names k.functions)
  pub arguments_are : ArgumentsHold names k.functions
  pub placed : PlacedNames names k

-- Their signatures.
abbrev pub defined_signatures : List Defined → List Signature
defined_signatures ds = map (λ (d : Defined). d.definition.signature) ds

-- Terms, from number m on, begin at the nodes that the table has for constraints and assumptions.
unfoldable pub StatedAt : (all : Terms) → (places : List ℕ) → (m : ℕ) → List Terms → Type 0
StatedAt all places m [] = Unit {0}
StatedAt all places m (t ∷ more) = TermStands all (get_or places (constraints_place + m) 0) t × StatedAt all places (m + 1) more

-- The tables have the signatures, the bodies, the constraints and the assumptions that are known, in so many rows of nodes.
pub record PlacesHold (places nodes : List ℕ) (rows : ℕ) (k : Known) : Type 0 where
  pub long : length places ≡ places_length
  pub defined_rows : RowsAre places 0 (defined_signatures k.defined)
  pub function_rows : RowsAre places function_signature (map signature_of k.functions)
  pub all : Terms
  pub rest : List ℕ
  pub nodes_are : nodes ≡ node_table all ++ rest
  pub rows_are : rows ≡ size all
  pub plain : AllPlain all
  pub bodies_at : BodiesAt all (drop bodies_place places) 0 (definitions_of k.defined)
  pub constraints_at : StatedAt all places 0 k.constraints
  pub assumptions_at : StatedAt all places first_assumption k.assumptions

-- The numbers of function j, in the part of the table of places that begins with those of functions, and its rules and forms, in the first `rows` rows: where
-- its forms begin, how many rows they take, how many rules there are, and how many `define-fun`s stand before it.
pub record GrammarHeld (numbers forms : List ℕ) (rows : ℕ) (j : ℕ) (f : Function) : Type 0 where
  pub rules_are : get_or numbers (function_width * j + 2) 0 ≡ length f.grammar.rules
  pub few_rules : length f.grammar.rules ≤ most_rules
  pub before_is : get_or numbers (function_width * j + 3) 0 ≡ f.before
  pub table_is : take (rule_width * length f.grammar.rules) (drop (rules_place j) numbers) ≡ rule_table 0 f.grammar.rules
  pub forms_are : take (nodeWidth * get_or numbers (function_width * j + 1) 0) (drop (nodeWidth * get_or numbers (function_width * j) 0) forms) ≡ form_table (right_sides f.grammar.rules)
  pub within : get_or numbers (function_width * j) 0 + get_or numbers (function_width * j + 1) 0 ≤ rows
  pub sized : get_or numbers (function_width * j + 1) 0 ≡ size (right_sides f.grammar.rules)

-- The same of every function, the last first.
unfoldable pub GrammarsHold : (numbers forms : List ℕ) → (rows : ℕ) → List Function → Type 0
GrammarsHold numbers forms rows [] = Unit {0}
GrammarsHold numbers forms rows (f ∷ earlier) = GrammarHeld numbers forms rows (length earlier) f × GrammarsHold numbers forms rows earlier

-- All tables hold what is known.
pub record TablesHold (names places nodes forms : List ℕ) (p : Progress) (k : Known) : Type 0 where
  pub counted : Counted p k
  pub names_hold : NamesHold names k
  pub places_hold : PlacesHold places nodes p.nodes k
  pub grammars_hold : GrammarsHold (drop functions_place places) forms p.forms k.functions
  pub forms_room : nodeWidth * p.forms ≤ length forms

-- A verdict is what a test finds, but for the second number, which is looked up where a command is refused.
abbrev pub Says : Verdict → Read → Type 0
Says v (refused number place second) = (v.number ≡ number) × (v.place ≡ place)
Says v (passed k) = v.number ≡ 0

-- A command stands at word i of a lawful text of so many words, no more than a script may have.
pub record CommandAt (text lexemes : List ℕ) (i nowhere : ℕ) : Type 0 where
  pub close : ℕ
  pub command : Items
  pub more : Items
  pub end : ℕ
  pub stands : Standing (source_of text lexemes) i (tree (list i close) command more) end
  pub lawful : Lawful (source_of text lexemes) nowhere
  pub few : nowhere ≤ script_words

-- A command of the word, of its shape, stands at word i, and what is known before it.
pub record CommandOf (word : String) (text lexemes : List ℕ) (p : Progress) (i nowhere : ℕ) : Type 0 where
  pub here : CommandAt text lexemes i nowhere
  pub by : is word (item 0 here.command) ≡ true
  pub shaped : command_shape here.command ≡ true
  pub known : Known
  pub counted : Counted p known

-- What is known after a command.
abbrev pub After : {word : String} {text lexemes : List ℕ} {p : Progress} {i nowhere : ℕ} → CommandOf word text lexemes p i nowhere → Known
After c = known_after c.known c.here.command

-- The verdict is that of the command's tests.
abbrev pub Tested : {word : String} {text lexemes : List ℕ} {p : Progress} {i nowhere : ℕ} → CommandOf word text lexemes p i nowhere → Verdict
    → Type 0
Tested {i = i} {nowhere = nowhere} c v = Says v (tested allowed nowhere c.known i c.here.command (After c))
