-- Scripts: the order of commands and of their refusals, and what a script that passes says.
use Rattle.std.specs.Prelude.{ℕ, min, Bool, false, cond, ◌&&◌, ◌||◌, not, List, [], ◌∷◌, ◌++◌, map, eqb, ltb, length}
use Rattle.forest.specs.Forest.{Forest, none, tree}
use Rattle.operators.specs.Operators.{operator_count}
use Rattle.terms.specs.Labels.{Label, Terms, operator}
use Rattle.terms.specs.Sorts.{Definition, Signature}
use Rattle.derivation.specs.Derivation.{Item, any_argument, any_literal, non_terminal, the}
use Rattle.words.specs.Trees.{Lexeme, word_of}
use Rattle.shapes.specs.Carried.{is_not_carried}
use Rattle.headers.specs.Heads.{header_names, header_past}
use Rattle.forest.specs.Limits.{Counts}
use Rattle.grammars.specs.Grammars.{grammar_fault, grammar_in, grammar_misfit, grammar_names, grammar_past}
use Rattle.script.specs.Limits.{command_past, node_past}
use Rattle.lexemes.specs.Lists.{Items, inside, is, is_list, item, name_of}
use Rattle.script.specs.Naming.{term_names}
use Rattle.names.specs.Earlier.{Declared, declared_defined, declared_functions, declared_names, earlier}
use Rattle.names.specs.New.{named_by, new_name}
use Rattle.names.specs.Scopes.{Defined, Function, Named, View, defined_names, forms_of, function_names, names_of, named_sorts}
use Rattle.shapes.specs.Shapes.{command_shape}
use Rattle.term_faults.specs.Faults.{body_fault}
use Rattle.term_nodes.specs.Terms.{raw_term}
use Rattle.written_sorts.specs.Written.{header_place, sort_of, sort_place}
use Rattle.written_sorts.specs.declared.Fault.TheVariants.{TooWide, Unknown, Empty}

-- What the commands before have said: whether the logic and the feature were set and `check-synth` was met; variables, constraints and assumptions in script
-- order; `define-fun`s and functions, the last first.
pub record Known : Type 0 where
  pub logic : Bool
  pub weights : Bool
  pub ended : Bool
  pub variables : List Named
  pub defined : List Defined
  pub functions : List Function
  pub constraints : List Terms
  pub assumptions : List Terms

-- Nothing is said before the first command.
abbrev pub nothing_known : Known
nothing_known =
    record { logic = false; weights = false; ended = false; variables = []; defined = []; functions = []; constraints = []; assumptions = [] }

-- All names in scope.
abbrev pub scope : Known → List (List ℕ)
scope k = names_of k.variables ++ defined_names k.defined ++ function_names k.functions

-- The same with the places of their declarations.
abbrev pub declared_in : Known → List Declared
declared_in k = declared_names k.variables ++ declared_defined k.defined ++ declared_functions k.functions

-- "A `define-fun` body sees its arguments and earlier `define-fun`s."
abbrev pub body_view : Known → (arguments : List Named) → View
body_view k arguments = record { names = arguments; defined = k.defined; functions = []; non_terminals = [] }

-- "A grammar rule .. see[s] the function's arguments and the `define-fun`s before that `synth-fun`; a rule also sees its non-terminals."
abbrev pub rule_view : Known → (arguments non_terminals : List Named) → View
rule_view k arguments non_terminals = record { names = arguments; defined = k.defined; functions = []; non_terminals = non_terminals }

-- "Constraints see all earlier names."; an assumption is "a Bool term under the same rules as a constraint" (E1).
abbrev pub constraint_view : Known → View
constraint_view k = record { names = k.variables; defined = k.defined; functions = k.functions; non_terminals = [] }

-- The arguments of a function.
abbrev pub arguments_of : Items → List Named
arguments_of c = named_by (inside 2 c)

-- What the rules of a `synth-fun` see.
abbrev pub view_of : Known → Items → View
view_of k c = rule_view k (arguments_of c) (named_by (inside 4 c))

-- Whether no command has passed but, perhaps, the logic line: each other that may stand before `check-synth` leaves something known.
abbrev pub after_logic : Known → Bool
after_logic k =
    not k.weights
    && eqb (length k.variables) 0
    && eqb (length k.defined) 0
    && eqb (length k.functions) 0
    && eqb (length k.constraints) 0
    && eqb (length k.assumptions) 0

-- "those two out of place (the first command if it isn't `set-logic`; whatever follows `check-synth`)", a second `set-logic`, `check-synth` before any
-- `synth-fun`, and `set-feature` but "once and straight after the logic line (elsewhere 5 ..)" (E13).
abbrev pub out_of_place : Known → Items → Bool
out_of_place k c =
    k.ended
    || not k.logic && not (is "set-logic" (item 0 c))
    || k.logic && is "set-logic" (item 0 c)
    || is "check-synth" (item 0 c) && eqb (length k.functions) 0
    || is "set-feature" (item 0 c) && not (after_logic k)

-- By the command's word: what declares a variable, defines a function, synthesizes one, constrains, assumes; nowhere for the others.
abbrev pub by_command : Items → (nowhere declared defined synthesized constrained assumed : ℕ) → ℕ
by_command c nowhere declared defined synthesized constrained assumed =
    cond (is "declare-var" (item 0 c)) declared
    (cond (is "define-fun" (item 0 c)) defined
    (cond (is "synth-fun" (item 0 c)) synthesized
    (cond (is "constraint" (item 0 c)) constrained
    (cond (is "assume" (item 0 c)) assumed
    nowhere))))

-- 4 in a command, whose bracket is word `at`.
unfoldable pub limit_place : Counts → (nowhere : ℕ) → Known → (at : ℕ) → Items → ℕ
limit_place counts nowhere k at c =
    by_command c nowhere
    (min (command_past nowhere counts.variables (length k.variables) at) (sort_place TooWide nowhere (item 2 c) (inside 2 c)))
    (min (command_past nowhere counts.defined (length k.defined) at) (min (header_past counts nowhere c) (node_past counts nowhere (item 4 c) (inside 4 c))))
    (min (command_past nowhere counts.functions (length k.functions) at) (min (header_past counts nowhere c) (grammar_past counts nowhere c)))
    (min (command_past nowhere counts.constraints (length k.constraints) at) (node_past counts nowhere (item 1 c) (inside 1 c)))
    (min (command_past nowhere counts.assumptions (length k.assumptions) at) (node_past counts nowhere (item 1 c) (inside 1 c)))

-- 7 in a command.
unfoldable pub name_place : (nowhere : ℕ) → Known → Items → ℕ
name_place nowhere k c =
    by_command c nowhere
    (min (new_name nowhere (scope k) (item 1 c)) (sort_place Unknown nowhere (item 2 c) (inside 2 c)))
    (min (header_names nowhere (scope k) c) (term_names nowhere (body_view k (arguments_of c)) (item 4 c) (inside 4 c)))
    (min (header_names nowhere (scope k) c) (grammar_names nowhere (names_of (arguments_of c) ++ name_of (item 1 c) ∷ scope k) (view_of k c) c))
    (term_names nowhere (constraint_view k) (item 1 c) (inside 1 c))
    (term_names nowhere (constraint_view k) (item 1 c) (inside 1 c))

-- The new names of a command: its own, its arguments, and its non-terminals as predeclared.
unfoldable pub new_names : Items → List Declared
new_names c =
    let own : Declared = record { name = name_of (item 1 c); at = word_of (item 1 c) } in
    cond (is "declare-var" (item 0 c)) (own ∷ [])
    (cond (is "define-fun" (item 0 c)) (own ∷ declared_names (arguments_of c))
    (cond (is "synth-fun" (item 0 c)) (own ∷ declared_names (arguments_of c) ++ declared_names (named_by (inside 4 c)))
    []))

-- The second number of 7 at word w of a command: "the place of its declaration" where the name is taken, by a name in scope before the command or by one of its
-- own new names, "0 for unknown or reserved" (E8).
abbrev pub earlier_place : Known → Items → (w : ℕ) → ℕ
earlier_place k c w = earlier (declared_in k ++ new_names c) (new_names c) w

-- 8 in a command.
unfoldable pub sorting_place : (nowhere : ℕ) → Known → Items → ℕ
sorting_place nowhere k c =
    by_command c nowhere
    (sort_place Empty nowhere (item 2 c) (inside 2 c))
    (min (header_place Empty nowhere c) (body_fault nowhere (body_view k (arguments_of c)) (sort_of (item 3 c) (inside 3 c)) (item 4 c) (inside 4 c)))
    (min (header_place Empty nowhere c) (grammar_fault nowhere (view_of k c) c))
    (body_fault nowhere (constraint_view k) 0 (item 1 c) (inside 1 c))
    (body_fault nowhere (constraint_view k) 0 (item 1 c) (inside 1 c))

-- 9 in a command.
unfoldable pub grammar_place : (nowhere : ℕ) → Known → Items → ℕ
grammar_place nowhere k c = by_command c nowhere nowhere nowhere (grammar_misfit nowhere (view_of k c) c) nowhere nowhere

-- A refusal by its number, the word at fault, past the last word for the end of the text, and the word that its second number speaks of, 0 for none; or what is
-- known after a command.
pub data Read : Type 0 where
  refused : (number place second : ℕ) → Read
  passed : Known → Read

-- 4, 7, 8, 9 of a command of a right shape in its place, whose bracket is word `at`, and which says `said` where it passes.
unfoldable pub tested : Counts → (nowhere : ℕ) → Known → (at : ℕ) → Items → (said : Known) → Read
tested counts nowhere k at c said =
    cond (ltb (limit_place counts nowhere k at c) nowhere) (refused 4 (limit_place counts nowhere k at c) 0)
    (cond (ltb (name_place nowhere k c) nowhere) (refused 7 (name_place nowhere k c) (earlier_place k c (name_place nowhere k c)))
    (cond (ltb (sorting_place nowhere k c) nowhere) (refused 8 (sorting_place nowhere k c) 0)
    (cond (ltb (grammar_place nowhere k c) nowhere) (refused 9 (grammar_place nowhere k c) 0)
    (passed said))))

-- "in it 6, then 5, 4, 7, 8, 9, least offset each", of 9 a dead non-terminal "after the other causes" (E9): of a command, whose bracket is word `at`, and which
-- says `said` where it passes.
unfoldable pub judged : Counts → (nowhere : ℕ) → Known → (at : ℕ) → Items → (said : Known) → Read
judged counts nowhere k at c said =
    cond (is_not_carried k.weights c) (refused 6 at 0) (cond (not (command_shape c) || out_of_place k c) (refused 5 at 0) (tested counts nowhere k at c said))

-- The label that a form's node is; in a body, a constraint or an assumption there are no others.
abbrev pub label_of : Item → Label
label_of (the l) = l
label_of (non_terminal A) = operator operator_count 0 0
label_of (any_literal s) = operator operator_count 0 0
label_of (any_argument s) = operator operator_count 0 0

-- The terms that forms without non-terminals are.
unfoldable pub terms_in : Forest Item → Terms
terms_in none = none
terms_in (tree i ops more) = tree (label_of i) (terms_in ops) (terms_in more)

-- The term that an item says.
abbrev pub term_of : View → Lexeme → Items → Terms
term_of view l ops = terms_in (forms_of view (raw_term l ops))

-- What is known after a command that passes, which is one of the eight that are carried.
unfoldable pub known_after : Known → Items → Known
known_after k c =
    let header : Signature = record { arguments = named_sorts (arguments_of c); result = sort_of (item 3 c) (inside 3 c) } in
    let variable : Named = record { name = name_of (item 1 c); at = word_of (item 1 c); sort = sort_of (item 2 c) (inside 2 c) } in
    let definition : Definition = record { signature = header; body = term_of (body_view k (arguments_of c)) (item 4 c) (inside 4 c) } in
    let stated : Terms = term_of (constraint_view k) (item 1 c) (inside 1 c) in
    let function : Function = record {
      name = name_of (item 1 c);
      at = word_of (item 1 c);
      arguments = arguments_of c;
      result = sort_of (item 3 c) (inside 3 c);
      non_terminals = named_by (inside 4 c);
      grammar = grammar_in (view_of k c) c;
      before = length k.defined;
    } in
    record {
      logic = k.logic || is "set-logic" (item 0 c);
      weights = k.weights || is "set-feature" (item 0 c);
      ended = k.ended || is "check-synth" (item 0 c);
      variables = cond (is "declare-var" (item 0 c)) (k.variables ++ variable ∷ []) k.variables;
      defined = cond (is "define-fun" (item 0 c)) (record { name = name_of (item 1 c); at = word_of (item 1 c); definition = definition } ∷ k.defined) k.defined;
      functions = cond (is "synth-fun" (item 0 c)) (function ∷ k.functions) k.functions;
      constraints = cond (is "constraint" (item 0 c)) (k.constraints ++ stated ∷ []) k.constraints;
      assumptions = cond (is "assume" (item 0 c)) (k.assumptions ++ stated ∷ []) k.assumptions;
    }

-- What follows a command that passes; a refusal ends the reading.
abbrev pub and_then : Read → (Known → Read) → Read
and_then (refused number place second) next = refused number place second
and_then (passed k) next = next k

-- The commands of a script, one after the other: "commands, the first faulty one"; "where no command holds it .. that word; text length if the text ends
-- early". `nowhere` is the number of the script's words: it is past each of them, and as a place it is the end of the text.
unfoldable pub read_all : Counts → (nowhere : ℕ) → Known → Items → Read
read_all counts nowhere k none = cond k.ended (passed k) (refused 5 nowhere 0)
read_all counts nowhere k (tree l c more) =
    let next : Known → Read = λ (later : Known). read_all counts nowhere later more in
    cond (is_list l) (and_then (judged counts nowhere k (word_of l) c (known_after k c)) next) (refused 5 (word_of l) 0)

-- The definitions of `define-fun`s.
abbrev pub definitions_of : List Defined → List Definition
definitions_of ds = map (λ (d : Defined). d.definition) ds
