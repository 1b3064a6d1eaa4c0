-- What the reading of a grammar asks and gives. Definitions that serve a step.
use Rattle.std.specs.Prelude.{ℕ, ◌+◌, ◌-◌, ◌*◌, ◌≤◌, true, List, [], ◌++◌, ◌≡◌, length}
use Rattle.std.proofs.lemmas.List.Edits.{sets}
use Rattle.forest.specs.Forest.{count, tree}
use Rattle.forest.specs.code.Cursors.{size}
use Rattle.forest.specs.Tables.{over}
use Rattle.words.specs.Trees.{list}
use Rattle.derivation.specs.code.Productive.{FirstOut}
use Rattle.derivation.specs.code.Tables.{form_table}
use Rattle.term_sorts.specs.code.Forms.{sort_column}
use Rattle.lexemes.specs.Lists.{Items, inside, is_symbol, item}
use Rattle.lexemes.specs.code.Standing.{Stands}
use Rattle.lexemes.specs.code.Table.{next_at}
use Rattle.shapes.specs.Shapes.{synth_fun_shape}
use Rattle.written_sorts.specs.code.Headers.{SynthFunAt}
use Rattle.term_nodes.specs.code.Table.{raw_table, uncounted_table, row_width as rawWidth}
use Rattle.names.specs.Scopes.{Defined, Named, View, defined_names, forms_of, in_order, names_of, named_sorts}
use Rattle.names.specs.code.Lookup.{Kept, Names, source_of}
use Rattle.names.specs.code.Table.{declared_from, defined_row, names_from, non_terminal_row, own_argument_row, sorts_from}
use Rattle.names.specs.Earlier.{declared_names}
use Rattle.names.specs.New.{named_by}
use Rattle.names.specs.code.New.{AllNarrow, Few, names_in}
use Rattle.names.specs.declared.Target.{Target}
use Rattle.names.specs.declared.Scope.{Scope}
use Rattle.term_faults.specs.Faults.{scope_of}
use Rattle.term_faults.specs.code.Bodies.{Lawful, Sought}
use Rattle.forest.specs.Limits.{allowed, most_rules, most_non_terminals, script_words}
use Rattle.term_nodes.specs.Rules.{rules_in, sides}
use Rattle.term_nodes.specs.code.RuleGathering.{start_table}
use Rattle.term_nodes.specs.declared.Gathered.{Gathered}
use Rattle.grammars.specs.Listing.{dead_misfit}
use Rattle.grammars.specs.Grammars.{grammar_fault, grammar_names, grammar_past, list_misfit}
use Rattle.derivation.specs.code.Rules.{rule_width}
use Rattle.terms.specs.code.Nodes.{row_width as nodeWidth}

-- A `synth-fun` stands at word i; one table has a row for each of its words, the other room for 128 rules.
pub record GrammarAt (lexemes raw rules : List ℕ) (i : ℕ) : Type 0 where
  pub command : SynthFunAt lexemes i
  pub room : rawWidth * (next_at lexemes i - i) ≤ length raw
  pub rules_room : rule_width * most_rules ≤ length rules

-- Its rules are gathered, and the least word past a limit is found.
pub record Limited {lexemes raw rules : List ℕ} {i : ℕ} (p : GrammarAt lexemes raw rules i) (nowhere : ℕ) (rawAfter rulesAfter : List ℕ) (g : Gathered)
    : Type 0 where
  pub rest : List ℕ
  pub raw_is : rawAfter ≡ uncounted_table (sides (rules_in 0 (inside 5 p.command.here.operands))) ++ rest
  pub raw_long : length rawAfter ≡ length raw
  pub rows_are : g.row ≡ size (sides (rules_in 0 (inside 5 p.command.here.operands)))
  pub few : g.row ≤ next_at lexemes i - i
  pub counted : g.rule ≡ length (rules_in 0 (inside 5 p.command.here.operands))
  pub more : List ℕ
  pub rules_are : g.rule ≤ most_rules → rulesAfter ≡ start_table 0 (rules_in 0 (inside 5 p.command.here.operands)) ++ more
  pub rules_long : length rulesAfter ≡ length rules
  pub place_is : g.place ≡ grammar_past allowed nowhere p.command.here.operands

-- A `synth-fun` stands at word i of a lawful text of no more words than a script may have, whose non-terminals are at most 16, of sorts at most 64 wide; its
-- rules are gathered, not counted yet; the table has the names in scope, its arguments among them, and the `define-fun`s; and there is room for the forms from
-- row `base` on.
pub record Naming (text lexemes names raw forms : List ℕ) (scope : Scope) (i nodes base nowhere : ℕ) : Type 0 where
  pub close : ℕ
  pub command : Items
  pub more : Items
  pub end : ℕ
  pub stands : Stands (source_of text lexemes) i (tree (list i close) command more) end
  pub named : is_symbol (item 0 command) ≡ true
  pub shaped : synth_fun_shape command ≡ true
  pub lawful : Lawful (source_of text lexemes) nowhere
  pub few_words : nowhere ≤ script_words
  pub narrow : AllNarrow (inside 4 command)
  pub few_listed : count (inside 4 command) ≤ most_non_terminals
  pub rest : List ℕ
  pub raw_is : raw ≡ uncounted_table (sides (rules_in 0 (inside 5 command))) ++ rest
  pub counted : nodes ≡ size (sides (rules_in 0 (inside 5 command)))
  pub table : Names names
  pub few : Few scope
  pub behind : own_argument_row 0 ≤ scope.first
  pub arguments : List Named
  pub arguments_are : names_from names scope.first scope.arguments ≡ names_of arguments
  pub sorts_are : sorts_from names scope.first scope.arguments ≡ named_sorts arguments
  pub defined : List Defined
  pub defined_are : names_from names defined_row scope.defined ≡ in_order (defined_names defined)
  pub room : nodeWidth * (base + nodes) ≤ length forms

-- What its rules see.
abbrev pub view_in : {text lexemes names raw forms : List ℕ} {scope : Scope} {i nodes base nowhere : ℕ}
    → Naming text lexemes names raw forms scope i nodes base nowhere → View
view_in p = record { names = p.arguments; defined = p.defined; functions = []; non_terminals = named_by (inside 4 p.command) }

-- The non-terminals stand in their rows, with their words, the nodes are counted, the forms are written, and the least word at fault in a name is found.
pub record GrammarNamed {text lexemes names raw forms : List ℕ} {scope : Scope} {i nodes base nowhere : ℕ}
    (p : Naming text lexemes names raw forms scope i nodes base nowhere) (namesAfter rawAfter formsAfter : List ℕ) (r : ℕ) : Type 0 where
  pub table : Names namesAfter
  pub kept : Kept names non_terminal_row (count (inside 4 p.command)) namesAfter
  pub names_are : names_from namesAfter non_terminal_row (count (inside 4 p.command)) ≡ names_of (named_by (inside 4 p.command))
  pub sorts_are : sorts_from namesAfter non_terminal_row (count (inside 4 p.command)) ≡ named_sorts (named_by (inside 4 p.command))
  pub declared_are : declared_from namesAfter non_terminal_row (count (inside 4 p.command)) ≡ declared_names (named_by (inside 4 p.command))
  pub raw_is : rawAfter ≡ raw_table (sides (rules_in 0 (inside 5 p.command))) ++ p.rest
  pub forms_are : formsAfter ≡ sets forms (nodeWidth * base) (form_table (forms_of (view_in p) (sides (rules_in 0 (inside 5 p.command)))))
  pub place_is : r ≡ grammar_names nowhere (names_in names scope) (view_in p) p.command

-- The nodes of a grammar's rules, whose names are known, and their forms, in tables.
pub record Sorting (lexemes raw forms signatures column : List ℕ) (i nodes nowhere : ℕ) : Type 0 where
  pub command : SynthFunAt lexemes i
  pub sought : Sought raw forms signatures column nodes nowhere
  pub is : sought.F ≡ sides (rules_in 0 (inside 5 command.here.operands))

-- The least word at fault in a sort is found, and the sorts of the nodes are filled in.
pub record Sorted {lexemes raw forms signatures column : List ℕ} {i nodes nowhere : ℕ} (p : Sorting lexemes raw forms signatures column i nodes nowhere)
    (columnAfter : List ℕ) (r : ℕ) : Type 0 where
  pub column_is : columnAfter ≡ over (sort_column (scope_of p.sought.view) (forms_of p.sought.view p.sought.F)) column
  pub place_is : r ≡ grammar_fault nowhere p.sought.view p.command.here.operands

-- A `synth-fun` stands at word i, and the table has the non-terminals that it declares, so many of them.
pub record Declared (text lexemes names : List ℕ) (i listed : ℕ) : Type 0 where
  pub close : ℕ
  pub command : Items
  pub more : Items
  pub end : ℕ
  pub stands : Stands (source_of text lexemes) i (tree (list i close) command more) end
  pub named : is_symbol (item 0 command) ≡ true
  pub shaped : synth_fun_shape command ≡ true
  pub table : Names names
  pub view : View
  pub names_are : names_from names non_terminal_row listed ≡ names_of view.non_terminals
  pub sorts_are : sorts_from names non_terminal_row listed ≡ named_sorts view.non_terminals
  pub few : listed ≤ most_non_terminals

-- The least word at fault in what it declares and lists is found.
abbrev pub ListsTested : {text lexemes names : List ℕ} {i listed : ℕ} → Declared text lexemes names i listed → (nowhere r : ℕ) → Type 0
ListsTested p nowhere r = r ≡ list_misfit nowhere p.view p.command

-- A `synth-fun` stands at word i, which declares so many non-terminals.
pub record DeclaredAt (lexemes : List ℕ) (i listed : ℕ) : Type 0 where
  pub command : SynthFunAt lexemes i
  pub listed_are : listed ≡ count (inside 4 command.here.operands)

-- The declared name of the first that is not found is found, whatever list has those that are.
abbrev pub NamesDead : {lexemes : List ℕ} {i listed : ℕ} → DeclaredAt lexemes i listed → (dead nowhere r : ℕ) → Type 0
NamesDead {listed = listed} p dead nowhere r =
    (found : List ℕ) → FirstOut found listed dead → r ≡ dead_misfit nowhere found 0 (inside 4 p.command.here.operands)

-- The same, for whatever the tables hold.
abbrev pub LimitsGrammar : (lexemes raw rules : List ℕ) → (i nowhere : ℕ) → (rawAfter rulesAfter : List ℕ) → Gathered → Type 0
LimitsGrammar lexemes raw rules i nowhere rawAfter rulesAfter g = (p : GrammarAt lexemes raw rules i) → Limited p nowhere rawAfter rulesAfter g

-- The same, for whatever the tables hold.
abbrev pub NamesGrammar : (text lexemes names raw forms : List ℕ) → Scope → (i : ℕ) → Target → (namesAfter rawAfter formsAfter : List ℕ) → (r : ℕ) → Type 0
NamesGrammar text lexemes names raw forms scope i target namesAfter rawAfter formsAfter r =
    (p : Naming text lexemes names raw forms scope i target.count target.base target.nowhere) → GrammarNamed p namesAfter rawAfter formsAfter r

-- The same, for whatever the tables hold.
abbrev pub SortsGrammar : (lexemes raw forms signatures column : List ℕ) → (i nodes nowhere : ℕ) → (columnAfter : List ℕ) → (r : ℕ) → Type 0
SortsGrammar lexemes raw forms signatures column i nodes nowhere columnAfter r =
    (p : Sorting lexemes raw forms signatures column i nodes nowhere) → Sorted p columnAfter r
