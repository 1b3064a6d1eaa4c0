-- The `define-fun` at a word: where its head and its body stand, its tests, and what is known after it.
use Prim.Native.Nat.{ℕ, ◌+◌, ◌≤◌, ◌<◌, min}
use native.Mathlib.Omega.{arith}
use mathlib.Core.Path.{◌≡◌, refl, sym, ◌∙◌}
use mathlib.Core.Bool.{Bool, true, false, ◌&&◌}
use mathlib.Core.List.{List, [], ◌∷◌}
use lib.Dec.{eqb}
use lib.ListN.{length}
use borrow.Author.Tests.{eqb-true}
use Rattle.forest.specs.Forest.{count}
use Rattle.forest.specs.Lists.{same_bytes}
use Rattle.forest.proofs.Bools.{and_left, and_right, apart}
use Rattle.lexemes.specs.Reserved.{is_word}
use Rattle.words.specs.Trees.{Lexeme, keyword, list, literal, numeral, symbol, word_of}
use Rattle.lexemes.specs.Lists.{Items, after, inside, is_symbol, item, name_of}
use Rattle.lexemes.specs.code.Standing.{Stands}
use Rattle.lexemes.specs.code.Table.{next_at}
use Rattle.lexemes.proofs.ByCode.{code_for}
use Rattle.lexemes.proofs.Standing.{forward, here}
use Rattle.lexemes.specs.code.Codes.{define_fun_code}
use Rattle.shapes.specs.Shapes.{command_shape, define_fun_shape, header_shape, term_shape}
use Rattle.written_sorts.specs.code.Headers.{HeaderAt}
use Rattle.written_sorts.specs.Written.{header_place, sort_of}
use Rattle.written_sorts.specs.declared.Fault.TheVariants.{Empty}
use Rattle.written_sorts.proofs.Walked.{symbol_word}
use Rattle.headers.specs.Heads.{header_names, header_past}
use Rattle.forest.specs.Limits.{allowed, most_defined, script_words}
use Rattle.names.specs.Scopes.{Defined, named_sorts}
use Rattle.names.specs.code.Lookup.{source_of}
use Rattle.term_faults.specs.Faults.{body_fault}
use Rattle.script.specs.Limits.{command_past, node_past}
use Rattle.script.specs.Naming.{term_names}
use Rattle.script.specs.Script.{Known, arguments_of, body_view, grammar_place, known_after, limit_place, name_place, scope, sorting_place, term_of}
use Rattle.script.specs.code.Tables.{CommandOf}
use Rattle.script.specs.declared.Progress.{Progress}
use Rattle.script.proofs.CommandByCode.{Chosen, chosen}
use Rattle.commands.proofs.TermStanding.{BodyAt, behind_word, close_below, item_stands, listed, next_stands}

-- The items of a `define-fun`.
record Parts (c : Items) : Type 0 where
  five : count c ≡ 5
  header : header_shape c ≡ true
  term : term_shape (item 4 c) (inside 4 c) ≡ true

-- A `define-fun` has them.
parts : (c : Items) → define_fun_shape c ≡ true → Parts c
parts c e =
    let five = eqb (count c) 5 in
    let term = term_shape (item 4 c) (inside 4 c) in
    let front = and_left (five && header_shape c) term e in
    record {
      five = eqb-true (count c) 5 (and_left five (header_shape c) front);
      header = and_right five (header_shape c) front;
      term = and_right (five && header_shape c) term e;
    }

-- What has a name of its own is a symbol.
named_symbol : (test : List ℕ → Bool) → test [] ≡ false → (l : Lexeme) → test (name_of l) ≡ true → is_symbol l ≡ true
named_symbol test unnamed (symbol at name) e = refl
named_symbol test unnamed (list at close) e = apart (sym unnamed ∙ e)
named_symbol test unnamed (numeral at v) e = apart (sym unnamed ∙ e)
named_symbol test unnamed (keyword at name) e = apart (sym unnamed ∙ e)
named_symbol test unnamed (literal at width v written) e = apart (sym unnamed ∙ e)

-- The tests of a `define-fun`.
module _ (nowhere : ℕ) (k : Known) (at : ℕ) {c : Items} (t : Chosen c define_fun_code) where
  -- Its limits.
  pub limit_is : limit_place allowed nowhere k at c
      ≡ min (command_past nowhere most_defined (length k.defined) at) (min (header_past allowed nowhere c) (node_past allowed nowhere (item 4 c) (inside 4 c)))
  unfolding limit_place
  limit_is = rw (t.declares, t.defines)

  -- Its names.
  pub names_are : name_place nowhere k c
      ≡ min (header_names nowhere (scope k) c) (term_names nowhere (body_view k (arguments_of c)) (item 4 c) (inside 4 c))
  unfolding name_place
  names_are = rw (t.declares, t.defines)

  -- Its sorts.
  pub sorts_are : sorting_place nowhere k c
      ≡ min (header_place Empty nowhere c) (body_fault nowhere (body_view k (arguments_of c)) (sort_of (item 3 c) (inside 3 c)) (item 4 c) (inside 4 c))
  unfolding sorting_place
  sorts_are = rw (t.declares, t.defines)

  -- It has no grammar.
  pub no-grammar : grammar_place nowhere k c ≡ nowhere
  unfolding grammar_place
  no-grammar = rw (t.declares, t.defines)

-- The function that a `define-fun` says.
abbrev pub defined_by : Known → Items → Defined
defined_by k c = record {
  name = name_of (item 1 c);
  at = word_of (item 1 c);
  definition = record {
    signature = record { arguments = named_sorts (arguments_of c); result = sort_of (item 3 c) (inside 3 c) };
    body = term_of (body_view k (arguments_of c)) (item 4 c) (inside 4 c);
  };
}

-- What is known after it.
module _ (k : Known) {c : Items} (t : Chosen c define_fun_code) where
  -- The same variables.
  pub same_variables : (known_after k c).variables ≡ k.variables
  unfolding known_after
  same_variables = rw t.declares

  -- Its function is the last.
  pub one_more : (known_after k c).defined ≡ defined_by k c ∷ k.defined
  unfolding known_after
  one_more = rw t.defines

  -- The same functions.
  pub same_functions : (known_after k c).functions ≡ k.functions
  unfolding known_after
  same_functions = rw t.synthesizes

  -- The same constraints.
  pub same_constraints : (known_after k c).constraints ≡ k.constraints
  unfolding known_after
  same_constraints = rw t.constrains

  -- The same assumptions.
  pub same_assumptions : (known_after k c).assumptions ≡ k.assumptions
  unfolding known_after
  same_assumptions = rw t.assumes

module _ {text lexemes : List ℕ} {p : Progress} {at nowhere : ℕ} (d : CommandOf "define-fun" text lexemes p at nowhere) where
  -- It is the command of that word.
  pub is_definition : Chosen d.here.command define_fun_code
  unfolding code_for
  is_definition = chosen "define-fun" refl d.here.command d.by

  -- Its first item is a symbol.
  pub first_symbol : is_symbol (item 0 d.here.command) ≡ true
  unfolding same_bytes
  first_symbol = named_symbol (is_word "define-fun") refl (item 0 d.here.command) d.by

  -- Its items.
  its_parts : Parts d.here.command
  unfolding command_shape
  its_parts = parts d.here.command (rw (is_definition.sets, is_definition.declares, is_definition.defines) at d.shaped)

  -- It has at least four of them.
  pub long_enough : 4 ≤ count d.here.command
  long_enough = omega (arith, its_parts.five)

  -- It has a header.
  pub headed : header_shape d.here.command ≡ true
  headed = its_parts.header

  -- Its header.
  abbrev pub header_here : HeaderAt lexemes at
  header_here = record { here = listed d.here; named = first_symbol; long = long_enough; shaped = headed }

  module _ {arguments : ℕ} (ea : arguments ≡ next_at lexemes (at + 2)) {result : ℕ} (er : result ≡ next_at lexemes arguments)
      {i : ℕ} (ei : i ≡ next_at lexemes result) where
    -- Where its items stand.
    record Standing : Type 0 where
      name : Stands (source_of text lexemes) (at + 2) (after 1 d.here.command) d.here.close
      arguments_there : Stands (source_of text lexemes) arguments (after 2 d.here.command) d.here.close
      result_there : Stands (source_of text lexemes) result (after 3 d.here.command) d.here.close
      body_there : Stands (source_of text lexemes) i (after 4 d.here.command) d.here.close

    -- They stand there.
    standing : Standing
    standing =
        let c = d.here.command in
        let five = its_parts.five in
        let name = behind_word d.here (omega arith) (symbol_word (item 0 c) first_symbol) in
        let arguments = next_stands 1 c (omega arith) name ea in
        let result = next_stands 2 c (omega arith) arguments er in
        record { name = name; arguments_there = arguments; result_there = result; body_there = next_stands 3 c (omega arith) result ei }

    -- Its body stands behind the sort of its result.
    pub body_here : BodyAt text lexemes i nowhere d.here.close (item 4 d.here.command) (inside 4 d.here.command)
    body_here = record {
      more = after 5 d.here.command;
      stands = item_stands 4 d.here.command (omega (arith, its_parts.five)) standing.body_there;
      shaped = its_parts.term;
      lawful = d.here.lawful;
      below = close_below d.here;
      few = d.here.few;
    }

    -- And so behind its first word.
    pub body_behind : at ≤ i
    body_behind =
        let c = d.here.command in
        let five = its_parts.five in
        let name = (here refl (item_stands 1 c (omega arith) standing.name)).ahead in
        let arguments = (here refl (item_stands 2 c (omega arith) standing.arguments_there)).ahead in
        let result = (here refl (item_stands 3 c (omega arith) standing.result_there)).ahead in
        omega arith

  module _ {arguments : ℕ} (ea : arguments ≡ next_at lexemes (at + 2)) {result : ℕ} (er : result ≡ next_at lexemes arguments) where
    -- Its arguments stand before the sort of its result.
    pub arguments_before : arguments < result
    arguments_before =
        let c = d.here.command in
        omega (arith, (here refl (item_stands 2 c (omega (arith, long_enough)) (standing ea er refl).arguments_there)).ahead)

    -- Which stands within the text.
    pub result_low : result ≤ script_words
    result_low = omega (arith, forward (standing ea er refl).result_there, close_below d.here, d.here.few)
