-- A `synth-fun` that stands in a text: its parts, its tests by themselves, and what it keeps to within its limits.
use Prim.Native.Nat.{ℕ, ◌+◌, ◌≤◌, ◌<◌, min}
use native.Mathlib.Omega.{arith}
use mathlib.Core.Path.{◌≡◌, refl, sym, ◌∙◌}
use mathlib.Core.Bool.{true}
use mathlib.Core.List.{List, ◌∷◌, ◌++◌}
use lib.Dec.{ltb}
use lib.ListN.{length}
use borrow.Author.Tests.{eqb-true, ltb-true}
use Rattle.forest.specs.Forest.{count}
use Rattle.forest.specs.code.Cursors.{size}
use Rattle.forest.proofs.Bools.{and_right}
use Rattle.operators.specs.Sorts.{max_width}
use Rattle.lexemes.specs.Lists.{Items, inside, is_list, is_symbol, item, name_of}
use Rattle.lexemes.specs.code.Table.{code_of, next_at}
use Rattle.lexemes.proofs.ByCode.{code_for, symbol-code, word_code}
use Rattle.lexemes.proofs.Standing.{forward, here}
use Rattle.lexemes.specs.code.Codes.{synth_fun_code}
use Rattle.shapes.specs.Shapes.{all, command_shape, group_shape, synth_fun_shape}
use Rattle.written_sorts.specs.code.Headers.{SynthFunAt}
use Rattle.written_sorts.specs.Written.{grammar_sorts, header_place, least_in, pair_place, sort_of}
use Rattle.written_sorts.specs.declared.Fault.TheVariants.{Empty, TooWide}
use Rattle.written_sorts.proofs.HeaderSorts.{synth_fun_parts}
use Rattle.names.specs.Scopes.{names_of}
use Rattle.names.specs.code.Lookup.{source_of}
use Rattle.names.specs.code.New.{AllNarrow}
use Rattle.headers.specs.Heads.{header_names, header_past}
use Rattle.forest.specs.Limits.{allowed, most_arguments, most_functions, most_nodes, most_non_terminals, most_rules}
use Rattle.grammars.specs.Grammars.{grammar_fault, grammar_misfit, grammar_names, grammar_past}
use Rattle.term_nodes.specs.Rules.{item_past, nodes_past, rule_past, sides}
use Rattle.term_faults.specs.code.Grammars.{AllSingle}
use Rattle.term_faults.specs.code.Bodies.{NarrowNode, Rising}
use Rattle.term_sorts.specs.code.Signatures.{Every}
use Rattle.term_nodes.specs.code.Says.{AllSay}
use Rattle.term_faults.proofs.Rising.{rising_wider, rules_rise}
use Rattle.term_faults.proofs.Said.{rules_say, rules_single}
use Rattle.script.specs.Limits.{command_past}
use Rattle.script.specs.Script.{arguments_of, grammar_place, limit_place, name_place, scope, sorting_place, view_of}
use Rattle.script.specs.code.Tables.{CommandOf}
use Rattle.script.specs.declared.Progress.{Progress}
use Rattle.script.proofs.CommandByCode.{Chosen, chosen}
use Rattle.script.proofs.Headers.{head_narrow, pairs_narrow}
use Rattle.script.proofs.WordsBelow.{command_below, command_word, inside_below, no_fault}
use Rattle.synth_fun.specs.code.Synthesizing.{ruled_by}
use Rattle.grammars.proofs.Within.{rising_few}
use Rattle.script.proofs.RulesNarrow.{rules_narrow}
use Rattle.script.proofs.Within.{Amid, amid, items_few, past_neither, past_none, rules_few}

-- What a `synth-fun` keeps to within its limits.
pub record Small (c : Items) (functions : ℕ) : Type 0 where
  pub one_more : functions + 1 ≤ most_functions
  pub few_arguments : count (inside 2 c) ≤ most_arguments
  pub narrow_arguments : AllNarrow (inside 2 c)
  pub narrow_result : sort_of (item 3 c) (inside 3 c) ≤ max_width
  pub few_listed : count (inside 4 c) ≤ most_non_terminals
  pub narrow_listed : AllNarrow (inside 4 c)
  pub few_rules : length (ruled_by c) ≤ most_rules
  pub narrow_nodes : Every NarrowNode (sides (ruled_by c))

module _ {text lexemes : List ℕ} {p : Progress} {i nowhere : ℕ} (of : CommandOf "synth-fun" text lexemes p i nowhere) where
  -- which command it is
  pub synth_chosen : Chosen of.here.command synth_fun_code
  unfolding code_for
  synth_chosen = chosen "synth-fun" refl of.here.command of.by

  -- its word is a symbol
  pub synth_named : is_symbol (item 0 of.here.command) ≡ true
  unfolding code_for
  synth_named =
      let same : code_of (item 0 of.here.command) ≡ synth_fun_code = eqb-true _ _ (sym (word_code "synth-fun" refl (item 0 of.here.command)) ∙ of.by) in
      symbol-code (item 0 of.here.command) ∙ rw same

  -- its shape is that of a `synth-fun`
  pub synth_shaped : synth_fun_shape of.here.command ≡ true
  unfolding command_shape
  synth_shaped = let t = synth_chosen in rw (t.sets, t.declares, t.defines, t.synthesizes) at of.shaped

  -- it stands there
  abbrev pub synth_at : SynthFunAt lexemes i
  synth_at = record {
    here = record {
      source = source_of text lexemes;
      same = refl;
      close = of.here.close;
      operands = of.here.command;
      more = of.here.more;
      end = of.here.end;
      stands = of.here.stands;
    };
    named = synth_named;
    shaped = synth_shaped;
  }

  -- the bracket that closes it is a word of the text
  pub closes_within : of.here.close < nowhere
  closes_within =
      let list = (here refl of.here.stands).a_list refl in
      let same : list.close ≡ of.here.close = cc list.label in
      omega (arith, of.here.lawful.ends list.close (omega (arith, list.closes)))

  -- and the last of its words
  pub closes_next : next_at lexemes i ≡ of.here.close + 1
  closes_next =
      let list = (here refl of.here.stands).a_list refl in
      let same : list.close ≡ of.here.close = cc list.label in
      omega (arith, list.next)

  -- its groups stand in it
  pub groups_amid : Amid (source_of text lexemes) (i + 1) of.here.close (inside 5 of.here.command)
  groups_amid =
      let list = (here refl of.here.stands).a_list refl in
      let same : list.close ≡ of.here.close = cc list.label in
      let a = amid 5 list.stands in
      record { first = a.first; last = a.last; stands = a.stands; begins = a.begins; ends_by = omega (arith, a.ends_by) }

  -- and are of their shape
  pub groups_shaped : all group_shape (inside 5 of.here.command) ≡ true
  groups_shaped =
      let c = of.here.command in
      and_right (is_list (item 5 c)) (all group_shape (inside 5 c)) (synth_fun_parts c synth_shaped).groups

  -- the nodes of its rules rise
  pub rules_rising : Rising groups_amid.first groups_amid.last (sides (ruled_by of.here.command))
  rules_rising = rules_rise groups_amid.stands groups_shaped 0

  -- in the text
  pub nodes_rise : Rising 0 nowhere (sides (ruled_by of.here.command))
  nodes_rise = rising_wider (sides (ruled_by of.here.command)) rules_rising (omega arith) (omega (arith, groups_amid.ends_by, closes_within))

  -- their words say what they are
  pub nodes_say : AllSay (source_of text lexemes) (sides (ruled_by of.here.command))
  nodes_say = rules_say groups_amid.stands groups_shaped 0

  -- each rule is one tree
  pub rules_trees : AllSingle lexemes (ruled_by of.here.command)
  rules_trees = rules_single groups_amid.stands groups_shaped 0

  -- the nodes are fewer than its words
  pub nodes_within : i + size (sides (ruled_by of.here.command)) ≤ of.here.close
  nodes_within =
      let a = groups_amid in
      omega (arith, a.begins, a.ends_by, rising_few (sides (ruled_by of.here.command)) rules_rising (forward a.stands))

  -- ---- its tests

  -- 4
  pub limit_is : limit_place allowed nowhere of.known i of.here.command
      ≡ min (command_past nowhere most_functions (length of.known.functions) i)
      (min (header_past allowed nowhere of.here.command) (grammar_past allowed nowhere of.here.command))
  unfolding limit_place
  limit_is = let t = synth_chosen in rw (t.declares, t.defines, t.synthesizes)

  -- 7
  pub name_is : name_place nowhere of.known of.here.command
      ≡ min (header_names nowhere (scope of.known) of.here.command)
      (grammar_names nowhere (names_of (arguments_of of.here.command) ++ name_of (item 1 of.here.command) ∷ scope of.known)
      (view_of of.known of.here.command) of.here.command)
  unfolding name_place
  name_is = let t = synth_chosen in rw (t.declares, t.defines, t.synthesizes)

  -- 8
  pub sorting_is : sorting_place nowhere of.known of.here.command
      ≡ min (header_place Empty nowhere of.here.command) (grammar_fault nowhere (view_of of.known of.here.command) of.here.command)
  unfolding sorting_place
  sorting_is = let t = synth_chosen in rw (t.declares, t.defines, t.synthesizes)

  -- 9
  pub grammar_is : grammar_place nowhere of.known of.here.command
      ≡ grammar_misfit nowhere (view_of of.known of.here.command) of.here.command
  unfolding grammar_place
  grammar_is = let t = synth_chosen in rw (t.declares, t.defines, t.synthesizes)

  -- ---- within its limits

  -- no node of its rules, and no weight, is past a limit where it is within its limits
  pub rules_within : nowhere ≤ limit_place allowed nowhere of.known i of.here.command → nowhere ≤ nodes_past nowhere most_nodes (ruled_by of.here.command)
  rules_within limited =
      let c = of.here.command in
      let all = rw limit_is at limited in
      let parts = past_none _ (header_past allowed nowhere c) (grammar_past allowed nowhere c) all in
      let grammar = past_none (item_past nowhere most_non_terminals (inside 4 c)) (grammar_sorts TooWide nowhere c) _ parts.2 in
      (past_neither (rule_past nowhere most_rules (ruled_by c)) _ grammar.2).1

  pub small : nowhere ≤ limit_place allowed nowhere of.known i of.here.command → Small of.here.command p.functions
  small limited =
      let c = of.here.command in
      let first = command_word of.here in
      let some : 0 < nowhere = omega arith in
      let below = command_below of.here in
      let all = rw limit_is at limited in
      let parts = past_none _ (header_past allowed nowhere c) (grammar_past allowed nowhere c) all in
      let head = head_narrow nowhere some c below parts.1 in
      let grammar = past_none (item_past nowhere most_non_terminals (inside 4 c)) (grammar_sorts TooWide nowhere c) _ parts.2 in
      let listed = past_neither (least_in nowhere (pair_place TooWide nowhere) (inside 4 c)) _ grammar.1 in
      let rules = past_neither (rule_past nowhere most_rules (ruled_by c)) _ grammar.2 in
      let room = no_fault (ltb (length of.known.functions) most_functions) first parts.0 in
      record {
        one_more = omega (arith, ltb-true (length of.known.functions) most_functions room, of.counted.functions_are);
        few_arguments = head.few;
        narrow_arguments = head.arguments;
        narrow_result = head.result;
        few_listed = items_few nowhere most_non_terminals (inside 4 c) some (inside_below nowhere 4 c below) grammar.0;
        narrow_listed = pairs_narrow nowhere some (inside 4 c) (inside_below nowhere 4 c below) listed.0;
        few_rules = rules_few lexemes nowhere most_rules (ruled_by c) 0 nowhere rules_trees nodes_rise (omega arith) rules.0;
        narrow_nodes = rules_narrow nowhere some 0 (inside 5 c) (inside_below nowhere 5 c below) listed.1;
      }
