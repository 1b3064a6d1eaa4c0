-- The names of a `synth-fun`: put into their rows behind those that are known, and tested.
use Prim.Native.Nat.{ℕ, ◌+◌, ◌≤◌, min}
use native.Mathlib.Omega.{arith}
use mathlib.Core.Path.{◌≡◌, refl, sym, ap, ap₂, ◌∙◌}
use mathlib.Core.Bool.{true, ◌||◌}
use mathlib.Core.List.{List, ◌∷◌, ◌++◌, append_assoc}
use lib.ListN.{length}
use Rattle.forest.specs.Forest.{count, nodes_of}
use Rattle.forest.specs.Lists.{same_bytes}
use Rattle.lexemes.specs.Lists.{Items, inside, item, name_of}
use Rattle.written_sorts.specs.Written.{grammar_sorts, header_place}
use Rattle.written_sorts.specs.declared.Fault.TheVariants.{Unknown}
use Rattle.written_sorts.proofs.HeaderSorts.{synth_fun_parts}
use Rattle.names.specs.Scopes.{View, is_named, names_of}
use Rattle.names.specs.Unknown.{unknown_in}
use Rattle.names.specs.code.Table.{defined_row, function_row, name_in, names_from, own_argument_row, variable_row}
use Rattle.names.specs.code.Lookup.{SameRows}
use Rattle.names.proofs.NamePut.{same_through}
use Rattle.names.specs.code.New.{names_in}
use Rattle.names.specs.declared.Scope.{Scope}
use Rattle.names.proofs.Members.{SameNames, named_both, same_members, same_name}
use Rattle.term_nodes.specs.Rules.{rules_in, sides}
use Rattle.headers.specs.Heads.{header_names}
use Rattle.headers.specs.code.Heads.{HeadAt, HeadNamed, grown_by}
use Rattle.headers.proofs.Grown.{same_names}
use Rattle.grammars.specs.Grammars.{grammar_names}
use Rattle.grammars.specs.code.Read.{GrammarNamed, Naming}
use Rattle.script.specs.Script.{arguments_of, new_names, scope, view_of}
use Rattle.script.specs.code.Taken.{FunctionTaken}
use Rattle.script.specs.code.Tables.{ArgumentsHold, NamesHold}
use Rattle.script.specs.declared.Progress.{Progress}
use Rattle.script.proofs.NamesKept.{SameArguments, few_before, names_kept, one_declared_in_order, one_more_in_order, same_scope}
use Rattle.script.proofs.NamesKept.{scope_before}
use Rattle.synth_fun.specs.code.NameTests.{NamesFound, Unnamed}
use Rattle.synth_fun.proofs.SynthFunParts.{Small, name_is, small, synth_chosen, synth_named, synth_shaped}
use Rattle.names.proofs.PairNames.{named_long}
use Rattle.synth_fun.proofs.FunctionKnown.{after_is, with_function}

-- The names in scope before the non-terminals: the command's own and its arguments too.
abbrev pub scope_within : Progress → (arguments : ℕ) → Scope
scope_within p arguments = record {
  variables = p.variables;
  defined = p.defined;
  functions = p.functions + 1;
  first = own_argument_row p.functions;
  arguments = arguments;
}

-- Lists of names, one behind the other.
four_lists : (a b c d : List (List ℕ)) → a ++ b ++ c ++ d ≡ a ++ (b ++ c ++ d)
four_lists a b c d = simp append_assoc

-- A name in front of scopes that have the same names.
same_front : (m : List ℕ) (one other : List (List ℕ)) → SameNames one other → SameNames (m ∷ one) (m ∷ other)
unfolding is_named
same_front m one other same n = ap (◌||◌ (same_bytes m n)) (same n)

-- The new names of a header are at fault in the one scope just when they are in the other.
same_header : (nowhere : ℕ) (one other : List (List ℕ)) → SameNames one other → (c : Items) → header_names nowhere one c ≡ header_names nowhere other c
same_header nowhere one other same c =
    ap₂ min (same_name nowhere one other same (item 1 c))
    (ap (λ (n : ℕ). min n (header_place Unknown nowhere c)) (same_members nowhere _ _ (same_front (name_of (item 1 c)) one other same) (inside 2 c)))

-- And so are those of a grammar.
same_grammar : (nowhere : ℕ) (one other : List (List ℕ)) → SameNames one other → (view : View) (c : Items)
    → grammar_names nowhere one view c ≡ grammar_names nowhere other view c
same_grammar nowhere one other same view c =
    let later = min (grammar_sorts Unknown nowhere c) (unknown_in nowhere view (nodes_of (sides (rules_in 0 (inside 5 c))))) in
    ap (λ (n : ℕ). min n later) (same_members nowhere one other same (inside 4 c))

module _ {text lexemes names raw forms : List ℕ} {p : Progress} {arguments rows i nowhere : ℕ}
    (u : Unnamed text lexemes names raw forms p arguments rows i nowhere) where
  -- it is within its limits
  limits : Small u.of.here.command p.functions
  limits = small u.of u.limited

  -- its head stands there
  abbrev pub head_here : HeadAt text lexemes names (scope_before p (own_argument_row p.functions)) true i
  head_here =
      let parts = synth_fun_parts u.of.here.command (synth_shaped u.of) in
      record {
        close = u.of.here.close;
        command = u.of.here.command;
        more = u.of.here.more;
        end = u.of.here.end;
        stands = u.of.here.stands;
        named = synth_named u.of;
        long = omega (arith, parts.six);
        shaped = parts.header;
        narrow = (small u.of u.limited).narrow_arguments;
        result = (small u.of u.limited).narrow_result;
        few_arguments = (small u.of u.limited).few_arguments;
        short = u.of.here.lawful.short;
        low_words = λ j h. omega (arith, u.of.here.lawful.ends j h, u.of.here.few);
        table = u.names_hold.table;
        few = few_before u.of.counted (own_argument_row p.functions) (omega (arith, u.of.counted.few_functions));
        no_arguments = refl;
        one_more = (small u.of u.limited).one_more;
      }

  module _ {head : ℕ} {namesBetween : List ℕ}
      (headed : (q : HeadAt text lexemes names (scope_before p (own_argument_row p.functions)) true i) → HeadNamed q nowhere namesBetween head) where
    -- the names of its head are put
    put-head : HeadNamed head_here nowhere namesBetween head
    put-head = headed head_here

    -- rows before that of its name are what they were
    pub before_head : (r m : ℕ) → r + m ≤ function_row + p.functions → SameRows namesBetween names r m
    before_head r m h = same_through (put-head.kept_name.rows_before r m h) (put-head.kept_arguments.rows_before r m (omega arith))

    -- its grammar stands there
    abbrev pub grammar_here : Naming text lexemes namesBetween raw forms (scope_within p arguments) i rows p.forms nowhere
    grammar_here = record {
      close = u.of.here.close;
      command = u.of.here.command;
      more = u.of.here.more;
      end = u.of.here.end;
      stands = u.of.here.stands;
      named = synth_named u.of;
      shaped = synth_shaped u.of;
      lawful = u.of.here.lawful;
      few_words = u.of.here.few;
      narrow = (small u.of u.limited).narrow_listed;
      few_listed = (small u.of u.limited).few_listed;
      rest = u.rest;
      raw_is = u.raw_is;
      counted = u.rows_are;
      table = (headed head_here).table;
      few = record {
        variables = u.of.counted.few_variables;
        defined = u.of.counted.few_defined;
        functions = (small u.of u.limited).one_more;
        arguments = omega (arith, (small u.of u.limited).one_more, (small u.of u.limited).few_arguments, u.arguments_are);
      };
      behind = omega arith;
      arguments = arguments_of u.of.here.command;
      arguments_are = rw u.arguments_are (headed head_here).names_are;
      sorts_are = rw u.arguments_are (headed head_here).sorts_are;
      defined = u.of.known.defined;
      defined_are =
          (before_head defined_row p.defined (omega (arith, u.of.counted.few_defined))).names
          ∙ rw u.of.counted.defined_are u.names_hold.defined_are;
      room = u.room;
    }

    -- the own name stands in its row
    own_name : SameNames (names_in namesBetween (scope_within p arguments))
        (names_of (arguments_of u.of.here.command) ++ name_of (item 1 u.of.here.command) ∷ scope u.of.known)
    unfolding names_from
    own_name n =
        let c = u.of.here.command in
        let before = scope_before p (own_argument_row p.functions) in
        let few = few_before u.of.counted (own_argument_row p.functions) (omega (arith, u.of.counted.few_functions)) in
        let between = put-head.between in
        let kept = put-head.kept_arguments in
        let variables = (kept.rows_before variable_row p.variables (omega (arith, u.of.counted.few_variables))).names in
        let defined = (kept.rows_before defined_row p.defined (omega (arith, u.of.counted.few_defined))).names in
        let functions = (kept.rows_before function_row (p.functions + 1) (omega arith)).names in
        let own = (kept.rows_before (function_row + p.functions) 1 (omega arith)).names in
        let named : name_in between (function_row + p.functions) ≡ name_of (item 1 c) = cc (own, put-head.name_is) in
        let first = names_from namesBetween (own_argument_row p.functions) arguments in
        let is : names_in namesBetween (scope_within p arguments) ≡ first ++ names_in between (grown_by true before) =
        rw (variables, defined, functions)
        (four_lists first (names_from between variable_row p.variables) (names_from between defined_row p.defined)
        (names_from between function_row (p.functions + 1))) in
        let later = same_names few refl true limits.one_more put-head.kept_name named n in
        let known = same_front (name_of (item 1 c)) _ _ (same_scope u.of.counted (own_argument_row p.functions) u.names_hold) n in
        ap (λ (l : List (List ℕ)). is_named l n) is
        ∙ named_both first (names_in between (grown_by true before)) n
        ∙ ap₂ ◌||◌ (ap (λ (l : List (List ℕ)). is_named l n) grammar_here.arguments_are) (later ∙ known)
        ∙ sym (named_both (names_of (arguments_of c)) (name_of (item 1 c) ∷ scope u.of.known) n)

    module _ {namesAfter rawAfter formsAfter : List ℕ} {grammar : ℕ}
        (tested : (q : Naming text lexemes namesBetween raw forms (scope_within p arguments) i rows p.forms nowhere)
        → GrammarNamed q namesAfter rawAfter formsAfter grammar) where
      -- the names of its grammar are put
      put_grammar : GrammarNamed grammar_here namesAfter rawAfter formsAfter grammar
      put_grammar = tested grammar_here

      -- rows before that of its name are what they were
      rows_before : (r m : ℕ) → r + m ≤ function_row + p.functions → SameRows namesAfter names r m
      rows_before r m h =
          same_through (before_head r m h) (put_grammar.kept.rows_before r m (omega (arith, u.of.counted.few_functions)))

      -- the own rows of the arguments of earlier functions are what they were
      own_rows : SameArguments namesAfter names p.functions
      own_rows j m h few =
          same_through
          (same_through (put-head.kept_name.rows_behind (own_argument_row j) m (omega (arith, u.of.counted.few_functions)))
          (put-head.kept_arguments.rows_before (own_argument_row j) m (omega arith)))
          (put_grammar.kept.rows_behind (own_argument_row j) m (omega (arith, limits.few_listed)))

      -- its own arguments stand in theirs
      own_arguments : SameRows namesAfter namesBetween (own_argument_row p.functions) (count (inside 2 u.of.here.command))
      own_arguments = put_grammar.kept.rows_behind (own_argument_row p.functions) _ (omega (arith, limits.few_listed))

      -- and its name in its own
      own_row : SameRows namesAfter namesBetween (function_row + p.functions) 1
      own_row = put_grammar.kept.rows_before (function_row + p.functions) 1 (omega (arith, limits.one_more))

      name_put : name_in namesAfter (function_row + p.functions) ≡ name_of (item 1 u.of.here.command)
      unfolding names_from
      name_put = cc (own_row.names, put-head.name_is)

      -- the rows of the functions that were known are what they were
      functions_same : SameRows namesAfter names function_row (length u.of.known.functions)
      functions_same = rows_before function_row (length u.of.known.functions) (omega (arith, u.of.counted.functions_are))

      -- the table has the names that were known
      known_kept : NamesHold namesAfter u.of.known
      known_kept =
          let k = u.of.known in
          let counted = u.of.counted in
          names_kept put_grammar.table
          (rows_before variable_row (length k.variables) (omega (arith, counted.variables_are, counted.few_variables)))
          (rows_before defined_row (length k.defined) (omega (arith, counted.defined_are, counted.few_defined)))
          functions_same (rw (← counted.functions_are) own_rows) u.names_hold

      -- and its new names, so where one is taken, what tells by which
      function_taken : FunctionTaken namesAfter p u.of.known u.of.here.command
      unfolding new_names
      function_taken =
          let t = synth_chosen u.of in
          let counted = u.of.counted in
          let own = own_row.declared ∙ put-head.own_declared in
          let arguments = own_arguments.declared ∙ put-head.declared_are in
          record {
            listing = record {
              table = put_grammar.table;
              few = record {
                variables = counted.few_variables;
                defined = counted.few_defined;
                functions = counted.few_functions;
                arguments = omega (arith, limits.one_more, limits.few_arguments);
              };
              own_fits = omega (arith, limits.one_more);
              few_listed = limits.few_listed;
            };
            placed = known_kept.placed;
            new_are = ap₂ ◌++◌ (ap₂ ◌++◌ own arguments) put_grammar.declared_are ∙ rw (t.declares, t.defines, t.synthesizes);
          }

      -- one function more stands in the table of names
      names_grow : NamesHold namesAfter (with_function u.of.known u.of.here.command)
      unfolding ArgumentsHold
      names_grow =
          let hold = u.names_hold in
          let counted = u.of.counted in
          let kept = known_kept in
          let functions = functions_same in
          let long = named_long (inside 2 u.of.here.command) in
          record {
            table = put_grammar.table;
            variables_are = kept.variables_are;
            variable-sorts = kept.variable-sorts;
            defined_are = kept.defined_are;
            functions_are = one_more_in_order functions _ hold.functions_are (rw (← counted.functions_are) name_put);
            arguments_are = (
              rw (long, ← counted.functions_are) (own_arguments.names ∙ put-head.names_are),
              rw (long, ← counted.functions_are) (own_arguments.sorts ∙ put-head.sorts_are),
              omega (arith, limits.few_arguments),
              kept.arguments_are,
            );
            placed = record {
              variables_are = kept.placed.variables_are;
              defined_are = kept.placed.defined_are;
              functions_are =
                  one_declared_in_order functions _ hold.placed.functions_are
                  (rw (← counted.functions_are) (own_row.declared ∙ put-head.own_declared));
            };
          }

      -- all of its names are put and tested
      pub names_found : {r : ℕ} → r ≡ min head grammar → NamesFound u namesAfter rawAfter formsAfter r
      names_found e =
          let c = u.of.here.command in
          let before = same_header nowhere _ _ (same_scope u.of.counted (own_argument_row p.functions) u.names_hold) c in
          let within = same_grammar nowhere _ _ own_name (view_of u.of.known c) c in
          record {
            place_is = e ∙ ap₂ min (put-head.place_is ∙ before) (put_grammar.place_is ∙ within) ∙ sym (name_is u.of);
            names_hold = rw (after_is u.of) names_grow;
            taken = function_taken;
            listed_are = put_grammar.names_are;
            listed_sorts = put_grammar.sorts_are;
            raw_is = put_grammar.raw_is;
            forms_are = put_grammar.forms_are;
          }
