-- The names and the sorts of a `define-fun` that is not past a limit, and what is put into the tables where they pass.
use Prim.Native.Nat.{ℕ, ◌+◌, ◌-◌, ◌≤◌, ◌<◌, min}
use native.Mathlib.Omega.{arith}
use mathlib.Core.Path.{◌≡◌, refl, sym, ap, ap₂, ◌∙◌}
use mathlib.Core.Bool.{false, ◌||◌}
use mathlib.Core.List.{List, ◌∷◌, ◌++◌, append-nil}
use lib.ListN.{drop, length}
use lib.Seq.{drop-drop, drop-set-lt, length-sets}
use Rattle.forest.specs.Forest.{count as treeCount}
use Rattle.forest.specs.Lists.{same_bytes}
use Rattle.lexemes.specs.Lists.{inside, item, name_of}
use Rattle.lexemes.specs.code.Standing.{Between}
use Rattle.lexemes.specs.code.Table.{next_at}
use Rattle.term_sorts.specs.code.Signatures.{RowsAre, SortsAre}
use Rattle.written_sorts.specs.code.Places.{SortAt}
use Rattle.written_sorts.specs.code.Headers.{HeaderAt}
use Rattle.written_sorts.specs.Written.{header_place, sort_of}
use Rattle.written_sorts.specs.declared.Fault.TheVariants.{Empty, Unknown}
use Rattle.written_sorts.proofs.HeaderSorts.{header_sort}
use Rattle.names.specs.Scopes.{defined_names, in_order, is_named, named_sorts}
use Rattle.names.specs.code.Lookup.{Sees}
use Rattle.names.specs.code.Table.{argument_row, declared_from, defined_row, function_row, names_from, own_argument_row, sorts_from, variable_row}
use Rattle.names.specs.declared.Seen.{Seen}
use Rattle.names.specs.code.Lookup.{SameRows}
use Rattle.names.specs.Earlier.{declared_defined}
use Rattle.names.proofs.NamePut.{same_through}
use Rattle.names.specs.code.New.{names_in}
use Rattle.names.proofs.Members.{same_members, same_name}
use Rattle.script.specs.code.Signatures.{Signing}
use Rattle.script.proofs.Signed.{back_kept}
use Rattle.headers.specs.Heads.{header_names}
use Rattle.forest.specs.Limits.{allowed, most_defined, most_functions}
use Rattle.operators.specs.Sorts.{max_width}
use Rattle.headers.specs.code.Heads.{HeadAt, HeadNamed}
use Rattle.headers.proofs.HeadParts.{items_between}
use Rattle.term_faults.specs.Faults.{body_fault}
use Rattle.term_faults.specs.code.Bodies.{Signed}
use Rattle.script.specs.Naming.{term_names}
use Rattle.script.specs.Script.{arguments_of, body_view, name_place, new_names, scope, sorting_place}
use Rattle.script.specs.code.Places.{bodies_place, functions_place}
use Rattle.script.specs.code.Tables.{After, NamesHold, Tested}
use Rattle.script.specs.code.Taken.{DefinitionTaken}
use Rattle.script.specs.declared.Progress.{Progress}
use Rattle.script.specs.declared.Verdict.{Verdict}
use Rattle.script.proofs.Headers.{Narrow, head_narrow}
use Rattle.script.proofs.NamesKept.{few_before, names_kept, one_declared_in_order, one_more_in_order, same_scope}
use Rattle.script.proofs.OneTermMore.{definition_held}
use Rattle.script.proofs.WordsBelow.{command_below, command_word}
use Rattle.commands.specs.code.DefineFun.{DefinitionPut, Putting, Settled, Within, scope_before}
use Rattle.commands.specs.code.TermTests.{Judges, Judging, verdict_of}
use Rattle.commands.specs.declared.TermTest.{TermTest}
use Rattle.commands.proofs.TermStanding.{body_grown, body_judging}
use Rattle.commands.proofs.DefinitionItems.{body_here, defined_by, first_symbol, headed, header_here, is_definition, limit_is, long_enough, names_are}
use Rattle.commands.proofs.DefinitionItems.{no-grammar, one_more, same_assumptions, same_constraints, same_functions, same_variables, sorts_are}
use Rattle.commands.proofs.TermVerdicts.{body_says, command_fits, passed_rows}

-- The rows that a body with so many arguments sees.
abbrev pub body_seen : Progress → (count : ℕ) → Seen
body_seen p count = record { first = argument_row; names = count; defined = p.defined; functions = 0; non_terminals = 0 }

-- The test of a body of a sort that has so many nodes.
abbrev pub body_test : Progress → (count sort rows named empty nowhere : ℕ) → TermTest
body_test p count sort rows named empty nowhere = record {
  seen = body_seen p count;
  sort = sort;
  target = record { count = rows; base = p.nodes; nowhere = nowhere };
  named = named;
  empty = empty;
}

-- What is put into the table of places leaves the numbers of synthesized functions what they were.
behind_both : {names places : List ℕ} {n arguments sort row : ℕ} → Signing names places n argument_row arguments sort
    → {placesAfter : List ℕ} → DefinitionPut names places n arguments sort row placesAfter → n < most_defined → drop functions_place placesAfter ≡ drop functions_place places
behind_both {places = places} {n = n} {row = row} given written few =
    let signed = written.signed in
    let more = functions_place - bodies_place in
    ap (drop functions_place) written.put ∙ drop-set-lt functions_place signed (bodies_place + n) row (omega arith)
    ∙ sym (drop-drop more bodies_place signed) ∙ ap (drop more) (back_kept given written.is_signed) ∙ drop-drop more bodies_place places

module _ {text lexemes names raw places nodes : List ℕ} {p : Progress} {rows at nowhere : ℕ} where
  -- Its head keeps to the limits.
  pub its_head : (w : Within text lexemes names raw places nodes p rows at nowhere) → Narrow w.of.here.command
  its_head w =
      let is = limit_is nowhere w.of.known at (is_definition w.of) in
      head_narrow nowhere (omega (arith, command_word w.of.here)) w.of.here.command (command_below w.of.here) (omega (arith, w.limited))

  -- There are fewer `define-fun`s than there may be.
  pub definition_fits : Within text lexemes names raw places nodes p rows at nowhere → p.defined < most_defined
  definition_fits w =
      let is = limit_is nowhere w.of.known at (is_definition w.of) in
      let few = command_fits nowhere most_defined (length w.of.known.defined) at (command_word w.of.here) (omega (arith, w.limited)) in
      omega (arith, w.of.counted.defined_are)

  -- Its head may be put into the table of names.
  abbrev pub head_at : Within text lexemes names raw places nodes p rows at nowhere → HeadAt text lexemes names (scope_before p) false at
  head_at w = record {
    close = w.of.here.close;
    command = w.of.here.command;
    more = w.of.here.more;
    end = w.of.here.end;
    stands = w.of.here.stands;
    named = first_symbol w.of;
    long = long_enough w.of;
    shaped = headed w.of;
    narrow = (its_head w).arguments;
    result = (its_head w).result;
    few_arguments = (its_head w).few;
    short = w.of.here.lawful.short;
    low_words = λ i h. omega (arith, w.of.here.lawful.ends i h, w.of.here.few);
    table = w.names_hold.table;
    few = few_before w.of.counted argument_row (omega arith);
    no_arguments = refl;
    one_more = omega (arith, definition_fits w);
  }

  -- The signatures that its body sees.
  pub body_signed : (w : Within text lexemes names raw places nodes p rows at nowhere)
      → Signed places (body_view w.of.known (arguments_of w.of.here.command))
  unfolding RowsAre SortsAre
  body_signed w = record {
    defined_are = w.places_hold.defined_rows;
    functions_are = tt;
    non_terminals_are = tt;
    few_defined = omega (arith, w.of.counted.few_defined, w.of.counted.defined_are);
    few_functions = omega arith;
    few_non_terminals = omega arith;
  }

  module _ {namesAfter : List ℕ} {named : ℕ} (put : (q : HeadAt text lexemes names (scope_before p) false at) → HeadNamed q nowhere namesAfter named) where
    -- Rows before those of `define-fun`s, and the first of these, are what they were.
    same_first : (r m : ℕ) → r + m ≤ defined_row + p.defined → Within text lexemes names raw places nodes p rows at nowhere
        → SameRows namesAfter names r m
    same_first r m h w =
        let n = put (head_at w) in
        same_through (n.kept_name.rows_before r m h) (n.kept_arguments.rows_before r m (omega (arith, definition_fits w)))

    -- So are those of functions.
    same_after : (m : ℕ) → m ≤ most_functions → Within text lexemes names raw places nodes p rows at nowhere → SameRows namesAfter names function_row m
    same_after m h w =
        let n = put (head_at w) in
        same_through (n.kept_name.rows_behind function_row m (omega (arith, definition_fits w))) (n.kept_arguments.rows_before function_row m (omega arith))

    -- And those of their arguments.
    same_own : (j m : ℕ) → Within text lexemes names raw places nodes p rows at nowhere → SameRows namesAfter names (own_argument_row j) m
    same_own j m w =
        let n = put (head_at w) in
        same_through (n.kept_name.rows_behind (own_argument_row j) m (omega (arith, definition_fits w)))
        (n.kept_arguments.rows_behind (own_argument_row j) m (omega (arith, (its_head w).few)))

    -- The word at fault in its head is that by the names that are known.
    named_is : (w : Within text lexemes names raw places nodes p rows at nowhere)
        → named ≡ header_names nowhere (scope w.of.known) w.of.here.command
    unfolding is_named
    named_is w =
        let c = w.of.here.command in
        let n = name_of (item 1 c) in
        let one = names_in names (scope_before p) in
        let other = scope w.of.known in
        let same = same_scope w.of.counted argument_row w.names_hold in
        (put (head_at w)).place_is ∙ ap₂ min (same_name nowhere one other same (item 1 c))
        (ap (λ (place : ℕ). min place (header_place Unknown nowhere c))
        (same_members nowhere (n ∷ one) (n ∷ other) (λ m. ap (◌||◌ (same_bytes n m)) (same m)) (inside 2 c)))

    -- The rows of `define-fun`s are what they were.
    same_defined : (w : Within text lexemes names raw places nodes p rows at nowhere) → SameRows namesAfter names defined_row (length w.of.known.defined)
    same_defined w = rw (← w.of.counted.defined_are) (same_first defined_row p.defined (omega arith) w)

    -- The table has the names that were known before it.
    known_kept : (w : Within text lexemes names raw places nodes p rows at nowhere) → NamesHold namesAfter w.of.known
    known_kept w =
        let k = w.of.known in
        let counted = w.of.counted in
        names_kept (put (head_at w)).table
        (same_first variable_row (length k.variables) (omega (arith, counted.few_variables, counted.variables_are)) w) (same_defined w)
        (same_after (length k.functions) (omega (arith, counted.few_functions, counted.functions_are)) w)
        (λ j m h few. same_own j m w) w.names_hold

    -- And its new names, so where one is taken, what tells by which.
    pub definition_taken : (w : Within text lexemes names raw places nodes p rows at nowhere)
        → DefinitionTaken namesAfter p w.of.known w.of.here.command
    unfolding declared_from new_names
    definition_taken w =
        let t = is_definition w.of in
        let n = put (head_at w) in
        let c = w.of.counted in
        record {
          listing = record {
            table = n.table;
            few = record {
              variables = c.few_variables;
              defined = c.few_defined;
              functions = c.few_functions;
              arguments = omega (arith, (its_head w).few);
            };
            own_fits = omega (arith, definition_fits w);
            few_listed = omega arith;
          };
          placed = (known_kept w).placed;
          new_are = append-nil _ ∙ ap₂ ◌++◌ n.own_declared n.declared_are ∙ rw (t.declares, t.defines);
        }

    -- The table has the names that are known after it.
    pub names_after : (w : Within text lexemes names raw places nodes p rows at nowhere) → NamesHold namesAfter (After w.of)
    names_after w =
        let k = w.of.known in
        let t = is_definition w.of in
        let counted = w.of.counted in
        let hold = w.names_hold in
        let n = put (head_at w) in
        let defined = same_defined w in
        let kept = known_kept w in
        record {
          table = n.table;
          variables_are = rw (same_variables k t) kept.variables_are;
          variable-sorts = rw (same_variables k t) kept.variable-sorts;
          defined_are = rw (one_more k t) (one_more_in_order defined (defined_names k.defined) hold.defined_are
              (rw (← counted.defined_are) n.name_is));
          functions_are = rw (same_functions k t) kept.functions_are;
          arguments_are = rw (same_functions k t) kept.arguments_are;
          placed = record {
            variables_are = rw (same_variables k t) kept.placed.variables_are;
            defined_are = rw (one_more k t) (one_declared_in_order defined (declared_defined k.defined) hold.placed.defined_are
                (rw (← counted.defined_are) n.own_declared));
            functions_are = rw (same_functions k t) kept.placed.functions_are;
          };
        }

  module _ {arguments : ℕ} (ea : arguments ≡ next_at lexemes (at + 2)) {result : ℕ} (er : result ≡ next_at lexemes arguments) where
    -- Its arguments stand between the brackets of their list.
    abbrev pub arguments_here : Within text lexemes names raw places nodes p rows at nowhere → Between lexemes (arguments + 1) (result - 1)
    arguments_here w = items_between ea er (header_here w.of)

    -- The sort of its result.
    abbrev pub result_here : Within text lexemes names raw places nodes p rows at nowhere → SortAt lexemes result
    result_here w = header_sort (header_here w.of) ea er

    module _ {count : ℕ} (counts : (b : Between lexemes (arguments + 1) (result - 1)) → count ≡ treeCount b.items)
        {sort : ℕ} (sorts : (q : SortAt lexemes result) → sort ≡ sort_of q.here.label q.here.operands)
        {namesAfter : List ℕ} {named : ℕ} (put : (q : HeadAt text lexemes names (scope_before p) false at) → HeadNamed q nowhere namesAfter named) where
      -- The sort of its result is not too wide.
      pub sort_low : Within text lexemes names raw places nodes p rows at nowhere → sort ≤ max_width
      sort_low w = omega (arith, sorts (result_here w), (its_head w).result)

      -- The names that its body sees.
      pub body_sees : (w : Within text lexemes names raw places nodes p rows at nowhere)
          → Sees namesAfter (body_seen p count)
          (body_view w.of.known (arguments_of w.of.here.command))
      unfolding in_order names_from
      body_sees w =
          let n = put (head_at w) in
          let counted = w.of.counted in
          record {
            table = n.table;
            names_are = rw (counts (arguments_here w)) n.names_are;
            sorts_are = rw (counts (arguments_here w)) n.sorts_are;
            defined_are = (same_first put defined_row p.defined (omega arith) w).names ∙ rw counted.defined_are w.names_hold.defined_are;
            functions_are = refl;
            non_terminals_are = refl;
            names_fit = omega (arith, counts (arguments_here w), (its_head w).few);
            few_defined = counted.few_defined;
            few_functions = omega arith;
            few_non_terminals = omega arith;
          }

      -- Its body may be tested.
      abbrev pub definition_judging : {empty : ℕ} → Within text lexemes names raw places nodes p rows at nowhere
          → Judging text lexemes namesAfter raw places nodes (body_test p count sort rows named empty nowhere)
      definition_judging w =
          body_judging (body_here w.of ea er refl) w.rest w.raw_is w.counted w.fits nodes w.nodes_room (body_sees w) (body_signed w)
          (sort_low w)

      -- Its signature may be put into the table of places, and where its body begins.
      pub putting : Within text lexemes names raw places nodes p rows at nowhere → Putting namesAfter places p.defined count sort
      putting w = record {
        signing = record {
          table = (put (head_at w)).table;
          fits = omega (arith, counts (arguments_here w), (its_head w).few);
          few = omega (arith, counts (arguments_here w), (its_head w).few);
          low = omega (arith, definition_fits w);
          room = omega (arith, w.places_hold.long);
        };
        few = definition_fits w;
      }

      module _ {empty : ℕ} (empties : (q : HeaderAt lexemes at) → empty ≡ header_place Empty nowhere q.here.operands)
          {rawLast nodesAfter : List ℕ} {v : Verdict}
          (judged : Judges text lexemes namesAfter raw places nodes (body_test p count sort rows named empty nowhere) rawLast nodesAfter v) where
        -- The verdict by the words at fault.
        verdict_by : (w : Within text lexemes names raw places nodes p rows at nowhere)
            → v ≡ verdict_of nowhere (name_place nowhere w.of.known w.of.here.command) (sorting_place nowhere w.of.known w.of.here.command) rows
        verdict_by w =
            let c = w.of.here.command in
            let k = w.of.known in
            let t = is_definition w.of in
            let view = body_view k (arguments_of c) in
            let names = ap (λ (place : ℕ). min place (term_names nowhere view (item 4 c) (inside 4 c))) (named_is put w) ∙ sym (names_are nowhere k at t) in
            let fault = ap (λ (s : ℕ). body_fault nowhere view s (item 4 c) (inside 4 c)) (sorts (result_here w)) in
            let places = ap₂ min (empties (header_here w.of)) fault ∙ sym (sorts_are nowhere k at t) in
            (judged (definition_judging w)).verdict_is ∙ ap₂ (λ (a b : ℕ). verdict_of nowhere a b rows) names places

        -- The verdict is that of its tests.
        its_verdict : (w : Within text lexemes names raw places nodes p rows at nowhere) → Tested w.of v
        its_verdict w =
            body_says allowed nowhere w.of.known at w.of.here.command (After w.of) v rows w.limited
            (no-grammar nowhere w.of.known at (is_definition w.of)) (verdict_by w)

        -- The table of nodes is as long as it was.
        nodes_kept : (w : Within text lexemes names raw places nodes p rows at nowhere) → length nodesAfter ≡ length nodes
        nodes_kept w = ap length (judged (definition_judging w)).nodes_are ∙ simp length-sets

        -- A name or a sort is at fault.
        pub definition_refused : 0 < v.number → (w : Within text lexemes names raw places nodes p rows at nowhere)
            → Settled w namesAfter rawLast places nodesAfter v
        definition_refused h w = record {
          verdict_is = its_verdict w;
          names_hold = λ e. absurd (omega arith);
          taken = λ e. definition_taken put w;
          places_hold = λ e. absurd (omega arith);
          within = λ e. absurd (omega arith);
          kept = refl;
          raw_long = (judged (definition_judging w)).raw_long;
          nodes_long = nodes_kept w;
        }

        -- It passes, and its signature and where its body begins are put into the table of places.
        pub definition_known : v.number ≤ 0 → {placesAfter : List ℕ} → DefinitionPut namesAfter places p.defined count sort p.nodes placesAfter
            → (w : Within text lexemes names raw places nodes p rows at nowhere) → Settled w namesAfter rawLast placesAfter nodesAfter v
        definition_known h {placesAfter} written w =
            let c = w.of.here.command in
            let k = w.of.known in
            let t = is_definition w.of in
            let counted = w.of.counted in
            let given = (putting w).signing in
            let taken = passed_rows nowhere _ _ rows (verdict_by w) (omega arith) in
            let grown = body_grown (body_here w.of ea er refl) w.rest w.raw_is w.counted w.fits nodes w.nodes_room
            (body_view k (arguments_of c)) refl (judged (definition_judging w)).nodes_are in
            let arguments : named_sorts (arguments_of c) ≡ sorts_from namesAfter argument_row count = rw (counts (arguments_here w)) (sym (put (head_at w)).sorts_are) in
            record {
              verdict_is = its_verdict w;
              names_hold = λ e. names_after put w;
              taken = λ e. absurd (omega arith);
              places_hold = λ e. rw taken (definition_held w.places_hold grown given written.is_signed counted.defined_are (definition_fits w)
                  (omega (arith, counted.few_functions, counted.functions_are)) written.put (defined_by k c) arguments (sym (sorts (result_here w)))
                  (sort_low w) refl (one_more k t) (same_functions k t) (same_constraints k t) (same_assumptions k t));
              within = λ e. rw taken w.fits;
              kept = behind_both given written (definition_fits w);
              raw_long = (judged (definition_judging w)).raw_long;
              nodes_long = nodes_kept w;
            }
