-- The sorts of a `synth-fun`: what the tests of its sorts and of its grammar ask, where its names are in order.
use Prim.Native.Nat.{ℕ, zero, suc, ◌+◌, ◌-◌, ◌*◌, ◌≤◌, ◌<◌, min}
use native.Mathlib.Nat.{add-zero}
use native.Mathlib.Omega.{arith}
use mathlib.Core.Path.{◌≡◌, refl, sym, ap, ap₂, ◌∙◌, subst}
use mathlib.Core.List.{List, [], ◌∷◌, ◌++◌, append_assoc}
use lib.ListN.{drop, get_or, length, length-drop, length-map, take}
use lib.Seq.{drop_at, drop-drop, length-sets, length-take-le, sets, sets-eq, take_all}
use Rattle.forest.specs.Forest.{Node, count, nodes_of}
use Rattle.terms.specs.code.Nodes.{row_width as nodeWidth}
use Rattle.term_sorts.specs.code.Forms.{sort_column}
use Rattle.term_sorts.specs.code.Signatures.{RowsAre, SortsAre, non_terminal_signature}
use Rattle.lexemes.specs.Lists.{Items, inside, item, name_of}
use Rattle.bodies.specs.code.Bodies.{no_sorts}
use Rattle.bodies.proofs.TablePart.{sorts_long}
use Rattle.term_nodes.specs.Terms.{Raw}
use Rattle.names.specs.Scopes.{Defined, View, forms_of, names_of, named_sorts}
use Rattle.names.specs.code.Lookup.{source_of}
use Rattle.names.specs.code.Table.{non_terminal_row, sort_in, sorts_from}
use Rattle.names.specs.Unknown.{unknown_in}
use Rattle.names.specs.New.{named_by, new_pairs}
use Rattle.written_sorts.specs.code.Headers.{HeaderAt}
use Rattle.written_sorts.specs.Written.{grammar_sorts, header_place}
use Rattle.written_sorts.specs.declared.Fault.TheVariants.{Empty, Unknown}
use Rattle.written_sorts.proofs.HeaderSorts.{header}
use Rattle.term_faults.specs.Faults.{rule_misfit, scope_of}
use Rattle.term_faults.specs.code.Grammars.{RulesFound, RulesSought}
use Rattle.term_faults.specs.code.Bodies.{Signed}
use Rattle.headers.specs.Heads.{header_names}
use Rattle.grammars.specs.Grammars.{grammar_names, list_misfit}
use Rattle.grammars.specs.code.Read.{Declared, ListsTested, Sorted, Sorting}
use Rattle.term_nodes.specs.Rules.{sides}
use Rattle.term_nodes.specs.code.RuleGathering.{start_table}
use Rattle.term_nodes.specs.declared.Gathered.{Gathered}
use Rattle.script.specs.code.Signatures.{Listed, Listing}
use Rattle.script.proofs.Headers.{narrow_sort}
use Rattle.script.proofs.SortsPut.{rows_before}
use Rattle.script.specs.Script.{Known, arguments_of, scope, sorting_place, view_of}
use Rattle.script.specs.code.Places.{bodies_place, own_rules}
use Rattle.script.specs.code.Tables.{defined_signatures}
use Rattle.script.specs.declared.Progress.{Progress}
use Rattle.synth_fun.specs.code.Synthesizing.{forms_said, ruled_by}
use Rattle.synth_fun.specs.code.SortTests.{Comparing, Unsorted, from_place}
use Rattle.synth_fun.specs.declared.Header.{Header}
use Rattle.script.proofs.Within.{past_neither, past_none}
use Rattle.synth_fun.proofs.SynthFunParts.{Small, closes_within, name_is, nodes_rise, nodes_say, rules_trees, small, sorting_is, synth_at}
use Rattle.synth_fun.proofs.SynthFunParts.{synth_named, synth_shaped}
use Rattle.names.proofs.PairNames.{named_long}
use Rattle.synth_fun.proofs.RulesSaid.{forms_size, length_forms}

-- No place is past nowhere.
unknown_most : (nowhere : ℕ) (view : View) (nodes : List (Node Raw)) → unknown_in nowhere view nodes ≤ nowhere
unfolding unknown_in
unknown_most nowhere view [] = omega arith
unknown_most nowhere view (n ∷ more) = omega (arith, unknown_most nowhere view more)

-- The sort in one of the rows.
sort_in_row : (names : List ℕ) (r n j : ℕ) → j < n → sort_in names (r + j) ≡ get_or (sorts_from names r n) j 0
unfolding sorts_from
sort_in_row names r zero j h = absurd (omega arith)
sort_in_row names r (suc n) zero h = rw add-zero
sort_in_row names r (suc n) (suc j) h = let next : r + suc j ≡ r + 1 + j = omega arith in rw next (sort_in_row names (r + 1) n j (omega arith))

-- What is written into a table from a place on stands there.
pub written_there : (l : List ℕ) (at : ℕ) (vs : List ℕ) → at + length vs ≤ length l → drop at (sets l at vs) ≡ vs ++ drop (at + length vs) l
written_there l at vs h = ap (drop at) (sets-eq vs l at h) ∙ rw append_assoc (drop_at (take at l) _ at (length-take-le at l (omega arith)))

-- What is the same behind one place is the same behind a later one.
pub same_behind : (n : ℕ) (l m : List ℕ) → drop n l ≡ drop n m → (d : ℕ) → n ≤ d → drop d l ≡ drop d m
same_behind n l m same d far =
    let at : n + (d - n) ≡ d = omega arith in
    rw at at (sym (drop-drop (d - n) n l) ∙ ap (drop (d - n)) same ∙ drop-drop (d - n) n m)

-- The sorts of the nodes of its rules.
abbrev pub column_said : Known → Items → List ℕ
column_said k c = sort_column (scope_of (view_of k c)) (forms_of (view_of k c) (sides (ruled_by c)))

-- ---- the least word at fault in what the command lists

module _ {text lexemes names raw places column : List ℕ} {p : Progress} {g : Gathered} {h : Header} {i first : ℕ} (first_is : first ≡ own_rules p.functions) where
  -- the rules from a place on
  pub rules-from : Comparing text lexemes names raw places column p g h i → RulesSought lexemes raw (from_place first places) places column g.rule h.listed
  rules-from q = subst (λ (n : ℕ). RulesSought lexemes raw (from_place n places) places column g.rule h.listed) (sym first_is) q.rules

  -- the least of two
  pub misfit_found : (nowhere : ℕ) {lists : ℕ} → ((q : Declared text lexemes names i h.listed) → ListsTested q nowhere lists)
      → {misfits : ℕ} → ((q : RulesSought lexemes raw (from_place first places) places column g.rule h.listed) → RulesFound q nowhere misfits)
      → {r : ℕ} → r ≡ min lists misfits → (q : Comparing text lexemes names raw places column p g h i)
      → r ≡ min (list_misfit nowhere q.lists.view q.lists.command) (rule_misfit nowhere q.rules.view q.rules.ruled)
  misfit_found nowhere by-lists {misfits} by-rules e q =
      let there =
      subst (λ (n : ℕ). (q : RulesSought lexemes raw (from_place n places) places column g.rule h.listed) → RulesFound q nowhere misfits) first_is by-rules in
      e ∙ ap₂ min (by-lists q.lists) (there q.rules)

-- ---- a command whose names are in order

module _ {text lexemes names raw places forms : List ℕ} {p : Progress} {g : Gathered} {h : Header} {i nowhere : ℕ}
    (s : Unsorted text lexemes names raw places forms p g h i nowhere) where
  -- it is within its limits
  pub limits : Small s.given.of.here.command p.functions
  limits = small s.given.of s.limited

  -- its non-terminals may be put into their rows
  pub listing_here : Listing names places h.listed
  unfolding sorts_from
  listing_here = record {
    table = s.names_hold.table;
    few = omega (arith, s.header.listed_are, limits.few_listed);
    room = omega (arith, s.given.places_hold.long);
    narrow = λ j low t e.
        let pairs = inside 4 s.given.of.here.command in
        let here : sort_in names (non_terminal_row + j) ≡ t = cc in
        let below : j < count pairs = omega (arith, s.header.listed_are) in
        rw (← here, sort_in_row names non_terminal_row (count pairs) j below, s.listed_sorts) (narrow_sort pairs j limits.narrow_listed);
  }

  -- its header stands there
  abbrev pub header_at : HeaderAt lexemes i
  header_at = header (synth_at s.given.of)

  -- there is room for the forms
  pub forms_fit : nodeWidth * p.forms + length (forms_said s.given.of.known s.given.of.here.command) ≤ length s.lent_forms
  forms_fit =
      let view = view_of s.given.of.known s.given.of.here.command in
      let F = sides (ruled_by s.given.of.here.command) in
      let end = closes_within s.given.of in
      omega (arith, length_forms (forms_of view F), forms_size view F, s.rows_are, s.within, s.given.within, s.given.forms_room)

  -- the table of forms is as long as it was
  pub forms_long : length forms ≡ length s.lent_forms
  forms_long = ap length s.forms_are ∙ length-sets s.lent_forms (nodeWidth * p.forms) (forms_said s.given.of.known s.given.of.here.command)

  -- for each of their nodes
  pub forms_room : nodeWidth * (p.forms + g.row) ≤ length forms
  forms_room =
      let view = view_of s.given.of.known s.given.of.here.command in
      let F = sides (ruled_by s.given.of.here.command) in
      omega (arith, length_forms (forms_of view F), forms_size view F, s.rows_are, forms_fit, forms_long)

  -- the forms start within it
  pub forms_start : nodeWidth * p.forms ≤ length forms
  forms_start = omega (arith, forms_long, forms_fit)

  -- and stand there
  pub forms_there : drop (nodeWidth * p.forms) forms
      ≡ forms_said s.given.of.known s.given.of.here.command
      ++ drop (nodeWidth * p.forms + length (forms_said s.given.of.known s.given.of.here.command)) s.lent_forms
  forms_there =
      ap (drop (nodeWidth * p.forms)) s.forms_are
      ∙ written_there s.lent_forms (nodeWidth * p.forms) (forms_said s.given.of.known s.given.of.here.command) forms_fit

  -- up to its end
  pub forms_part : from_place (nodeWidth * p.forms) forms
      ≡ forms_said s.given.of.known s.given.of.here.command
      ++ drop (nodeWidth * p.forms + length (forms_said s.given.of.known s.given.of.here.command)) s.lent_forms
  forms_part =
      take_all (length forms - nodeWidth * p.forms) (drop (nodeWidth * p.forms) forms) (omega (arith, length-drop (nodeWidth * p.forms) forms)) ∙ forms_there

  -- the names of its rules are known
  pub names_known : unknown_in nowhere (view_of s.given.of.known s.given.of.here.command) (nodes_of (sides (ruled_by s.given.of.here.command)))
      ≡ nowhere
  names_known =
      let k = s.given.of.known in
      let c = s.given.of.here.command in
      let own = names_of (arguments_of c) ++ name_of (item 1 c) ∷ scope k in
      let nodes = nodes_of (sides (ruled_by c)) in
      let parts = past_neither (header_names nowhere (scope k) c) (grammar_names nowhere own (view_of k c) c) (rw (name_is s.given.of) at s.named) in
      let known = (past_none (new_pairs nowhere own (inside 4 c)) (grammar_sorts Unknown nowhere c) (unknown_in nowhere (view_of k c) nodes) parts.1).2 in
      omega (arith, unknown_most nowhere (view_of k c) nodes)

  -- what its grammar lists may be tested
  abbrev pub lists_here : Declared text lexemes names i h.listed
  lists_here = record {
    close = s.given.of.here.close;
    command = s.given.of.here.command;
    more = s.given.of.here.more;
    end = s.given.of.here.end;
    stands = s.given.of.here.stands;
    named = synth_named s.given.of;
    shaped = synth_shaped s.given.of;
    table = s.names_hold.table;
    view = view_of s.given.of.known s.given.of.here.command;
    names_are = rw s.header.listed_are s.listed_are;
    sorts_are = rw s.header.listed_are s.listed_sorts;
    few = omega (arith, s.header.listed_are, limits.few_listed);
  }

  module _ {placesBetween : List ℕ} (listed : Listed names places h.listed placesBetween) where
    -- the non-terminals' sorts stand in their rows
    pub non_terminals_are : SortsAre placesBetween non_terminal_signature (named_sorts (named_by (inside 4 s.given.of.here.command)))
    non_terminals_are = rw (s.header.listed_are, s.listed_sorts) at listed.sorts_are

    -- the rows hold what its rules see
    pub signed : Signed placesBetween (view_of s.given.of.known s.given.of.here.command)
    unfolding RowsAre
    signed =
        let k = s.given.of.known in
        let counted = s.given.of.counted in
        let long = length-map k.defined (λ (d : Defined). d.definition.signature) in
        record {
          defined_are =
              rows_before listed 0 (defined_signatures k.defined) (omega (arith, long, counted.defined_are, counted.few_defined))
              s.given.places_hold.defined_rows;
          functions_are = tt;
          non_terminals_are = non_terminals_are;
          few_defined = omega (arith, counted.defined_are, counted.few_defined);
          few_functions = omega arith;
          few_non_terminals = omega (arith, named_long (inside 4 s.given.of.here.command), limits.few_listed);
        }

    -- its rules start within the table
    pub rules_start : {first : ℕ} → first ≡ own_rules p.functions → first ≤ length placesBetween
    rules_start first_is = omega (arith, listed.long, s.given.places_hold.long, limits.one_more)

    -- and stand there
    pub rules_there : {first : ℕ} → first ≡ own_rules p.functions
        → from_place first placesBetween ≡ start_table 0 (ruled_by s.given.of.here.command) ++ s.more
    rules_there {first} first_is =
        take_all (length placesBetween - first) (drop first placesBetween) (omega (arith, length-drop first placesBetween))
        ∙ same_behind bodies_place placesBetween places listed.behind first (omega arith)
        ∙ ap (λ (n : ℕ). drop n places) first_is
        ∙ s.rules_are

    module _ {column : List ℕ} (blank : column ≡ no_sorts) where
      -- there is a row for each node
      pub column_room : g.row ≤ length column
      column_room = rw (blank, sorts_long) (omega (arith, s.within, closes_within s.given.of, s.given.of.here.few))

      -- the sorts of its rules may be looked for
      abbrev pub sorting_here : Sorting lexemes raw (from_place (nodeWidth * p.forms) forms) placesBetween column i g.row nowhere
      sorting_here = record {
        command = synth_at s.given.of;
        sought = record {
          source = source_of text lexemes;
          lawful = s.given.of.here.lawful;
          F = sides (ruled_by s.given.of.here.command);
          rest = s.rest;
          is_raw = s.raw_is;
          counted = s.rows_are;
          say = nodes_say s.given.of;
          rising = nodes_rise s.given.of;
          narrow_nodes = limits.narrow_nodes;
          view = view_of s.given.of.known s.given.of.here.command;
          narrow_names = λ j. narrow_sort (inside 2 s.given.of.here.command) j limits.narrow_arguments;
          known = names_known;
          more = drop (nodeWidth * p.forms + length (forms_said s.given.of.known s.given.of.here.command)) s.lent_forms;
          is_forms = forms_part;
          signed = signed;
          room = column_room;
        };
        is = refl;
      }

      module _ {columnAfter : List ℕ} {within : ℕ}
          (tested : (q : Sorting lexemes raw (from_place (nodeWidth * p.forms) forms) placesBetween column i g.row nowhere)
          → Sorted q columnAfter within) where
        -- the least word at fault in a sort
        pub sorting-place : {head : ℕ} → ((q : HeaderAt lexemes i) → head ≡ header_place Empty nowhere q.here.operands)
            → {r : ℕ} → r ≡ min head within → r ≡ sorting_place nowhere s.given.of.known s.given.of.here.command
        sorting-place by-head e = e ∙ ap₂ min (by-head header_at) (tested sorting_here).place_is ∙ sym (sorting_is s.given.of)

        -- the sorts of its rules may be compared
        abbrev pub rules_here : {first : ℕ} → first ≡ own_rules p.functions
            → RulesSought lexemes raw (from_place first placesBetween) placesBetween columnAfter g.rule h.listed
        rules_here first_is = record {
          ruled = ruled_by s.given.of.here.command;
          single = rules_trees s.given.of;
          rest = s.rest;
          is_raw = s.raw_is;
          others = s.more;
          is_rules = rules_there first_is;
          counted = s.counted;
          view = view_of s.given.of.known s.given.of.here.command;
          more = drop (length (column_said s.given.of.known s.given.of.here.command)) column;
          is_column = (tested sorting_here).column_is;
          sorts_are = non_terminals_are;
          listed_are = s.header.listed_are ∙ sym (named_long (inside 4 s.given.of.here.command));
          few = omega (arith, s.header.listed_are, limits.few_listed);
        }

        -- what it lists may be tested
        abbrev pub comparing_here : Comparing text lexemes names raw placesBetween columnAfter p g h i
        comparing_here =
            record { lists = lists_here; one_more = omega (arith, limits.one_more); room = rules_start refl; rules = rules_here refl }
