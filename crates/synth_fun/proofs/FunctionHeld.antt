-- One function more in the tables of places and of forms: what stood in them stands, and its signature, numbers, rules and forms are there.
use Prim.Native.Nat.{ℕ, ◌+◌, ◌-◌, ◌*◌, ◌≤◌, ◌<◌}
use native.Mathlib.Nat.{add-zero}
use native.Mathlib.Omega.{arith}
use mathlib.Core.Path.{◌≡◌, refl, sym, ap, ◌∙◌}
use mathlib.Core.List.{List, ◌∷◌, map}
use lib.ListN.{drop, get_or, length, length-map, take}
use lib.Seq.{drop-drop, get_or-drop, length-sets, sets, take_at}
use Rattle.forest.specs.code.Cursors.{size}
use Rattle.lexemes.specs.Lists.{inside}
use Rattle.terms.specs.code.Nodes.{row_width as nodeWidth}
use Rattle.derivation.specs.code.Rules.{rule_width}
use Rattle.derivation.specs.code.Tables.{form_table, right_sides, rule_table}
use Rattle.term_sorts.specs.code.Signatures.{function_signature, signature_width}
use Rattle.names.specs.Scopes.{Defined, forms_of, signature_of, named_sorts}
use Rattle.names.specs.code.Table.{own_argument_row, sorts_from}
use Rattle.term_nodes.specs.Rules.{sides}
use Rattle.term_nodes.specs.code.RuleGathering.{start_table}
use Rattle.term_nodes.specs.declared.Gathered.{Gathered}
use Rattle.term_nodes.proofs.Listing.{length_starts}
use Rattle.script.specs.code.Signatures.{Listed, Signing, signature_row}
use Rattle.script.proofs.Signed.{back_kept, length_sorts, rows_grow, rows_kept}
use Rattle.script.proofs.SortsPut.{rows_before}
use Rattle.script.proofs.Written.{before_written, drop_written, read_written}
use Rattle.script.specs.Script.{arguments_of, view_of, definitions_of}
use Rattle.forest.specs.Limits.{first_assumption, most_arguments}
use Rattle.script.specs.code.Tables.{ArgumentsHold, GrammarHeld, GrammarsHold, PlacesHold, defined_signatures}
use Rattle.script.specs.code.Places.{arguments_in, bodies_place, constraints_place, function_width, functions_place, own_rules, places_length, rule_count_in, rules_of}
use Rattle.script.specs.code.Places.{rules_place, sorts_of}
use Rattle.script.specs.declared.Progress.{Progress}
use Rattle.synth_fun.specs.code.Synthesizing.{forms_said, ruled_by}
use Rattle.synth_fun.specs.code.Rows.{Put, Putting, numbers_of}
use Rattle.synth_fun.specs.code.SortTests.{Unsorted}
use Rattle.synth_fun.specs.declared.Header.{Header}
use Rattle.names.proofs.PairNames.{named_long}
use Rattle.synth_fun.proofs.FunctionKnown.{after_is, function_of, with_function}
use Rattle.synth_fun.proofs.RulesSaid.{forms_size, length_forms, said_long, sides_said, starts_said}
use Rattle.synth_fun.proofs.SortsSought.{forms_there, limits, same_behind, written_there}
use Rattle.synth_fun.proofs.TablesKept.{Same, bodies_same, stated_same, grammars_kept, part_before, rows_elsewhere}

module _ {text lexemes names raw places forms : List ℕ} {p : Progress} {g : Gathered} {h : Header} {i nowhere : ℕ}
    (s : Unsorted text lexemes names raw places forms p g h i nowhere)
    {placesBetween : List ℕ} (listed : Listed names places h.listed placesBetween) where
  -- its signature may be written
  pub signing_here : Signing names placesBetween (function_signature + p.functions) (own_argument_row p.functions) h.arguments h.result
  signing_here = record {
    table = s.names_hold.table;
    fits = omega (arith, (limits s).one_more, (limits s).few_arguments, s.header.arguments_are);
    few = omega (arith, (limits s).few_arguments, s.header.arguments_are);
    low = omega (arith, (limits s).one_more);
    room = omega (arith, s.given.places_hold.long, listed.long);
  }

  -- and its numbers
  pub putting_here : Putting names placesBetween p h
  putting_here = record {
    table = signing_here;
    room = listed.long ∙ s.given.places_hold.long;
    one_more = (limits s).one_more;
  }

  -- the sorts of its arguments stand in their rows
  own_sorts : named_sorts (arguments_of s.given.of.here.command) ≡ sorts_from names (own_argument_row p.functions) h.arguments
  unfolding ArgumentsHold
  own_sorts =
      let c = s.given.of.here.command in
      let hold = rw (after_is s.given.of) at s.names_hold in
      rw (s.header.arguments_are, ← named_long (inside 2 c), s.given.of.counted.functions_are) (sym hold.arguments_are.1)

  -- the table with its signature
  with_signature : List ℕ
  with_signature =
      sets placesBetween (signature_width * (function_signature + p.functions))
      (signature_row names (own_argument_row p.functions) h.arguments h.result)

  -- it is as long as it was
  signature_long : length with_signature ≡ places_length
  unfolding with_signature
  signature_long =
      length-sets placesBetween _ (signature_row names (own_argument_row p.functions) h.arguments h.result)
      ∙ listed.long
      ∙ s.given.places_hold.long

  -- what stands behind the signatures is what it was
  far_same : (d : ℕ) → bodies_place ≤ d → drop d with_signature ≡ drop d places
  unfolding with_signature
  far_same d far = same_behind bodies_place with_signature places (back_kept signing_here refl ∙ listed.behind) d far

  module _ {placesAfter : List ℕ} (put : Put names placesBetween p g h placesAfter) where
    -- its numbers are written last
    put_last : placesAfter ≡ sets with_signature (functions_place + function_width * p.functions) (numbers_of p g)
    unfolding with_signature
    put_last = put.is

    -- the table is as long as it was
    pub places_long : length placesAfter ≡ places_length
    places_long = ap length put_last ∙ length-sets with_signature (functions_place + function_width * p.functions) (numbers_of p g) ∙ signature_long

    -- what stands before its numbers
    number_before : (j : ℕ) → j < functions_place + function_width * p.functions → get_or placesAfter j 0 ≡ get_or with_signature j 0
    number_before j low = rw put_last (before_written with_signature (functions_place + function_width * p.functions) (numbers_of p g) j low)

    -- what stands behind the numbers of functions
    rules_same : (d : ℕ) → functions_place + rules_place 0 ≤ d → drop d placesAfter ≡ drop d places
    rules_same d far =
        ap (drop d) put_last
        ∙ drop_written d with_signature (functions_place + function_width * p.functions) (numbers_of p g) (omega (arith, (limits s).one_more))
        ∙ far_same d (omega arith)

    -- what stands before its numbers and behind the signatures
    number_kept : (j : ℕ) → bodies_place ≤ j → j < functions_place + function_width * p.functions → get_or placesAfter j 0 ≡ get_or places j 0
    number_kept j far low =
        let at : j ≡ bodies_place + (j - bodies_place) = omega arith in
        number_before j low
        ∙ rw at
        (sym (get_or-drop bodies_place with_signature (j - bodies_place) 0)
        ∙ ap (λ (l : List ℕ). get_or l (j - bodies_place) 0) (far_same bodies_place (omega arith))
        ∙ get_or-drop bodies_place places (j - bodies_place) 0)

    -- the tables hold one function more
    pub places_grow : PlacesHold placesAfter s.given.nodes p.nodes (with_function s.given.of.known s.given.of.here.command)
    unfolding with_signature
    places_grow =
        let k = s.given.of.known in
        let c = s.given.of.here.command in
        let held = s.given.places_hold in
        let counted = s.given.of.counted in
        let defined = length-map k.defined (λ (d : Defined). d.definition.signature) in
        let bodies = length-map k.defined (λ (d : Defined). d.definition) in
        let functions = length-map k.functions signature_of in
        let earlier = map signature_of k.functions in
        let low : (j : ℕ) → j < bodies_place → get_or placesAfter j 0 ≡ get_or with_signature j 0 = λ j h. number_before j (omega arith) in
        let d-low : length (defined_signatures k.defined) ≤ function_signature = omega (arith, counted.defined_are, counted.few_defined) in
        let grown = rows_grow signing_here refl function_signature (signature_of (function_of k c)) earlier (omega (arith, counted.functions_are)) own_sorts
        (sym s.header.result_is)
        (omega (arith, s.header.result_is, (limits s).narrow_result))
        (rows_before listed function_signature earlier (omega (arith, counted.functions_are, counted.few_functions)) held.function_rows) in
        record {
          long = places_long;
          defined_rows = rows_elsewhere with_signature placesAfter low 0 (defined_signatures k.defined) (omega arith)
              (rows_kept signing_here refl 0 (defined_signatures k.defined) (λ j h e. omega arith)
              (rows_before listed 0 (defined_signatures k.defined) (omega arith) held.defined_rows));
          function_rows = rows_elsewhere with_signature placesAfter low function_signature (signature_of (function_of k c) ∷ earlier)
              (omega (arith, counted.functions_are, counted.few_functions)) grown;
          all = held.all;
          rest = held.rest;
          nodes_are = held.nodes_are;
          rows_are = held.rows_are;
          plain = held.plain;
          bodies_at = bodies_same held.all _ _ 0 (definitions_of k.defined) (λ j h. rw (get_or-drop, get_or-drop)
              (number_kept (bodies_place + (0 + j)) (omega arith) (omega (arith, counted.defined_are, counted.few_defined)))) held.bodies_at;
          constraints_at = stated_same held.all places placesAfter 0 k.constraints (λ j h.
              number_kept (constraints_place + j) (omega arith) (omega (arith, counted.constraints_are, counted.few_constraints))) held.constraints_at;
          assumptions_at = stated_same held.all places placesAfter first_assumption k.assumptions (λ j h.
              number_kept (constraints_place + j) (omega arith) (omega (arith, counted.assumptions_are, counted.few_assumptions))) held.assumptions_at;
        }

    -- the tables have what they had of the functions before it
    same_tables : Same (drop functions_place places) (drop functions_place placesAfter) s.lent_forms forms p.functions p.forms
    same_tables = record {
      number = λ j m low few.
          get_or-drop functions_place placesAfter (function_width * j + m) 0
          ∙ number_kept (functions_place + (function_width * j + m)) (omega arith) (omega arith)
          ∙ sym (get_or-drop functions_place places (function_width * j + m) 0);
      rules = λ j n low few.
          ap (take n)
          (drop-drop (rules_place j) functions_place placesAfter
          ∙ rules_same (functions_place + rules_place j) (omega arith)
          ∙ sym (drop-drop (rules_place j) functions_place places));
      part = λ first n low.
          ap (λ (l : List ℕ). take (nodeWidth * n) (drop (nodeWidth * first) l)) s.forms_are
          ∙ part_before (nodeWidth * n) (nodeWidth * first) s.lent_forms (nodeWidth * p.forms)
          (forms_said s.given.of.known s.given.of.here.command) (omega arith);
    }

    -- one of its own numbers
    number_put : (m : ℕ) → m < function_width → get_or (drop functions_place placesAfter) (function_width * p.functions + m) 0 ≡ get_or (numbers_of p g) m 0
    number_put m few =
        let at : functions_place + (function_width * p.functions + m) ≡ functions_place + function_width * p.functions + m = omega arith in
        get_or-drop functions_place placesAfter (function_width * p.functions + m) 0
        ∙ rw (at, put_last)
        (read_written with_signature (functions_place + function_width * p.functions) (numbers_of p g) m (omega (arith, signature_long, (limits s).one_more)) few)

    -- its rules
    rules_put : take (rule_width * g.rule) (drop (rules_place p.functions) (drop functions_place placesAfter))
        ≡ start_table 0 (ruled_by s.given.of.here.command)
    rules_put =
        let c = s.given.of.here.command in
        ap (take (rule_width * g.rule))
        (drop-drop (rules_place p.functions) functions_place placesAfter ∙ rules_same (own_rules p.functions) (omega arith) ∙ s.rules_are)
        ∙ take_at (start_table 0 (ruled_by c)) s.more (rule_width * g.rule) (length_starts 0 (ruled_by c) ∙ ap (λ (n : ℕ). rule_width * n) (sym s.counted))

    -- how many there are
    pub rules_counted : rule_count_in placesAfter p.functions ≡ g.rule
    rules_counted =
        let at : functions_place + (function_width * p.functions + 2) ≡ functions_place + function_width * p.functions + 2 = omega arith in
        rw at at (sym (get_or-drop functions_place placesAfter (function_width * p.functions + 2) 0) ∙ number_put 2 (omega arith))

    -- they are those of its grammar
    pub rules_grammar : rules_of placesAfter p.functions
        ≡ rule_table 0 (function_of s.given.of.known s.given.of.here.command).grammar.rules
    rules_grammar =
        let c = s.given.of.here.command in
        ap (λ (n : ℕ). take (rule_width * n) (drop (own_rules p.functions) placesAfter)) rules_counted
        ∙ ap (take (rule_width * g.rule)) (sym (drop-drop (rules_place p.functions) functions_place placesAfter))
        ∙ rules_put
        ∙ sym (starts_said (view_of s.given.of.known c) 0 (ruled_by c))

    -- its signature
    pub arguments_counted : arguments_in placesAfter p.functions ≡ h.arguments
    unfolding with_signature
    arguments_counted =
        let at = signature_width * (function_signature + p.functions) in
        let row = signature_row names (own_argument_row p.functions) h.arguments h.result in
        let long = length_sorts names (own_argument_row p.functions) h.arguments in
        number_before at (omega (arith, (limits s).one_more))
        ∙ rw add-zero at (read_written placesBetween at row 0
        (omega (arith, listed.long, s.given.places_hold.long, (limits s).one_more, (limits s).few_arguments, s.header.arguments_are)) (omega arith))

    -- the sorts of its arguments
    pub sorts_grammar : sorts_of placesAfter p.functions ≡ named_sorts (arguments_of s.given.of.here.command)
    unfolding with_signature
    sorts_grammar =
        let at = signature_width * (function_signature + p.functions) in
        let sorts = sorts_from names (own_argument_row p.functions) h.arguments in
        let row = signature_row names (own_argument_row p.functions) h.arguments h.result in
        let long = length_sorts names (own_argument_row p.functions) h.arguments in
        let few : h.arguments ≤ most_arguments = omega (arith, (limits s).few_arguments, s.header.arguments_are) in
        ap (λ (n : ℕ). take n (drop (at + 2) placesAfter)) arguments_counted
        ∙ ap (λ (l : List ℕ). take h.arguments (drop (at + 2) l)) put_last
        ∙ part_before h.arguments (at + 2) with_signature (functions_place + function_width * p.functions) (numbers_of p g)
        (omega (arith, (limits s).one_more))
        ∙ ap (take h.arguments) (sym (drop-drop 2 at with_signature))
        ∙ ap (λ (l : List ℕ). take h.arguments (drop 2 l))
        (written_there placesBetween at row (omega (arith, listed.long, s.given.places_hold.long, (limits s).one_more)))
        ∙ take_at sorts _ h.arguments long
        ∙ sym own_sorts

    -- its forms
    forms_put : take (nodeWidth * g.row) (drop (nodeWidth * p.forms) forms) ≡ forms_said s.given.of.known s.given.of.here.command
    forms_put =
        let view = view_of s.given.of.known s.given.of.here.command in
        let F = sides (ruled_by s.given.of.here.command) in
        ap (take (nodeWidth * g.row)) (forms_there s)
        ∙ take_at (forms_said s.given.of.known s.given.of.here.command) _ (nodeWidth * g.row)
        (length_forms (forms_of view F) ∙ ap (λ (n : ℕ). nodeWidth * n) (forms_size view F ∙ sym s.rows_are))

    -- they are those of its grammar
    pub forms_grammar : take (nodeWidth * g.row) (drop (nodeWidth * p.forms) forms)
        ≡ form_table (right_sides (function_of s.given.of.known s.given.of.here.command).grammar.rules)
    forms_grammar =
        let view = view_of s.given.of.known s.given.of.here.command in
        forms_put ∙ ap form_table (sym (sides_said view (ruled_by s.given.of.here.command)))

    -- its grammar stands in the tables
    own_held : GrammarHeld (drop functions_place placesAfter) forms (p.forms + g.row) p.functions
        (function_of s.given.of.known s.given.of.here.command)
    own_held =
        let k = s.given.of.known in
        let c = s.given.of.here.command in
        let view = view_of k c in
        let long = said_long view (ruled_by c) in
        let first : get_or (drop functions_place placesAfter) (function_width * p.functions) 0 ≡ p.forms = rw add-zero at (number_put 0 (omega arith)) in
        let taken = number_put 1 (omega arith) in
        record {
          rules_are = number_put 2 (omega arith) ∙ s.counted ∙ sym long;
          before_is = number_put 3 (omega arith) ∙ s.given.of.counted.defined_are;
          table_is = rw (long, ← s.counted, starts_said view 0 (ruled_by c)) rules_put;
          forms_are = rw (first, taken, sides_said view (ruled_by c)) forms_put;
          within = rw (first, taken) (omega arith);
          sized = taken ∙ s.rows_are ∙ sym (forms_size view (sides (ruled_by c))) ∙ ap size (sym (sides_said view (ruled_by c)));
          few_rules = omega (arith, long, s.counted, s.few);
        }

    -- with those of the functions before it
    pub grammars_grow : GrammarsHold (drop functions_place placesAfter) forms (p.forms + g.row)
        (function_of s.given.of.known s.given.of.here.command ∷ s.given.of.known.functions)
    unfolding GrammarsHold
    grammars_grow =
        let counted = s.given.of.counted.functions_are in
        (rw (← counted) own_held, grammars_kept same_tables g.row s.given.of.known.functions (omega arith) s.given.grammars_hold)
