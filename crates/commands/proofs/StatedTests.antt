-- The `constraint` or the `assume` at a word: its term, its tests, and what is known after it.
use Prim.Native.Nat.{ℕ, ◌+◌, ◌≤◌, ◌<◌, min}
use native.Mathlib.Nat.{min-eq_right}
use native.Mathlib.Omega.{arith}
use mathlib.Core.Path.{◌≡◌, refl, sym, ap, ap₂, ◌∙◌, subst⁻¹}
use mathlib.Core.Bool.{Bool, true, false, cond}
use mathlib.Core.List.{List}
use lib.Dec.{eqb}
use lib.ListN.{drop, length, set}
use lib.Seq.{drop-set-lt, length-sets}
use borrow.Author.Tests.{eqb-true}
use Rattle.forest.specs.Forest.{count, join, nodes_of}
use Rattle.forest.specs.Lists.{same_bytes}
use Rattle.forest.specs.Limits.{allowed, first_assumption, most_nodes}
use Rattle.forest.proofs.Bools.{and_left, and_right}
use Rattle.lexemes.specs.Reserved.{is_word}
use Rattle.lexemes.specs.Lists.{Items, after, inside, is_list, item}
use Rattle.lexemes.proofs.ByCode.{code_for}
use Rattle.lexemes.specs.code.Codes.{assume_code, constraint_code}
use Rattle.shapes.specs.Shapes.{command_shape, constraint_shape, term_shape}
use Rattle.written_sorts.proofs.Walked.{named_word}
use Rattle.term_nodes.specs.Terms.{raw_term}
use Rattle.term_sorts.specs.code.Signatures.{SortsAre}
use Rattle.names.specs.code.Lookup.{Sees}
use Rattle.names.specs.code.Table.{names_from, variable_row}
use Rattle.names.specs.declared.Seen.{Seen}
use Rattle.term_faults.specs.Faults.{body_fault}
use Rattle.term_faults.specs.code.Bodies.{Signed}
use Rattle.bodies.specs.code.Bodies.{Limited, TermAt}
use Rattle.bodies.specs.declared.Body.{Body}
use Rattle.script.specs.Limits.{command_past, node_past}
use Rattle.script.specs.Naming.{term_names}
use Rattle.script.specs.Script.{Known, constraint_view, grammar_place, known_after, limit_place, name_place, sorting_place, term_of}
use Rattle.script.specs.code.Places.{constraints_place, functions_place, stated_count}
use Rattle.script.specs.code.Tables.{After, CommandOf, Counted, PlacesHold, StatedAt, Tested}
use Rattle.script.specs.declared.Progress.{Progress}
use Rattle.script.specs.declared.Verdict.{Verdict}
use Rattle.script.proofs.CommandByCode.{Chosen, chosen}
use Rattle.script.proofs.OneTermMore.{Grown, next_held, others_held, stated_held}
use Rattle.script.proofs.WordsBelow.{command_word}
use Rattle.script.proofs.Verdicts.{says_limit}
use Rattle.script.specs.code.Answers.{limit_answer}
use Rattle.commands.specs.code.State.{Stated, Stating, first_stated, most_stated, stated_before, stated_word}
use Rattle.commands.specs.code.TermTests.{Judges, Judging, verdict_of}
use Rattle.commands.specs.declared.TermTest.{TermTest}
use Rattle.commands.proofs.TermStanding.{BodyAt, behind_word, body_below, body_grown, body_judging, body_term, body_within, close_below, item_stands}
use Rattle.commands.proofs.TermTested.{unknown_low}
use Rattle.commands.proofs.TermVerdicts.{body_says, command_fits, fault_low, passed_rows}

-- The rows that it sees.
abbrev pub stated_seen : Progress → Seen
stated_seen p = record { first = variable_row; names = p.variables; defined = p.defined; functions = p.functions; non_terminals = 0 }

-- The test of its term, which has so many nodes.
abbrev pub stated_test : Progress → (rows nowhere : ℕ) → TermTest
stated_test p rows nowhere = record {
  seen = stated_seen p;
  sort = 0;
  target = record { count = rows; base = p.nodes; nowhere = nowhere };
  named = nowhere;
  empty = nowhere;
}

-- Its items.
record Parts (c : Items) : Type 0 where
  two : count c ≡ 2
  term : term_shape (item 1 c) (inside 1 c) ≡ true

-- A command of that shape has them.
parts : (c : Items) → constraint_shape c ≡ true → Parts c
parts c e =
    let two = eqb (count c) 2 in
    let term = term_shape (item 1 c) (inside 1 c) in
    record { two = eqb-true (count c) 2 (and_left two term e); term = and_right two term e }

-- The code of its word.
abbrev stated_code : (assumed : Bool) → ℕ
stated_code assumed = cond assumed assume_code constraint_code

-- So many of them are known.
abbrev known_before : (assumed : Bool) → Known → ℕ
known_before assumed k = cond assumed (length k.assumptions) (length k.constraints)

-- Its tests.
module _ (nowhere : ℕ) (k : Known) (at : ℕ) {c : Items} where
  -- Its limits.
  limit_is : (assumed : Bool) → Chosen c (stated_code assumed) → limit_place allowed nowhere k at c
      ≡ min (command_past nowhere (most_stated assumed) (known_before assumed k) at) (node_past allowed nowhere (item 1 c) (inside 1 c))
  unfolding limit_place
  limit_is true t = rw (t.declares, t.defines, t.synthesizes, t.constrains, t.assumes)
  limit_is false t = rw (t.declares, t.defines, t.synthesizes, t.constrains)

  -- Its names.
  names_are : (assumed : Bool) → Chosen c (stated_code assumed) → name_place nowhere k c ≡ term_names nowhere (constraint_view k) (item 1 c) (inside 1 c)
  unfolding name_place
  names_are true t = rw (t.declares, t.defines, t.synthesizes, t.constrains, t.assumes)
  names_are false t = rw (t.declares, t.defines, t.synthesizes, t.constrains)

  -- Its sort.
  sort_is : (assumed : Bool) → Chosen c (stated_code assumed) → sorting_place nowhere k c ≡ body_fault nowhere (constraint_view k) 0 (item 1 c) (inside 1 c)
  unfolding sorting_place
  sort_is true t = rw (t.declares, t.defines, t.synthesizes, t.constrains, t.assumes)
  sort_is false t = rw (t.declares, t.defines, t.synthesizes, t.constrains)

  -- It has no grammar.
  no-grammar : (assumed : Bool) → Chosen c (stated_code assumed) → grammar_place nowhere k c ≡ nowhere
  unfolding grammar_place
  no-grammar true t = rw (t.declares, t.defines, t.synthesizes, t.constrains, t.assumes)
  no-grammar false t = rw (t.declares, t.defines, t.synthesizes, t.constrains)

-- There is a place for it.
place_fits : (assumed : Bool) (p : Progress) → stated_before assumed p < most_stated assumed → first_stated assumed + stated_before assumed p < stated_count
place_fits true p h = omega arith
place_fits false p h = omega arith

-- What is known after it.
module _ (k : Known) {c : Items} where
  -- The same `define-fun`s.
  same_defined : (assumed : Bool) → Chosen c (stated_code assumed) → (known_after k c).defined ≡ k.defined
  unfolding known_after
  same_defined true t = rw t.defines
  same_defined false t = rw t.defines

  -- The same functions.
  same_functions : (assumed : Bool) → Chosen c (stated_code assumed) → (known_after k c).functions ≡ k.functions
  unfolding known_after
  same_functions true t = rw t.synthesizes
  same_functions false t = rw t.synthesizes

  -- Its term is gathered, and where it begins is put into the table of places.
  module _ {places nodes nodesAfter : List ℕ} {p : Progress} {more : ℕ} (hold : PlacesHold places nodes p.nodes k)
      (g : Grown nodes p.nodes more (term_of (constraint_view k) (item 1 c) (inside 1 c)) nodesAfter) (counted : Counted p k) {placesAfter : List ℕ} where
    -- The constraints stand, and it behind them where it is one.
    constraints_held : (assumed : Bool) → Chosen c (stated_code assumed) → stated_before assumed p < most_stated assumed
        → placesAfter ≡ set places (constraints_place + (first_stated assumed + stated_before assumed p)) p.nodes
        → StatedAt (join hold.all (term_of (constraint_view k) (item 1 c) (inside 1 c))) placesAfter 0 (known_after k c).constraints
    unfolding known_after
    constraints_held true t few put =
        rw t.constrains (others_held hold g (place_fits true p few) put 0 k.constraints
        (λ j l h e. omega (arith, counted.constraints_are, counted.few_constraints)) hold.constraints_at)
    constraints_held false t few put =
        rw t.constrains
        (next_held hold g (place_fits false p few) put 0 k.constraints (omega (arith, counted.constraints_are)) hold.constraints_at)

    -- The assumptions stand, and it behind them where it is one.
    assumptions_held : (assumed : Bool) → Chosen c (stated_code assumed) → stated_before assumed p < most_stated assumed
        → placesAfter ≡ set places (constraints_place + (first_stated assumed + stated_before assumed p)) p.nodes
        → StatedAt (join hold.all (term_of (constraint_view k) (item 1 c) (inside 1 c))) placesAfter first_assumption (known_after k c).assumptions
    unfolding known_after
    assumptions_held true t few put =
        rw t.assumes
        (next_held hold g (place_fits true p few) put first_assumption k.assumptions (omega (arith, counted.assumptions_are)) hold.assumptions_at)
    assumptions_held false t few put =
        rw t.assumes (others_held hold g (place_fits false p few) put first_assumption k.assumptions (λ j l h e. omega arith) hold.assumptions_at)

    -- The tables hold what is known after it.
    tables_held : (assumed : Bool) → Chosen c (stated_code assumed) → stated_before assumed p < most_stated assumed
        → placesAfter ≡ set places (constraints_place + (first_stated assumed + stated_before assumed p)) p.nodes
        → PlacesHold placesAfter nodesAfter (p.nodes + more) (known_after k c)
    tables_held assumed t few put =
        stated_held hold g (place_fits assumed p few) put (omega (arith, counted.few_defined, counted.defined_are))
        (omega (arith, counted.few_functions, counted.functions_are)) (same_defined assumed t) (same_functions assumed t)
        (constraints_held assumed t few put) (assumptions_held assumed t few put)

-- As many are known as are counted.
before_is : (assumed : Bool) {p : Progress} {k : Known} → Counted p k → stated_before assumed p ≡ known_before assumed k
before_is true counted = counted.assumptions_are
before_is false counted = counted.constraints_are

module _ {text lexemes : List ℕ} {p : Progress} {at nowhere : ℕ} where
  -- It is the command of that word.
  is_stated : (assumed : Bool) (d : CommandOf (stated_word assumed) text lexemes p at nowhere) → Chosen d.here.command (stated_code assumed)
  unfolding code_for
  is_stated true d = chosen "assume" refl d.here.command d.by
  is_stated false d = chosen "constraint" refl d.here.command d.by

  -- Its first item is a word.
  no_list : (assumed : Bool) (d : CommandOf (stated_word assumed) text lexemes p at nowhere) → is_list (item 0 d.here.command) ≡ false
  unfolding same_bytes
  no_list true d = named_word (is_word "assume") refl (item 0 d.here.command) d.by
  no_list false d = named_word (is_word "constraint") refl (item 0 d.here.command) d.by

  -- Its items.
  its_parts : (assumed : Bool) (d : CommandOf (stated_word assumed) text lexemes p at nowhere) → Parts d.here.command
  unfolding command_shape
  its_parts true d =
      let t = is_stated true d in
      parts d.here.command (rw (t.sets, t.declares, t.defines, t.synthesizes, t.constrains, t.ends, t.assumes) at d.shaped)
  its_parts false d =
      let t = is_stated false d in
      parts d.here.command (rw (t.sets, t.declares, t.defines, t.synthesizes, t.constrains) at d.shaped)

  -- Its term stands two words on.
  pub term_here : (assumed : Bool) (d : CommandOf (stated_word assumed) text lexemes p at nowhere)
      → BodyAt text lexemes (at + 2) nowhere d.here.close (item 1 d.here.command) (inside 1 d.here.command)
  term_here assumed d =
      let its = its_parts assumed d in
      record {
        more = after 2 d.here.command;
        stands = item_stands 1 d.here.command (omega (arith, its.two)) (behind_word d.here (omega (arith, its.two)) (no_list assumed d));
        shaped = its.term;
        lawful = d.here.lawful;
        below = close_below d.here;
        few = d.here.few;
      }

module _ {text lexemes names raw places nodes : List ℕ} {p : Progress} {at nowhere : ℕ} {assumed : Bool} where
  -- Its term is gathered.
  abbrev pub term_at : Stating text lexemes names raw places nodes p at nowhere assumed → TermAt lexemes raw (at + 2)
  term_at d = body_term (term_here assumed d.of) d.raw_room

  -- The names that it sees.
  pub stated_sees : (d : Stating text lexemes names raw places nodes p at nowhere assumed)
      → Sees names (stated_seen p) (constraint_view d.of.known)
  unfolding names_from
  stated_sees d =
      let counted = d.of.counted in
      let hold = d.names_hold in
      record {
        table = hold.table;
        names_are = rw counted.variables_are hold.variables_are;
        sorts_are = rw counted.variables_are hold.variable-sorts;
        defined_are = rw counted.defined_are hold.defined_are;
        functions_are = rw counted.functions_are hold.functions_are;
        non_terminals_are = refl;
        names_fit = omega (arith, counted.few_variables);
        few_defined = counted.few_defined;
        few_functions = counted.few_functions;
        few_non_terminals = omega arith;
      }

  -- The signatures that it sees.
  pub stated_signed : (d : Stating text lexemes names raw places nodes p at nowhere assumed) → Signed places (constraint_view d.of.known)
  unfolding SortsAre
  stated_signed d =
      let counted = d.of.counted in
      let hold = d.places_hold in
      record {
        defined_are = hold.defined_rows;
        functions_are = hold.function_rows;
        non_terminals_are = tt;
        few_defined = omega (arith, counted.few_defined, counted.defined_are);
        few_functions = omega (arith, counted.few_functions, counted.functions_are);
        few_non_terminals = omega arith;
      }

  module _ {rawAfter : List ℕ} {body : Body} (limited : (q : TermAt lexemes raw (at + 2)) → Limited q most_nodes nowhere rawAfter body) where
    -- Its nodes have rows before its last word.
    pub rows_within : (d : Stating text lexemes names raw places nodes p at nowhere assumed) → p.nodes + body.rows ≤ d.of.here.close
    rows_within d = body_within (term_here assumed d.of) d.raw_room limited (omega (arith, d.within))

    -- Its names and its sort may be tested.
    abbrev pub stated_judging : (d : Stating text lexemes names raw places nodes p at nowhere assumed)
        → Judging text lexemes names rawAfter places nodes (stated_test p body.rows nowhere)
    stated_judging d =
        let gathered = limited (term_at d) in
        body_judging (term_here assumed d.of) gathered.rest gathered.raw_is gathered.rows_are (rows_within d) nodes d.nodes_room (stated_sees d)
        (stated_signed d) (omega arith)

    module _ {stated : ℕ} (es : stated ≡ stated_before assumed p) {most : ℕ} (em : most ≡ most_stated assumed) {one : ℕ}
        (eo : one ≡ command_past nowhere most stated at) {past : ℕ} (ep : past ≡ min one body.place) where
      -- The word past a limit.
      past_is : (d : Stating text lexemes names raw places nodes p at nowhere assumed)
          → past ≡ limit_place allowed nowhere d.of.known at d.of.here.command
      past_is d =
          let counted = ap₂ (λ (m n : ℕ). command_past nowhere m n at) em (es ∙ before_is assumed d.of.counted) in
          ep ∙ ap₂ min (eo ∙ counted) (limited (term_at d)).place_is ∙ sym (limit_is nowhere d.of.known at assumed (is_stated assumed d.of))

      -- A limit is passed.
      pub limit_refused : past < nowhere → {v : Verdict} → v ≡ record { number = limit_answer; place = past; rows = 0 }
          → (d : Stating text lexemes names raw places nodes p at nowhere assumed) → Stated d rawAfter places nodes v
      limit_refused h e d = subst⁻¹ (λ (w : Verdict). Stated d rawAfter places nodes w) e (record {
        verdict_is = says_limit allowed nowhere d.of.known at d.of.here.command (After d.of)
            (record { number = limit_answer; place = past; rows = 0 }) (record { number_is = refl; place_is = past_is d; found = h });
        places_hold = λ z. absurd (omega arith);
        within = λ z. absurd (omega arith);
        kept = refl;
        raw_long = (limited (term_at d)).long;
        nodes_long = refl;
      })

      -- There are fewer than there may be.
      stated_few : nowhere ≤ past → Stating text lexemes names raw places nodes p at nowhere assumed → stated_before assumed p < most_stated assumed
      stated_few passed d = rw (em, es) at (command_fits nowhere most stated at (command_word d.of.here) (omega arith))

      -- There is a place for it.
      pub stated_fits : nowhere ≤ past → {first : ℕ} → first ≡ first_stated assumed → Stating text lexemes names raw places nodes p at nowhere assumed
          → first + stated < stated_count
      stated_fits passed ef d = rw (ef, es) (place_fits assumed p (stated_few passed d))

      module _ (passed : nowhere ≤ past) {rawLast nodesAfter : List ℕ} {v : Verdict}
          (judged : Judges text lexemes names rawAfter places nodes (stated_test p body.rows nowhere) rawLast nodesAfter v) where
        -- The verdict by the words at fault.
        verdict_by : (d : Stating text lexemes names raw places nodes p at nowhere assumed)
            → v ≡ verdict_of nowhere (name_place nowhere d.of.known d.of.here.command) (sorting_place nowhere d.of.known d.of.here.command)
            body.rows
        verdict_by d =
            let c = d.of.here.command in
            let k = d.of.known in
            let t = is_stated assumed d.of in
            let unknown = unknown_low nowhere (constraint_view k) (nodes_of (raw_term (item 1 c) (inside 1 c))) in
            let names = min-eq_right unknown ∙ sym (names_are nowhere k at assumed t) in
            let low = fault_low nowhere (constraint_view k) 0 (item 1 c) (inside 1 c) (body_below (term_here assumed d.of)) in
            let sorts = min-eq_right low ∙ sym (sort_is nowhere k at assumed t) in
            (judged (stated_judging d)).verdict_is ∙ ap₂ (λ (a b : ℕ). verdict_of nowhere a b body.rows) names sorts

        -- The verdict is that of its tests.
        its_verdict : (d : Stating text lexemes names raw places nodes p at nowhere assumed) → Tested d.of v
        its_verdict d =
            body_says allowed nowhere d.of.known at d.of.here.command (After d.of) v body.rows (omega (arith, past_is d))
            (no-grammar nowhere d.of.known at assumed (is_stated assumed d.of)) (verdict_by d)

        -- The table of nodes is as long as it was.
        nodes_kept : (d : Stating text lexemes names raw places nodes p at nowhere assumed) → length nodesAfter ≡ length nodes
        nodes_kept d = ap length (judged (stated_judging d)).nodes_are ∙ simp length-sets

        -- A name or a sort is at fault.
        pub term_refused : 0 < v.number → (d : Stating text lexemes names raw places nodes p at nowhere assumed) → Stated d rawLast places nodesAfter v
        term_refused h d = record {
          verdict_is = its_verdict d;
          places_hold = λ e. absurd (omega arith);
          within = λ e. absurd (omega arith);
          kept = refl;
          raw_long = (judged (stated_judging d)).raw_long ∙ (limited (term_at d)).long;
          nodes_long = nodes_kept d;
        }

        -- It passes, and where its term begins is put into the table of places.
        pub stated_known : v.number ≤ 0 → {first : ℕ} → first ≡ first_stated assumed
            → {placesAfter : List ℕ} → placesAfter ≡ set places (constraints_place + (first + stated)) p.nodes
            → (d : Stating text lexemes names raw places nodes p at nowhere assumed) → Stated d rawLast placesAfter nodesAfter v
        stated_known h {first} ef put d =
            let k = d.of.known in
            let rows = passed_rows nowhere _ _ body.rows (verdict_by d) (omega arith) in
            let gathered = limited (term_at d) in
            let grown = body_grown (term_here assumed d.of) gathered.rest gathered.raw_is gathered.rows_are (rows_within d) nodes d.nodes_room
            (constraint_view k) refl (judged (stated_judging d)).nodes_are in
            record {
              verdict_is = its_verdict d;
              places_hold = λ e. rw rows (tables_held k d.places_hold grown d.of.counted assumed (is_stated assumed d.of) (stated_few passed d)
                  (rw (ef, es) at put));
              within = λ e. rw rows (rows_within d);
              kept = ap (drop functions_place) put
                  ∙ drop-set-lt functions_place places (constraints_place + (first + stated)) p.nodes (omega (arith, stated_fits passed ef d));
              raw_long = (judged (stated_judging d)).raw_long ∙ (limited (term_at d)).long;
              nodes_long = nodes_kept d;
            }
