-- A `define-fun` held to its function: 12, 7 and 8 of it, one after the other.
use Prim.Native.Nat.{ℕ, ◌+◌, ◌-◌, ◌*◌, ◌≤◌, ◌<◌, min}
use native.Mathlib.Omega.{arith}
use mathlib.Core.Path.{◌≡◌, refl, sym, ap, ◌∙◌, subst}
use mathlib.Core.Bool.{false}
use mathlib.Core.List.{List, [], ◌∷◌, ◌++◌, append_assoc}
use lib.ListN.{drop, length, length-drop, length-map, take}
use lib.Seq.{drop_at, get_or-drop, length-take-le, sets, sets-eq}
use borrow.Author.Tests.{le-ltb, lt-ltb}
use Rattle.forest.specs.Forest.{Node, nodes_of}
use Rattle.forest.specs.code.Cursors.{size}
use Rattle.forest.specs.code.Rows.{number_at}
use Rattle.words.specs.Trees.{Lexeme}
use Rattle.lexemes.specs.Lists.{Items, inside, item}
use Rattle.lexemes.specs.code.Standing.{ListAt, Stands}
use Rattle.lexemes.proofs.Listed.{as_item}
use Rattle.lexemes.proofs.Standing.{by_itself}
use Rattle.terms.specs.code.Nodes.{row_width as nodeWidth}
use Rattle.derivation.specs.code.Tables.{form_table}
use Rattle.term_sorts.specs.code.Signatures.{RowIs, RowsAre, SortsAre, function_signature as signatureOfFunction, signature_width}
use Rattle.term_nodes.specs.Terms.{Raw, raw_term}
use Rattle.term_nodes.proofs.Saying.{say_terms}
use Rattle.names.specs.Scopes.{Named as Argument, View, forms_of, in_order, signature_of}
use Rattle.names.specs.code.Lookup.{Sees, source_of}
use Rattle.names.specs.code.Table.{function_row, names_from, defined_row}
use Rattle.names.specs.Unknown.{unknown_in}
use Rattle.names.specs.declared.Seen.{Seen}
use Rattle.names.proofs.NamePut.{seen_narrow}
use Rattle.term_faults.specs.Faults.{body_fault}
use Rattle.term_faults.specs.code.Bodies.{BodyFound, BodySought, Signed}
use Rattle.term_faults.proofs.Rising.{rising_wider, terms_rise}
use Rattle.bodies.specs.code.Bodies.{Named, Naming, no_sorts}
use Rattle.bodies.proofs.TablePart.{sorts_long}
use Rattle.headers.specs.code.Compare.{Compared, Differs}
use Rattle.script.specs.Script.{term_of}
use Rattle.script.specs.code.Places.{functions_place, arguments_in, before_in, function_width, result_in}
use Rattle.forest.specs.Limits.{most_functions}
use Rattle.script.specs.declared.Progress.{Progress}
use Rattle.script.proofs.OneTermMore.{length_table}
use Rattle.script.proofs.TermsOfForms.{term_narrow, term_size, term_table}
use Rattle.script.specs.Response.{response_view}
use Rattle.script.specs.code.Answers.{name_answer, sort_answer, header_answer}
use Rattle.response.specs.code.Functions.{Answering, Comparing, Matched, matched, seen_by}
use Rattle.response.specs.code.Outlines.{body_at}
use Rattle.response.proofs.BodyItem.{body_item, body_shaped, command_symbol, next_within}
use Rattle.response.proofs.Picked.{At, Own, arguments_at, at_below, grammar_at, name_at, names_before, place, row_at, rows_before}

-- The least word with an unknown name is not past `nowhere`.
unknown_below : (nowhere : ℕ) (view : View) (xs : List (Node Raw)) → unknown_in nowhere view xs ≤ nowhere
unfolding unknown_in
unknown_below nowhere view [] = omega arith
unknown_below nowhere view (x ∷ more) = omega (arith, unknown_below nowhere view more)

-- Where no word is found, there is none.
pub known_names : (nowhere : ℕ) (view : View) (xs : List (Node Raw)) {r : ℕ} → r ≡ unknown_in nowhere view xs → nowhere ≤ r → unknown_in nowhere view xs ≡ nowhere
known_names nowhere view xs e h = omega (arith, unknown_below nowhere view xs)

-- The forms of a term that are written from a row on stand there.
pub forms_written : (view : View) (l : Lexeme) (ops : Items) (nodes : List ℕ) {nodesAfter : List ℕ} (base : ℕ)
    → nodesAfter ≡ sets nodes (nodeWidth * base) (form_table (forms_of view (raw_term l ops))) → view.non_terminals ≡ [] → nodeWidth * (base + size (raw_term l ops)) ≤ length nodes
    → drop (nodeWidth * base) nodesAfter
    ≡ form_table (forms_of view (raw_term l ops)) ++ drop (nodeWidth * base + length (form_table (forms_of view (raw_term l ops)))) nodes
forms_written view l ops nodes base written closed room =
    let table = form_table (forms_of view (raw_term l ops)) in
    let long : length (form_table (forms_of view (raw_term l ops))) ≡ nodeWidth * size (raw_term l ops) =
    ap length (term_table view closed l ops) ∙ length_table (term_of view l ops) ∙ ap (λ (n : ℕ). nodeWidth * n) (term_size view closed l ops) in
    rw (written, sets-eq table nodes (nodeWidth * base) (omega arith), append_assoc (take (nodeWidth * base) nodes) table (drop (nodeWidth * base + length table) nodes))
    (drop_at (take (nodeWidth * base) nodes) (table ++ drop (nodeWidth * base + length table) nodes) (nodeWidth * base) (length-take-le (nodeWidth * base) nodes (omega arith)))

module _ {text lexemes names raw places nodes : List ℕ} {p : Progress} {at j base nowhere : ℕ}
    (a : Answering text lexemes names raw places nodes p at j base nowhere) where
  -- The command's list.
  abbrev pub command_list : ListAt lexemes at
  command_list = record {
    source = source_of text lexemes;
    same = refl;
    close = a.close;
    operands = a.command;
    more = a.more;
    end = a.end;
    stands = subst (λ (F : Items). Stands (source_of text lexemes) at F a.end) a.is a.reading.stands;
  }

  -- Its function is number j.
  pub picked : At a.known.functions j a.function
  picked = place a.known.functions j a.later a.next

  -- It is one of those that there may be.
  pub j_low : j < most_functions
  j_low = omega (arith, at_below picked, a.reading.counted.functions_are, a.reading.counted.few_functions)

  -- What the tables have of it.
  pub own : Own names j a.function
  own = arguments_at names picked a.reading.names_hold.arguments_are

  -- Its signature.
  pub signature : RowIs places (signatureOfFunction + j) (signature_of a.function)
  signature = row_at signatureOfFunction picked a.reading.places_hold.function_rows

  -- How many `define-fun`s stand before it.
  pub before_is : before_in places j ≡ a.function.before
  before_is =
      let e : functions_place + function_width * j + 3 ≡ functions_place + (function_width * j + 3) = omega arith in
      rw e (sym (get_or-drop functions_place places (function_width * j + 3) 0) ∙ (grammar_at picked a.reading.grammars_hold).before_is)

  -- The signatures of what it sees are in the table.
  pub view_signed : Signed places (response_view a.known.defined a.function)
  unfolding RowsAre SortsAre
  view_signed =
      let defs = a.known.defined in
      let n = length defs - a.function.before in
      let counted = a.reading.counted in
      record {
        defined_are = rows_before places 0 n defs a.reading.places_hold.defined_rows;
        functions_are = tt;
        non_terminals_are = tt;
        few_defined = omega (arith, length-drop (length defs - a.function.before) a.known.defined, counted.defined_are, counted.few_defined);
        few_functions = omega arith;
        few_non_terminals = omega arith;
      }

  module _ {arguments : ℕ} (ea : arguments ≡ arguments_in places j) where
    -- How many arguments it has.
    pub arguments_are : arguments ≡ length a.function.arguments
    unfolding number_at
    arguments_are =
        let e : signature_width * (signatureOfFunction + j) ≡ signature_width * (signatureOfFunction + j) + 0 = omega arith in
        ea ∙ rw e signature.counted ∙ length-map a.function.arguments (λ (n : Argument). n.sort)

    module _ {result : ℕ} (er : result ≡ result_in places j) where
      -- Its sort.
      pub result_is : result ≡ a.function.result
      unfolding number_at
      result_is = er ∙ signature.result_is

  -- The rows that a body for it sees hold what it sees.
  pub view_seen : Sees names (seen_by places p j) (response_view a.known.defined a.function)
  unfolding names_from in_order
  view_seen =
      let mine = own in
      let count : arguments_in places j ≡ length a.function.arguments = arguments_are refl in
      let defs = a.known.defined in
      let counted = a.reading.counted in
      let number : min (before_in places j) p.defined ≡ length defs - (length defs - a.function.before) =
      omega (arith, before_is, counted.defined_are) in
      record {
        table = a.reading.names_hold.table;
        names_are = rw count mine.names_are;
        sorts_are = rw count mine.sorts_are;
        defined_are = rw number (names_before names defined_row (length defs - a.function.before) defs a.reading.names_hold.defined_are);
        functions_are = refl;
        non_terminals_are = refl;
        names_fit = omega (arith, count, mine.few, j_low);
        few_defined = omega (arith, counted.few_defined);
        few_functions = omega arith;
        few_non_terminals = omega arith;
      }

module _ {text lexemes names raw places nodes : List ℕ} {p : Progress} {at j rows base nowhere : ℕ} where
  -- There is room for its nodes.
  pub rows_room : Comparing text lexemes names raw places nodes p at j rows base nowhere → nodeWidth * (base + rows) ≤ length nodes
  rows_room q =
      let a = q.asked in
      let r = a.reading in
      omega (arith, a.based, r.low, q.gathered.few, next_within r.lawful.ends (as_item (command_list a)), r.nodes_room)

  -- There are no more than there are sorts in the column.
  pub rows_few : Comparing text lexemes names raw places nodes p at j rows base nowhere → rows ≤ length no_sorts
  rows_few q =
      let a = q.asked in
      let r = a.reading in
      omega (arith, q.gathered.few, next_within r.lawful.ends (as_item (command_list a)), r.few, sorts_long)

  module _ {arguments : ℕ} (ea : arguments ≡ arguments_in places j) {result : ℕ} (er : result ≡ result_in places j) where
    -- Its header may be compared.
    abbrev pub header_compared : Comparing text lexemes names raw places nodes p at j rows base nowhere
        → Compared text lexemes names at j arguments result
    header_compared q =
        let a = q.asked in
        let mine = own a in
        let count = arguments_are a ea in
        record {
          close = a.close;
          command = a.command;
          more = a.more;
          end = a.end;
          stands = (command_list a).stands;
          named = command_symbol (item 0 a.command) q.gathered.by;
          shaped = q.gathered.shaped;
          table = a.reading.names_hold.table;
          function = a.function;
          low = j_low a;
          few = rw count mine.few;
          name_is = name_at names function_row (picked a) a.reading.names_hold.functions_are;
          names_are = rw count mine.names_are;
          sorts_are = rw count mine.sorts_are;
          result_is = result_is a ea er;
        }

    module _ {header : ℕ} (eh : (x : Compared text lexemes names at j arguments result) → Differs x nowhere header) where
      -- It differs.
      pub header-differs : header < nowhere → (q : Comparing text lexemes names raw places nodes p at j rows base nowhere)
          → Matched q nodes (record { number = header_answer; place = header; rows = rows })
      unfolding matched
      header-differs h q =
          let is = eh (header_compared q) in
          record {
            stops = λ ne later. rw (← is, lt-ltb header nowhere h);
            goes_on = λ z. absurd (omega arith);
            written = λ z. absurd (omega arith);
            taken = refl;
          }

      module _ (hh : nowhere ≤ header) {seen : Seen} (ev : seen ≡ seen_by places p j) where
        -- Its names may be looked up.
        abbrev pub names_sought : Comparing text lexemes names raw places nodes p at j rows base nowhere
            → Naming text lexemes names raw nodes seen rows base nowhere
        names_sought q =
            let a = q.asked in
            let g = q.gathered in
            let b = body_item (command_list a) g.by g.shaped in
            record {
              i = body_at lexemes at;
              end = b.end;
              label = item 4 a.command;
              operands = inside 4 a.command;
              more = b.more;
              stands = b.stands;
              shaped = body_shaped (command_list a) g.by g.shaped;
              lawful = a.reading.lawful;
              rest = g.rest;
              raw_is = g.raw_is;
              counted = g.counted;
              view = response_view a.known.defined a.function;
              sees = subst (λ (s : Seen). Sees names s (response_view a.known.defined a.function)) (sym ev) (view_seen a);
              room = rows_room q;
            }

        module _ {rawAfter nodesAfter : List ℕ} {name : ℕ}
            (en : (x : Naming text lexemes names raw nodes seen rows base nowhere) → Named x rawAfter nodesAfter name) where
          -- A name in it is not known.
          pub name_unknown : name < nowhere → (q : Comparing text lexemes names raw places nodes p at j rows base nowhere)
              → Matched q nodesAfter (record { number = name_answer; place = name; rows = rows })
          unfolding matched
          name_unknown h q =
              let is = eh (header_compared q) in
              let n = (en (names_sought q)).unknown_is in
              record {
                stops = λ ne later. rw (← is, le-ltb header nowhere hh, ← n, lt-ltb name nowhere h);
                goes_on = λ z. absurd (omega arith);
                written = λ z. absurd (omega arith);
                taken = refl;
              }

          module _ (hn : nowhere ≤ name) where
            -- Its sorts may be looked for.
            abbrev pub sort_sought : Comparing text lexemes names raw places nodes p at j rows base nowhere
                → BodySought rawAfter (drop (nodeWidth * base) nodesAfter) places no_sorts rows result nowhere
            sort_sought q =
                let a = q.asked in
                let g = q.gathered in
                let view = response_view a.known.defined a.function in
                let l = item 4 a.command in
                let ops = inside 4 a.command in
                let b = body_item (command_list a) g.by g.shaped in
                let shape = body_shaped (command_list a) g.by g.shaped in
                let n = en (names_sought q) in
                record {
                  sought = record {
                    source = source_of text lexemes;
                    lawful = a.reading.lawful;
                    F = raw_term l ops;
                    rest = g.rest;
                    is_raw = n.raw_is;
                    counted = g.counted;
                    say = say_terms false (by_itself refl b.stands) shape;
                    rising = rising_wider (raw_term l ops) (terms_rise (by_itself refl b.stands) shape) (omega arith) (next_within
                        a.reading.lawful.ends b);
                    narrow_nodes = term_narrow l ops;
                    view = view;
                    narrow_names = seen_narrow (view_seen a);
                    known = known_names nowhere view (nodes_of (raw_term l ops)) n.unknown_is hn;
                    more = drop (nodeWidth * base + length (form_table (forms_of view (raw_term l ops)))) nodes;
                    is_forms = forms_written view l ops nodes base n.nodes_are refl (rw g.counted at (rows_room q));
                    signed = view_signed a;
                    room = rows_few q;
                  };
                  label = l;
                  operands = ops;
                  is = refl;
                  low = rw (result_is a ea er) (signature a).sort;
                }

            module _ {sort : ℕ} (es : (x : BodySought rawAfter (drop (nodeWidth * base) nodesAfter) places no_sorts rows result nowhere) → BodyFound x sort) where
              -- The word at fault is that of the function's sort.
              sort_is : (q : Comparing text lexemes names raw places nodes p at j rows base nowhere)
                  → sort ≡ body_fault nowhere (response_view q.asked.known.defined q.asked.function) q.asked.function.result (item 4
                  q.asked.command) (inside 4 q.asked.command)
              sort_is q = let r = result_is q.asked ea er in rw (← r) (es (sort_sought q))

              -- A sort in it is at fault.
              pub sort_differs : sort < nowhere → (q : Comparing text lexemes names raw places nodes p at j rows base nowhere)
                  → Matched q nodesAfter (record { number = sort_answer; place = sort; rows = rows })
              unfolding matched
              sort_differs h q =
                  let is = eh (header_compared q) in
                  let n = (en (names_sought q)).unknown_is in
                  let s = sort_is q in
                  record {
                    stops = λ ne later. rw (← is, le-ltb header nowhere hh, ← n, le-ltb name nowhere hn, ← s, lt-ltb sort nowhere h);
                    goes_on = λ z. absurd (omega arith);
                    written = λ z. absurd (omega arith);
                    taken = refl;
                  }

              -- It passes.
              pub matches : nowhere ≤ sort → (q : Comparing text lexemes names raw places nodes p at j rows base nowhere)
                  → Matched q nodesAfter (record { number = 0; place = sort; rows = rows })
              unfolding matched
              matches h q =
                  let is = eh (header_compared q) in
                  let n = en (names_sought q) in
                  let s = sort_is q in
                  let u = n.unknown_is in
                  record {
                    stops = λ ne later. absurd (ne refl);
                    goes_on = λ z later. rw (← is, le-ltb header nowhere hh, ← u, le-ltb name nowhere hn, ← s, le-ltb sort nowhere h);
                    written = λ z. n.nodes_are;
                    taken = refl;
                  }
