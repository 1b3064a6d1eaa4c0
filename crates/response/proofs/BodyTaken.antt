-- The `define-fun` for a function, and its body in the tables.
use Prim.Native.Nat.{ℕ, ◌+◌, ◌*◌}
use native.Mathlib.Omega.{arith}
use mathlib.Core.Path.{◌≡◌, refl, sym, ap, ◌∙◌}
use mathlib.Core.Bool.{false}
use mathlib.Core.List.{List}
use lib.ListN.{set}
use lib.Seq.{sets}
use Rattle.terms.specs.code.Nodes.{row_width as nodeWidth}
use Rattle.lexemes.specs.Lists.{Items, inside, item}
use Rattle.lexemes.specs.code.Table.{start_at}
use Rattle.lexemes.proofs.ByCode.{code_pos}
use Rattle.lexemes.proofs.Listed.{at_item}
use Rattle.lexemes.proofs.Standing.{by_itself}
use Rattle.term_nodes.proofs.Saying.{say_terms}
use Rattle.names.specs.Scopes.{Defined, Function}
use Rattle.names.specs.code.Lookup.{source_of}
use Rattle.forest.specs.Limits.{allowed}
use Rattle.script.specs.code.Tables.{PlacesHold}
use Rattle.script.specs.code.Places.{function_bodies_place, offsets_place}
use Rattle.script.specs.Outcome.{offset_of}
use Rattle.script.specs.declared.Progress.{Progress}
use Rattle.script.specs.declared.Verdict.{Verdict}
use Rattle.script.proofs.Answered.{body_held, body_places, grammars_kept, node_put, offset_put, other_place}
use Rattle.script.proofs.OneTermMore.{Grown, stands_wider, term_stands}
use Rattle.script.proofs.TermsOfForms.{term_plain, term_size, term_table, term_tree}
use Rattle.script.specs.Response.{Answered, judged_body, response_view, with_body}
use Rattle.response.specs.code.Responding.{OneMore}
use Rattle.response.specs.code.Functions.{Answering, Comparing, Matched, Taken, body_of, matched}
use Rattle.response.specs.code.Outlines.{ListIn, Outlined, body_at, outlined}
use Rattle.response.proofs.HeldToFunction.{command_list, j_low, rows_room}
use Rattle.response.proofs.BodyItem.{body_first, body_item, body_shaped}

-- A `define-fun` for a function is one of a right shape within the limits, held to the function.
judged_is : (nowhere : ℕ) (defs : List Defined) (f : Function) (at : ℕ) (c : Items) (later : Answered)
    → judged_body allowed nowhere defs f at c later ≡ outlined allowed nowhere at c (matched nowhere defs f c (with_body (body_of defs f c) later))
unfolding judged_body matched outlined
judged_is nowhere defs f at c later = refl

module _ {text lexemes names raw places nodes : List ℕ} {p : Progress} {at j base nowhere : ℕ} where
  -- Its shape and limits may be tested.
  abbrev pub list-in : Answering text lexemes names raw places nodes p at j base nowhere → ListIn lexemes raw at nowhere
  list-in a = record { here = command_list a; ends = a.reading.lawful.ends; room = a.reading.raw_room }

  -- The tables hold what is known in `base` rows.
  abbrev held_in : (a : Answering text lexemes names raw places nodes p at j base nowhere) → PlacesHold places nodes base a.known
  held_in a =
      let h = a.reading.places_hold in
      record {
        long = h.long;
        defined_rows = h.defined_rows;
        function_rows = h.function_rows;
        all = h.all;
        rest = h.rest;
        nodes_are = h.nodes_are;
        rows_are = a.based ∙ h.rows_are;
        plain = h.plain;
        bodies_at = h.bodies_at;
        constraints_at = h.constraints_at;
        assumptions_at = h.assumptions_at;
      }

  module _ {rawAfter : List ℕ} {v : Verdict} (eo : (x : ListIn lexemes raw at nowhere) → Outlined x rawAfter v) where
    -- It is refused by its shape or a limit.
    pub outline_stops : (v.number ≡ 0 → ⊥) → (a : Answering text lexemes names raw places nodes p at j base nowhere) → Taken a places nodes v
    outline_stops ne a = record {
      stops = λ some later. judged_is nowhere a.known.defined a.function at a.command later ∙ (eo (list-in a)).stops some _;
      goes_on = λ z. absurd (ne z);
      one_more = λ z. absurd (ne z);
      few = λ z. absurd (ne z);
      grammars_hold = a.reading.grammars_hold;
    }

    module _ (z : v.number ≡ 0) where
      -- The same, with the nodes of its body gathered.
      abbrev pub to_compare : Answering text lexemes names raw places nodes p at j base nowhere
          → Comparing text lexemes names rawAfter places nodes p at j v.rows base nowhere
      to_compare a =
          let r = a.reading in
          let o = eo (list-in a) in
          record {
            asked = record {
              known = a.known;
              end = a.end;
              rows = a.rows;
              based = a.based;
              reading = record {
                items = r.items;
                stands = r.stands;
                lawful = r.lawful;
                starts = r.starts;
                few = r.few;
                counted = r.counted;
                names_hold = r.names_hold;
                places_hold = r.places_hold;
                forms = r.forms;
                grammars_hold = r.grammars_hold;
                low = r.low;
                passed = r.passed;
                raw_room = rw o.long r.raw_room;
                nodes_room = r.nodes_room;
              };
              close = a.close;
              command = a.command;
              more = a.more;
              is = a.is;
              function = a.function;
              later = a.later;
              next = a.next;
            };
            gathered = o.gathered z;
          }

      module _ {nodesAfter : List ℕ} {h : Verdict}
          (eh : (q : Comparing text lexemes names rawAfter places nodes p at j v.rows base nowhere) → Matched q nodesAfter h) where
        -- It is refused by 12, 7 or 8.
        pub matched_stops : (h.number ≡ 0 → ⊥) → (a : Answering text lexemes names raw places nodes p at j base nowhere) → Taken a places nodesAfter h
        matched_stops ne a = record {
          stops = λ some later.
              judged_is nowhere a.known.defined a.function at a.command later ∙ (eo (list-in a)).goes_on z _ ∙ (eh (to_compare a)).stops some _;
          goes_on = λ e. absurd (ne e);
          one_more = λ e. absurd (ne e);
          few = λ e. absurd (ne e);
          grammars_hold = a.reading.grammars_hold;
        }

        module _ (zh : h.number ≡ 0) where
          -- The nodes of its body are written behind the others.
          grown : (a : Answering text lexemes names raw places nodes p at j base nowhere)
              → Grown nodes base h.rows (body_of a.known.defined a.function a.command).term nodesAfter
          grown a =
              let q = to_compare a in
              let g = q.gathered in
              let view = response_view a.known.defined a.function in
              let l = item 4 a.command in
              let ops = inside 4 a.command in
              let m = eh q in
              let b = body_item (command_list a) g.by g.shaped in
              let shape = body_shaped (command_list a) g.by g.shaped in
              let sized = term_size view refl l ops in
              let taken = m.taken in
              record {
                plain = term_plain view refl l ops (source_of text lexemes) a.reading.lawful (say_terms false (by_itself refl b.stands) shape);
                label = _;
                operands = _;
                single = term_tree view refl l ops;
                sized = taken ∙ g.counted ∙ sym sized;
                room = omega (arith, taken, rows_room q);
                is = m.written zh ∙ ap (λ (t : List ℕ). sets nodes (nodeWidth * base) t) (term_table view refl l ops);
              }

          module _ {placesAfter : List ℕ} {first : ℕ} (ef : first ≡ body_at lexemes at) {offset : ℕ} (es : offset ≡ start_at lexemes first)
              (put : placesAfter ≡ set (set places (function_bodies_place + j) base) (offsets_place + j) offset) where
            -- The offset is that of its body's first word.
            offset_found : (a : Answering text lexemes names raw places nodes p at j base nowhere)
                → offset ≡ offset_of text (body_of a.known.defined a.function a.command).first
            offset_found a =
                let g = (to_compare a).gathered in
                let b = body_item (command_list a) g.by g.shaped in
                let within = a.reading.lawful.ends (body_at lexemes at) (omega (arith, (at_item b).code, code_pos b.label)) in
                es ∙ ap (start_at lexemes) ef ∙ a.reading.starts (body_at lexemes at) within
                ∙ ap (offset_of text) (sym (body_first (command_list a) g.by g.shaped))

            -- Its body stands in the tables.
            body_taken : (a : Answering text lexemes names raw places nodes p at j base nowhere)
                → OneMore text places base a.known a.reading.places_hold.all j (body_of a.known.defined a.function
                a.command) placesAfter nodesAfter h.rows
            body_taken a =
                let low = j_low a in
                let counted = a.reading.counted in
                let hold = held_in a in
                let g = grown a in
                let t = (body_of a.known.defined a.function a.command).term in
                record {
                  places_hold = body_held (body_places places j base offset low put) hold g (omega (arith, counted.defined_are, counted.few_defined))
                      (omega (arith, counted.functions_are, counted.few_functions)) (omega (arith, counted.constraints_are, counted.few_constraints))
                      (omega (arith, counted.assumptions_are, counted.few_assumptions));
                  begins = rw (node_put places j base offset low put (omega (arith, hold.long))) (term_stands hold g);
                  offset_is = offset_put places j base offset low put (omega (arith, hold.long)) ∙ offset_found a;
                  wider = λ n x s. stands_wider hold.all t s;
                  same_bodies = λ n l. other_place places j base offset low put (function_bodies_place + n) (λ e. omega arith) (λ e. omega arith);
                  same_offsets = λ n l. other_place places j base offset low put (offsets_place + n) (λ e. omega arith) (λ e. omega arith);
                }

            -- It passes.
            pub body_passes : (a : Answering text lexemes names raw places nodes p at j base nowhere) → Taken a placesAfter nodesAfter h
            body_passes a =
                let counted = a.reading.counted in
                let few = (to_compare a).gathered.few in
                let taken = (eh (to_compare a)).taken in
                record {
                  stops = λ ne. absurd (ne zh);
                  goes_on = λ e later.
                      judged_is nowhere a.known.defined a.function at a.command later ∙ (eo (list-in a)).goes_on z _ ∙ (eh (to_compare a)).goes_on zh _;
                  one_more = λ e. body_taken a;
                  few = λ e. omega arith;
                  grammars_hold = grammars_kept (body_places places j base offset (j_low a) put) a.reading.forms p.forms a.known.functions
                      (omega (arith, counted.functions_are, counted.few_functions)) a.reading.grammars_hold;
                }
