-- The loop over the items of the list that a response is.
use Prim.Native.Nat.{ℕ, ◌+◌, ◌-◌, ◌≤◌, ◌<◌}
use native.Mathlib.Omega.{arith}
use mathlib.Core.Path.{◌≡◌, refl, sym, ap, ◌∙◌, subst}
use mathlib.Core.List.{List, [], ◌∷◌, ◌++◌}
use lib.ListN.{drop, length, length-append}
use Rattle.forest.specs.Forest.{count, none, tree}
use Rattle.forest.specs.Lists.{same_bytes}
use Rattle.words.specs.Trees.{Lexeme, list}
use Rattle.terms.specs.Labels.{Terms}
use Rattle.evaluation.specs.code.Tables.{TermStands}
use Rattle.lexemes.specs.Lists.{Items}
use Rattle.lexemes.specs.code.Standing.{ItemAt, Stands}
use Rattle.lexemes.specs.code.Table.{code_at, next_at, open_code}
use Rattle.forest.proofs.Laws.{Tree}
use Rattle.lexemes.proofs.Listed.{at_item, is-list}
use Rattle.lexemes.proofs.Standing.{none_left, some_left}
use Rattle.written_sorts.proofs.Walked.{placed}
use Rattle.names.specs.Scopes.{Defined, Function}
use Rattle.names.specs.code.Lookup.{source_of}
use Rattle.forest.specs.Limits.{allowed, most_functions}
use Rattle.script.specs.Script.{Known}
use Rattle.script.specs.code.Tables.{GrammarsHold, PlacesHold}
use Rattle.script.specs.code.Places.{body_in, functions_place, offset_in}
use Rattle.script.specs.Outcome.{offset_of}
use Rattle.script.specs.declared.Progress.{Progress}
use Rattle.script.specs.declared.Verdict.{Verdict}
use Rattle.script.specs.Response.{Answered, Body, answered, bodies, nothing_behind, in_script_order, judged_all, refused, with_body}
use Rattle.script.specs.code.Answers.{shape_answer, header_answer}
use Rattle.response.specs.code.Responding.{Reading}
use Rattle.response.specs.code.Answers.{Answers, AnyReading, ItemRead, Responded, Responding, ResponseAt}
use Rattle.response.proofs.Picked.{order_length}
use Rattle.response.proofs.ItemRead.{drop_next, drop_none}

-- Bodies in front of what follows.
unfoldable pub with_bodies : List Body → Answered → Answered
with_bodies [] x = x
with_bodies (b ∷ more) x = with_body b (with_bodies more x)

-- One more behind them.
with_last : (bs : List Body) (b : Body) (x : Answered) → with_bodies (bs ++ b ∷ []) x ≡ with_bodies bs (with_body b x)
unfolding with_bodies
with_last [] b x = refl
with_last (a ∷ bs) b x = ap (with_body a) (with_last bs b x)

-- A refusal behind them.
with_refused : (bs : List Body) (number place : ℕ) → with_bodies bs (refused number place) ≡ refused number place
unfolding with_bodies
with_refused [] number place = refl
with_refused (b ∷ bs) number place = ap (with_body b) (with_refused bs number place)

-- Nothing behind them.
with_all : (bs : List Body) → with_bodies bs (bodies []) ≡ bodies bs
unfolding with_bodies
with_all [] = refl
with_all (b ∷ bs) = ap (with_body b) (with_all bs)

-- Bodies stand where they stood.
response_wider : (text : List ℕ) (all wide : Terms) (places placesAfter : List ℕ) (m : ℕ) (bs : List Body)
    → ((n : ℕ) (t : Terms) → TermStands all n t → TermStands wide n t)
    → ((n : ℕ) → n < m + length bs → body_in placesAfter n ≡ body_in places n) → ((n : ℕ) → n < m + length bs → offset_in placesAfter n ≡ offset_in places n)
    → ResponseAt text all places m bs → ResponseAt text wide placesAfter m bs
unfolding ResponseAt
response_wider text all wide places placesAfter m [] wider nodes offsets held = tt
response_wider text all wide places placesAfter m (b ∷ bs) wider nodes offsets held =
    let node = nodes m (omega arith) in
    let offset = offsets m (omega arith) in (
      rw node (wider _ _ held.0),
      offset ∙ held.1,
      response_wider text all wide places placesAfter (m + 1) bs wider (λ n h. nodes n (omega arith)) (λ n h. offsets n (omega arith)) held.2,
    )

-- One more stands behind them.
response_more : (text : List ℕ) (all : Terms) (places : List ℕ) (m j : ℕ) (bs : List Body) (b : Body) → j ≡ m + length bs → ResponseAt text all places m bs
    → TermStands all (body_in places j) b.term → offset_in places j ≡ offset_of text b.first → ResponseAt text all places m (bs ++ b ∷ [])
unfolding ResponseAt
response_more text all places m j [] b e held node offset =
    let z : j ≡ m = omega arith in
    (subst (λ (n : ℕ). TermStands all (body_in places n) b.term) z node, subst (λ (n : ℕ). offset_in places n ≡ offset_of text b.first) z offset, tt)
response_more text all places m j (a ∷ bs) b e held node offset =
    (held.0, held.1, response_more text all places (m + 1) j bs b (omega arith) held.2 node offset)

-- A response that begins with a list.
answered_list : (nowhere : ℕ) (defs : List Defined) (fs : List Function) (at close : ℕ) (c more : Items)
    → answered allowed nowhere defs fs (tree (list at close) c more) ≡ judged_all allowed nowhere defs close fs c (nothing_behind more)
unfolding answered count same_bytes
answered_list nowhere defs fs at close c more = refl

-- The end of the list where functions are left.
missing : (nowhere : ℕ) (defs : List Defined) (close : ℕ) (f : Function) (fs : List Function) (after : Answered)
    → judged_all allowed nowhere defs close (f ∷ fs) none after ≡ refused header_answer close
unfolding judged_all
missing nowhere defs close f fs after = refl

-- The end of the list where none is left.
complete : (nowhere : ℕ) (defs : List Defined) (close : ℕ) (after : Answered) → judged_all allowed nowhere defs close [] none after ≡ after
unfolding judged_all
complete nowhere defs close after = refl

-- The same rows by another number.
abbrev rebased : {places nodes : List ℕ} {n m : ℕ} {k : Known} → m ≡ n → PlacesHold places nodes n k → PlacesHold places nodes m k
rebased e h = record {
  long = h.long;
  defined_rows = h.defined_rows;
  function_rows = h.function_rows;
  all = h.all;
  rest = h.rest;
  nodes_are = h.nodes_are;
  rows_are = e ∙ h.rows_are;
  plain = h.plain;
  bodies_at = h.bodies_at;
  constraints_at = h.constraints_at;
  assumptions_at = h.assumptions_at;
}

module _ {text lexemes names raw₀ places₀ nodes₀ : List ℕ} {p : Progress} {nowhere : ℕ} where
  -- So many bodies were read, and what is left gives the response.
  pub record Left (q : Responding text lexemes names raw₀ places₀ nodes₀ p nowhere) (raw places nodes : List ℕ) (close at j rows : ℕ) : Type 0 where
    pub reading : Reading text lexemes names raw places nodes p at close j rows nowhere q.known
    pub same_forms : reading.forms ≡ q.forms
    pub done : List Body
    pub counted : length done ≡ j
    pub bodies_at : ResponseAt text reading.places_hold.all places 0 done
    pub more : Items
    pub behind : Stands (source_of text lexemes) (close + 1) more nowhere
    pub owed : answered allowed nowhere q.known.defined (in_script_order q.known.functions) q.items
        ≡ with_bodies done
        (judged_all allowed nowhere q.known.defined close (drop j (in_script_order q.known.functions)) reading.items (nothing_behind more))

-- The loop's invariant.
pub record Going (text lexemes names raw₀ places₀ nodes₀ : List ℕ) (p : Progress) (nowhere : ℕ) (raw places nodes : List ℕ) (close at j rows : ℕ)
    : Type 0 where
  pub given : Responding text lexemes names raw₀ places₀ nodes₀ p nowhere
  pub same_raw : length raw ≡ length raw₀
  pub same_places : length places ≡ length places₀
  pub same_nodes : length nodes ≡ length nodes₀
  pub few : j ≤ most_functions
  pub each : (q : Responding text lexemes names raw₀ places₀ nodes₀ p nowhere) → Left q raw places nodes close at j rows

module _ {text lexemes names raw₀ places₀ nodes₀ : List ℕ} {p : Progress} {nowhere : ℕ} where
  -- The first item.
  abbrev pub first_item : (q : Responding text lexemes names raw₀ places₀ nodes₀ p nowhere) → Tree q.items → ItemAt lexemes 0
  first_item q t = record {
    source = source_of text lexemes;
    same = refl;
    label = t.l;
    operands = t.ops;
    more = t.rest;
    end = nowhere;
    stands = subst (λ (F : Items). Stands (source_of text lexemes) 0 F nowhere) t.is q.stands;
  }

  module _ {next : ℕ} (en : next ≡ next_at lexemes 0) (eo : code_at lexemes 0 ≡ open_code) where
    -- There is one.
    first_some : (q : Responding text lexemes names raw₀ places₀ nodes₀ p nowhere) → Tree q.items
    first_some q = some_left q.stands (q.lawful.ends 0 (omega (arith, eo)))

    -- It ends behind its first word.
    pub first_ahead : Responding text lexemes names raw₀ places₀ nodes₀ p nowhere → 1 ≤ next
    first_ahead q = omega (arith, en, (at_item (first_item q (first_some q))).ahead)

    -- Nothing is read at the start.
    start_turn : (q : Responding text lexemes names raw₀ places₀ nodes₀ p nowhere) → Left q raw₀ places₀ nodes₀ (next - 1) 1 0 0
    unfolding ResponseAt with_bodies
    start_turn q =
        let t = first_some q in
        let x = first_item q t in
        let h = (at_item x).a_list (is-list refl eo x) in
        let defs = q.known.defined in
        let order = in_script_order q.known.functions in
        let ends : next - 1 ≡ h.close = omega (arith, en, h.next) in
        let past : next - 1 + 1 ≡ next_at lexemes 0 = omega (arith, en, h.next) in
        let is : q.items ≡ tree (list 0 h.close) t.ops t.rest = t.is ∙ ap (λ (l : Lexeme). tree l t.ops t.rest) h.label in
        record {
          reading = record {
            items = t.ops;
            stands = rw ends h.stands;
            lawful = q.lawful;
            starts = q.starts;
            few = q.few;
            counted = q.tables.counted;
            names_hold = q.tables.names_hold;
            places_hold = rebased (omega arith) q.tables.places_hold;
            forms = q.forms;
            grammars_hold = q.tables.grammars_hold;
            low = omega arith;
            passed = omega arith;
            raw_room = q.raw_room;
            nodes_room = q.nodes_room;
          };
          same_forms = refl;
          done = [];
          counted = refl;
          bodies_at = tt;
          more = t.rest;
          behind = rw past (at_item x).rest;
          owed = ap (answered allowed nowhere defs order) is ∙ answered_list nowhere defs order 0 h.close t.ops t.rest
              ∙ ap (λ (n : ℕ). judged_all allowed nowhere defs n order t.ops (nothing_behind t.rest)) (sym ends);
        }

    -- The loop may start.
    pub going_start : Responding text lexemes names raw₀ places₀ nodes₀ p nowhere
        → Going text lexemes names raw₀ places₀ nodes₀ p nowhere raw₀ places₀ nodes₀ (next - 1) 1 0 0
    going_start q =
        record { given = q; same_raw = refl; same_places = refl; same_nodes = refl; few = omega arith; each = start_turn }

  module _ {raw places nodes : List ℕ} {close at j rows : ℕ}
      (g : Going text lexemes names raw₀ places₀ nodes₀ p nowhere raw places nodes close at j rows) where
    module _ (some : at < close) where
      -- An item is left.
      abbrev pub left-of : (q : Responding text lexemes names raw₀ places₀ nodes₀ p nowhere)
          → AnyReading text lexemes names raw places nodes p at j (p.nodes + rows) nowhere
      left-of q = record { known = q.known; close = close; rows = rows; based = refl; reading = (g.each q).reading; some = some }

      -- It may be read.
      abbrev pub item_asked : AnyReading text lexemes names raw places nodes p at j (p.nodes + rows) nowhere
      item_asked = left-of g.given

      module _ {placesAfter nodesAfter : List ℕ} {v : Verdict}
          (by : (a : AnyReading text lexemes names raw places nodes p at j (p.nodes + rows) nowhere) → ItemRead a placesAfter nodesAfter v) where
        -- It is refused.
        pub item_stops : (v.number ≡ 0 → ⊥) → length nodesAfter ≡ length nodes → (q : Responding text lexemes names raw₀ places₀ nodes₀ p nowhere)
            → Responded q placesAfter nodesAfter v
        item_stops ne same q =
            let t = g.each q in
            let i = by (left-of q) in
            let is : answered allowed nowhere q.known.defined (in_script_order q.known.functions) q.items ≡ refused v.number v.place =
            t.owed ∙ ap (with_bodies t.done) (i.stops ne (nothing_behind t.more)) ∙ with_refused t.done v.number v.place in
            record {
              answers = subst (λ (x : Answered). Answers x text placesAfter nodesAfter p.nodes q.known v) (sym is) (refl, refl);
              grammars_hold = subst (λ (f : List ℕ). GrammarsHold (drop functions_place placesAfter) f p.forms q.known.functions) t.same_forms
                  i.grammars_hold;
              long = same ∙ g.same_nodes;
            }

        module _ (z : v.number ≡ 0) {next : ℕ} (en : next ≡ next_at lexemes at) where
          -- Its rows are no more than its words.
          pub item_low : rows + v.rows ≤ next
          item_low = omega (arith, en, ((by item_asked).passes z).low)

          -- The next item stands further on.
          pub item_less : close - next < close - at
          item_less =
              let r = (g.each g.given).reading in
              let t = some_left r.stands some in
              let x : ItemAt lexemes at = record {
                source = source_of text lexemes;
                same = refl;
                label = t.l;
                operands = t.ops;
                more = t.rest;
                end = close;
                stands = subst (λ (F : Items). Stands (source_of text lexemes) at F close) t.is r.stands;
              } in
              omega (arith, en, (at_item x).ahead)

          -- The turn of the loop.
          pub going_turn : {rawAfter : List ℕ} → length rawAfter ≡ length raw → length placesAfter ≡ length places → length nodesAfter ≡ length nodes
              → Going text lexemes names raw₀ places₀ nodes₀ p nowhere rawAfter placesAfter nodesAfter close next (j + 1) (rows + v.rows)
          going_turn {rawAfter} same_raw same_places same_nodes = record {
            given = g.given;
            same_raw = same_raw ∙ g.same_raw;
            same_places = same_places ∙ g.same_places;
            same_nodes = same_nodes ∙ g.same_nodes;
            few = omega (arith, ((by item_asked).passes z).passed, (g.each g.given).reading.counted.few_functions);
            each = λ q.
                let t = g.each q in
                let r = t.reading in
                let i = by (left-of q) in
                let k = i.passes z in
                let one = k.one_more in
                let stood = response_wider text r.places_hold.all one.places_hold.all places placesAfter 0 t.done one.wider
                (λ n h. one.same_bodies n (omega (arith, t.counted))) (λ n h. one.same_offsets n (omega (arith, t.counted))) t.bodies_at in
                record {
                  reading = record {
                    items = k.items;
                    stands = rw en k.stands;
                    lawful = r.lawful;
                    starts = r.starts;
                    few = r.few;
                    counted = r.counted;
                    names_hold = r.names_hold;
                    places_hold = rebased (omega arith) one.places_hold;
                    forms = r.forms;
                    grammars_hold = i.grammars_hold;
                    low = omega (arith, en, k.low);
                    passed = k.passed;
                    raw_room = rw same_raw r.raw_room;
                    nodes_room = rw same_nodes r.nodes_room;
                  };
                  same_forms = t.same_forms;
                  done = t.done ++ k.body ∷ [];
                  counted = omega (arith, length-append t.done (k.body ∷ []), t.counted);
                  bodies_at = response_more text one.places_hold.all placesAfter 0 j t.done k.body (omega (arith, t.counted)) stood one.begins
                      one.offset_is;
                  more = t.more;
                  behind = t.behind;
                  owed = t.owed ∙ ap (with_bodies t.done) (k.goes_on (nothing_behind t.more)) ∙ sym (with_last t.done k.body _);
                };
          }

    module _ (over : close ≤ at) where
      -- No item is left.
      ended : (q : Responding text lexemes names raw₀ places₀ nodes₀ p nowhere) → (g.each q).reading.items ≡ none
      ended q = none_left (g.each q).reading.stands over

      -- A refusal at the end.
      refused_end : (q : Responding text lexemes names raw₀ places₀ nodes₀ p nowhere) {number place : ℕ} (more : ℕ)
          → answered allowed nowhere q.known.defined (in_script_order q.known.functions) q.items ≡ refused number place
          → Responded q places nodes (record { number = number; place = place; rows = more })
      refused_end q {number} {place} more is =
          let t = g.each q in
          record {
            answers = subst (λ (x : Answered). Answers x text places nodes p.nodes q.known (record { number = number; place = place; rows = more }))
                (sym is) (refl, refl);
            grammars_hold = subst (λ (f : List ℕ). GrammarsHold (drop functions_place places) f p.forms q.known.functions) t.same_forms
                t.reading.grammars_hold;
            long = g.same_nodes;
          }

      -- Functions are left.
      pub list_short : j < p.functions → (q : Responding text lexemes names raw₀ places₀ nodes₀ p nowhere)
          → Responded q places nodes (record { number = header_answer; place = close; rows = rows })
      list_short less q =
          let t = g.each q in
          let order = in_script_order q.known.functions in
          let n = drop_next (in_script_order q.known.functions) j (omega (arith, t.reading.counted.functions_are, order_length q.known.functions)) in
          let none_is = ended q in
          let first = n.is in
          let last : judged_all allowed nowhere q.known.defined close (drop j (in_script_order q.known.functions)) t.reading.items (nothing_behind
          t.more) ≡ refused header_answer close =
          rw (none_is, first) (missing nowhere q.known.defined close n.function n.later (nothing_behind t.more)) in
          refused_end q rows (t.owed ∙ ap (with_bodies t.done) last ∙ with_refused t.done header_answer close)

      module _ (whole : p.functions ≤ j) where
        -- What is left is what stands behind the list.
        ending_left : (q : Responding text lexemes names raw₀ places₀ nodes₀ p nowhere)
            → answered allowed nowhere q.known.defined (in_script_order q.known.functions) q.items ≡ with_bodies (g.each q).done (nothing_behind
            (g.each q).more)
        ending_left q =
            let t = g.each q in
            let order = in_script_order q.known.functions in
            let empty = drop_none (in_script_order q.known.functions) j (omega (
              arith,
              t.reading.counted.functions_are,
              order_length
                  q.known.functions,
            )) in
            let none_is = ended q in
            let last : judged_all allowed nowhere q.known.defined close (drop j (in_script_order q.known.functions)) t.reading.items (nothing_behind
            t.more) ≡ nothing_behind t.more =
            rw (none_is, empty) (complete nowhere q.known.defined close (nothing_behind t.more)) in
            t.owed ∙ ap (with_bodies t.done) last

        -- Something does.
        pub more_behind : close + 1 < nowhere → (q : Responding text lexemes names raw₀ places₀ nodes₀ p nowhere)
            → Responded q places nodes (record { number = shape_answer; place = close + 1; rows = rows })
        more_behind h q =
            let t = g.each q in
            let s = some_left t.behind h in
            let here = placed (subst (λ (F : Items). Stands (source_of text lexemes) (close + 1) F nowhere) s.is t.behind) in
            let last : nothing_behind t.more ≡ refused shape_answer (close + 1) = ap nothing_behind s.is ∙ ap (refused shape_answer) here in
            refused_end q rows (ending_left q ∙ ap (with_bodies t.done) last ∙ with_refused t.done shape_answer (close + 1))

        -- Nothing does.
        pub list_whole : nowhere ≤ close + 1 → (q : Responding text lexemes names raw₀ places₀ nodes₀ p nowhere)
            → Responded q places nodes (record { number = 0; place = nowhere; rows = rows })
        list_whole h q =
            let t = g.each q in
            let last : nothing_behind t.more ≡ bodies [] = ap nothing_behind (none_left t.behind h) in
            let is = ending_left q ∙ ap (with_bodies t.done) last ∙ with_all t.done in
            record {
              answers = subst (λ (x : Answered). Answers x text places nodes p.nodes q.known (record { number = 0; place = nowhere; rows = rows })) (sym is)
                  (refl, record { places_hold = t.reading.places_hold; bodies_at = t.bodies_at });
              grammars_hold = subst (λ (f : List ℕ). GrammarsHold (drop functions_place places) f p.forms q.known.functions) t.same_forms
                  t.reading.grammars_hold;
              long = g.same_nodes;
            }
