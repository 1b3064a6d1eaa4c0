-- The items of a response's list, one after the other.
use Prim.Native.Nat.{ℕ, zero, suc, ◌+◌, ◌≤◌, ◌<◌}
use native.Mathlib.Omega.{arith}
use mathlib.Core.Path.{◌≡◌, refl, ap, ◌∙◌, subst}
use mathlib.Core.Bool.{false}
use mathlib.Core.List.{List, [], ◌∷◌}
use lib.ListN.{drop, length}
use Rattle.forest.specs.Forest.{tree}
use Rattle.words.specs.Trees.{Lexeme, list, word_of}
use Rattle.lexemes.specs.Lists.{Items, is_list}
use Rattle.lexemes.specs.code.Standing.{ItemAt, Stands}
use Rattle.lexemes.specs.code.Table.{code_at, next_at, open_code}
use Rattle.lexemes.proofs.ByCode.{code_pos}
use Rattle.lexemes.proofs.Listed.{at_item, is-list, no_list}
use Rattle.forest.proofs.Laws.{Tree}
use Rattle.lexemes.proofs.Standing.{some_left}
use Rattle.written_sorts.proofs.Walked.{placed}
use Rattle.names.specs.Scopes.{Defined, Function}
use Rattle.names.specs.code.Lookup.{source_of}
use Rattle.forest.specs.Limits.{allowed}
use Rattle.script.specs.declared.Progress.{Progress}
use Rattle.script.specs.declared.Verdict.{Verdict}
use Rattle.script.specs.Response.{Answered, Body, in_script_order, judged_all, judged_body, judged_extra, refused, with_body}
use Rattle.script.specs.code.Answers.{shape_answer}
use Rattle.response.specs.code.Responding.{OneMore}
use Rattle.response.specs.code.Functions.{Answering, Taken, body_of}
use Rattle.response.specs.code.Outlines.{Extra, ListIn}
use Rattle.response.specs.code.Answers.{AnyReading, ItemRead}
use Rattle.response.proofs.Picked.{order_length}

-- An item that is no list is refused.
judged_word : (nowhere : ℕ) (defs : List Defined) (close : ℕ) (fs : List Function) (l : Lexeme) (c more : Items) (after : Answered) → is_list l ≡ false
    → judged_all allowed nowhere defs close fs (tree l c more) after ≡ refused shape_answer (word_of l)
unfolding judged_all
judged_word nowhere defs close [] l c more after e = rw e
judged_word nowhere defs close (f ∷ fs) l c more after e = rw e

-- A list where no function is left.
judged-extra : (nowhere : ℕ) (defs : List Defined) (close : ℕ) (at last : ℕ) (c more : Items) (after : Answered)
    → judged_all allowed nowhere defs close [] (tree (list at last) c more) after ≡ judged_extra allowed nowhere at c
unfolding judged_all
judged-extra nowhere defs close at last c more after = refl

-- A list for the next function.
judged_next : (nowhere : ℕ) (defs : List Defined) (close : ℕ) (f : Function) (fs : List Function) (at last : ℕ) (c more : Items) (after : Answered)
    → judged_all allowed nowhere defs close (f ∷ fs) (tree (list at last) c more) after
    ≡ judged_body allowed nowhere defs f at c (judged_all allowed nowhere defs close fs more after)
unfolding judged_all
judged_next nowhere defs close f fs at last c more after = refl

-- A list for the next function that passes.
judged_passes : (nowhere : ℕ) (defs : List Defined) (close : ℕ) (fs behind : List Function) (items : Items) (f : Function) (later : List Function)
    (at last : ℕ) (c more : Items) (body : Body) → items ≡ tree (list at last) c more → fs ≡ f ∷ later → behind ≡ later
    → ((x : Answered) → judged_body allowed nowhere defs f at c x ≡ with_body body x) → (after : Answered)
    → judged_all allowed nowhere defs close fs items after ≡ with_body body (judged_all allowed nowhere defs close behind more after)
judged_passes nowhere defs close fs behind items f later at last c more body is first rest pass after =
    rw (is, first, rest) (judged_next nowhere defs close f later at last c more after ∙ pass (judged_all allowed nowhere defs close later more after))

-- The functions from number n on: none at their end, one before it.
pub drop_none : (fs : List Function) (n : ℕ) → length fs ≤ n → drop n fs ≡ []
drop_none [] zero h = refl
drop_none [] (suc n) h = refl
drop_none (f ∷ fs) zero h = absurd (omega arith)
drop_none (f ∷ fs) (suc n) h = drop_none fs n (omega arith)

-- The first of some functions and those behind it.
pub record Next (fs : List Function) (n : ℕ) : Type 0 where
  pub function : Function
  pub later : List Function
  pub is : drop n fs ≡ function ∷ later
  pub behind : drop (n + 1) fs ≡ later

pub drop_next : (fs : List Function) (n : ℕ) → n < length fs → Next fs n
drop_next [] n h = absurd (omega arith)
drop_next (f ∷ fs) zero h = record { function = f; later = fs; is = refl; behind = refl }
drop_next (f ∷ fs) (suc n) h =
    let r = drop_next fs n (omega arith) in
    let e : suc n + 1 ≡ suc (n + 1) = omega arith in
    record { function = r.function; later = r.later; is = r.is; behind = rw e r.behind }

module _ {text lexemes names raw places nodes : List ℕ} {p : Progress} {at j base nowhere : ℕ} where
  -- The item at the word.
  abbrev item_here : (a : AnyReading text lexemes names raw places nodes p at j base nowhere) → Tree a.reading.items → ItemAt lexemes at
  item_here a t = record {
    source = source_of text lexemes;
    same = refl;
    label = t.l;
    operands = t.ops;
    more = t.rest;
    end = a.close;
    stands = subst (λ (F : Items). Stands (source_of text lexemes) at F a.close) t.is a.reading.stands;
  }

  -- The rows that are taken are within the table of nodes.
  pub base_room : AnyReading text lexemes names raw places nodes p at j base nowhere → base ≤ length nodes
  base_room a =
      let r = a.reading in
      let x = item_here a (some_left r.stands a.some) in
      omega (arith, a.based, r.low, r.nodes_room, r.lawful.ends at (omega (arith, (at_item x).code, code_pos x.label)))

  -- It is a list.
  record Listed (a : AnyReading text lexemes names raw places nodes p at j base nowhere) : Type 0 where
    last : ℕ
    command : Items
    more : Items
    is : a.reading.items ≡ tree (list at last) command more
    stands : Stands (source_of text lexemes) (next_at lexemes at) more a.close

  -- Its shape and limits may be tested.
  abbrev list_of : (a : AnyReading text lexemes names raw places nodes p at j base nowhere) → Listed a → ListIn lexemes raw at nowhere
  list_of a l = record {
    here = record {
      source = source_of text lexemes;
      same = refl;
      close = l.last;
      operands = l.command;
      more = l.more;
      end = a.close;
      stands = subst (λ (F : Items). Stands (source_of text lexemes) at F a.close) l.is a.reading.stands;
    };
    ends = a.reading.lawful.ends;
    room = a.reading.raw_room;
  }

  module _ {code : ℕ} (ec : code ≡ code_at lexemes at) where
    -- It is no list.
    pub word_read : (code ≡ open_code → ⊥) → (a : AnyReading text lexemes names raw places nodes p at j base nowhere)
        → ItemRead a places nodes (record { number = shape_answer; place = at; rows = 0 })
    word_read other a =
        let r = a.reading in
        let t = some_left r.stands a.some in
        let x = item_here a t in
        let fs = drop j (in_script_order a.known.functions) in
        let is = t.is in
        record {
          stops = λ ne after. rw is
              (judged_word nowhere a.known.defined a.close fs t.l t.ops t.rest after (no_list ec other x) ∙ ap (refused shape_answer) (placed x.stands));
          passes = λ z. absurd (omega arith);
          grammars_hold = r.grammars_hold;
        }

    module _ (eo : code ≡ open_code) where
      -- A list stands there.
      listed : (a : AnyReading text lexemes names raw places nodes p at j base nowhere) → Listed a
      listed a =
          let t = some_left a.reading.stands a.some in
          let x = item_here a t in
          let h = (at_item x).a_list (is-list ec eo x) in
          record {
            last = h.close;
            command = t.ops;
            more = t.rest;
            is = t.is ∙ ap (λ (l : Lexeme). tree l t.ops t.rest) h.label;
            stands = (at_item x).rest;
          }

      -- Its shape and limits are asked for.
      pub extra_list : AnyReading text lexemes names raw places nodes p at j base nowhere → ListIn lexemes raw at nowhere
      extra_list a = list_of a (listed a)

      -- No function is left.
      pub extra_read : j ≡ p.functions → {v : Verdict} → ((x : ListIn lexemes raw at nowhere) → Extra x v)
          → (a : AnyReading text lexemes names raw places nodes p at j base nowhere) → ItemRead a places nodes v
      extra_read ej by a =
          let l = listed a in
          let e = by (list_of a l) in
          let is = l.is in
          let order = in_script_order a.known.functions in
          let empty : drop j (in_script_order a.known.functions) ≡ [] =
          drop_none (in_script_order a.known.functions) j (omega (arith, a.reading.counted.functions_are, order_length a.known.functions)) in
          record {
            stops = λ ne after. rw (is, empty)
                (judged-extra nowhere a.known.defined a.close at l.last l.command l.more after ∙ e.refuses);
            passes = λ z. absurd (e.number z);
            grammars_hold = a.reading.grammars_hold;
          }

      module _ (ne : j ≡ p.functions → ⊥) where
        -- The next function.
        next_function : (a : AnyReading text lexemes names raw places nodes p at j base nowhere) → Next (in_script_order a.known.functions) j
        next_function a =
            drop_next (in_script_order a.known.functions) j
            (omega (arith, a.reading.passed, a.reading.counted.functions_are, order_length a.known.functions))

        -- The list is for it.
        abbrev for_next : (a : AnyReading text lexemes names raw places nodes p at j base nowhere) → Listed a
            → Next (in_script_order a.known.functions) j → Answering text lexemes names raw places nodes p at j base nowhere
        for_next a l n = record {
          known = a.known;
          end = a.close;
          rows = a.rows;
          based = a.based;
          reading = a.reading;
          close = l.last;
          command = l.command;
          more = l.more;
          is = l.is;
          function = n.function;
          later = n.later;
          next = n.is;
        }

        -- It is asked for.
        pub body_asked : AnyReading text lexemes names raw places nodes p at j base nowhere
            → Answering text lexemes names raw places nodes p at j base nowhere
        body_asked a = for_next a (listed a) (next_function a)

        -- It is read.
        pub body_read : {placesAfter nodesAfter : List ℕ} {v : Verdict}
            → ((q : Answering text lexemes names raw places nodes p at j base nowhere) → Taken q placesAfter nodesAfter v)
            → (a : AnyReading text lexemes names raw places nodes p at j base nowhere) → ItemRead a placesAfter nodesAfter v
        body_read {placesAfter} {nodesAfter} {v} by a =
            let l = listed a in
            let n = next_function a in
            let t = by (for_next a l n) in
            let is = l.is in
            let first = n.is in
            let behind = n.behind in
            let defs = a.known.defined in
            let body = body_of a.known.defined n.function l.command in
            let all = a.reading.places_hold.all in
            let less = a.reading.passed in
            record {
              stops = λ some after. rw (is, first)
                  (judged_next nowhere a.known.defined a.close n.function n.later at l.last l.command l.more after ∙ t.stops some _);
              passes = λ z. record {
                body = body;
                items = l.more;
                stands = l.stands;
                goes_on = judged_passes nowhere a.known.defined a.close (drop j (in_script_order a.known.functions))
                    (drop (j + 1) (in_script_order a.known.functions)) a.reading.items n.function n.later at l.last l.command l.more
                    (body_of a.known.defined n.function l.command) is first behind (t.goes_on z);
                one_more = subst (λ (b : ℕ). OneMore text places b a.known all j body placesAfter nodesAfter v.rows) a.based (t.one_more z);
                low = omega (arith, a.reading.low, t.few z);
                passed = omega arith;
              };
              grammars_hold = t.grammars_hold;
            }
