-- The shape and the limits of a `define-fun`, tested one after the other.
use Prim.Native.Nat.{ℕ, ◌+◌, ◌-◌, ◌≤◌, ◌<◌, min}
use native.Mathlib.Omega.{arith}
use mathlib.Core.Path.{◌≡◌, refl, sym, ap₂, ◌∙◌, subst}
use mathlib.Core.Bool.{Bool, true, false, not}
use mathlib.Core.List.{List}
use lib.ListN.{length}
use lib.Dec.{eqb}
use borrow.Author.Tests.{eq-eqb, le-ltb, lt-ltb, ne_eqb, not-false, not-true}
use Rattle.forest.specs.Forest.{nodes_of, tree}
use Rattle.lexemes.specs.Lists.{Items, after, inside, is, item}
use Rattle.lexemes.specs.code.Standing.{Between, ListAt, Stands}
use Rattle.lexemes.specs.code.Table.{code_at, next_at}
use Rattle.lexemes.specs.code.Codes.{define_fun_code}
use Rattle.lexemes.proofs.ByCode.{code_for, front_word}
use Rattle.lexemes.proofs.Listed.{between, first_code_lem}
use Rattle.shapes.specs.Carried.{any_uncarried}
use Rattle.shapes.specs.Shapes.{define_fun_shape}
use Rattle.written_sorts.specs.code.Headers.{HeaderAt}
use Rattle.term_nodes.specs.Terms.{raw_term, word_past}
use Rattle.bodies.specs.code.Bodies.{Limited, TermAt}
use Rattle.bodies.specs.declared.Body.{Body as Rows}
use Rattle.headers.specs.Heads.{header_past}
use Rattle.forest.specs.Limits.{allowed, most_nodes}
use Rattle.headers.specs.code.Heads.{HeadLimited}
use Rattle.script.specs.Response.{Answered, judged_extra, refused}
use Rattle.response.specs.code.Outlines.{Extra, ListIn, Outlined, body_at, outlined}
use Rattle.script.specs.declared.Verdict.{Verdict}
use Rattle.script.specs.code.Answers.{limit_answer, shape_answer, uncarried_answer, header_answer}
use Rattle.response.proofs.BodyItem.{body_item, body_shaped, head_of, next_within, rows_within}

-- The least word past a limit.
abbrev limit_of : (nowhere : ℕ) → Items → ℕ
limit_of nowhere c = min (header_past allowed nowhere c) (word_past nowhere most_nodes (nodes_of (raw_term (item 4 c) (inside 4 c))))

module _ {lexemes raw : List ℕ} {at nowhere : ℕ} where
  -- A refusal is one.
  refusal : (x : ListIn lexemes raw at nowhere) (rawAfter : List ℕ) {number place rows : ℕ} → length rawAfter ≡ length raw → (number ≡ 0 → ⊥)
      → ((later : Answered) → outlined allowed nowhere at x.here.operands later ≡ refused number place)
      → Outlined x rawAfter (record { number = number; place = place; rows = rows })
  refusal x rawAfter long some is =
      record { stops = λ ne later. is later; goes_on = λ z. absurd (some z); gathered = λ z. absurd (some z); long = long }

  -- What follows a `define-fun` that passes is `later`; one past the last function is refused.
  pub extra_stops : {rawAfter : List ℕ} {v : Verdict} → ((x : ListIn lexemes raw at nowhere) → Outlined x rawAfter v) → (v.number ≡ 0 → ⊥)
      → (x : ListIn lexemes raw at nowhere) → Extra x v
  unfolding judged_extra outlined
  extra_stops by ne x = record { refuses = (by x).stops ne (refused header_answer at); number = ne }

  -- One that passes is one too many.
  pub extra_passes : {rawAfter : List ℕ} {v : Verdict} → ((x : ListIn lexemes raw at nowhere) → Outlined x rawAfter v) → v.number ≡ 0
      → (x : ListIn lexemes raw at nowhere) → Extra x (record { number = header_answer; place = at; rows = 0 })
  unfolding judged_extra outlined
  extra_passes by z x = record { refuses = (by x).goes_on z (refused header_answer at); number = λ e. omega arith }

  module _ {code : ℕ} (ec : code ≡ code_at lexemes (at + 1)) where
    -- The test of the command's word goes by its code.
    by_code : (x : ListIn lexemes raw at nowhere) → is "define-fun" (item 0 x.here.operands) ≡ eqb code define_fun_code
    unfolding after code_for
    by_code x = front_word "define-fun" refl 0 x.here.operands ∙ rw (ec, first_code_lem x.here)

    -- Another command.
    pub other_command : (code ≡ define_fun_code → ⊥) → (x : ListIn lexemes raw at nowhere) → Outlined x raw (record { number = shape_answer; place = at; rows = 0 })
    unfolding outlined
    other_command other x = refusal x raw refl (λ e. omega arith) (λ later. rw (by_code x, ne_eqb code define_fun_code other))

    module _ (e10 : code ≡ define_fun_code) where
      -- A `define-fun`.
      pub is_by : (x : ListIn lexemes raw at nowhere) → is "define-fun" (item 0 x.here.operands) ≡ true
      is_by x = by_code x ∙ eq-eqb code define_fun_code e10

      module _ {next : ℕ} (en : next ≡ next_at lexemes at) {u : Bool} (eu : (b : Between lexemes (at + 1) (next - 1)) → u ≡ any_uncarried b.items) where
        -- One in which something is not carried.
        pub some_uncarried : u ≡ true → (x : ListIn lexemes raw at nowhere) → Outlined x raw (record { number = uncarried_answer; place = at; rows = 0 })
        unfolding outlined
        some_uncarried t x =
            let all : any_uncarried x.here.operands ≡ true = sym (eu (between x.here en)) ∙ t in
            refusal x raw refl (λ e. omega arith) (λ later. rw (is_by x, all))

        module _ (nu : u ≡ false) {s : Bool} (es : (x : ListAt lexemes at) → s ≡ define_fun_shape x.operands) where
          -- Everything is carried.
          carried : (x : ListIn lexemes raw at nowhere) → any_uncarried x.here.operands ≡ false
          carried x = sym (eu (between x.here en)) ∙ nu

          -- One of another shape.
          pub misshapen : not s ≡ true → (x : ListIn lexemes raw at nowhere) → Outlined x raw (record { number = shape_answer; place = at; rows = 0 })
          unfolding outlined
          misshapen t x =
              let shape : define_fun_shape x.here.operands ≡ false = sym (es x.here) ∙ not-true s t in
              refusal x raw refl (λ e. omega arith) (λ later. rw (is_by x, carried x, shape))

          module _ (ns : not s ≡ false) where
            -- It is of its shape.
            pub is_shaped : (x : ListIn lexemes raw at nowhere) → define_fun_shape x.here.operands ≡ true
            is_shaped x = sym (es x.here) ∙ not-false s ns

            -- Its head.
            abbrev pub head_in : ListIn lexemes raw at nowhere → HeaderAt lexemes at
            head_in x = head_of x.here (is_by x) (is_shaped x)

            module _ {first : ℕ} (ef : first ≡ body_at lexemes at) where
              -- Its body.
              abbrev pub body-in : ListIn lexemes raw at nowhere → TermAt lexemes raw first
              body-in x =
                  let b = body_item x.here (is_by x) (is_shaped x) in
                  record {
                    source = b.source;
                    same = b.same;
                    label = b.label;
                    operands = b.operands;
                    more = b.more;
                    end = b.end;
                    stands = subst (λ (n : ℕ). Stands b.source n (tree b.label b.operands b.more) b.end) (sym ef) b.stands;
                    shaped = body_shaped x.here (is_by x) (is_shaped x);
                    room = rw ef (omega (arith, x.room, next_within x.ends b));
                  }

              module _ {head : ℕ} (eh : (p : HeaderAt lexemes at) → HeadLimited p allowed nowhere head) {rawAfter : List ℕ} {b : Rows}
                  (eb : (p : TermAt lexemes raw first) → Limited p most_nodes nowhere rawAfter b) {place : ℕ} (ep : place ≡ min head b.place) where
                -- The least word past a limit is found.
                limit_is : (x : ListIn lexemes raw at nowhere) → limit_of nowhere x.here.operands ≡ place
                limit_is x = sym (ep ∙ ap₂ min (eh (head_in x)) (eb (body-in x)).place_is)

                -- One past a limit.
                pub past_limit : place < nowhere → (x : ListIn lexemes raw at nowhere) → Outlined x rawAfter (record { number = limit_answer; place = place; rows = 0 })
                unfolding outlined
                past_limit h x =
                    let limit = limit_is x in
                    refusal x rawAfter (eb (body-in x)).long (λ e. omega arith) (λ later. rw (is_by x, carried x, is_shaped x, limit, lt-ltb place nowhere h))

                -- One that passes: the nodes of its body are gathered.
                pub within_limits : nowhere ≤ place → (x : ListIn lexemes raw at nowhere)
                    → Outlined x rawAfter (record { number = 0; place = place; rows = b.rows })
                unfolding outlined
                within_limits h x =
                    let limit = limit_is x in
                    let l = eb (body-in x) in
                    record {
                      stops = λ ne later. absurd (ne refl);
                      goes_on = λ z later. rw (is_by x, carried x, is_shaped x, limit, le-ltb place nowhere h);
                      gathered = λ z. record {
                        by = is_by x;
                        shaped = is_shaped x;
                        rest = l.rest;
                        raw_is = l.raw_is;
                        counted = l.rows_are;
                        few = omega (arith, l.rows_are, rows_within x.here (is_by x) (is_shaped x));
                      };
                      long = l.long;
                    }
