-- The scan of a text: its invariant, its turns and its two ends.
use Prim.Native.Nat.{ℕ, ◌+◌, ◌-◌, ◌*◌, ◌≤◌, ◌<◌, ◌^◌}
use native.Mathlib.Omega.{arith}
use mathlib.Core.Path.{◌≡◌, refl, sym, ap, ◌∙◌}
use mathlib.Core.Bool.{Bool, true, false, cond, ◌&&◌, ◌||◌}
use mathlib.Core.List.{List, [], ◌∷◌, ◌++◌, map, map-append}
use Rattle.std.specs.Prelude.{Option, None, Some, Ok}
use borrow.Author.Tests.{leb-false}
use lib.Dec.{eqb, leb}
use lib.ListN.{length, drop, take, drop_of_length-le, length-map, length-set}
use lib.Seq.{length-sets, length-take-le, sets}
use Rattle.forest.specs.Tables.{over, rows}
use Rattle.forest.proofs.Bools.{or_left}
use Rattle.forest.proofs.Lists.{drop_more, take_more, within}
use Rattle.forest.proofs.Rows.{length_rows, over_more, rows_append}
use Rattle.words.specs.Table.{closes, opens, row, value_of, word_values}
use Rattle.word_kinds.specs.Kinds.{kind_of}
use Rattle.words.specs.Reading.{close_fault, depth_after, found_at_end, fault_at, found_from, found_there, lesser, limit_fault, own_fault, refused, words_read}
use Rattle.words.specs.Answers.{Reading, passed}
use Rattle.words.specs.Spans.{starts_from, word_end, word_starts}
use Rattle.words.specs.code.Scan.{Scanned}
use Rattle.words.specs.code.Rows.{Room, Written, unlinked}
use Rattle.words.specs.code.Spans.{first_start}
use Rattle.words.specs.Words.{Word, bytes_at, word_at, words_of}
use Rattle.word_kinds.specs.declared.Fault.{Fault}
use Rattle.word_kinds.specs.declared.Fault.TheVariants.{Bracket, PastLimit}
use Rattle.word_kinds.specs.declared.Kind.{Kind}
use Rattle.words.specs.declared.Limits.{Limits}
use Rattle.words.proofs.Chains.{wide}
use Rattle.words.proofs.Offsets.{Front, end_within, first_front, first_same, starts_at, word_first}

-- ---- where there is no fault

pub lesser_none : (a b : Option Fault) → lesser a b ≡ None → (a ≡ None) × (b ≡ None)
lesser_none None b e = (refl, e)
lesser_none (Some a) None e = (e, refl)
lesser_none (Some a) (Some b) e = absurd (let z : ◌≡◌ {A = ℕ} 0 1 = cc in omega arith)

room : (limits : Limits) (kind : Kind) (n depth : ℕ) → limit_fault limits kind n depth ≡ None → n < limits.words
room limits kind n depth e = go (leb limits.words n || opens kind && leb limits.nesting depth) refl e
  where
    go : (t : Bool) → leb limits.words n || opens kind && leb limits.nesting depth ≡ t → cond t (Some PastLimit) None ≡ None → n < limits.words
    go true t h = absurd (let z : ◌≡◌ {A = ℕ} 0 1 = cc in omega arith)
    go false t h = leb-false _ _ (or_left (leb limits.words n) _ t)

pub has_room : (limits : Limits) (kind : Kind) (n depth : ℕ) → fault_at limits kind n depth ≡ None → n < limits.words
unfolding fault_at
has_room limits kind n depth none =
    let inner = (lesser_none (own_fault kind) (lesser (close_fault kind depth) (limit_fault limits kind n depth)) none).1 in
    room limits kind n depth (lesser_none (close_fault kind depth) (limit_fault limits kind n depth) inner).1

depth_bound : (kind : Kind) (depth : ℕ) → depth_after kind depth ≤ depth + 1
unfolding depth_after
depth_bound kind depth = go (opens kind) (closes kind)
  where
    go : (o c : Bool) → cond o (depth + 1) (cond c (depth - 1) depth) ≤ depth + 1
    go true c = omega arith
    go false true = omega arith
    go false false = omega arith

-- ---- the invariant

-- the words from offset `at` on
abbrev pub left : List ℕ → ℕ → List Word
left text at = map (word_at text) (starts_at text at)

-- n words were passed, `depth` lists are open, and the next word starts at `start`
pub record Scanning (limits : Limits) (text table₀ values₀ table values : List ℕ) (n depth start : ℕ) : Type 0 where
  pub front : Front text start
  pub ahead : drop n (words_of text) ≡ left text start
  pub same : found_from limits (length text) (left text start) n depth ≡ found_from limits (length text) (words_of text) 0 0
  pub table_is : table ≡ over (rows row (map unlinked (take n (words_of text)))) table₀
  pub values_are : values ≡ over (word_values (take n (words_of text))) values₀
  pub counted : length (take n (words_of text)) ≡ n
  pub few : n ≤ limits.words
  pub shallow : depth ≤ n
  pub table_long : length table ≡ length table₀
  pub values_long : length values ≡ length values₀

pub scan_begins : (limits : Limits) (text table values : List ℕ) (start : ℕ) → start ≡ first_start text 0
    → Scanning limits text table values table values 0 0 start
unfolding rows word_values words_of word_starts
scan_begins limits text table values start e =
    let all : words_of text ≡ left text start = ap (map (word_at text)) (first_same text 0 start (omega arith) e) in
    record {
      front = first_front text 0 start (omega arith) e;
      ahead = all;
      same = rw all;
      table_is = refl;
      values_are = refl;
      counted = refl;
      few = omega arith;
      shallow = omega arith;
      table_long = refl;
      values_long = refl;
    }

passed_ending : (size n depth : ℕ) (r : Reading) → r ≡ found_at_end size n depth → passed r ≡ n
passed_ending size n depth r e = ap passed e ∙ go (eqb depth 0)
  where
    go : (t : Bool) → passed (cond t (Ok n) (refused Bracket size n)) ≡ n
    go true = refl
    go false = refl

module _ {limits : Limits} {text table₀ values₀ table values : List ℕ} {n depth start : ℕ}
    (scanning : Scanning limits text table₀ values₀ table values n depth start) where
  -- what a reading that passed n words leaves
  scanned : (r : Reading) → passed r ≡ n → r ≡ found_from limits (length text) (words_of text) 0 0 → Scanned limits text table₀ values₀ r table values
  unfolding words_read
  scanned r p found = record {
    found = found;
    table_is = rw p scanning.table_is;
    values_are = rw p scanning.values_are;
    few = rw p scanning.few;
    counted = rw p scanning.counted;
  }

  pub scan_ends : (r : Reading) → length text ≤ start → r ≡ found_at_end (length text) n depth → Scanned limits text table₀ values₀ r table values
  unfolding found_from starts_from
  scan_ends r h e =
      let none : found_from limits (length text) (left text start) n depth ≡ found_at_end (length text) n depth = rw (drop_of_length-le text h) in
      scanned r (passed_ending (length text) n depth r e) (e ∙ sym none ∙ scanning.same)

  module _ (h : start < length text) (end : ℕ) (ee : end ≡ word_end text start) (kind : Kind) (ek : kind ≡ kind_of (take (end - start) (drop start text))) where
    abbrev word : Word
    word = record { kind = kind; start = start; end = end }

    first : left text start ≡ word ∷ left text end
    unfolding word_at bytes_at
    first = rw (word_first text start end ee h scanning.front, ← ee, ← ek)

    cut : found_from limits (length text) (words_of text) 0 0 ≡
        found_there (fault_at limits kind n depth) start n (found_from limits (length text) (left text end) (n + 1) (depth_after kind depth))
    unfolding found_from
    cut = sym scanning.same ∙ rw first

    pub scan_stops : {fault : Fault} → Some fault ≡ fault_at limits kind n depth → Scanned limits text table₀ values₀ (refused fault start n) table values
    scan_stops {fault} bad = scanned (refused fault start n) refl (sym (cut ∙ rw (← bad)))

    module _ (well : None ≡ fault_at limits kind n depth) (rows_fit : 5 * limits.words ≤ length table₀) (values_fit : limits.words ≤ length values₀) where
      inside : n < limits.words
      inside = has_room limits kind n depth (sym well)

      here : drop n (words_of text) ≡ word ∷ left text end
      here = scanning.ahead ∙ first

      one_more : take (n + 1) (words_of text) ≡ take n (words_of text) ++ (word ∷ [])
      one_more = take_more (words_of text) n word (left text end) here

      -- room for the word, in a text that is not too long
      pub word_fits : length text < 2 ^ 32 → Room table values n start end
      word_fits short = record {
        row_fits = omega (arith, inside, scanning.table_long);
        value_fits = omega (arith, inside, scanning.values_long);
        start_fits = omega arith;
        end_fits = omega (arith, end_within text start end ee h);
      }

      module _ (after valuesAfter : List ℕ) (written : Written table values n word after valuesAfter) where
        table_goes : after ≡ over (rows row (map unlinked (take (n + 1) (words_of text)))) table₀
        unfolding rows
        table_goes =
            let passed_rows = map unlinked (take n (words_of text)) in
            let long : length (rows row passed_rows) ≡ 5 * n =
            length_rows row 5 wide passed_rows ∙ rw (length-map (take n (words_of text)) unlinked, scanning.counted) in
            let more : map unlinked (take (n + 1) (words_of text)) ≡ passed_rows ++ (unlinked word ∷ []) =
            ap (map unlinked) one_more ∙ map-append unlinked (take n (words_of text)) (word ∷ []) in
            let fits : length (rows row passed_rows) + 5 ≤ length table₀ = omega (arith, inside) in
            written.table_is
            ∙ rw (scanning.table_is, ← long, more, rows_append row 5 wide passed_rows (unlinked word ∷ []))
            (over_more (rows row passed_rows) (row (unlinked word)) table₀ fits)

        values_go : valuesAfter ≡ over (word_values (take (n + 1) (words_of text))) values₀
        unfolding word_values
        values_go =
            let worth : Word → ℕ = λ w. value_of w.kind in
            let passed-values = map worth (take n (words_of text)) in
            let long : length passed-values ≡ n = length-map (take n (words_of text)) worth ∙ scanning.counted in
            let more : map worth (take (n + 1) (words_of text)) ≡ passed-values ++ (worth word ∷ []) =
            ap (map worth) one_more ∙ map-append worth (take n (words_of text)) (word ∷ []) in
            let fits : length passed-values + 1 ≤ length values₀ = omega (arith, inside) in
            let stored : valuesAfter ≡ sets (over passed-values values₀) (length passed-values) (worth word ∷ []) =
            written.values_are ∙ rw (← scanning.values_are, long) in
            stored ∙ rw more (over_more passed-values (worth word ∷ []) values₀ fits)

        pub scan_goes : (depth' : ℕ) → depth' ≡ depth_after kind depth → (start' : ℕ) → start' ≡ first_start text end
            → Scanning limits text table₀ values₀ after valuesAfter (n + 1) depth' start'
        scan_goes depth' ed start' es =
            let reach = end_within text start end ee h in
            let on : left text end ≡ left text start' = ap (map (word_at text)) (first_same text end start' reach es) in
            record {
              front = first_front text end start' reach es;
              ahead = drop_more (words_of text) n word (left text end) here ∙ on;
              same = rw (← on, ed) (sym (cut ∙ rw (← well)));
              table_is = table_goes;
              values_are = values_go;
              counted = length-take-le (n + 1) (words_of text) (omega (arith, within (words_of text) n word (left text end) here));
              few = omega (arith, inside);
              shallow = omega (arith, depth_bound kind depth, scanning.shallow);
              table_long = ap length written.table_is ∙ length-sets table (5 * n) (row (unlinked word)) ∙ scanning.table_long;
              values_long = ap length written.values_are ∙ length-set values n (value_of kind) ∙ scanning.values_long;
            }
