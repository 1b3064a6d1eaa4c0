-- A text that was read whole: its items stand in its tables.
use Prim.Native.Nat.{ℕ, suc, ◌+◌, ◌-◌, ◌≤◌}
use native.Mathlib.Numerals.{add-one}
use native.Mathlib.Omega.{arith}
use mathlib.Core.Path.{◌≡◌, refl, sym, ap, ◌∙◌}
use mathlib.Core.Bool.{Bool, true, false, cond}
use mathlib.Core.List.{List, [], ◌∷◌}
use borrow.Author.Tests.{eqb-true}
use lib.Dec.{eqb, leb}
use lib.ListN.{drop, length}
use lib.Seq.{take_all}
use Rattle.forest.specs.Forest.{none, tree}
use Rattle.forest.proofs.Bools.{apart}
use Rattle.forest.proofs.Lists.{drop_more}
use Rattle.words.specs.Table.{closes, opens, past_close, next_of, value_of, width_of}
use Rattle.word_kinds.specs.declared.Fault.{Fault}
use Rattle.word_kinds.specs.declared.Fault.TheVariants.{Bracket, TooLong}
use Rattle.word_kinds.specs.declared.Kind.{Kind}
use Rattle.word_kinds.specs.declared.Kind.TheVariants.{Open, Close, Numeral, Literal, Symbol, Keyword, Faulty}
use Rattle.words.specs.Answers.{Reading}
use Rattle.words.specs.Reading.{depth_after, found_at_end, fault_at, found_from, found_there, reading_of, refused, words_read}
use Rattle.words.specs.Trees.{Level, Lexeme, bytes_of, inner, keyword, levels_at, levels_before, list, literal, numeral, outer, symbol, trees_from, with_item}
use Rattle.words.specs.Trees.{word_of}
use Rattle.words.specs.Words.{Word, words_of}
use Rattle.words.specs.declared.Limits.{Limits}
use Rattle.std.specs.Prelude.{Option, None, Some, Ok}
use Rattle.words.proofs.Chains.{close_on}
use Rattle.words.proofs.ScanTurns.{has_room}
use Rattle.lexemes.specs.Lists.{Items, is_list, is_numeral, items_of}
use Rattle.lexemes.specs.code.Standing.{ListIs, Source, Stands, WordIs, all_of, bracketed, bytes_kept, ends, value_of as valueKept, width_of as widthKept, word}
use Rattle.lexemes.specs.code.Table.{close_code, code_at, code_of, kind_code}
use Rattle.lexemes.proofs.Said.{Saying, say}
use Rattle.lexemes.proofs.Sound.{not_faulty, some_open}

-- ---- the lists that are open before a word

-- the innermost open list stands from word i on to its bracket
record Inside (source : Source) (ws : List Word) (i : ℕ) (level : Level) : Type 0 where
  stands : Stands source i level.items level.close
  closed : code_at source.lexemes level.close ≡ close_code
  ends_at : past_close (drop i ws) 0 i ≡ level.close + 1

-- the open lists stand one behind the other from word i on, each to its bracket, and what is behind them to the end of the text
data Standing (source : Source) (ws : List Word) : (i depth : ℕ) → List Level → Type 0 where
  outermost : {i : ℕ} {levels : List Level} → Stands source i (inner (length ws) levels).items (length ws) → Standing source ws i 0 levels
  within : {i depth : ℕ} {levels : List Level} → Inside source ws i (inner (length ws) levels)
      → Standing source ws ((inner (length ws) levels).close + 1) depth (outer levels) → Standing source ws i (suc depth) levels

-- one item more at the front of the innermost list
with_item_lem : {source : Source} {ws : List Word} {i next depth : ℕ} {levels : List Level} (l : Lexeme) (operands : Items)
    → ((e : ℕ) (more : Items) → Stands source next more e → Stands source i (tree l operands more) e)
    → past_close (drop i ws) 0 i ≡ past_close (drop next ws) 0 next
    → Standing source ws next depth levels → Standing source ws i depth (with_item (length ws) l operands levels)
with_item_lem l operands front same (outermost st) = outermost (front _ _ st)
with_item_lem l operands front same (within inside rest) =
    within (record { stands = front _ _ inside.stands; closed = inside.closed; ends_at = same ∙ inside.ends_at }) rest

-- ---- one word

module _ (text : List ℕ) (i : ℕ) (w : Word) (later : List Word) (here : drop i (words_of text) ≡ w ∷ later) where
  -- what is read of the text, and its words
  abbrev source : Source
  source = all_of text

  abbrev ws : List Word
  ws = words_of text

  -- what the table says of the word
  said : Saying source i w later
  said = say text i w later here

  -- a word that is no bracket stands in the table
  word_is : (l : Lexeme) → is_list l ≡ false → word_of l ≡ i → kind_code w.kind (bytes_of text w) ≡ code_of l → value_of w.kind ≡ valueKept l
      → opens w.kind ≡ false → width_of w.kind ≡ widthKept l → (is_numeral l ≡ false → bytes_of text w ≡ bytes_kept l) → WordIs source i l
  unfolding next_of
  word_is l no_list placed code value apart width bytes =
      record {
        no_list = no_list;
        placed = placed;
        coded = said.code ∙ code;
        valued = said.value ∙ value;
        followed = said.next ∙ rw apart;
        wide = said.width ∙ width;
        written = λ e. said.bytes ∙ bytes e;
      }

  -- one word more at the front of the innermost list
  word_stands : {depth : ℕ} {levels : List Level} {l : Lexeme} → WordIs source i l → closes w.kind ≡ false → opens w.kind ≡ false
      → Standing source ws (i + 1) depth levels → Standing source ws i depth (with_item (length ws) l none levels)
  unfolding next_of
  word_stands {l = l} is no-close no-open st = with_item_lem l none (λ e more. word is) (close_on ws i w later here no-close (i + 1) (rw no-open)) st

  -- a bracket that closes a list
  close_stands : {depth : ℕ} {levels : List Level} → w.kind ≡ Close
      → Standing source ws (i + 1) depth levels → Standing source ws i (suc depth) (record { close = i; items = none } ∷ levels)
  unfolding past_close
  close_stands e st =
      let inside : Inside source ws i (record { close = i; items = none }) = record { stands = ends; closed = said.code ∙ rw e; ends_at = rw (here, e) } in
      within inside st

  -- a bracket that opens a list
  open_stands : {depth : ℕ} {levels : List Level} → w.kind ≡ Open → Standing source ws (i + 1) (suc depth) levels
      → Standing source ws i depth (with_item (length ws) (list i (inner (length ws) levels).close) (inner (length ws) levels).items (outer levels))
  unfolding next_of
  open_stands {levels = levels} e (within inside rest) =
      let next : next_of w later i ≡ (inner (length ws) levels).close + 1 = rw (e, ← drop_more ws i w later here) inside.ends_at in
      let is : ListIs source i (inner (length ws) levels).close =
      record { opened = said.code ∙ rw e; closed = inside.closed; followed = said.next ∙ next } in
      with_item_lem _ _ (λ e more. bracketed is inside.stands) (close_on ws i w later here (ap closes e) _ next) rest

  -- a word of any kind
  step : (limits : Limits) (depth : ℕ) (levels : List Level) (kind : Kind) → w.kind ≡ kind → fault_at limits kind i depth ≡ None
      → Standing source ws (i + 1) (depth_after kind depth) levels → Standing source ws i depth (levels_before text (length ws) i w kind levels)
  unfolding levels_before depth_after
  step limits depth levels Open e well st = open_stands e (rw (add-one depth) at st)
  step limits depth levels Close e well st =
      let some = some_open limits i depth well in
      let back : suc (depth - 1) ≡ depth = omega arith in
      rw back at (close_stands e st)
  step limits depth levels (Numeral v) e well st =
      word_stands (word_is (numeral i v) refl refl (rw e) (rw e) (rw e) (rw e) (λ z. apart (sym z))) (ap closes e) (ap opens e) st
  step limits depth levels (Literal width v) e well st =
      word_stands (word_is (literal i width v _) refl refl (rw e) (rw e) (rw e) (rw e) (λ z. refl)) (ap closes e) (ap opens e) st
  step limits depth levels Symbol e well st =
      word_stands (word_is (symbol i _) refl refl (rw e) (rw e) (rw e) (rw e) (λ z. refl)) (ap closes e) (ap opens e) st
  step limits depth levels Keyword e well st =
      word_stands (word_is (keyword i _) refl refl (rw e) (rw e) (rw e) (rw e) (λ z. refl)) (ap closes e) (ap opens e) st
  step limits depth levels (Faulty fault) e well st = absurd (not_faulty limits i depth fault well)

-- ---- the whole text

module _ (limits : Limits) (size : ℕ) where
  -- what a reading that is whole says of its end
  whole_ends : (i depth n : ℕ) → found_at_end size i depth ≡ Ok n → (depth ≡ 0) × (i ≡ n)
  whole_ends i depth n e = go (eqb depth 0) refl e
    where
      go : (t : Bool) → eqb depth 0 ≡ t → cond t (Ok i) (refused Bracket size i) ≡ Ok n → (depth ≡ 0) × (i ≡ n)
      go true t e = (eqb-true depth 0 t, cc)
      go false t e = let z : ◌≡◌ {A = ℕ} 0 1 = cc in absurd (omega arith)

  -- and of a word
  whole_goes : (w : Word) (more : List Word) (i depth n : ℕ) → found_from limits size (w ∷ more) i depth ≡ Ok n
      → (fault_at limits w.kind i depth ≡ None) × (found_from limits size more (i + 1) (depth_after w.kind depth) ≡ Ok n)
  unfolding found_from
  whole_goes w more i depth n e = go (fault_at limits w.kind i depth) e
    where
      go : (f : Option Fault) → found_there f w.start i (found_from limits size more (i + 1) (depth_after w.kind depth)) ≡ Ok n
          → (f ≡ None) × (found_from limits size more (i + 1) (depth_after w.kind depth) ≡ Ok n)
      go None e = (refl, e)
      go (Some fault) e = let z : ◌≡◌ {A = ℕ} 0 1 = cc in absurd (omega arith)

  -- it passes every word
  counted : (ws : List Word) (i depth n : ℕ) → found_from limits size ws i depth ≡ Ok n → n ≡ i + length ws
  unfolding found_from
  counted [] i depth n e = let p = whole_ends i depth n e in omega arith
  counted (w ∷ ws) i depth n e = omega (arith, counted ws (i + 1) (depth_after w.kind depth) n (whole_goes w ws i depth n e).1)

  -- each of them is within the limit
  within_limit : (ws : List Word) (i depth n : ℕ) → found_from limits size ws i depth ≡ Ok n → i ≤ limits.words → n ≤ limits.words
  unfolding found_from
  within_limit [] i depth n e h = let p = whole_ends i depth n e in omega arith
  within_limit (w ∷ ws) i depth n e h =
      let p = whole_goes w ws i depth n e in
      within_limit ws (i + 1) (depth_after w.kind depth) n p.1 (omega (arith, has_room limits w.kind i depth p.0))

  module _ (text : List ℕ) where
    -- the words of the text
    abbrev all : List Word
    all = words_of text

    -- the open lists stand before each word
    stand_all : (ws : List Word) (i depth n : ℕ) → drop i all ≡ ws → i + length ws ≡ length all → found_from limits size ws i depth ≡ Ok n
        → Standing (all_of text) all i depth (levels_at text (length all) ws i)
    unfolding found_from levels_at
    stand_all [] i depth n here long e =
        let p = whole_ends i depth n e in
        let past : length all ≡ i = omega arith in
        let st : Stands (all_of text) i none (length all) = rw past ends in
        rw p.0 (outermost st)
    stand_all (w ∷ ws) i depth n here long e =
        let p = whole_goes w ws i depth n e in
        let later = stand_all ws (i + 1) (depth_after w.kind depth) n (drop_more all i w ws here) (omega arith) p.1 in
        step text i w ws here limits depth _ w.kind refl p.0 later

module _ (limits : Limits) (text : List ℕ) (n : ℕ) (whole : reading_of limits text ≡ Ok n) where
  -- the words of a text that is read whole have no fault
  judged_whole : found_from limits (length text) (words_of text) 0 0 ≡ Ok n
  unfolding reading_of
  judged_whole = go (leb (length text) limits.bytes) whole
    where
      go : (t : Bool) {found : Reading} → cond t found (refused TooLong (length text) 0) ≡ Ok n → found ≡ Ok n
      go true e = e
      go false e = let z : ◌≡◌ {A = ℕ} 0 1 = cc in absurd (omega arith)

  -- their number is known
  pub whole_count : n ≡ length (words_of text)
  whole_count = omega (arith, counted limits (length text) (words_of text) 0 0 n judged_whole)

  -- and within the limit
  pub whole_few : n ≤ limits.words
  whole_few = within_limit limits (length text) (words_of text) 0 0 n judged_whole (omega arith)

  -- they are the words that were read
  pub whole_words : words_read text (Ok n) ≡ words_of text
  unfolding words_read
  whole_words = take_all n (words_of text) (omega (arith, whole_count))

  -- the items of the text stand in its tables from the first word to the last
  pub text_stands : Stands (all_of text) 0 (items_of text) n
  unfolding items_of trees_from
  text_stands =
      rw whole_count (whole_text (stand_all limits (length text) text (words_of text) 0 0 n refl (omega arith) judged_whole))
    where
      whole_text : {source : Source} {ws : List Word} {levels : List Level} → Standing source ws 0 0 levels
          → Stands source 0 (inner (length ws) levels).items (length ws)
      whole_text (outermost st) = st
