-- A text's words and lexemes, as the calls leave them.
use Prim.Native.Nat.{ℕ, ◌*◌, ◌≤◌}
use native.Mathlib.Omega.{arith}
use mathlib.Core.Path.{◌≡◌, refl, sym, ap, ◌∙◌}
use mathlib.Core.List.{List, [], append-nil}
use lib.ListN.{length, take}
use lib.Seq.{take_at}
use Rattle.forest.specs.Tables.{over}
use Rattle.forest.proofs.Rows.{length_rows}
use Rattle.words.specs.Reading.{ReadWords, reading_of, words_read}
use Rattle.words.specs.Table.{entries, word_table, word_values}
use Rattle.words.specs.Words.{Word, words_of}
use Rattle.words.proofs.Chains.{entries_long}
use Rattle.words.specs.Answers.{Reading, number_of, passed}
use Rattle.words.specs.declared.Limits.{Limits}
use Rattle.std.specs.Prelude.{Ok}
use Rattle.lexemes.specs.code.Table.{lexeme_row, lexeme_table, row_width as lexemeWidth}
use Rattle.lexemes.specs.code.Numbering.{Numbering}
use Rattle.lexemes.proofs.WholeText.{whole_count, whole_few, whole_words}
use Rattle.texts.specs.code.Texts.{Placed, RowEach}
use Rattle.texts.specs.code.Lexed.{Lexed, Room, Rooms, Worded}
use Rattle.texts.proofs.Rooms.{found_roomy, words_few}
use Rattle.script.proofs.Numbers.{read_whole}

-- a table with room within the limits that are asked for
pub room_of : {most : ℕ} {limits asked : Limits} {text lexemes : List ℕ} → limits ≡ asked → asked.words ≤ most → RowEach asked text lexemeWidth lexemes
    → Room most limits text lexemes
room_of e few room = rw e (record { few_words = few; lexemes_room = room })

-- the length of a table of lexemes
lexemes_long : (text : List ℕ) (ws : List Word) → length (lexeme_table text ws) ≡ lexemeWidth * length ws
unfolding lexeme_table
lexemes_long text ws = rw (length_rows (lexeme_row text) lexemeWidth (λ e. refl) (entries ws 0), entries_long ws 0)

module _ {limits : Limits} {text words values lexemes wordsAfter valuesAfter : List ℕ} {r : Reading} (room : Rooms limits text words values lexemes)
    (read : ReadWords limits text words values r wordsAfter valuesAfter) where
  -- what was found is what is found within the limits
  pub found_same : r ≡ reading_of limits text
  found_same = read.found ∙ found_roomy room.words_room room.values_room

  module _ (none : number_of r ≡ 0) where
    -- the text is read whole
    pub whole : reading_of limits text ≡ Ok (passed r)
    whole = sym found_same ∙ read_whole limits text r found_same none

    -- it has no more words than bytes
    pub few_bytes : passed r ≤ length text
    few_bytes = omega (arith, whole_count limits text (passed r) whole, words_few text)

    -- all of its words were read
    pub all_words : words_read text r ≡ words_of text
    all_words = ap (words_read text) (read_whole limits text r found_same none) ∙ whole_words limits text (passed r) whole

    -- their rows stand in front
    pub rows_in_front : wordsAfter ≡ over (word_table (words_of text)) words
    rows_in_front = read.table_is ∙ rw all_words

    -- and their values
    pub values_in_front : valuesAfter ≡ over (word_values (words_of text)) values
    values_in_front = read.values_are ∙ rw all_words

    -- what the table of lexemes is filled from
    abbrev pub to_number : {count : ℕ} → count ≡ passed r → Numbering text wordsAfter valuesAfter lexemes count
    to_number e =
        record {
          rest = _;
          more = _;
          is_words = rows_in_front;
          is_values = values_in_front;
          counted = e ∙ whole_count limits text (passed r) whole;
          room = rw e (room.lexemes_room.room (passed r) (whole_few limits text (passed r) whole) few_bytes);
        }

    -- a text that is read whole
    abbrev pub lexed_whole : {lexemesAfter : List ℕ} → lexemesAfter ≡ over (lexeme_table text (words_of text)) lexemes
        → Lexed limits text lexemesAfter r
    lexed_whole e =
        record {
          found = found_same;
          worded = λ z. record { whole = whole; few = whole_few limits text (passed r) whole; short = few_bytes; rest = _; is_lexemes = e };
        }

  -- a text of which a word is refused
  abbrev pub lexed_refused : {lexemesAfter : List ℕ} → (number_of r ≡ 0 → ⊥) → Lexed limits text lexemesAfter r
  lexed_refused some = record { found = found_same; worded = λ z. absurd (some z) }

module _ {limits asked : Limits} {text lexemes : List ℕ} {r : Reading} (e : limits ≡ asked) (lexed : Lexed limits text lexemes r) where
  -- what is found within the limits that were asked for
  pub found_in : r ≡ reading_of asked text
  found_in = lexed.found ∙ ap (λ (l : Limits). reading_of l text) e

  -- and the tables, where no word is refused
  abbrev pub worded_in : {number n : ℕ} → number ≡ number_of r → number ≡ 0 → n ≡ passed r → Worded asked text lexemes n
  worded_in f z g = rw (g, ← e) (lexed.worded (sym f ∙ z))

module _ {limits : Limits} {text lexemes : List ℕ} {n : ℕ} (w : Worded limits text lexemes n) where
  -- its words are counted
  abbrev pub placed : Placed text lexemes n
  placed = record { rest = w.rest; is_lexemes = w.is_lexemes; counted = whole_count limits text n w.whole }

  -- the lexemes alone
  pub only_lexemes : take (lexemeWidth * n) lexemes ≡ lexeme_table text (words_of text)
  only_lexemes =
      let long : length (lexeme_table text (words_of text)) ≡ lexemeWidth * n = omega (arith, lexemes_long text (words_of text), whole_count limits text n w.whole) in
      rw w.is_lexemes (take_at (lexeme_table text (words_of text)) w.rest (lexemeWidth * n) long)

  -- they are as many as its words
  abbrev pub placed_alone : Placed text (take (lexemeWidth * n) lexemes) n
  placed_alone =
      record { rest = []; is_lexemes = only_lexemes ∙ sym (append-nil (lexeme_table text (words_of text))); counted = whole_count limits text n w.whole }
