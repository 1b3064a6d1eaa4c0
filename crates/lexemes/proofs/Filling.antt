-- The table of lexemes, filled from the word table.
use Prim.Native.Nat.{ℕ, suc, ◌+◌, ◌-◌, ◌*◌, ◌≤◌, ◌<◌}
use native.Mathlib.Nat.{add-zero}
use native.Mathlib.Omega.{arith}
use mathlib.Core.Path.{◌≡◌, refl, sym, ap, ◌∙◌}
use mathlib.Core.Bool.{Bool, true, false}
use mathlib.Core.List.{List, [], ◌∷◌, ◌++◌}
use lib.ListN.{drop, get_or, length, set, take, length-append, length-map, get_or-append}
use lib.Seq.{get_or-drop, length-sets, length-take-le, take_all}
use borrow.Author.Tests.{eq-eqb, le-ltb, lt-ltb, ne_eqb}
use Rattle.forest.specs.Lists.{same_bytes, spelling}
use Rattle.forest.specs.code.Rows.{number_at}
use Rattle.forest.specs.Tables.{over, rows}
use Rattle.forest.proofs.Lists.{drop_map, stands, take_more}
use Rattle.forest.proofs.Rows.{length_rows, over_more, rows_append}
use Rattle.lexemes.specs.code.Reserved.{word_number}
use Rattle.word_kinds.specs.declared.Kind.{Kind}
use Rattle.word_kinds.specs.declared.Kind.TheVariants.{Open, Close, Numeral, Literal, Symbol, Keyword, Faulty}
use Rattle.words.specs.Table.{Entry, entries, kind_number, row, row_width as wordWidth, value_of, word_table, word_values}
use Rattle.words.specs.code.Table.{end_at, kind_at, next_at, start_at, width_at}
use Rattle.words.specs.Trees.{bytes_of}
use Rattle.words.specs.Words.{Word, words_of}
use Rattle.words.proofs.Chains.{entries_long}
use Rattle.lexemes.specs.code.Codes.{first_code, other_keyword_code, weight_code, weights_code}
use Rattle.lexemes.specs.code.Numbering.{Numbering, RowPut, RowRoom, code_by}
use Rattle.lexemes.specs.code.Table.{keyword_code, kind_code, lexeme_row, lexeme_table, row_width}
use Rattle.lexemes.proofs.Said.{entry_of, entry_here, part_fits, word_says}

-- ---- the code of a word

-- word i of a text is among those that its word table holds
pub record WordsOf (text words : List ℕ) (i : ℕ) : Type 0 where
  pub rest : List ℕ
  pub is_words : words ≡ word_table (words_of text) ++ rest
  pub word : Word
  pub later : List Word
  pub here : drop i (words_of text) ≡ word ∷ later

-- the code of a word by the number of its kind is that by its kind
code_by_lem : (kind : Kind) (bytes : List ℕ) → code_by (kind_number kind) bytes ≡ kind_code kind bytes
code_by_lem Open bytes = refl
code_by_lem Close bytes = refl
code_by_lem (Numeral v) bytes = refl
code_by_lem (Literal width v) bytes = refl
code_by_lem Symbol bytes = refl
code_by_lem Keyword bytes = refl
code_by_lem (Faulty fault) bytes = refl

-- a number below those of keywords is the code
pub code_low : (bytes : List ℕ) {kind : ℕ} → kind < weights_code → kind ≡ code_by kind bytes
code_low bytes {kind} h = rw (lt-ltb kind weights_code h)

-- the codes of a keyword and of a symbol are by their bytes
module _ (bytes : List ℕ) {kind : ℕ} (h : weights_code ≤ kind) where
  pub code_keyword : {code : ℕ} → kind ≡ kind_number Keyword → code ≡ keyword_code bytes → code ≡ code_by kind bytes
  code_keyword k e = rw (le-ltb kind weights_code h, eq-eqb kind (kind_number Keyword) k, e)

  pub code_symbol : {number : ℕ} → (kind ≡ kind_number Keyword → ⊥) → number ≡ word_number bytes → first_code + number ≡ code_by kind bytes
  code_symbol other e = rw (le-ltb kind weights_code h, ne_eqb kind (kind_number Keyword) other, e)

-- the code of a keyword, byte by byte
module _ (bytes : List ℕ) {feature : Bool} (ef : feature ≡ same_bytes (spelling ":weights") bytes) where
  pub code_feature : feature ≡ true → weights_code ≡ keyword_code bytes
  unfolding keyword_code
  code_feature t = rw (sym ef ∙ t)

  module _ (tf : feature ≡ false) {weight : Bool} (ew : weight ≡ same_bytes (spelling ":weight") bytes) where
    pub code_weight : weight ≡ true → weight_code ≡ keyword_code bytes
    unfolding keyword_code
    code_weight t = rw (sym ef ∙ tf, sym ew ∙ t)

    pub code_other : weight ≡ false → other_keyword_code ≡ keyword_code bytes
    unfolding keyword_code
    code_other t = rw (sym ef ∙ tf, sym ew ∙ t)

module _ {text words : List ℕ} {i : ℕ} (given : WordsOf text words i) where
  -- the word with the index past it
  abbrev entry : Entry
  entry = entry_of text i given.word given.later given.here

  -- number `column` of the word's row
  words_say : (column : ℕ) → column < wordWidth → number_at wordWidth words i column ≡ get_or (row entry) column 0
  words_say = word_says text i given.word given.later given.here given.rest given.is_words

  module _ {start end : ℕ} (es : start ≡ start_at words i) (ee : end ≡ end_at words i) where
    -- where the word stands in the text
    start_said : start ≡ given.word.start
    start_said = es ∙ words_say 1 (omega arith)

    end_said : end ≡ given.word.end
    end_said = ee ∙ words_say 2 (omega arith)

    -- which is a part of the text
    part_start : start ≤ end
    part_start = omega (arith, start_said, end_said, (part_fits text i given.word given.later given.here).0)

    part_end : end ≤ length text
    part_end = omega (arith, end_said, (part_fits text i given.word given.later given.here).1)

    -- the code of the word
    code_said : {kind code : ℕ} → kind ≡ kind_at words i → code ≡ code_by kind (take (end - start) (drop start text))
        → code ≡ kind_code given.word.kind (bytes_of text given.word)
    code_said ek ec = ec ∙ rw (ek ∙ words_say 0 (omega arith), start_said, end_said) (code_by_lem given.word.kind (bytes_of text given.word))

-- ---- one row after the other

-- the first rows are those of the first words
pub record Filling (text lexemes₀ : List ℕ) (count : ℕ) (lexemes : List ℕ) (word : ℕ) : Type 0 where
  pub reached : word ≤ count
  pub long : length lexemes ≡ length lexemes₀
  pub is : lexemes ≡ over (rows (lexeme_row text) (take word (entries (words_of text) 0))) lexemes₀

-- none is written at first
pub filling_begins : (text lexemes : List ℕ) (count : ℕ) → Filling text lexemes count lexemes 0
unfolding rows
filling_begins text lexemes count = record { reached = omega arith; long = refl; is = refl }

-- a row is put number by number
pub row_put : (words values lexemes : List ℕ) (word code : ℕ) {next start end width : ℕ} → next ≡ next_at words word → start ≡ start_at words word
    → end ≡ end_at words word → width ≡ width_at words word
    → RowPut words values word code lexemes
    (set (set (set (set (set (set lexemes (row_width * word) code) (row_width * word + 1) next) (row_width * word + 2) (get_or values word 0)) (row_width * word + 3) start)
    (row_width * word + 4)
    end)
    (row_width * word + 5)
    width)
row_put words values lexemes word code en es ee ew =
    let one : row_width * word + 1 ≡ suc (row_width * word) = omega arith in
    let two : row_width * word + 2 ≡ suc (suc (row_width * word)) = omega arith in
    let three : row_width * word + 3 ≡ suc (suc (suc (row_width * word))) = omega arith in
    let four : row_width * word + 4 ≡ suc (suc (suc (suc (row_width * word)))) = omega arith in
    let five : row_width * word + 5 ≡ suc (suc (suc (suc (suc (row_width * word))))) = omega arith in
    rw (one, two, three, four, five, en, es, ee, ew)

module _ {text words values lexemes₀ : List ℕ} {count : ℕ} (numbering : Numbering text words values lexemes₀ count) where
  module _ {word : ℕ} (h : word < count) where
    -- word `word` stands in the word table
    filling_asks : WordsOf text words word
    filling_asks =
        let st = stands (words_of text) word (omega (arith, numbering.counted)) in
        record { rest = numbering.rest; is_words = numbering.is_words; word = st.here; later = drop (word + 1) (words_of text); here = st.is }

    -- it is a part of the text
    pub word_start : {start end : ℕ} → start ≡ start_at words word → end ≡ end_at words word → start ≤ end
    word_start es ee = part_start filling_asks es ee

    pub word_end : {start end : ℕ} → start ≡ start_at words word → end ≡ end_at words word → end ≤ length text
    word_end es ee = part_end filling_asks es ee

    -- and stands in the list of values
    value_there : word < length values
    unfolding word_values
    value_there = rw (numbering.is_values, length-append, length-map) (omega (arith, numbering.counted))

    -- what its value is
    value_said : (given : WordsOf text words word) → get_or values word 0 ≡ value_of given.word.kind
    unfolding word_values
    value_said given =
        let inside : word < length (word_values (words_of text)) = rw length-map (omega (arith, numbering.counted)) in
        rw (numbering.is_values, get_or-append (word_values (words_of text)) numbering.more 0 word inside)
        (sym (rw add-zero at (get_or-drop word (word_values (words_of text)) 0 0)) ∙ rw (drop_map, given.here))

    module _ {lexemes : List ℕ} (filling : Filling text lexemes₀ count lexemes word) where
      -- the rows that are written
      front : List ℕ
      front = rows (lexeme_row text) (take word (entries (words_of text) 0))

      front_long : length front ≡ row_width * word
      unfolding front
      front_long =
          let few : word ≤ length (entries (words_of text) 0) = omega (arith, numbering.counted, entries_long (words_of text) 0) in
          rw (length_rows (lexeme_row text) row_width (λ e. refl) (take word (entries (words_of text) 0)), length-take-le word _ few)

      -- there is room for its row
      pub row_room : RowRoom values lexemes word
      row_room = record { valued = value_there; room = omega (arith, filling.long, numbering.room) }

      -- one row more
      pub filling_goes : {start end kind code : ℕ} {after : List ℕ} → start ≡ start_at words word → end ≡ end_at words word → kind ≡ kind_at words word
          → code ≡ code_by kind (take (end - start) (drop start text)) → RowPut words values word code lexemes after → Filling text lexemes₀ count after (word + 1)
      unfolding front rows
      filling_goes {code = code} es ee ek ec put =
          let given = filling_asks in
          let all = entries (words_of text) 0 in
          let said = words_say given in
          let numbers : List ℕ =
          code ∷ next_at words word ∷ get_or values word 0 ∷ start_at words word ∷ end_at words word ∷ width_at words word ∷ [] in
          let row : numbers ≡ lexeme_row text (entry given) =
          rw (code_said given es ee ek ec, said 4 (omega arith), value_said given, said 1 (omega arith), said 2 (omega arith), said 3 (omega arith)) in
          let room : length front + 6 ≤ length lexemes₀ = omega (arith, front_long, numbering.room) in
          let more : rows (lexeme_row text) (take (word + 1) all) ≡ front ++ lexeme_row text (entry given) =
          rw (
            take_more all word _ _ (entry_here text word given.word given.later given.here),
            rows_append (lexeme_row text) row_width (λ e. refl) (take word all) (entry given ∷ []),
          ) in
          record {
            reached = omega arith;
            long = ap length put ∙ length-sets lexemes (row_width * word) numbers ∙ filling.long;
            is = put ∙ rw (filling.is, ← front_long) (over_more front numbers lexemes₀ room ∙ rw (row, more));
          }

  -- all rows are written
  pub filling_ends : {lexemes : List ℕ} {word : ℕ} → Filling text lexemes₀ count lexemes word → count ≤ word
      → lexemes ≡ over (lexeme_table text (words_of text)) lexemes₀
  unfolding lexeme_table
  filling_ends {lexemes} {word} filling h =
      let many : length (entries (words_of text) 0) ≤ word = omega (arith, numbering.counted, entries_long (words_of text) 0) in
      filling.is ∙ rw (take_all word _ many)
