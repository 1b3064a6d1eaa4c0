-- Terms among the items that stand in the tables of a text: what their words are.
use Prim.Native.Nat.{ℕ, ◌+◌}
use native.Mathlib.Omega.{arith}
use mathlib.Core.Path.{◌≡◌, refl, sym, ap, ◌∙◌}
use mathlib.Core.Bool.{Bool, true, false, cond, ◌&&◌, ◌||◌}
use mathlib.Core.List.{List}
use lib.Dec.{eqb, ltb}
use borrow.Author.Tests.{eqb-true, le-ltb}
use Rattle.forest.specs.Forest.{count, none, tree}
use Rattle.forest.proofs.Bools.{and_left, and_right, apart}
use Rattle.words.specs.Trees.{Lexeme, keyword, list, literal, numeral, symbol, word_of}
use Rattle.forest.specs.Lists.{same_bytes}
use Rattle.lexemes.specs.Lists.{Items, after, all_numerals, indexed, inside, is, is_constant, is_constant_word, is_numeral, item, name_of, numeral_of}
use Rattle.lexemes.specs.code.Standing.{ListIs, Source, Stands, WordIs, bracketed, ends, spelt, word}
use Rattle.lexemes.specs.code.Codes.{extract_code, other_code}
use Rattle.lexemes.proofs.ByCode.{code_for, constant-code, word_code}
use Rattle.word_kinds.specs.Decimals.{is_decimal}
use Rattle.lexemes.specs.code.Table.{code_at, code_of, numeral_code, symbol_code, value_at}
use Rattle.shapes.specs.Shapes.{application_shape, head_shape, indexed_shape, term_shapes}

-- The items behind `_`, which stands at word i, are the word of a constant and a numeral.
pub record DecimalAt (s : Source) (i : ℕ) (F : Items) : Type 0 where
  pub is : is_constant_word (item 1 F) ≡ true
  pub placed : word_of (item 1 F) ≡ i + 1
  pub told : ltb other_code (code_at s.lexemes (i + 1)) ≡ true
  pub coded : code_at s.lexemes (i + 1) ≡ symbol_code (name_of (item 1 F))
  pub spelled : spelt s (i + 1) ≡ name_of (item 1 F)
  pub numeral : code_at s.lexemes (i + 2) ≡ numeral_code
  pub wide : value_at s.lexemes (i + 2) ≡ numeral_of (item 2 F)

-- The items behind `_`, which stands at word i, are `extract` and two numerals.
pub record CutAt (s : Source) (i : ℕ) (F : Items) : Type 0 where
  pub none : is_constant_word (item 1 F) ≡ false
  pub told : ltb other_code (code_at s.lexemes (i + 1)) ≡ false
  pub placed : word_of (item 2 F) ≡ i + 2
  pub coded : code_at s.lexemes (i + 2) ≡ numeral_code
  pub high : value_at s.lexemes (i + 2) ≡ numeral_of (item 2 F)
  pub low : value_at s.lexemes (i + 3) ≡ numeral_of (item 3 F)

-- What a list that is a term holds, where its items stand behind word `at`: what `(_ bvN n)` or `(_ extract i j)` holds; or a head, which is a symbol or
-- `(_ extract i j)`, and operands.
pub data ListTerm (s : Source) (at : ℕ) : Items → Type 0 where
  decimal_alone : {a : ℕ} {name : List ℕ} {more : Items} → is "_" (symbol a name) ≡ true → WordIs s (at + 1) (symbol a name)
      → DecimalAt s (at + 1) (tree (symbol a name) none more) → ListTerm s at (tree (symbol a name) none more)
  cut_alone : {a : ℕ} {name : List ℕ} {more : Items} → is "_" (symbol a name) ≡ true → WordIs s (at + 1) (symbol a name)
      → CutAt s (at + 1) (tree (symbol a name) none more) → ListTerm s at (tree (symbol a name) none more)
  by_symbol : {a : ℕ} {name : List ℕ} {more : Items} → is "_" (symbol a name) ≡ false → WordIs s (at + 1) (symbol a name)
      → ListTerm s at (tree (symbol a name) none more)
  by_cut : {c : ℕ} {held more : Items} → ListIs s (at + 1) c → CutAt s (at + 2) held → ListTerm s at (tree (list (at + 1) c) held more)

-- A numeral stands at word i.
pub record NumeralAt (s : Source) (i : ℕ) (l : Lexeme) : Type 0 where
  pub placed : word_of l ≡ i
  pub coded : code_at s.lexemes i ≡ numeral_code
  pub valued : value_at s.lexemes i ≡ numeral_of l

-- Two numerals stand at word i.
pub record TwoNumerals (s : Source) (i : ℕ) (F : Items) : Type 0 where
  pub first : NumeralAt s i (item 0 F)
  pub second : NumeralAt s (i + 1) (item 1 F)

-- What a list must be that is a term.
unfoldable pub list_shape : Items → Bool
list_shape ops = cond (is "_" (item 0 ops)) (indexed_shape ops) (application_shape ops && term_shapes true ops)

-- the code of `extract` is below those of constants' words
extract_low : (l : Lexeme) → is "extract" l ≡ true → ltb other_code (code_of l) ≡ false
unfolding code_for
extract_low l e =
    let code = eqb-true (code_of l) extract_code (sym (word_code "extract" refl l) ∙ e) in
    le-ltb other_code (code_of l) (omega arith)

chosen : (b x y : Bool) → b ≡ true → cond b x y ≡ true → x ≡ true
chosen true x y e h = h
chosen false x y e h = apart e

-- each of four tests passes
four : (a b c d : Bool) → a && b && c && d ≡ true → (a ≡ true) × (b ≡ true) × (c ≡ true) × (d ≡ true)
four a b c d e =
    let abc = and_left (a && b && c) d e in
    let ab = and_left (a && b) c abc in
    (and_left a b ab, and_right a b ab, and_right (a && b) c abc, and_right (a && b && c) d e)

module _ {s : Source} where
  -- an item stands at its first word
  pub first_of : {i e : ℕ} {l : Lexeme} {ops more : Items} → Stands s i (tree l ops more) e → word_of l ≡ i
  first_of (word w rest) = w.placed
  first_of (bracketed b inner rest) = refl

  numeral_at : {i : ℕ} {l : Lexeme} → WordIs s i l → is_numeral l ≡ true → NumeralAt s i l
  numeral_at {l = numeral at v} w e = record { placed = w.placed; coded = w.coded; valued = w.valued }
  numeral_at {l = symbol at name} w e = apart e
  numeral_at {l = list at close} w e = apart e
  numeral_at {l = keyword at name} w e = apart e
  numeral_at {l = literal at width v written} w e = apart e

  two_numerals : {i e : ℕ} {F : Items} → Stands s i F e → eqb (count F) 2 ≡ true → all_numerals F ≡ true → TwoNumerals s i F
  unfolding all_numerals count item
  two_numerals ends two all = apart two
  two_numerals (word w ends) two all = apart two
  two_numerals (word {l = l} w (word {l = m} {more = more} v rest)) two all =
      let later = and_right (is_numeral l) (is_numeral m && all_numerals more) all in
      record { first = numeral_at w (and_left (is_numeral l) _ all); second = numeral_at v (and_left (is_numeral m) _ later) }
  two_numerals (word {l = l} w (bracketed b inner rest)) two all = apart (and_right (is_numeral l) false all)
  two_numerals (bracketed b inner rest) two all = apart all

  one_numeral : {i e : ℕ} {F : Items} → Stands s i F e → eqb (count F) 1 ≡ true → all_numerals F ≡ true → NumeralAt s i (item 0 F)
  unfolding all_numerals count item
  one_numeral ends one all = apart one
  one_numeral (word {l = l} {more = more} w rest) one all = numeral_at w (and_left (is_numeral l) (all_numerals more) all)
  one_numeral (bracketed b inner rest) one all = apart all

  -- `(_ bvN n)`, by its items
  decimal_at : {i e : ℕ} {F : Items} → Stands s i F e → is_constant F ≡ true → DecimalAt s i F
  unfolding after count is_decimal item same_bytes
  decimal_at ends shape = apart shape
  decimal_at (word {l = l} w ends) shape = apart (four (is "_" l) false false (all_numerals none) shape).1
  decimal_at {i} (word {l = l} w (word {l = symbol a name} {more = more} v rest)) shape =
      let tests = four (is "_" l) (is_constant_word (symbol a name)) (eqb (count more) 1) (all_numerals more) shape in
      let numeral = one_numeral rest tests.2 tests.3 in
      let next : i + 1 + 1 ≡ i + 2 = omega arith in
      record {
        is = tests.1;
        placed = v.placed;
        told = ap (ltb other_code) v.coded ∙ sym (constant-code (symbol a name)) ∙ tests.1;
        coded = v.coded;
        spelled = v.written refl;
        numeral = rw next at numeral.coded;
        wide = rw next at numeral.valued;
      }
  decimal_at (word {l = l} w (word {l = numeral a v} {more = more} x rest)) shape =
      apart (four (is "_" l) false (eqb (count more) 1) (all_numerals more) shape).1
  decimal_at (word {l = l} w (word {l = keyword a name} {more = more} x rest)) shape =
      apart (four (is "_" l) false (eqb (count more) 1) (all_numerals more) shape).1
  decimal_at (word {l = l} w (word {l = literal a width v bytes} {more = more} x rest)) shape =
      apart (four (is "_" l) false (eqb (count more) 1) (all_numerals more) shape).1
  decimal_at (word {l = l} w (word {l = list a c} {more = more} x rest)) shape = apart (sym x.no_list)
  decimal_at (word {l = l} w (bracketed {more = more} b inner rest)) shape = apart (four (is "_" l) false (eqb (count more) 1) (all_numerals more) shape).1
  decimal_at (bracketed b inner rest) shape = apart shape

  -- `(_ extract i j)`, by its items
  cut_at : {i e : ℕ} {F : Items} → Stands s i F e → indexed "extract" 2 F ≡ true → CutAt s i F
  unfolding after count item same_bytes
  cut_at ends shape = apart shape
  cut_at (word {l = l} w ends) shape = apart (four (is "_" l) false false (all_numerals none) shape).1
  cut_at {i} (word {l = l} w (word {l = m} {more = more} v rest)) shape =
      let tests = four (is "_" l) (is "extract" m) (eqb (count more) 2) (all_numerals more) shape in
      let numerals = two_numerals rest tests.2 tests.3 in
      let at_first : i + 1 + 1 ≡ i + 2 = omega arith in
      let at_second : i + 1 + 1 + 1 ≡ i + 3 = omega arith in
      let low : ltb other_code (code_of m) ≡ false = extract_low m tests.1 in
      record {
        none = constant-code m ∙ low;
        told = ap (ltb other_code) v.coded ∙ low;
        placed = numerals.first.placed ∙ at_first;
        coded = rw at_first at numerals.first.coded;
        high = rw at_first at numerals.first.valued;
        low = rw at_second at numerals.second.valued;
      }
  cut_at (word {l = l} w (bracketed {more = more} b inner rest)) shape = apart (four (is "_" l) false (eqb (count more) 2) (all_numerals more) shape).1
  cut_at (bracketed b inner rest) shape = apart shape

  pub list-term : (at : ℕ) {c : ℕ} {ops : Items} → Stands s (at + 1) ops c → list_shape ops ≡ true → ListTerm s at ops
  unfolding item inside list_shape same_bytes
  list-term at ends shape = apart shape
  list-term at (word {l = symbol a name} {more = more} w rest) shape = go (is "_" (symbol a name)) refl
    where
      go : (b : Bool) → is "_" (symbol a name) ≡ b → ListTerm s at (tree (symbol a name) none more)
      go true e = either (indexed "extract" 2 (tree (symbol a name) none more)) refl (chosen (is "_" (symbol a name)) _ _ e shape)
        where
          either : (b : Bool) → indexed "extract" 2 (tree (symbol a name) none more) ≡ b → b || is_constant (tree (symbol a name) none more) ≡ true
              → ListTerm s at (tree (symbol a name) none more)
          either true x shaped = cut_alone e w (cut_at (word w rest) x)
          either false x shaped = decimal_alone e w (decimal_at (word w rest) shaped)
      go false e = by_symbol e w
  list-term at (word {l = numeral a v} w rest) shape = apart shape
  list-term at (word {l = keyword a name} w rest) shape = apart shape
  list-term at (word {l = literal a width v written} w rest) shape = apart shape
  list-term at (word {l = list a c} w rest) shape = apart (sym w.no_list)
  list-term at (bracketed {c = c} {ops = held} b inner rest) shape =
      let next : at + 1 + 1 ≡ at + 2 = omega arith in
      let headed = and_left (head_shape (list (at + 1) c) held && _) _ shape in
      by_cut b (rw next at (cut_at inner (and_left (indexed "extract" 2 held) _ headed)))
