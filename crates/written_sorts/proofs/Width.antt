-- A sort, by the codes and values of its words.
use Prim.Native.Nat.{ℕ, ◌+◌, ◌<◌}
use native.Mathlib.Omega.{arith}
use mathlib.Core.Path.{◌≡◌, refl, sym, ap, ap₂, ◌∙◌}
use mathlib.Core.Bool.{Bool, true, false, cond, ◌&&◌, not}
use mathlib.Core.List.{List}
use lib.Dec.{eqb, leb, ltb}
use borrow.Author.Tests.{eqb-true}
use Rattle.forest.specs.Forest.{count, none, tree}
use Rattle.forest.proofs.Bools.{and_left, and_right, apart}
use Rattle.forest.specs.Lists.{same_bytes}
use Rattle.operators.specs.Sorts.{max_width}
use Rattle.lexemes.specs.Reserved.{is_word}
use Rattle.words.specs.Trees.{Lexeme, keyword, list, literal, numeral, symbol, word_of}
use Rattle.lexemes.specs.Lists.{Items, after, all_numerals, indexed, is, is_list, is_numeral, item, numeral_of}
use Rattle.lexemes.specs.code.Table.{code_at, open_code, value_at}
use Rattle.lexemes.specs.code.Standing.{ListAt, value_of}
use Rattle.lexemes.proofs.ByCode.{code_for, list_code, symbol-code, word_code}
use Rattle.lexemes.proofs.Listed.{at_item, from_item, is-list, list_from, no_list}
use Rattle.lexemes.specs.code.Codes.{bool_code, first_code}
use Rattle.shapes.specs.Shapes.{sort_shape}
use Rattle.written_sorts.specs.code.Places.{SortAt}
use Rattle.written_sorts.specs.Written.{sort_of, sort_place}
use Rattle.written_sorts.specs.declared.Fault.TheVariants.{TooWide, Unknown, Empty}
use Rattle.written_sorts.proofs.Walked.{Come, come_behind, come_first, item_come, named_word, placed, word_is}

-- What is known of a numeral.
record NumeralWord (l : Lexeme) : Type 0 where
  no_list : is_list l ≡ false
  value : value_of l ≡ numeral_of l

numeral_word : (l : Lexeme) → is_numeral l ≡ true → NumeralWord l
numeral_word (numeral at v) e = record { no_list = refl; value = refl }
numeral_word (list at close) e = apart e
numeral_word (symbol at name) e = apart e
numeral_word (keyword at name) e = apart e
numeral_word (literal at width v written) e = apart e

-- Where the width of `(_ BitVec n)` stands, and what it is.
pub record WidthIn (lexemes : List ℕ) (at : ℕ) (ops : Items) : Type 0 where
  pub value : value_at lexemes (at + 3) ≡ numeral_of (item 2 ops)
  pub place : word_of (item 2 ops) ≡ at + 3

-- a list of which one item is left behind the second
three : (F : Items) → count (after 2 F) ≡ 1 → 2 < count F
unfolding after count
three none e = absurd (omega arith)
three (tree l ops none) e = absurd (omega arith)
three (tree l ops (tree m more rest)) e = omega arith

-- the first of them is a numeral if all are
numerals_first : (F : Items) → 2 < count F → all_numerals (after 2 F) ≡ true → is_numeral (item 2 F) ≡ true
unfolding all_numerals
numerals_first F h e = and_left (is_numeral (item 2 F)) (all_numerals (after 3 F)) (sym (ap all_numerals (from_item 2 F h)) ∙ e)

width_in : {lexemes : List ℕ} {at : ℕ} (x : ListAt lexemes at) → indexed "BitVec" 1 x.operands ≡ true → WidthIn lexemes at x.operands
unfolding same_bytes
width_in {lexemes} {at} x e =
    let F = x.operands in
    let words = is "_" (item 0 F) && is "BitVec" (item 1 F) in
    let rest = after 2 F in
    let head = and_left (words && eqb (count rest) 1) (all_numerals rest) e in
    let long = three F (eqb-true (count rest) 1 (and_right words (eqb (count rest) 1) head)) in
    let named = and_left words (eqb (count rest) 1) head in
    let first = named_word (is_word "_") refl (item 0 F) (and_left (is "_" (item 0 F)) (is "BitVec" (item 1 F)) named) in
    let second = named_word (is_word "BitVec") refl (item 1 F) (and_right (is "_" (item 0 F)) (is "BitVec" (item 1 F)) named) in
    let third = numeral_word (item 2 F) (numerals_first F long (and_right (words && eqb (count rest) 1) (all_numerals rest) e)) in
    let to-second : Come x 1 (at + 2) = come_behind x (come_first x) (omega arith) first (omega arith) in
    let to-third : Come x 2 (at + 3) = come_behind x to-second (omega arith) second (omega arith) in
    let w = word_is (item_come x to-third long).stands third.no_list in
    record { value = ap (λ (t : List ℕ). value_at t (at + 3)) (sym x.same) ∙ w.valued ∙ third.value; place = w.placed }

-- a sort that is a list
bit_vec : (l : Lexeme) (ops : Items) → sort_shape l ops ≡ true → is_list l ≡ true → indexed "BitVec" 1 ops ≡ true
bit_vec (list at close) ops e h = e
bit_vec (symbol at name) ops e h = apart h
bit_vec (numeral at v) ops e h = apart h
bit_vec (keyword at name) ops e h = apart h
bit_vec (literal at width v written) ops e h = apart h

module _ {lexemes : List ℕ} {at : ℕ} where
  -- the width of a sort that is a list
  pub width_of : (p : SortAt lexemes at) → is_list p.here.label ≡ true → WidthIn lexemes at p.here.operands
  width_of p l = width_in (list_from p.here l) (bit_vec p.here.label p.here.operands p.shaped l)

  module _ {code : ℕ} (ec : code ≡ code_at lexemes at) where
    pub sort_listed : code ≡ open_code → {width : ℕ} → width ≡ value_at lexemes (at + 3) → (p : SortAt lexemes at)
        → width ≡ sort_of p.here.label p.here.operands
    sort_listed o ew p = let l = is-list ec o p.here in rw l (ew ∙ (width_of p l).value)

    pub sort_word : (code ≡ open_code → ⊥) → (p : SortAt lexemes at) → 0 ≡ sort_of p.here.label p.here.operands
    sort_word other p = rw (no_list ec other p.here)

    pub unknown : (nowhere : ℕ) (p : SortAt lexemes at)
        → cond (leb first_code code && not (eqb code bool_code)) at nowhere ≡ sort_place Unknown nowhere p.here.label p.here.operands
    unfolding code_for
    unknown nowhere p =
        let l = p.here.label in
        rw (symbol-code l, word_code "Bool" refl l, placed p.here.stands, ec, (at_item p.here).code)

    module _ {width : ℕ} (ew : width ≡ value_at lexemes (at + 3)) (nowhere : ℕ) where
      -- a test of the width of a sort that is a list
      width_test : (test : ℕ → Bool) (p : SortAt lexemes at) (found word : ℕ) → (is_list p.here.label ≡ true → found ≡ word)
          → cond (eqb code open_code && test width) found nowhere ≡ cond (is_list p.here.label && test (numeral_of (item 2 p.here.operands))) word nowhere
      width_test test p found word same = rw (ec, (at_item p.here).code, ← list_code p.here.label) (go (is_list p.here.label) refl)
        where
          go : (b : Bool) → is_list p.here.label ≡ b
              → cond (b && test width) found nowhere ≡ cond (b && test (numeral_of (item 2 p.here.operands))) word nowhere
          go true l = ap₂ (λ (n w : ℕ). cond (test n) w nowhere) (ew ∙ (width_of p l).value) (same l)
          go false l = refl

      pub too_wide : (p : SortAt lexemes at)
          → cond (eqb code open_code && ltb max_width width) (at + 3) nowhere ≡ sort_place TooWide nowhere p.here.label p.here.operands
      too_wide p = width_test (ltb max_width) p (at + 3) _ (λ l. sym (width_of p l).place)

      pub empty : (p : SortAt lexemes at)
          → cond (eqb code open_code && eqb width 0) at nowhere ≡ sort_place Empty nowhere p.here.label p.here.operands
      empty p = width_test (λ (n : ℕ). eqb n 0) p at _ (λ l. sym (placed p.here.stands))
