-- The words of a sort, held to those of the declared sort.
use Prim.Native.Nat.{ℕ, ◌+◌}
use native.Mathlib.Omega.{arith}
use mathlib.Core.Path.{◌≡◌, refl, sym, ap, ◌∙◌, subst}
use mathlib.Core.Bool.{true, false, ◌&&◌}
use mathlib.Core.List.{List, [], ◌∷◌}
use lib.Dec.{eqb}
use borrow.Author.Tests.{eq-eqb, eqb-true, ne_eqb}
use Rattle.std.specs.Prelude.{Option, None, Some}
use Rattle.forest.specs.Forest.{count, none, tree}
use Rattle.forest.specs.Lists.{same_bytes, spelling}
use Rattle.forest.proofs.Bools.{and_left, and_right, apart}
use Rattle.words.specs.Trees.{Lexeme, keyword, list, literal, numeral, symbol, word_of}
use Rattle.lexemes.specs.Lists.{Items, after, all_numerals, inside, is, is_list, is_numeral, item}
use Rattle.lexemes.specs.code.Table.{code_at, open_code, value_at}
use Rattle.lexemes.specs.code.Codes.{bool_code}
use Rattle.lexemes.proofs.ByCode.{code_for, word_code}
use Rattle.lexemes.proofs.Listed.{at_item, from_item, is-list, no_list}
use Rattle.shapes.specs.Shapes.{sort_shape}
use Rattle.written_sorts.specs.code.Places.{SortAt}
use Rattle.written_sorts.proofs.Walked.{placed}
use Rattle.written_sorts.proofs.Width.{width_of}
use Rattle.headers.specs.code.Compare.{Held, ended, other}
use Rattle.headers.specs.Tokens.{Placed, Token, closing, named, numbered, opening, sort_tokens, words_in}
use Rattle.headers.proofs.Held.{closed, same_turned}
use Rattle.headers.proofs.Worded.{list_held, number_other, number_same, one_by_one, spread, word_held}

-- a sort that is another than `Bool`
other_than_bool : (l : Lexeme) (ops : Items) → sort_shape l ops ≡ true → is "Bool" l ≡ false
    → Held (words_in (tree l ops none)) (named (spelling "Bool") ∷ []) (Some (word_of l))
unfolding words_in
other_than_bool (symbol at name) ops shape e = other (same_turned name (spelling "Bool") ∙ e)
other_than_bool (list at close) ops shape e = other refl
other_than_bool (numeral at v) ops shape e = apart shape
other_than_bool (keyword at name) ops shape e = apart shape
other_than_bool (literal at width v written) ops shape e = apart shape

-- a symbol where a list is declared
symbol_for_list : (l : Lexeme) (ops : Items) → sort_shape l ops ≡ true → is_list l ≡ false → (ts : List Token)
    → Held (words_in (tree l ops none)) (opening ∷ ts) (Some (word_of l))
unfolding words_in
symbol_for_list (symbol at name) ops shape e ts = other refl
symbol_for_list (list at close) ops shape e ts = apart (sym e)
symbol_for_list (numeral at v) ops shape e ts = apart shape
symbol_for_list (keyword at name) ops shape e ts = apart shape
symbol_for_list (literal at width v written) ops shape e ts = apart shape

-- What `(_ BitVec n)` holds.
record Width (F : Items) : Type 0 where
  blank : is "_" (item 0 F) ≡ true
  head : is "BitVec" (item 1 F) ≡ true
  three : count F ≡ 3
  number : is_numeral (item 2 F) ≡ true

-- a list of which one item is left behind the second
three_items : (F : Items) → count (after 2 F) ≡ 1 → count F ≡ 3
unfolding after count
three_items none e = absurd (omega arith)
three_items (tree l ops none) e = absurd (omega arith)
three_items (tree l ops (tree m more rest)) e = omega arith

-- its shape says so
width : (l : Lexeme) (F : Items) → is_list l ≡ true → sort_shape l F ≡ true → Width F
unfolding all_numerals
width (list at close) F e shape =
    let words = is "_" (item 0 F) && is "BitVec" (item 1 F) in
    let rest = after 2 F in
    let front = and_left (words && eqb (count rest) 1) (all_numerals rest) shape in
    let named = and_left words (eqb (count rest) 1) front in
    let three = three_items F (eqb-true (count rest) 1 (and_right words (eqb (count rest) 1) front)) in
    let numerals = sym (ap all_numerals (from_item 2 F (omega arith))) ∙ and_right (words && eqb (count rest) 1) (all_numerals rest) shape in
    record {
      blank = and_left (is "_" (item 0 F)) (is "BitVec" (item 1 F)) named;
      head = and_right (is "_" (item 0 F)) (is "BitVec" (item 1 F)) named;
      three = three;
      number = and_left (is_numeral (item 2 F)) (all_numerals (after 3 F)) numerals;
    }
width (symbol at name) F e shape = apart e
width (numeral at v) F e shape = apart e
width (keyword at name) F e shape = apart e
width (literal at w v written) F e shape = apart e

-- `(_ BitVec n)`, by its n
by_number : {i close : ℕ} {r : Option ℕ} {l : Lexeme} (F : Items) → l ≡ list i close → Width F → (sort : ℕ)
    → Held (words_in (tree (item 2 F) (inside 2 F) none)) (numbered sort ∷ []) r
    → Held (words_in (tree l F none)) (opening ∷ named (spelling "_") ∷ named (spelling "BitVec") ∷ numbered sort ∷ closing ∷ []) r
unfolding after same_bytes
by_number {close = close} {r = r} F e w sort h =
    let tokens = named (spelling "_") ∷ named (spelling "BitVec") ∷ numbered sort ∷ [] in
    let inner : Held (words_in (spread 3 0 F)) tokens r =
    word_held "_" refl (item 0 F) w.blank (inside 0 F) (spread 2 1 F) (word_held "BitVec" refl (item 1 F) w.head (inside 1 F) (spread 1 2 F) h) in
    list_held F tokens e (closed close (subst (λ (G : Items). Held (words_in G) tokens r) (sym (one_by_one 3 0 F w.three)) inner))

module _ {lexemes : List ℕ} {at : ℕ} where
  -- the words of the sort at a word
  abbrev sort_words : SortAt lexemes at → List Placed
  sort_words p = words_in (tree p.here.label p.here.operands none)

  module _ {code : ℕ} (ec : code ≡ code_at lexemes at) where
    -- it is `Bool` just when it has that word's code
    is_bool : (p : SortAt lexemes at) → is "Bool" p.here.label ≡ eqb code bool_code
    unfolding code_for
    is_bool p = word_code "Bool" refl p.here.label ∙ ap (λ (k : ℕ). eqb k bool_code) (sym (at_item p.here).code ∙ sym ec)

    -- `Bool` is declared and stands there
    pub bool_same : {sort : ℕ} → sort ≡ 0 → code ≡ bool_code → (p : SortAt lexemes at) → Held (sort_words p) (sort_tokens sort) None
    unfolding same_bytes words_in
    bool_same {sort} z e p = rw (eq-eqb sort 0 z) (word_held "Bool" refl p.here.label (is_bool p ∙ eq-eqb code bool_code e) p.here.operands none ended)

    -- `Bool` is declared, and another sort stands there
    pub bool_other : {sort : ℕ} → sort ≡ 0 → (code ≡ bool_code → ⊥) → (p : SortAt lexemes at) → Held (sort_words p) (sort_tokens sort) (Some at)
    bool_other {sort} z ne p =
        let here = placed p.here.stands in
        rw (eq-eqb sort 0 z, ← here)
        (other_than_bool p.here.label p.here.operands p.shaped (is_bool p ∙ ne_eqb code bool_code ne))

    -- a width is declared, and a symbol stands there
    pub width_missing : {sort : ℕ} → (sort ≡ 0 → ⊥) → (code ≡ open_code → ⊥) → (p : SortAt lexemes at) → Held (sort_words p) (sort_tokens sort) (Some at)
    width_missing {sort} nz ne p =
        let here = placed p.here.stands in
        rw (ne_eqb sort 0 nz, ← here)
        (symbol_for_list p.here.label p.here.operands p.shaped (no_list ec ne p.here) _)

    module _ {sort : ℕ} (nz : sort ≡ 0 → ⊥) (opens : code ≡ open_code) {found : ℕ} (ev : found ≡ value_at lexemes (at + 3)) where
      -- the declared width stands there
      pub width_same : found ≡ sort → (p : SortAt lexemes at) → Held (sort_words p) (sort_tokens sort) None
      width_same e p =
          let l = is-list ec opens p.here in
          let w = width p.here.label p.here.operands l p.shaped in
          rw (ne_eqb sort 0 nz)
          (by_number p.here.operands ((at_item p.here).a_list l).label w sort
          (number_same (item 2 p.here.operands) sort w.number (sym (width_of p l).value ∙ sym ev ∙ e) (inside 2 p.here.operands)))

      -- another width stands there
      pub width_other : (found ≡ sort → ⊥) → (p : SortAt lexemes at) → Held (sort_words p) (sort_tokens sort) (Some (at + 3))
      width_other ne p =
          let l = is-list ec opens p.here in
          let w = width p.here.label p.here.operands l p.shaped in
          let place = (width_of p l).place in
          rw (ne_eqb sort 0 nz, ← place)
          (by_number p.here.operands ((at_item p.here).a_list l).label w sort
          (number_other (item 2 p.here.operands) sort w.number (λ e. ne (ev ∙ (width_of p l).value ∙ e)) (inside 2 p.here.operands)))
