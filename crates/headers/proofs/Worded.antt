-- The words of items, held to those that were declared.
use Prim.Native.Nat.{ℕ, zero, suc, ◌+◌, ◌≤◌}
use Prim.Native.String.{String}
use native.Mathlib.Omega.{arith}
use mathlib.Core.Path.{◌≡◌, refl, sym, ap, ◌∙◌}
use mathlib.Core.Bool.{true, false}
use mathlib.Core.List.{List, [], ◌∷◌, ◌++◌, append_assoc}
use borrow.Author.Tests.{eq-eqb, ne_eqb}
use Rattle.std.specs.Prelude.{Option, None, Some, is_some}
use Rattle.forest.specs.Forest.{count, none, tree}
use Rattle.forest.specs.Lists.{same_bytes, spelling}
use Rattle.forest.proofs.Bools.{apart}
use Rattle.words.specs.Trees.{Lexeme, keyword, list, literal, numeral, symbol, word_of}
use Rattle.lexemes.specs.Reserved.{is_word}
use Rattle.lexemes.specs.Lists.{Items, after, inside, is, is_numeral, is_symbol, item, name_of, numeral_of}
use Rattle.lexemes.specs.code.Standing.{Source, WordIs, spelt}
use Rattle.lexemes.proofs.Listed.{from_item}
use Rattle.headers.specs.code.Compare.{Held, ended, other, same}
use Rattle.headers.specs.Tokens.{Placed, Token, closing, named, numbered, opening, words_in}
use Rattle.headers.proofs.Held.{held_then, held_there, same_turned}

-- past the last item there is none
none_past : (n : ℕ) (F : Items) → count F ≤ n → after n F ≡ none
unfolding after count
none_past zero none h = refl
none_past (suc n) none h = refl
none_past zero (tree l ops more) h = absurd (omega arith)
none_past (suc n) (tree l ops more) h = none_past n more (omega arith)

-- n items from item k on, one by one
abbrev pub spread : (n k : ℕ) → Items → Items
spread zero k F = none
spread (suc n) k F = tree (item k F) (inside k F) (spread n (suc k) F)

-- items are as many as were counted
pub one_by_one : (n k : ℕ) (F : Items) → count F ≡ k + n → after k F ≡ spread n k F
one_by_one zero k F e = none_past k F (omega arith)
one_by_one (suc n) k F e = from_item k F (omega arith) ∙ ap (tree (item k F) (inside k F)) (one_by_one n (suc k) F (omega arith))

-- the words of an item stand before those of the items behind it
pub words_first : (l : Lexeme) (ops more : Items) → words_in (tree l ops more) ≡ words_in (tree l ops none) ++ words_in more
unfolding words_in
words_first (list at close) ops more =
    ap (λ (ws : List Placed). record { at = at; token = opening } ∷ ws)
    (sym (append_assoc (words_in ops) (record { at = close; token = closing } ∷ []) (words_in more)))
words_first (symbol at name) ops more = refl
words_first (numeral at v) ops more = refl
words_first (keyword at name) ops more = refl
words_first (literal at width v written) ops more = refl

-- an item that is the same, and the items behind it
pub item_then : (l : Lexeme) (ops more : Items) {q r : Option ℕ} {ts ss : List Token} → Held (words_in (tree l ops none)) ts q → is_some q ≡ false
    → Held (words_in more) ss r → Held (words_in (tree l ops more)) (ts ++ ss) r
item_then l ops more h same_item behind = rw (words_first l ops more) (held_then h same_item behind)

-- an item in which a word differs
pub item_there : (l : Lexeme) (ops more : Items) {q : Option ℕ} {ts : List Token} (ss : List Token) → Held (words_in (tree l ops none)) ts q → is_some q ≡ true
    → Held (words_in (tree l ops more)) (ts ++ ss) q
item_there l ops more ss h differs = rw (words_first l ops more) (held_there _ ss h differs)

-- a list, by what its brackets hold
pub list_held : {i close : ℕ} {r : Option ℕ} {l : Lexeme} (ops : Items) (ts : List Token) → l ≡ list i close
    → Held (words_in ops ++ record { at = close; token = closing } ∷ []) (ts ++ closing ∷ []) r
    → Held (words_in (tree l ops none)) (opening ∷ (ts ++ closing ∷ [])) r
unfolding words_in
list_held ops ts e h = rw e (same refl h)

-- a symbol's bytes are those of its word
pub symbol_spelt : {s : Source} {j : ℕ} (l : Lexeme) → is_symbol l ≡ true → WordIs s j l → spelt s j ≡ name_of l
symbol_spelt (symbol at name) e w = w.written refl
symbol_spelt (list at close) e w = apart e
symbol_spelt (numeral at v) e w = apart e
symbol_spelt (keyword at name) e w = apart e
symbol_spelt (literal at width v written) e w = apart e

-- a symbol that is the declared name
pub name_same : (l : Lexeme) (name : List ℕ) → is_symbol l ≡ true → same_bytes name (name_of l) ≡ true → (ops more : Items) {r : Option ℕ} {ts : List Token}
    → Held (words_in more) ts r → Held (words_in (tree l ops more)) (named name ∷ ts) r
unfolding words_in
name_same (symbol at bytes) name e t ops more h = same (same_turned bytes name ∙ t) h
name_same (list at close) name e t ops more h = apart e
name_same (numeral at v) name e t ops more h = apart e
name_same (keyword at bytes) name e t ops more h = apart e
name_same (literal at width v written) name e t ops more h = apart e

-- a symbol that is another
pub name_other : (l : Lexeme) (name : List ℕ) → is_symbol l ≡ true → same_bytes name (name_of l) ≡ false → (ops more : Items) (ts : List Token)
    → Held (words_in (tree l ops more)) (named name ∷ ts) (Some (word_of l))
unfolding words_in
name_other (symbol at bytes) name e t ops more ts = other (same_turned bytes name ∙ t)
name_other (list at close) name e t ops more ts = apart e
name_other (numeral at v) name e t ops more ts = apart e
name_other (keyword at bytes) name e t ops more ts = apart e
name_other (literal at width v written) name e t ops more ts = apart e

-- a numeral that is the declared number
pub number_same : (l : Lexeme) (n : ℕ) → is_numeral l ≡ true → numeral_of l ≡ n → (ops : Items) → Held (words_in (tree l ops none)) (numbered n ∷ []) None
unfolding words_in
number_same (numeral at v) n e t ops = same (eq-eqb v n t) ended
number_same (symbol at name) n e t ops = apart e
number_same (list at close) n e t ops = apart e
number_same (keyword at name) n e t ops = apart e
number_same (literal at width v written) n e t ops = apart e

-- a numeral that is another
pub number_other : (l : Lexeme) (n : ℕ) → is_numeral l ≡ true → (numeral_of l ≡ n → ⊥) → (ops : Items)
    → Held (words_in (tree l ops none)) (numbered n ∷ []) (Some (word_of l))
unfolding words_in
number_other (numeral at v) n e t ops = other (ne_eqb v n t)
number_other (symbol at name) n e t ops = apart e
number_other (list at close) n e t ops = apart e
number_other (keyword at name) n e t ops = apart e
number_other (literal at width v written) n e t ops = apart e

-- a known word is a symbol
word_symbol : (word : String) → is_word word [] ≡ false → (l : Lexeme) → is word l ≡ true → is_symbol l ≡ true
word_symbol word nothing (symbol at name) e = refl
word_symbol word nothing (list at close) e = apart (sym nothing ∙ e)
word_symbol word nothing (numeral at v) e = apart (sym nothing ∙ e)
word_symbol word nothing (keyword at name) e = apart (sym nothing ∙ e)
word_symbol word nothing (literal at width v written) e = apart (sym nothing ∙ e)

-- it is held to itself
pub word_held : (word : String) → is_word word [] ≡ false → (l : Lexeme) → is word l ≡ true → (ops more : Items) {r : Option ℕ} {ts : List Token}
    → Held (words_in more) ts r → Held (words_in (tree l ops more)) (named (spelling word) ∷ ts) r
word_held word nothing l e ops more h = name_same l (spelling word) (word_symbol word nothing l e) e ops more h
