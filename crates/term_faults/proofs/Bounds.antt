-- What a word keeps to, by its bytes: a numeral, a literal and a symbol are within their bounds.
use Prim.Native.Nat.{ℕ, zero, suc, ◌+◌, ◌*◌, ◌^◌, ◌≤◌, ◌<◌}
use Prim.Native.Char.{code}
use native.Mathlib.Nat.{mul-suc, mul-zero, pow-le-pow_right, pow-suc, pow-zero}
use native.Mathlib.Omega.{arith}
use mathlib.Core.Path.{◌≡◌, refl, ap}
use mathlib.Core.Bool.{Bool, true, false, cond, ◌||◌}
use mathlib.Core.List.{List, [], ◌∷◌}
use borrow.Author.Tests.{eqb-false, leb-true, lt-ltb, not-true}
use lib.Dec.{eqb}
use lib.ListN.{drop, length, drop_of_length-le}
use lib.Pow.{pow-add}
use Rattle.forest.proofs.Bools.{and_left, and_right}
use Rattle.forest.proofs.Lists.{drop_next}
use Rattle.word_kinds.specs.Limits.{literal_bits, numeral_digits, symbol_bytes}
use Rattle.operators.specs.Sorts.{Fit}
use Rattle.word_kinds.specs.Bytes.{digit, uncarried}
use Rattle.word_kinds.specs.Kinds.{all_in, formed, hashed, keyword_form, kind_of, literal as literalOf, marked, numeral as numeral_of, spelled, symbol as symbol_of}
use Rattle.word_kinds.specs.code.Digits.{digits_below}
use Rattle.word_kinds.specs.declared.Class.{Class}
use Rattle.word_kinds.specs.declared.Class.TheVariants.{BinaryDigits, Digits, HexDigits}
use Rattle.word_kinds.specs.declared.Kind.{Kind}
use Rattle.word_kinds.specs.declared.Kind.TheVariants.{Keyword}
use Rattle.forest.specs.Lists.{same_bytes, spelling}
use Rattle.forest.proofs.Searching.{same_bytes_lem}
use Rattle.lexemes.proofs.ByCode.{keyword_high}
use Rattle.word_kinds.proofs.Digits.{below_goes, binary_below, decimal_below, hex_below, spell_more}
use Rattle.words.specs.Table.{value_of, width_of}
use Rattle.words.specs.Trees.{bytes_of}
use Rattle.words.specs.Words.{Word, bytes_at, word_at, words_of}
use Rattle.lexemes.specs.code.Table.{kind_code, literal_code, numeral_code}
use Rattle.lexemes.proofs.Said.{found}
use Rattle.names.specs.code.Table.{longest}

-- ---- the number that digits spell

module _ (base : ℕ) (w : List ℕ) where
  -- the digits from i on, of which there are n, after digits that spell v
  spelled_from : (n i v : ℕ) → n + i ≡ length w → digits_below base (drop i w) ≡ true → v < base ^ i → spelled base v (drop i w) < base ^ length w
  unfolding spelled
  spelled_from zero i v e below h =
      let past : length w ≤ i = omega arith in
      let all : length w ≡ i = omega arith in
      rw (drop_of_length-le w past, all) h
  spelled_from (suc n) i v e below h =
      let inside : i < length w = omega arith in
      rw (drop_next w i inside)
      (spelled_from n (i + 1) _ (omega arith) (below_goes base w i v _ inside refl below) (spell_more base w i v _ inside refl below h))

  -- a number of so many digits
  spelled_below : digits_below base w ≡ true → spelled base 0 w < base ^ length w
  spelled_below below = spelled_from (length w) 0 0 (omega arith) below (rw pow-zero (omega arith))

-- a power of a power of two
power_twice : (bits n : ℕ) → (2 ^ bits) ^ n ≡ 2 ^ (bits * n)
power_twice bits zero = rw (pow-zero (2 ^ bits), mul-zero, pow-zero)
power_twice bits (suc n) = rw (pow-suc, power_twice bits n, mul-suc, pow-add)

-- ---- the kinds of words

-- What a word of a kind keeps to.
pub record Kept (bytes : List ℕ) (kind : Kind) : Type 0 where
  pub low : kind_code kind bytes ≡ numeral_code → value_of kind < 10 ^ numeral_digits
  pub fits : kind_code kind bytes ≡ literal_code → Fit (width_of kind) (value_of kind)
  pub short : literal_code < kind_code kind bytes → length bytes ≤ longest

-- a word that is neither numeral, literal nor symbol
other : {bytes : List ℕ} {kind : Kind} → kind_code kind bytes < numeral_code → Kept bytes kind
other h =
    record { low = λ e. absurd (omega arith); fits = λ e. absurd (omega arith); short = λ e. absurd (omega arith) }

-- a word of the one kind or of the other
choice : (t : Bool) {bytes : List ℕ} {a b : Kind} → (t ≡ true → Kept bytes a) → (t ≡ false → Kept bytes b) → Kept bytes (cond t a b)
choice true f g = f refl
choice false f g = g refl

-- a word of right form and size
formed_kept : (right small : Bool) {bytes : List ℕ} {kind : Kind} → (right ≡ true → small ≡ true → Kept bytes kind) → Kept bytes (formed right small kind)
unfolding formed
formed_kept right small f = choice right (λ r. choice small (λ e. f r e) (λ e. other (omega arith))) (λ r. other (omega arith))

-- a numeral
numeral_kept : (w : List ℕ) → Kept w (numeral_of w)
unfolding numeral_of
numeral_kept w = formed_kept _ _ (λ right small.
    let few : 10 ^ length w ≤ 10 ^ numeral_digits = pow-le-pow_right (omega arith) (leb-true (length w) numeral_digits small) in
    let below = spelled_below 10 w (decimal_below w (and_left (all_in Digits w) _ right)) in
    record { low = λ e. omega arith; fits = λ e. absurd (omega arith); short = λ e. absurd (omega arith) })

-- a symbol
symbol_kept : (w : List ℕ) → Kept w (symbol_of w)
unfolding symbol_of
symbol_kept w = formed_kept _ _ (λ right small.
    record {
      low = λ e. absurd (omega arith);
      fits = λ e. absurd (omega arith);
      short = λ e. leb-true (length w) symbol_bytes small;
    })

-- a literal, by its digits
literal_kept : (class : Class) (bits : ℕ) (w : List ℕ) {bytes : List ℕ} → (all_in class w ≡ true → digits_below (2 ^ bits) w ≡ true)
    → ((length w ≡ 0 → ⊥) → 0 < bits * length w) → Kept bytes (literalOf class bits w)
unfolding literalOf
literal_kept class bits w digits some = formed_kept _ _ (λ right size.
    let fit = leb-true (bits * length w) literal_bits size in
    let below = spelled_below (2 ^ bits) w (digits (and_left (all_in class w) _ right)) in
    let wide = lt-ltb 0 (bits * length w) (some (eqb-false (length w) 0 (not-true _ (and_right (all_in class w) _ right)))) in
    record {
      low = λ e. absurd (omega arith);
      fits = λ e. record { sort = fit; value = rw wide (rw (power_twice bits (length w)) at below) };
      short = λ e. absurd (omega arith);
    })

-- a word that begins with `#`
hashed_kept : (first : ℕ) (w : List ℕ) → Kept (first ∷ w) (hashed w)
unfolding hashed
hashed_kept first [] = other (omega arith)
hashed_kept first (b ∷ w) =
    choice (eqb b (code "x")) (λ e. literal_kept HexDigits 4 w (hex_below w) (λ n. omega arith))
    (λ e. choice (eqb b (code "b")) (λ e. literal_kept BinaryDigits 1 w (binary_below w) (λ n. omega arith)) (λ e. other (omega arith)))

-- a keyword that is carried
keyword_kept : (bytes : List ℕ) → keyword_form bytes ≡ true → Kept bytes Keyword
unfolding keyword_form
keyword_kept bytes form = record {
  low = λ e. absurd (omega (arith, keyword_high bytes));
  fits = λ e. absurd (omega (arith, keyword_high bytes));
  short = λ e. go (same_bytes (spelling ":weights") bytes) refl form;
}
  where
    go : (b : Bool) → same_bytes (spelling ":weights") bytes ≡ b → b || same_bytes (spelling ":weight") bytes ≡ true → length bytes ≤ longest
    go true e h = omega (arith, ap length (same_bytes_lem (spelling ":weights") bytes e))
    go false e h = omega (arith, ap length (same_bytes_lem (spelling ":weight") bytes h))

-- a word of any kind
kind_kept : (bytes : List ℕ) → Kept bytes (kind_of bytes)
unfolding kind_of marked
kind_kept [] = other (omega arith)
kind_kept (b ∷ w) =
    choice (eqb b (code "(")) (λ e. other (omega arith))
    (λ e. choice (eqb b (code ")")) (λ e. other (omega arith))
    (λ e. choice (uncarried b) (λ e. choice (keyword_form (b ∷ w)) (λ form. keyword_kept (b ∷ w) form) (λ e. other (omega arith)))
    (λ e. choice (digit b) (λ e. numeral_kept (b ∷ w))
    (λ e. choice (eqb b (code "#")) (λ e. hashed_kept b w)
    (λ e. symbol_kept (b ∷ w))))))

-- a word of a text
pub word_kept : (text : List ℕ) (i : ℕ) (w : Word) (more : List Word) → drop i (words_of text) ≡ w ∷ more → Kept (bytes_of text w) w.kind
unfolding bytes_at word_at
word_kept text i w more here = let f = found text i w more here in rw f.is (kind_kept _)
