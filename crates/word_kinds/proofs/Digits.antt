-- Turns of the loops over a word's bytes.
use Prim.Native.Nat.{ℕ, zero, suc, ◌+◌, ◌*◌, ◌^◌, ◌≤◌, ◌<◌}
use native.Mathlib.Numerals.{add-one}
use native.Mathlib.Nat.{pow-suc, suc-mul, mul-le-mul_right, pow-le-pow_right}
use native.Mathlib.Omega.{arith}
use mathlib.Core.Path.{◌≡◌, refl, sym, ◌∙◌}
use mathlib.Core.Bool.{Bool, true, false, not, ◌&&◌, ◌||◌}
use mathlib.Core.List.{List, [], ◌∷◌}
use borrow.Author.Tests.{eqb-true, leb-true, ltb-true, not-true, not-false}
use lib.Dec.{T, eqb, leb, ltb}
use lib.ListN.{length, get_or, drop, drop_of_length-le}
use Rattle.forest.proofs.Bools.{and_left, and_right, each, every}
use Rattle.forest.proofs.Lists.{drop_next}
use Rattle.word_kinds.specs.Kinds.{in_class, all_in, digit_value, spelled}
use Rattle.word_kinds.specs.code.Digits.{digits_below}
use Rattle.word_kinds.specs.Bytes.{binary_digit, digit, hex_digit}
use Rattle.word_kinds.specs.declared.Class.{Class}
use Rattle.word_kinds.specs.declared.Class.TheVariants.{BinaryDigits, Digits, HexDigits}

module _ (class : Class) (w : List ℕ) (i : ℕ) (inv : all_in class (drop i w) ≡ all_in class w) where
  pub all_ends : length w ≤ i → true ≡ all_in class w
  unfolding all_in
  all_ends h = sym (rw (drop_of_length-le w)) ∙ inv

  module _ (r : Bool) (h : i < length w) (e : r ≡ in_class class (get_or w i 0)) where
    pub all_stops : not r ≡ true → false ≡ all_in class w
    unfolding all_in
    all_stops t = sym (rw (drop_next w i h, sym e ∙ not-true r t)) ∙ inv

    pub all_goes : not r ≡ false → all_in class (drop (i + 1) w) ≡ all_in class w
    unfolding all_in
    all_goes t = sym (rw (drop_next w i h, sym e ∙ not-false r t)) ∙ inv

-- a number of i digits and one digit more
digits_more : (base v d i : ℕ) → v < base ^ i → d < base → v * base + d < base ^ (i + 1)
digits_more base v d i hv hd =
    let m : suc v * base ≤ base ^ i * base = mul-le-mul_right base hv in
    let p : base ^ (i + 1) ≡ base ^ i * base = rw add-one (pow-suc base i) in
    omega (arith, suc-mul v base)

-- one more digit of w
module _ (base : ℕ) (w : List ℕ) (i v d : ℕ) (h : i < length w) (e : d ≡ digit_value (get_or w i 0)) (below : digits_below base (drop i w) ≡ true) where
  digit_below : d < base
  unfolding digits_below
  digit_below = rw e (ltb-true _ _ (and_left _ (digits_below base (drop (i + 1) w)) (rw (drop_next w i h) at below)))

  pub below_goes : digits_below base (drop (i + 1) w) ≡ true
  unfolding digits_below
  below_goes = and_right (ltb (digit_value (get_or w i 0)) base) _ (rw (drop_next w i h) at below)

  pub spell_goes : spelled base v (drop i w) ≡ spelled base 0 w → spelled base (v * base + d) (drop (i + 1) w) ≡ spelled base 0 w
  unfolding spelled
  spell_goes inv = rw e (sym (rw (drop_next w i h)) ∙ inv)

  module _ (hv : v < base ^ i) where
    pub spell_more : v * base + d < base ^ (i + 1)
    spell_more = digits_more base v d i hv digit_below

    pub spell_add : base ^ length w ≤ 2 ^ 64 → v * base + d < 2 ^ 64
    spell_add top =
        let m = spell_more in
        let b = digit_below in
        let z : 0 < base = omega arith in
        let n : i + 1 ≤ length w = omega arith in
        let p : base ^ (i + 1) ≤ base ^ length w = pow-le-pow_right z n in
        omega arith

pub spell_mul : (base : ℕ) (w : List ℕ) (i v : ℕ) → i < length w → digits_below base (drop i w) ≡ true → v < base ^ i → base ^ length w ≤ 2 ^ 64
    → v * base < 2 ^ 64
spell_mul base w i v h below hv top = omega (arith, spell_add base w i v _ h refl below hv top)

pub spell_ends : (base : ℕ) (w : List ℕ) (i v : ℕ) → length w ≤ i → spelled base v (drop i w) ≡ spelled base 0 w → v ≡ spelled base 0 w
unfolding spelled
spell_ends base w i v h e = sym (rw (drop_of_length-le w)) ∙ e

-- the test, at one byte, that a byte of the class is a digit below the base
abbrev pub digit_in : Class → (base : ℕ) → ℕ → Bool
digit_in class base b = not (in_class class b) || ltb (digit_value b) base

-- bytes of a class are digits below the base where the test passes at every byte
pub all_below : (class : Class) (base : ℕ) → T (every 256 (digit_in class base))
    → (w : List ℕ) → ((i : ℕ) → get_or w i 0 < 256) → all_in class w ≡ true → digits_below base w ≡ true
unfolding all_in digits_below
all_below class base t [] bytes e = refl
all_below class base t (b ∷ w) bytes e = go (in_class class b) refl (all_below class base t w (λ i. bytes (suc i)))
  where
    go : (x : Bool) → in_class class b ≡ x → (all_in class w ≡ true → digits_below base w ≡ true) → ltb (digit_value b) base && digits_below base w ≡ true
    go true q r = rw (rw q at (each 256 (digit_in class base) t b (bytes 0))) (r (rw q at e))
    go false q r = let z : ◌≡◌ {A = Bool} false true = rw q at e in cc

-- by the one test or the other
by_either : {P : Type 0} (a b : Bool) → (a ≡ true → P) → (b ≡ true → P) → a || b ≡ true → P
by_either true b f g e = f refl
by_either false b f g e = g e

-- a byte in a range of small bytes
in_range : (low high b : ℕ) → high < 256 → leb low b && leb b high ≡ true → b < 256
in_range low high b h e = omega (arith, leb-true b high (and_right (leb low b) (leb b high) e))

-- bytes of a class of small bytes
small_bytes : (class : Class) → ((b : ℕ) → in_class class b ≡ true → b < 256) → (w : List ℕ) → all_in class w ≡ true → (i : ℕ) → get_or w i 0 < 256
unfolding all_in
small_bytes class small [] e i = omega arith
small_bytes class small (b ∷ w) e zero = small b (and_left (in_class class b) (all_in class w) e)
small_bytes class small (b ∷ w) e (suc i) = small_bytes class small w (and_right (in_class class b) (all_in class w) e) i

-- the digits of a numeral
pub decimal_below : (w : List ℕ) → all_in Digits w ≡ true → digits_below 10 w ≡ true
decimal_below w e = all_below Digits 10 tt w (small_bytes Digits (λ b. in_range 48 57 b (omega arith)) w e) e

-- the digits of `#x`
pub hex_below : (w : List ℕ) → all_in HexDigits w ≡ true → digits_below 16 w ≡ true
hex_below w e = all_below HexDigits 16 tt w (small_bytes HexDigits small w e) e
  where
    small : (b : ℕ) → hex_digit b ≡ true → b < 256
    small b =
        by_either (digit b || leb 65 b && leb b 70) (leb 97 b && leb b 102)
        (by_either (digit b) (leb 65 b && leb b 70) (in_range 48 57 b (omega arith)) (in_range 65 70 b (omega arith)))
        (in_range 97 102 b (omega arith))

-- the digits of `#b`
pub binary_below : (w : List ℕ) → all_in BinaryDigits w ≡ true → digits_below 2 w ≡ true
binary_below w e = all_below BinaryDigits 2 tt w (small_bytes BinaryDigits small w e) e
  where
    small : (b : ℕ) → binary_digit b ≡ true → b < 256
    small b = by_either (eqb b 48) (eqb b 49) (λ h. omega (arith, eqb-true b 48 h)) (λ h. omega (arith, eqb-true b 49 h))
