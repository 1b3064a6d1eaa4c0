-- The forms of words, as the returns of the functions that classify them ask.
use Prim.Native.Nat.{ℕ, ◌-◌, ◌*◌, ◌/◌, ◌^◌, ◌≤◌, ◌<◌}
use Prim.Native.Char.{code}
use native.Mathlib.Nat.{pow-le-pow_right, le_trans}
use native.Mathlib.Omega.{arith}
use mathlib.Core.Path.{◌≡◌, refl, sym, ap, ◌∙◌}
use mathlib.Core.Bool.{Bool, true, false, not, ◌&&◌, ◌||◌, cond}
use mathlib.Core.List.{List, [], ◌∷◌}
use borrow.Author.Tests.{le-leb, lt-leb, ne_eqb, not-true, not-false}
use lib.Dec.{T, leb, eqb, lit≤}
use lib.ListN.{length, get_or, drop, take, length-drop}
use lib.Seq.{take_all}
use Rattle.forest.specs.Lists.{same_bytes, spelling}
use Rattle.forest.proofs.Bools.{and_left}
use Rattle.forest.proofs.Lists.{drop_next}
use Rattle.word_kinds.specs.Bytes.{digit, uncarried}
use Rattle.word_kinds.specs.Kinds.{all_in, formed, hashed, keyword_form, kind_of, literal, marked, numeral, numeral_form, spelled, symbol}
use Rattle.word_kinds.specs.code.Digits.{Radix, binary, digits_below, hex}
use Rattle.word_kinds.specs.declared.Class.{Class}
use Rattle.word_kinds.specs.declared.Class.TheVariants.{Digits, HexDigits, BinaryDigits, SymbolBytes}
use Rattle.word_kinds.specs.declared.Fault.TheVariants.{BadWord, PastLimit, NotCarried}
use Rattle.word_kinds.specs.declared.Kind.{Kind}
use Rattle.word_kinds.specs.declared.Kind.TheVariants.{Open, Close, Numeral, Literal, Symbol, Keyword, Faulty}
use Rattle.word_kinds.proofs.Digits.{binary_below, decimal_below, hex_below}

-- ---- form, then size

module _ (right small : Bool) (kind : Kind) where
  form_bad : not right ≡ true → Faulty BadWord ≡ formed right small kind
  unfolding formed
  form_bad t = rw (not-true right t)

  form_large : not right ≡ false → small ≡ false → Faulty PastLimit ≡ formed right small kind
  unfolding formed
  form_large t h = rw (not-false right t, h)

  form_right : not right ≡ false → small ≡ true → kind ≡ formed right small kind
  unfolding formed
  form_right t h = rw (not-false right t, h)

power_fits : (base n most : ℕ) → 0 < base → n ≤ most → T (leb (base ^ most) (2 ^ 64)) → base ^ n ≤ 2 ^ 64
power_fits base n most z h t = le_trans (pow-le-pow_right z h) (lit≤ t)

-- a word that begins with a digit
module _ (w : List ℕ) (r : Bool) (e : r ≡ numeral_form w) where
  pub numeral_bad : not r ≡ true → Faulty BadWord ≡ numeral w
  unfolding numeral
  numeral_bad t = rw (← e) (form_bad _ _ _ t)

  module _ (t : not r ≡ false) where
    pub numeral_long : 9 < length w → Faulty PastLimit ≡ numeral w
    unfolding numeral
    numeral_long h = rw (← e) (form_large _ _ _ t (lt-leb _ _ h))

    pub numeral_is : length w ≤ 9 → (v : ℕ) → v ≡ spelled 10 0 w → Numeral v ≡ numeral w
    unfolding numeral
    numeral_is h v q = rw (← e, q) (form_right _ _ _ t (le-leb _ _ h))

    pub numeral-digits : digits_below 10 w ≡ true
    numeral-digits = decimal_below w (and_left (all_in Digits w) _ (sym e ∙ not-false r t))

pub numeral_power : (n : ℕ) → n ≤ 9 → 10 ^ n ≤ 2 ^ 64
numeral_power n h = power_fits 10 n 9 (omega arith) h tt

-- what follows `#x` or `#b`
module _ {class : Class} {bits base : ℕ} (radix : Radix class bits base) where
  module _ (n : ℕ) where
    bits_fit : n ≤ 64 / bits → bits * n ≤ 64
    bits_fit h = go radix h
      where
        go : {class : Class} {bits base : ℕ} → Radix class bits base → n ≤ 64 / bits → bits * n ≤ 64
        go hex h = omega arith
        go binary h = omega arith

    bits_past : 64 / bits < n → 64 < bits * n
    bits_past h = go radix h
      where
        go : {class : Class} {bits base : ℕ} → Radix class bits base → 64 / bits < n → 64 < bits * n
        go hex h = omega arith
        go binary h = omega arith

    pub literal_power : n ≤ 64 / bits → base ^ n ≤ 2 ^ 64
    literal_power h = go radix h
      where
        go : {class : Class} {bits base : ℕ} → Radix class bits base → n ≤ 64 / bits → base ^ n ≤ 2 ^ 64
        go hex h = power_fits 16 n 16 (omega arith) (omega arith) tt
        go binary h = power_fits 2 n 64 (omega arith) (omega arith) tt

  base_power : base ≡ 2 ^ bits
  base_power = go radix
    where
      go : {class : Class} {bits base : ℕ} → Radix class bits base → base ≡ 2 ^ bits
      go hex = refl
      go binary = refl

  module _ (w : List ℕ) (r : Bool) (e : r ≡ all_in class w) where
    pub literal_bad : not (r && not (eqb (length w) 0)) ≡ true → Faulty BadWord ≡ literal class bits w
    unfolding literal
    literal_bad t = rw (← e) (form_bad _ _ _ t)

    module _ (t : not (r && not (eqb (length w) 0)) ≡ false) where
      pub literal_long : 64 / bits < length w → Faulty PastLimit ≡ literal class bits w
      unfolding literal
      literal_long h = rw (← e) (form_large _ _ _ t (lt-leb _ _ (bits_past (length w) h)))

      pub literal_is : length w ≤ 64 / bits → (v : ℕ) → v ≡ spelled base 0 w → Literal (bits * length w) v ≡ literal class bits w
      unfolding literal
      literal_is h v q = rw (← e, q, base_power) (form_right _ _ _ t (le-leb _ _ (bits_fit (length w) h)))

      pub literal_digits : digits_below base w ≡ true
      literal_digits = go radix (sym e ∙ and_left r _ (not-false _ t))
        where
          go : {class : Class} {bits base : ℕ} → Radix class bits base → all_in class w ≡ true → digits_below base w ≡ true
          go hex all = hex_below w all
          go binary all = binary_below w all

-- a symbol
module _ (w : List ℕ) (r : Bool) (e : r ≡ all_in SymbolBytes w) where
  pub symbol_bad : not r ≡ true → Faulty BadWord ≡ symbol w
  unfolding symbol
  symbol_bad t = rw (← e) (form_bad _ _ _ t)

  pub symbol_long : not r ≡ false → 64 < length w → Faulty PastLimit ≡ symbol w
  unfolding symbol
  symbol_long t h = rw (← e) (form_large _ _ _ t (lt-leb _ _ h))

  pub symbol_is : not r ≡ false → length w ≤ 64 → Symbol ≡ symbol w
  unfolding symbol
  symbol_is t h = rw (← e) (form_right _ _ _ t (le-leb _ _ h))

-- ---- a keyword that is carried, or one that is not

pub keyword_is : (w : List ℕ) → (r : Bool) → r ≡ same_bytes (spelling ":weights") w → (s : Bool) → s ≡ same_bytes (spelling ":weight") w → r || s ≡ keyword_form w
unfolding keyword_form
keyword_is w r e s f = rw (← e, ← f)

module _ (w : List ℕ) (r : Bool) (e : r ≡ keyword_form w) where
  pub marked_keyword : r ≡ true → Keyword ≡ marked w
  unfolding marked
  marked_keyword t = rw (← e, t)

  pub marked_other : r ≡ false → Faulty NotCarried ≡ marked w
  unfolding marked
  marked_other t = rw (← e, t)

-- ---- by the first byte

pub hashed_none : (w : List ℕ) → length w ≡ 0 → Faulty BadWord ≡ hashed w
unfolding hashed
hashed_none [] h = refl
hashed_none (b ∷ w) h = let z : ⊥ = omega arith in absurd z

pub kind_none : (w : List ℕ) → length w ≡ 0 → Faulty BadWord ≡ kind_of w
unfolding kind_of
kind_none [] h = refl
kind_none (b ∷ w) h = let z : ⊥ = omega arith in absurd z

module _ (w : List ℕ) (some : length w ≡ 0 → ⊥) where
  first_byte : w ≡ get_or w 0 0 ∷ drop 1 w
  first_byte = drop_next w 0 (omega arith)

  -- the bytes after the first, as they are lent
  lent : take (length w - 1) (drop 1 w) ≡ drop 1 w
  lent = take_all (length w - 1) (drop 1 w) (simp length-drop (omega arith))

  hashed_cut : hashed w ≡
      cond (eqb (get_or w 0 0) (code "x")) (literal HexDigits 4 (drop 1 w))
      (cond (eqb (get_or w 0 0) (code "b")) (literal BinaryDigits 1 (drop 1 w)) (Faulty BadWord))
  unfolding hashed
  hashed_cut = ap hashed first_byte

  pub hashed_hex : (k : Kind) → get_or w 0 0 ≡ code "x" → k ≡ literal HexDigits 4 (take (length w - 1) (drop 1 w)) → k ≡ hashed w
  hashed_hex k e q = rw (hashed_cut, e) (q ∙ ap (literal HexDigits 4) lent)

  module _ (other : get_or w 0 0 ≡ code "x" → ⊥) where
    pub hashed_binary : (k : Kind) → get_or w 0 0 ≡ code "b" → k ≡ literal BinaryDigits 1 (take (length w - 1) (drop 1 w)) → k ≡ hashed w
    hashed_binary k e q = rw (hashed_cut, e) (q ∙ ap (literal BinaryDigits 1) lent)

    pub hashed_bad : (get_or w 0 0 ≡ code "b" → ⊥) → Faulty BadWord ≡ hashed w
    hashed_bad n = rw (hashed_cut, ne_eqb _ _ other, ne_eqb _ _ n)

  kind_cut : kind_of w ≡
      cond (eqb (get_or w 0 0) (code "(")) Open
      (cond (eqb (get_or w 0 0) (code ")")) Close
      (cond (uncarried (get_or w 0 0)) (marked w)
      (cond (digit (get_or w 0 0)) (numeral w)
      (cond (eqb (get_or w 0 0) (code "#")) (hashed (drop 1 w)) (symbol w)))))
  unfolding kind_of
  kind_cut = ap kind_of first_byte ∙ rw (← first_byte)

  pub kind_open : get_or w 0 0 ≡ code "(" → Open ≡ kind_of w
  kind_open e = rw (kind_cut, e)

  pub kind_close : get_or w 0 0 ≡ code ")" → Close ≡ kind_of w
  kind_close e = rw (kind_cut, e)

  module _ (not-open : get_or w 0 0 ≡ code "(" → ⊥) (not_close : get_or w 0 0 ≡ code ")" → ⊥) (u : Bool) (eu : u ≡ uncarried (get_or w 0 0)) where
    pub kind_marked : (k : Kind) → u ≡ true → k ≡ marked w → k ≡ kind_of w
    kind_marked k t q = rw (kind_cut, ne_eqb _ _ not-open, ne_eqb _ _ not_close, sym eu ∙ t) q

    module _ (tu : u ≡ false) (d : Bool) (ed : d ≡ digit (get_or w 0 0)) where
      pub kind_numeral : (k : Kind) → d ≡ true → k ≡ numeral w → k ≡ kind_of w
      kind_numeral k t q = rw (kind_cut, ne_eqb _ _ not-open, ne_eqb _ _ not_close, sym eu ∙ tu, sym ed ∙ t) q

      pub kind_hashed : (k : Kind) → d ≡ false → get_or w 0 0 ≡ code "#" → k ≡ hashed (take (length w - 1) (drop 1 w)) → k ≡ kind_of w
      kind_hashed k t e q = rw (kind_cut, e) (q ∙ ap hashed lent)

      pub kind_symbol : (k : Kind) → d ≡ false → (get_or w 0 0 ≡ code "#" → ⊥) → k ≡ symbol w → k ≡ kind_of w
      kind_symbol k t n q = rw (kind_cut, ne_eqb _ _ not-open, ne_eqb _ _ not_close, sym eu ∙ tu, sym ed ∙ t, ne_eqb _ _ n) q
