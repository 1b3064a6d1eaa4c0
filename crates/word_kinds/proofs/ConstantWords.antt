-- The word of a constant `(_ bvN n)`: its form, and the value of its numeral, digit by digit.
use Prim.Native.Nat.{ℕ, ◌+◌, ◌-◌, ◌*◌, ◌≤◌, ◌<◌}
use Prim.Native.Char.{code}
use native.Mathlib.Omega.{arith}
use mathlib.Core.Path.{◌≡◌, refl, sym, ap, ◌∙◌}
use mathlib.Core.Bool.{Bool, true, false, not, ◌&&◌, ◌||◌}
use mathlib.Core.List.{List, [], ◌∷◌}
use borrow.Author.Tests.{le-leb, lt-leb}
use lib.Dec.{eqb}
use lib.ListN.{drop, drop_of_length-le, get_or, length, length-drop, take}
use lib.Seq.{take_all}
use Rattle.forest.proofs.Bools.{apart}
use Rattle.forest.proofs.Lists.{drop_next}
use Rattle.word_kinds.specs.Kinds.{digit_value, numeral_form, spelled}
use Rattle.word_kinds.specs.Decimals.{decimal_start, decimal_value, is_decimal}

module _ (name : List ℕ) where
  -- too few bytes
  pub too_short : length name ≤ decimal_start → false ≡ is_decimal name
  unfolding is_decimal
  too_short h = rw (lt-leb (decimal_start + 1) (length name) (omega arith))

  module _ (some : decimal_start < length name) where
    -- other bytes than `bv` in front
    pub no_start : not (eqb (get_or name 0 0) (code "b")) || not (eqb (get_or name 1 0) (code "v")) ≡ true → false ≡ is_decimal name
    unfolding is_decimal
    no_start t = rw (le-leb (decimal_start + 1) (length name) (omega arith)) (go (eqb (get_or name 0 0) (code "b")) (eqb (get_or name 1 0) (code "v")) t)
      where
        go : (b v : Bool) → not b || not v ≡ true → false ≡ b && v && numeral_form (drop decimal_start name)
        go false v t = refl
        go true false t = refl
        go true true t = apart t

    -- `bv` in front
    pub started : not (eqb (get_or name 0 0) (code "b")) || not (eqb (get_or name 1 0) (code "v")) ≡ false
        → {r : Bool} → r ≡ numeral_form (take (length name - decimal_start) (drop decimal_start name)) → r ≡ is_decimal name
    unfolding is_decimal
    started t {r} e =
        rw (le-leb (decimal_start + 1) (length name) (omega arith))
        (e ∙ ap numeral_form (take_all (length name - decimal_start) (drop decimal_start name) (simp length-drop (omega arith)))
        ∙ go (eqb (get_or name 0 0) (code "b")) (eqb (get_or name 1 0) (code "v")) t)
      where
        go : (b v : Bool) → not b || not v ≡ false → numeral_form (drop decimal_start name) ≡ b && v && numeral_form (drop decimal_start name)
        go true true t = refl
        go true false t = apart (sym t)
        go false v t = apart (sym t)

-- digits make a number no less
spelled_least : (v : ℕ) (w : List ℕ) → v ≤ spelled 10 v w
unfolding spelled
spelled_least v [] = omega arith
spelled_least v (b ∷ w) = omega (arith, spelled_least (v * 10 + digit_value b) w)

module _ (word : List ℕ) (i v : ℕ) (inv : spelled 10 v (drop i word) ≡ decimal_value word) where
  -- no digit is left
  pub value_ends : length word ≤ i → v ≡ decimal_value word
  unfolding spelled
  value_ends h = sym (rw (drop_of_length-le word)) ∙ inv

  module _ (h : i < length word) where
    -- one more digit
    pub value_goes : spelled 10 (v * 10 + digit_value (get_or word i 0)) (drop (i + 1) word) ≡ decimal_value word
    unfolding spelled
    value_goes = sym (rw (drop_next word i h)) ∙ inv

    -- which makes it no less
    pub value_least : v * 10 + digit_value (get_or word i 0) ≤ decimal_value word
    value_least = omega (arith, value_goes, spelled_least (v * 10 + digit_value (get_or word i 0)) (drop (i + 1) word))
