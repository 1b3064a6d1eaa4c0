-- The word `bvN` of a constant `(_ bvN n)`: "Carry `(_ bv15 8)` too, as one node; after `bv` stands a numeral of at most 20 digits (more: answer 4)" (E3).
use Rattle.std.specs.Prelude.{ℕ, ◌+◌, Bool, ◌&&◌, List, eqb, leb, ltb, drop, get_or, length}
use Prim.Native.Char.{code}
use Rattle.word_kinds.specs.Kinds.{numeral_form, spelled}
use Rattle.word_kinds.specs.Limits.{decimal_digits}

-- How many bytes stand before the numeral: those of `bv`.
abbrev pub decimal_start : ℕ
decimal_start = 2

-- Whether a symbol is `bv` and then a numeral.
unfoldable pub is_decimal : (name : List ℕ) → Bool
is_decimal name =
    leb (decimal_start + 1) (length name)
    && eqb (get_or name 0 0) (code "b")
    && eqb (get_or name 1 0) (code "v")
    && numeral_form (drop decimal_start name)

-- Whether its numeral has more than 20 digits.
abbrev pub is_long : (name : List ℕ) → Bool
is_long name = ltb (decimal_start + decimal_digits) (length name)

-- The value of its numeral.
abbrev pub decimal_value : (name : List ℕ) → ℕ
decimal_value name = spelled 10 0 (drop decimal_start name)
