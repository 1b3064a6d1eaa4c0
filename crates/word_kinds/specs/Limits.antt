-- The sizes that a word may have. "The limit itself passes; one more is refused."
use Rattle.std.specs.Prelude.{ℕ}

-- "a numeral: .. at most 9 digits (more: answer 4)"
abbrev pub numeral_digits : ℕ
numeral_digits = 9

-- "`#x` .. or `#b` ..; over 64 bits is answer 4"
abbrev pub literal_bits : ℕ
literal_bits = 64

-- "a symbol: .. at most 64 bytes (more: answer 4)"
abbrev pub symbol_bytes : ℕ
symbol_bytes = 64

-- "after `bv` stands a numeral of at most 20 digits (more: answer 4)" (E3)
abbrev pub decimal_digits : ℕ
decimal_digits = 20
