-- Kinds of bytes of which words are made.
use Rattle.std.specs.Prelude.{ℕ, Bool, ◌||◌, ◌&&◌, eqb, leb}
use Prim.Native.Char.{code}
use Rattle.forest.specs.Lists.{among, spelling}

-- "A word that begins with `"`, `|` or `:` is answer 6." Of these words request E13 carries two: `keyword_form`.
abbrev pub uncarried : ℕ → Bool
uncarried b = eqb b (code "\"") || eqb b (code "|") || eqb b (code ":")

-- A digit: `0` to `9`.
abbrev pub digit : ℕ → Bool
digit b = leb (code "0") b && leb b (code "9")

-- "hex digits of either case": a digit, `A` to `F` or `a` to `f`.
abbrev pub hex_digit : ℕ → Bool
hex_digit b = digit b || leb (code "A") b && leb b (code "F") || leb (code "a") b && leb b (code "f")

-- "0 and 1", the digits of `#b`.
abbrev pub binary_digit : ℕ → Bool
binary_digit b = eqb b (code "0") || eqb b (code "1")

-- A letter: `A` to `Z` or `a` to `z`.
abbrev pub letter : ℕ → Bool
letter b = leb (code "A") b && leb b (code "Z") || leb (code "a") b && leb b (code "z")

-- The marks that a symbol may have: `~ ! @ $ % ^ & * _ - + = < > . ? /`.
abbrev pub mark : ℕ → Bool
mark b = among b (spelling "~!@$%^&*_-+=<>.?/")

-- "a symbol: letters, digits and `~ ! @ $ % ^ & * _ - + = < > . ? /`"
abbrev pub symbol_byte : ℕ → Bool
symbol_byte b = letter b || digit b || mark b
