-- What a word is, by its bytes.
use Rattle.std.specs.Prelude.{ℕ, ◌+◌, ◌-◌, ◌*◌, ◌^◌, Bool, true, cond, ◌&&◌, ◌||◌, not, List, [], ◌∷◌, length, get_or, eqb, leb}
use Prim.Native.Char.{code}
use Rattle.forest.specs.Lists.{same_bytes, spelling}
use Rattle.word_kinds.specs.Bytes.{binary_digit, digit, hex_digit, symbol_byte, uncarried}
use Rattle.word_kinds.specs.Limits.{literal_bits, numeral_digits, symbol_bytes}
use Rattle.word_kinds.specs.declared.Class.{Class}
use Rattle.word_kinds.specs.declared.Class.TheVariants.{Digits, HexDigits, BinaryDigits, SymbolBytes}
use Rattle.word_kinds.specs.declared.Kind.{Kind}
use Rattle.word_kinds.specs.declared.Kind.TheVariants.{Open, Close, Numeral, Literal, Symbol, Keyword, Faulty}
use Rattle.word_kinds.specs.declared.Fault.TheVariants.{BadWord, PastLimit, NotCarried}

-- Whether the byte b belongs to the class.
abbrev pub in_class : Class → ℕ → Bool
in_class Digits b = digit b
in_class HexDigits b = hex_digit b
in_class BinaryDigits b = binary_digit b
in_class SymbolBytes b = symbol_byte b

-- Whether all of the bytes w belong to the class.
unfoldable pub all_in : Class → List ℕ → Bool
all_in class [] = true
all_in class (b ∷ w) = in_class class b && all_in class w

-- The value of a digit, `0` to `9`, `A` to `F` or `a` to `f`; of other bytes it says nothing.
abbrev pub digit_value : ℕ → ℕ
digit_value b = cond (leb b (code "9")) (b - code "0") (cond (leb b (code "F")) (10 + (b - code "A")) (10 + (b - code "a")))

-- The number that the digits w spell in a base, after digits that spell v.
unfoldable pub spelled : (base v : ℕ) → List ℕ → ℕ
spelled base v [] = v
spelled base v (b ∷ w) = spelled base (v * base + digit_value b) w

-- Form before size: a word whose form is not right is answer 2; one of right form that is too large is answer 4; else it is `kind`.
unfoldable pub formed : (right small : Bool) → Kind → Kind
formed right small kind = cond right (cond small kind (Faulty PastLimit)) (Faulty BadWord)

-- "a numeral: `0`, or digits not starting with 0": whether bytes, of which there are some, are of this form
abbrev pub numeral_form : List ℕ → Bool
numeral_form w = all_in Digits w && (eqb (length w) 1 || not (eqb (get_or w 0 0) (code "0")))

-- "at most 9 digits (more: answer 4)"
unfoldable pub numeral : List ℕ → Kind
numeral w = formed (numeral_form w) (leb (length w) numeral_digits) (Numeral (spelled 10 0 w))

-- "`#x` with hex digits of either case, or `#b` with 0 and 1, at least one digit; over 64 bits is answer 4": w is what follows `#x` or `#b`, and
-- each digit stands for `bits` bits.
unfoldable pub literal : Class → (bits : ℕ) → List ℕ → Kind
literal class bits w =
    formed (all_in class w && not (eqb (length w) 0))
    (leb (bits * length w) literal_bits)
    (Literal (bits * length w) (spelled (2 ^ bits) 0 w))

-- "a symbol: letters, digits and .., not starting with a digit, at most 64 bytes (more: answer 4)"; `kind_of` asks this only of words that start with no digit.
unfoldable pub symbol : List ℕ → Kind
symbol w = formed (all_in SymbolBytes w) (leb (length w) symbol_bytes) Symbol

-- What a word that begins with `#` is, by what follows the `#`.
unfoldable pub hashed : List ℕ → Kind
hashed [] = Faulty BadWord
hashed (b ∷ w) =
    cond (eqb b (code "x")) (literal HexDigits 4 w)
    (cond (eqb b (code "b")) (literal BinaryDigits 1 w)
    (Faulty BadWord))

-- "The words for this leave answer 6" (E13): exactly `:weights` and `:weight` are carried keywords.
unfoldable pub keyword_form : List ℕ → Bool
keyword_form w = same_bytes (spelling ":weights") w || same_bytes (spelling ":weight") w

-- What a word that begins with `"`, `|` or `:` is: a keyword that is carried, or answer 6.
unfoldable pub marked : List ℕ → Kind
marked w = cond (keyword_form w) Keyword (Faulty NotCarried)

-- What the word w is, by its first byte: "A word that begins with `"`, `|` or `:` is answer 6", but for the keywords that are carried. "Any other is one of:" a
-- numeral, a literal, a symbol, "or else answer 2". No word is empty.
unfoldable pub kind_of : List ℕ → Kind
kind_of [] = Faulty BadWord
kind_of (b ∷ w) =
    cond (eqb b (code "(")) Open
    (cond (eqb b (code ")")) Close
    (cond (uncarried b) (marked (b ∷ w))
    (cond (digit b) (numeral (b ∷ w))
    (cond (eqb b (code "#")) (hashed w)
    (symbol (b ∷ w))))))
