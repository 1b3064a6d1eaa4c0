-- The fault that a word has by its own bytes: it is a bad word, past a limit or not carried.
use Prim.Native.Nat.{ℕ}
use Prim.Native.Char.{code}
use mathlib.Core.Bool.{Bool, true, false, cond}
use mathlib.Core.List.{List, [], ◌∷◌}
use lib.Dec.{eqb}
use Rattle.word_kinds.specs.Bytes.{digit, uncarried}
use Rattle.word_kinds.specs.Kinds.{formed, hashed, keyword_form, kind_of, literal, marked, numeral, symbol}
use Rattle.word_kinds.specs.declared.Class.{Class}
use Rattle.word_kinds.specs.declared.Class.TheVariants.{BinaryDigits, HexDigits}
use Rattle.word_kinds.specs.declared.Fault.{Fault}
use Rattle.word_kinds.specs.declared.Fault.TheVariants.{BadWord, PastLimit, NotCarried}
use Rattle.word_kinds.specs.declared.Kind.{Kind}
use Rattle.word_kinds.specs.declared.Kind.TheVariants.{Open, Close, Numeral, Literal, Symbol, Keyword, Faulty}

-- A fault that a word has by its own bytes.
pub data OwnFault : Fault → Type 0 where
  bad_word : OwnFault BadWord
  past_limit : OwnFault PastLimit
  not_carried : OwnFault NotCarried

-- A kind that is faulty only in these ways.
pub data OwnKind : Kind → Type 0 where
  opens : OwnKind Open
  closes : OwnKind Close
  a_numeral : {v : ℕ} → OwnKind (Numeral v)
  a_literal : {width v : ℕ} → OwnKind (Literal width v)
  a_symbol : OwnKind Symbol
  a_keyword : OwnKind Keyword
  faulty : {fault : Fault} → OwnFault fault → OwnKind (Faulty fault)

-- By the one or the other.
either : (t : Bool) {a b : Kind} → OwnKind a → OwnKind b → OwnKind (cond t a b)
either true x y = x
either false x y = y

-- A form, and then its size.
formed_own : (right small : Bool) {kind : Kind} → OwnKind kind → OwnKind (formed right small kind)
unfolding formed
formed_own right small x = either right (either small x (faulty past_limit)) (faulty bad_word)

-- What follows `#x` or `#b`.
literal_own : (class : Class) (bits : ℕ) (bytes : List ℕ) → OwnKind (literal class bits bytes)
unfolding literal
literal_own class bits bytes = formed_own _ _ a_literal

-- What follows `#`.
hashed_own : (bytes : List ℕ) → OwnKind (hashed bytes)
unfolding hashed
hashed_own [] = faulty bad_word
hashed_own (b ∷ w) = either (eqb b (code "x")) (literal_own HexDigits 4 w) (either (eqb b (code "b")) (literal_own BinaryDigits 1 w) (faulty bad_word))

-- Every word.
pub kind_own : (bytes : List ℕ) → OwnKind (kind_of bytes)
unfolding kind_of marked numeral symbol
kind_own [] = faulty bad_word
kind_own (b ∷ w) =
    either (eqb b (code "(")) opens
    (either (eqb b (code ")")) closes
    (either (uncarried b) (either (keyword_form (b ∷ w)) a_keyword (faulty not_carried))
    (either (digit b) (formed_own _ _ a_numeral)
    (either (eqb b (code "#")) (hashed_own w)
    (formed_own _ _ a_symbol)))))
