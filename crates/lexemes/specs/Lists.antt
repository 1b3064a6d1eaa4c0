-- Words and lists within a list: short names for what the forms of commands ask.
use Rattle.std.specs.Prelude.{ℕ, zero, suc, Bool, true, false, ◌&&◌, List, [], eqb, length}
use Prim.Native.String.{String}
use Rattle.forest.specs.Forest.{Forest, count, none, tree}
use Rattle.word_kinds.specs.Decimals.{is_decimal}
use Rattle.words.specs.Trees.{Lexeme, keyword, list, literal, numeral, symbol, trees_from}
use Rattle.lexemes.specs.Reserved.{is_one_of, is_word}
use Rattle.words.specs.Words.{words_of}

-- Words and lists one after the other; a list holds such items.
abbrev pub Items : Type 0
Items = Forest Lexeme

-- Item n, from 0; where there is none, a numeral 0 that stands for nothing: forms ask how many items there are.
unfoldable pub item : ℕ → Items → Lexeme
item n none = numeral 0 0
item zero (tree l ops more) = l
item (suc n) (tree l ops more) = item n more

-- What the list that is item n holds.
unfoldable pub inside : ℕ → Items → Items
inside n none = none
inside zero (tree l ops more) = ops
inside (suc n) (tree l ops more) = inside n more

-- The items from item n on.
unfoldable pub after : ℕ → Items → Items
after zero items = items
after (suc n) none = none
after (suc n) (tree l ops more) = after n more

-- Whether an item is a symbol.
abbrev pub is_symbol : Lexeme → Bool
is_symbol (symbol at name) = true
is_symbol (list at close) = false
is_symbol (numeral at v) = false
is_symbol (keyword at name) = false
is_symbol (literal at width v written) = false

-- Whether an item is a numeral.
abbrev pub is_numeral : Lexeme → Bool
is_numeral (numeral at v) = true
is_numeral (list at close) = false
is_numeral (symbol at name) = false
is_numeral (keyword at name) = false
is_numeral (literal at width v written) = false

-- Whether an item is a list.
abbrev pub is_list : Lexeme → Bool
is_list (list at close) = true
is_list (symbol at name) = false
is_list (numeral at v) = false
is_list (keyword at name) = false
is_list (literal at width v written) = false

-- Whether an item is a keyword.
abbrev pub is_keyword : Lexeme → Bool
is_keyword (keyword at name) = true
is_keyword (list at close) = false
is_keyword (symbol at name) = false
is_keyword (numeral at v) = false
is_keyword (literal at width v written) = false

-- The bytes of a symbol, none of another item.
abbrev pub name_of : Lexeme → List ℕ
name_of (symbol at name) = name
name_of (list at close) = []
name_of (numeral at v) = []
name_of (keyword at name) = []
name_of (literal at width v written) = []

-- The bytes of a keyword, none of another item.
abbrev pub keyword_of : Lexeme → List ℕ
keyword_of (keyword at name) = name
keyword_of (list at close) = []
keyword_of (symbol at name) = []
keyword_of (numeral at v) = []
keyword_of (literal at width v written) = []

-- The value of a numeral, 0 of another item.
abbrev pub numeral_of : Lexeme → ℕ
numeral_of (numeral at v) = v
numeral_of (list at close) = 0
numeral_of (symbol at name) = 0
numeral_of (keyword at name) = 0
numeral_of (literal at width v written) = 0

-- The bracket that closes a list; another item is closed by itself.
abbrev pub close_of : Lexeme → ℕ
close_of (list at close) = close
close_of (symbol at name) = at
close_of (numeral at v) = at
close_of (keyword at name) = at
close_of (literal at width v written) = at

-- Whether an item is the word.
abbrev pub is : String → Lexeme → Bool
is word l = is_word word (name_of l)

-- Whether an item is the keyword.
abbrev pub is_key : String → Lexeme → Bool
is_key word l = is_word word (keyword_of l)

-- Whether an item is one of the words.
abbrev pub is_among : List String → Lexeme → Bool
is_among words l = is_one_of words (name_of l)

-- Whether all of the items are numerals.
unfoldable pub all_numerals : Items → Bool
all_numerals none = true
all_numerals (tree l ops more) = is_numeral l && all_numerals more

-- Whether items are `_`, a word that passes the test, and n numerals.
abbrev pub indexed_by : (test : Lexeme → Bool) → (n : ℕ) → Items → Bool
indexed_by test n items = is "_" (item 0 items) && test (item 1 items) && eqb (count (after 2 items)) n && all_numerals (after 2 items)

-- Whether items are `_`, the word, and n numerals: "`(_ BitVec n)`", "`(_ extract i j)`".
abbrev pub indexed : String → (n : ℕ) → Items → Bool
indexed word n items = indexed_by (is word) n items

-- Whether an item is the word `bvN` of a constant.
abbrev pub is_constant_word : Lexeme → Bool
is_constant_word l = is_decimal (name_of l)

-- Whether items are `_`, such a word, and a numeral: "Carry `(_ bv15 8)` too" (E3).
abbrev pub is_constant : Items → Bool
is_constant items = indexed_by is_constant_word 1 items

-- The items of a text: its words in their lists.
unfoldable pub items_of : (text : List ℕ) → Items
items_of text = trees_from text (length (words_of text)) (words_of text) 0
