-- What reading a text finds: its words, or the first refusal.
use Rattle.std.specs.Prelude.{ℕ, ◌+◌, ◌-◌, ◌/◌, min, cond, ◌&&◌, ◌||◌, List, [], ◌∷◌, ◌≡◌, length, take, eqb, leb, Option, None, Some, Ok, Err}
use Rattle.forest.specs.Tables.{over}
use Rattle.words.specs.Words.{Word, words_of}
use Rattle.words.specs.Table.{closes, opens, row_width, word_table, word_values}
use Rattle.words.specs.Answers.{Reading, fault_number, number_of, passed, place_of}
use Rattle.words.specs.declared.Limits.{Limits}
use Rattle.word_kinds.specs.declared.Kind.{Kind}
use Rattle.word_kinds.specs.declared.Kind.TheVariants.{Open, Close, Numeral, Literal, Symbol, Keyword, Faulty}
use Rattle.word_kinds.specs.declared.Fault.{Fault}
use Rattle.word_kinds.specs.declared.Fault.TheVariants.{TooLong, Bracket, PastLimit}

-- A word's fault by its own bytes.
abbrev pub own_fault : Kind → Option Fault
own_fault (Faulty fault) = Some fault
own_fault Open = None
own_fault Close = None
own_fault (Numeral v) = None
own_fault (Literal width v) = None
own_fault Symbol = None
own_fault Keyword = None

-- "at one offset the least number": the fault of the two that has the lesser number, where there is one.
abbrev pub lesser : Option Fault → Option Fault → Option Fault
lesser None b = b
lesser (Some a) None = Some a
lesser (Some a) (Some b) = Some (cond (leb (fault_number a) (fault_number b)) a b)

-- 3: a bracket closed too often, where `depth` lists are open before it.
abbrev pub close_fault : Kind → (depth : ℕ) → Option Fault
close_fault kind depth = cond (closes kind && eqb depth 0) (Some Bracket) None

-- 4 for word count or nesting, of word n (the first is word 0), where `depth` lists are open before it.
abbrev pub limit_fault : Limits → Kind → (n depth : ℕ) → Option Fault
limit_fault limits kind n depth = cond (leb limits.words n || opens kind && leb limits.nesting depth) (Some PastLimit) None

-- "script words (2, 3, 6, and 4 for a word's size, word count or nesting: .. at one offset the least number ..)"
unfoldable pub fault_at : Limits → Kind → (n depth : ℕ) → Option Fault
fault_at limits kind n depth = lesser (own_fault kind) (lesser (close_fault kind depth) (limit_fault limits kind n depth))

-- How many lists are open after a word.
unfoldable pub depth_after : Kind → (depth : ℕ) → ℕ
depth_after kind depth = cond (opens kind) (depth + 1) (cond (closes kind) (depth - 1) depth)

-- A text is refused at a place, after n words.
abbrev pub refused : Fault → (place n : ℕ) → Reading
refused fault place n = Err (record { fault = fault; place = place; passed = n })

-- What is found of word n, which starts at `place`: its fault where it has one, and else what is found later.
abbrev pub found_there : Option Fault → (place n : ℕ) → (later : Reading) → Reading
found_there (Some fault) place n later = refused fault place n
found_there None place n later = later

-- At the end of a text of `size` bytes and n words: all is well, or a bracket is never closed; "length of text last".
abbrev pub found_at_end : (size n depth : ℕ) → Reading
found_at_end size n depth = cond (eqb depth 0) (Ok n) (refused Bracket size n)

-- What is found from word n on, where `depth` lists are open before it, in a text of `size` bytes: "least offset".
unfoldable pub found_from : Limits → (size : ℕ) → List Word → (n depth : ℕ) → Reading
found_from limits size [] n depth = found_at_end size n depth
found_from limits size (w ∷ more) n depth =
    found_there (fault_at limits w.kind n depth) w.start n (found_from limits size more (n + 1) (depth_after w.kind depth))

-- What is found in one text, "Order: 1 (..); script words (..)". Of two texts, the lengths of both come before the words of either: the checker sees to that.
unfoldable pub reading_of : Limits → List ℕ → Reading
reading_of limits text = cond (leb (length text) limits.bytes) (found_from limits (length text) (words_of text) 0 0) (refused TooLong (length text) 0)

-- The words that a reading passed.
unfoldable pub words_read : List ℕ → Reading → List Word
words_read text r = take (passed r) (words_of text)

-- The limits of a caller who lends so many rows and values: the first word without room is past a limit (4). The checker lends room for all of its limits.
abbrev pub room_for : Limits → (rows values : ℕ) → Limits
room_for limits rows values = record { bytes = limits.bytes; words = min limits.words (min rows values); nesting = limits.nesting }

-- What reading a text leaves: what it found, the rows and the values of the words that it passed at the front of what was lent, and the rest as it was lent.
pub record ReadWords (limits : Limits) (text table values : List ℕ) (r : Reading) (tableAfter valuesAfter : List ℕ) : Type 0 where
  pub found : r ≡ reading_of (room_for limits (length table / row_width) (length values)) text
  pub table_is : tableAfter ≡ over (word_table (words_read text r)) table
  pub values_are : valuesAfter ≡ over (word_values (words_read text r)) values

-- The same for a caller from C, who gets the answer's number, its place and how many words were passed apart.
pub record WordsForC (limits : Limits) (text table values : List ℕ) (number place count : ℕ) (tableAfter valuesAfter : List ℕ) : Type 0 where
  pub reading : Reading
  pub read : ReadWords limits text table values reading tableAfter valuesAfter
  pub number_is : number ≡ number_of reading
  pub place_is : place ≡ place_of reading
  pub count_is : count ≡ passed reading
