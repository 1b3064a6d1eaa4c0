-- The words of a text, and the enquiry.
use Rattle.std.specs.Prelude.{ℕ, ◌-◌, cond, List, [], map, take, drop}
use Rattle.forest.specs.Lists.{among}
use Rattle.words.specs.Spans.{word_end, word_starts}
use Rattle.word_kinds.specs.Kinds.{kind_of}
use Rattle.word_kinds.specs.declared.Kind.{Kind}

-- A word: what it is, its offset, and the offset past it.
pub record Word : Type 0 where
  pub kind : Kind
  pub start : ℕ
  pub end : ℕ

-- The bytes of the word that starts at offset a.
unfoldable pub bytes_at : List ℕ → ℕ → List ℕ
bytes_at text a = take (word_end text a - a) (drop a text)

-- The word that starts at offset a.
unfoldable pub word_at : List ℕ → ℕ → Word
word_at text a = record { kind = kind_of (bytes_at text a); start = a; end = word_end text a }

-- The words of a text, in its order.
unfoldable pub words_of : List ℕ → List Word
words_of text = map (word_at text) (word_starts text)

-- "An enquiry takes a text and an offset and gives the refused word itself, as the part of the text where it stands; an empty part if no word starts there."
unfoldable pub enquired : List ℕ → ℕ → List ℕ
enquired text a = cond (among a (word_starts text)) (bytes_at text a) []
