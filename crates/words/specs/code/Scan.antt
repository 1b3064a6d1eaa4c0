-- What the scan of a text gives.
use Rattle.std.specs.Prelude.{ℕ, ◌≤◌, List, map, ◌≡◌, length}
use Rattle.forest.specs.Tables.{over, rows}
use Rattle.words.specs.Reading.{found_from, words_read}
use Rattle.words.specs.Answers.{Reading, passed}
use Rattle.words.specs.Table.{row, word_values}
use Rattle.words.specs.Words.{words_of}
use Rattle.words.specs.declared.Limits.{Limits}
use Rattle.words.specs.code.Rows.{unlinked}

-- What the scan of a text leaves: what it found, and the rows and the values of the words that it passed, none of them linked.
pub record Scanned (limits : Limits) (text table values : List ℕ) (r : Reading) (tableAfter valuesAfter : List ℕ) : Type 0 where
  pub found : r ≡ found_from limits (length text) (words_of text) 0 0
  pub table_is : tableAfter ≡ over (rows row (map unlinked (words_read text r))) table
  pub values_are : valuesAfter ≡ over (word_values (words_read text r)) values
  pub few : passed r ≤ limits.words
  pub counted : length (words_read text r) ≡ passed r
