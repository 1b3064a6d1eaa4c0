-- The rows of the table of answers that speak of a text: which number stands at which place. All of them have the second number 0 but 7, where a name is taken.
-- Where a place is a word, a row says that it is one of the text's; which word it is, the definitions of its number say.
use Rattle.std.specs.Prelude.{ℕ, ◌<◌, List, ◌≡◌, length}
use Rattle.words.specs.Words.{words_of}
use Rattle.script.specs.Outcome.{offset_of}

-- A word of a text as a place: the offset of one of the text's words, which is within the text.
pub record AtWord (text : List ℕ) (place : ℕ) : Type 0 where
  pub word : ℕ
  pub known : word < length (words_of text)
  pub is : place ≡ offset_of text word
  pub within : place < length text

-- The rows that both texts have:
-- "1 | script, response or point list too long .. | its length; 0"
-- "2 | bad word | word; 0"
-- "3 | bracket closed too often / never closed | bracket / text length; 0"
-- "4 | past a limit | the word past it, for a command, rule, argument, non-terminal or node its first; 0"
-- "5, 6 | shape unknown / not carried | command's first word (its bracket); where no command holds it, or 6 is for the word itself, that word; text length if
-- the text ends early; 0"
-- "7 | name unknown, taken or reserved | name; 0", but for a name that a script takes (E8, below)
-- "8 | sort fault | first word of a faulty sort, or of a faulty term whose operands have none; 0"
pub data TextRow (text : List ℕ) : (number place : ℕ) → Type 0 where
  too_long : TextRow text 1 (length text)
  bad_word : {place : ℕ} → AtWord text place → TextRow text 2 place
  closed_too_often : {place : ℕ} → AtWord text place → TextRow text 3 place
  never_closed : TextRow text 3 (length text)
  past_limit : {place : ℕ} → AtWord text place → TextRow text 4 place
  shape_unknown : {place : ℕ} → AtWord text place → TextRow text 5 place
  ends_early : TextRow text 5 (length text)
  not_carried : {place : ℕ} → AtWord text place → TextRow text 6 place
  bad_name : {place : ℕ} → AtWord text place → TextRow text 7 place
  sort_fault : {place : ℕ} → AtWord text place → TextRow text 8 place

-- Those of a script, with their second numbers:
-- "9 | grammar fault | first word of the rule, the non-terminal's listed name (predeclared for the start's sort), or the bracket that closes a list too early;
-- 0"; "at the first of them where predeclared" (E9)
-- "answer 7 returns it as second number" (E8): the place of the declaration of a name that is taken, which stands before.
pub data ScriptRow (text : List ℕ) : (number place second : ℕ) → Type 0 where
  of_text : {number place : ℕ} → TextRow text number place → ScriptRow text number place 0
  grammar-fault : {place : ℕ} → AtWord text place → ScriptRow text 9 place 0
  name_taken : {place second : ℕ} → AtWord text place → AtWord text second → second < place → ScriptRow text 7 place second

-- Those of a response:
-- "10, 11 | response is `fail` / `infeasible` | 0; 0"
-- "12 | response header differs | its first word differing; a function missing: the outer list's last bracket; one too many: its bracket; 0"
pub data ResponseRow (text : List ℕ) : (number place : ℕ) → Type 0 where
  of_text : {number place : ℕ} → TextRow text number place → ResponseRow text number place
  fail : ResponseRow text 10 0
  infeasible : ResponseRow text 11 0
  header-differs : {place : ℕ} → AtWord text place → ResponseRow text 12 place
