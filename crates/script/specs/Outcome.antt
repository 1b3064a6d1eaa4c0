-- What is read of a script and of a response, from their bytes: the words, then the commands, each refusal by its offset.
use Rattle.std.specs.Prelude.{ℕ, zero, suc, cond, ◌||◌, List, [], ◌∷◌, eqb, length, Ok, Err}
use Rattle.words.specs.Reading.{reading_of}
use Rattle.words.specs.Words.{Word, words_of}
use Rattle.words.specs.Answers.{Reading, fault_number}
use Rattle.words.specs.Limits.{response_limits, script_limits}
use Rattle.words.specs.declared.Limits.{Limits}
use Rattle.lexemes.specs.Lists.{items_of}
use Rattle.forest.specs.Limits.{allowed}
use Rattle.script.specs.Script.{Known, Read, passed, read_all, refused, nothing_known}
use Rattle.script.specs.Response.{Answered, Body, answered, bodies, in_script_order, refused as declined}

-- The offset of word n of the words; `past`, where there are not so many.
unfoldable pub start_of : (past : ℕ) → List Word → (n : ℕ) → ℕ
start_of past [] n = past
start_of past (w ∷ ws) zero = w.start
start_of past (w ∷ ws) (suc n) = start_of past ws n

-- The offset of a word of a text: "text length if the text ends early".
abbrev pub offset_of : (text : List ℕ) → (n : ℕ) → ℕ
offset_of text n = start_of (length text) (words_of text) n

-- The offset of the word that a second number speaks of; 0 where it speaks of none.
abbrev pub second_of : (text : List ℕ) → (n : ℕ) → ℕ
second_of text n = cond (eqb n 0) 0 (offset_of text n)

-- A refusal by its number, its offset and its second number; or what the script says.
pub data ScriptOutcome : Type 0 where
  faulty : (number offset second : ℕ) → ScriptOutcome
  said : Known → ScriptOutcome

-- What the commands give.
abbrev pub by_commands : (text : List ℕ) → Read → ScriptOutcome
by_commands text (refused number place second) = faulty number (offset_of text place) (second_of text second)
by_commands text (passed k) = said k

-- What the words give, and then the commands.
abbrev pub by_words : (text : List ℕ) → Reading → ScriptOutcome
by_words text (Err refusal) = faulty (fault_number refusal.fault) refusal.place 0
by_words text (Ok n) = by_commands text (read_all allowed n nothing_known (items_of text))

-- The script: its words, then its commands.
unfoldable pub script_outcome : (text : List ℕ) → ScriptOutcome
script_outcome text = by_words text (reading_of script_limits text)

-- A refusal by its number and its offset; or the bodies.
pub data ResponseOutcome : Type 0 where
  faulty : (number offset : ℕ) → ResponseOutcome
  given : List Body → ResponseOutcome

-- What the commands of a response give; 10 and 11 have the place 0.
abbrev pub by_answers : (text : List ℕ) → Answered → ResponseOutcome
by_answers text (declined number place) = faulty number (cond (eqb number 10 || eqb number 11) 0 (offset_of text place))
by_answers text (bodies bs) = given bs

-- What the words of a response give, and then its commands.
abbrev pub by_response : Known → (text : List ℕ) → Reading → ResponseOutcome
by_response k text (Err refusal) = faulty (fault_number refusal.fault) refusal.place
by_response k text (Ok n) = by_answers text (answered allowed n k.defined (in_script_order k.functions) (items_of text))

-- The response to a script that says this, read within these limits: its words "likewise", then its commands.
unfoldable pub response_within : Limits → Known → (text : List ℕ) → ResponseOutcome
response_within limits k text = by_response k text (reading_of limits text)

-- The same within the limits of a response: "response 8,192 and 2,048".
abbrev pub response_outcome : Known → (text : List ℕ) → ResponseOutcome
response_outcome k text = response_within response_limits k text
