-- What is found in a text, by the numbers of the table of answers.
use Rattle.std.specs.Prelude.{ℕ, Result, Ok, Err}
use Rattle.word_kinds.specs.declared.Fault.{Fault}
use Rattle.word_kinds.specs.declared.Fault.TheVariants.{TooLong, BadWord, Bracket, PastLimit, NotCarried}
use Rattle.words.specs.declared.Refusal.{Refusal}

-- What reading a text finds: how many words there are, or the refusal.
abbrev pub Reading : Type 0
Reading = Result ℕ Refusal

-- The number of a fault in the table of answers: 1 "script, response or point list too long ..", 2 "bad word", 3 "bracket closed too often / never closed",
-- 4 "past a limit", 6 "not carried".
abbrev pub fault_number : Fault → ℕ
fault_number TooLong = 1
fault_number BadWord = 2
fault_number Bracket = 3
fault_number PastLimit = 4
fault_number NotCarried = 6

-- The answer's number: the fault's, or 0 where the whole text was read.
abbrev pub number_of : Reading → ℕ
number_of (Ok n) = 0
number_of (Err refusal) = fault_number refusal.fault

-- The answer's place: the refused word, or the text's length; 0 where the whole text was read.
abbrev pub place_of : Reading → ℕ
place_of (Ok n) = 0
place_of (Err refusal) = refusal.place

-- How many words were passed: all of them, those before the refused word, or none where the text is too long.
abbrev pub passed : Reading → ℕ
passed (Ok n) = n
passed (Err refusal) = refusal.passed
