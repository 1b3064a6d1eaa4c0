-- The numbers of the answers, as `answers.rt` names them; those of words are theirs.
use Rattle.std.specs.Prelude.{ℕ}
use Rattle.word_kinds.specs.declared.Fault.TheVariants.{NotCarried, PastLimit, TooLong}
use Rattle.words.specs.Answers.{fault_number}

-- A text or the list of points is too long, or a lent area is not of its size.
abbrev pub long_answer : ℕ
long_answer = fault_number TooLong

-- Past a limit.
abbrev pub limit_answer : ℕ
limit_answer = fault_number PastLimit

-- The shape is unknown.
abbrev pub shape_answer : ℕ
shape_answer = 5

-- Not carried.
abbrev pub uncarried_answer : ℕ
uncarried_answer = fault_number NotCarried

-- A name is unknown, taken or reserved.
abbrev pub name_answer : ℕ
name_answer = 7

-- A sort fault.
abbrev pub sort_answer : ℕ
sort_answer = 8

-- A grammar fault.
abbrev pub grammar_answer : ℕ
grammar_answer = 9

-- The response is `fail`.
abbrev pub fail_answer : ℕ
fail_answer = 10

-- The response is `infeasible`.
abbrev pub infeasible_answer : ℕ
infeasible_answer = 11

-- A header of the response differs.
abbrev pub header_answer : ℕ
header_answer = 12

-- No derivation.
abbrev pub underived_answer : ℕ
underived_answer = 13

-- The list of points is not whole points, or has a value outside its sort.
abbrev pub points_answer : ℕ
points_answer = 16
