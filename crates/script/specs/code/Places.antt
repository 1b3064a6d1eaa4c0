-- The table of places, and which number stands where in it: the signatures in front, then where each body, constraint and assumption begins, the numbers of
-- each synthesized function, and its rules.
use Rattle.std.specs.Prelude.{ℕ, ◌+◌, ◌*◌, List, drop, get_or, take}
use Rattle.forest.specs.Limits.{first_assumption, most_assumptions, most_defined, most_functions, most_rules}
use Rattle.derivation.specs.code.Rules.{rule_width}
use Rattle.term_sorts.specs.code.Signatures.{all_rows, function_signature, signature_width}

-- Where the numbers of bodies begin, behind the rows of signatures; those of `define-fun`s stand first.
abbrev pub bodies_place : ℕ
bodies_place = signature_width * all_rows

-- Where those of synthesized functions begin.
abbrev pub function_bodies_place : ℕ
function_bodies_place = bodies_place + most_defined

-- Where those of constraints begin, and behind them, as answer 15 numbers them, those of assumptions.
abbrev pub constraints_place : ℕ
constraints_place = function_bodies_place + most_functions

-- How many constraints and assumptions have a place.
abbrev pub stated_count : ℕ
stated_count = first_assumption + most_assumptions

-- Where the numbers of synthesized functions begin.
abbrev pub functions_place : ℕ
functions_place = constraints_place + stated_count

-- How many numbers a synthesized function has: the row at which its forms begin, how many rows they take, how many rules it has, and how many `define-fun`s
-- stand before it.
abbrev pub function_width : ℕ
function_width = 4

-- How many numbers the rules of one function take.
abbrev pub rules_width : ℕ
rules_width = rule_width * most_rules

-- Where the rules of synthesized function j begin, behind the numbers of functions.
abbrev pub rules_place : (j : ℕ) → ℕ
rules_place j = function_width * most_functions + rules_width * j

-- Where the offsets of the first words of the bodies of synthesized functions begin, behind their rules.
abbrev pub offsets_place : ℕ
offsets_place = functions_place + rules_place most_functions

-- How many numbers the table of places has.
abbrev pub places_length : ℕ
places_length = offsets_place + most_functions

-- How many arguments synthesized function j has.
abbrev pub arguments_in : (places : List ℕ) → (j : ℕ) → ℕ
arguments_in places j = get_or places (signature_width * (function_signature + j)) 0

-- Its sort.
abbrev pub result_in : (places : List ℕ) → (j : ℕ) → ℕ
result_in places j = get_or places (signature_width * (function_signature + j) + 1) 0

-- The node at which its body begins.
abbrev pub body_in : (places : List ℕ) → (j : ℕ) → ℕ
body_in places j = get_or places (function_bodies_place + j) 0

-- The row at which its forms begin.
abbrev pub forms_in : (places : List ℕ) → (j : ℕ) → ℕ
forms_in places j = get_or places (functions_place + function_width * j) 0

-- How many rows they take.
abbrev pub form_rows_in : (places : List ℕ) → (j : ℕ) → ℕ
form_rows_in places j = get_or places (functions_place + function_width * j + 1) 0

-- How many rules it has.
abbrev pub rule_count_in : (places : List ℕ) → (j : ℕ) → ℕ
rule_count_in places j = get_or places (functions_place + function_width * j + 2) 0

-- How many `define-fun`s stand before it.
abbrev pub before_in : (places : List ℕ) → (j : ℕ) → ℕ
before_in places j = get_or places (functions_place + function_width * j + 3) 0

-- The offset of the first word of its body.
abbrev pub offset_in : (places : List ℕ) → (j : ℕ) → ℕ
offset_in places j = get_or places (offsets_place + j) 0

-- Where its rules begin in the whole table.
abbrev pub own_rules : (j : ℕ) → ℕ
own_rules j = functions_place + rules_place j

-- Its rules.
abbrev pub rules_of : (places : List ℕ) → (j : ℕ) → List ℕ
rules_of places j = take (rule_width * rule_count_in places j) (drop (own_rules j) places)

-- The sorts of its arguments.
abbrev pub sorts_of : (places : List ℕ) → (j : ℕ) → List ℕ
sorts_of places j = take (arguments_in places j) (drop (signature_width * (function_signature + j) + 2) places)

-- The nodes at which constraints and assumptions begin.
abbrev pub stated_of : (places : List ℕ) → List ℕ
stated_of places = take stated_count (drop constraints_place places)
