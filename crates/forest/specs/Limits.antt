-- "Numbers the checker holds to", each once. "The limit itself passes; one more is refused."
use Rattle.std.specs.Prelude.{ℕ, ◌*◌}

-- "Allow 65,536 bytes" (E10)
abbrev pub script_bytes : ℕ
script_bytes = 65536

-- "and 8,192 words of script" (E10), "brackets counted"
abbrev pub script_words : ℕ
script_words = 8192

-- "response 8,192"
abbrev pub response_bytes : ℕ
response_bytes = 8192

-- "and 2,048"
abbrev pub response_words : ℕ
response_words = 2048

-- "nesting 64"
abbrev pub most_nesting : ℕ
most_nesting = 64

-- "8 synthesized functions"
abbrev pub most_functions : ℕ
most_functions = 8

-- "32 `define-fun`s"
abbrev pub most_defined : ℕ
most_defined = 32

-- "16 variables"
abbrev pub most_variables : ℕ
most_variables = 16

-- "64 constraints"
abbrev pub most_constraints : ℕ
most_constraints = 64

-- "up to 32 of them" (E1): assumptions
abbrev pub most_assumptions : ℕ
most_assumptions = 32

-- "Answer 15 numbers assumptions from 64." (E1)
abbrev pub first_assumption : ℕ
first_assumption = 64

-- "8 arguments"
abbrev pub most_arguments : ℕ
most_arguments = 8

-- "16 non-terminals .. a grammar"
abbrev pub most_non_terminals : ℕ
most_non_terminals = 16

-- "128 rules a grammar"
abbrev pub most_rules : ℕ
most_rules = 128

-- "256 nodes (literals, names, applications; no head is one) a body, constraint or rule"
abbrev pub most_nodes : ℕ
most_nodes = 256

-- "1,024 point numbers"
abbrev pub most_numbers : ℕ
most_numbers = 1024

-- "Function k's list starts at 4,096·k": how many rule numbers the list of one function has room for, "so 256 × 16 entries suffice".
abbrev pub list_size : ℕ
list_size = most_nodes * most_non_terminals

-- "a lent area of exactly 32,768 16-bit numbers"
abbrev pub area_size : ℕ
area_size = most_functions * list_size

-- "every entry of the area that no list uses is 65,535".
abbrev pub unused : ℕ
unused = 65535

-- The limits on what a script says, as one record, so that a definition can be read with other numbers.
pub record Counts : Type 0 where
  pub functions : ℕ
  pub defined : ℕ
  pub variables : ℕ
  pub constraints : ℕ
  pub assumptions : ℕ
  pub arguments : ℕ
  pub non_terminals : ℕ
  pub rules : ℕ
  pub nodes : ℕ

-- Document 01's numbers, and that of E1.
abbrev pub allowed : Counts
allowed = record {
  functions = most_functions;
  defined = most_defined;
  variables = most_variables;
  constraints = most_constraints;
  assumptions = most_assumptions;
  arguments = most_arguments;
  non_terminals = most_non_terminals;
  rules = most_rules;
  nodes = most_nodes;
}
