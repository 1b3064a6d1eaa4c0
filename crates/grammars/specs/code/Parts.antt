-- Where the parts of a `synth-fun` stand.
use Rattle.std.specs.Prelude.{ℕ, ◌+◌, List}
use Rattle.lexemes.specs.code.Table.{next_at}

-- The word of the function's sort, in the `synth-fun` at word i.
abbrev pub result_word : (lexemes : List ℕ) → (i : ℕ) → ℕ
result_word lexemes i = next_at lexemes (next_at lexemes (i + 2))

-- The word of the list that declares its non-terminals.
abbrev pub non_terminals_word : (lexemes : List ℕ) → (i : ℕ) → ℕ
non_terminals_word lexemes i = next_at lexemes (result_word lexemes i)

-- The word of the list that has each non-terminal again, with its rules.
abbrev pub groups_word : (lexemes : List ℕ) → (i : ℕ) → ℕ
groups_word lexemes i = next_at lexemes (non_terminals_word lexemes i)
