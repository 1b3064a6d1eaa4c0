-- Reserved words.
use Rattle.std.specs.Prelude.{ℕ, Bool, false, ◌||◌, List, [], ◌∷◌, ◌++◌, map}
use Prim.Native.String.{String}
use Rattle.forest.specs.Lists.{same_bytes, spelling}
use Rattle.operators.specs.Operators.{Operator, operators}

-- The commands that are carried: "`(set-logic BV)` first and once; then `declare-var`, `define-fun`, `synth-fun` with grammar, `constraint`; `(check-synth)`
-- last"; "`assume`. Carry it" (E1); "Carry `(set-feature :weights true)`" (E13).
abbrev pub carried_commands : List String
carried_commands = "set-logic" ∷ "declare-var" ∷ "define-fun" ∷ "synth-fun" ∷ "constraint" ∷ "check-synth" ∷ "assume" ∷ "set-feature" ∷ []

-- "Other 2.1 commands": the rest of document 000's section 2.9.
abbrev pub other_commands : List String
other_commands =
    "chc-constraint"
    ∷ "declare-weight"
    ∷ "inv-constraint"
    ∷ "optimize-synth"
    ∷ "oracle-assume"
    ∷ "oracle-constraint"
    ∷ "declare-oracle-fun"
    ∷ "oracle-constraint-io"
    ∷ "oracle-constraint-cex"
    ∷ "oracle-constraint-membership"
    ∷ "oracle-constraint-poswitness"
    ∷ "oracle-constraint-negwitness"
    ∷ "declare-correctness-oracle"
    ∷ "declare-correctness-cex-oracle"
    ∷ "declare-datatype"
    ∷ "declare-datatypes"
    ∷ "declare-sort"
    ∷ "define-sort"
    ∷ "set-info"
    ∷ "set-option"
    ∷ []

-- "`true`, `false`, `Bool`, `BitVec`, `_`, `!`, `let`, `exists`, `forall`, `Constant` and `Variable`"
abbrev pub other_words : List String
other_words = "true" ∷ "false" ∷ "Bool" ∷ "BitVec" ∷ "_" ∷ "!" ∷ "let" ∷ "exists" ∷ "forall" ∷ "Constant" ∷ "Variable" ∷ []

-- "Names: operators, command words of document 000, `true`, .. and `Variable` are reserved."
unfoldable pub reserved_words : List String
reserved_words = map (λ (o : Operator). o.name) operators ++ carried_commands ++ other_commands ++ other_words

-- Whether a name is the word.
abbrev pub is_word : String → (name : List ℕ) → Bool
is_word word name = same_bytes (spelling word) name

-- Whether a name is one of the words.
unfoldable pub is_one_of : List String → (name : List ℕ) → Bool
is_one_of [] name = false
is_one_of (w ∷ more) name = is_word w name || is_one_of more name

-- Whether a name is reserved.
unfoldable pub is_reserved : (name : List ℕ) → Bool
is_reserved name = is_one_of reserved_words name
