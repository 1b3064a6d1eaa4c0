-- Whether a node of a rule and a node of the body are alike.
use Rattle.std.specs.Prelude.{Bool, ◌&&◌, ◌||◌, ℕ, List, eqb}
use Rattle.terms.specs.code.Nodes.{code_at, operands_at, value_at}
use Rattle.terms.specs.code.Codes.{literal_kind, name_kind, any_argument_kind, any_literal_kind, head_of, kind_of}

-- The code of a node of a rule is of the kind of any leaf of a sort, and the code of a node of the body of the kind of such a leaf, of that sort.
unfoldable pub leaf_fits : (whole leaf code found : ℕ) → Bool
leaf_fits whole leaf code found = eqb (kind_of code) whole && eqb (kind_of found) leaf && eqb (head_of code) (head_of found)

-- `(Constant σ)`, and a literal of that sort.
abbrev pub literal_fits : (code found : ℕ) → Bool
literal_fits code found = leaf_fits any_literal_kind literal_kind code found

-- `(Variable σ)`, and a name of that sort.
abbrev pub argument_fits : (code found : ℕ) → Bool
argument_fits code found = leaf_fits any_argument_kind name_kind code found

-- Node p of the rules, which is no non-terminal, and node j of the body have as many operands, and the same label, or the one is any leaf of the other's sort.
unfoldable pub alike : List ℕ → ℕ → List ℕ → ℕ → Bool
alike forms p body j =
    let code = code_at forms p in
    let found = code_at body j in
    let same = eqb code found && eqb (value_at forms p) (value_at body j) in
    eqb (operands_at forms p) (operands_at body j) && (same || literal_fits code found || argument_fits code found)
