-- The number of the operator that a word names, by the search for the word among the names of the operators.
use Rattle.std.proofs.Common.{◌≡◌, ℕ, ◌+◌, ◌≤◌, List, [], ◌∷◌, sym, refl, ◌∙◌}
use Rattle.forest.specs.Search.{place_in}
use Rattle.forest.specs.code.Search.{TablesOf, words_in}
use Rattle.forest.proofs.Searching.{place_bound, tables_words}
use Rattle.operators.specs.Operators.{Operator, named, operator_count, operator_of, operators}
use Rattle.operators.specs.code.Operators.{spellings}

-- The place of the row that has a name is the name's place among those bytes.
pub named_spellings : (rows : List Operator) (k : ℕ) (name : List ℕ) → named rows k name ≡ place_in (spellings rows) k name
unfolding named place_in
named_spellings [] k name = refl
named_spellings (r ∷ rows) k name = rw (named_spellings rows (k + 1) name)

-- No operator's number is past the last of them.
pub operator_bound : (name : List ℕ) {number : ℕ} → number ≡ operator_of name → number ≤ operator_count
unfolding operator_of operators
operator_bound name e = rw (e, named_spellings operators 0 name) (place_bound (spellings operators) 0 name)

-- The search through the names finds the operator.
pub operator_found : {names starts slots : List ℕ} → TablesOf (spellings operators) names starts slots → (name : List ℕ) {place : ℕ}
    → place ≡ place_in (words_in names starts) 0 name → place ≡ operator_of name
unfolding operator_of
operator_found tables name e = e ∙ rw (tables_words tables) (sym (named_spellings operators 0 name))
