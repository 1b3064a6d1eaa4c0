-- What the writing of signatures asks and gives.
use Rattle.std.specs.Prelude.{ℕ, ◌+◌, ◌*◌, ◌≤◌, ◌<◌, List, [], ◌∷◌, ◌≡◌, drop, length, take}
use Rattle.std.proofs.lemmas.List.Edits.{sets}
use Rattle.forest.specs.Limits.{most_arguments, most_non_terminals}
use Rattle.operators.specs.Sorts.{max_width}
use Rattle.term_sorts.specs.code.Signatures.{SortsAre, all_rows, non_terminal_signature, signature_width}
use Rattle.names.specs.code.Lookup.{Names}
use Rattle.names.specs.code.Table.{non_terminal_row as firstNonTerminal, row_count, sorts_from}

-- A row of the table of signatures, and so many arguments from a row of the table of names on.
pub record Signing (names places : List ℕ) (row first arguments result : ℕ) : Type 0 where
  pub table : Names names
  pub fits : first + arguments ≤ row_count
  pub few : arguments ≤ most_arguments
  pub low : row < all_rows
  pub room : signature_width * all_rows ≤ length places

-- The row of a signature: how many arguments, the sort, and the sorts of the arguments.
abbrev pub signature_row : (names : List ℕ) → (first arguments result : ℕ) → List ℕ
signature_row names first arguments result = arguments ∷ result ∷ sorts_from names first arguments

-- The row is written.
abbrev pub SignedIn : (names places : List ℕ) → (row first arguments result : ℕ) → (placesAfter : List ℕ) → Type 0
SignedIn names places row first arguments result placesAfter = placesAfter ≡ sets places (signature_width * row) (signature_row names first arguments result)

-- The non-terminals stand in the table of names, so many of them.
pub record Listing (names places : List ℕ) (listed : ℕ) : Type 0 where
  pub table : Names names
  pub few : listed ≤ most_non_terminals
  pub room : signature_width * all_rows ≤ length places
  pub narrow : (k : ℕ) → k < listed → (s : ℕ) → sorts_from names (firstNonTerminal + k) 1 ≡ s ∷ [] → s ≤ max_width

-- Their sorts are written, and nothing else is changed.
pub record Listed (names places : List ℕ) (listed : ℕ) (placesAfter : List ℕ) : Type 0 where
  pub long : length placesAfter ≡ length places
  pub sorts_are : SortsAre placesAfter non_terminal_signature (sorts_from names firstNonTerminal listed)
  pub before : take (signature_width * non_terminal_signature) placesAfter ≡ take (signature_width * non_terminal_signature) places
  pub behind : drop (signature_width * all_rows) placesAfter ≡ drop (signature_width * all_rows) places
