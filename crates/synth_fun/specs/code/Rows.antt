-- What the writing of a synthesized function into the table of places asks and gives.
use Rattle.std.specs.Prelude.{ℕ, ◌+◌, ◌*◌, ◌≤◌, List, [], ◌∷◌, ◌≡◌, length}
use Rattle.std.proofs.lemmas.List.Edits.{sets}
use Rattle.term_sorts.specs.code.Signatures.{function_signature, signature_width}
use Rattle.names.specs.code.Table.{own_argument_row}
use Rattle.term_nodes.specs.declared.Gathered.{Gathered}
use Rattle.forest.specs.Limits.{most_functions}
use Rattle.script.specs.code.Signatures.{Signing, signature_row}
use Rattle.script.specs.code.Places.{function_width, functions_place, places_length}
use Rattle.script.specs.declared.Progress.{Progress}
use Rattle.synth_fun.specs.declared.Header.{Header}

-- The numbers of a function.
abbrev pub numbers_of : Progress → Gathered → List ℕ
numbers_of p g = p.forms ∷ g.row ∷ g.rule ∷ p.defined ∷ []

-- There is room for one function more, its signature and its numbers.
pub record Putting (names places : List ℕ) (p : Progress) (h : Header) : Type 0 where
  pub table : Signing names places (function_signature + p.functions) (own_argument_row p.functions) h.arguments h.result
  pub room : length places ≡ places_length
  pub one_more : p.functions + 1 ≤ most_functions

-- They are put there.
pub record Put (names places : List ℕ) (p : Progress) (g : Gathered) (h : Header) (placesAfter : List ℕ) : Type 0 where
  pub is : placesAfter
      ≡ sets
      (sets places (signature_width * (function_signature + p.functions)) (signature_row names (own_argument_row p.functions) h.arguments h.result))
      (functions_place + function_width * p.functions)
      (numbers_of p g)
