use Rattle.std.proofs.Common.{◌≡◌, ℕ, List, [], ◌∷◌, ◌∙◌, eqb, refl, arith}
use Rattle.std.specs.List.{list_any}
use Rattle.std.proofs.lemmas.Bool.Decides.{nat_tests}
use Rattle.forest.specs.Lists.{among}
use Rattle.derivation.proofs.productive.has_sort.Goals as goal

turned : (a b : ℕ) → eqb a b ≡ eqb b a
turned a b = grind (arith, nat_tests)

among_any : (sort : ℕ) (l : List ℕ) → list_any (λ x. eqb x sort) l ≡ among sort l
among_any sort [] = refl
among_any sort (x ∷ more) = rw (turned x sort, among_any sort more)

pub returns : goal.returns
returns c = c.contains.ensures.value ∙ among_any c.args.sort c.args.arguments.now
