-- What laws say of forms: which derive the first trees of a forest, and which begin with no non-terminal.
use Rattle.std.specs.Prelude.{◌≡◌, ℕ, List}
use Rattle.forest.specs.Forest.{Forest, none, tree, count}
use Rattle.forest.specs.code.Cursors.{first}
use Rattle.terms.specs.Labels.{Terms}
use Rattle.derivation.specs.Derivation.{Item, non_terminal, Grammar, Derives}

-- A derives the first tree of F.
unfoldable pub DerivesAt : Grammar → ℕ → Terms → Type 0
DerivesAt G A none = ⊥
DerivesAt G A (tree s ts us) = (ds : List ℕ) × Derives G (tree (non_terminal A) none none) (tree s ts none) ds

-- P derives the first trees of F, as many as P has.
unfoldable pub Fits : Grammar → Forest Item → Terms → Type 0
Fits G P F = (ds : List ℕ) × Derives G P (first (count P) F) ds

-- The form does not begin with a non-terminal: its rule is no chain rule.
abbrev pub NoChain : Forest Item → Type 0
NoChain P = (A : ℕ) (ps qs : Forest Item) → P ≡ tree (non_terminal A) ps qs → ⊥
