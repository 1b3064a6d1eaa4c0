-- What rules and terms keep to where they stand in tables.
use Rattle.forest.specs.Limits.{most_non_terminals, most_rules}
use Rattle.std.specs.Prelude.{◌≡◌, ℕ, ◌<◌, ◌≤◌, List, length}
use Rattle.operators.specs.Sorts.{Fit}
use Rattle.forest.specs.Forest.{Forest, count, none, tree}
use Rattle.terms.specs.Labels.{Label, Terms, defined, function, literal, name, operator}
use Rattle.terms.specs.code.Nodes.{Plain}
use Rattle.derivation.specs.Derivation.{Item, Argument, Grammar, head_of, form_of, weight_of, most_weight, the, non_terminal, any_literal, any_argument}

-- Non-terminals are below k, and neither they nor `(Constant σ)` and `(Variable σ)` have operands; labels are told by their numbers.
unfoldable pub Proper : ℕ → Forest Item → Type 0
Proper k none = Unit {0}
Proper k (tree (the l) ps qs) = Plain l × Proper k ps × Proper k qs
Proper k (tree (non_terminal A) ps qs) = (A < k) × (ps ≡ none) × Proper k qs
Proper k (tree (any_literal s) ps qs) = (ps ≡ none) × Proper k qs
Proper k (tree (any_argument s) ps qs) = (ps ≡ none) × Proper k qs

-- A literal is a value of its sort, and a name an argument of the function, of its sort.
abbrev pub LeafFits : (arguments : List ℕ) → Label → Type 0
LeafFits arguments (literal s v) = Fit s v
LeafFits arguments (name s k) = Argument arguments s k
LeafFits arguments (operator o i j) = Unit {0}
LeafFits arguments (defined k) = Unit {0}
LeafFits arguments (function k) = Unit {0}

-- Each literal and each name of the terms is such.
unfoldable pub LeavesFit : (arguments : List ℕ) → Terms → Type 0
LeavesFit arguments none = Unit {0}
LeavesFit arguments (tree l ops rest) = LeafFits arguments l × LeavesFit arguments ops × LeavesFit arguments rest

-- The rules that document 01 admits: "16 non-terminals and 128 rules a grammar", each right side one term; and weights "to 65,535" (E13).
pub record Admitted (G : Grammar) : Type 0 where
  pub few : length G.rules ≤ most_rules
  pub low : (r : ℕ) → r < length G.rules → head_of G.rules r < most_non_terminals
  pub proper : (r : ℕ) → r < length G.rules → Proper most_non_terminals (form_of G.rules r)
  pub single : (r : ℕ) → r < length G.rules → count (form_of G.rules r) ≡ 1
  pub light : (r : ℕ) → r < length G.rules → weight_of G.rules r ≤ most_weight
