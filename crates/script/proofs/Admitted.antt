-- A grammar without a fault in its sorts and in what it lists is one that document 01 admits.
use Prim.Native.Nat.{ℕ, zero, suc, ◌≤◌, ◌<◌}
use native.Mathlib.Omega.{arith}
use mathlib.Core.List.{List, [], ◌∷◌}
use mathlib.Core.Option.{some}
use mathlib.Core.Path.{◌≡◌}
use lib.ListN.{get_or, length, length-map}
use Rattle.forest.specs.Forest.{Forest, join, none, tree}
use Rattle.forest.specs.Limits.{most_nodes, most_non_terminals, most_rules}
use Rattle.derivation.specs.Derivation.{Grammar, Item, any_argument, any_literal, form_of, head_of, most_weight, non_terminal, the, weight_of}
use Rattle.derivation.specs.Sorts.{FormScope, form_sorts}
use Rattle.derivation.specs.code.Admitted.{Admitted}
use Rattle.derivation.specs.code.Productive.{ConstantsFit}
use Rattle.term_sorts.specs.code.Signatures.{Every, Narrow}
use Rattle.lexemes.specs.Lists.{Items, inside}
use Rattle.names.specs.Scopes.{Named, View, forms_of, named_sorts}
use Rattle.operators.specs.Sorts.{max_width}
use Rattle.term_nodes.specs.Rules.{Ruled, nodes_past, rules_in, sides}
use Rattle.term_faults.specs.Faults.{scope_of}
use Rattle.term_faults.specs.code.Bodies.{NarrowNode}
use Rattle.term_faults.proofs.Narrow.{forms_narrow}
use Rattle.grammars.specs.Grammars.{grammar_in, listed_misfit}
use Rattle.script.proofs.Limited.{said_bounded, said_light}
use Rattle.script.proofs.Proper.{AllBounded, sorted_proper, sorts_counted}
use Rattle.script.proofs.RuleWeights.{rules_light}
use Rattle.script.proofs.Rules.{AllPlaced, groups_placed, heads_below, listed, rules_sorted, said}
use Rattle.script.proofs.WordsBelow.{Below, inside_below, item_below}

-- A grammar within its limits, whose rules have the sorts of their non-terminals, is admitted.
pub sorted_admitted : (scope : FormScope) (G : Grammar) → length G.rules ≤ most_rules → length scope.non_terminals ≤ most_non_terminals
    → ((r : ℕ) → r < length G.rules → head_of G.rules r < length scope.non_terminals)
    → ((r : ℕ) → r < length G.rules → AllBounded (form_of G.rules r))
    → ((r : ℕ) → r < length G.rules
    → form_sorts scope (form_of G.rules r) ≡ some (get_or scope.non_terminals (head_of G.rules r) 0 ∷ []))
    → ((r : ℕ) → r < length G.rules → weight_of G.rules r ≤ most_weight)
    → Admitted G
sorted_admitted scope G rules few heads sides sorted light = record {
  few = rules;
  low = λ r h. omega (arith, heads r h);
  proper = λ r h. sorted_proper scope most_non_terminals few (form_of G.rules r) (sorted r h) (sides r h);
  single = λ r h. sorts_counted scope (form_of G.rules r) (sorted r h);
  light = light;
}

module _ {nowhere : ℕ} (view : View) (c : Items) (some_word : 0 < nowhere) (below : Below nowhere c) (fits : nowhere ≤ listed_misfit nowhere view c) where
  -- Each of its rules is one of a non-terminal that it declares.
  rules_placed : AllPlaced nowhere (length view.non_terminals) (rules_in 0 (inside 5 c))
  rules_placed =
      let in-groups = inside_below nowhere 5 c below in
      let many = listed (item_below some_word 5 c below).last view.non_terminals (inside 5 c) in-groups (omega (arith, fits)) in
      groups_placed 0 (inside 5 c) (omega arith) in-groups

  pub heads_declared : (r : ℕ) → r < length (grammar_in view c).rules → head_of (grammar_in view c).rules r < length view.non_terminals
  heads_declared = heads_below view rules_placed

  -- It is admitted where it is within its limits.
  pub grammar_admitted : length (rules_in 0 (inside 5 c)) ≤ most_rules → nowhere ≤ nodes_past nowhere most_nodes (rules_in 0 (inside 5 c))
      → length view.non_terminals ≤ most_non_terminals → Admitted (grammar_in view c)
  grammar_admitted rules light few =
      let long = length-map view.non_terminals (λ (n : Named). n.sort) in
      sorted_admitted (scope_of view) (grammar_in view c) (rw length-map rules) (omega arith) (λ r h. omega (arith, heads_declared r h))
      (said_bounded view (rules_in 0 (inside 5 c))) (rules_sorted view rules_placed (omega (arith, fits)))
      (said_light view (rules_light most_nodes rules_placed light))

-- `(Constant σ)` of sorts at most 64 wide are of sorts that there are.
constants_fit : (F : Forest Item) → Every Narrow F → ConstantsFit F
unfolding ConstantsFit Every
constants_fit none h = tt
constants_fit (tree (the l) ops more) h = (constants_fit ops h.1, constants_fit more h.2)
constants_fit (tree (non_terminal A) ops more) h = (constants_fit ops h.1, constants_fit more h.2)
constants_fit (tree (any_literal s) ops more) h = (h.0, constants_fit ops h.1, constants_fit more h.2)
constants_fit (tree (any_argument s) ops more) h = (constants_fit ops h.1, constants_fit more h.2)

-- What holds of every node of forms one after the other holds of those of each.
every_parts : {A : Type 0} (holds : A → Type 0) (a b : Forest A) → Every holds (join a b) → Every holds a × Every holds b
unfolding Every join
every_parts holds none b h = (tt, h)
every_parts holds (tree i ops rest) b h = let later = every_parts holds rest b h.2 in ((h.0, h.1, later.0), later.1)

-- Those of the rules that are said are.
pub said_fit : (view : View) → ((k : ℕ) → get_or (named_sorts view.names) k 0 ≤ max_width) → (rs : List Ruled) → Every NarrowNode (sides rs)
    → (r : ℕ) → r < length (said view rs) → ConstantsFit (form_of (said view rs) r)
unfolding form_of sides
said_fit view narrow [] h r low = absurd (omega arith)
said_fit view narrow (x ∷ more) h zero low =
    constants_fit (forms_of view x.side) (forms_narrow view narrow x.side (every_parts NarrowNode x.side (sides more) h).0)
said_fit view narrow (x ∷ more) h (suc r) low = said_fit view narrow more (every_parts NarrowNode x.side (sides more) h).1 r (omega arith)
