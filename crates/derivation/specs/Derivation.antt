-- Grammars, and which rules derive which terms.
use Rattle.std.specs.Prelude.{◌≡◌, ℕ, zero, suc, ◌<◌, List, [], ◌∷◌, ◌++◌, get_or, length}
use Rattle.operators.specs.Sorts.{Fit}
use Rattle.forest.specs.Forest.{Forest, none, tree}
use Rattle.terms.specs.Labels.{Label, Terms, literal, name}

-- What stands at a node of a rule. "A rule is `(Constant σ)`, `(Variable σ)` or a binder-free term", in which non-terminals stand.
pub data Item : Type 0 where
  -- a label of a term
  the : (label : Label) → Item
  -- a non-terminal, by its place in the grammar
  non_terminal : (A : ℕ) → Item
  -- `(Constant σ)`
  any_literal : (sort : ℕ) → Item
  -- `(Variable σ)`
  any_argument : (sort : ℕ) → Item

-- "Apart from literals, derivations still compare terms as written" (E3): two labels are the same, and a literal's label is its width and value.
abbrev pub SameLabel : Label → Label → Type 0
SameLabel l m = l ≡ m

-- Argument k of a function whose arguments have these sorts, in their order: there is one, and its sort is s.
pub record Argument (arguments : List ℕ) (s k : ℕ) : Type 0 where
  pub declared : k < length arguments
  pub sort : get_or arguments k 0 ≡ s

-- "`(Constant σ)` derives any literal of sort σ; `(Variable σ)` any argument of that function of sort σ."
pub data AnyLeaf (arguments : List ℕ) : Item → Label → Type 0 where
  constant : {s v : ℕ} → Fit s v → AnyLeaf arguments (any_literal s) (literal s v)
  variable : {s k : ℕ} → Argument arguments s k → AnyLeaf arguments (any_argument s) (name s k)

-- The most that a rule may weigh: "k to 65,535" (E13).
abbrev pub most_weight : ℕ
most_weight = 65535

-- A rule of the non-terminal A, and what it weighs (E13).
pub data Rule : Type 0 where
  rule : (A weight : ℕ) → (form : Forest Item) → Rule

-- The grammar of a function: the sorts of the function's arguments, in their order, and the rules.
pub record Grammar : Type 0 where
  pub arguments : List ℕ
  pub rules : List Rule

-- The non-terminal of rule r: "Rules are numbered from 0 through the whole grammar."
unfoldable pub head_of : List Rule → ℕ → ℕ
head_of [] r = 0
head_of (rule A weight form ∷ more) zero = A
head_of (rule A weight form ∷ more) (suc r) = head_of more r

-- The right side of rule r.
unfoldable pub form_of : List Rule → ℕ → Forest Item
form_of [] r = none
form_of (rule A weight form ∷ more) zero = form
form_of (rule A weight form ∷ more) (suc r) = form_of more r

-- The weight of rule r.
unfoldable pub weight_of : List Rule → ℕ → ℕ
weight_of [] r = 0
weight_of (rule A weight form ∷ more) zero = weight
weight_of (rule A weight form ∷ more) (suc r) = weight_of more r

-- The forms P derive the terms T, tree by tree, by the rules ds, leftmost first. "A non-terminal derives a term if one of its rules does: a term rule when the
-- term equals the rule with each non-terminal replaced, place by place, by a term it derives .. The definition doesn't bound a derivation's length."
pub data Derives (G : Grammar) : Forest Item → Terms → List ℕ → Type 0 where
  done : Derives G none none []
  use-rule : {A : ℕ} {ps : Forest Item} {l : Label} {ts us : Terms} {ds es : List ℕ} (r : ℕ) → r < length G.rules → head_of G.rules r ≡ A
      → Derives G (form_of G.rules r) (tree l ts none) ds → Derives G ps us es
      → Derives G (tree (non_terminal A) none ps) (tree l ts us) (r ∷ (ds ++ es))
  leaf : {i : Item} {l : Label} {ps : Forest Item} {us : Terms} {es : List ℕ} → AnyLeaf G.arguments i l
      → Derives G ps us es → Derives G (tree i none ps) (tree l none us) es
  same : {l m : Label} {ps qs : Forest Item} {ts us : Terms} {ds es : List ℕ} → SameLabel l m
      → Derives G ps ts ds → Derives G qs us es
      → Derives G (tree (the l) ps qs) (tree m ts us) (ds ++ es)

-- A is none of the list.
unfoldable pub Fresh : ℕ → List ℕ → Type 0
Fresh A [] = Unit {0}
Fresh A (B ∷ bs) = (A ≡ B → ⊥) × Fresh A bs

-- The same, where "No non-terminal is used twice at the same place of the body": those of `seen` were used at the place of the first tree.
pub data Simple (G : Grammar) : List ℕ → Forest Item → Terms → List ℕ → Type 0 where
  s_done : {seen : List ℕ} → Simple G seen none none []
  s_rule : {seen : List ℕ} {A : ℕ} {ps : Forest Item} {l : Label} {ts us : Terms} {ds es : List ℕ} (r : ℕ)
      → r < length G.rules → head_of G.rules r ≡ A → Fresh A seen
      → Simple G (A ∷ seen) (form_of G.rules r) (tree l ts none) ds → Simple G [] ps us es
      → Simple G seen (tree (non_terminal A) none ps) (tree l ts us) (r ∷ (ds ++ es))
  s_leaf : {seen : List ℕ} {i : Item} {l : Label} {ps : Forest Item} {us : Terms} {es : List ℕ} → AnyLeaf G.arguments i l
      → Simple G [] ps us es → Simple G seen (tree i none ps) (tree l none us) es
  s_same : {seen : List ℕ} {l m : Label} {ps qs : Forest Item} {ts us : Terms} {ds es : List ℕ} → SameLabel l m
      → Simple G [] ps ts ds → Simple G [] qs us es
      → Simple G seen (tree (the l) ps qs) (tree m ts us) (ds ++ es)
