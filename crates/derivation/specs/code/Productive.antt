-- What finding the non-terminals that derive a term asks and gives.
use Rattle.std.specs.Prelude.{ℕ, ◌<◌, ◌≤◌, Bool, true, false, cond, ◌&&◌, not, List, ◌∷◌, ◌≡◌, eqb, length}
use Rattle.forest.specs.Forest.{Forest, none, tree}
use Rattle.forest.specs.Limits.{most_non_terminals}
use Rattle.forest.specs.Lists.{among}
use Rattle.operators.specs.Sorts.{max_width}
use Rattle.terms.specs.code.Codes.{any_argument_kind, head_of as sort_in, kind_of, non_terminal_kind}
use Rattle.terms.specs.code.Nodes.{code_at, value_at}
use Rattle.derivation.specs.Derivation.{Grammar, Item, any_argument, any_literal, form_of, head_of, non_terminal, the}
use Rattle.derivation.specs.Productive.{DerivesSome, form_yields, one_pass, productive}
use Rattle.derivation.specs.code.Admitted.{Admitted}
use Rattle.derivation.specs.code.Masks.{has}
use Rattle.derivation.specs.code.Tables.{form_table, right_sides, rule_table}

-- Each `(Constant σ)` of the forms is of a sort that there is: at most 64 bits.
unfoldable pub ConstantsFit : Forest Item → Type 0
ConstantsFit none = Unit {0}
ConstantsFit (tree (the l) ps qs) = ConstantsFit ps × ConstantsFit qs
ConstantsFit (tree (non_terminal A) ps qs) = ConstantsFit ps × ConstantsFit qs
ConstantsFit (tree (any_literal s) ps qs) = (s ≤ max_width) × ConstantsFit ps × ConstantsFit qs
ConstantsFit (tree (any_argument s) ps qs) = ConstantsFit ps × ConstantsFit qs

-- The slices hold the rules of a grammar, their right sides, and the sorts of the function's arguments.
pub record Tabled (rules forms arguments : List ℕ) : Type 0 where
  pub G : Grammar
  pub is_rules : rules ≡ rule_table 0 G.rules
  pub is_forms : forms ≡ form_table (right_sides G.rules)
  pub are_arguments : arguments ≡ G.arguments
  pub admitted : Admitted G

-- The mask is the set of those of a list that are non-terminals.
pub record Marks (mask : ℕ) (found : List ℕ) : Type 0 where
  pub same : (A : ℕ) → A < most_non_terminals → has mask A ≡ among A found

-- A node that is a non-terminal is one of the 16.
pub record AsksNode (forms : List ℕ) (node : ℕ) : Type 0 where
  pub low : kind_of (code_at forms node) ≡ non_terminal_kind → value_at forms node < most_non_terminals

-- Whether the node has something to stand for it, by its numbers.
abbrev pub yields_at : (forms arguments : List ℕ) → (mask node : ℕ) → Bool
yields_at forms arguments mask node =
    cond (eqb (kind_of (code_at forms node)) non_terminal_kind) (has mask (value_at forms node))
    (cond (eqb (kind_of (code_at forms node)) any_argument_kind) (among (sort_in (code_at forms node)) arguments) true)

-- And r is a rule.
pub record AsksForm (rules forms arguments : List ℕ) (r : ℕ) : Type 0 where
  pub tabled : Tabled rules forms arguments
  pub is_rule : r < length tabled.G.rules

-- The answer b says whether rule r yields, whatever list the mask stands for.
pub record FormTested (rules forms arguments : List ℕ) (mask r : ℕ) (b : Bool) : Type 0 where
  pub is : (q : AsksForm rules forms arguments r) (found : List ℕ) → Marks mask found
      → b ≡ form_yields q.tabled.G.arguments found (form_of q.tabled.G.rules r)

-- What is found behind a rule of the non-terminal A.
abbrev pub grown_by : (arguments found : List ℕ) → (A : ℕ) → (form : Forest Item) → List ℕ
grown_by arguments found A form = cond (form_yields arguments found form && not (among A found)) (A ∷ found) found

-- The mask behind rule r is the set of what is found behind it.
pub record Grown (rules forms arguments : List ℕ) (mask r after : ℕ) : Type 0 where
  pub is : (q : AsksForm rules forms arguments r) (found : List ℕ) → Marks mask found
      → Marks after (grown_by q.tabled.G.arguments found (head_of q.tabled.G.rules r) (form_of q.tabled.G.rules r))

-- The mask that a pass makes is the set of the list that the pass makes.
pub record Passed (rules forms arguments : List ℕ) (mask after : ℕ) : Type 0 where
  pub is : (t : Tabled rules forms arguments) (found : List ℕ) → Marks mask found → Marks after (one_pass t.G.arguments found t.G.rules)

-- The mask is the set of the non-terminals that derive a term, of which there are n.
pub record Found (rules forms arguments : List ℕ) (n mask : ℕ) : Type 0 where
  pub is : (t : Tabled rules forms arguments) → Marks mask (productive t.G n)

-- And there are at most 16 non-terminals.
pub record AsksDead (rules forms arguments : List ℕ) (n : ℕ) : Type 0 where
  pub tabled : Tabled rules forms arguments
  pub few : n ≤ most_non_terminals

-- A is the first of n numbers that is not in a list; n where each is.
pub record FirstOut (found : List ℕ) (n A : ℕ) : Type 0 where
  pub most : A ≤ n
  pub before : (B : ℕ) → B < A → among B found ≡ true
  pub here : A < n → among A found ≡ false

-- A is the first non-terminal that is not found.
abbrev pub FindsDead : (rules forms arguments : List ℕ) → (n A : ℕ) → Type 0
FindsDead rules forms arguments n A = (t : AsksDead rules forms arguments n) → FirstOut (productive t.tabled.G n) n A

-- "A non-terminal is refused exactly if it derives no term" (E9): the non-terminals that are found are those that derive a term. It holds of grammars as they
-- are read: one tree a rule, non-terminals and patterns without operands, patterns of at most 64 bits, heads below n.
pub record Productive (G : Grammar) (n : ℕ) : Type 0 where
  pub found_derives : (A : ℕ) → among A (productive G n) ≡ true → DerivesSome G A
  pub derives_found : (A : ℕ) → DerivesSome G A → among A (productive G n) ≡ true
