-- What the search for the first fault of the rules of a grammar asks and gives.
use Rattle.std.specs.Prelude.{ℕ, ◌≤◌, List, [], ◌∷◌, ◌++◌, ◌≡◌, get_or, length}
use Rattle.forest.specs.Forest.{Forest, none, tree}
use Rattle.operators.specs.Sorts.{max_width}
use Rattle.term_sorts.specs.code.Forms.{sort_column}
use Rattle.term_sorts.specs.code.Signatures.{SortsAre, non_terminal_signature}
use Rattle.term_nodes.specs.code.Table.{raw_table}
use Rattle.term_nodes.specs.Terms.{Raw, first_word}
use Rattle.names.specs.Scopes.{View, forms_of, named_sorts}
use Rattle.term_nodes.specs.Rules.{Ruled, sides}
use Rattle.term_nodes.specs.code.RuleGathering.{start_table}
use Rattle.term_faults.specs.Faults.{rule_misfit, scope_of}
use Rattle.term_faults.specs.code.Roots.{rule_first}
use Rattle.forest.specs.Limits.{most_non_terminals}

-- The right side of a rule is one tree, whose first word tells that of the rule.
abbrev pub Single : (lexemes : List ℕ) → Ruled → Type 0
Single lexemes r = (root : Raw) × (operands : Forest Raw) × (r.side ≡ tree root operands none) × (rule_first lexemes (first_word root) ≡ r.first)

-- The same of every rule.
unfoldable pub AllSingle : (lexemes : List ℕ) → List Ruled → Type 0
AllSingle lexemes [] = Unit {0}
AllSingle lexemes (r ∷ more) = Single lexemes r × AllSingle lexemes more

-- The sorts of so many non-terminals, in the table of signatures.
pub record Heads (signatures : List ℕ) (listed : ℕ) : Type 0 where
  pub sorts : List ℕ
  pub are : SortsAre signatures non_terminal_signature sorts
  pub counted : listed ≡ length sorts
  pub few : listed ≤ most_non_terminals

-- The sort of one of them; 0 past the last.
pub record HeadSort {signatures : List ℕ} {listed : ℕ} (p : Heads signatures listed) (head r : ℕ) : Type 0 where
  pub is : r ≡ get_or p.sorts head 0
  pub low : r ≤ max_width

-- Rules, their nodes, where each starts and its non-terminal, and the sorts of their nodes, in tables; and how many non-terminals there are.
pub record RulesSought (lexemes raw rules signatures column : List ℕ) (count listed : ℕ) : Type 0 where
  pub ruled : List Ruled
  pub single : AllSingle lexemes ruled
  pub rest : List ℕ
  pub is_raw : raw ≡ raw_table (sides ruled) ++ rest
  pub others : List ℕ
  pub is_rules : rules ≡ start_table 0 ruled ++ others
  pub counted : count ≡ length ruled
  pub view : View
  pub more : List ℕ
  pub is_column : column ≡ sort_column (scope_of view) (forms_of view (sides ruled)) ++ more
  pub sorts_are : SortsAre signatures non_terminal_signature (named_sorts view.non_terminals)
  pub listed_are : listed ≡ length view.non_terminals
  pub few : listed ≤ most_non_terminals

-- The least first word of a rule that is not of its non-terminal's sort is found.
abbrev pub RulesFound : {lexemes raw rules signatures column : List ℕ} {count listed : ℕ} → RulesSought lexemes raw rules signatures column count listed
    → (nowhere r : ℕ) → Type 0
RulesFound p nowhere r = r ≡ rule_misfit nowhere p.view p.ruled

-- The same, for whatever the tables hold.
abbrev pub FindsInRules : (lexemes raw rules signatures column : List ℕ) → (count listed nowhere r : ℕ) → Type 0
FindsInRules lexemes raw rules signatures column count listed nowhere r = (p : RulesSought lexemes raw rules signatures column count listed) → RulesFound p nowhere r
