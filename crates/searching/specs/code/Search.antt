-- What the parts of the search have in common: which non-terminals derive a node, and masks and ranks that are exact.
use Rattle.forest.specs.Limits.{most_nodes, most_non_terminals}
use Rattle.std.specs.Prelude.{◌≡◌, true, ℕ, suc, ◌+◌, ◌*◌, ◌<◌, ◌≤◌, List, ◌∷◌, length, get_or}
use Rattle.forest.specs.Forest.{none, tree}
use Rattle.forest.specs.code.Cursors.{size, from, first}
use Rattle.terms.specs.Labels.{Terms}
use Rattle.derivation.specs.Derivation.{non_terminal, Grammar, head_of, form_of}
use Rattle.derivation.specs.code.Tables.{Given}
use Rattle.derivation.specs.code.Forms.{DerivesAt, Fits, NoChain}
use Rattle.derivation.specs.Least.{Least}
use Rattle.derivation.specs.code.Masks.{has}
use Rattle.searching.specs.code.Masks.{mark_width, mask_at, rank_at}
use Rattle.searching.specs.code.Ranks.{Ranked}

-- The mask m is the set of the non-terminals that derive the first tree of F, and each has its rank.
pub record ExactAt (G : Grammar) (F : Terms) (m : ℕ) (rank : ℕ → ℕ) : Type 0 where
  pub sound : (A : ℕ) → A < most_non_terminals → has m A ≡ true → DerivesAt G A F
  pub complete : (A : ℕ) → A < most_non_terminals → DerivesAt G A F → has m A ≡ true
  pub ranked : (A : ℕ) → A < most_non_terminals → has m A ≡ true
      → Ranked G (tree (non_terminal A) none none) (first 1 F) (most_non_terminals * size (first 1 F)) (rank A)

-- The masks and ranks past node i are exact.
pub record Asks (rules forms body masks : List ℕ) (i : ℕ) : Type 0 where
  pub given : Given rules forms body
  pub inside : i < size given.F
  pub small : size given.F ≤ most_nodes
  pub long : length masks ≡ mark_width * size given.F
  pub exact : (j : ℕ) → i < j → j < size given.F → ExactAt given.G (from given.F j) (mask_at masks j) (rank_at masks j)

-- Rule r begins the least list by which A derives the first tree of F.
abbrev pub Best : (G : Grammar) (F : Terms) (A r : ℕ) → Type 0
Best G F A r = (es : List ℕ) → Least G (form_of G.rules r) (first 1 F) es → Least G (tree (non_terminal A) none none) (first 1 F) (r ∷ es)

-- Following the choices from A at the place of F's first tree takes k rules to a rule that is no chain rule.
pub data Chain (G : Grammar) (F : Terms) (s : ℕ) (chosen : ℕ → ℕ) : ℕ → ℕ → Type 0 where
  stop : {A : ℕ} → has s A ≡ true → chosen A < length G.rules → head_of G.rules (chosen A) ≡ A
      → NoChain (form_of G.rules (chosen A)) → Fits G (form_of G.rules (chosen A)) F → Best G F A (chosen A)
      → Chain G F s chosen A 1
  more : {A k : ℕ} (B : ℕ) → has s A ≡ true → chosen A < length G.rules → head_of G.rules (chosen A) ≡ A
      → form_of G.rules (chosen A) ≡ tree (non_terminal B) none none → Best G F A (chosen A) → Chain G F s chosen B k
      → Chain G F s chosen A (suc k)

-- From each member of the set s the choices lead, by at most 16 rules, to a rule that is no chain rule.
abbrev pub Chained : (G : Grammar) (F : Terms) (s : ℕ) (chosen : ℕ → ℕ) → Type 0
Chained G F s chosen = (A : ℕ) → A < most_non_terminals → has s A ≡ true → (k : ℕ) × Chain G F s chosen A k × (k ≤ most_non_terminals)

-- The rule chosen for a non-terminal at node j.
abbrev pub choice_at : List ℕ → ℕ → ℕ → ℕ
choice_at choices j A = get_or choices (most_non_terminals * j + A) 0
