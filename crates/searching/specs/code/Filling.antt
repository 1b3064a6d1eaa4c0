-- What filling the masks and ranks of the nodes asks and gives.
use Rattle.forest.specs.Limits.{most_nodes, most_non_terminals, most_rules}
use Rattle.std.specs.Prelude.{◌≡◌, ◌⊎◌, true, false, ℕ, ◌+◌, ◌*◌, ◌/◌, ◌<◌, ◌≤◌, List, MatchOption, Option, length, get_or}
use Rattle.forest.specs.Forest.{none, tree}
use Rattle.forest.specs.code.Cursors.{size, from}
use Rattle.terms.specs.Labels.{Terms}
use Rattle.terms.specs.code.Codes.{non_terminal_kind}
use Rattle.terms.specs.code.Nodes.{code_at, value_at}
use Rattle.derivation.specs.Derivation.{Grammar, form_of, most_weight, non_terminal}
use Rattle.derivation.specs.code.Tables.{Given}
use Rattle.derivation.specs.code.Rules.{non_terminal_at, rule_width, start_at, weight_at}
use Rattle.derivation.specs.code.Masks.{has}
use Rattle.searching.specs.code.Masks.{mark_width, mask_at, rank_at}
use Rattle.searching.specs.code.Ranks.{per_weight, most}
use Rattle.derivation.specs.code.Forms.{Fits, NoChain}
use Rattle.searching.specs.code.Search.{Asks, Chained, ExactAt, choice_at}
use Rattle.searching.specs.code.Matching.{Matched}
use Rattle.searching.specs.declared.filling.Choice.{Choice}

-- Rule r can be used at the place of F's first tree, where the set s is known to be derived.
pub data Applies (G : Grammar) (F : Terms) (s r : ℕ) : Type 0 where
  chain : (B : ℕ) → form_of G.rules r ≡ tree (non_terminal B) none none → has s B ≡ true → Applies G F s r
  no_chain : NoChain (form_of G.rules r) → Fits G (form_of G.rules r) F → Applies G F s r

-- Rule r starts with a non-terminal: it is a chain rule.
abbrev pub IsChain : (rules forms : List ℕ) (r : ℕ) → Type 0
IsChain rules forms r = code_at forms (start_at rules r) ≡ non_terminal_kind

-- The rules before the n-th that are no chain rules have their ranks at node i.
pub record Priced (rules forms body masks : List ℕ) (i n : ℕ) (costs : List ℕ) : Type 0 where
  pub long : length costs ≡ most_rules
  pub each : (r : ℕ) → r < n → (IsChain rules forms r → ⊥) → Matched rules forms body masks i r (get_or costs r 0)

-- The first m of the list are, in rising order, rules before the n-th; each other one of those is no chain rule and has no price, so that it adds nothing.
pub record Live (rules forms costs : List ℕ) (n : ℕ) (live : List ℕ) (m : ℕ) : Type 0 where
  pub few : m ≤ n
  pub below : (k : ℕ) → k < m → get_or live k 0 < n
  pub rising : (j k : ℕ) → j < k → k < m → get_or live j 0 < get_or live k 0
  pub rest : (r : ℕ) → r < n → ((k : ℕ) × (k < m) × (get_or live k 0 ≡ r)) ⊎ ((IsChain rules forms r → ⊥) × (get_or costs r 0 ≡ 0))

-- The rules before the n-th have their ranks at node i, and the first m of the list are those that can add something.
pub record PricedLive (rules forms body masks : List ℕ) (i n : ℕ) (costs live : List ℕ) (m : ℕ) : Type 0 where
  pub priced : Priced rules forms body masks i n costs
  pub long : length live ≡ most_rules
  pub within : m ≤ most_rules
  pub held : Live rules forms costs n live m

-- What a price is made of: weights are light, ranks small, and non-terminals one of so many.
pub record Prices (rules forms row : List ℕ) : Type 0 where
  pub heads : (r : ℕ) → r < length rules / rule_width → non_terminal_at rules r < most_non_terminals
  pub ends : (r : ℕ) → r < length rules / rule_width → IsChain rules forms r → value_at forms (start_at rules r) < most_non_terminals
  pub light : (r : ℕ) → r < length rules / rule_width → weight_at rules r ≤ most_weight
  pub small : (A : ℕ) → get_or row A 0 ≤ most

-- c is the rank of what rule r leads to where the set s is known; 0 if it adds nothing.
pub data Price (rules forms costs row : List ℕ) (s r c : ℕ) : Type 0 where
  known : has s (non_terminal_at rules r) ≡ true → c ≡ 0 → Price rules forms costs row s r c
  plain : has s (non_terminal_at rules r) ≡ false → (IsChain rules forms r → ⊥) → c ≡ get_or costs r 0 → Price rules forms costs row s r c
  not_yet : has s (non_terminal_at rules r) ≡ false → IsChain rules forms r → has s (value_at forms (start_at rules r)) ≡ false → c ≡ 0
      → Price rules forms costs row s r c
  chained : has s (non_terminal_at rules r) ≡ false → IsChain rules forms r → has s (value_at forms (start_at rules r)) ≡ true
      → c ≡ per_weight * weight_at rules r + 1 + get_or row (value_at forms (start_at rules r)) 0
      → Price rules forms costs row s r c

-- Rule k of price x is no better than rule r of price c: 0 is no price.
pub data Worse (c r x k : ℕ) : Type 0 where
  nothing : x ≡ 0 → Worse c r x k
  dearer : (c ≡ 0 → ⊥) → c < x → Worse c r x k
  later : (c ≡ 0 → ⊥) → c ≡ x → r ≤ k → Worse c r x k

-- Of the rules before the n-th, r has the least price c, and is the first of that price; c is 0 if none has a price.
pub record Chooses (rules forms costs row : List ℕ) (s n r c : ℕ) : Type 0 where
  pub is : (c ≡ 0 → ⊥) → (r < n) × Price rules forms costs row s r c
  pub all : (k : ℕ) → k < n → (x : ℕ) × Price rules forms costs row s k x × Worse c r x k

-- What is chosen of the rules before the n-th, or none of them has a price.
abbrev pub Chose : (rules forms costs row : List ℕ) (s n : ℕ) → Option Choice → Type 0
Chose rules forms costs row s n found =
    MatchOption found ((k : ℕ) → k < n → Price rules forms costs row s k 0)
    (λ choice. (choice.rank ≡ 0 → ⊥) × Chooses rules forms costs row s n choice.rule choice.rank)

-- s is the exact set at node i, the row has the ranks, and the choices lead from each of its members to a derivation.
pub record NodeIs (rules forms body masks : List ℕ) (i : ℕ) (row chosen : List ℕ) (s : ℕ) : Type 0 where
  pub sixteen : length chosen ≡ most_non_terminals
  pub seventeen : length row ≡ mark_width
  pub exact : (q : Asks rules forms body masks i) → ExactAt q.given.G (from q.given.F i) s (λ A. get_or row A 0)
  pub chains : (q : Asks rules forms body masks i) → Chained q.given.G (from q.given.F i) s (λ A. get_or chosen A 0)

-- Room for the row of a node, which has small numbers, and for its choices.
pub record RowPre (row chosen : List ℕ) : Type 0 where
  pub seventeen : length row ≡ mark_width
  pub sixteen : length chosen ≡ most_non_terminals
  pub small : (A : ℕ) → get_or row A 0 ≤ most

-- The prices of a node's rules, those that can add something, and room for its row and choices.
pub record SettlePre (rules forms costs live row chosen : List ℕ) : Type 0 where
  pub body : List ℕ
  pub masks : List ℕ
  pub i : ℕ
  pub asks : Asks rules forms body masks i
  pub priced : Priced rules forms body masks i (length rules / rule_width) costs
  pub held : Live rules forms costs (length rules / rule_width) live (length live)
  pub room : RowPre row chosen

-- What the turns give, for whatever the tables hold.
abbrev pub Settles : (rules forms costs live row chosen row' chosen' : List ℕ) (s : ℕ) → Type 0
Settles rules forms costs live row chosen row' chosen' s =
    (p : SettlePre rules forms costs live row chosen) → NodeIs rules forms p.body p.masks p.i row' chosen' s

-- There is a row for each node, and room for its choices.
pub record MasksPre (rules forms body masks choices : List ℕ) : Type 0 where
  pub given : Given rules forms body
  pub small : size given.F ≤ most_nodes
  pub long : length masks ≡ mark_width * size given.F
  pub roomy : most_non_terminals * size given.F ≤ length choices

-- Each mask and each rank is exact, and the choices of each node lead from each member of its set to a derivation.
pub record AllExact (rules forms body masks choices : List ℕ) : Type 0 where
  pub exact : (g : Given rules forms body) (j : ℕ) → j < size g.F → ExactAt g.G (from g.F j) (mask_at masks j) (rank_at masks j)
  pub chains : (g : Given rules forms body) (j : ℕ) → j < size g.F → Chained g.G (from g.F j) (mask_at masks j) (choice_at choices j)
