-- What matching a rule with a node of the body asks and gives.
use Rattle.std.specs.Prelude.{ℕ, ◌+◌, ◌*◌, ◌-◌, ◌<◌, ◌≤◌, List, ◌≡◌, length}
use Rattle.forest.specs.Limits.{most_non_terminals}
use Rattle.forest.specs.code.Cursors.{first, from, size}
use Rattle.derivation.specs.Derivation.{form_of}
use Rattle.searching.specs.code.Ranks.{Through, most}
use Rattle.derivation.specs.code.Forms.{Fits, NoChain}
use Rattle.searching.specs.code.Search.{Asks}

-- And r is a rule, and no chain rule.
pub record AsksNoChain (rules forms body masks : List ℕ) (i r : ℕ) : Type 0 where
  pub asks : Asks rules forms body masks i
  pub is_rule : r < length asks.given.G.rules
  pub no_chain : NoChain (form_of asks.given.G.rules r)

-- Rule r derives the tree at node i.
abbrev pub FitsHere : {rules forms body masks : List ℕ} {i : ℕ} → Asks rules forms body masks i → ℕ → Type 0
FitsHere {i = i} q r = Fits q.given.G (form_of q.given.G.rules r) (from q.given.F i)

-- The rank c is 0 if rule r does not derive the tree at node i; else it is the rank of the least list that begins with r.
pub record Matched (rules forms body masks : List ℕ) (i r c : ℕ) : Type 0 where
  pub sound : (q : AsksNoChain rules forms body masks i r) → (c ≡ 0 → ⊥)
      → Through q.asks.given.G (first 1 (from q.asks.given.F i)) r
      (most_non_terminals * size (first 1 (from q.asks.given.F i)) - most_non_terminals + 1) c
  pub complete : (q : AsksNoChain rules forms body masks i r) → c ≡ 0 → FitsHere q.asks r → ⊥
  pub bound : c ≤ most
