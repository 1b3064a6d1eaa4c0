-- What writing the rules of a derivation asks and gives.
use Rattle.forest.specs.Limits.{most_nodes, most_non_terminals}
use Rattle.std.specs.Prelude.{◌≡◌, ℕ, ◌+◌, ◌*◌, ◌<◌, ◌≤◌, List, [], ◌++◌, MatchOption, Option, length}
use Rattle.std.proofs.lemmas.List.Edits.{sets}
use Rattle.forest.specs.Forest.{none, tree, count}
use Rattle.forest.specs.code.Cursors.{size, from, first}
use Rattle.terms.specs.Labels.{Terms}
use Rattle.derivation.specs.Derivation.{Grammar, non_terminal, form_of, Derives, Simple}
use Rattle.derivation.specs.Least.{Least}
use Rattle.derivation.specs.code.Tables.{Given}
use Rattle.derivation.specs.Answer.{start}
use Rattle.searching.specs.code.Masks.{mark_width}
use Rattle.searching.specs.code.Ranks.{rank_of}
use Rattle.searching.specs.code.Matching.{AsksNoChain}
use Rattle.searching.specs.code.Filling.{AllExact}
use Rattle.derivation.specs.code.Forms.{DerivesAt, Fits, NoChain}
use Rattle.searching.specs.code.Search.{Asks, Chain, choice_at}

-- The choices of node i lead from the non-terminal a to a rule that is no chain rule, within the room that the list has.
pub record FollowPre (rules forms choices : List ℕ) (i a : ℕ) (shown : List ℕ) (at : ℕ) : Type 0 where
  pub body : List ℕ
  pub masks : List ℕ
  pub asks : Asks rules forms body masks i
  pub low : a < most_non_terminals
  pub held : most_non_terminals * i + most_non_terminals ≤ length choices
  pub s : ℕ
  pub k : ℕ
  pub chain : Chain asks.given.G (from asks.given.F i) s (choice_at choices i) a k
  pub room : at + k ≤ length shown

-- The rules ws were written, and a derivation of the last one's form makes one of a.
pub record FollowPost (rules forms choices : List ℕ) (i a : ℕ) (shown : List ℕ) (at : ℕ) (f : FollowPre rules forms choices i a shown at)
    (shown' : List ℕ) (at' r : ℕ) : Type 0 where
  pub ws : List ℕ
  pub wrote : shown' ≡ sets shown at ws
  pub next : at' ≡ at + length ws
  pub few : length ws ≤ f.k
  pub is_rule : r < length f.asks.given.G.rules
  pub no_chain : NoChain (form_of f.asks.given.G.rules r)
  pub fits : Fits f.asks.given.G (form_of f.asks.given.G.rules r) (from f.asks.given.F i)
  pub least : (es : List ℕ) → Least f.asks.given.G (form_of f.asks.given.G.rules r) (first 1 (from f.asks.given.F i)) es
      → Least f.asks.given.G (tree (non_terminal a) none none) (first 1 (from f.asks.given.F i)) (ws ++ es)
  pub back : (es : List ℕ) → Simple f.asks.given.G [] (form_of f.asks.given.G.rules r) (first 1 (from f.asks.given.F i)) es
      → Simple f.asks.given.G [] (tree (non_terminal a) none none) (first 1 (from f.asks.given.F i)) (ws ++ es)

-- The same, for whatever the tables hold.
abbrev pub Follows : (rules forms choices : List ℕ) (i a : ℕ) (shown : List ℕ) (at : ℕ) (shown' : List ℕ) (at' r : ℕ) → Type 0
Follows rules forms choices i a shown at shown' at' r =
    (f : FollowPre rules forms choices i a shown at) → FollowPost rules forms choices i a shown at f shown' at' r

-- The non-terminal a derives the tree at node i, the choices of each node lead to a derivation, and the list has room.
pub record EmitPre (rules forms body choices : List ℕ) (i a : ℕ) (shown : List ℕ) (at : ℕ) : Type 0 where
  pub masks : List ℕ
  pub asks : Asks rules forms body masks i
  pub all : AllExact rules forms body masks choices
  pub held : most_non_terminals * size asks.given.F ≤ length choices
  pub low : a < most_non_terminals
  pub derives : DerivesAt asks.given.G a (from asks.given.F i)
  pub room : at + most_non_terminals * size (first 1 (from asks.given.F i)) ≤ length shown

-- The least derivation of that tree was written.
pub record EmitPost (rules forms body choices : List ℕ) (i a : ℕ) (shown : List ℕ) (at : ℕ) (e : EmitPre rules forms body choices i a shown at)
    (shown' : List ℕ) (at' : ℕ) : Type 0 where
  pub ds : List ℕ
  pub derivation : Simple e.asks.given.G [] (tree (non_terminal a) none none) (first 1 (from e.asks.given.F i)) ds
  pub least : Least e.asks.given.G (tree (non_terminal a) none none) (first 1 (from e.asks.given.F i)) ds
  pub wrote : shown' ≡ sets shown at ds
  pub next : at' ≡ at + length ds
  pub few : length ds ≤ most_non_terminals * size (first 1 (from e.asks.given.F i))

-- The same, for whatever the tables hold.
abbrev pub Emits : (rules forms body choices : List ℕ) (i a : ℕ) (shown : List ℕ) (at : ℕ) (shown' : List ℕ) (at' : ℕ) → Type 0
Emits rules forms body choices i a shown at shown' at' =
    (e : EmitPre rules forms body choices i a shown at) → EmitPost rules forms body choices i a shown at e shown' at'

-- Rule r, which is no chain rule, derives the tree at node i, the choices of each node lead to a derivation, and the list has room.
pub record SpreadPre (rules forms body choices : List ℕ) (i r : ℕ) (shown : List ℕ) (at : ℕ) : Type 0 where
  pub masks : List ℕ
  pub rule_asks : AsksNoChain rules forms body masks i r
  pub all : AllExact rules forms body masks choices
  pub held : most_non_terminals * size rule_asks.asks.given.F ≤ length choices
  pub fits : Fits rule_asks.asks.given.G (form_of rule_asks.asks.given.G.rules r) (from rule_asks.asks.given.F i)
  pub room : at + most_non_terminals * size (first 1 (from rule_asks.asks.given.F i)) ≤ length shown + most_non_terminals

-- The least derivations for the places of the rule were written.
pub record SpreadPost (rules forms body choices : List ℕ) (i r : ℕ) (shown : List ℕ) (at : ℕ) (e : SpreadPre rules forms body choices i r shown at)
    (shown' : List ℕ) (at' : ℕ) : Type 0 where
  pub ds : List ℕ
  pub derivation : Simple e.rule_asks.asks.given.G [] (form_of e.rule_asks.asks.given.G.rules r)
      (first 1 (from e.rule_asks.asks.given.F i)) ds
  pub least : Least e.rule_asks.asks.given.G (form_of e.rule_asks.asks.given.G.rules r)
      (first 1 (from e.rule_asks.asks.given.F i)) ds
  pub wrote : shown' ≡ sets shown at ds
  pub next : at' ≡ at + length ds
  pub few : length ds + most_non_terminals ≤ most_non_terminals * size (first 1 (from e.rule_asks.asks.given.F i))

-- The same, for whatever the tables hold.
abbrev pub Spreads : (rules forms body choices : List ℕ) (i r : ℕ) (shown : List ℕ) (at : ℕ) (shown' : List ℕ) (at' : ℕ) → Type 0
Spreads rules forms body choices i r shown at shown' at' =
    (e : SpreadPre rules forms body choices i r shown at) → SpreadPost rules forms body choices i r shown at e shown' at'

-- There is a row for each node, room for its choices, and the list is as long as it has to be.
pub record ShowPre (rules forms body masks choices shown : List ℕ) : Type 0 where
  pub given : Given rules forms body
  pub one : count given.F ≡ 1
  pub small : size given.F ≤ most_nodes
  pub long : length masks ≡ mark_width * size given.F
  pub roomy : most_non_terminals * size given.F ≤ length choices
  pub room : most_non_terminals * size given.F ≤ length shown

-- The rules ds, by which the start derives the body, were written, and r is their rank.
pub record Written (G : Grammar) (F : Terms) (shown shown' : List ℕ) (r : ℕ) : Type 0 where
  pub ds : List ℕ
  pub derivation : Simple G [] start F ds
  pub least : Least G start F ds
  pub wrote : shown' ≡ sets shown 0 ds
  pub few : length ds ≤ most_non_terminals * size F
  pub rank : r ≡ rank_of G ds

-- No rules derive the body, and the list is as it was.
pub record NotWritten (G : Grammar) (F : Terms) (shown shown' : List ℕ) : Type 0 where
  pub none_derives : (ds : List ℕ) → Derives G start F ds → ⊥
  pub unchanged : shown' ≡ shown

-- There is a rank, that of the least derivation, which was written; or there is none.
abbrev pub ShowPost : (rules forms body masks choices shown : List ℕ) → ShowPre rules forms body masks choices shown → (shown' : List ℕ) → Option ℕ → Type 0
ShowPost rules forms body masks choices shown p shown' found =
    MatchOption found (NotWritten p.given.G p.given.F shown shown') (Written p.given.G p.given.F shown shown')

-- The same, for whatever the tables hold.
abbrev pub Shows : (rules forms body masks choices shown shown' : List ℕ) → Option ℕ → Type 0
Shows rules forms body masks choices shown shown' found =
    (p : ShowPre rules forms body masks choices shown) → ShowPost rules forms body masks choices shown p shown' found
