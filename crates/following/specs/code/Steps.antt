-- What the steps of the check ask of each other and give.
use Rattle.std.specs.Prelude.{◌≡◌, Bool, not, ◌&&◌, ℕ, ◌/◌, ◌<◌, ◌≤◌, List, [], ◌++◌, Option, MatchOption, eqb, ltb, drop, length}
use Rattle.forest.specs.Forest.{Forest, none, tree}
use Rattle.forest.specs.code.Cursors.{first, from, size}
use Rattle.terms.specs.Labels.{Label, Terms}
use Rattle.derivation.specs.Derivation.{Grammar, Item, Simple, form_of, non_terminal}
use Rattle.derivation.specs.code.Tables.{Given}
use Rattle.derivation.specs.code.Masks.{has}
use Rattle.derivation.specs.code.Rules.{non_terminal_at, rule_width}
use Rattle.derivation.specs.code.Forms.{NoChain}
use Rattle.forest.specs.Limits.{most_non_terminals}
use Rattle.following.specs.declared.Last.{Last}

-- The list begins with rules that derive the terms T from the forms P, where those of `seen` were used at the place of the first tree; `rest` follows them.
pub record Reads (G : Grammar) (seen : List ℕ) (P : Forest Item) (T : Terms) (list rest : List ℕ) : Type 0 where
  pub ds : List ℕ
  pub is : list ≡ ds ++ rest
  pub derivation : Simple G seen P T ds

-- The rule r is one of the non-terminal A, which is not in the set `used`.
unfoldable pub usable : (rules : List ℕ) (r A used : ℕ) → Bool
usable rules r A used = ltb r (length rules / rule_width) && eqb (non_terminal_at rules r) A && not (has used A)

-- Tables that hold a grammar, a non-terminal, and a place of the list.
pub record ChainPre (rules forms list : List ℕ) (a at : ℕ) : Type 0 where
  pub body : List ℕ
  pub given : Given rules forms body
  pub low : a < most_non_terminals
  pub room : at ≤ length list

-- The list at `at` goes through chain rules from a to the rule r, which is no chain rule, and goes on at `w`.
pub record ChainFound (G : Grammar) (list : List ℕ) (a at w r : ℕ) : Type 0 where
  pub after : at < w
  pub within : w ≤ length list
  pub is_rule : r < length G.rules
  pub no_chain : NoChain (form_of G.rules r)
  pub back : (l : Label) (ts : Terms) (rest : List ℕ) → Reads G [] (form_of G.rules r) (tree l ts none) (drop w list) rest
      → Reads G [] (tree (non_terminal a) none none) (tree l ts none) (drop at list) rest
  pub to : (l : Label) (ts : Terms) (rest : List ℕ) → Reads G [] (tree (non_terminal a) none none) (tree l ts none) (drop at list) rest
      → Reads G [] (form_of G.rules r) (tree l ts none) (drop w list) rest

-- The list at `at` derives no tree from a.
abbrev pub NoneRead : Grammar → (a : ℕ) → (list : List ℕ) → Type 0
NoneRead G a list = (l : Label) (ts : Terms) (rest : List ℕ) → Reads G [] (tree (non_terminal a) none none) (tree l ts none) list rest → ⊥

-- There is a last rule, and the chain to it is found; or there is none, and the list derives no tree from a.
abbrev pub ChainPost : (rules forms list : List ℕ) (a at : ℕ) → ChainPre rules forms list a at → Option Last → Type 0
ChainPost rules forms list a at p found =
    MatchOption found (NoneRead p.given.G a (drop at list)) (λ last. ChainFound p.given.G list a at last.at last.rule)

-- The same, for whatever the tables hold.
abbrev pub Chained : (rules forms list : List ℕ) (a at : ℕ) → Option Last → Type 0
Chained rules forms list a at found = (p : ChainPre rules forms list a at) → ChainPost rules forms list a at p found

-- The tree at node i.
abbrev pub one_at : Terms → ℕ → Terms
one_at F i = first 1 (from F i)

-- The list from `at` to `w` derives the terms T from the forms P.
pub record Found (G : Grammar) (P : Forest Item) (T : Terms) (list : List ℕ) (at w : ℕ) : Type 0 where
  pub after : at ≤ w
  pub within : w ≤ length list
  pub reads : Reads G [] P T (drop at list) (drop w list)

-- There is a place, and the list from `at` to it derives T from P; or there is none, and no front of it does.
abbrev pub FoundOr : (G : Grammar) (P : Forest Item) (T : Terms) (list : List ℕ) (at : ℕ) → Option ℕ → Type 0
FoundOr G P T list at found = MatchOption found ((rest : List ℕ) → Reads G [] P T (drop at list) rest → ⊥) (Found G P T list at)

-- A node of the body, a non-terminal, and a place of the list.
pub record UsePre (rules forms body list : List ℕ) (i a at : ℕ) : Type 0 where
  pub given : Given rules forms body
  pub inside : i < size given.F
  pub low : a < most_non_terminals
  pub room : at ≤ length list

-- What is answered for whatever the tables hold.
abbrev pub Uses : (rules forms body list : List ℕ) (i a at : ℕ) → Option ℕ → Type 0
Uses rules forms body list i a at found =
    (p : UsePre rules forms body list i a at) → FoundOr p.given.G (tree (non_terminal a) none none) (one_at p.given.F i) list at found

-- A node of the body, a rule, and a place of the list.
pub record FitPre (rules forms body list : List ℕ) (r i at : ℕ) : Type 0 where
  pub given : Given rules forms body
  pub inside : i < size given.F
  pub is_rule : r < length given.G.rules
  pub room : at ≤ length list

-- What is answered for whatever the tables hold.
abbrev pub Fitted : (rules forms body list : List ℕ) (r i at : ℕ) → Option ℕ → Type 0
Fitted rules forms body list r i at found =
    (p : FitPre rules forms body list r i at) → FoundOr p.given.G (form_of p.given.G.rules r) (one_at p.given.F i) list at found
