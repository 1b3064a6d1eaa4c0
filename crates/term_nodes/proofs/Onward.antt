-- Items of which the rules are gathered, from each to the one behind it.
use Prim.Native.Nat.{ℕ, ◌+◌, ◌-◌, ◌*◌, ◌≤◌, ◌<◌}
use native.Mathlib.Omega.{arith}
use mathlib.Core.Path.{◌≡◌, sym, ap, ◌∙◌, subst}
use mathlib.Core.Bool.{Bool, true}
use mathlib.Core.List.{List, [], ◌++◌, append_assoc, append-nil}
use lib.ListN.{length}
use Rattle.forest.specs.Forest.{none, tree}
use Rattle.forest.specs.code.Cursors.{size}
use Rattle.forest.proofs.Bools.{and_right}
use Rattle.term_nodes.specs.code.Table.{row_width}
use Rattle.words.specs.Trees.{Lexeme}
use Rattle.lexemes.specs.Lists.{Items}
use Rattle.lexemes.specs.code.Standing.{Between}
use Rattle.lexemes.specs.code.Table.{next_at}
use Rattle.lexemes.proofs.Along.{Along, item-of}
use Rattle.lexemes.proofs.Listed.{at_item}
use Rattle.lexemes.proofs.Standing.{forward}
use Rattle.shapes.specs.Shapes.{all}
use Rattle.term_nodes.specs.Rules.{Ruled, sides}
use Rattle.term_nodes.specs.code.RuleGathering.{Holds}
use Rattle.term_nodes.specs.declared.Gathered.{Gathered}
use Rattle.term_nodes.proofs.Listing.{size_sides}

module _ {nowhere most nodes : ℕ} {raw rules : List ℕ} {done : List Ruled} {g : Gathered} where
  -- the same tables, lent as others that are as long
  pub lent_as : {rawLent rulesLent rawOther rulesOther : List ℕ} → length raw ≡ length rawOther → length rules ≡ length rulesOther
      → Holds nowhere most nodes rawLent rulesLent raw rules done g → Holds nowhere most nodes rawOther rulesOther raw rules done g
  lent_as raw_long rules_long h = record {
    rest = h.rest;
    raw_is = h.raw_is;
    raw_long = raw_long;
    rows = h.rows;
    counted = h.counted;
    few = h.few;
    more = h.more;
    rules_are = h.rules_are;
    rules_long = rules_long;
    room = h.room;
    place_is = h.place_is;
  }

module _ (shape : Lexeme → Items → Bool) (listed : (A : ℕ) → Items → List Ruled) (A nowhere most nodes at close : ℕ)
    (rawLent rulesLent raw rules : List ℕ) (g : Gathered) (whole : List Ruled) where
  -- All of them have the shape, the rules before them are gathered, with A the first non-terminal that is left, and there is a row for each of their words.
  pub record GatheredTo (left : Items) : Type 0 where
    pub shaped : all shape left ≡ true
    pub done : List Ruled
    pub whole_is : done ++ listed A left ≡ whole
    pub holds : Holds nowhere most nodes rawLent rulesLent raw rules done g
    pub room : row_width * (g.row + (close - at)) ≤ length rawLent

module _ {shape : Lexeme → Items → Bool} {listed : (A : ℕ) → Items → List Ruled} {A nowhere most nodes at close : ℕ}
    {rawLent rulesLent raw rules : List ℕ} {g : Gathered} {whole : List Ruled} where
  -- where none are left, all are gathered
  pub gathered_all : listed A none ≡ [] → GatheredTo shape listed A nowhere most nodes at close rawLent rulesLent raw rules g whole none
      → Holds nowhere most nodes rawLent rulesLent raw rules whole g
  gathered_all no_rules x =
      let all_done : x.done ≡ whole = sym (append-nil x.done) ∙ ap (λ (l : List Ruled). x.done ++ l) (sym no_rules) ∙ x.whole_is in
      subst (λ (l : List Ruled). Holds nowhere most nodes rawLent rulesLent raw rules l g) all_done x.holds

  -- the rules of one item more are gathered
  pub gathered_on : {l : Lexeme} {ops more : Items}
      → (x : GatheredTo shape listed A nowhere most nodes at close rawLent rulesLent raw rules g whole (tree l ops more))
      → (B : ℕ) (added : List Ruled) → listed A (tree l ops more) ≡ added ++ listed B more
      → {next : ℕ} → at + size (sides added) ≤ next → next ≤ close
      → {rawAfter rulesAfter : List ℕ} {h : Gathered} → Holds nowhere most nodes raw rules rawAfter rulesAfter (x.done ++ added) h
      → GatheredTo shape listed B nowhere most nodes next close rawLent rulesLent rawAfter rulesAfter h whole more
  unfolding all
  gathered_on {l} {ops} {more} x B added split fits within holds = record {
    shaped = and_right (shape l ops) (all shape more) x.shaped;
    done = x.done ++ added;
    whole_is = append_assoc x.done added (listed B more) ∙ ap (λ (l : List Ruled). x.done ++ l) (sym split) ∙ x.whole_is;
    holds = lent_as (holds.raw_long ∙ x.holds.raw_long) (holds.rules_long ∙ x.holds.rules_long) holds;
    room = omega (arith, x.room, x.holds.rows, holds.rows, size_sides x.done added);
  }

-- an item before the end ends before it
pub next_within : {lexemes : List ℕ} {first close : ℕ} {G : Type 0} {items_of : G → Between lexemes first close} {at : ℕ} {holds : G → (left : Items) → Type 0}
    → Along items_of at holds → at < close → next_at lexemes at ≤ close
next_within a h = forward (at_item (item-of a h a.given)).rest

module _ {lexemes : List ℕ} {first close : ℕ} {G : Type 0} {items_of : G → Between lexemes first close} {shape : Lexeme → Items → Bool}
    {listed : (A : ℕ) → Items → List Ruled} {A nowhere most nodes at : ℕ} {rawLent rulesLent raw rules : List ℕ} {g : Gathered} {whole : G → List Ruled}
    (a : Along items_of at (λ p. GatheredTo shape listed A nowhere most nodes at close rawLent rulesLent raw rules g (whole p))) where
  -- the table of nodes stays as long as it was lent
  pub raw_kept : length raw ≡ length rawLent
  raw_kept = (a.left a.given).known.holds.raw_long

  -- and so does that of the starts
  pub rules_kept : length rules ≡ length rulesLent
  rules_kept = (a.left a.given).known.holds.rules_long
