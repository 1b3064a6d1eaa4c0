-- What stands within a command: where its items end, and how many nodes and rules they have.
use Prim.Native.Nat.{ℕ, zero, suc, ◌+◌, ◌-◌, ◌≤◌, ◌<◌, min}
use native.Mathlib.Omega.{arith}
use mathlib.Core.Path.{◌≡◌, refl}
use mathlib.Core.Bool.{Bool, true, false, cond}
use mathlib.Core.List.{List, [], ◌∷◌}
use lib.Dec.{leb}
use lib.ListN.{length}
use borrow.Author.Tests.{leb-true}
use Rattle.forest.specs.Forest.{count, join, tree}
use Rattle.lexemes.specs.Lists.{Items, inside}
use Rattle.lexemes.specs.code.Standing.{Source, Stands, bracketed, ends, word}
use Rattle.lexemes.proofs.Standing.{forward}
use Rattle.term_faults.specs.code.Bodies.{Rising}
use Rattle.term_faults.specs.code.Grammars.{AllSingle}
use Rattle.term_faults.proofs.Rooted.{first_low}
use Rattle.term_nodes.specs.Rules.{Ruled, item_past, rule_past, sides}
use Rattle.term_nodes.specs.Terms.{first_word}
use Rattle.script.proofs.WordsBelow.{Below, item_below, no_fault}

-- Items stand somewhere between word i and word e.
pub record Amid (s : Source) (i e : ℕ) (F : Items) : Type 0 where
  pub first : ℕ
  pub last : ℕ
  pub stands : Stands s first F last
  pub begins : i ≤ first
  pub ends_by : last ≤ e

-- What item n holds stands amid the items.
pub amid : {s : Source} (n : ℕ) {i e : ℕ} {F : Items} → Stands s i F e → Amid s i e (inside n F)
unfolding inside
amid n {i} ends = record { first = i; last = i; stands = ends; begins = omega arith; ends_by = omega arith }
amid zero {i} (word w rest) = record { first = i; last = i; stands = ends; begins = omega arith; ends_by = omega (arith, forward rest) }
amid zero {i} (bracketed {c = c} b inner rest) =
    record { first = i + 1; last = c; stands = inner; begins = omega arith; ends_by = omega (arith, forward rest) }
amid (suc n) (word w rest) =
    let a = amid n rest in
    record { first = a.first; last = a.last; stands = a.stands; begins = omega (arith, a.begins); ends_by = a.ends_by }
amid (suc n) (bracketed b inner rest) =
    let a = amid n rest in
    record { first = a.first; last = a.last; stands = a.stands; begins = omega (arith, a.begins, forward inner); ends_by = a.ends_by }

-- What is not past the least of two or three is past none of them.
pub past_neither : (a b : ℕ) {n : ℕ} → n ≤ min a b → (n ≤ a) × (n ≤ b)
past_neither a b h = (omega arith, omega arith)

pub past_none : (a b c : ℕ) {n : ℕ} → n ≤ min a (min b c) → (n ≤ a) × (n ≤ b) × (n ≤ c)
past_none a b c h = (omega arith, omega arith, omega arith)

-- Items of which none is past the limit are no more than that.
pub items_few : (nowhere most : ℕ) (F : Items) → 0 < nowhere → Below nowhere F → nowhere ≤ item_past nowhere most F → count F ≤ most
items_few nowhere most F some below h = leb-true (count F) most (no_fault (leb (count F) most) (item_below some most F below).first h)

-- Rules of which none is past the limit are no more than that.
pub rules_few : (lexemes : List ℕ) (nowhere most : ℕ) (rules : List Ruled) (low high : ℕ) → AllSingle lexemes rules → Rising low high (sides rules) → high ≤ nowhere
    → nowhere ≤ rule_past nowhere most rules → length rules ≤ most
unfolding AllSingle Rising join rule_past sides
rules_few lexemes nowhere most [] low high single rising h past = omega arith
rules_few lexemes nowhere most (r ∷ more) low high ((root, operands, is, begins), others) rising h past =
    go (leb 1 most) refl past (rw is at rising) (λ mid later f. rules_few lexemes nowhere (most - 1) more mid high others later h f)
  where
    go : (some : Bool) → leb 1 most ≡ some → nowhere ≤ cond some (rule_past nowhere (most - 1) more) r.first
        → Rising low high (tree root operands (sides more))
        → ((mid : ℕ) → Rising mid high (sides more) → nowhere ≤ rule_past nowhere (most - 1) more → length more ≤ most - 1) → suc (length more) ≤ most
    go true e f (mid, above, below, by, inner, later) fewer = omega (arith, leb-true 1 most e, fewer mid later f)
    go false e f (mid, above, below, by, inner, later) fewer = absurd (omega (arith, first_low lexemes (first_word root), begins))
