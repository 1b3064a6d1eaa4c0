-- Words of items that stand in a text: each is below the number of its words, so that a place that is not below it is no fault.
use Prim.Native.Nat.{ℕ, zero, suc, ◌≤◌, ◌<◌}
use native.Mathlib.Omega.{arith}
use mathlib.Core.Bool.{Bool, true, false, cond, ◌&&◌}
use mathlib.Core.List.{List}
use mathlib.Core.Path.{◌≡◌, refl, sym}
use lib.Dec.{ltb}
use borrow.Author.Tests.{ltb-false}
use Rattle.forest.specs.Forest.{none, tree}
use Rattle.forest.proofs.Bools.{apart}
use Rattle.words.specs.Trees.{Lexeme, keyword, list, literal, numeral, symbol, word_of}
use Rattle.lexemes.specs.Lists.{Items, after, close_of, inside, is_list, item, numeral_of}
use Rattle.lexemes.specs.code.Standing.{Source, Stands, bracketed, ends, word}
use Rattle.lexemes.proofs.Standing.{forward, here}
use Rattle.written_sorts.specs.Written.{sort_of, sort_place}
use Rattle.written_sorts.specs.declared.Fault.TheVariants.{TooWide}
use Rattle.script.specs.code.Tables.{CommandAt}

-- The words of a lexeme are below n.
pub record WordsBelow (n : ℕ) (l : Lexeme) : Type 0 where
  pub first : word_of l < n
  pub last : close_of l < n

-- The words of all items are below n.
unfoldable pub Below : (n : ℕ) → Items → Type 0
Below n none = Unit {0}
Below n (tree l ops more) = WordsBelow n l × Below n ops × Below n more

-- An item that is no list is closed by itself.
closed_by_itself : (l : Lexeme) → is_list l ≡ false → close_of l ≡ word_of l
closed_by_itself (list at close) h = apart (sym h)
closed_by_itself (symbol at name) h = refl
closed_by_itself (numeral at v) h = refl
closed_by_itself (keyword at name) h = refl
closed_by_itself (literal at width v written) h = refl

-- The words of items are below the word that they stand before.
pub stands_below : (n : ℕ) {s : Source} {i e : ℕ} {F : Items} → Stands s i F e → e ≤ n → Below n F
unfolding Below
stands_below n ends h = tt
stands_below n (word {l = l} w rest) h =
    let r = forward rest in
    (record { first = omega (arith, w.placed); last = omega (arith, w.placed, closed_by_itself l w.no_list) }, tt, stands_below n rest h)
stands_below n (bracketed b inner rest) h =
    let i = forward inner in
    let r = forward rest in
    (record { first = omega arith; last = omega arith }, stands_below n inner (omega arith), stands_below n rest h)

-- The words of one of the items are below n.
pub item_below : {n : ℕ} → 0 < n → (k : ℕ) (F : Items) → Below n F → WordsBelow n (item k F)
unfolding Below item
item_below h k none b = record { first = h; last = h }
item_below h zero (tree l ops more) b = b.0
item_below h (suc k) (tree l ops more) b = item_below h k more b.2

-- The words of the items from one of them on are below n.
pub after_below : (n k : ℕ) (F : Items) → Below n F → Below n (after k F)
unfolding Below after
after_below n zero F b = b
after_below n (suc k) none b = tt
after_below n (suc k) (tree l ops more) b = after_below n k more b.2

-- The words of what an item holds are below n.
pub inside_below : (n k : ℕ) (F : Items) → Below n F → Below n (inside k F)
unfolding Below inside
inside_below n k none b = tt
inside_below n zero (tree l ops more) b = b.1
inside_below n (suc k) (tree l ops more) b = inside_below n k more b.2

-- A test whose word is not at fault has passed.
pub no_fault : (test : Bool) {nowhere place : ℕ} → place < nowhere → nowhere ≤ cond test nowhere place → test ≡ true
no_fault true h f = refl
no_fault false h f = absurd (omega arith)

-- The words of a command are below the number of words.
pub command_below : {text lexemes : List ℕ} {i nowhere : ℕ} (x : CommandAt text lexemes i nowhere) → Below nowhere x.command
command_below {nowhere = nowhere} x =
    let list = (here refl x.stands).a_list refl in
    stands_below nowhere list.stands (omega (arith, x.lawful.ends list.close (omega (arith, list.closes))))

-- And so is the word at which it stands.
pub command_word : {text lexemes : List ℕ} {i nowhere : ℕ} → CommandAt text lexemes i nowhere → i < nowhere
command_word {i = i} x = x.lawful.ends i (omega (arith, (here refl x.stands).code))

-- A sort whose width is not past the limit is at most 64 wide.
pub sort_narrow : (nowhere : ℕ) (l : Lexeme) (ops : Items) → word_of (item 2 ops) < nowhere → nowhere ≤ sort_place TooWide nowhere l ops → sort_of l ops ≤ 64
sort_narrow nowhere l ops below h = go (is_list l) (ltb 64 (numeral_of (item 2 ops))) refl h
  where
    go : (listed wide : Bool) → ltb 64 (numeral_of (item 2 ops)) ≡ wide → nowhere ≤ cond (listed && wide) (word_of (item 2 ops)) nowhere
        → cond listed (numeral_of (item 2 ops)) 0 ≤ 64
    go true true e f = absurd (omega arith)
    go true false e f = ltb-false 64 (numeral_of (item 2 ops)) e
    go false wide e f = omega arith
