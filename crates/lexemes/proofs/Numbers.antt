-- The numbers of words: a name is a known word just when it has that word's number.
use Prim.Native.Nat.{ℕ, suc, ◌+◌, ◌≤◌, ◌<◌}
use Prim.Native.String.{String}
use native.Mathlib.Omega.{arith}
use mathlib.Core.Path.{◌≡◌, refl, sym, ap, ◌∙◌}
use mathlib.Core.Bool.{Bool, true, false, cond}
use mathlib.Core.List.{List, [], ◌∷◌}
use lib.Dec.{eqb, ltb}
use lib.ListN.{length, get_or}
use borrow.Author.Tests.{eq-eqb, eqb-true, eqb-false, lt-ltb, ltb-true}
use Rattle.forest.specs.Lists.{same_bytes, spelling}
use Rattle.forest.proofs.Bools.{each}
use Rattle.forest.proofs.Searching.{same_bytes_lem}
use Rattle.word_kinds.specs.Decimals.{is_decimal, is_long}
use Rattle.word_kinds.specs.Kinds.{all_in}
use Rattle.operators.specs.Operators.{operators}
use Rattle.lexemes.specs.Reserved.{is_word}
use Rattle.lexemes.specs.code.Codes.{known_count}
use Rattle.lexemes.specs.code.Reserved.{known_words, place_among, word_number}

-- a list of bytes is the same as itself
same_self : (u : List ℕ) → same_bytes u u ≡ true
unfolding same_bytes
same_self [] = refl
same_self (a ∷ u) = rw (eq-eqb a a refl) (same_self u)

-- a name's place is counted on
place_from : (words : List String) (k : ℕ) (name : List ℕ) → k ≤ place_among words k name
unfolding place_among
place_from [] k name = omega arith
place_from (w ∷ more) k name = go (is_word w name) (place_from more (k + 1) name)
  where
    go : (here : Bool) → k + 1 ≤ place_among more (k + 1) name → k ≤ cond here k (place_among more (k + 1) name)
    go true h = omega arith
    go false h = omega arith

-- and not past the last of the words
place_within : (words : List String) (k : ℕ) (name : List ℕ) → place_among words k name ≤ k + length words
unfolding place_among
place_within [] k name = omega arith
place_within (w ∷ more) k name = go (is_word w name) (place_within more (k + 1) name)
  where
    go : (here : Bool) → place_among more (k + 1) name ≤ k + 1 + length more → cond here k (place_among more (k + 1) name) ≤ k + suc (length more)
    go true h = omega arith
    go false h = omega arith

pub place_low : (name : List ℕ) → place_among known_words 0 name ≤ known_count
unfolding known_words operators
place_low name = place_within known_words 0 name

-- names that have one place are equal
same_place : (words : List String) (k : ℕ) (u v : List ℕ) → place_among words k u ≡ place_among words k v → place_among words k v < k + length words → u ≡ v
unfolding place_among
same_place [] k u v e h = absurd (omega arith)
same_place (w ∷ more) k u v e h =
    go (is_word w u) refl (is_word w v) refl e h (place_from more (k + 1) u) (place_from more (k + 1) v) (same_place more (k + 1) u v)
  where
    go : (a : Bool) → is_word w u ≡ a → (b : Bool) → is_word w v ≡ b
        → cond a k (place_among more (k + 1) u) ≡ cond b k (place_among more (k + 1) v)
        → cond b k (place_among more (k + 1) v) < k + suc (length more)
        → k + 1 ≤ place_among more (k + 1) u
        → k + 1 ≤ place_among more (k + 1) v
        → (place_among more (k + 1) u ≡ place_among more (k + 1) v → place_among more (k + 1) v < k + 1 + length more → u ≡ v)
        → u ≡ v
    go true eu true ev e h x y later = sym (same_bytes_lem _ u eu) ∙ same_bytes_lem _ v ev
    go true eu false ev e h x y later = absurd (omega arith)
    go false eu true ev e h x y later = absurd (omega arith)
    go false eu false ev e h x y later = later e (omega arith)

-- the number of a word
abbrev pub number_of : String → ℕ
number_of word = word_number (spelling word)

-- whether a word has a number
abbrev pub is_known : String → Bool
is_known word = ltb (number_of word) (length known_words)

-- a name that has a known word's number is no constant's word, and its number is its place
placed : (name : List ℕ) → word_number name < length known_words → word_number name ≡ place_among known_words 0 name
unfolding word_number
placed name h = go (is_decimal name) h
  where
    go : (d : Bool) → cond d (length known_words + cond (is_long name) 2 1) (place_among known_words 0 name) < length known_words
        → cond d (length known_words + cond (is_long name) 2 1) (place_among known_words 0 name) ≡ place_among known_words 0 name
    go true h = absurd (omega arith)
    go false h = refl

-- a name is a known word just when it has the word's number
pub by_number : (word : String) → is_known word ≡ true → (name : List ℕ) → is_word word name ≡ eqb (word_number name) (number_of word)
by_number word known name = go (is_word word name) refl (eqb (word_number name) (number_of word)) refl
  where
    go : (a : Bool) → is_word word name ≡ a → (b : Bool) → eqb (word_number name) (number_of word) ≡ b → a ≡ b
    go true ea true eb = refl
    go false ea false eb = refl
    go true ea false eb = absurd (eqb-false _ _ eb (ap word_number (sym (same_bytes_lem _ name ea))))
    go false ea true eb =
        let below = ltb-true (number_of word) (length known_words) known in
        let same : word_number name ≡ number_of word = eqb-true _ _ eb in
        let here = placed name (omega arith) in
        let there = placed (spelling word) below in
        let e : name ≡ spelling word = same_place known_words 0 name (spelling word) (sym here ∙ same ∙ there) (omega arith) in
        sym ea ∙ ap (is_word word) e ∙ same_self (spelling word)

-- known word k
abbrev pub word_at : ℕ → String
word_at k = get_or known_words k ""

-- no two known words are the same: each has the number of its place
pub number_at : (k : ℕ) → k < known_count → number_of (word_at k) ≡ k
unfolding all_in is_decimal known_words operators place_among same_bytes word_number
number_at k h = eqb-true _ _ (each known_count (λ (j : ℕ). eqb (number_of (word_at j)) j) tt k h)

-- a name is known word k just when its number is k
pub by_place : (k : ℕ) → k < known_count → (name : List ℕ) → is_word (word_at k) name ≡ eqb (word_number name) k
unfolding known_words operators
by_place k h name =
    let e = number_at k h in
    by_number (word_at k) (lt-ltb (number_of (word_at k)) (length known_words) (omega arith)) name ∙ ap (eqb (word_number name)) e
