-- The number of a word, by the search through the words before the operators and the search through the operators.
use Prim.Native.Nat.{ℕ, ◌+◌, ◌-◌, ◌≤◌, ◌<◌}
use native.Mathlib.Omega.{arith}
use Prim.Native.String.{String}
use mathlib.Core.Path.{◌≡◌, refl, sym, ap, ◌∙◌}
use mathlib.Core.Bool.{Bool, true, false, cond}
use mathlib.Core.List.{List, [], ◌∷◌, map}
use lib.Dec.{ltb}
use borrow.Author.Tests.{le-ltb, lt-ltb}
use Rattle.forest.specs.Lists.{spelling}
use Rattle.forest.specs.Search.{place_in}
use Rattle.forest.specs.code.Search.{TablesOf, words_in}
use Rattle.forest.proofs.Searching.{place_append, place_later, tables_words}
use Rattle.word_kinds.specs.Decimals.{is_decimal, is_long}
use Rattle.operators.specs.Operators.{operator_of, operators}
use Rattle.operators.specs.code.Operators.{spellings}
use Rattle.operators.proofs.Naming.{named_spellings}
use Rattle.lexemes.specs.code.Codes.{decimal_code, first_code, known_count, long_decimal_code, words_before}
use Rattle.lexemes.specs.code.Reserved.{first_spellings, known_words, place_among, word_number}
use Rattle.lexemes.proofs.Numbers.{place_low}

-- the place among words is that of their bytes
among_spellings : (words : List String) (k : ℕ) (name : List ℕ) → place_among words k name ≡ place_in (map spelling words) k name
unfolding place_among place_in
among_spellings [] k name = refl
among_spellings (w ∷ words) k name = rw (among_spellings words (k + 1) name)

-- no word's number is more than two past the last of the words
pub number_bound : (name : List ℕ) {number : ℕ} → number ≡ word_number name → number ≤ known_count + 2
unfolding word_number known_words operators
number_bound name e = rw e (go (is_decimal name) (is_long name) (place_low name))
  where
    go : (d long : Bool) {place : ℕ} → place ≤ known_count → cond d (known_count + cond long 2 1) place ≤ known_count + 2
    go true true h = omega arith
    go true false h = omega arith
    go false long h = omega arith

-- the word of a constant
module _ (name : List ℕ) {d long : Bool} (decimal : d ≡ is_decimal name) (digits : long ≡ is_long name) (is : d ≡ true) where
  pub number_long : long ≡ true → long_decimal_code - first_code ≡ word_number name
  unfolding word_number known_words operators
  number_long h = rw (sym decimal ∙ is, sym digits ∙ h)

  pub number_decimal : long ≡ false → decimal_code - first_code ≡ word_number name
  unfolding word_number known_words operators
  number_decimal h = rw (sym decimal ∙ is, sym digits ∙ h)

module _ {names starts slots : List ℕ} (tables : TablesOf first_spellings names starts slots) (name : List ℕ) {d : Bool} (decimal : d ≡ is_decimal name)
    (is : d ≡ false) (place : ℕ) (found : place ≡ place_in (words_in names starts) 0 name) where
  -- the two searches, one after the other
  number_parts : word_number name ≡ cond (ltb place words_before) place (place_in (spellings operators) words_before name)
  unfolding word_number first_spellings known_words operators
  number_parts =
      let first : place_in first_spellings 0 name ≡ place = sym (found ∙ ap (λ (words : List (List ℕ)). place_in words 0 name) (tables_words tables)) in
      rw (sym decimal ∙ is) (among_spellings known_words 0 name ∙ place_append first_spellings (spellings operators) 0 name ∙ rw first)

  -- the word is one of those before the operators
  pub number_first : place < words_before → place ≡ word_number name
  number_first h = sym (number_parts ∙ rw (lt-ltb place words_before h))

  -- the word is none of them
  pub number_operator : words_before ≤ place → {o : ℕ} → o ≡ operator_of name → words_before + o ≡ word_number name
  unfolding operator_of
  number_operator h e =
      let names = spellings operators in
      let behind : place_in names words_before name ≡ words_before + place_in names 0 name = place_later names words_before 0 name in
      sym (number_parts ∙ rw (le-ltb place words_before h, behind, e, named_spellings operators 0 name))
