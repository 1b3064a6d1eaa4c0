-- What an item is, by the code of the word at which it stands.
use Prim.Native.Nat.{ℕ, zero, suc, ◌+◌, ◌≤◌, ◌<◌}
use Prim.Native.String.{String}
use native.Mathlib.Omega.{arith}
use mathlib.Core.Path.{◌≡◌, refl, sym, ap, ap₂, ◌∙◌}
use mathlib.Core.Bool.{Bool, true, false, ◌&&◌, ◌||◌, cond}
use mathlib.Core.List.{List, [], ◌∷◌, map}
use lib.Dec.{eqb, leb, ltb}
use borrow.Author.Tests.{eq-eqb, eqb-false, eqb-true, le-leb, le-ltb, leb-false, leb-true, lt-leb, lt-ltb, ltb-true, ne_eqb}
use Rattle.forest.specs.Forest.{none, tree}
use Rattle.forest.specs.Lists.{among, same_bytes, spelling}
use Rattle.forest.proofs.Bools.{and_left, and_right, apart}
use Rattle.forest.proofs.Lists.{among_after, one_by_one}
use Rattle.forest.proofs.Searching.{same_bytes_lem}
use Rattle.words.specs.Trees.{Lexeme, keyword, list, literal, numeral, symbol}
use Rattle.word_kinds.specs.Decimals.{is_decimal, is_long}
use Rattle.word_kinds.specs.Kinds.{all_in}
use Rattle.operators.specs.Operators.{operators}
use Rattle.lexemes.specs.Reserved.{is_one_of, is_word}
use Rattle.lexemes.specs.code.Codes.{first_code, known_count, long_decimal_code, other_code, other_keyword_code, weight_code, weights_code}
use Rattle.lexemes.specs.code.Reserved.{known_words, place_among, word_number}
use Rattle.lexemes.proofs.Numbers.{by_number, is_known, number_of, place_low}
use Rattle.lexemes.specs.Lists.{Items, after, is, is_among, is_constant_word, is_key, is_keyword, is_list, is_numeral, is_symbol, item, name_of}
use Rattle.lexemes.specs.code.Table.{close_code, code_of, keyword_code, literal_code, numeral_code, open_code, symbol_code}

-- the code of a known word; where this unfolds it computes
unfoldable pub code_for : String → ℕ
unfolding all_in is_decimal known_words operators place_among same_bytes word_number
code_for word = first_code + number_of word

pub code-for : (word : String) → code_for word ≡ first_code + number_of word
unfolding code_for
code-for word = refl

nothing_known : word_number [] ≡ known_count
unfolding all_in is_decimal known_words operators place_among same_bytes word_number
nothing_known = refl

known_below : (word : String) → is_known word ≡ true → number_of word < known_count
unfolding known_words operators
known_below word k = ltb-true _ _ k

-- numbers are the same just when the codes of their words are
same_codes : (m n : ℕ) → eqb m n ≡ eqb (first_code + m) (first_code + n)
same_codes m n = go (eqb m n) refl
  where
    go : (b : Bool) → eqb m n ≡ b → b ≡ eqb (first_code + m) (first_code + n)
    go true e = sym (eq-eqb (first_code + m) (first_code + n) (omega (arith, eqb-true m n e)))
    go false e = let ne = eqb-false m n e in sym (ne_eqb (first_code + m) (first_code + n) (λ h. ne (omega arith)))

-- the codes of keywords stand before those of symbols
pub keyword_low : (name : List ℕ) → keyword_code name < first_code
unfolding keyword_code
keyword_low name = go (is_word ":weights" name) (is_word ":weight" name)
  where
    go : (a b : Bool) → cond a weights_code (cond b weight_code other_keyword_code) < first_code
    go true b = omega arith
    go false true = omega arith
    go false false = omega arith

-- and behind those of other words
pub keyword_high : (name : List ℕ) → weights_code ≤ keyword_code name
unfolding keyword_code
keyword_high name = go (is_word ":weights" name) (is_word ":weight" name)
  where
    go : (a b : Bool) → weights_code ≤ cond a weights_code (cond b weight_code other_keyword_code)
    go true b = omega arith
    go false true = omega arith
    go false false = omega arith

-- what is no symbol is no known word
no_word : (word : String) → is_known word ≡ true → (c : ℕ) → c < first_code → is_word word [] ≡ eqb c (code_for word)
no_word word k c h =
    by_number word k []
    ∙ ne_eqb (word_number []) (number_of word) (λ e. absurd (omega (arith, known_below word k, nothing_known)))
    ∙ sym (ne_eqb c (code_for word) (λ e. omega (arith, code-for word)))

-- an item is a known word just when it has the word's code
pub word_code : (word : String) → is_known word ≡ true → (l : Lexeme) → is word l ≡ eqb (code_of l) (code_for word)
word_code word k (symbol at name) =
    by_number word k name ∙ same_codes (word_number name) (number_of word) ∙ ap (eqb (first_code + word_number name)) (sym (code-for word))
word_code word k (list at close) = no_word word k open_code (omega arith)
word_code word k (numeral at v) = no_word word k numeral_code (omega arith)
word_code word k (keyword at name) = no_word word k (keyword_code name) (keyword_low name)
word_code word k (literal at width v written) = no_word word k literal_code (omega arith)

-- each item has a code
pub code_pos : (l : Lexeme) → 0 < code_of l
code_pos (symbol at name) = omega arith
code_pos (list at close) = omega arith
code_pos (numeral at v) = omega arith
code_pos (keyword at name) = omega (arith, keyword_high name)
code_pos (literal at width v written) = omega arith

-- no item has the code of a closing bracket
pub not_close : (l : Lexeme) → eqb (code_of l) close_code ≡ false
not_close (symbol at name) = ne_eqb (first_code + word_number name) close_code (λ e. omega arith)
not_close (list at close) = refl
not_close (numeral at v) = refl
not_close (keyword at name) = ne_eqb (keyword_code name) close_code (λ e. omega (arith, keyword_high name))
not_close (literal at width v written) = refl

pub symbol-code : (l : Lexeme) → is_symbol l ≡ leb first_code (code_of l)
symbol-code (symbol at name) = sym (le-leb first_code (first_code + word_number name) (omega arith))
symbol-code (list at close) = refl
symbol-code (numeral at v) = refl
symbol-code (keyword at name) = sym (lt-leb first_code (keyword_code name) (keyword_low name))
symbol-code (literal at width v written) = refl

pub list_code : (l : Lexeme) → is_list l ≡ eqb (code_of l) open_code
list_code (symbol at name) = sym (ne_eqb (first_code + word_number name) open_code (λ e. omega arith))
list_code (list at close) = refl
list_code (numeral at v) = refl
list_code (keyword at name) = sym (ne_eqb (keyword_code name) open_code (λ e. omega (arith, keyword_high name)))
list_code (literal at width v written) = refl

pub numeral-code : (l : Lexeme) → is_numeral l ≡ eqb (code_of l) numeral_code
numeral-code (symbol at name) = sym (ne_eqb (first_code + word_number name) numeral_code (λ e. omega arith))
numeral-code (list at close) = refl
numeral-code (numeral at v) = refl
numeral-code (keyword at name) = sym (ne_eqb (keyword_code name) numeral_code (λ e. omega (arith, keyword_high name)))
numeral-code (literal at width v written) = refl

-- an item is a keyword just when its code is that of one
pub keyword-code : (l : Lexeme) → is_keyword l ≡ leb weights_code (code_of l) && ltb (code_of l) first_code
keyword-code (keyword at name) =
    sym (ap₂ ◌&&◌ (le-leb weights_code (keyword_code name) (keyword_high name)) (lt-ltb (keyword_code name) first_code (keyword_low name)))
keyword-code (symbol at name) =
    let low : leb weights_code (first_code + word_number name) ≡ true = le-leb weights_code (first_code + word_number name) (omega arith) in
    sym (ap₂ ◌&&◌ low (le-ltb (first_code + word_number name) first_code (omega arith)))
keyword-code (list at close) = refl
keyword-code (numeral at v) = refl
keyword-code (literal at width v written) = refl

-- no symbol has the code of a keyword
no_key : (name : List ℕ) (c : ℕ) → c < first_code → false ≡ eqb (first_code + word_number name) c
no_key name c h = sym (ne_eqb (first_code + word_number name) c (λ e. omega arith))

-- an item is `:weights` just when it has its code
pub weights-code : (l : Lexeme) → is_key ":weights" l ≡ eqb (code_of l) weights_code
unfolding keyword_code same_bytes
weights-code (keyword at name) = go (is_word ":weights" name) (is_word ":weight" name)
  where
    go : (a b : Bool) → a ≡ eqb (cond a weights_code (cond b weight_code other_keyword_code)) weights_code
    go true b = refl
    go false true = refl
    go false false = refl
weights-code (symbol at name) = no_key name weights_code (omega arith)
weights-code (list at close) = refl
weights-code (numeral at v) = refl
weights-code (literal at width v written) = refl

-- no keyword is both
not_both : (name : List ℕ) → is_word ":weights" name ≡ true → is_word ":weight" name ≡ false
unfolding same_bytes
not_both name e = rw (← same_bytes_lem (spelling ":weights") name e)

-- no bytes are no keyword
no_weight : is_word ":weight" [] ≡ false
unfolding same_bytes
no_weight = refl

-- an item is `:weight` just when it has its code
pub weight-code : (l : Lexeme) → is_key ":weight" l ≡ eqb (code_of l) weight_code
unfolding keyword_code same_bytes
weight-code (keyword at name) = go (is_word ":weights" name) refl (is_word ":weight" name) refl
  where
    go : (a : Bool) → is_word ":weights" name ≡ a → (b : Bool) → is_word ":weight" name ≡ b
        → b ≡ eqb (cond a weights_code (cond b weight_code other_keyword_code)) weight_code
    go true e true f = apart (sym (not_both name e) ∙ f)
    go true e false f = refl
    go false e true f = refl
    go false e false f = refl
weight-code (symbol at name) = no_key name weight_code (omega arith)
weight-code (list at close) = no_weight
weight-code (numeral at v) = no_weight
weight-code (literal at width v written) = no_weight

-- the code of the word at which items stand that a bracket closes: that of the first of them, else of the bracket
abbrev pub front_code : Items → ℕ
front_code none = close_code
front_code (tree l ops more) = code_of l

-- a test of item n that goes by its code, and fails where there is no such item
pub by_front : (p : Lexeme → Bool) (q : ℕ → Bool) → ((l : Lexeme) → p l ≡ q (code_of l)) → p (numeral 0 0) ≡ q close_code
    → (n : ℕ) (F : Items) → p (item n F) ≡ q (front_code (after n F))
unfolding after item
by_front p q same past zero none = past
by_front p q same past (suc n) none = past
by_front p q same past zero (tree l ops more) = same l
by_front p q same past (suc n) (tree l ops more) = by_front p q same past n more

pub front_word : (word : String) → is_known word ≡ true → (n : ℕ) (F : Items) → is word (item n F) ≡ eqb (front_code (after n F)) (code_for word)
front_word word k = by_front (is word) (λ (c : ℕ). eqb c (code_for word)) (word_code word k) (no_word word k close_code (omega arith))

-- keywords among items, by the code of the word at which they stand
pub front_keyword : (n : ℕ) (F : Items) → is_keyword (item n F) ≡ leb weights_code (front_code (after n F)) && ltb (front_code (after n F)) first_code
front_keyword = by_front is_keyword (λ (c : ℕ). leb weights_code c && ltb c first_code) keyword-code refl

pub front_weights : (n : ℕ) (F : Items) → is_key ":weights" (item n F) ≡ eqb (front_code (after n F)) weights_code
unfolding same_bytes
front_weights = by_front (is_key ":weights") (λ (c : ℕ). eqb c weights_code) weights-code refl

pub front_weight : (n : ℕ) (F : Items) → is_key ":weight" (item n F) ≡ eqb (front_code (after n F)) weight_code
front_weight = by_front (is_key ":weight") (λ (c : ℕ). eqb c weight_code) weight-code no_weight

-- no bytes are no constant's word
no_constant : is_decimal [] ≡ false
unfolding is_decimal
no_constant = refl

-- whether an item is a constant's word, by its code
pub constant-code : (l : Lexeme) → is_constant_word l ≡ ltb other_code (code_of l)
unfolding known_words operators word_number
constant-code (symbol at name) = go (is_decimal name) refl (is_long name)
  where
    go : (d : Bool) → is_decimal name ≡ d → (long : Bool)
        → d ≡ ltb other_code (first_code + cond d (known_count + cond long 2 1) (place_among known_words 0 name))
    go true e true = refl
    go true e false = refl
    go false e long = sym (le-ltb other_code (first_code + place_among known_words 0 name) (omega (arith, place_low name)))
constant-code (list at close) = no_constant
constant-code (numeral at v) = no_constant
constant-code (keyword at name) = no_constant ∙ sym (le-ltb other_code (keyword_code name) (omega (arith, keyword_low name)))
constant-code (literal at width v written) = no_constant

pub front_constant : (n : ℕ) (F : Items) → is_constant_word (item n F) ≡ ltb other_code (front_code (after n F))
front_constant = by_front is_constant_word (ltb other_code) constant-code no_constant

-- whether it has too many digits
pub long_code : (name : List ℕ) → is_decimal name ≡ true → is_long name ≡ eqb (symbol_code name) long_decimal_code
unfolding known_words operators word_number
long_code name e = rw e (go (is_long name))
  where
    go : (long : Bool) → long ≡ eqb (first_code + (known_count + cond long 2 1)) long_decimal_code
    go true = refl
    go false = refl

-- whether all of the words are known
abbrev pub all_known : List String → Bool
all_known [] = true
all_known (w ∷ more) = is_known w && all_known more

-- a name is one of known words just when the code by which each is told is among theirs
one_of : (name : List ℕ) (c : ℕ) → ((w : String) → is_known w ≡ true → is_word w name ≡ eqb c (code_for w))
    → (words : List String) → all_known words ≡ true → is_one_of words name ≡ among c (map code_for words)
unfolding is_one_of
one_of name c tell [] k = refl
one_of name c tell (w ∷ more) k =
    ap₂ ◌||◌ (tell w (and_left (is_known w) (all_known more) k)) (one_of name c tell more (and_right (is_known w) (all_known more) k))

pub words_code : (words : List String) → all_known words ≡ true → (l : Lexeme) → is_among words l ≡ among_after false (code_of l) (map code_for words)
words_code words k l = one_of (name_of l) (code_of l) (λ w kw. word_code w kw l) words k ∙ sym (one_by_one false (code_of l) (map code_for words))

pub front_words : (words : List String) → all_known words ≡ true → (n : ℕ) (F : Items)
    → is_among words (item n F) ≡ among_after false (front_code (after n F)) (map code_for words)
front_words words k n F =
    one_of (name_of (item n F)) (front_code (after n F)) (λ w kw. front_word w kw n F) words k
    ∙ sym (one_by_one false (front_code (after n F)) (map code_for words))

-- k numbers from a number on
abbrev pub count_from : (a k : ℕ) → List ℕ
count_from a zero = []
count_from a (suc k) = a ∷ count_from (suc a) k

-- a number is among them just when it is neither below the first nor past the last
pub among_count : (n a k : ℕ) → among n (count_from a k) ≡ leb a n && ltb n (a + k)
among_count n a zero = go (leb a n) refl
  where
    go : (b : Bool) → leb a n ≡ b → false ≡ b && ltb n (a + 0)
    go false e = refl
    go true e = sym (le-ltb n (a + 0) (omega (arith, leb-true a n e)))
among_count n a (suc k) = rw (among_count n (suc a) k) (go (eqb n a) refl)
  where
    further : (b : Bool) → leb a n ≡ b → (n ≡ a → ⊥) → leb (suc a) n ≡ b
    further true h ne = le-leb (suc a) n (omega (arith, leb-true a n h))
    further false h ne = lt-leb (suc a) n (omega (arith, leb-false a n h))

    go : (b : Bool) → eqb n a ≡ b → b || leb (suc a) n && ltb n (suc a + k) ≡ leb a n && ltb n (a + suc k)
    go true e = let q = eqb-true n a e in rw (le-leb a n (omega arith), lt-ltb n (a + suc k) (omega arith))
    go false e = ap₂ ◌&&◌ (further (leb a n) refl (eqb-false n a e)) (ap (ltb n) (omega arith))

-- items begin with one of known words whose codes follow one another
pub front_range : (words : List String) → all_known words ≡ true → (a k : ℕ) → map code_for words ≡ count_from a k → (F : Items)
    → is_among words (item 0 F) ≡ leb a (front_code F) && ltb (front_code F) (a + k)
unfolding after
front_range words known a k e F =
    one_of (name_of (item 0 F)) (front_code F) (λ w kw. front_word w kw 0 F) words known ∙ ap (among (front_code F)) e ∙ among_count (front_code F) a k
