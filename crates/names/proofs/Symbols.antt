-- What a symbol stands for, by its code.
use Prim.Native.Nat.{ℕ, zero, suc, ◌+◌, ◌-◌, ◌≤◌, ◌<◌}
use Prim.Native.String.{String}
use native.Mathlib.Omega.{arith}
use mathlib.Core.Path.{◌≡◌, refl, sym, ap, ◌∙◌}
use mathlib.Core.Bool.{Bool, true, false, cond, ◌&&◌, ◌||◌}
use mathlib.Core.List.{List, ◌++◌, map}
use lib.Dec.{eqb, leb, ltb}
use lib.ListN.{drop}
use lib.Seq.{get_or-append-add}
use mir.Val.{bool_byte}
use borrow.Author.Tests.{eq-eqb, eqb-false, eqb-true, le-leb, le-ltb, leb-false, leb-true, lt-leb, lt-ltb, ltb-true, ne_eqb}
use Rattle.forest.proofs.Bools.{and_left, and_right, apart, or_left, or_right}
use Rattle.operators.specs.Operators.{Operator, named, operator_at, operator_count, operator_of, operators}
use Rattle.operators.proofs.Table.{column, next_row}
use Rattle.terms.specs.Labels.{literal, operator}
use Rattle.derivation.specs.Derivation.{the}
use Rattle.lexemes.specs.code.Table.{symbol_code}
use Rattle.lexemes.specs.Reserved.{carried_commands, is_word, other_commands, other_words}
use Rattle.lexemes.specs.code.Codes.{extract_code, false_code, first_operator_code, known_count, other_code, true_code, words_before}
use Rattle.lexemes.proofs.ByCode.{code_for, word_code}
use Rattle.lexemes.proofs.Numbers.{by_place, is_known as isKnownWord, word_at}
use Rattle.terms.specs.code.Codes.{code_with, literal_kind, operator_kind}
use Rattle.words.specs.Trees.{symbol}
use Rattle.lexemes.specs.code.Reserved.{known_words, unreserved_words, word_number}
use Rattle.names.specs.Scopes.{View, is_known, symbol_means}
use Rattle.names.specs.code.Lookup.{nothing_code}
use Rattle.names.specs.code.Meanings.{Ordinary, SymbolMeans}
use Rattle.names.proofs.Lookup.{stands_for}

-- The words before the operators.
abbrev before : List String
before = unreserved_words ++ carried_commands ++ other_commands ++ other_words

-- The operators are the last of the known words.
operator_word : (o : ℕ) → word_at (words_before + o) ≡ (operator_at o).name
unfolding known_words
operator_word o = get_or-append-add before (map (λ (r : Operator). r.name) operators) o "" ∙ column (λ (r : Operator). r.name) o

-- The number of an operator by the number of its word, from operator o on.
abbrev operator_by : (k o : ℕ) → ℕ
operator_by k o = cond (leb (words_before + o) k && ltb k known_count) (k - words_before) operator_count

-- One operator more.
one_more : (k o : ℕ) → o < operator_count → cond (eqb k (words_before + o)) o (operator_by k (o + 1)) ≡ operator_by k o
one_more k o h = go (eqb k (words_before + o)) refl (leb (words_before + o) k) refl
  where
    go : (here : Bool) → eqb k (words_before + o) ≡ here → (above : Bool) → leb (words_before + o) k ≡ above
        → cond here o (operator_by k (o + 1)) ≡ cond (above && ltb k known_count) (k - words_before) operator_count
    go true e true l = let q = eqb-true k (words_before + o) e in rw (lt-ltb k known_count (omega arith)) (omega arith)
    go true e false l = let q = eqb-true k (words_before + o) e in let b = leb-false (words_before + o) k l in absurd (omega arith)
    go false e true l =
        let q = eqb-false k (words_before + o) e in
        let b = leb-true (words_before + o) k l in
        rw (le-leb (words_before + (o + 1)) k (omega arith))
    go false e false l = let b = leb-false (words_before + o) k l in rw (lt-leb (words_before + (o + 1)) k (omega arith))

-- Past the last operator.
past_last : (k : ℕ) → operator_count ≡ operator_by k operator_count
past_last k = go (leb known_count k) refl
  where
    go : (above : Bool) → leb known_count k ≡ above → operator_count ≡ cond (above && ltb k known_count) (k - words_before) operator_count
    go true e = rw (le-ltb k known_count (leb-true known_count k e))
    go false e = refl

module _ (name : List ℕ) where
  -- A name is the word of operator o just when it has its number.
  operator_test : (o : ℕ) → o < operator_count → is_word (operator_at o).name name ≡ eqb (word_number name) (words_before + o)
  operator_test o h = ap (λ (w : String). is_word w name) (sym (operator_word o)) ∙ by_place (words_before + o) (omega arith) name

  operator_from : (left o : ℕ) → left + o ≡ operator_count → named (drop o operators) o name ≡ operator_by (word_number name) o
  unfolding named operators
  operator_from zero o e = let q : o ≡ operator_count = omega arith in rw q (past_last (word_number name))
  operator_from (suc left) o e =
      let h : o < operator_count = omega arith in
      rw (next_row h, operator_test o h, operator_from left (o + 1) (omega arith)) (one_more (word_number name) o h)

  -- The number of the operator that a name is, by the number of the name.
  operator_number : operator_of name ≡ operator_by (word_number name) 0
  unfolding operator_of
  operator_number = operator_from operator_count 0 (omega arith)

-- The codes of operators.
pub operator_codes : (code : ℕ) → leb first_operator_code code && ltb code other_code ≡ true → (first_operator_code ≤ code) × (code < other_code)
operator_codes code h = (leb-true first_operator_code code (and_left (leb first_operator_code code) (ltb code other_code) h), ltb-true code other_code (and_right (leb first_operator_code code) (ltb code other_code) h))

module _ (name : List ℕ) {code : ℕ} (coded : code ≡ symbol_code name) where
  -- whether a name is a known word, by its code
  pub word_test : (word : String) → isKnownWord word ≡ true → is_word word name ≡ eqb code (code_for word)
  word_test word k = word_code word k (symbol 0 name) ∙ ap (λ (n : ℕ). eqb n (code_for word)) (sym coded)

  true_test : is_word "true" name ≡ eqb code true_code
  unfolding code_for
  true_test = word_test "true" refl

  false_test : is_word "false" name ≡ eqb code false_code
  unfolding code_for
  false_test = word_test "false" refl

  extract_test : is_word "extract" name ≡ eqb code extract_code
  unfolding code_for
  extract_test = word_test "extract" refl

  -- the number of an operator
  operator_is : first_operator_code ≤ code → code < other_code → operator_of name ≡ code - first_operator_code
  operator_is h l =
      operator_number name ∙ rw (le-leb (words_before + 0) (word_number name) (omega arith), lt-ltb (word_number name) known_count (omega arith)) (omega arith)

  -- any other word is no operator
  no-operator : leb first_operator_code code && ltb code other_code ≡ false → operator_of name ≡ operator_count
  no-operator h = operator_number name ∙ go (leb words_before (word_number name)) refl (ltb (word_number name) known_count) refl
    where
      go : (above : Bool) → leb words_before (word_number name) ≡ above → (below : Bool) → ltb (word_number name) known_count ≡ below
          → cond (above && below) (word_number name - words_before) operator_count ≡ operator_count
      go true a true b =
          let l = leb-true words_before (word_number name) a in
          let u = ltb-true (word_number name) known_count b in
          apart (sym (rw (le-leb first_operator_code code (omega arith), lt-ltb code other_code (omega arith)) at h))
      go true a false b = refl
      go false a below b = refl

  -- the symbol is `true` or `false`
  pub is_literal : {view : View} → eqb code true_code || eqb code false_code ≡ true → SymbolMeans view name (record { known = true; code = code_with literal_kind 0; value = bool_byte (eqb code true_code) })
  unfolding is_known symbol_means
  is_literal {view} h = go (eqb code true_code) true_test (eqb code false_code) false_test h
    where
      go : (t : Bool) → is_word "true" name ≡ t → (f : Bool) → is_word "false" name ≡ f → t || f ≡ true
          → SymbolMeans view name (record { known = true; code = code_with literal_kind 0; value = bool_byte t })
      go true et f ef h = stands_for (the (literal 0 1)) (rw et) (rw et)
      go false et true ef h = stands_for (the (literal 0 0)) (rw (et, ef)) (rw (et, ef))
      go false et false ef h = apart h

  module _ (no-literal : eqb code true_code || eqb code false_code ≡ false) where
    not-true : is_word "true" name ≡ false
    not-true = true_test ∙ or_left (eqb code true_code) (eqb code false_code) no-literal

    not-false : is_word "false" name ≡ false
    not-false = false_test ∙ or_right (eqb code true_code) (eqb code false_code) no-literal

    -- the symbol is `extract`
    pub is-extract : {view : View} → code ≡ extract_code → SymbolMeans view name (record { known = true; code = nothing_code; value = 0 })
    unfolding is_known symbol_means
    is-extract h =
        let o : ltb (operator_of name) operator_count ≡ true = lt-ltb (operator_of name) operator_count (omega (arith, operator_is (omega arith) (omega arith))) in
        let x = extract_test ∙ eq-eqb code extract_code h in
        record {
          known_is = rw (not-true, not-false, o);
          stated = record { code_is = rw (not-true, not-false, o, x); value_is = rw (not-true, not-false, o, x) };
        }

    module _ (no-extract : code ≡ extract_code → ⊥) where
      -- the symbol is another operator
      pub is_operator : {view : View} {r : ℕ} → leb first_operator_code code && ltb code other_code ≡ true
          → r ≡ code_with operator_kind (code - first_operator_code) → SymbolMeans view name (record { known = true; code = r; value = 0 })
      unfolding is_known symbol_means
      is_operator h e =
          let b = operator_codes code h in
          let is = operator_is b.0 b.1 in
          let o : ltb (operator_of name) operator_count ≡ true = lt-ltb (operator_of name) operator_count (omega arith) in
          let x = extract_test ∙ ne_eqb code extract_code no-extract in
          rw e (stands_for (the (operator (code - first_operator_code) 0 0)) (rw (not-true, not-false, o, x, is)) (rw (not-true, not-false, o)))

      -- the symbol is none of these
      pub is_ordinary : leb first_operator_code code && ltb code other_code ≡ false → Ordinary name
      is_ordinary h =
          record { not-true = not-true; not-false = not-false; no-operator = le-ltb (operator_of name) operator_count (omega (arith, no-operator h)) }
