-- The test of one new name.
use Prim.Native.Nat.{ℕ, ◌-◌}
use Prim.Native.String.{String}
use native.Mathlib.Nat.{zero-add}
use native.Mathlib.Omega.{arith}
use mathlib.Core.Path.{◌≡◌, refl, sym, ap₂, ◌∙◌}
use mathlib.Core.Bool.{Bool, true, false, cond, ◌&&◌, ◌||◌, or_assoc, or-false}
use mathlib.Core.List.{List, [], ◌∷◌, ◌++◌, map}
use lib.Dec.{leb, ltb}
use borrow.Author.Tests.{le-leb, le-ltb, leb-false, leb-true, lt-ltb}
use Rattle.forest.specs.Forest.{none, tree}
use Rattle.forest.specs.Lists.{same_bytes}
use Rattle.forest.proofs.Bools.{apart}
use Rattle.operators.specs.Operators.{Operator, operator_count, operators}
use Rattle.word_kinds.specs.Decimals.{is_decimal}
use Rattle.word_kinds.specs.Kinds.{all_in}
use Rattle.lexemes.specs.Reserved.{carried_commands, is_one_of, is_reserved, is_word, other_commands, other_words, reserved_words}
use Rattle.lexemes.specs.code.Reserved.{known_words, place_among, word_number}
use Rattle.words.specs.Trees.{Lexeme, keyword, list, literal, numeral, symbol, word_of}
use Rattle.lexemes.specs.Lists.{Items, is_symbol, item, name_of}
use Rattle.lexemes.specs.code.Standing.{Stands, WordIs}
use Rattle.lexemes.specs.code.Codes.{first_operator_code, other_code, set_logic_code}
use Rattle.lexemes.specs.code.Table.{code_at, symbol_code}
use Rattle.lexemes.proofs.ByCode.{code_for, front_range}
use Rattle.written_sorts.proofs.Walked.{symbol_word, word_is}
use Rattle.forest.specs.Search.{place_in}
use Rattle.names.specs.Scopes.{is_named}
use Rattle.names.specs.code.Lookup.{bytes_at, source_of}
use Rattle.names.specs.code.Table.{defined_row, function_row, names_from, variable_row}
use Rattle.names.specs.code.New.{NameTested, NewName, names_in}
use Rattle.names.specs.declared.Scope.{Scope}
use Rattle.names.proofs.Members.{named_both, named_in_rows}

-- The operators' names.
abbrev operator_words : List String
operator_words = map (λ (o : Operator). o.name) operators

-- The other reserved words.
abbrev command_words : List String
command_words = carried_commands ++ other_commands ++ other_words

-- A name is one of two lists of words just when it is one of the one or of the other.
one_of_both : (words others : List String) (name : List ℕ) → is_one_of (words ++ others) name ≡ is_one_of words name || is_one_of others name
unfolding is_one_of
one_of_both [] others name = refl
one_of_both (w ∷ more) others name =
    rw (one_of_both more others name) (sym (or_assoc (is_word w name) (is_one_of more name) (is_one_of others name)))

-- Two ranges, the one behind the other.
two_ranges : (n : ℕ) → leb first_operator_code n && ltb n other_code || leb set_logic_code n && ltb n first_operator_code ≡ leb set_logic_code n && ltb n other_code
two_ranges n = go (leb first_operator_code n) refl
  where
    go : (high : Bool) → leb first_operator_code n ≡ high
        → high && ltb n other_code || leb set_logic_code n && ltb n first_operator_code ≡ leb set_logic_code n && ltb n other_code
    go true e = let l = leb-true first_operator_code n e in rw (le-leb set_logic_code n (omega arith), le-ltb n first_operator_code l) (or-false (ltb n other_code))
    go false e = let l = leb-false first_operator_code n e in rw (lt-ltb n first_operator_code l, lt-ltb n other_code (omega arith))

-- Whether a name is reserved, by its code.
reserved_code : (name : List ℕ) → is_reserved name ≡ leb set_logic_code (symbol_code name) && ltb (symbol_code name) other_code
unfolding all_in code_for is_decimal is_reserved item known_words operators place_among reserved_words same_bytes word_number
reserved_code name =
    let F : Items = tree (symbol 0 name) none none in
    one_of_both operator_words command_words name
    ∙ ap₂ ◌||◌ (front_range operator_words refl first_operator_code operator_count refl F) (front_range command_words refl set_logic_code (first_operator_code - set_logic_code) refl F)
    ∙ two_ranges (symbol_code name)

-- The symbol at a word: its code, its bytes and its place.
pub record SymbolAt (text lexemes : List ℕ) (i : ℕ) (l : Lexeme) : Type 0 where
  pub coded : code_at lexemes i ≡ symbol_code (name_of l)
  pub spelled : bytes_at text lexemes i ≡ name_of l
  pub is_placed : word_of l ≡ i

pub symbol_at : {text lexemes : List ℕ} {i e : ℕ} {l : Lexeme} {ops more : Items} → Stands (source_of text lexemes) i (tree l ops more) e
    → is_symbol l ≡ true → SymbolAt text lexemes i l
symbol_at {text} {lexemes} {i} {l = l} stands s = go l s (word_is stands (symbol_word l s))
  where
    go : (l : Lexeme) → is_symbol l ≡ true → WordIs (source_of text lexemes) i l → SymbolAt text lexemes i l
    go (symbol at name) s w = record { coded = w.coded; spelled = w.written refl; is_placed = w.placed }
    go (list at close) s w = apart s
    go (numeral at v) s w = apart s
    go (keyword at name) s w = apart s
    go (literal at width v written) s w = apart s

-- Whether a name is in rows of the table, by the place at which it is found.
pub in_rows : (names : List ℕ) (first count : ℕ) (word : List ℕ) {place : ℕ} → place ≡ place_in (names_from names first count) 0 word
    → ltb place count ≡ is_named (names_from names first count) word
in_rows names first count word e = sym (named_in_rows names first count 0 word ∙ ap₂ ltb (sym e) (zero-add count))

-- Whether a name is in scope, by whether it is in each of four parts of the table.
pub in_scope : (names : List ℕ) (scope : Scope) (word : List ℕ)
    {a v d f : Bool} → a ≡ is_named (names_from names scope.first scope.arguments) word
    → v ≡ is_named (names_from names variable_row scope.variables) word
    → d ≡ is_named (names_from names defined_row scope.defined) word
    → f ≡ is_named (names_from names function_row scope.functions) word
    → a || v || d || f ≡ is_named (names_in names scope) word
in_scope names scope word ea ev ed ef =
    let a = names_from names scope.first scope.arguments in
    let v = names_from names variable_row scope.variables in
    let d = names_from names defined_row scope.defined in
    let f = names_from names function_row scope.functions in
    sym (named_both (a ++ v ++ d) f word ∙ rw (named_both (a ++ v) d word, named_both a v word) (rw (ea, ev, ed, ef)))

module _ {text lexemes names : List ℕ} {scope : Scope} {row count i : ℕ} {code : ℕ} (ec : code ≡ code_at lexemes i)
    {bytes : List ℕ} (eb : bytes ≡ bytes_at text lexemes i)
    {a : Bool} (ea : a ≡ is_named (names_from names row count) bytes) {b : Bool} (es : b ≡ is_named (names_in names scope) bytes) where
  -- the test is that of the definition
  name_test : (p : NewName text lexemes names scope row count i) (nowhere : ℕ) {t : Bool} → leb set_logic_code code && ltb code other_code || (a || b) ≡ t
      → NameTested p nowhere (cond t i nowhere)
  name_test p nowhere {t} e =
      let s = symbol_at p.stands p.a_symbol in
      let n = name_of p.label in
      let same : bytes ≡ n = eb ∙ s.spelled in
      let told : is_reserved n ≡ leb set_logic_code code && ltb code other_code = reserved_code n ∙ rw (← s.coded, ← ec) in
      let scope-test : is_named (names_from names row count ++ names_in names scope) n ≡ a || b =
      named_both (names_from names row count) (names_in names scope) n ∙ rw (ea, es, same) in
      rw (told, scope-test, e, s.is_placed)

  -- the name is reserved or taken
  pub name_at_fault : leb set_logic_code code && ltb code other_code || (a || b) ≡ true → (nowhere : ℕ) (p : NewName text lexemes names scope row count i)
      → NameTested p nowhere i
  name_at_fault e nowhere p = name_test p nowhere e

  -- it is neither
  pub name_right : leb set_logic_code code && ltb code other_code || (a || b) ≡ false → (nowhere : ℕ) (p : NewName text lexemes names scope row count i)
      → NameTested p nowhere nowhere
  name_right e nowhere p = name_test p nowhere e
