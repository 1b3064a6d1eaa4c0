-- `(Constant σ)` and `(Variable σ)`, by the words at which they stand.
use Prim.Native.Nat.{ℕ, ◌+◌, ◌*◌, ◌<◌, ◌^◌, ◌≤◌}
use Prim.Native.String.{String}
use native.Mathlib.Omega.{arith}
use mathlib.Core.Path.{◌≡◌, refl, sym, ap, ◌∙◌}
use mathlib.Core.Bool.{Bool, true, false, cond, not, ◌&&◌, ◌||◌}
use mathlib.Core.List.{List, []}
use lib.Dec.{eqb}
use lib.ListN.{length}
use borrow.Author.Tests.{eq-eqb, eqb-true, ne_eqb}
use Rattle.forest.specs.Forest.{count, none, tree}
use Rattle.forest.specs.Lists.{same_bytes, spelling}
use Rattle.forest.proofs.Bools.{and_left, and_right, apart}
use Rattle.operators.specs.Operators.{operators}
use Rattle.words.specs.Trees.{Lexeme, keyword, list, literal, numeral, symbol}
use Rattle.word_kinds.specs.Decimals.{is_decimal}
use Rattle.word_kinds.specs.Kinds.{all_in}
use Rattle.lexemes.specs.Reserved.{is_word}
use Rattle.lexemes.specs.code.Reserved.{known_words, place_among, word_number}
use Rattle.lexemes.specs.Lists.{Items, after, all_numerals, indexed, is, is_list, is_symbol, item, numeral_of}
use Rattle.lexemes.specs.code.Standing.{Source, Stands, bracketed, ends, word}
use Rattle.lexemes.proofs.Standing.{coded}
use Rattle.lexemes.specs.code.Table.{code_at, numeral_code, open_code, row_width as lexemeWidth, symbol_code, value_at}
use Rattle.term_nodes.specs.Terms.{pattern}
use Rattle.written_sorts.specs.Written.{sort_of, sort_place}
use Rattle.written_sorts.specs.declared.Fault.TheVariants.{Unknown}
use Rattle.derivation.specs.Derivation.{any_argument, any_literal}
use Rattle.derivation.specs.code.Tables.{item_code, item_value}
use Rattle.lexemes.specs.code.Codes.{bool_code, constant_code, variable_code}
use Rattle.lexemes.proofs.ByCode.{code_for}
use Rattle.terms.specs.code.Codes.{any_argument_kind, any_literal_kind, code_with}
use Rattle.names.specs.code.Nodes.{pattern_kind, NodeMeans, PatternAt}
use Rattle.names.specs.Scopes.{View}
use Rattle.names.proofs.Symbols.{word_test}

-- Items of which the first is a word, and the others.
record Begun (s : Source) (i e : ℕ) (F : Items) : Type 0 where
  pub first : Lexeme
  pub more : Items
  pub is_it : F ≡ tree first none more
  pub stands : Stands s (i + 1) more e

module _ {s : Source} where
  begun : {i e : ℕ} {F : Items} (w : String) → is_word w [] ≡ false → Stands s i F e → is w (item 0 F) ≡ true → Begun s i e F
  unfolding item
  begun w u ends h = apart (sym u ∙ h)
  begun w u (word {l = l} {more = more} x rest) h = record { first = l; more = more; is_it = refl; stands = rest }
  begun w u (bracketed b inner rest) h = apart (sym u ∙ h)

  -- Items of which the first two are words.
  twice : {i e : ℕ} {F : Items} (one : Begun s i e F) (two : Begun s (i + 1) e one.more) → F ≡ tree one.first none (tree two.first none two.more)
  twice one two = one.is_it ∙ ap (tree one.first none) two.is_it

  -- A numeral is the first of numerals.
  numeral_here : {i e : ℕ} {F : Items} → Stands s i F e → 0 < count F → all_numerals F ≡ true
      → (code_at s.lexemes i ≡ numeral_code) × (value_at s.lexemes i ≡ numeral_of (item 0 F))
  unfolding all_numerals count item
  numeral_here ends some all = absurd (omega arith)
  numeral_here (word {l = numeral at v} x rest) some all = (x.coded, x.valued)
  numeral_here (word {l = symbol at name} x rest) some all = apart all
  numeral_here (word {l = keyword at name} x rest) some all = apart all
  numeral_here (word {l = literal at width v written} x rest) some all = apart all
  numeral_here (word {l = list at close} x rest) some all = apart all
  numeral_here (bracketed b inner rest) some all = apart all

  -- The n of `(_ BitVec n)`, which stands behind two words.
  width_here : {i e : ℕ} {F : Items} → Stands s i F e → indexed "BitVec" 1 F ≡ true
      → (code_at s.lexemes (i + 2) ≡ numeral_code) × (value_at s.lexemes (i + 2) ≡ numeral_of (item 2 F))
  unfolding after item same_bytes
  width_here {i} {e} {F} stands shape =
      let u = is "_" (item 0 F) in
      let v = is "BitVec" (item 1 F) in
      let n = eqb (count (after 2 F)) 1 in
      let uvn = and_left (u && v && n) (all_numerals (after 2 F)) shape in
      let one = begun "_" refl stands (and_left u v (and_left (u && v) n uvn)) in
      let two = begun "BitVec" refl one.stands (rw one.is_it at (and_right u v (and_left (u && v) n uvn))) in
      let both = twice one two in
      let single : count two.more ≡ 1 = rw both at (eqb-true (count (after 2 F)) 1 (and_right (u && v) n uvn)) in
      let all : all_numerals two.more ≡ true = rw both at (and_right (u && v && n) (all_numerals (after 2 F)) shape) in
      let next : i + 1 + 1 ≡ i + 2 = omega arith in
      rw (← next, both) (numeral_here two.stands (omega arith) all)

-- What the words at which a sort stands say of it.
data SortIs (s : Source) (i : ℕ) : Lexeme → Items → Type 0 where
  named : {at : ℕ} {name : List ℕ} → at ≡ i → code_at s.lexemes i ≡ symbol_code name → SortIs s i (symbol at name) none
  vector : {close : ℕ} {held : Items} → code_at s.lexemes i ≡ open_code → code_at s.lexemes (i + 3) ≡ numeral_code
      → value_at s.lexemes (i + 3) ≡ numeral_of (item 2 held) → SortIs s i (list i close) held

sort_is : {s : Source} {i e : ℕ} {l : Lexeme} {held : Items} → Stands s i (tree l held none) e → is_symbol l || is_list l && indexed "BitVec" 1 held ≡ true
    → SortIs s i l held
sort_is (word {l = symbol at name} x rest) shape = named x.placed x.coded
sort_is (word {l = numeral at v} x rest) shape = apart shape
sort_is (word {l = keyword at name} x rest) shape = apart shape
sort_is (word {l = literal at width v written} x rest) shape = apart shape
sort_is (word {l = list at close} x rest) shape = apart (sym x.no_list)
sort_is {i = i} (bracketed b inner rest) shape =
    let next : i + 1 + 2 ≡ i + 3 = omega arith in
    let n = rw next at (width_here inner shape) in
    vector b.opened n.0 n.1

-- A test as a number.
constant-code : symbol_code (spelling "Constant") ≡ constant_code
unfolding all_in is_decimal known_words operators place_among same_bytes word_number
constant-code = refl

variable-code : symbol_code (spelling "Variable") ≡ variable_code
unfolding all_in is_decimal known_words operators place_among same_bytes word_number
variable-code = refl

-- The code of the word that says which of the two it is.
abbrev pub pattern_code : Bool → ℕ
pattern_code c = cond c constant_code variable_code

pub pattern-code : (c : Bool) → symbol_code (cond c (spelling "Constant") (spelling "Variable")) ≡ pattern_code c
pattern-code true = constant-code
pattern-code false = variable-code

-- Where the test is turned round, so are the two.
turned : (test : Bool) (a b : ℕ) → cond (not test) a b ≡ cond test b a
turned true a b = refl
turned false a b = refl

-- A symbol that is a sort, by its code.
bool_test : (name : List ℕ) {code : ℕ} → code ≡ symbol_code name → is_word "Bool" name ≡ eqb code bool_code
unfolding code_for
bool_test name e = word_test name e "Bool" refl

-- The numbers of `(Constant σ)` or `(Variable σ)`, where σ is the sort n.
kind-code : (c : Bool) (n : ℕ) {code kind : ℕ} → code ≡ pattern_code c → kind ≡ pattern_kind code
    → code_with kind n ≡ item_code (cond c (any_literal n) (any_argument n))
kind-code true n {code} e k = rw (k, ne_eqb code variable_code (λ z. absurd (omega arith)))
kind-code false n {code} e k = rw (k, eq-eqb code variable_code e)

-- It is a kind.
pub kind_small : (code : ℕ) {kind : ℕ} → kind ≡ pattern_kind code → kind ≤ any_argument_kind
kind_small code e = rw e (go (eqb code variable_code))
  where
    go : (test : Bool) → cond test any_argument_kind any_literal_kind ≤ any_argument_kind
    go true = omega arith
    go false = omega arith

kind_value : (c : Bool) (n : ℕ) → 0 ≡ item_value (cond c (any_literal n) (any_argument n))
kind_value true n = refl
kind_value false n = refl

module _ {lexemes : List ℕ} {head : ℕ} (p : PatternAt lexemes head) where
  head_code : code_at lexemes head ≡ pattern_code p.constant
  head_code = rw (← p.same, p.here) (p.says.coded ∙ pattern-code p.constant)

  sort_here : SortIs p.source (p.at + 2) p.sort p.held
  sort_here = sort_is p.says.stands p.says.shaped

  -- the word that says which of the two it is stands in the table
  pub pattern_room : lexemeWidth * head < length lexemes
  pattern_room = coded lexemes head (rw head_code (go p.constant))
    where
      go : (c : Bool) → 0 < pattern_code c
      go true = omega arith
      go false = omega arith

  module _ {code kind sort : ℕ} (ec : code ≡ code_at lexemes head) (ek : kind ≡ pattern_kind code) (es : sort ≡ code_at lexemes (head + 1)) where
    code_is : code ≡ pattern_code p.constant
    code_is = ec ∙ head_code

    sort_code : sort ≡ code_at p.source.lexemes (p.at + 2)
    sort_code = let next : head + 1 ≡ p.at + 2 = omega (arith, p.here) in es ∙ rw (p.same, next)

    module _ (opened : sort ≡ open_code) {value : ℕ} (ev : value ≡ value_at lexemes (head + 4)) where
      -- the width of `(_ BitVec n)`
      width_is : (value < 10 ^ 9) × (value ≡ sort_of p.sort p.held)
      width_is = go sort_here
        where
          value_is : value ≡ value_at p.source.lexemes (p.at + 2 + 3)
          value_is = let next : head + 4 ≡ p.at + 2 + 3 = omega (arith, p.here) in ev ∙ rw (p.same, next)

          go : {l : Lexeme} {held : Items} → SortIs p.source (p.at + 2) l held → (value < 10 ^ 9) × (value ≡ sort_of l held)
          go (named e c) = absurd (omega (arith, sort_code))
          go (vector o c v) = (omega (arith, p.bounded.numerals (p.at + 2 + 3) c, value_is), value_is ∙ v)

      pub pattern_width : value < 10 ^ 9
      pattern_width = width_is.0

      -- σ is `(_ BitVec n)`
      pub pattern_vector : {r : ℕ} → r ≡ code_with kind value → (view : View)
          → NodeMeans view (pattern p.at p.constant p.sort p.held) (record { known = true; code = r; value = 0 })
      pattern_vector er view = record {
        stated =
            record {
              code_is = er ∙ kind-code p.constant value code_is ek ∙ rw width_is.1;
              value_is = kind_value p.constant (sort_of p.sort p.held);
            };
        known_is = go sort_here;
      }
        where
          go : {l : Lexeme} {held : Items} → SortIs p.source (p.at + 2) l held → (nowhere : ℕ) → sort_place Unknown nowhere l held ≡ nowhere
          go (named e c) nowhere = absurd (omega (arith, sort_code))
          go (vector o c v) nowhere = refl

    -- σ is a symbol
    pub pattern_symbol : (sort ≡ open_code → ⊥) → {r : ℕ} → r ≡ code_with kind 0 → (view : View)
        → NodeMeans view (pattern p.at p.constant p.sort p.held) (record { known = eqb sort bool_code; code = r; value = 0 })
    pattern_symbol symbolic {r} er view = go sort_here
      where
        go : {l : Lexeme} {held : Items} → SortIs p.source (p.at + 2) l held
            → NodeMeans view (pattern p.at p.constant l held) (record { known = eqb sort bool_code; code = r; value = 0 })
        go (named {at = at} {name = name} e c) = record {
          stated = record { code_is = er ∙ kind-code p.constant 0 code_is ek; value_is = kind_value p.constant 0 };
          known_is = λ nowhere. rw (bool_test name (sort_code ∙ c), e) (turned (eqb sort bool_code) (p.at + 2) nowhere);
        }
        go (vector o c v) = absurd (symbolic (sort_code ∙ o))
