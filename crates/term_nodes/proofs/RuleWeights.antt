-- The attributes of rules: the weight that they give, and the limit on weights.
use Prim.Native.Nat.{ℕ, ◌+◌, ◌-◌, ◌≤◌, ◌<◌, min}
use native.Mathlib.Omega.{arith}
use mathlib.Core.Path.{◌≡◌, refl, sym, ap, ◌∙◌}
use mathlib.Core.Bool.{Bool, true, false, not, ◌&&◌, and-false}
use mathlib.Core.List.{List, [], ◌∷◌}
use lib.Dec.{eqb, leb, ltb}
use borrow.Author.Tests.{eq-eqb, eqb-true, ltb-false, ltb-true, ne_eqb, not-false, not-true}
use Rattle.forest.specs.Forest.{count, none, tree}
use Rattle.forest.specs.Lists.{same_bytes}
use Rattle.forest.proofs.Bools.{and_left, and_right, apart}
use Rattle.words.specs.Trees.{Lexeme, keyword, list, literal, numeral, symbol}
use Rattle.lexemes.specs.Lists.{Items, inside, is, is_key, is_list, is_numeral, item, numeral_of}
use Rattle.lexemes.specs.code.Codes.{bang_code}
use Rattle.lexemes.specs.code.Standing.{Between, ItemAt, ListAt, Reached, Source, Stands, bracketed, ends, value_of, word}
use Rattle.lexemes.specs.code.Table.{code_at, code_of, next_at, numeral_code, value_at}
use Rattle.lexemes.proofs.Along.{along_less}
use Rattle.lexemes.proofs.ByCode.{code_for, numeral-code, word_code, words_code}
use Rattle.lexemes.proofs.Listed.{at_item}
use Rattle.lexemes.proofs.Standing.{none_left}
use Rattle.shapes.specs.Shapes.{all, annotated_shape, attributes_of, attributes_shape, is_annotated, is_pattern, rule_shape, term_shape}
use Rattle.shapes.proofs.Annotated.{annotated_list, attributes_there}
use Rattle.written_sorts.specs.Written.{least_in}
use Rattle.written_sorts.specs.code.Places.{AllBetween, ShapedAt}
use Rattle.written_sorts.proofs.Least.{Seeking, seek_end, seek_item, seek_start, seek_turn}
use Rattle.written_sorts.proofs.Walked.{placed, word_is}
use Rattle.derivation.specs.Derivation.{most_weight}
use Rattle.term_nodes.specs.Rules.{attribute_past, attributes_in, attributes_past, weight_by}

-- ---- one attribute

-- a numeral is a word, and its value is that of the word
numeral_word : (l : Lexeme) → is_numeral l ≡ true → (is_list l ≡ false) × (value_of l ≡ numeral_of l)
numeral_word (numeral at v) e = (refl, refl)
numeral_word (list at close) e = apart e
numeral_word (symbol at name) e = apart e
numeral_word (keyword at name) e = apart e
numeral_word (literal at width v written) e = apart e

module _ {lexemes : List ℕ} {at : ℕ} where
  -- the value of a numeral
  value_here : (x : ItemAt lexemes at) → is_numeral x.label ≡ true → value_at lexemes at ≡ numeral_of x.label
  value_here x e =
      let n = numeral_word x.label e in
      ap (λ (t : List ℕ). value_at t at) (sym x.same) ∙ (word_is x.stands n.0).valued ∙ n.1

  module _ {code : ℕ} (ec : code ≡ code_at lexemes at) {value : ℕ} (ev : value ≡ value_at lexemes at) (nowhere : ℕ) where
    -- whether it is past the limit
    told : (x : ItemAt lexemes at) → eqb code numeral_code && ltb most_weight value ≡ is_numeral x.label && ltb most_weight (numeral_of x.label)
    told x = rw (ec ∙ (at_item x).code, ← numeral-code x.label) (go (is_numeral x.label) refl)
      where
        go : (b : Bool) → is_numeral x.label ≡ b → b && ltb most_weight value ≡ b && ltb most_weight (numeral_of x.label)
        go true e = ap (ltb most_weight) (ev ∙ value_here x e)
        go false e = refl

    pub past_here : eqb code numeral_code && ltb most_weight value ≡ true → (x : ItemAt lexemes at) → at ≡ attribute_past nowhere x.label x.operands
    past_here t x = rw (sym (told x) ∙ t) (sym (placed x.stands))

    pub not_past : eqb code numeral_code && ltb most_weight value ≡ false → (x : ItemAt lexemes at) → nowhere ≡ attribute_past nowhere x.label x.operands
    not_past t x = rw (sym (told x) ∙ t)

-- ---- the least word past the limit

-- any item
abbrev pub any_item : Lexeme → Items → Bool
any_item l ops = true

all_any : (F : Items) → all any_item F ≡ true
unfolding all
all_any none = refl
all_any (tree l ops more) = all_any more

abbrev any_between : {lexemes : List ℕ} {first close : ℕ} → Between lexemes first close → AllBetween any_item lexemes first close
any_between b = record { between = b; shaped = all_any b.items }

-- of the attributes from one word to another the loop has come to word `at`
abbrev pub Weighing : (lexemes : List ℕ) → (first close nowhere place at : ℕ) → Type 0
Weighing lexemes first close nowhere place at = Seeking any_item (attribute_past nowhere) lexemes first close nowhere place at

module _ {lexemes : List ℕ} {first close : ℕ} (nowhere : ℕ) where
  pub weigh_start : Between lexemes first close → Weighing lexemes first close nowhere nowhere first
  weigh_start b = seek_start (any_between b)

  module _ {place at : ℕ} (s : Weighing lexemes first close nowhere place at) where
    pub weigh_end : close ≤ at → (b : Between lexemes first close) → place ≡ attributes_past nowhere b.items
    weigh_end h b = seek_end s h (any_between b)

    module _ (h : at < close) where
      pub weigh_item : ItemAt lexemes at
      weigh_item = (seek_item s h).here

      pub weigh_less : {next : ℕ} → next ≡ next_at lexemes at → close - next < close - at
      weigh_less e = along_less s h e

      pub weigh_turn : {found : ℕ} → ((x : ItemAt lexemes at) → found ≡ attribute_past nowhere x.label x.operands)
          → {lesser : ℕ} → lesser ≡ min place found → {next : ℕ} → next ≡ next_at lexemes at → Weighing lexemes first close nowhere lesser next
      weigh_turn known e n = seek_turn s h (λ p. known p.here) e n

-- ---- the attributes of a rule

-- no items are none
no_items : count {L = Lexeme} none ≡ 0
unfolding count
no_items = refl

-- a list begun by `!` is no rule that is no term
no_pattern : (l : Lexeme) (ops : Items) → is_annotated l ops ≡ true → is_pattern l ops ≡ false
unfolding code_for
no_pattern l ops t =
    let code : code_of (item 0 ops) ≡ bang_code =
    eqb-true (code_of (item 0 ops)) bang_code (sym (word_code "!" refl (item 0 ops)) ∙ and_right (is_list l) (is "!" (item 0 ops)) t) in
    rw (words_code ("Constant" ∷ "Variable" ∷ []) refl (item 0 ops), code) (and-false (is_list l))

-- its attributes have their shape
attributes_shaped : {lexemes : List ℕ} {at : ℕ} (x : ItemAt lexemes at) → is_annotated x.label x.operands ≡ true
    → rule_shape x.label x.operands ≡ true → attributes_shape false (attributes_of x.operands) ≡ true
attributes_shaped x t shape =
    let ops = x.operands in
    let shaped : annotated_shape ops ≡ true = rw (no_pattern x.label ops t, t) at shape in
    and_right (leb 4 (count ops) && term_shape (item 1 ops) (inside 1 ops)) (attributes_shape false (attributes_of ops)) shaped

-- the value of an attribute that stands alone
pair-value : {s : Source} {i e : ℕ} {F : Items} → Stands s i F e → attributes_shape false F ≡ true → count F ≡ 2
    → value_at s.lexemes (i + 1) ≡ numeral_of (item 1 F)
unfolding attributes_shape count item same_bytes
pair-value ends shape two = absurd (omega arith)
pair-value (word w ends) shape two = absurd (omega arith)
pair-value (word {l = k} w (word {l = v} {more = more} x rest)) shape two =
    let value = and_right (is_key ":weight" k) (is_numeral v && attributes_shape false more) shape in
    let n = numeral_word v (and_left (is_numeral v) (attributes_shape false more) value) in
    x.valued ∙ n.1
pair-value (word {l = k} w (bracketed b inner rest)) shape two = apart (and_right (is_key ":weight" k) false shape)
pair-value (bracketed b inner rest) shape two = apart shape

module _ {lexemes : List ℕ} {at : ℕ} {a : Bool} (annotated : (x : ItemAt lexemes at) → a ≡ is_annotated x.label x.operands) where
  -- a rule without attributes
  pub none_past : not a ≡ true → (nowhere : ℕ) → (x : ItemAt lexemes at) → nowhere ≡ attributes_past nowhere (attributes_in x.label x.operands)
  unfolding least_in
  none_past t nowhere x = rw (sym (annotated x) ∙ not-true a t)

  pub no_weight : not a ≡ true → (p : ShapedAt rule_shape lexemes at) → 0 ≡ weight_by (attributes_in p.here.label p.here.operands)
  unfolding count
  no_weight t p = rw (sym (annotated p.here) ∙ not-true a t)

  module _ (t : not a ≡ false) where
    -- the list that it is
    abbrev pub rule_list : ItemAt lexemes at → ListAt lexemes at
    rule_list x = annotated_list annotated (not-false a t) x

    module _ {next : ℕ} (en : next ≡ next_at lexemes at) {first : ℕ}
        (reached : (b : Between lexemes (at + 1) (next - 1)) → Reached lexemes (at + 1) (next - 1) 2 b first) where
      -- where they stand
      abbrev pub attributes_at : ItemAt lexemes at → Between lexemes first (next - 1)
      attributes_at x = attributes_there en reached (rule_list x)

      pub some_past : (nowhere : ℕ) {r : ℕ} → ((b : Between lexemes first (next - 1)) → r ≡ attributes_past nowhere b.items)
          → (x : ItemAt lexemes at) → r ≡ attributes_past nowhere (attributes_in x.label x.operands)
      some_past nowhere known x = rw (sym (annotated x) ∙ not-false a t) (known (attributes_at x))

      module _ {n : ℕ} (counts : (b : Between lexemes first (next - 1)) → n ≡ count b.items) where
        pub many_weigh : (n ≡ 2 → ⊥) → (p : ShapedAt rule_shape lexemes at) → 0 ≡ weight_by (attributes_in p.here.label p.here.operands)
        many_weigh other p =
            let x = p.here in
            rw (sym (annotated x) ∙ not-false a t, ne_eqb (count (attributes_of x.operands)) 2 (λ e. other (counts (attributes_at x) ∙ e)))

        -- there are some
        pub first_within : n ≡ 2 → ShapedAt rule_shape lexemes at → first < next - 1
        first_within two p = go (ltb first (next - 1)) refl
          where
            b : Between lexemes first (next - 1)
            b = attributes_at p.here

            go : (t : Bool) → ltb first (next - 1) ≡ t → first < next - 1
            go true e = ltb-true first (next - 1) e
            go false e =
                let gone : count b.items ≡ count none = ap count (none_left b.stands (ltb-false first (next - 1) e)) in
                absurd (omega (arith, gone, counts b, no_items))

        pub one_weighs : n ≡ 2 → {value : ℕ} → value ≡ value_at lexemes (first + 1)
            → (p : ShapedAt rule_shape lexemes at) → value ≡ weight_by (attributes_in p.here.label p.here.operands)
        one_weighs two ev p =
            let x = p.here in
            let b = attributes_at x in
            let many : count (attributes_of x.operands) ≡ 2 = sym (counts b) ∙ two in
            let is : is_annotated x.label x.operands ≡ true = sym (annotated x) ∙ not-false a t in
            rw (is, eq-eqb (count (attributes_of x.operands)) 2 many)
            (ev ∙ ap (λ (l : List ℕ). value_at l (first + 1)) (sym x.same) ∙ pair-value b.stands (attributes_shaped x is p.shaped) many)
