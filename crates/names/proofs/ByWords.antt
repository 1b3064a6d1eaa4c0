-- What a node stands for, by the words that say what it is.
use Prim.Native.Nat.{ℕ, ◌+◌, ◌*◌, ◌≤◌, ◌<◌}
use native.Mathlib.Omega.{arith}
use mathlib.Core.Path.{◌≡◌, refl, sym, ap, ◌∙◌, subst}
use mathlib.Core.Bool.{Bool, true, false, cond, ◌&&◌, ◌||◌, and-false}
use mathlib.Core.List.{List}
use lib.Dec.{eqb, leb, ltb}
use lib.ListN.{length}
use borrow.Author.Tests.{eq-eqb, eqb-true, le-leb, le-ltb, leb-true, lt-leb, lt-ltb, ltb-true, ne_eqb}
use Rattle.forest.specs.Lists.{same_bytes, spelling}
use Rattle.forest.proofs.Bools.{and_left, and_right, apart}
use Rattle.operators.specs.Operators.{named, operator_of, operators}
use Rattle.operators.specs.code.Operators.{extract_number}
use Rattle.words.specs.Trees.{Lexeme, symbol}
use Rattle.lexemes.specs.Lists.{Items}
use Rattle.lexemes.specs.code.Standing.{Source, spelt}
use Rattle.lexemes.proofs.Standing.{coded}
use Rattle.lexemes.specs.code.Table.{code_at, literal_code, numeral_code, row_width as lexemeWidth, symbol_code, value_at, width_at}
use Rattle.lexemes.specs.code.Codes.{constant_code, first_code, other_code, variable_code}
use Rattle.lexemes.proofs.ByCode.{code_for, constant-code}
use Rattle.terms.specs.code.Codes.{code_with, cut_value, literal_kind}
use Rattle.operators.specs.Sorts.{max_width}
use Rattle.term_nodes.specs.Terms.{Raw, constant, cut, decimal, first_word, number, pattern, word}
use Rattle.term_nodes.specs.code.Table.{head_word, is_constant_head}
use Rattle.term_nodes.specs.code.Says.{Says, SaysPattern}
use Rattle.names.specs.Scopes.{View}
use Rattle.names.specs.code.Lookup.{Headed, bytes_at, source_of, cut_code, nothing_code}
use Rattle.names.specs.code.Nodes.{NodeAt, NodeMeans, PatternAt, is_pattern_head, name_word, word_by}
use Rattle.names.specs.code.Meanings.{Seeing, SymbolMeans}
use Rattle.names.specs.declared.Meaning.{Meaning}
use Rattle.names.specs.declared.Seen.{Seen}
use Rattle.names.proofs.Patterns.{pattern-code, pattern_code}
use Rattle.names.proofs.Symbols.{word_test}

-- A literal.
pub is-constant : (lexemes : List ℕ) (at : ℕ) {width value code : ℕ} → width ≡ width_at lexemes at → code ≡ code_with literal_kind width
    → value ≡ value_at lexemes at → (view : View)
    → NodeMeans view (constant at (width_at lexemes at) (value_at lexemes at)) (record { known = true; code = code; value = value })
is-constant lexemes at e c v view =
    record { stated = record { code_is = c ∙ ap (code_with literal_kind) e; value_is = v }; known_is = λ nowhere. refl }

-- The number of `extract`.
extract-number : operator_of (spelling "extract") ≡ extract_number
unfolding named operator_of operators same_bytes
extract-number = refl

-- Whether the numbers of `(_ extract i j)` are within every width.
pub cut_small : (high low : ℕ) → leb low high && ltb high max_width ≡ true → (low ≤ high) × (high < max_width)
cut_small high low h = (leb-true low high (and_left (leb low high) (ltb high max_width) h), ltb-true high max_width (and_right (leb low high) (ltb high max_width) h))

module _ (lexemes : List ℕ) (at : ℕ) {high low : ℕ} (eh : high ≡ value_at lexemes at) (el : low ≡ value_at lexemes (at + 1)) (view : View) (first : ℕ) where
  -- `(_ extract i j)`
  pub is_cut : leb low high && ltb high max_width ≡ true
      → {value : ℕ} → value ≡ cut_value high low
      → NodeMeans view (cut first at (value_at lexemes at) (value_at lexemes (at + 1))) (record { known = true; code = cut_code; value = value })
  is_cut h e = record { stated = record { code_is = rw (← eh, ← el, h, extract-number); value_is = rw (← eh, ← el, h) e }; known_is = λ nowhere. refl }

  -- the same, beyond every width
  pub is_beyond : leb low high && ltb high max_width ≡ false
      → NodeMeans view (cut first at (value_at lexemes at) (value_at lexemes (at + 1))) (record { known = true; code = nothing_code; value = 0 })
  is_beyond h = record { stated = record { code_is = rw (← eh, ← el, h); value_is = rw (← eh, ← el, h) }; known_is = λ nowhere. refl }

-- The kinds of nodes.
data Case : Type 0 where
  a_word : Case
  a_number : Case
  a_constant : Case
  a_decimal : Case
  a_cut : Case
  a_pattern : Case

-- The kind of a node.
abbrev kind_of : Raw → Case
kind_of (word at head name) = a_word
kind_of (number at v) = a_number
kind_of (constant at width v) = a_constant
kind_of (decimal at head name width) = a_decimal
kind_of (cut at head i j) = a_cut
kind_of (pattern at c s held) = a_pattern

-- The same, by its first word, the word that says what it is and the code of that.
abbrev kind_by : (first head code : ℕ) → Case
kind_by first head code =
    cond (is_pattern_head first head code) a_pattern
    (cond (is_constant_head first head code) a_decimal
    (cond (leb first_code code) a_word (cond (eqb code literal_code) a_constant (cond (ltb first head) a_cut a_number))))

-- A symbol's node is no pattern.
no_pattern : (at head : ℕ) (name : List ℕ) {code : ℕ} → code ≡ symbol_code name → Headed (word at head name) → is_pattern_head at head code ≡ false
unfolding code_for
no_pattern at head name {code} e headed = go (ltb at head) refl
  where
    go : (later : Bool) → ltb at head ≡ later → later && (eqb code constant_code || eqb code variable_code) ≡ false
    go true l = rw (← word_test name e "Constant" refl, ← word_test name e "Variable" refl) (headed (ltb-true at head l))
    go false l = refl

-- The word of a node at which a name stands that is not known.
module _ (lexemes : List ℕ) (first head nowhere : ℕ) {code : ℕ} (ec : code ≡ code_at lexemes head) {t : Bool} (et : t ≡ is_pattern_head first head code) where
  -- a pattern is within the table
  pub pattern_within : t ≡ true → lexemeWidth * head < length lexemes
  pattern_within h = coded lexemes head (go (ltb first head) (eqb code constant_code) refl (eqb code variable_code) refl (sym et ∙ h))
    where
      go : (later c : Bool) → eqb code constant_code ≡ c → (v : Bool) → eqb code variable_code ≡ v → later && (c || v) ≡ true → 0 < code_at lexemes head
      go true true e v f h = omega (arith, ec, eqb-true code constant_code e)
      go true false e true f h = omega (arith, ec, eqb-true code variable_code f)
      go true false e false f h = apart h
      go false c e v f h = apart h

  module _ {known : Bool} (unknown : known ≡ false) where
    -- the word of σ
    pub sort_word : t ≡ true → head + 1 ≡ cond known nowhere (word_by first head (code_at lexemes head))
    sort_word h = rw (unknown, ← ec, ← et, h)

    -- the word that says what the node is
    pub head-word : t ≡ false → head ≡ cond known nowhere (word_by first head (code_at lexemes head))
    head-word h = rw (unknown, ← ec, ← et, h)

-- The codes of `Constant` and `Variable`.
two_codes : (c : Bool) → eqb (pattern_code c) constant_code || eqb (pattern_code c) variable_code ≡ true
two_codes true = refl
two_codes false = refl

-- Whether a node is a pattern.
abbrev is_pattern_node : Raw → Bool
is_pattern_node (word at head name) = false
is_pattern_node (number at v) = false
is_pattern_node (constant at width v) = false
is_pattern_node (decimal at head name width) = false
is_pattern_node (cut at head i j) = false
is_pattern_node (pattern at c s held) = true

-- Whether a node is a constant `(_ bvN n)`.
abbrev is_decimal_node : Raw → Bool
is_decimal_node (word at head name) = false
is_decimal_node (number at v) = false
is_decimal_node (constant at width v) = false
is_decimal_node (decimal at head name width) = true
is_decimal_node (cut at head i j) = false
is_decimal_node (pattern at c s held) = false

-- Codes past those of the known words are no codes of `Constant` and `Variable`.
no_words : (code : ℕ) → other_code < code → eqb code constant_code || eqb code variable_code ≡ false
no_words code h = rw (ne_eqb code constant_code (λ e. omega arith), ne_eqb code variable_code (λ e. omega arith))

module _ (s : Source) where
  -- the code of a constant's word
  told_code : (at head : ℕ) (name : List ℕ) (width : ℕ) → Says s (decimal at head name width) → other_code < code_at s.lexemes head
  told_code at head name width y =
      ltb-true other_code (code_at s.lexemes head) (ap (ltb other_code) y.coded ∙ sym (constant-code (symbol head name)) ∙ y.is-decimal)

  constant_is : (r : Raw) → Says s r → {first head code : ℕ} → first ≡ first_word r → head ≡ head_word r → code ≡ code_at s.lexemes head
      → is_constant_head first head code ≡ is_decimal_node r
  unfolding is_constant_head
  constant_is (word at h name) y {code = code} ef eh ec = rw (ef, eh, ne_eqb h (at + 2) (λ e. omega (arith, y.near)), and-false (ltb other_code code))
  constant_is (number at v) y {code = code} ef eh ec = rw (ef, eh, ne_eqb at (at + 2) (λ e. omega arith), and-false (ltb other_code code))
  constant_is (constant at width v) y {code = code} ef eh ec = rw (ef, eh, ne_eqb at (at + 2) (λ e. omega arith), and-false (ltb other_code code))
  constant_is (decimal at h name width) y {code = code} ef eh ec =
      rw (ef, eh, lt-ltb other_code code (omega (arith, ec ∙ ap (code_at s.lexemes) eh, told_code at h name width y))) (eq-eqb h (at + 2) y.here)
  constant_is (cut at h i j) y {code = code} ef eh ec = rw (ef, eh, ne_eqb h (at + 2) (λ e. omega (arith, y.later)), and-false (ltb other_code code))
  constant_is (pattern at c sort held) y {code = code} ef eh ec = rw (ef, eh, ne_eqb (at + 1) (at + 2) (λ e. omega arith), and-false (ltb other_code code))

  pattern_is : (r : Raw) → Says s r → Headed r → {first head code : ℕ} → first ≡ first_word r → head ≡ head_word r → code ≡ code_at s.lexemes head
      → is_pattern_head first head code ≡ is_pattern_node r
  pattern_is (word at h name) y n ef eh ec = rw (ef, eh) (no_pattern at h name (ec ∙ rw eh y.coded) n)
  pattern_is (number at v) y n ef eh ec = rw (ef, eh, le-ltb at at (omega arith))
  pattern_is (constant at width v) y n ef eh ec = rw (ef, eh, le-ltb at at (omega arith))
  pattern_is (decimal at h name width) y n {first} {head} {code} ef eh ec =
      rw (no_words code (omega (arith, ec ∙ ap (code_at s.lexemes) eh, told_code at h name width y)), and-false (ltb first head))
  pattern_is (cut at h i j) y n ef eh ec = rw (ef, eh, lt-ltb at h (omega (arith, y.later)), ec, eh, y.coded)
  pattern_is (pattern at c sort held) y n ef eh ec = rw (ef, eh, lt-ltb at (at + 1) (omega arith), ec, eh, y.coded, pattern-code c) (two_codes c)

  kind_is : (r : Raw) → Says s r → Headed r → {first head code : ℕ} → first ≡ first_word r → head ≡ head_word r → code ≡ code_at s.lexemes head
      → kind_by first head code ≡ kind_of r
  kind_is r y n {first} {head} {code} ef eh ec = rw (pattern_is r y n ef eh ec, constant_is r y ef eh ec) (go r y ef eh (rw eh at ec))
    where
      go : (r : Raw) → Says s r → first ≡ first_word r → head ≡ head_word r → code ≡ code_at s.lexemes (head_word r)
          → cond (is_pattern_node r) a_pattern
          (cond (is_decimal_node r) a_decimal
          (cond (leb first_code code) a_word (cond (eqb code literal_code) a_constant (cond (ltb first head) a_cut a_number)))) ≡ kind_of r
      go (word at h name) y ef eh ec = rw (le-leb first_code code (omega (arith, y.coded)))
      go (number at v) y ef eh ec = rw (ec, y, ef, eh, le-ltb at at (omega arith))
      go (constant at width v) y ef eh ec = rw (ec, y.coded)
      go (decimal at h name width) y ef eh ec = refl
      go (cut at h i j) y ef eh ec = rw (ec, y.coded, ef, eh, lt-ltb at h (omega (arith, y.later)))
      go (pattern at c sort held) y ef eh ec = refl

  -- the word at which a name stands that may be unknown
  word_is : (r : Raw) → Says s r → Headed r → {first head code : ℕ} → first ≡ first_word r → head ≡ head_word r → code ≡ code_at s.lexemes head
      → word_by first head code ≡ name_word r
  word_is r y n {first} {head} {code} ef eh ec = rw (pattern_is r y n ef eh ec) (go r eh)
    where
      go : (r : Raw) → head ≡ head_word r → cond (is_pattern_node r) (head + 1) head ≡ name_word r
      go (word at h name) eh = eh
      go (number at v) eh = eh
      go (constant at width v) eh = eh
      go (decimal at h name width) eh = eh
      go (cut at h i j) eh = eh
      go (pattern at c sort held) eh = omega arith

pub node-word : {names : List ℕ} {seen : Seen} {text lexemes : List ℕ} {first head : ℕ} (g : NodeAt names seen text lexemes first head)
    → word_by first head (code_at lexemes head) ≡ name_word g.node
node-word {text = text} {lexemes = lexemes} g =
    word_is (source_of text lexemes) g.node g.says g.headed g.begins g.heads refl

-- A node of each kind, by the word that says what it is.
record WordOf (s : Source) (head : ℕ) (r : Raw) : Type 0 where
  pub at : ℕ
  pub is : r ≡ word at head (spelt s head)
  pub coded : code_at s.lexemes head ≡ symbol_code (spelt s head)

record NumberOf (s : Source) (head : ℕ) (r : Raw) : Type 0 where
  pub value : ℕ
  pub is : r ≡ number head value

record ConstantOf (s : Source) (head : ℕ) (r : Raw) : Type 0 where
  pub is : r ≡ constant head (width_at s.lexemes head) (value_at s.lexemes head)

record DecimalOf (s : Source) (head : ℕ) (r : Raw) : Type 0 where
  pub at : ℕ
  pub is : r ≡ decimal at head (spelt s head) (value_at s.lexemes (head + 1))
  pub coded : other_code < code_at s.lexemes head

record CutOf (s : Source) (head : ℕ) (r : Raw) : Type 0 where
  pub at : ℕ
  pub is : r ≡ cut at head (value_at s.lexemes head) (value_at s.lexemes (head + 1))
  pub coded : code_at s.lexemes head ≡ numeral_code

record PatternOf (s : Source) (head : ℕ) (r : Raw) : Type 0 where
  pub at : ℕ
  pub here : head ≡ at + 1
  pub c : Bool
  pub sort : Lexeme
  pub held : Items
  pub is : r ≡ pattern at c sort held
  pub says : SaysPattern s at c sort held

abbrev Of : (s : Source) (head : ℕ) → Case → Raw → Type 0
Of s head a_word r = WordOf s head r
Of s head a_number r = NumberOf s head r
Of s head a_constant r = ConstantOf s head r
Of s head a_decimal r = DecimalOf s head r
Of s head a_cut r = CutOf s head r
Of s head a_pattern r = PatternOf s head r

-- A node is one of its kind.
of_kind : (s : Source) (r : Raw) → Says s r → {head : ℕ} → head ≡ head_word r → Of s head (kind_of r) r
of_kind s (word at h name) y e = record { at = at; is = rw (e, y.spelled); coded = rw (e, y.spelled) y.coded }
of_kind s (number at v) y e = record { value = v; is = rw e }
of_kind s (constant at width v) y e = record { is = rw (e, y.wide, y.valued) }
of_kind s (decimal at h name width) y e = record { at = at; is = rw (e, y.spelled, y.wide); coded = rw e (told_code s at h name width y) }
of_kind s (cut at h i j) y e = record { at = at; is = rw (e, y.high, y.low); coded = rw e y.coded }
of_kind s (pattern at c sort held) y e = record { at = at; here = e; c = c; sort = sort; held = held; is = refl; says = y }

-- What holds of what a node is holds of the node.
node-means : {view : View} {m : Meaning} {r q : Raw} → r ≡ q → NodeMeans view q m → NodeMeans view r m
node-means {view} {m} e = subst (λ (x : Raw). NodeMeans view x m) (sym e)

module _ {names : List ℕ} {seen : Seen} {text lexemes : List ℕ} {first head : ℕ} (g : NodeAt names seen text lexemes first head)
    {code : ℕ} (ec : code ≡ code_at lexemes head) where
  -- the node is one of the kind that its words say
  by_kind : (k : Case) → kind_by first head code ≡ k → Of (source_of text lexemes) head k g.node
  by_kind k e =
      let s = source_of text lexemes in
      let known = kind_is s g.node g.says g.headed g.begins g.heads ec in
      subst (λ (x : Case). Of s head x g.node) (sym known ∙ e) (of_kind s g.node g.says g.heads)

  module _ {t : Bool} (et : t ≡ is_pattern_head first head code) where
    module _ (taken : t ≡ true) where
      of_pattern : PatternOf (source_of text lexemes) head g.node
      of_pattern = by_kind a_pattern (rw (sym et ∙ taken))

      given_pattern : PatternOf (source_of text lexemes) head g.node → PatternAt lexemes head
      given_pattern o = record {
        source = source_of text lexemes;
        same = refl;
        bounded = g.bounded;
        at = o.at;
        here = o.here;
        constant = o.c;
        sort = o.sort;
        held = o.held;
        says = o.says;
      }

      -- the node is `(Constant σ)` or `(Variable σ)`
      pub pattern_at : PatternAt lexemes head
      pattern_at = given_pattern of_pattern

      pub pattern_node : {m : Meaning}
          → ((given : PatternAt lexemes head) (view : View) → NodeMeans view (pattern given.at given.constant given.sort given.held) m)
          → NodeMeans g.view g.node m
      unfolding given_pattern
      pattern_node f = node-means of_pattern.is (f (given_pattern of_pattern) g.view)

    module _ (left : t ≡ false) where
      no_head : is_pattern_head first head code ≡ false
      no_head = sym et ∙ left

      module _ {u : Bool} (eu : u ≡ is_constant_head first head code) where
        module _ (told : u ≡ true) where
          of_decimal : DecimalOf (source_of text lexemes) head g.node
          of_decimal = by_kind a_decimal (rw (no_head, sym eu ∙ told))

          -- the word of a constant has a code
          pub decimal_coded : 0 < code_at lexemes head
          decimal_coded = omega (arith, of_decimal.coded)

          pub decimal_node : {m : Meaning}
              → ((view : View) (at : ℕ) → NodeMeans view (decimal at head (bytes_at text lexemes head) (value_at lexemes (head + 1))) m)
              → NodeMeans g.view g.node m
          decimal_node f = node-means of_decimal.is (f g.view of_decimal.at)

        module _ (other : u ≡ false) where
          no_decimal : is_constant_head first head code ≡ false
          no_decimal = sym eu ∙ other

          module _ (symbolic : first_code ≤ code) where
            of_word : WordOf (source_of text lexemes) head g.node
            of_word = by_kind a_word (rw (no_head, no_decimal, le-leb first_code code symbolic))

            -- the code of a symbol's node
            pub symbol_coded : {bytes : List ℕ} → bytes ≡ bytes_at text lexemes head → code ≡ symbol_code bytes
            symbol_coded eb = ec ∙ of_word.coded ∙ ap symbol_code (sym eb)

            pub symbol_node : {bytes : List ℕ} → bytes ≡ bytes_at text lexemes head → {m : Meaning}
                → ((given : Seeing names seen) → SymbolMeans given.view bytes m) → NodeMeans g.view g.node m
            symbol_node eb {m} f =
                let y = subst (λ (n : List ℕ). SymbolMeans g.view n m) eb (f (record { view = g.view; sees = g.sees })) in
                node-means of_word.is (record { stated = y.stated; known_is = λ nowhere. ap (λ (b : Bool). cond b nowhere head) (sym y.known_is) })

          module _ (no_symbol : code < first_code) where
            module _ (literal : code ≡ literal_code) where
              -- a literal is no wider than a sort may be
              pub literal_narrow : width_at lexemes head ≤ max_width
              literal_narrow = (g.bounded.fit head (sym ec ∙ literal)).sort

              pub literal_node : {m : Meaning}
                  → ((view : View) → NodeMeans view (constant head (width_at lexemes head) (value_at lexemes head)) m)
                  → NodeMeans g.view g.node m
              literal_node f =
                  let o = by_kind a_constant (rw (no_head, no_decimal, lt-leb first_code code no_symbol, eq-eqb code literal_code literal)) in
                  node-means o.is (f g.view)

            module _ (no-literal : code ≡ literal_code → ⊥) where
              module _ (later : first < head) where
                of_cut : CutOf (source_of text lexemes) head g.node
                of_cut = by_kind a_cut (rw (no_head, no_decimal, lt-leb first_code code no_symbol, ne_eqb code literal_code no-literal, lt-ltb first head later))

                -- the word that is the i of `(_ extract i j)` has a code
                pub cut_coded : 0 < code_at lexemes head
                cut_coded = omega (arith, of_cut.coded)

                pub cut_node : {m : Meaning} → ((view : View) (at : ℕ) → NodeMeans view (cut at head (value_at lexemes head) (value_at lexemes (head + 1))) m)
                    → NodeMeans g.view g.node m
                cut_node f = node-means of_cut.is (f g.view of_cut.at)

              -- a numeral stands for nothing
              pub number_node : head ≤ first → NodeMeans g.view g.node (record { known = true; code = nothing_code; value = 0 })
              number_node same =
                  let o =
                  by_kind a_number (rw (no_head, no_decimal, lt-leb first_code code no_symbol, ne_eqb code literal_code no-literal, le-ltb first head same)) in
                  node-means o.is (record { stated = record { code_is = refl; value_is = refl }; known_is = λ nowhere. refl })
