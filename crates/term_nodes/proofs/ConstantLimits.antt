-- The constants past a limit.
use Prim.Native.Nat.{ℕ, ◌+◌, ◌-◌, ◌*◌, ◌≤◌, ◌<◌, min}
use native.Mathlib.Omega.{arith}
use mathlib.Core.Path.{◌≡◌, refl, sym, ap, ◌∙◌}
use mathlib.Core.Bool.{Bool, true, false, not, ◌||◌, and-false}
use mathlib.Core.List.{List, [], ◌∷◌}
use borrow.Author.Tests.{eq-eqb, eqb-false, eqb-true, le-ltb, leb-false, leb-true, lt-ltb, ltb-false, ltb-true, ne_eqb, not-false, not-true}
use lib.Dec.{eqb, leb, ltb}
use lib.ListN.{length}
use Rattle.forest.specs.Forest.{Node, nodes_of}
use Rattle.forest.proofs.Bools.{and_left, apart}
use Rattle.word_kinds.specs.Decimals.{is_long}
use Rattle.operators.specs.Sorts.{max_width}
use Rattle.words.specs.Trees.{symbol}
use Rattle.lexemes.specs.code.Standing.{Source}
use Rattle.lexemes.specs.code.Codes.{long_decimal_code, other_code}
use Rattle.lexemes.specs.code.Table.{code_at, row_width as lexemeWidth, value_at}
use Rattle.lexemes.proofs.ByCode.{constant-code, long_code}
use Rattle.lexemes.proofs.Standing.{coded}
use Rattle.term_nodes.specs.code.Table.{first_at, head_at, head_word, is_constant_head}
use Rattle.term_nodes.specs.Terms.{Raw, constant, constant_past, constants_past, cut, decimal, first_word, number, pattern, word}
use Rattle.term_nodes.specs.code.Limits.{ConstantsPast, TermNodes, past_by}
use Rattle.term_nodes.specs.code.Says.{Says}
use Rattle.term_nodes.proofs.PastLimit.{Cursor, cursor_begins, cursor_ends, cursor_here, nodes_reached}

-- ---- one node

-- a word that is no constant's, or that stands too early
module _ (first head code : ℕ) where
  pub no_constant : leb code other_code || ltb head 2 ≡ true → false ≡ is_constant_head first head code
  unfolding is_constant_head
  no_constant e = go (leb code other_code) refl e
    where
      go : (b : Bool) → leb code other_code ≡ b → b || ltb head 2 ≡ true → false ≡ is_constant_head first head code
      go true l e = rw (le-ltb other_code code (leb-true code other_code l))
      go false l e = rw (ne_eqb head (first + 2) (λ q. omega (arith, ltb-true head 2 e)), and-false (ltb other_code code))

  module _ (told : leb code other_code || ltb head 2 ≡ false) where
    both : (other_code < code) × (2 ≤ head)
    both = go (leb code other_code) refl (ltb head 2) refl told
      where
        go : (a : Bool) → leb code other_code ≡ a → (b : Bool) → ltb head 2 ≡ b → a || b ≡ false → (other_code < code) × (2 ≤ head)
        go false l false m e = (leb-false code other_code l, ltb-false head 2 m)
        go false l true m e = apart (sym e)
        go true l b m e = apart (sym e)

    pub far_enough : 2 ≤ head
    far_enough = both.1

    -- a constant's, by where it stands
    pub constant_told : eqb (head - 2) first ≡ is_constant_head first head code
    unfolding is_constant_head
    constant_told = rw (lt-ltb other_code code both.0) (go (eqb (head - 2) first) refl)
      where
        go : (b : Bool) → eqb (head - 2) first ≡ b → b ≡ eqb head (first + 2)
        go true e = sym (eq-eqb head (first + 2) (omega (arith, eqb-true (head - 2) first e, both.1)))
        go false e = let ne = eqb-false (head - 2) first e in sym (ne_eqb head (first + 2) (λ q. ne (omega arith)))

-- a word that is told to be a constant's stands in the table
pub told_within : (lexemes : List ℕ) (first head code : ℕ) → code ≡ code_at lexemes head → is_constant_head first head code ≡ true
    → lexemeWidth * head < length lexemes
unfolding is_constant_head
told_within lexemes first head code ec told =
    coded lexemes head (omega (arith, ec, ltb-true other_code code (and_left (ltb other_code code) (eqb head (first + 2)) told)))

module _ (nowhere at head code width : ℕ) {t : Bool} (et : t ≡ is_constant_head at head code) where
  -- another word is past no limit
  pub past_other : not t ≡ true → nowhere ≡ past_by nowhere at head code width
  unfolding past_by
  past_other e = rw (sym et ∙ not-true t e)

  module _ (told : not t ≡ false) where
    pub told_constant : is_constant_head at head code ≡ true
    told_constant = sym et ∙ not-false t told

    -- of too many digits
    pub past_digits : code ≡ long_decimal_code → head ≡ past_by nowhere at head code width
    unfolding past_by
    past_digits e = rw (told_constant, eq-eqb code long_decimal_code e)

    module _ (short : code ≡ long_decimal_code → ⊥) where
      -- of a width too large
      pub past_width : max_width < width → head + 1 ≡ past_by nowhere at head code width
      unfolding past_by
      past_width h = rw (told_constant, ne_eqb code long_decimal_code short, lt-ltb max_width width h)

      -- past no limit
      pub past_none : width ≤ max_width → nowhere ≡ past_by nowhere at head code width
      unfolding past_by
      past_none h = rw (told_constant, ne_eqb code long_decimal_code short, le-ltb max_width width h)

-- a node that is no constant
apart_by : (s : Source) (nowhere at head : ℕ) → (head ≡ at + 2 → ⊥)
    → past_by nowhere at head (code_at s.lexemes head) (value_at s.lexemes (head + 1)) ≡ nowhere
unfolding is_constant_head past_by
apart_by s nowhere at head ne = rw (ne_eqb head (at + 2) ne, and-false (ltb other_code (code_at s.lexemes head)))

-- the word past a limit of a node, by what its words say
past_by_lem : (s : Source) (nowhere : ℕ) (r : Raw) → Says s r
    → past_by nowhere (first_word r) (head_word r) (code_at s.lexemes (head_word r)) (value_at s.lexemes (head_word r + 1)) ≡ constant_past nowhere r
unfolding is_constant_head past_by
past_by_lem s nowhere (decimal at head name width) y =
    let told : ltb other_code (code_at s.lexemes head) ≡ true = ap (ltb other_code) y.coded ∙ sym (constant-code (symbol head name)) ∙ y.is-decimal in
    let digits : eqb (code_at s.lexemes head) long_decimal_code ≡ is_long name =
    ap (λ (c : ℕ). eqb c long_decimal_code) y.coded ∙ sym (long_code name y.is-decimal) in
    rw (told, eq-eqb head (at + 2) y.here, digits, y.wide)
past_by_lem s nowhere (word at head name) y = apart_by s nowhere at head (λ e. omega (arith, y.near))
past_by_lem s nowhere (number at v) y = apart_by s nowhere at at (λ e. omega arith)
past_by_lem s nowhere (constant at width v) y = apart_by s nowhere at at (λ e. omega arith)
past_by_lem s nowhere (cut at head i j) y = apart_by s nowhere at head (λ e. omega (arith, y.later))
past_by_lem s nowhere (pattern at c sort held) y = apart_by s nowhere at (at + 1) (λ e. omega arith)

same_past : (nowhere : ℕ) {l m : List ℕ} {a b h k : ℕ} → l ≡ m → a ≡ b → h ≡ k
    → past_by nowhere a h (code_at l h) (value_at l (h + 1)) ≡ past_by nowhere b k (code_at m k) (value_at m (k + 1))
same_past nowhere e f g = cc

-- ---- the walk over the nodes

-- the least word so far, and what is left
pub record Rest {lexemes raw : List ℕ} {first end : ℕ} (p : TermNodes lexemes raw first end) (nowhere node place : ℕ) : Type 0 where
  pub cursor : Cursor p node
  pub same : min place (constants_past nowhere (nodes_of cursor.left)) ≡ constants_past nowhere (nodes_of p.F)

pub record Looking (lexemes raw : List ℕ) (first end nowhere node place : ℕ) : Type 0 where
  pub low : place ≤ nowhere
  pub reached : node ≤ end
  pub each : (p : TermNodes lexemes raw first end) → Rest p nowhere node place

-- the least word past a limit is not past nowhere
constants_low : (nowhere : ℕ) (xs : List (Node Raw)) → constants_past nowhere xs ≤ nowhere
unfolding constants_past
constants_low nowhere [] = omega arith
constants_low nowhere (x ∷ more) = omega (arith, constants_low nowhere more)

constants_more : (nowhere : ℕ) (x : Node Raw) (more : List (Node Raw))
    → constants_past nowhere (x ∷ more) ≡ min (constant_past nowhere x.label) (constants_past nowhere more)
unfolding constants_past
constants_more nowhere x more = refl

module _ {lexemes raw : List ℕ} {first end nowhere : ℕ} where
  pub look_begins : TermNodes lexemes raw first end → Looking lexemes raw first end nowhere first nowhere
  look_begins given = record {
    low = omega arith;
    reached = nodes_reached given;
    each = λ p. record { cursor = cursor_begins p; same = omega (arith, constants_low nowhere (nodes_of p.F)) };
  }

  module _ {node place : ℕ} (looking : Looking lexemes raw first end nowhere node place) where
    pub look_ends : end ≤ node → (p : TermNodes lexemes raw first end) → ConstantsPast p nowhere place
    unfolding constants_past nodes_of
    look_ends h p =
        let q = looking.each p in
        let gone : constants_past nowhere (nodes_of q.cursor.left) ≡ nowhere = rw (cursor_ends q.cursor h) in
        omega (arith, q.same, looking.low)

    pub look_goes : node < end → {at head : ℕ} → at ≡ first_at raw node → head ≡ head_at raw node
        → {past : ℕ} → past ≡ past_by nowhere at head (code_at lexemes head) (value_at lexemes (head + 1))
        → {after : ℕ} → after ≡ min place past → Looking lexemes raw first end nowhere (node + 1) after
    look_goes h {at} {head} ea eh {past} ep {after} e = record { low = omega (arith, looking.low); reached = omega arith; each = goes }
      where
        goes : (p : TermNodes lexemes raw first end) → Rest p nowhere (node + 1) after
        goes p =
            let q = looking.each p in
            let o = cursor_here q.cursor h ea eh in
            let x = o.x.label in
            let here : past ≡ constant_past nowhere x =
            ep ∙ same_past nowhere (sym p.same) o.begins o.heads ∙ past_by_lem p.source nowhere x o.says in
            let split = ap (constants_past nowhere) o.nodes ∙ constants_more nowhere o.x (nodes_of o.next.left) in
            record { cursor = o.next; same = omega (arith, q.same) }
