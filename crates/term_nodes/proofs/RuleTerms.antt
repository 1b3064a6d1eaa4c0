-- The term of a rule that is one, with attributes or without, and where it stands.
use Prim.Native.Nat.{ℕ, zero, suc, ◌+◌, ◌≤◌, ◌<◌}
use native.Mathlib.Omega.{arith}
use mathlib.Core.Path.{◌≡◌, refl, sym, ◌∙◌, subst}
use mathlib.Core.Bool.{Bool, true, false, cond, ◌&&◌}
use lib.Dec.{leb}
use borrow.Author.Tests.{eqb-true, leb-true}
use Rattle.forest.specs.Forest.{count, none, tree}
use Rattle.forest.proofs.Bools.{and_left, and_right}
use Rattle.words.specs.Trees.{Lexeme, list, word_of}
use Rattle.lexemes.specs.Lists.{Items, after, inside, is, is_key, is_list, item}
use Rattle.lexemes.specs.code.Codes.{bang_code, weight_code}
use Rattle.lexemes.specs.code.Standing.{Source, Stands, bracketed, ends, word}
use Rattle.lexemes.specs.code.Table.{code_at, code_of, next_at}
use Rattle.lexemes.proofs.ByCode.{code_for, front_word, front_code, weight-code}
use Rattle.lexemes.proofs.Listed.{from_item}
use Rattle.lexemes.proofs.Spelt.{behind_word}
use Rattle.lexemes.proofs.Standing.{by_itself, forward, here}
use Rattle.shapes.specs.Shapes.{annotated_shape, attributes_of, attributes_shape, is_annotated, term_rule_shape, term_shape}
use Rattle.written_sorts.proofs.Walked.{placed}
use Rattle.term_nodes.specs.Terms.{raw_term, raw_term_rule}
use Rattle.term_nodes.specs.code.Gather.{term_word}

-- The term of the rule at word i, which ends before word e; the term stands at word `first`.
pub record RuleTerm (s : Source) (i e first : ℕ) (l : Lexeme) (ops : Items) : Type 0 where
  pub label : Lexeme
  pub held : Items
  pub stands : Stands s first (tree label held none) (next_at s.lexemes first)
  pub shaped : term_shape label held ≡ true
  pub begins : i ≤ first
  pub ends_by : next_at s.lexemes first ≤ e
  pub side_is : raw_term_rule l ops ≡ raw_term label held

-- some items are left behind the first n, where there are more
after_count : (n : ℕ) (F : Items) → n < count F → 0 < count (after n F)
unfolding after count
after_count n none h = absurd (omega arith)
after_count zero (tree l ops more) h = omega arith
after_count (suc n) (tree l ops more) h = after_count n more (omega arith)

module _ {s : Source} where
  none_ends : {i e : ℕ} → Stands s i none e → i ≡ e
  none_ends ends = refl

  -- a rule that stands by itself ends where its first word says
  pub rule_ends : {i e : ℕ} {l : Lexeme} {ops : Items} → Stands s i (tree l ops none) e → next_at s.lexemes i ≡ e
  rule_ends stands = none_ends (here refl stands).rest

  -- behind `!` stand a term and its attributes
  pub behind_mark : (i : ℕ) {c : ℕ} {ops : Items} → Stands s (i + 1) ops c → is "!" (item 0 ops) ≡ true → 1 < count ops
      → Stands s (i + 2) (tree (item 1 ops) (inside 1 ops) (after 2 ops)) c
  unfolding after code_for
  behind_mark i {c} {ops} inner mark long =
      let head : front_code ops ≡ bang_code = eqb-true (front_code ops) bang_code (sym (front_word "!" refl 0 ops) ∙ mark) in
      let next : i + 1 + 1 ≡ i + 2 = omega arith in
      let behind = behind_word refl ops inner (omega arith) in
      let term = subst (λ (F : Items). Stands s (i + 1 + 1) F c) (from_item 1 ops long) behind in
      subst (λ (j : ℕ). Stands s j (tree (item 1 ops) (inside 1 ops) (after 2 ops)) c) next term

  -- the first of attributes is a keyword
  key_first : {i e : ℕ} {F : Items} → Stands s i F e → 0 < count F → attributes_shape false F ≡ true → code_at s.lexemes i ≡ weight_code
  unfolding attributes_shape count
  key_first ends some shape = absurd (omega arith)
  key_first (word {l = l} {more = more} w rest) some shape =
      w.coded ∙ eqb-true (code_of l) weight_code (sym (weight-code l) ∙ and_left (is_key ":weight" l) (attributes_shape true more) shape)
  key_first (bracketed {i = i} {c = c} {more = more} b inner rest) some shape =
      b.opened
      ∙ eqb-true (code_of (list i c)) weight_code (sym (weight-code (list i c)) ∙ and_left (is_key ":weight" (list i c)) (attributes_shape true more) shape)

  pub rule_term : {i e : ℕ} {l : Lexeme} {ops : Items} → Stands s i (tree l ops none) e → term_rule_shape l ops ≡ true
      → RuleTerm s i e (term_word i l ops) l ops
  rule_term {i} {e} {l} {ops} stands shape = go (is_annotated l ops) refl
    where
      go : (a : Bool) → is_annotated l ops ≡ a → RuleTerm s i e (cond a (i + 2) i) l ops
      go false t = record {
        label = l;
        held = ops;
        stands = by_itself refl stands;
        shaped = rw t at shape;
        begins = omega arith;
        ends_by = omega (arith, rule_ends stands);
        side_is = rw t;
      }
      go true t =
          let h = (here refl stands).a_list (and_left (is_list l) (is "!" (item 0 ops)) t) in
          let shaped : annotated_shape ops ≡ true = rw t at shape in
          let term = term_shape (item 1 ops) (inside 1 ops) in
          let front = and_left (leb 4 (count ops) && term) (attributes_shape false (attributes_of ops)) shaped in
          let long = leb-true 4 (count ops) (and_left (leb 4 (count ops)) term front) in
          let st = behind_mark i h.stands (and_right (is_list l) (is "!" (item 0 ops)) t) (omega arith) in
          record {
            label = item 1 ops;
            held = inside 1 ops;
            stands = by_itself refl st;
            shaped = and_right (leb 4 (count ops)) term front;
            begins = omega arith;
            ends_by = omega (arith, forward (here refl st).rest, h.next, rule_ends stands);
            side_is = rw t;
          }

  -- the term of a rule with attributes stands behind `(!`, and `:weight` behind the term
  pub weighted_behind : {i e : ℕ} {l : Lexeme} {ops : Items} → Stands s i (tree l ops none) e → annotated_shape ops ≡ true → is_annotated l ops ≡ true
      → (word_of (item 1 ops) ≡ i + 2) × (code_at s.lexemes (next_at s.lexemes (i + 2)) ≡ weight_code)
  weighted_behind {i} {e} {l} {ops} stands shaped t =
      let h = (here refl stands).a_list (and_left (is_list l) (is "!" (item 0 ops)) t) in
      let term = term_shape (item 1 ops) (inside 1 ops) in
      let front = and_left (leb 4 (count ops) && term) (attributes_shape false (attributes_of ops)) shaped in
      let long = leb-true 4 (count ops) (and_left (leb 4 (count ops)) term front) in
      let st = behind_mark i h.stands (and_right (is_list l) (is "!" (item 0 ops)) t) (omega arith) in
      let key = and_right (leb 4 (count ops) && term) (attributes_shape false (attributes_of ops)) shaped in
      (placed st, key_first (here refl st).rest (after_count 2 ops (omega arith)) key)
