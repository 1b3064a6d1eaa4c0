-- What the words say of the nodes of terms: items that stand in the tables and have the shape of terms say what their nodes are.
use Prim.Native.Nat.{ℕ, suc, ◌+◌, ◌<◌}
use Prim.Native.String.{String}
use native.Mathlib.Omega.{arith}
use mathlib.Core.Path.{◌≡◌, refl, sym, ap, ◌∙◌}
use mathlib.Core.Bool.{Bool, true, false, cond, not, ◌&&◌, ◌||◌}
use mathlib.Core.List.{List, [], ◌∷◌}
use lib.Dec.{eqb}
use borrow.Author.Tests.{eqb-true}
use Rattle.forest.specs.Forest.{count, none, tree}
use Rattle.forest.specs.Lists.{same_bytes, spelling}
use Rattle.forest.proofs.Bools.{and_left, and_right, apart}
use Rattle.words.specs.Trees.{Lexeme, keyword, list, literal, numeral, symbol, word_of}
use Rattle.lexemes.specs.Reserved.{is_one_of, is_word}
use Rattle.lexemes.specs.code.Reserved.{word_number}
use Rattle.lexemes.proofs.Numbers.{by_number, is_known, number_of}
use Rattle.lexemes.specs.Lists.{Items, inside, is, is_among, is_keyword, is_list, item, numeral_of}
use Rattle.lexemes.specs.code.Standing.{Source, Stands, WordIs, bracketed, ends, word}
use Rattle.lexemes.specs.code.Table.{symbol_code}
use Rattle.lexemes.proofs.ByCode.{code_for}
use Rattle.lexemes.specs.code.Codes.{first_code}
use Rattle.shapes.specs.Shapes.{application_shape, is_pattern, rule_shape, sort_shape, term_rule_shape, term_shapes}
use Rattle.term_nodes.specs.code.Says.{AllSay, Says, SaysCut}
use Rattle.term_nodes.specs.Terms.{headed_by, pattern, raw_of, raw_rule, raw_term_rule, raw_terms}
use Rattle.term_nodes.specs.code.Table.{operands_of}
use Rattle.term_nodes.proofs.RuleTerms.{rule_term}
use Rattle.term_nodes.proofs.TermWords.{CutAt, ListTerm, by_cut, by_symbol, cut_alone, decimal_alone, list-term, list_shape}

say_operands : (s : Source) (ops : Items) (b : Bool) → is "_" (item 0 ops) ≡ b → (term_shapes true ops ≡ true → AllSay s (raw_terms true ops))
    → list_shape ops ≡ true → AllSay s (operands_of ops)
unfolding AllSay list_shape
say_operands s ops true e held shape = rw e tt
say_operands s ops false e held shape = rw e (held (and_right (application_shape ops) (term_shapes true ops) (rw e at shape)))

-- a word that is a term is no keyword
no_keyword : (l : Lexeme) → is_list l ≡ false → not (is_list l || is_keyword l) || list_shape none ≡ true → is_keyword l ≡ false
unfolding count inside item list_shape same_bytes
no_keyword l e = rw e (go (is_keyword l))
  where
    go : (k : Bool) → not k || false ≡ true → k ≡ false
    go true h = sym h
    go false h = refl

module _ {s : Source} where
  say_cut : (at i : ℕ) {F : Items} → at < i → CutAt s i F → SaysCut s at (word_of (item 2 F)) (numeral_of (item 2 F)) (numeral_of (item 3 F))
  say_cut at i h c =
      let next : i + 2 + 1 ≡ i + 3 = omega arith in
      record {
        coded = rw c.placed c.coded;
        later = omega (arith, c.placed);
        high = rw c.placed c.high;
        low = rw (c.placed, next) c.low;
      }

  say_list : {at : ℕ} {ops : Items} → ListTerm s at ops → Says s (headed_by at (item 0 ops) (inside 0 ops) ops)
  unfolding item inside
  say_list {at} (decimal_alone e w c) =
      let next : at + 1 + 1 + 1 ≡ at + 1 + 2 = omega arith in
      rw (e, c.is)
      (record {
        here = omega (arith, c.placed);
        is-decimal = c.is;
        coded = rw c.placed c.coded;
        spelled = rw c.placed c.spelled;
        numeral = rw (c.placed, next) c.numeral;
        wide = rw (c.placed, next) c.wide;
      })
  say_list {at} (cut_alone e w c) = rw (e, c.none) (say_cut at (at + 1) (omega arith) c)
  say_list {at} (by_symbol e w) =
      rw e (record { near = omega (arith, w.placed); coded = rw w.placed w.coded; spelled = rw w.placed (w.written refl) })
  say_list {at} (by_cut b c) = say_cut at (at + 2) (omega arith) c

  say_word : {i : ℕ} (l : Lexeme) → is_keyword l ≡ false → WordIs s i l → Says s (raw_of l none)
  say_word (symbol at name) k w = record { near = omega arith; coded = rw w.placed w.coded; spelled = rw w.placed (w.written refl) }
  say_word (numeral at v) k w = rw w.placed w.coded
  say_word (keyword at name) k w = apart (sym k)
  say_word (literal at width v written) k w = record {
    coded = rw w.placed w.coded;
    valued = rw w.placed w.valued;
    wide = rw w.placed w.wide;
  }
  say_word (list at close) k w = apart (sym w.no_list)

  -- the words say what the nodes of terms are
  pub say_terms : (headed : Bool) {i e : ℕ} {F : Items} → Stands s i F e → term_shapes headed F ≡ true → AllSay s (raw_terms headed F)
  unfolding AllSay item list_shape raw_terms same_bytes term_shapes
  say_terms headed ends shape = tt
  say_terms true (word w rest) shape = say_terms false rest shape
  say_terms false (word {l = l} {more = more} w rest) shape =
      let plain = not (is_list l || is_keyword l) || list_shape none in
      let own = no_keyword l w.no_list (and_left plain (term_shapes false more) shape) in
      (say_word l own w, tt, say_terms false rest (and_right plain (term_shapes false more) shape))
  say_terms true (bracketed b inner rest) shape = say_terms false rest shape
  say_terms false (bracketed {i = i} {ops = ops} {more = more} b inner rest) shape =
      let listed = and_left (list_shape ops) (term_shapes false more) shape in (
        say_list (list-term i inner listed),
        say_operands s ops (is "_" (item 0 ops)) refl (λ h. say_terms true inner h) listed,
        say_terms false rest (and_right (list_shape ops) (term_shapes false more) shape),
      )

patterns_known : (is_known "Constant" ≡ true) × (is_known "Variable" ≡ true)
unfolding code_for
patterns_known = (refl, refl)

-- the code of the head of a rule that is no term
pattern-code : (name : List ℕ) → is_one_of ("Constant" ∷ "Variable" ∷ []) name ≡ true
    → symbol_code name ≡ symbol_code (cond (is_word "Constant" name) (spelling "Constant") (spelling "Variable"))
unfolding is_one_of
pattern-code name e = go (is_word "Constant" name) refl (is_word "Variable" name) refl e
  where
    coded : (w : String) → is_known w ≡ true → is_word w name ≡ true → symbol_code name ≡ symbol_code (spelling w)
    coded w known is_it = ap (λ (n : ℕ). first_code + n) (eqb-true (word_number name) (number_of w) (sym (by_number w known name) ∙ is_it))

    go : (a : Bool) → is_word "Constant" name ≡ a → (b : Bool) → is_word "Variable" name ≡ b → a || (b || false) ≡ true
        → symbol_code name ≡ symbol_code (cond (is_word "Constant" name) (spelling "Constant") (spelling "Variable"))
    go true ea b eb e = rw ea (coded "Constant" patterns_known.0 ea)
    go false ea true eb e = rw ea (coded "Variable" patterns_known.1 eb)
    go false ea false eb e = apart e

module _ {s : Source} where
  say_pattern : (at : ℕ) {c : ℕ} {ops : Items} → Stands s (at + 1) ops c → is_among ("Constant" ∷ "Variable" ∷ []) (item 0 ops) ≡ true
      → eqb (count ops) 2 ≡ true → sort_shape (item 1 ops) (inside 1 ops) ≡ true
      → Says s (pattern at (is "Constant" (item 0 ops)) (item 1 ops) (inside 1 ops))
  unfolding count inside is_one_of item same_bytes
  say_pattern at ends named two shape = apart named
  say_pattern at (word {l = numeral a v} w rest) named two shape = apart named
  say_pattern at (word {l = keyword a name} w rest) named two shape = apart named
  say_pattern at (word {l = literal a width v written} w rest) named two shape = apart named
  say_pattern at (word {l = list a c} w rest) named two shape = apart named
  say_pattern at (word {l = symbol a name} {more = none} w rest) named two shape = apart two
  say_pattern at {c} (word {l = symbol a name} {more = tree sort held none} w rest) named two shape =
      let next : at + 1 + 1 ≡ at + 2 = omega arith in
      record { coded = w.coded ∙ pattern-code name named; end = c; stands = rw next at rest; shaped = shape }
  say_pattern at (word {l = symbol a name} {more = tree sort held (tree l ops more)} w rest) named two shape =
      absurd (omega (arith, eqb-true (suc (suc (suc (count more)))) 2 two))
  say_pattern at (bracketed b inner rest) named two shape = apart named

  -- the words say what the nodes of a rule are that is a term
  say_term_rule : {i e : ℕ} {l : Lexeme} {ops : Items} → Stands s i (tree l ops none) e → term_rule_shape l ops ≡ true → AllSay s (raw_term_rule l ops)
  say_term_rule stands shape = let t = rule_term stands shape in rw t.side_is (say_terms false t.stands t.shaped)

  -- the words say what the nodes of a rule are
  pub say_rule : {i e : ℕ} {l : Lexeme} {ops : Items} → Stands s i (tree l ops none) e → rule_shape l ops ≡ true → AllSay s (raw_rule l ops)
  unfolding AllSay
  say_rule (word {l = l} w rest) shape =
      let term : is_pattern l none ≡ false = ap (λ (b : Bool). b && is_among ("Constant" ∷ "Variable" ∷ []) (item 0 none)) w.no_list in
      rw term (say_term_rule (word w rest) (rw term at shape))
  say_rule (bracketed {i = i} {c = c} {e = e} {ops = ops} b inner rest) shape = go (is_pattern (list i c) ops) refl
    where
      go : (known : Bool) → is_pattern (list i c) ops ≡ known → AllSay s (raw_rule (list i c) ops)
      go true e =
          let parts = rw e at shape in
          let two = and_left (eqb (count ops) 2) _ parts in
          rw e (say_pattern i inner e two (and_right (eqb (count ops) 2) _ parts), tt, tt)
      go false e = rw e (say_term_rule (bracketed b inner rest) (rw e at shape))
