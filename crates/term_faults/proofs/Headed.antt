-- The heads of lists among the nodes of terms and rules: a symbol that heads a list is neither `Constant` nor `Variable`.
use Prim.Native.Nat.{ℕ}
use native.Mathlib.Omega.{arith}
use mathlib.Core.Path.{◌≡◌, refl}
use mathlib.Core.Bool.{Bool, true, false, cond, not, ◌||◌, or-false}
use mathlib.Core.List.{List}
use borrow.Author.Tests.{not-true}
use lib.Dec.{leb}
use Rattle.forest.specs.Forest.{Forest, count, join, none, tree}
use Rattle.forest.specs.Lists.{same_bytes}
use Rattle.forest.proofs.Bools.{and_left, and_right, or_right}
use Rattle.words.specs.Trees.{Lexeme, keyword, list, literal, numeral, symbol, word_of}
use Rattle.lexemes.specs.Reserved.{is_one_of, is_word}
use Rattle.lexemes.specs.Lists.{Items, inside, is, is_constant_word, is_keyword, is_list, item, name_of, numeral_of}
use Rattle.lexemes.specs.code.Standing.{Source, Stands, bracketed, ends, word}
use Rattle.shapes.specs.Shapes.{all, application_shape, group_shape, head_shape, is_pattern, rule_shape, term_shapes}
use Rattle.term_nodes.specs.Terms.{Raw, cut_by, decimal, headed_by, raw_of, raw_rule, raw_terms}
use Rattle.term_nodes.specs.code.Table.{operands_of}
use Rattle.term_nodes.proofs.RuleTerms.{rule_term}
use Rattle.term_nodes.proofs.TermWords.{list_shape}
use Rattle.term_nodes.specs.Rules.{Ruled, rules_in, sides}
use Rattle.names.specs.code.Lookup.{Headed}
use Rattle.names.specs.code.Forms.{AllHeaded}
use Rattle.term_faults.proofs.Groups.{groups_keep}

-- what holds of the heads of two forests holds of those of both
headed_join : (F G : Forest Raw) → AllHeaded F → AllHeaded G → AllHeaded (join F G)
unfolding AllHeaded join
headed_join none G f g = g
headed_join (tree r ops rest) G f g = (f.0, f.1, headed_join rest G f.2 g)

-- ---- one node

-- a symbol that may head a term is neither of the two
no_pattern : (head : ℕ) (name : List ℕ) (held : Items) → head_shape (symbol head name) held ≡ true → is_word "Constant" name || is_word "Variable" name ≡ false
unfolding is_one_of
no_pattern head name held shape =
    let none_of = not-true _ (simp or-false at shape) in
    or_right (is_word "false" name) _ (or_right (is_word "true" name) _ none_of)

-- the node that a list is
indexed_headed : (at : ℕ) (ops : Items) (c : Bool)
    → Headed (cond c (decimal at (word_of (item 1 ops)) (name_of (item 1 ops)) (numeral_of (item 2 ops))) (cut_by at ops))
indexed_headed at ops true = tt
indexed_headed at ops false = tt

list_headed : (at : ℕ) (ops : Items) → list_shape ops ≡ true → Headed (headed_by at (item 0 ops) (inside 0 ops) ops)
unfolding inside item list_shape
list_headed at none shape = tt
list_headed at (tree (symbol head name) held more) shape = go (is "_" (symbol head name)) refl
  where
    go : (b : Bool) → is "_" (symbol head name) ≡ b → Headed (headed_by at (symbol head name) held (tree (symbol head name) held more))
    go true e = rw e (indexed_headed at (tree (symbol head name) held more) (is_constant_word (item 1 (tree (symbol head name) held more))))
    go false e =
        let ops = tree (symbol head name) held more in
        let application = and_left (application_shape ops) (term_shapes true ops) (rw e at shape) in
        rw e (λ _. no_pattern head name held (and_left (head_shape (symbol head name) held) (leb 2 (count ops)) application))
list_headed at (tree (list head close) held more) shape = tt
list_headed at (tree (numeral head v) held more) shape = tt
list_headed at (tree (keyword head name) held more) shape = tt
list_headed at (tree (literal head width v written) held more) shape = tt

-- the node that a word is
word_headed : (l : Lexeme) → is_list l ≡ false → Headed (raw_of l none)
unfolding item
word_headed (symbol at name) e = λ later. absurd (omega arith)
word_headed (numeral at v) e = tt
word_headed (keyword at name) e = tt
word_headed (literal at width v written) e = tt
word_headed (list at close) e = tt

-- ---- terms

-- the operands of a list
operands_headed : (ops : Items) (b : Bool) → is "_" (item 0 ops) ≡ b → (term_shapes true ops ≡ true → AllHeaded (raw_terms true ops)) → list_shape ops ≡ true
    → AllHeaded (operands_of ops)
unfolding AllHeaded list_shape
operands_headed ops true e held shape = rw e tt
operands_headed ops false e held shape = rw e (held (and_right (application_shape ops) (term_shapes true ops) (rw e at shape)))

module _ {s : Source} where
  -- the nodes of terms, behind a head or not
  items_headed : (headed : Bool) {i e : ℕ} {F : Items} → Stands s i F e → term_shapes headed F ≡ true → AllHeaded (raw_terms headed F)
  unfolding AllHeaded item list_shape raw_terms same_bytes term_shapes
  items_headed headed ends shape = tt
  items_headed true (word w rest) shape = items_headed false rest shape
  items_headed false (word {l = l} {more = more} w rest) shape =
      (word_headed l w.no_list, tt, items_headed false rest (and_right (not (is_list l || is_keyword l) || list_shape none) (term_shapes false more) shape))
  items_headed true (bracketed b inner rest) shape = items_headed false rest shape
  items_headed false (bracketed {i = i} {ops = ops} {more = more} b inner rest) shape =
      let listed = and_left (list_shape ops) (term_shapes false more) shape in (
        list_headed i ops listed,
        operands_headed ops (is "_" (item 0 ops)) refl (λ h. items_headed true inner h) listed,
        items_headed false rest (and_right (list_shape ops) (term_shapes false more) shape),
      )

  -- the nodes of terms
  pub terms_headed : {i e : ℕ} {F : Items} → Stands s i F e → term_shapes false F ≡ true → AllHeaded (raw_terms false F)
  terms_headed stands shape = items_headed false stands shape

  -- ---- rules

  -- the nodes of a rule
  rule_headed : {i e : ℕ} {l : Lexeme} {ops : Items} → Stands s i (tree l ops none) e → rule_shape l ops ≡ true → AllHeaded (raw_rule l ops)
  unfolding AllHeaded
  rule_headed {l = l} {ops = ops} stands shape = go (is_pattern l ops) refl
    where
      go : (known : Bool) → is_pattern l ops ≡ known → AllHeaded (raw_rule l ops)
      go true e = rw e (tt, tt, tt)
      go false e = let t = rule_term stands (rw e at shape) in rw (e, t.side_is) (terms_headed t.stands t.shaped)

  -- the nodes of the rules of a grammar
  pub rules_headed : {i e : ℕ} {F : Items} → Stands s i F e → all group_shape F ≡ true → (A : ℕ) → AllHeaded (sides (rules_in A F))
  unfolding AllHeaded sides
  rules_headed stands shape A =
      groups_keep {Q = λ (rules : List Ruled). AllHeaded (sides rules)} tt
      (λ A i e l ops rules one shape behind held. headed_join (raw_rule l ops) (sides rules) (rule_headed one shape) held)
      stands shape A
