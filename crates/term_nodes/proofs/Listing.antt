-- Laws of rules that are listed one after the other.
use Prim.Native.Nat.{ℕ, zero, suc, ◌+◌, ◌-◌, ◌*◌, ◌≤◌, ◌<◌, min}
use native.Mathlib.Omega.{arith}
use mathlib.Core.Path.{◌≡◌, refl, sym, ◌∙◌}
use mathlib.Core.Bool.{Bool, true, false, cond}
use mathlib.Core.List.{List, [], ◌∷◌, ◌++◌}
use lib.Dec.{leb}
use lib.ListN.{length}
use borrow.Author.Tests.{le-leb}
use Rattle.forest.specs.Forest.{join, none, tree}
use Rattle.forest.specs.code.Cursors.{size}
use Rattle.forest.proofs.Laws.{join_assoc, join_none, size_join}
use Rattle.derivation.specs.code.Rules.{rule_width}
use Rattle.words.specs.Trees.{Lexeme}
use Rattle.forest.specs.Lists.{same_bytes}
use Rattle.forest.proofs.Bools.{and_left}
use Rattle.lexemes.specs.Lists.{Items, inside, is, is_list, item}
use Rattle.lexemes.specs.code.Standing.{Source, Stands, bracketed, ends, word}
use Rattle.lexemes.proofs.Standing.{forward, here}
use Rattle.shapes.specs.Shapes.{is_annotated, is_pattern}
use Rattle.term_nodes.specs.Terms.{raw_rule, raw_term, raw_term_rule, raw_terms}
use Rattle.term_nodes.specs.code.Table.{operands_of}
use Rattle.term_nodes.specs.Rules.{Ruled, nodes_past, rule_past, rules_of, side_past, sides}
use Rattle.term_nodes.specs.code.RuleGathering.{start_table}
use Rattle.term_nodes.proofs.RuleTerms.{rule_ends}

-- ---- their right sides

-- those of the one list, then those of the other
pub sides_append : (a b : List Ruled) → sides (a ++ b) ≡ join (sides a) (sides b)
unfolding join sides
sides_append [] b = refl
sides_append (r ∷ a) b = rw (sides_append a b, join_assoc)

-- how many nodes these have
pub size_sides : (a b : List Ruled) → size (sides (a ++ b)) ≡ size (sides a) + size (sides b)
size_sides a b = rw (sides_append, size_join)

-- those of one rule more
pub sides_more : (done : List Ruled) (A : ℕ) (l : Lexeme) (ops : Items) → sides (done ++ rules_of A (tree l ops none)) ≡ join (sides done) (raw_rule l ops)
unfolding rules_of sides
sides_more done A l ops = sides_append done (rules_of A (tree l ops none)) ∙ rw join_none

-- ---- where they start

-- three numbers for each rule
pub length_starts : (start : ℕ) (rules : List Ruled) → length (start_table start rules) ≡ rule_width * length rules
unfolding start_table
length_starts start [] = refl
length_starts start (r ∷ more) = omega (arith, length_starts (start + size r.side) more)

-- the rules of another list start behind those of the one
pub starts_append : (start : ℕ) (a b : List Ruled) → start_table start (a ++ b) ≡ start_table start a ++ start_table (start + size (sides a)) b
unfolding sides size start_table
starts_append start [] b = let same : start + 0 ≡ start = omega arith in rw same
starts_append start (r ∷ a) b =
    let later : start + size r.side + size (sides a) ≡ start + size (join r.side (sides a)) = rw size_join (omega arith) in
    rw (starts_append (start + size r.side) a b, later)

-- ---- the words past the limits

module _ (nowhere : ℕ) where
  -- a rule within the limit is passed
  past_over : (most : ℕ) (r : Ruled) (more : List Ruled) → rule_past nowhere (suc most) (r ∷ more) ≡ rule_past nowhere most more
  unfolding rule_past
  past_over most r more =
      let within : leb 1 (suc most) ≡ true = le-leb 1 (suc most) (omega arith) in
      let less : suc most - 1 ≡ most = omega arith in
      rw (within, less)

  -- no rule is past the limit
  pub no_rule_past : (most : ℕ) (rules : List Ruled) → length rules ≤ most → rule_past nowhere most rules ≡ nowhere
  unfolding rule_past
  no_rule_past most [] h = refl
  no_rule_past zero (r ∷ more) h = absurd (omega arith)
  no_rule_past (suc most) (r ∷ more) h = past_over most r more ∙ no_rule_past most more (omega arith)

  -- the rule behind those that are within the limit is the one past it
  pub first_past : (most : ℕ) (rules : List Ruled) (r : Ruled) → length rules ≡ most → rule_past nowhere most (rules ++ r ∷ []) ≡ r.first
  unfolding rule_past
  first_past zero [] r h = refl
  first_past (suc most) [] r h = absurd (omega arith)
  first_past zero (q ∷ more) r h = absurd (omega arith)
  first_past (suc most) (q ∷ more) r h = past_over most q (more ++ r ∷ []) ∙ first_past most more r (omega arith)

  -- a rule behind that one changes nothing
  pub still_past : (most : ℕ) (rules : List Ruled) (r : Ruled) → most < length rules
      → rule_past nowhere most (rules ++ r ∷ []) ≡ rule_past nowhere most rules
  unfolding rule_past
  still_past most [] r h = absurd (omega arith)
  still_past zero (q ∷ more) r h = refl
  still_past (suc most) (q ∷ more) r h =
      past_over most q (more ++ r ∷ []) ∙ still_past most more r (omega arith) ∙ sym (past_over most q more)

  -- no node is past nowhere
  pub nodes_within : (nodes : ℕ) (rules : List Ruled) → nodes_past nowhere nodes rules ≤ nowhere
  unfolding nodes_past
  nodes_within nodes [] = omega arith
  nodes_within nodes (r ∷ more) = omega (arith, nodes_within nodes more)

  -- the nodes of one rule more
  pub nodes_more : (nodes : ℕ) (rules : List Ruled) (r : Ruled)
      → nodes_past nowhere nodes (rules ++ r ∷ []) ≡ min (nodes_past nowhere nodes rules) (side_past nowhere nodes r)
  unfolding nodes_past
  nodes_more nodes [] r = swapped (side_past nowhere nodes r) nowhere
    where
      swapped : (a b : ℕ) → min a b ≡ min b a
      swapped a b = omega arith
  nodes_more nodes (q ∷ more) r = rw (nodes_more nodes more r) (grouped (side_past nowhere nodes q) (nodes_past nowhere nodes more) (side_past nowhere nodes r))
    where
      grouped : (a b c : ℕ) → min a (min b c) ≡ min (min a b) c
      grouped a b c = omega arith

-- ---- a row for each word

-- the operands of a term have no more nodes than the items of its list, behind a head
operands_fit : (ops : Items) (b : Bool) → is "_" (item 0 ops) ≡ b → size (operands_of ops) ≤ size (raw_terms true ops)
unfolding size
operands_fit ops true e = rw e (omega arith)
operands_fit ops false e = rw e (omega arith)

module _ {s : Source} where
  -- terms have no more nodes than words
  terms_fit : (headed : Bool) {i e : ℕ} {F : Items} → Stands s i F e → i + size (raw_terms headed F) ≤ e
  unfolding raw_terms size
  terms_fit headed ends = omega arith
  terms_fit true (word w rest) = omega (arith, terms_fit false rest)
  terms_fit false (word w rest) = omega (arith, terms_fit false rest, operands_fit none (is "_" (item 0 none)) refl)
  terms_fit true (bracketed b inner rest) = omega (arith, terms_fit false rest, forward inner)
  terms_fit false (bracketed {ops = ops} b inner rest) =
      omega (arith, terms_fit false rest, terms_fit true inner, operands_fit ops (is "_" (item 0 ops)) refl)

  -- nor has the first of some items, or what stands for it
  first_fits : {k c : ℕ} {ops : Items} → Stands s k ops c → k + size (raw_term (item 0 ops) (inside 0 ops)) ≤ suc c
  unfolding inside item raw_terms same_bytes size
  first_fits ends = omega arith
  first_fits (word v rest) = omega (arith, terms_fit false (word v ends), forward rest)
  first_fits (bracketed d held rest) = omega (arith, terms_fit false (bracketed d held ends), forward rest)

  -- nor has the second item of a list
  second_fits : {j c : ℕ} {ops : Items} → Stands s j ops c → j + size (raw_term (item 1 ops) (inside 1 ops)) ≤ suc c
  unfolding inside item raw_terms same_bytes size
  second_fits ends = omega arith
  second_fits (word w rest) = omega (arith, first_fits rest)
  second_fits (bracketed b inner rest) = omega (arith, forward inner, first_fits rest)

  -- nor has a rule that is a term
  term_rule_fits : {i e : ℕ} {l : Lexeme} {ops : Items} → Stands s i (tree l ops none) e → i + size (raw_term_rule l ops) ≤ e
  term_rule_fits {i} {e} {l} {ops} stands = go (is_annotated l ops) refl
    where
      go : (a : Bool) → is_annotated l ops ≡ a → i + size (cond a (raw_term (item 1 ops) (inside 1 ops)) (raw_term l ops)) ≤ e
      go false t = terms_fit false stands
      go true t =
          let h = (here refl stands).a_list (and_left (is_list l) (is "!" (item 0 ops)) t) in
          omega (arith, second_fits h.stands, h.next, rule_ends stands)

  -- nor has a rule
  rule_fits : {i e : ℕ} {l : Lexeme} {ops : Items} → Stands s i (tree l ops none) e → i + size (raw_rule l ops) ≤ e
  unfolding size
  rule_fits {i} {e} {l} {ops} stands = go (is_pattern l ops) refl
    where
      some_word : {e : ℕ} {l : Lexeme} {ops : Items} → Stands s i (tree l ops none) e → i + 1 ≤ e
      some_word (word w rest) = omega (arith, forward rest)
      some_word (bracketed b inner rest) = omega (arith, forward inner, forward rest)

      go : (known : Bool) → is_pattern l ops ≡ known → i + size (raw_rule l ops) ≤ e
      go true known = rw known (some_word stands)
      go false known = rw known (term_rule_fits stands)

  -- nor have rules
  pub rules_fit : (A : ℕ) {i e : ℕ} {F : Items} → Stands s i F e → i + size (sides (rules_of A F)) ≤ e
  unfolding rules_of sides size
  rules_fit A ends = omega arith
  rules_fit A (word w rest) = rw size_join (omega (arith, rule_fits (word w ends), rules_fit A rest))
  rules_fit A (bracketed b inner rest) = rw size_join (omega (arith, rule_fits (bracketed b inner ends), rules_fit A rest))

-- a rule has a node
pub some_node : (l : Lexeme) (ops : Items) → 0 < size (raw_rule l ops)
unfolding raw_terms size
some_node l ops = go (is_pattern l ops) refl
  where
    either : (a : Bool) → 0 < size (cond a (raw_term (item 1 ops) (inside 1 ops)) (raw_term l ops))
    either true = omega arith
    either false = omega arith

    go : (known : Bool) → is_pattern l ops ≡ known → 0 < size (raw_rule l ops)
    go true known = rw known (omega arith)
    go false known = rw known (either (is_annotated l ops))
