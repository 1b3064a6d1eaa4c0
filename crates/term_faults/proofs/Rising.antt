-- The first words of the nodes of terms and rules rise in the order of the text.
use Prim.Native.Nat.{ℕ, suc, ◌+◌, ◌≤◌}
use native.Mathlib.Nat.{le_refl}
use native.Mathlib.Omega.{arith}
use mathlib.Core.Path.{◌≡◌, refl, ◌∙◌}
use mathlib.Core.Bool.{Bool, true, false}
use mathlib.Core.List.{List}
use Rattle.forest.specs.Forest.{Forest, join, none, tree}
use Rattle.forest.specs.Lists.{same_bytes}
use Rattle.words.specs.Trees.{Lexeme, list}
use Rattle.lexemes.specs.Lists.{Items, is, item}
use Rattle.lexemes.specs.code.Standing.{Source, Stands, bracketed, ends, word}
use Rattle.lexemes.proofs.Standing.{forward}
use Rattle.shapes.specs.Shapes.{all, group_shape, is_pattern, rule_shape, term_shapes}
use Rattle.term_nodes.specs.Terms.{Raw, raw_rule, raw_term, raw_terms}
use Rattle.term_nodes.specs.code.Table.{operands_of}
use Rattle.term_nodes.proofs.GatheringWalk.{term_first}
use Rattle.term_nodes.proofs.RuleTerms.{rule_term}
use Rattle.term_nodes.proofs.TermWords.{first_of}
use Rattle.term_nodes.specs.Rules.{Ruled, rules_in, sides}
use Rattle.term_faults.specs.code.Bodies.{Rising}
use Rattle.term_faults.proofs.Groups.{Gathers, groups_hold}

-- ---- nodes that rise

-- nodes that rise between two words rise between words further apart
pub rising_wider : (F : Forest Raw) {i e low high : ℕ} → Rising i e F → low ≤ i → e ≤ high → Rising low high F
unfolding Rising
rising_wider none r l h = tt
rising_wider (tree root ops rest) (mid, above, below, by, inner, later) l h =
    (mid, omega arith, below, omega arith, inner, rising_wider rest later (omega arith) h)

-- and so do those of two forests, one behind the other
rising_join : (F G : Forest Raw) {i m e : ℕ} → m ≤ e → Rising i m F → Rising m e G → i ≤ m → Rising i e (join F G)
unfolding Rising join
rising_join none G h f g l = rising_wider G g l (omega arith)
rising_join (tree root ops rest) G h (mid, above, below, by, inner, later) g l =
    (mid, above, below, omega arith, inner, rising_join rest G h later g by)

-- ---- terms

-- the operands of a list rise where the terms behind its head do
operands_rise : (i e : ℕ) (ops : Items) (b : Bool) → is "_" (item 0 ops) ≡ b → Rising i e (raw_terms true ops) → Rising i e (operands_of ops)
unfolding Rising
operands_rise i e ops true known rising = rw known tt
operands_rise i e ops false known rising = rw known rising

module _ {s : Source} where
  -- the nodes that items are rise
  items_rise : (headed : Bool) {i e : ℕ} {F : Items} → Stands s i F e → Rising i e (raw_terms headed F)
  unfolding Rising item raw_terms same_bytes
  items_rise headed ends = tt
  items_rise true (word {more = more} w rest) = rising_wider (raw_terms false more) (items_rise false rest) (omega arith) (omega arith)
  items_rise false {i} (word {l = l} w rest) =
      let at = term_first l none ∙ w.placed in
      (i + 1, omega arith, omega arith, forward rest, tt, items_rise false rest)
  items_rise true (bracketed {more = more} b inner rest) =
      rising_wider (raw_terms false more) (items_rise false rest) (omega (arith, forward inner)) (omega arith)
  items_rise false {i} (bracketed {c = c} {ops = ops} b inner rest) =
      let at = term_first (list i c) ops in
      let held = operands_rise (i + 1) c ops (is "_" (item 0 ops)) refl (items_rise true inner) in
      (c + 1, omega arith, omega (arith, forward inner), forward rest, rising_wider (operands_of ops) held (omega arith) (omega arith), items_rise false rest)

  -- the nodes of terms rise
  pub terms_rise : {i e : ℕ} {F : Items} → Stands s i F e → term_shapes false F ≡ true → Rising i e (raw_terms false F)
  terms_rise stands shape = items_rise false stands

  -- ---- rules

  -- an item ends past its first word
  past_first : {i e : ℕ} {l : Lexeme} {ops more : Items} → Stands s i (tree l ops more) e → suc i ≤ e
  past_first (word w rest) = omega (arith, forward rest)
  past_first (bracketed b inner rest) = omega (arith, forward inner, forward rest)

  -- the nodes of a rule rise
  pub rule_rises : {i e : ℕ} {l : Lexeme} {ops : Items} → Stands s i (tree l ops none) e → rule_shape l ops ≡ true → Rising i e (raw_rule l ops)
  unfolding Rising
  rule_rises {i} {e} {l} {ops} stands shape = go (is_pattern l ops) refl
    where
      go : (known : Bool) → is_pattern l ops ≡ known → Rising i e (raw_rule l ops)
      go true known = let at = first_of stands in rw known (e, omega arith, omega (arith, past_first stands), omega arith, tt, tt)
      go false known =
          let t = rule_term stands (rw known at shape) in
          rw (known, t.side_is) (rising_wider (raw_term t.label t.held) (items_rise false t.stands) t.begins t.ends_by)

  -- one rule more
  rises : Gathers s (λ (i e : ℕ) (rules : List Ruled). Rising i e (sides rules))
  unfolding Rising sides
  rises = record {
    nothing = λ i e. tt;
    one_more = λ A one shape behind h held. rising_join _ _ h (rule_rises one shape) held (forward one);
    earlier = λ {e = e} {rules = rules} h held. rising_wider (sides rules) {e = e} held h (le_refl e);
  }

  -- the nodes of the rules of a grammar rise
  pub rules_rise : {i e : ℕ} {F : Items} → Stands s i F e → all group_shape F ≡ true → (A : ℕ) → Rising i e (sides (rules_in A F))
  rules_rise stands shape A = groups_hold rises stands shape A
