-- The rules that groups list: what the words say of their nodes, and that each is one tree.
use Prim.Native.Nat.{ℕ, ◌+◌, ◌-◌}
use native.Mathlib.Omega.{arith}
use mathlib.Core.Path.{◌≡◌, refl, sym, ap, ◌∙◌}
use mathlib.Core.Bool.{Bool, true, false}
use mathlib.Core.List.{List}
use Rattle.forest.specs.Forest.{none, tree}
use Rattle.words.specs.Trees.{Lexeme, word_of}
use Rattle.lexemes.specs.Lists.{Items, inside, is, item}
use Rattle.lexemes.specs.code.Codes.{weight_code}
use Rattle.lexemes.specs.code.Standing.{Source, Stands}
use Rattle.lexemes.specs.code.Table.{code_at, next_at}
use Rattle.shapes.specs.Shapes.{all, group_shape, is_annotated, is_pattern, rule_shape}
use Rattle.term_nodes.specs.code.Says.{AllSay}
use Rattle.term_nodes.specs.Terms.{pattern, raw_of, raw_rule, raw_terms}
use Rattle.term_nodes.specs.code.Table.{operands_of}
use Rattle.term_nodes.proofs.PastLimit.{say_join}
use Rattle.term_nodes.proofs.Saying.{say_rule}
use Rattle.term_nodes.specs.Rules.{Ruled, rules_in, sides}
use Rattle.term_faults.specs.code.Grammars.{AllSingle, Single}
use Rattle.term_faults.specs.code.Roots.{rule_first}
use Rattle.term_faults.proofs.Groups.{Unweighted, groups_keep, rule_of}
use Rattle.term_nodes.proofs.GatheringWalk.{term_first}
use Rattle.term_nodes.proofs.RuleTerms.{rule_ends, weighted_behind}
use Rattle.term_nodes.proofs.TermWords.{first_of}

-- the first word of a rule is told by that of its right side, behind which `:weight` stands or not
first_told : (s : Source) (w : ℕ) → Unweighted s (next_at s.lexemes w) → rule_first s.lexemes w ≡ w
unfolding rule_first
first_told s w behind = rw behind

first_before : (s : Source) (i : ℕ) → code_at s.lexemes (next_at s.lexemes (i + 2)) ≡ weight_code → rule_first s.lexemes (i + 2) ≡ i
unfolding rule_first
first_before s i behind = let back : i + 2 - 2 ≡ i = omega arith in rw (behind, back)

-- a rule is one tree whose first word tells that of the rule
rule_single : {s : Source} (A : ℕ) {i e : ℕ} (l : Lexeme) (ops : Items) → Stands s i (tree l ops none) e → rule_shape l ops ≡ true → Unweighted s e
    → Single s.lexemes (rule_of A l ops)
unfolding raw_terms
rule_single {s} A {i} {e} l ops stands shape behind = go (is_pattern l ops) refl
  where
    here_told : rule_first s.lexemes (word_of l) ≡ word_of l
    here_told = first_told s (word_of l) (rw (first_of stands, rule_ends stands) behind)

    go : (known : Bool) → is_pattern l ops ≡ known → Single s.lexemes (rule_of A l ops)
    go true e = (pattern (word_of l) (is "Constant" (item 0 ops)) (item 1 ops) (inside 1 ops), none, rw e, here_told)
    go false known = either (is_annotated l ops) refl
      where
        either : (a : Bool) → is_annotated l ops ≡ a → Single s.lexemes (rule_of A l ops)
        either false t = (raw_of l ops, operands_of ops, rw (known, t), ap (rule_first s.lexemes) (term_first l ops) ∙ here_told)
        either true t =
            let w = weighted_behind stands (rw (known, t) at shape) t in (
              raw_of (item 1 ops) (inside 1 ops),
              operands_of (inside 1 ops),
              rw (known, t),
              ap (rule_first s.lexemes) (term_first (item 1 ops) (inside 1 ops) ∙ w.0) ∙ first_before s i w.1 ∙ sym (first_of stands),
            )

module _ {s : Source} where
  -- the words say what the nodes of the rules of a grammar are
  pub rules_say : {i e : ℕ} {F : Items} → Stands s i F e → all group_shape F ≡ true → (A : ℕ) → AllSay s (sides (rules_in A F))
  unfolding AllSay sides
  rules_say stands shape A =
      groups_keep {Q = λ (rules : List Ruled). AllSay s (sides rules)} tt
      (λ A i e l ops rules one shape behind held. say_join s (raw_rule l ops) (sides rules) (say_rule one shape) held)
      stands shape A

  -- each rule of a grammar is one tree whose first word tells that of the rule
  pub rules_single : {i e : ℕ} {F : Items} → Stands s i F e → all group_shape F ≡ true → (A : ℕ) → AllSingle s.lexemes (rules_in A F)
  unfolding AllSingle
  rules_single stands shape A =
      groups_keep {Q = AllSingle s.lexemes} tt (λ A i e l ops rules one shape behind held. (rule_single A l ops one shape behind, held)) stands shape A
