-- The sorts that rules of a grammar name are at most 64 wide, where none is past the limit.
use Prim.Native.Nat.{ℕ, ◌+◌, ◌≤◌, ◌<◌}
use native.Mathlib.Omega.{arith}
use mathlib.Core.Bool.{Bool, true, false, cond}
use mathlib.Core.List.{List, ◌++◌}
use Rattle.forest.specs.Forest.{none, tree}
use Rattle.words.specs.Trees.{Lexeme, word_of}
use Rattle.lexemes.specs.Lists.{Items, inside, is, item}
use Rattle.shapes.specs.Shapes.{is_annotated, is_pattern}
use Rattle.written_sorts.specs.Written.{group_place, least_in, rule_place, sort_place}
use Rattle.written_sorts.specs.declared.Fault.TheVariants.{TooWide}
use Rattle.term_sorts.specs.code.Signatures.{Every}
use Rattle.term_sorts.proofs.Every.{every_join}
use Rattle.term_nodes.specs.Terms.{pattern, raw_rule, raw_term}
use Rattle.term_nodes.specs.Rules.{Ruled, rules_in, rules_of, sides}
use Rattle.term_faults.specs.code.Bodies.{NarrowNode}
use Rattle.script.proofs.TermsOfForms.{term_narrow}
use Rattle.script.proofs.WordsBelow.{Below, inside_below, item_below, sort_narrow}

module _ (nowhere : ℕ) (some : 0 < nowhere) where
  -- The sort of a rule.
  rule_narrow : (l : Lexeme) (ops : Items) → Below nowhere ops → nowhere ≤ rule_place TooWide nowhere l ops → Every NarrowNode (raw_rule l ops)
  unfolding Every
  rule_narrow l ops below h = go (is_pattern l ops) (is_annotated l ops) h
    where
      go : (b t : Bool) → nowhere ≤ cond b (sort_place TooWide nowhere (item 1 ops) (inside 1 ops)) nowhere
          → Every NarrowNode (cond b (tree (pattern (word_of l) (is "Constant" (item 0 ops)) (item 1 ops) (inside 1 ops)) none none)
          (cond t (raw_term (item 1 ops) (inside 1 ops)) (raw_term l ops)))
      go true t h =
          let held = inside_below nowhere 1 ops below in
          (sort_narrow nowhere (item 1 ops) (inside 1 ops) (item_below some 2 (inside 1 ops) held).first h, tt, tt)
      go false true h = term_narrow (item 1 ops) (inside 1 ops)
      go false false h = term_narrow l ops

  -- The sorts of the rules of a non-terminal, and of the rules behind them.
  group_narrow : (A : ℕ) (rules : Items) → Below nowhere rules → nowhere ≤ least_in nowhere (rule_place TooWide nowhere) rules
      → (more : List Ruled) → Every NarrowNode (sides more) → Every NarrowNode (sides (rules_of A rules ++ more))
  unfolding Below least_in rules_of sides
  group_narrow A none below h more behind = behind
  group_narrow A (tree l ops later) below h more behind =
      every_join NarrowNode (raw_rule l ops) _ (rule_narrow l ops below.1 (omega arith)) (group_narrow A later below.2 (omega arith) more behind)

  -- The sorts of all rules.
  pub rules_narrow : (A : ℕ) (groups : Items) → Below nowhere groups → nowhere ≤ least_in nowhere (group_place TooWide nowhere) groups
      → Every NarrowNode (sides (rules_in A groups))
  unfolding Below Every least_in rules_in sides
  rules_narrow A none below h = tt
  rules_narrow A (tree l ops later) below h =
      group_narrow A (inside 2 ops) (inside_below nowhere 2 ops below.1) (omega arith) _ (rules_narrow (A + 1) later below.2 (omega arith))
