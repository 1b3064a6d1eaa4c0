-- What the nodes of terms stand for is of sorts at most 64 wide, where names and patterns are.
use Prim.Native.Nat.{ℕ, ◌^◌, ◌≤◌}
use mathlib.Core.Bool.{Bool, true, false, cond, ◌&&◌}
use mathlib.Core.Option.{Option}
use lib.Dec.{leb, ltb}
use lib.ListN.{get_or}
use Rattle.forest.specs.Forest.{Forest, none, tree}
use Rattle.word_kinds.specs.Decimals.{decimal_value}
use Rattle.operators.specs.Operators.{operator_count, operator_of}
use Rattle.operators.specs.Sorts.{max_width}
use Rattle.derivation.specs.Derivation.{Item}
use Rattle.lexemes.specs.Reserved.{is_word}
use Rattle.term_sorts.specs.code.Signatures.{Every, Narrow}
use Rattle.term_nodes.specs.Terms.{Raw, constant, cut, decimal, number, pattern, word}
use Rattle.names.specs.Scopes.{View, defined_names, forms_of, function_names, is_named, item_or, means, named_sorts, names_of, symbol_means}
use Rattle.term_faults.specs.code.Bodies.{NarrowNode}

-- What a node stands for, or nothing, is.
record Slim (meant : Option Item) : Type 0 where
  slim : Narrow (item_or meant)

-- One of two is where both are.
either_slim : (test : Bool) {one other : Option Item} → Slim one → Slim other → Slim (cond test one other)
either_slim true p q = p
either_slim false p q = q

module _ (view : View) (narrow : (k : ℕ) → get_or (named_sorts view.names) k 0 ≤ max_width) where
  -- What a node stands for is.
  node_slim : (r : Raw) → NarrowNode r → Slim (means view r)
  unfolding symbol_means
  node_slim (word at head n) h =
      either_slim (is_word "true" n) (record { slim = tt })
      (either_slim (is_word "false" n) (record { slim = tt })
      (either_slim (ltb (operator_of n) operator_count) (either_slim (is_word "extract" n) (record { slim = tt }) (record { slim = tt }))
      (either_slim (is_named (names_of view.names) n) (record { slim = narrow _ })
      (either_slim (is_named (defined_names view.defined) n) (record { slim = tt })
      (either_slim (is_named (function_names view.functions) n) (record { slim = tt })
      (either_slim (is_named (names_of view.non_terminals) n) (record { slim = tt }) (record { slim = tt })))))))
  node_slim (number at v) h = record { slim = tt }
  node_slim (constant at width v) h = record { slim = tt }
  node_slim (decimal at head n width) h =
      either_slim (leb 1 width && leb width max_width && ltb (decimal_value n) (2 ^ width)) (record { slim = tt }) (record { slim = tt })
  node_slim (cut at head i j) h = either_slim (leb j i && ltb i max_width) (record { slim = tt }) (record { slim = tt })
  node_slim (pattern at true s held) h = record { slim = h }
  node_slim (pattern at false s held) h = record { slim = h }

  -- What all nodes stand for is.
  pub forms_narrow : (F : Forest Raw) → Every NarrowNode F → Every Narrow (forms_of view F)
  unfolding Every forms_of
  forms_narrow none h = tt
  forms_narrow (tree r ops rest) h = ((node_slim r h.0).slim, forms_narrow ops h.1, forms_narrow rest h.2)
