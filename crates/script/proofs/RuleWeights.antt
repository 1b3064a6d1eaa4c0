-- The weights of rules of which none is past a limit.
use Prim.Native.Nat.{ℕ, suc, ◌≤◌, ◌<◌}
use native.Mathlib.Omega.{arith}
use mathlib.Core.Path.{◌≡◌, refl}
use mathlib.Core.Bool.{Bool, true, false, cond, ◌&&◌}
use mathlib.Core.List.{List, [], ◌∷◌}
use lib.Dec.{ltb}
use borrow.Author.Tests.{ltb-false, ne_eqb}
use Rattle.forest.specs.Forest.{count, none, tree}
use Rattle.words.specs.Trees.{Lexeme, keyword, list, literal, numeral, symbol, word_of}
use Rattle.lexemes.specs.Lists.{Items, is_numeral, item, numeral_of}
use Rattle.written_sorts.specs.Written.{least_in}
use Rattle.derivation.specs.Derivation.{most_weight}
use Rattle.term_nodes.specs.Rules.{Ruled, attributes_past, nodes_past, weight_by}
use Rattle.script.proofs.Rules.{AllPlaced, also, no_rule}
use Rattle.script.proofs.WordsBelow.{Below}

-- A numeral that is not past the limit.
numeral_light : (nowhere : ℕ) (l : Lexeme) → word_of l < nowhere → nowhere ≤ cond (is_numeral l && ltb most_weight (numeral_of l)) (word_of l) nowhere
    → numeral_of l ≤ most_weight
numeral_light nowhere (numeral at v) low h = go (ltb most_weight v) refl h
  where
    go : (b : Bool) → ltb most_weight v ≡ b → nowhere ≤ cond b at nowhere → v ≤ most_weight
    go true e past = absurd (omega arith)
    go false e past = ltb-false most_weight v e
numeral_light nowhere (symbol at name) low h = omega arith
numeral_light nowhere (keyword at name) low h = omega arith
numeral_light nowhere (list at close) low h = omega arith
numeral_light nowhere (literal at width v written) low h = omega arith

-- The weight that attributes give, of which none is past it.
pub weight_light : (nowhere : ℕ) (F : Items) → Below nowhere F → nowhere ≤ attributes_past nowhere F → weight_by F ≤ most_weight
unfolding Below count item least_in
weight_light nowhere none b h = omega arith
weight_light nowhere (tree k ks none) b h = omega arith
weight_light nowhere (tree k ks (tree v vs none)) b h = numeral_light nowhere v b.2.0.first (omega arith)
weight_light nowhere (tree k ks (tree v vs (tree l ops more))) b h =
    let many = ne_eqb (suc (suc (suc (count more)))) 2 (λ e. omega arith) in
    rw many (omega arith)

-- No rule is heavier than a rule may be.
pub data AllLight : List Ruled → Type 0 where
  none_heavy : AllLight []
  also_light : {r : Ruled} {more : List Ruled} → weight_by r.attributes ≤ most_weight → AllLight more → AllLight (r ∷ more)

-- So it is with rules of which none is past a limit.
pub rules_light : {nowhere heads : ℕ} (nodes : ℕ) {rules : List Ruled} → AllPlaced nowhere heads rules → nowhere ≤ nodes_past nowhere nodes rules → AllLight rules
unfolding nodes_past
rules_light nodes no_rule h = none_heavy
rules_light {nowhere} nodes (also {r = r} p others) h =
    also_light (weight_light nowhere r.attributes p.attributes (omega arith)) (rules_light nodes others (omega arith))
