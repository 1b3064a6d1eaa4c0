-- A grammar that is not past a limit: at most 128 rules, and what their right sides say and what they weigh are small numbers.
use Prim.Native.Nat.{ℕ, zero, suc, ◌-◌, ◌≤◌, ◌<◌}
use native.Mathlib.Omega.{arith}
use mathlib.Core.Bool.{Bool, true, false, cond}
use mathlib.Core.List.{List, [], ◌∷◌}
use mathlib.Core.Path.{◌≡◌, refl}
use lib.Dec.{leb}
use lib.ListN.{length}
use borrow.Author.Tests.{leb-true}
use Rattle.term_nodes.specs.Rules.{Ruled, rule_past}
use Rattle.derivation.specs.Derivation.{form_of, most_weight, weight_of}
use Rattle.names.specs.Scopes.{View}
use Rattle.script.proofs.Rules.{AllPlaced, also, no_rule, said}
use Rattle.script.proofs.Proper.{AllBounded, terms_bounded}
use Rattle.script.proofs.RuleWeights.{AllLight, also_light, none_heavy}

-- Rules none of which is past the limit are no more than that.
pub rules_few : {nowhere heads : ℕ} (most : ℕ) {rs : List Ruled} → AllPlaced nowhere heads rs → nowhere ≤ rule_past nowhere most rs → length rs ≤ most
unfolding rule_past
rules_few most no_rule h = omega arith
rules_few {nowhere} most (also {r = r} {more = more} p others) h = go (leb 1 most) refl h (rules_few (most - 1) others)
  where
    go : (some : Bool) → leb 1 most ≡ some → nowhere ≤ cond some (rule_past nowhere (most - 1) more) r.first
        → (nowhere ≤ rule_past nowhere (most - 1) more → length more ≤ most - 1) → suc (length more) ≤ most
    go true e h fewer = omega (arith, leb-true 1 most e, fewer h)
    go false e h fewer = absurd (omega (arith, p.first))

-- The numbers of the right side of every rule that is said are small.
pub said_bounded : (view : View) (rs : List Ruled) (r : ℕ) → r < length (said view rs) → AllBounded (form_of (said view rs) r)
unfolding form_of
said_bounded view [] r h = absurd (omega arith)
said_bounded view (x ∷ more) zero h = terms_bounded view x.side
said_bounded view (x ∷ more) (suc r) h = said_bounded view more r (omega arith)

-- The weight of every rule that is said is at most the most that one may weigh, where no rule is heavier.
pub said_light : (view : View) {rs : List Ruled} → AllLight rs → (r : ℕ) → r < length (said view rs) → weight_of (said view rs) r ≤ most_weight
unfolding weight_of
said_light view none_heavy r h = absurd (omega arith)
said_light view (also_light light others) zero h = light
said_light view (also_light light others) (suc r) h = said_light view others r (omega arith)
