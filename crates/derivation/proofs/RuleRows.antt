-- What the tables of a grammar say of rule r.
use mathlib.Core.Path.{◌≡◌, refl, ap, ◌∙◌}
use Prim.Native.Nat.{ℕ, zero, suc, ◌+◌, ◌*◌, ◌<◌}
use native.Mathlib.Nat.{zero-add}
use native.Mathlib.Omega.{arith}
use mathlib.Core.List.{List, [], ◌∷◌}
use lib.ListN.{length, get_or}
use Rattle.forest.specs.Forest.{Forest, none, join}
use Rattle.forest.specs.code.Cursors.{size, from}
use Rattle.forest.specs.code.Rows.{number_at}
use Rattle.forest.proofs.Laws.{from_add, from_past}
use Rattle.derivation.specs.Derivation.{Item, Rule, rule, head_of, form_of, weight_of}
use Rattle.derivation.specs.code.Tables.{right_sides, rule_table}
use Rattle.derivation.specs.code.Rules.{non_terminal_at, rule_width, start_at, weight_at}

pub length_rules : (start : ℕ) (G : List Rule) → length (rule_table start G) ≡ rule_width * length G
unfolding rule_table
length_rules start [] = refl
length_rules start (rule A weight form ∷ G) = omega (arith, length_rules (start + size form) G)

-- how many nodes stand before rule r
before : List Rule → ℕ → ℕ
before [] r = 0
before (rule A weight form ∷ G) zero = 0
before (rule A weight form ∷ G) (suc r) = size form + before G r

skip : (a b c : ℕ) (rules : List ℕ) (r k : ℕ) → number_at rule_width (a ∷ b ∷ c ∷ rules) (suc r) k ≡ number_at rule_width rules r k
unfolding number_at
skip a b c rules r k = let e : 3 * suc r + k ≡ suc (suc (suc (3 * r + k))) = omega arith in ap (λ (n : ℕ). get_or (a ∷ b ∷ c ∷ rules) n 0) e

start_is : (start : ℕ) (G : List Rule) (r : ℕ) → r < length G → start_at (rule_table start G) r ≡ start + before G r
unfolding rule_table before number_at
start_is start [] r h = absurd (omega arith)
start_is start (rule A weight form ∷ G) zero h = omega arith
start_is start (rule A weight form ∷ G) (suc r) h =
    skip start A weight (rule_table (start + size form) G) r 0 ∙ omega (arith, start_is (start + size form) G r (omega arith))

head_is : (start : ℕ) (G : List Rule) (r : ℕ) → r < length G → non_terminal_at (rule_table start G) r ≡ head_of G r
unfolding rule_table head_of number_at
head_is start [] r h = absurd (omega arith)
head_is start (rule A weight form ∷ G) zero h = refl
head_is start (rule A weight form ∷ G) (suc r) h = skip start A weight (rule_table (start + size form) G) r 1 ∙ head_is (start + size form) G r (omega arith)

weight_is : (start : ℕ) (G : List Rule) (r : ℕ) → r < length G → weight_at (rule_table start G) r ≡ weight_of G r
unfolding rule_table weight_of number_at
weight_is start [] r h = absurd (omega arith)
weight_is start (rule A weight form ∷ G) zero h = refl
weight_is start (rule A weight form ∷ G) (suc r) h = skip start A weight (rule_table (start + size form) G) r 2 ∙ weight_is (start + size form) G r (omega arith)

-- the right sides after that of rule r
after : List Rule → ℕ → Forest Item
after [] r = none
after (rule A weight form ∷ G) zero = right_sides G
after (rule A weight form ∷ G) (suc r) = after G r

stands : (G : List Rule) (r : ℕ) → r < length G → from (right_sides G) (before G r) ≡ join (form_of G r) (after G r)
unfolding before after right_sides form_of from
stands [] r h = absurd (omega arith)
stands (rule A weight form ∷ G) zero h = refl
stands (rule A weight form ∷ G) (suc r) h =
    from_add (join form (right_sides G)) (size form) (before G r)
    ∙ ap (λ (F : Forest Item). from F (before G r)) (from_past form (right_sides G))
    ∙ stands G r (omega arith)

-- where rule r stands, and what stands there
pub record RuleAt (rules : List ℕ) (G : List Rule) (r : ℕ) : Type 0 where
  pub rest : Forest Item
  pub is : from (right_sides G) (start_at rules r) ≡ join (form_of G r) rest
  pub head : non_terminal_at rules r ≡ head_of G r
  pub weight : weight_at rules r ≡ weight_of G r

pub rule-at : {rules : List ℕ} (G : List Rule) → rules ≡ rule_table 0 G → (r : ℕ) → r < length G → RuleAt rules G r
rule-at G t r h = record {
  rest = after G r;
  is = ap (from (right_sides G)) (ap (λ (x : List ℕ). start_at x r) t ∙ start_is 0 G r h ∙ zero-add (before G r)) ∙ stands G r h;
  head = ap (λ (x : List ℕ). non_terminal_at x r) t ∙ head_is 0 G r h;
  weight = ap (λ (x : List ℕ). weight_at x r) t ∙ weight_is 0 G r h;
}
