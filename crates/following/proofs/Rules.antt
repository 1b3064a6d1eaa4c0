-- Which rules can be used: what the test of a rule says.
use mathlib.Core.Path.{◌≡◌, sym, ap, ◌∙◌}
use Prim.Native.Nat.{ℕ, suc, ◌/◌, ◌<◌}
use native.Mathlib.Omega.{arith}
use mathlib.Core.Bool.{true, false, not, ◌&&◌}
use mathlib.Core.List.{List, ◌∷◌}
use lib.Dec.{eqb, ltb}
use lib.ListN.{drop, get_or, length}
use lib.Seq.{drop-cons}
use borrow.Author.Tests.{eq-eqb, eqb-true, ltb-true, not-true, lt-ltb}
use Rattle.derivation.specs.Derivation.{head_of}
use Rattle.derivation.specs.code.Tables.{Given}
use Rattle.derivation.specs.code.Masks.{has}
use Rattle.derivation.specs.code.Rules.{non_terminal_at, rule_width}
use Rattle.derivation.proofs.PassedTests.{and_both, and-true}
use Rattle.derivation.proofs.RuleFirst.{head_is, rules_count}
use Rattle.following.specs.code.Steps.{usable}

-- what stands at an index within a list, whatever stands past its end
pub get_d_any : (l : List ℕ) (i d e : ℕ) → i < length l → get_or l i d ≡ get_or l i e
get_d_any l i d e h =
    let z : get_or l i d ∷ drop (suc i) l ≡ get_or l i e ∷ drop (suc i) l = sym (drop-cons l i d h) ∙ drop-cons l i e h in
    cc

module _ {rules forms body : List ℕ} (g : Given rules forms body) where
  -- a rule that passes the test, and one that does not
  pub record Usable (r A used : ℕ) : Type 0 where
    pub is_rule : r < length g.G.rules
    pub head : head_of g.G.rules r ≡ A
    pub not_used : has used A ≡ false

  pub usable_rule : {r A used : ℕ} → usable rules r A used ≡ true → Usable r A used
  unfolding usable
  usable_rule {r} {A} {used} e =
      let t = and-true (ltb r (length rules / rule_width) && eqb (non_terminal_at rules r) A) (not (has used A)) e in
      let s = and-true (ltb r (length rules / rule_width)) (eqb (non_terminal_at rules r) A) t.0 in
      let h : r < length g.G.rules = omega (arith, ltb-true r (length rules / rule_width) s.0, rules_count g) in
      record { is_rule = h; head = sym (head_is g r h) ∙ eqb-true _ _ s.1; not_used = not-true _ t.1 }

  pub rule_usable : {r A used : ℕ} → Usable r A used → usable rules r A used ≡ true
  unfolding usable
  rule_usable {r} {A} {used} u =
      and_both (and_both (lt-ltb r (length rules / rule_width) (omega (arith, u.is_rule, rules_count g))) (eq-eqb _ _ (head_is g r u.is_rule
      ∙ u.head))) (ap not u.not_used)
