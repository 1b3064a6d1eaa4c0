-- The passes over the rules, with what is found as a mask.
use Prim.Native.Nat.{ℕ, zero, suc, ◌+◌, ◌-◌, ◌/◌, ◌<◌, ◌≤◌}
use native.Mathlib.Decide.{ℕ_discrete}
use native.Mathlib.Nat.{sub-zero}
use native.Mathlib.Omega.{arith}
use mathlib.Core.Bool.{Bool, true, false, cond, ◌&&◌, ◌||◌, not}
use mathlib.Core.List.{List, [], ◌∷◌}
use mathlib.Core.Path.{◌≡◌, refl, sym, ap, ◌∙◌, subst}
use lib.Dec.{eqb}
use lib.ListN.{drop, length}
use borrow.Author.Tests.{eq-eqb, ne_eqb}
use Rattle.forest.specs.Limits.{most_non_terminals}
use Rattle.forest.specs.Lists.{among}
use Rattle.derivation.specs.Derivation.{Grammar, Rule, form_of, head_of, rule, weight_of}
use Rattle.derivation.specs.Productive.{form_yields, one_pass, passes, productive}
use Rattle.derivation.specs.code.Masks.{Puts, has}
use Rattle.derivation.specs.code.Productive.{AsksDead, AsksForm, FormTested, Found, Grown, Marks, Passed, Tabled, grown_by}
use Rattle.derivation.specs.code.Rules.{non_terminal_at, rule_width}
use Rattle.derivation.proofs.Mask.{has_zero}
use Rattle.derivation.proofs.FoundExactly.{adds_none, pass_same, passes_same}
use Rattle.derivation.proofs.RuleRows.{length_rules, rule-at}
use Rattle.derivation.proofs.YieldWalk.{drop_none}

-- ---- a rule

module _ {rules forms arguments : List ℕ} {r : ℕ} where
  -- the non-terminal in the table is the rule's
  head_is : (q : AsksForm rules forms arguments r) {A : ℕ} → A ≡ non_terminal_at rules r → A ≡ head_of q.tabled.G.rules r
  head_is q ea = ea ∙ (rule-at q.tabled.G.rules q.tabled.is_rules r q.is_rule).head

  -- and one of the 16
  pub rule_low : AsksForm rules forms arguments r → {A : ℕ} → A ≡ non_terminal_at rules r → A < most_non_terminals
  rule_low q ea = omega (arith, head_is q ea, q.tabled.admitted.low r q.is_rule)

  module _ {mask A : ℕ} (ea : A ≡ non_terminal_at rules r) {b : Bool} (eb : b ≡ has mask A) where
    -- whether the mask has it is whether it is found
    found_so : (q : AsksForm rules forms arguments r) (found : List ℕ) → Marks mask found → among (head_of q.tabled.G.rules r) found ≡ b
    found_so q found marks =
        sym (marks.same (head_of q.tabled.G.rules r) (q.tabled.admitted.low r q.is_rule)) ∙ ap (has mask) (sym (head_is q ea)) ∙ sym eb

    -- it is found before
    pub rule_known : b ≡ true → Grown rules forms arguments mask r mask
    rule_known y = record {
      is = λ q found marks.
          let head = head_of q.tabled.G.rules r in
          let yields = form_yields q.tabled.G.arguments found (form_of q.tabled.G.rules r) in
          subst (Marks mask) (sym (kept yields (among head found) (head ∷ found) found (found_so q found marks ∙ y))) marks;
    }
      where
        kept : (t u : Bool) (x y : List ℕ) → u ≡ true → cond (t && not u) x y ≡ y
        kept true u x y e = rw e
        kept false u x y e = refl

    module _ (n : b ≡ false) {t : Bool} (tested : FormTested rules forms arguments mask r t) where
      -- the rule does not yield
      pub rule_not : t ≡ false → Grown rules forms arguments mask r mask
      rule_not y = record {
        is = λ q found marks.
            let fails : form_yields q.tabled.G.arguments found (form_of q.tabled.G.rules r) ≡ false = sym (tested.is q found marks) ∙ y in
            rw fails marks;
      }

      -- it does
      pub rule_yields : t ≡ true → {after : ℕ} → Puts mask A after → Grown rules forms arguments mask r after
      rule_yields y {after} puts = record {
        is = λ q found marks.
            let yields : form_yields q.tabled.G.arguments found (form_of q.tabled.G.rules r) ≡ true = sym (tested.is q found marks) ∙ y in
            let new : among (head_of q.tabled.G.rules r) found ≡ false = found_so q found marks ∙ n in
            rw (yields, new) (put_in q found marks);
      }
        where
          put_in : (q : AsksForm rules forms arguments r) (found : List ℕ) → Marks mask found → Marks after (head_of q.tabled.G.rules r ∷ found)
          put_in q found marks = record { same = λ B low. go B low (ℕ_discrete B A) }
            where
              go : (B : ℕ) → B < most_non_terminals → Dec (B ≡ A) → has after B ≡ eqb B (head_of q.tabled.G.rules r) || among B found
              go B low (yes e) = rw (eq-eqb B (head_of q.tabled.G.rules r) (e ∙ head_is q ea)) (ap (has after) e ∙ puts.on)
              go B low (no e) =
                  rw (ne_eqb B (head_of q.tabled.G.rules r) (λ x. e (x ∙ sym (head_is q ea)))) (puts.off B e ∙ marks.same B low)

-- ---- a pass

-- the rules from rule r on
rule-first : (rules : List Rule) (r : ℕ) → r < length rules → drop r rules ≡ rule (head_of rules r) (weight_of rules r) (form_of rules r) ∷ drop (r + 1) rules
unfolding head_of form_of weight_of
rule-first [] r h = absurd (omega arith)
rule-first (rule A weight form ∷ rules) zero h = refl
rule-first (rule A weight form ∷ rules) (suc r) h = let next : suc r + 1 ≡ suc (r + 1) = omega arith in rw next (rule-first rules r (omega arith))

-- a pass over rules begins with the first of them
pass_first : (arguments found : List ℕ) (rules : List Rule) (r : ℕ) → r < length rules
    → one_pass arguments found (drop r rules) ≡ one_pass arguments (grown_by arguments found (head_of rules r) (form_of rules r)) (drop (r + 1) rules)
unfolding one_pass
pass_first arguments found rules r h = ap (one_pass arguments found) (rule-first rules r h)

-- a pass over no rules finds what is found
pass_none : (arguments found : List ℕ) (rules : List Rule) (r : ℕ) → length rules ≤ r → one_pass arguments found (drop r rules) ≡ found
unfolding one_pass
pass_none arguments found rules r h = rw (drop_none rules r h)

-- what is found before rule r, of a pass that begins with a list
pub record SoFar (G : Grammar) (found : List ℕ) (grown r : ℕ) : Type 0 where
  pub now : List ℕ
  pub marks : Marks grown now
  pub same : one_pass G.arguments now (drop r G.rules) ≡ one_pass G.arguments found G.rules

-- the loop over the rules
pub record PassInv (rules forms arguments : List ℕ) (mask count grown r : ℕ) : Type 0 where
  pub tabled : Tabled rules forms arguments
  pub counted : (t : Tabled rules forms arguments) → count ≡ length t.G.rules
  pub known : (t : Tabled rules forms arguments) (found : List ℕ) → Marks mask found → SoFar t.G found grown r

module _ {rules forms arguments : List ℕ} where
  pub pass_start : Tabled rules forms arguments → {mask count : ℕ} → count ≡ length rules / rule_width → PassInv rules forms arguments mask count mask 0
  pass_start t e = record {
    tabled = t;
    counted = λ t2. omega (arith, e, ap length t2.is_rules, length_rules 0 t2.G.rules);
    known = λ t2 found marks. record { now = found; marks = marks; same = refl };
  }

  module _ {mask count grown r : ℕ} (v : PassInv rules forms arguments mask count grown r) where
    pub turn_rule : r < count → AsksForm rules forms arguments r
    turn_rule h = record { tabled = v.tabled; is_rule = omega (arith, v.counted v.tabled) }

    pub turn_grown : r < count → {after : ℕ} → Grown rules forms arguments grown r after → PassInv rules forms arguments mask count after (r + 1)
    turn_grown h g = record {
      tabled = v.tabled;
      counted = v.counted;
      known = λ t found marks.
          let so = v.known t found marks in
          let is_rule : r < length t.G.rules = omega (arith, v.counted t) in
          record {
            now = grown_by t.G.arguments so.now (head_of t.G.rules r) (form_of t.G.rules r);
            marks = g.is (record { tabled = t; is_rule = is_rule }) so.now so.marks;
            same = sym (pass_first t.G.arguments so.now t.G.rules r is_rule) ∙ so.same;
          };
    }

    pub pass_done : count ≤ r → Passed rules forms arguments mask grown
    pass_done h = record {
      is = λ t found marks.
          let so = v.known t found marks in
          rw (← so.same, pass_none t.G.arguments so.now t.G.rules r (omega (arith, v.counted t))) so.marks;
    }

-- ---- the passes

-- what the passes so far have found
pub record After (G : Grammar) (n mask pass : ℕ) : Type 0 where
  pub now : List ℕ
  pub marks : Marks mask now
  pub same : passes (n - pass) G.arguments now G.rules ≡ productive G n

-- the loop over them
pub record PassesInv (rules forms arguments : List ℕ) (n mask pass : ℕ) : Type 0 where
  pub tabled : Tabled rules forms arguments
  pub known : (t : Tabled rules forms arguments) → After t.G n mask pass

module _ {rules forms arguments : List ℕ} where
  pub passes_start : Tabled rules forms arguments → {n : ℕ} → PassesInv rules forms arguments n 0 0
  passes_start t {n} = record {
    tabled = t;
    known = λ t2. record {
      now = [];
      marks = record { same = λ A low. has_zero A };
      same = ap (λ (k : ℕ). passes k t2.G.arguments [] t2.G.rules) (sub-zero n);
    };
  }

  module _ {n mask pass : ℕ} (v : PassesInv rules forms arguments n mask pass) where
    module _ (h : pass < n) {after : ℕ} (p : Passed rules forms arguments mask after) where
      pub pass_adds : PassesInv rules forms arguments n after (pass + 1)
      unfolding passes
      pass_adds = record {
        tabled = v.tabled;
        known = λ t.
            let so = v.known t in
            let one_more : n - pass ≡ suc (n - (pass + 1)) = omega arith in
            record {
              now = one_pass t.G.arguments so.now t.G.rules;
              marks = p.is t so.now so.marks;
              same = rw one_more at so.same;
            };
      }

      -- a pass that adds nothing adds nothing again
      pub pass_adds_none : after ≡ mask → Found rules forms arguments n mask
      pass_adds_none e = record {
        is = λ t.
            let so = v.known t in
            let next = p.is t so.now so.marks in
            let closed =
            adds_none t.G.arguments most_non_terminals t.G.rules t.admitted.low so.now
            (λ A low y. sym (so.marks.same A low) ∙ ap (λ (m : ℕ). has m A) (sym e) ∙ next.same A low ∙ y) in
            let stays = passes_same t.G.arguments (n - pass) t.G.rules so.now (pass_same t.G.arguments t.G.rules so.now closed) in
            subst (Marks mask) (sym stays ∙ so.same) so.marks;
      }

    pub passes_done : n ≤ pass → Found rules forms arguments n mask
    unfolding passes
    passes_done h = record {
      is = λ t.
          let so = v.known t in
          let no_more : n - pass ≡ 0 = omega arith in
          subst (Marks mask) (rw no_more at so.same) so.marks;
    }

-- ---- the first that is not found

-- those before A are found
pub record DeadInv (rules forms arguments : List ℕ) (n mask A : ℕ) : Type 0 where
  pub asks : AsksDead rules forms arguments n
  pub known : Found rules forms arguments n mask
  pub most : A ≤ n
  pub before : (t : Tabled rules forms arguments) (B : ℕ) → B < A → among B (productive t.G n) ≡ true
