-- The operands that the program makes are such as the operators take.
use Rattle.std.proofs.Common.{◌≡◌, ℕ, ◌+◌, ◌-◌, ◌%◌, ◌<◌, ◌≤◌, Bool, true, false, cond, ◌||◌, eqb, ltb, leb, List, [], ◌∷◌, length, get_or, take, sym, refl, subst, ◌∙◌, mod-lt, arith, lt-ltb, eq-eqb, eqb-true, le-leb}
use mathlib.Core.Logic.{◌⊎◌, inl, inr}
use mathlib.Core.Option.{some}
use lib.ListN.{get_or-replicate}
use Rattle.operators.specs.Operators.{Operator, operator_at, operator_count, operator_sort, operators}
use Rattle.operators.specs.Sorts.{AllFit, Fit, SortRule, all_are, bool, choice, cutting, equality, joining, logic, order, sort_by, width}
use Rattle.operators.specs.code.Rules.{sort_rule}
use Rattle.operators.specs.declared.rules.Rule.{Rule}
use Rattle.operators.specs.declared.rules.Rule.TheVariants.{Equality, Order, Width as of_width}
use Rattle.operators.specs.code.Operators.{Operable}
use Rattle.operators.specs.Sorts.AllFit.{no_more, also}
use Rattle.operators.specs.code.Vectors.{Width, Word, Words}
use Rattle.test_operators.specs.Alike.{Alike}
use Rattle.operators.proofs.RuledOperands.{gives_bool, word_fits}
use Rattle.operators.proofs.Table.{column}

-- How many operands a row with a rule has.
usual : SortRule → ℕ → Bool
usual choice k = eqb k 3
usual joining k = eqb k 2
usual cutting k = eqb k 1
usual logic k = eqb k 1 || eqb k 2
usual equality k = eqb k 1 || eqb k 2
usual width k = eqb k 1 || eqb k 2
usual order k = eqb k 1 || eqb k 2

-- Every operator has as many.
all_usual : {operator : ℕ} → operator < operator_count → usual (operator_at operator).rule (operator_at operator).operands ≡ true
unfolding operators usual
all_usual {operator} h = sym (column (λ (r : Operator). usual r.rule r.operands) operator) ∙ get_or-replicate operator_count operator true false h

-- An operator takes as many operands as it has.
usual_taken : (many : Bool) (n : ℕ) → cond many (leb n n) (eqb n n) ≡ true
usual_taken true n = le-leb n n (omega arith)
usual_taken false n = eq-eqb n n refl

-- Operands of the right number, to which the rule gives a sort.
operable : {operator high low : ℕ} → operator < operator_count → (r : ℕ) (ss vs : List ℕ) → length ss ≡ (operator_at operator).operands
    → sort_by (operator_at operator).rule high low ss ≡ some r → AllFit ss vs → Operable operator high low (get_or ss 0 0) (get_or ss 1 0) vs
unfolding operator_sort
operable {operator} known r ss vs l h f =
    record {
      sorts = ss;
      result = r;
      sorted = rw (lt-ltb operator operator_count known, l, usual_taken (operator_at operator).many (operator_at operator).operands) h;
      fit = f;
      width_one = refl;
      width_two = refl;
    }

-- A word of one bit fits Bool.
pub bit_fits : {a : ℕ} → Word 1 a → Fit 0 a
bit_fits w = record { sort = omega arith; value = w.below }

-- A second operand, or 0 where there is none.
abbrev second : ℕ → ℕ → ℕ
second operator operand = cond (ltb (operator_at operator).operands 2) 0 operand

-- One operand or two of the sort s.
module _ {operator s a b : ℕ} (x : Alike operator s a b) where
  -- What an operator is then given.
  abbrev Taken : Type 0
  Taken = Operable operator 0 0 s (second operator s) (take (operator_at operator).operands (a ∷ b ∷ []))

  both_taken : Taken
  both_taken = go (eqb (operator_at operator).operands 1) refl x.counted
    where
      go : (t : Bool) → eqb (operator_at operator).operands 1 ≡ t → (t || eqb (operator_at operator).operands 2) ≡ true → Taken
      go true q e =
          let one : (operator_at operator).operands ≡ 1 = eqb-true _ _ q in
          rw one (operable x.known x.result (s ∷ []) (a ∷ []) (sym one) (x.sorted [] refl) (also x.first no_more))
      go false q e =
          let two : (operator_at operator).operands ≡ 2 = eqb-true _ _ e in
          rw two
          (operable x.known x.result (s ∷ s ∷ []) (a ∷ b ∷ []) (sym two) (x.sorted (s ∷ []) (rw (eq-eqb s s refl)))
          (also x.first (also x.second no_more)))

  -- The operands of an operator that has one or two of one sort.
  pub alike_taken : {count other : ℕ} → count ≡ (operator_at operator).operands → other ≡ second operator s
      → Operable operator 0 0 s other (take count (a ∷ b ∷ []))
  alike_taken e d = rw (e, d) both_taken

-- An operator has as many operands as its rule says.
counted : {operator : ℕ} {r : SortRule} → operator < operator_count → (operator_at operator).rule ≡ r → usual r (operator_at operator).operands ≡ true
counted h e = rw e at (all_usual h)

-- The operands of `not` to `=>`.
pub logic_alike : {operator x y : ℕ} → operator < operator_count → logic ≡ (operator_at operator).rule → Word 1 x → Word 1 y → Alike operator 0 x y
unfolding sort_by usual
logic_alike {operator} l e v w =
    let r = sym e in
    record { known = l; counted = counted l r; result = 0; sorted = λ more h. rw (r, h); first = bit_fits v; second = bit_fits w }

-- The operands of `ite`.
pub choice_taken : {operator n c a b : ℕ} → operator < operator_count → (operator_at operator).rule ≡ choice → Word 1 c → Words n a b
    → Operable operator 0 0 0 n (c ∷ a ∷ b ∷ [])
unfolding sort_by usual
choice_taken {operator} {n = n} {c} {a} {b} l r u vw =
    let v = vw.first in
    let w = vw.second in
    operable l n (0 ∷ n ∷ n ∷ []) (c ∷ a ∷ b ∷ []) (sym (eqb-true _ _ (counted l r))) (rw (r, eq-eqb n n refl))
    (also (bit_fits u) (also (word_fits v.width v.below) (also (word_fits w.width w.below) no_more)))

-- What y chooses of the bits that n leaves of 64 is no more than these.
within : (y : ℕ) {n a : ℕ} → Word n a → (n ≡ 64 → ⊥) → n + (1 + y % (64 - n)) ≤ 64
within y {n} w h = let l : y % (64 - n) < 64 - n = mod-lt y (omega (arith, h)) in omega arith

-- The operands of `concat`.
pub joined_taken : (y : ℕ) {operator n a b : ℕ} → operator < operator_count → (operator_at operator).rule ≡ joining → Word n a → (n ≡ 64 → ⊥)
    → Word (1 + y % (64 - n)) b → Operable operator 0 0 n (1 + y % (64 - n)) (a ∷ b ∷ [])
unfolding sort_by usual
joined_taken y {operator} {n} {a} {b} l r v h w =
    let m : ℕ = 1 + y % (64 - n) in
    operable l (n + m) (n ∷ m ∷ []) (a ∷ b ∷ []) (sym (eqb-true _ _ (counted l r)))
    (rw (r, lt-ltb 0 n v.width.least, lt-ltb 0 m w.width.least, le-leb (n + m) 64 (within y v h)))
    (also (word_fits v.width v.below) (also (word_fits w.width w.below) no_more))

-- The operand of `(_ extract i j)`.
pub cut_taken : {operator high low n a : ℕ} → operator < operator_count → (operator_at operator).rule ≡ cutting → Word n a → low ≤ high → high < n
    → Operable operator high low n 0 (a ∷ [])
unfolding sort_by usual
cut_taken {operator} {high} {low} {n} {a} l r v h g =
    operable l (high - low + 1) (n ∷ []) (a ∷ []) (sym (eqb-true _ _ (counted l r))) (rw (r, le-leb low high h, lt-ltb high n g))
    (also (word_fits v.width v.below) no_more)

-- The rules of operands that are all of one sort, of any width.
abbrev Plain : SortRule → Type 0
Plain logic = ⊥
Plain equality = Unit
Plain choice = ⊥
Plain width = Unit
Plain order = Unit
Plain joining = ⊥
Plain cutting = ⊥

-- They give those a sort.
plain : (r : SortRule) → Plain r → {n : ℕ} → Width n → (more : List ℕ) → all_are n more ≡ true → sort_by r 0 0 (n ∷ more) ≡ some (cond (gives_bool r) bool n)
unfolding sort_by
plain logic p w more h = absurd p
plain equality p w more h = rw h
plain choice p w more h = absurd p
plain width p {n} w more h = rw (lt-ltb 0 n w.least, h)
plain order p {n} w more h = rw (lt-ltb 0 n w.least, h)
plain joining p w more h = absurd p
plain cutting p w more h = absurd p

-- Their operators have one operand or two.
plain_count : (r : SortRule) → Plain r → (c : ℕ) → usual r c ≡ true → (eqb c 1 || eqb c 2) ≡ true
unfolding usual
plain_count logic p c h = absurd p
plain_count equality p c h = h
plain_count choice p c h = absurd p
plain_count width p c h = h
plain_count order p c h = h
plain_count joining p c h = absurd p
plain_count cutting p c h = absurd p

-- The operands of `=`, `distinct`, `bvnot` to `bvult` and `bvsdiv` to `bvuge`.
pub plain_alike : {operator n a b : ℕ} {rule : Rule} → operator < operator_count → sort_rule rule ≡ (operator_at operator).rule
    → (rule ≡ Equality) ⊎ ((rule ≡ of_width) ⊎ (rule ≡ Order)) → Word n a → Word n b → Alike operator n a b
plain_alike {operator} {n = n} {rule = rule} l e p v w =
    let q : Plain (operator_at operator).rule = subst Plain e (is_plain p) in
    record {
      known = l;
      counted = plain_count (operator_at operator).rule q _ (all_usual l);
      result = cond (gives_bool (operator_at operator).rule) bool n;
      sorted = plain (operator_at operator).rule q v.width;
      first = word_fits v.width v.below;
      second = word_fits w.width w.below;
    }
  where
    is_plain : (rule ≡ Equality) ⊎ ((rule ≡ of_width) ⊎ (rule ≡ Order)) → Plain (sort_rule rule)
    is_plain (inl q) = rw q tt
    is_plain (inr (inl q)) = rw q tt
    is_plain (inr (inr q)) = rw q tt

-- A remainder by i + 1 is at most i.
pub at_most : (z i : ℕ) → z % (i + 1) ≤ i
at_most z i = let h : z % (i + 1) < i + 1 = mod-lt z (omega arith) in omega arith
