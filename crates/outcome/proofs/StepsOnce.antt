-- No second outcome satisfies the contract of the list of steps.
use Prim.Native.Nat.{ℕ, ◌≤◌, ◌<◌}
use native.Mathlib.Omega.{arith}
use mathlib.Core.Bool.{true, false}
use mathlib.Core.List.{List}
use mathlib.Core.Path.{◌≡◌, refl, sym, ap, subst₂, ◌∙◌}
use lib.ListN.{length}
use lib.Seq.{sets}
use Rattle.forest.proofs.Bools.{apart}
use Rattle.terms.specs.Labels.{Terms}
use Rattle.steps.specs.Stack.{node_count}
use Rattle.steps.specs.Steps.{steps_of, uses_defined}
use Rattle.names.specs.Scopes.{Function}
use Rattle.script.specs.Script.{Known}
use Rattle.script.specs.Response.{Body, in_script_order}
use Rattle.outcome.specs.Derived.{blank_area, terms_of}
use Rattle.outcome.specs.Located.{AnswerGiven, answer_numbers}
use Rattle.outcome.specs.StepList.{AcceptedFor, FunctionAt, StepList, StepsForC, area_missized, here, later, listed, no_function, not_accepted, uses_define}
use Rattle.outcome.specs.declared.Answer.{Answer}
use Rattle.outcome.proofs.Small.{numbers_small}
use Rattle.outcome.proofs.Stages.{one_passing}
use Rattle.outcome.proofs.Unique.{answered}

-- A function by its number has one body.
same_body : {fs : List Function} {ts : List Terms} {j : ℕ} {f g : Function} {t u : Terms} → FunctionAt fs ts j f t → FunctionAt fs ts j g u → t ≡ u
same_body here here = refl
same_body (later a) (later b) = same_body a b

-- It is one of the functions.
pub at_below : {fs : List Function} {ts : List Terms} {j : ℕ} {f : Function} {t : Terms} → FunctionAt fs ts j f t → j < length fs
at_below here = omega arith
at_below (later a) = let h = at_below a in omega arith

module _ {script response points : List ℕ} {budget : ℕ} where
  -- One answer of the checker.
  one_answer : {answer other : Answer} {a b : List ℕ} → AnswerGiven script response points budget blank_area answer a
      → AnswerGiven script response points budget blank_area other b → answer ≡ other
  one_answer c d = (answered c d).0

  -- What is accepted is not declined.
  not_declined : {A : Type 0} {answer other : Answer} {a : List ℕ} {k : Known} {bs : List Body} → AcceptedFor script response points budget answer k bs
      → AnswerGiven script response points budget blank_area other a → (other.outcome.number ≡ 0 → ⊥) → A
  not_declined p d n = absurd (n (ap (λ (x : Answer). x.outcome.number) (one_answer d p.answered) ∙ p.zero))

  module _ {answer other : Answer} {k m : Known} {bs cs : List Body} (p : AcceptedFor script response points budget answer k bs)
      (q : AcceptedFor script response points budget other m cs) where
    -- The functions of what is accepted are the same.
    moved : {j : ℕ} {f : Function} {t : Terms} → FunctionAt (in_script_order m.functions) (terms_of cs) j f t
        → FunctionAt (in_script_order k.functions) (terms_of bs) j f t
    moved {j} {f} {t} a =
        let same = one_passing q.passing p.passing in
        subst₂ (λ (x : Known) (ys : List Body). FunctionAt (in_script_order x.functions) (terms_of ys) j f t) same.0 same.1 a

    -- So are their bodies.
    one_body : {j : ℕ} {f g : Function} {t u : Terms} → FunctionAt (in_script_order k.functions) (terms_of bs) j f t
        → FunctionAt (in_script_order m.functions) (terms_of cs) j g u → t ≡ u
    one_body a b = same_body a (moved b)

    -- A body either uses a `define-fun` or does not.
    not_used : {A : Type 0} {j : ℕ} {f g : Function} {t u : Terms} → FunctionAt (in_script_order k.functions) (terms_of bs) j f t
        → FunctionAt (in_script_order m.functions) (terms_of cs) j g u → uses_defined t ≡ false → uses_defined u ≡ true → A
    not_used a b n u = apart (sym n ∙ ap uses_defined (one_body a b) ∙ u)

  module _ {function : ℕ} {area : List ℕ} where
    -- "Every public call has a stated outcome for every input ..; show that no second outcome would satisfy it": of the list of steps.
    pub one_list : {answer other : Answer} {count countOther : ℕ} {after afterOther : List ℕ}
        → StepList script response points budget function area answer count after
        → StepList script response points budget function area other countOther afterOther
        → (answer ≡ other) × (count ≡ countOther) × (after ≡ afterOther)
    one_list (area_missized m) (area_missized n) = (refl, refl, refl)
    one_list (area_missized m) (not_accepted s c n) = absurd (m s)
    one_list (area_missized m) (no_function s p l) = absurd (m s)
    one_list (area_missized m) (uses_define s p a u) = absurd (m s)
    one_list (area_missized m) (listed s p a u) = absurd (m s)
    one_list (not_accepted s c n) (area_missized m) = absurd (m s)
    one_list (not_accepted s c n) (not_accepted r d o) = (one_answer c d, refl, refl)
    one_list (not_accepted s c n) (no_function r p l) = not_declined p c n
    one_list (not_accepted s c n) (uses_define r p a u) = not_declined p c n
    one_list (not_accepted s c n) (listed r p a u) = not_declined p c n
    one_list (no_function s p l) (area_missized m) = absurd (m s)
    one_list (no_function s p l) (not_accepted r d o) = not_declined p d o
    one_list (no_function s p l) (no_function r q h) = (refl, refl, refl)
    one_list (no_function s p l) (uses_define r q a u) = let h = at_below (moved p q a) in absurd (omega arith)
    one_list (no_function s p l) (listed r q a u) = let h = at_below (moved p q a) in absurd (omega arith)
    one_list (uses_define s p a u) (area_missized m) = absurd (m s)
    one_list (uses_define s p a u) (not_accepted r d o) = not_declined p d o
    one_list (uses_define s p a u) (no_function r q l) = let h = at_below (moved q p a) in absurd (omega arith)
    one_list (uses_define s p a u) (uses_define r q b v) = (refl, refl, refl)
    one_list (uses_define s p a u) (listed r q b v) = not_used q p b a v u
    one_list (listed s p a u) (area_missized m) = absurd (m s)
    one_list (listed s p a u) (not_accepted r d o) = not_declined p d o
    one_list (listed s p a u) (no_function r q l) = let h = at_below (moved q p a) in absurd (omega arith)
    one_list (listed s p a u) (uses_define r q b v) = not_used p q a b u v
    one_list (listed s p a u) (listed r q b v) =
        let same = one_body p q a b in
        (one_answer p.answered q.answered, ap node_count same, ap (λ (t : Terms). sets area 0 (steps_of t)) same)

    -- The same of what C is given.
    pub one_list_for_c : {number numberOther count countOther : ℕ} {numbers numbersOther after afterOther : List ℕ}
        → StepsForC script response points budget function area number numbers count after
        → StepsForC script response points budget function area numberOther numbersOther countOther afterOther
        → (number ≡ numberOther) × (numbers ≡ numbersOther) × (count ≡ countOther) × (after ≡ afterOther)
    one_list_for_c c d =
        let same = one_list c.answered d.answered in (
          c.number_is ∙ ap (λ (x : Answer). x.outcome.number) same.0 ∙ sym d.number_is,
          c.numbers_are ∙ ap answer_numbers same.0 ∙ sym d.numbers_are,
          same.1,
          same.2,
        )

    -- The answers: 17, 18, and those of the checker.
    pub list_number : {answer : Answer} {count : ℕ} {after : List ℕ} → StepList script response points budget function area answer count after
        → answer.outcome.number ≤ 18
    list_number (area_missized m) = omega arith
    list_number (not_accepted s c n) = let h = numbers_small c.checked in omega arith
    list_number (no_function s p l) = omega arith
    list_number (uses_define s p a u) = omega arith
    list_number (listed s p a u) = let h = p.zero in omega arith
