-- Two texts are declined in one way at most, and texts that are accepted in none.
use Prim.Native.Nat.{ℕ}
use mathlib.Core.List.{List}
use mathlib.Core.Path.{◌≡◌, subst₂}
use Rattle.words.specs.declared.Limits.{Limits}
use Rattle.script.specs.Script.{Known}
use Rattle.script.specs.Response.{Body, in_script_order}
use Rattle.outcome.specs.Accepted.{Accepted, Declined, texts_refused, underived}
use Rattle.outcome.specs.Derived.{FirstUnderived}
use Rattle.outcome.specs.declared.Outcome.{Outcome}
use Rattle.outcome.proofs.Deriving.{first_only, not_derived, shown_derived}
use Rattle.outcome.proofs.Stages.{not_both, one-pass, one_refused}

module _ {limits : Limits} {script response : List ℕ} where
  -- "show that no second outcome would satisfy it": of the answers 2 to 13 two texts have one at most.
  pub one_only : {o other : Outcome} → Declined limits script response o → Declined limits script response other → o ≡ other
  one_only (texts_refused t) (texts_refused u) = one_refused t u
  one_only (texts_refused t) (underived p u) = not_both t p.says p.gives
  one_only (underived p u) (texts_refused t) = not_both t p.says p.gives
  one_only (underived {j = j} {b} p u) (underived q v) =
      let same = one-pass p q in
      let there = subst₂ (λ (k : Known) (bs : List Body). FirstUnderived (in_script_order k.functions) bs j b) same.0 same.1 u in
      let h = first_only there v in
      cc

  -- Texts that have one of them are not accepted.
  pub not_accepted : {o : Outcome} {k : Known} {bs : List Body} {lists : List (List ℕ)} → Declined limits script response o
      → Accepted limits script response k bs lists → ⊥
  not_accepted (texts_refused t) a = not_both t a.passing.says a.passing.gives
  not_accepted {k = k} {bs} (underived {j = j} {b} p u) a =
      let same = one-pass p a.passing in
      let there = subst₂ (λ (k : Known) (bs : List Body). FirstUnderived (in_script_order k.functions) bs j b) same.0 same.1 u in
      not_derived there (shown_derived a.shown)
