-- What is shown is one: the list, the area and the total.
use mathlib.Core.Path.{◌≡◌, sym, ap, ◌∙◌}
use Prim.Native.Nat.{ℕ, ◌*◌}
use mathlib.Core.List.{List}
use lib.Seq.{sets}
use Rattle.terms.specs.Labels.{Terms}
use Rattle.derivation.specs.Derivation.{Grammar}
use Rattle.derivation.specs.Least.{total_of}
use Rattle.derivation.specs.Answer.{list_of}
use Rattle.forest.specs.Limits.{list_size}
use Rattle.derivation.proofs.Order.{least_unique}
use Rattle.searching.specs.code.Derive.{Shown}

module _ {G : Grammar} {F : Terms} {k : ℕ} {area area₁ area₂ : List ℕ} {t₁ t₂ : ℕ} (a : Shown G F k area area₁ t₁) (b : Shown G F k area area₂ t₂) where
  pub one_list : a.ds ≡ b.ds
  one_list = least_unique G a.least b.least

  pub one_area : area₁ ≡ area₂
  one_area = a.shown ∙ ap (λ (ds : List ℕ). sets area (list_size * k) (list_of ds)) one_list ∙ sym b.shown

  pub one_total : t₁ ≡ t₂
  one_total = a.weighs ∙ ap (total_of G.rules) one_list ∙ sym b.weighs
