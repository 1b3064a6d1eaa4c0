-- Derivations of the bodies of all functions: those that are shown are derivations, and no others may be; where there is a
-- first body without one there are none.
use Prim.Native.Nat.{ℕ, suc, ◌<◌}
use native.Mathlib.Omega.{arith}
use mathlib.Core.List.{List, ◌∷◌}
use mathlib.Core.Path.{◌≡◌, refl, ap, ap₂}
use lib.ListN.{length}
use Rattle.terms.specs.Labels.{Terms}
use Rattle.derivation.proofs.Order.{least_unique}
use Rattle.derivation.proofs.Simple.{simple_derives}
use Rattle.names.specs.Scopes.{Function}
use Rattle.script.specs.Response.{Body}
use Rattle.outcome.specs.Derived.{Derived, FirstUnderived, ListsShown, terms_of}

-- What is shown is a derivation of each.
pub shown_derived : {fs : List Function} {ts : List Terms} {lists : List (List ℕ)} → ListsShown fs ts lists → Derived fs ts
shown_derived ListsShown.no_more = Derived.no_more
shown_derived (ListsShown.also {f = f} s least few more) = Derived.also (simple_derives f.grammar s) (shown_derived more)

-- One list is the least for each.
pub lists_only : {fs : List Function} {ts : List Terms} {lists others : List (List ℕ)} → ListsShown fs ts lists → ListsShown fs ts others → lists ≡ others
lists_only ListsShown.no_more ListsShown.no_more = refl
lists_only (ListsShown.also {f = f} s one few more) (ListsShown.also t other many less) =
    ap₂ (λ (ds : List ℕ) (ls : List (List ℕ)). ds ∷ ls) (least_unique f.grammar one other) (lists_only more less)

-- Where one of the bodies has none, not each has one.
pub not_derived : {fs : List Function} {bs : List Body} {j : ℕ} {b : Body} → FirstUnderived fs bs j b → Derived fs (terms_of bs) → ⊥
not_derived (FirstUnderived.here none_derives) (Derived.also {ds = ds} d more) = none_derives ds d
not_derived (FirstUnderived.later e u) (Derived.also d more) = not_derived u more

-- There is only one first that has none.
pub first_only : {fs : List Function} {bs : List Body} {j i : ℕ} {b c : Body} → FirstUnderived fs bs j b → FirstUnderived fs bs i c → (j ≡ i) × (b ≡ c)
first_only (FirstUnderived.here n) (FirstUnderived.here m) = (refl, refl)
first_only (FirstUnderived.here n) (FirstUnderived.later {ds = ds} d u) = absurd (n ds d)
first_only (FirstUnderived.later {ds = ds} d u) (FirstUnderived.here n) = absurd (n ds d)
first_only (FirstUnderived.later d u) (FirstUnderived.later e v) = let h = first_only u v in (ap suc h.0, h.1)

-- The first that has none is one of the functions.
pub underived_within : {fs : List Function} {bs : List Body} {j : ℕ} {b : Body} → FirstUnderived fs bs j b → j < length fs
underived_within (FirstUnderived.here n) = omega arith
underived_within (FirstUnderived.later d u) = let h = underived_within u in omega arith
