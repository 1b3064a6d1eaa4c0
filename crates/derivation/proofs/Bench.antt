-- Document 01's cases of derivations, "Settled on the bench", as theorems about the definitions.
use mathlib.Core.Path.{◌≡◌, refl, sym, ap, ◌∙◌}
use mathlib.Core.Logic.{inl, inr}
use Prim.Native.Nat.{ℕ, zero, suc, ◌<◌, ◌≤◌}
use native.Mathlib.Omega.{arith}
use mathlib.Core.List.{List, [], ◌∷◌, append-nil}
use lib.ListN.{length}
use Rattle.forest.specs.Forest.{Forest, none, tree}
use Rattle.terms.specs.Labels.{Label, Terms, literal, name, operator}
use Rattle.derivation.specs.Derivation.{Item, Grammar, Rule, rule, head_of, form_of, Derives, Fresh, Simple, the, non_terminal, done, use-rule, same, s_done}
use Rattle.derivation.specs.Derivation.{s_rule, s_leaf, s_same, weight_of, leaf}
use Rattle.derivation.specs.Least.{Before, First, Least, total_of, fewer, lighter, lower}
use Rattle.derivation.specs.Answer.{start}
use Rattle.derivation.proofs.Same.{same_self}
use Rattle.derivation.proofs.Likeness.{any_not_hole, any_not_label}
use Rattle.derivation.proofs.Simple.{empty, simple_derives}
use Rattle.derivation.proofs.Order.{first_cons}
use Rattle.derivation.proofs.Meta as meta

-- a non-terminal alone, and a label alone
abbrev pub hole : ℕ → Forest Item
hole A = tree (non_terminal A) none none

abbrev pub only : Label → Forest Item
only l = tree (the l) none none

-- the one argument x, of 32 bits
abbrev pub x : Label
x = name 32 0

-- "Ring: A has rule B; B has A, x."
abbrev pub ring : Grammar
ring = record { arguments = 32 ∷ []; rules = rule 0 0 (hole 1) ∷ rule 1 0 (hole 0) ∷ rule 1 0 (only x) ∷ [] }

abbrev pub ring_body : Terms
ring_body = tree x none none

-- "Body x shows 0, 2"
pub ring_shown : Simple ring [] start ring_body (0 ∷ 2 ∷ [])
unfolding head_of form_of Fresh
ring_shown =
    let f : Fresh 1 (0 ∷ []) = ((λ e. omega arith), tt) in
    s_rule 0 (omega arith) refl tt (s_rule 2 (omega arith) refl f (s_same (same_self x) s_done s_done) s_done) s_done

-- 0, 1, 0, 2 derives it too
pub ring_long : Derives ring start ring_body (0 ∷ 1 ∷ 0 ∷ 2 ∷ [])
unfolding head_of form_of
ring_long =
    use-rule 0 (omega arith) refl
    (use-rule 1 (omega arith) refl (use-rule 0 (omega arith) refl (use-rule 2 (omega arith) refl (same (same_self x) done done) done) done) done)
    done

from_x : {seen ds : List ℕ} → Simple ring seen (only x) ring_body ds → ds ≡ []
from_x (s_same e s_done s_done) = refl
from_x (s_leaf a d) = absurd (any_not_label a x refl)

never-A : {ds : List ℕ} → Simple ring (1 ∷ 0 ∷ []) (hole 0) ring_body ds → ⊥
unfolding Fresh
never-A (s_rule r h e f d d2) = f.1.0 refl
never-A (s_leaf a d) = any_not_hole a 0 refl

from-B : {ds : List ℕ} → Simple ring (0 ∷ []) (hole 1) ring_body ds → ds ≡ 2 ∷ []
unfolding head_of form_of
from-B (s_rule zero h e f d d2) = absurd (omega (arith, e))
from-B (s_rule (suc zero) h e f d d2) = absurd (never-A d)
from-B (s_rule (suc (suc zero)) h e f d d2) = rw (from_x d, empty ring d2)
from-B (s_rule (suc (suc (suc r))) h e f d d2) = absurd (omega (arith, h))
from-B (s_leaf a d) = absurd (any_not_hole a 1 refl)

-- whatever is shown for it is 0, 2
pub ring_only : {ds : List ℕ} → Simple ring [] start ring_body ds → ds ≡ 0 ∷ 2 ∷ []
unfolding head_of form_of
ring_only (s_rule zero h e f d d2) = rw (from-B d, empty ring d2)
ring_only (s_rule (suc zero) h e f d d2) = absurd (omega (arith, e))
ring_only (s_rule (suc (suc zero)) h e f d d2) = absurd (omega (arith, e))
ring_only (s_rule (suc (suc (suc r))) h e f d d2) = absurd (omega (arith, h))
ring_only (s_leaf a d) = absurd (any_not_hole a 0 refl)

-- "0, 1, 0, 2 is never shown"
pub ring_never : Simple ring [] start ring_body (0 ∷ 1 ∷ 0 ∷ 2 ∷ []) → ⊥
ring_never d = let e = ring_only d in let z : ◌≡◌ {A = ℕ} 1 2 = cc in omega arith

-- every derivation of x, from A and from B, comes no earlier than 0, 2 and 2
no_weight : (ds : List ℕ) → total_of ring.rules ds ≡ 0
unfolding total_of weight_of
no_weight [] = refl
no_weight (zero ∷ ds) = omega (arith, no_weight ds)
no_weight (suc zero ∷ ds) = omega (arith, no_weight ds)
no_weight (suc (suc zero) ∷ ds) = omega (arith, no_weight ds)
no_weight (suc (suc (suc r)) ∷ ds) = omega (arith, no_weight ds)

-- a list of more rules comes later
more_rules : (ds es : List ℕ) → length ds < length es → Before ring ds es
more_rules ds es h = fewer (no_weight ds ∙ sym (no_weight es)) h

-- what goes before a list is no longer
no_longer : {ds es : List ℕ} → First ring ds es → length ds ≤ length es
no_longer {ds} {es} (inl e) = omega (arith, ap length e)
no_longer {ds} {es} (inr (lighter h)) = absurd (omega (arith, no_weight es))
no_longer (inr (fewer e h)) = omega arith
no_longer (inr (lower e h l)) = omega arith

from_leaf : {ds : List ℕ} → Derives ring (only x) ring_body ds → ds ≡ []
from_leaf (same e done done) = refl
from_leaf (leaf a d) = absurd (any_not_label a x refl)

-- the least list from A and from B
least_of : ℕ → List ℕ
least_of zero = 0 ∷ 2 ∷ []
least_of (suc A) = 2 ∷ []

ring_first : (A : ℕ) {ds : List ℕ} → Derives ring (hole A) ring_body ds → First ring (least_of A) ds
unfolding least_of head_of form_of
ring_first zero (use-rule {ds = ds} zero h e d d2) =
    rw (meta.empty ring d2, append-nil ds) (first_cons ring 0 (ring_first 1 d))
ring_first (suc A) (use-rule {ds = ds} (suc zero) h e d d2) =
    let f = no_longer (ring_first 0 d) in
    rw (meta.empty ring d2, append-nil ds) (inr (more_rules (2 ∷ []) (1 ∷ ds) (omega arith)))
ring_first (suc A) (use-rule {ds = ds} (suc (suc zero)) h e d d2) = rw (meta.empty ring d2, append-nil ds, from_leaf d) (inl refl)
ring_first zero (use-rule (suc zero) h e d d2) = absurd (omega (arith, e))
ring_first zero (use-rule (suc (suc zero)) h e d d2) = absurd (omega (arith, e))
ring_first (suc A) (use-rule zero h e d d2) = absurd (omega (arith, e))
ring_first A (use-rule (suc (suc (suc r))) h e d d2) = absurd (omega (arith, h))
ring_first A (leaf a d) = absurd (any_not_hole a A refl)

-- so what is shown is the least
pub ring_least : Least ring start ring_body (0 ∷ 2 ∷ [])
unfolding least_of
ring_least = record { derivation = simple_derives ring ring_shown; least = λ es d. ring_first 0 d }

-- the least list need not be the shortest: A has x, of weight 5, and B; B has x
abbrev pub heavy : Grammar
heavy = record { arguments = 32 ∷ []; rules = rule 0 5 (only x) ∷ rule 0 0 (hole 1) ∷ rule 1 0 (only x) ∷ [] }

heavy_leaf : {ds : List ℕ} → Derives heavy (only x) ring_body ds → ds ≡ []
heavy_leaf (same e done done) = refl
heavy_leaf (leaf a d) = absurd (any_not_label a x refl)

heavy-B : {ds : List ℕ} → Derives heavy (hole 1) ring_body ds → ds ≡ 2 ∷ []
unfolding head_of form_of
heavy-B (use-rule zero h e d d2) = absurd (omega (arith, e))
heavy-B (use-rule (suc zero) h e d d2) = absurd (omega (arith, e))
heavy-B (use-rule (suc (suc zero)) h e d d2) = rw (heavy_leaf d, meta.empty heavy d2)
heavy-B (use-rule (suc (suc (suc r))) h e d d2) = absurd (omega (arith, h))
heavy-B (leaf a d) = absurd (any_not_hole a 1 refl)

heavy_first : {ds : List ℕ} → Derives heavy (hole 0) ring_body ds → First heavy (1 ∷ 2 ∷ []) ds
unfolding head_of form_of total_of weight_of
heavy_first (use-rule zero h e d d2) = rw (heavy_leaf d, meta.empty heavy d2) (inr (lighter (omega arith)))
heavy_first (use-rule (suc zero) h e d d2) = rw (heavy-B d, meta.empty heavy d2) (inl refl)
heavy_first (use-rule (suc (suc zero)) h e d d2) = absurd (omega (arith, e))
heavy_first (use-rule (suc (suc (suc r))) h e d d2) = absurd (omega (arith, h))
heavy_first (leaf a d) = absurd (any_not_hole a 0 refl)

-- x shows 1, 2
pub heavy_least : Least heavy start ring_body (1 ∷ 2 ∷ [])
unfolding head_of form_of
heavy_least = record {
  derivation = use-rule 1 (omega arith) refl (use-rule 2 (omega arith) refl (same (same_self x) done done) done) done;
  least = λ es d. heavy_first d;
}

-- "Swap case, after document 000 example 3": operators over non-terminals
abbrev over_one : Label → (A : ℕ) → Forest Item
over_one o A = tree (the o) (hole A) none

abbrev over_two : Label → (A : ℕ) → Forest Item
over_two o A = tree (the o) (tree (non_terminal A) none (hole A)) none

-- by their numbers in the operator table
abbrev bvnot : Label
bvnot = operator 8 0 0

abbrev bvand : Label
bvand = operator 10 0 0

abbrev bvor : Label
bvor = operator 11 0 0

abbrev concat : Label
concat = operator 21 0 0

abbrev extract : (i j : ℕ) → Label
extract i j = operator 22 i j

-- BV32 is non-terminal 0, BV16 is 1
abbrev pub swap_rules : List Rule
swap_rules =
    rule 0 0 (only (literal 32 0)) ∷ rule 0 0 (only (literal 32 1)) ∷ rule 0 0 (only (literal 32 4294967295)) ∷ rule 0 0 (only x)
    ∷ rule 0 0 (over_two bvand 0) ∷ rule 0 0 (over_two bvor 0) ∷ rule 0 0 (over_one bvnot 0) ∷ rule 0 0 (over_two concat 1)
    ∷ rule 1 0 (only (literal 16 0)) ∷ rule 1 0 (only (literal 16 1)) ∷ rule 1 0 (only (literal 16 65535))
    ∷ rule 1 0 (over_two bvand 1) ∷ rule 1 0 (over_two bvor 1) ∷ rule 1 0 (over_one bvnot 1)
    ∷ rule 1 0 (over_one (extract 31 16) 0) ∷ rule 1 0 (over_one (extract 15 0) 0) ∷ []

abbrev pub swap : Grammar
swap = record { arguments = 32 ∷ []; rules = swap_rules }

-- `(concat ((_ extract 15 0) x) #x0000)`
abbrev pub swap_body : Terms
swap_body = tree concat (tree (extract 15 0) (tree x none none) (tree (literal 16 0) none none)) none

-- "derivation 7, 15, 3, 8"
pub swap_shown : Simple swap [] start swap_body (7 ∷ 15 ∷ 3 ∷ 8 ∷ [])
unfolding head_of form_of Fresh
swap_shown =
    let of-x : Simple swap [] (hole 0) (tree x none none) (3 ∷ []) = s_rule 3 (omega arith) refl tt (s_same (same_self x) s_done s_done) s_done in
    let of-0 : Simple swap [] (hole 1) (tree (literal 16 0) none none) (8 ∷ []) =
    s_rule 8 (omega arith) refl tt (s_same (same_self (literal 16 0)) s_done s_done) s_done in
    s_rule 7 (omega arith) refl tt
    (s_same (same_self concat) (s_rule 15 (omega arith) refl tt (s_same (same_self (extract 15 0)) of-x s_done) of-0) s_done) s_done
