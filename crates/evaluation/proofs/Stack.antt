-- The values of operands as they are pushed: their numbers on the stack, and the sorts of the first two.
use Prim.Native.Nat.{ℕ, zero, suc, ◌+◌, ◌≤◌, ◌<◌}
use native.Mathlib.Nat.{add-zero}
use native.Mathlib.Omega.{arith}
use mathlib.Core.Path.{◌≡◌, refl, sym, ap, ◌∙◌}
use mathlib.Core.Bool.{Bool, true, false, cond}
use mathlib.Core.List.{List, [], ◌∷◌, ◌++◌, append_assoc, append-nil, map-append}
use borrow.Author.Tests.{eqb-false, eqb-true}
use lib.Dec.{eqb}
use lib.ListN.{drop, get_or, length, length-append, length-map, length-set, set, take}
use lib.Seq.{drop-append_seam, get_or-append_seam, length-take-le, take_all, take-append_seam, take-suc-set, take-take}
use Rattle.terms.specs.Values.{numbers_in, sorts_in}
use Rattle.terms.specs.declared.Value.{Value}
use Rattle.evaluation.specs.code.Evaluator.{Names, Pushed}

-- One number more behind some leaves the others.
get_d_other : (ss : List ℕ) (s n : ℕ) → (length ss ≡ n → ⊥) → get_or (ss ++ (s ∷ [])) n 0 ≡ get_or ss n 0
get_d_other [] s zero h = absurd (h refl)
get_d_other [] s (suc n) h = refl
get_d_other (x ∷ ss) s zero h = refl
get_d_other (x ∷ ss) s (suc n) h = get_d_other ss s n (λ q. h (ap suc q))

-- One number more behind some.
get_d_snoc : (ss : List ℕ) (s n : ℕ) → get_or (ss ++ (s ∷ [])) n 0 ≡ cond (eqb (length ss) n) s (get_or ss n 0)
get_d_snoc ss s n = by_case (eqb (length ss) n) refl
  where
    by_case : (here : Bool) → eqb (length ss) n ≡ here → get_or (ss ++ (s ∷ [])) n 0 ≡ cond (eqb (length ss) n) s (get_or ss n 0)
    by_case true e = rw (e, ← eqb-true (length ss) n e) (get_or-append_seam ss s [] 0)
    by_case false e = rw e (get_d_other ss s n (eqb-false (length ss) n e))

-- The sort of one value more, where it is sort n.
pub sort_more : (n : ℕ) {k old new : ℕ} (done : List Value) (v : Value) → length done ≡ k → old ≡ get_or (sorts_in done) n 0 → new ≡ cond (eqb k n) v.sort old
    → new ≡ get_or (sorts_in (done ++ (v ∷ []))) n 0
sort_more n done v l e q =
    cc (map-append (λ (u : Value). u.sort) done (v ∷ []), get_d_snoc (sorts_in done) v.sort n, length-map done (λ (u : Value). u.sort))

-- A part of a list that lies before `top`, cut there.
cut_below : (n base top : ℕ) (l : List ℕ) → base + n ≤ top → take n (drop base (take top l)) ≡ take n (drop base l)
cut_below n zero top l h = take-take n top l (omega arith)
cut_below n (suc base) zero l h = absurd (omega arith)
cut_below n (suc base) (suc top) [] h = refl
cut_below n (suc base) (suc top) (x ∷ l) h = cut_below n base top l (omega arith)

-- It is as in any list that is the same up to there.
pub below_same : (n base top : ℕ) (l s : List ℕ) → base + n ≤ top → take top l ≡ take top s → take n (drop base l) ≡ take n (drop base s)
below_same n base top l s h e = sym (cut_below n base top l h) ∙ ap (λ (k : List ℕ). take n (drop base k)) e ∙ cut_below n base top s h

-- Lists that are the same up to `past` are the same up to what lies before it.
pub kept_below : (top past : ℕ) (l s : List ℕ) → top ≤ past → take past l ≡ take past s → take top l ≡ take top s
kept_below top past l s h e = sym (take-take top past l h) ∙ ap (take top) e ∙ take-take top past s h

-- Nothing is pushed.
pub nothing_pushed : (stack : List ℕ) (top : ℕ) → Pushed stack stack top []
nothing_pushed stack top = record { numbers = rw (add-zero, append-nil); as_long = refl }

module _ {stack after : List ℕ} {top : ℕ} (vs : List Value) (within : top ≤ length stack) (p : Pushed stack after top vs) where
  -- As many numbers as values.
  counted : length (numbers_in vs) ≡ length vs
  counted = length-map vs (λ (u : Value). u.number)

  -- What lies below `top` is as before.
  pub pushed_kept : take top after ≡ take top stack
  pushed_kept =
      sym (take-take top (top + length vs) after (omega arith)) ∙ ap (take top) p.numbers
      ∙ ap (λ (n : ℕ). take n (take top stack ++ numbers_in vs)) (sym (length-take-le top stack within))
      ∙ take-append_seam (take top stack) (numbers_in vs)

  -- The values stand from `top` on.
  pub pushed_names : Names after top vs
  pushed_names =
      sym (cut_below (length vs) top (top + length vs) after (omega arith)) ∙ ap (λ (l : List ℕ). take (length vs) (drop top l)) p.numbers
      ∙ ap (λ (n : ℕ). take (length vs) (drop n (take top stack ++ numbers_in vs))) (sym (length-take-le top stack within))
      ∙ ap (take (length vs)) (drop-append_seam (take top stack) (numbers_in vs))
      ∙ take_all (length vs) (numbers_in vs) (omega (arith, counted))

  -- One value more.
  pub pushed_more : (v : Value) (after' : List ℕ) → top + length vs < length after' → take (top + length vs) after' ≡ take (top + length vs) after
      → length after' ≡ length after → Pushed stack (set after' (top + length vs) v.number) top (vs ++ (v ∷ []))
  pushed_more v after' room same long =
      let place = top + length vs in
      let one_more : top + length (vs ++ (v ∷ [])) ≡ suc place = omega (arith, length-append vs (v ∷ [])) in
      record {
        numbers = ap (λ (n : ℕ). take n (set after' place v.number)) one_more
            ∙ take-suc-set after' place v.number room
            ∙ ap (λ (l : List ℕ). l ++ (v.number ∷ [])) (same ∙ p.numbers)
            ∙ append_assoc (take top stack) (numbers_in vs) (v.number ∷ [])
            ∙ ap (λ (l : List ℕ). take top stack ++ l) (sym (map-append (λ (u : Value). u.number) vs (v ∷ [])));
        as_long = length-set after' place v.number ∙ long ∙ p.as_long;
      }
