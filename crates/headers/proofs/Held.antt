-- Words held to those that were declared, part by part.
use Prim.Native.Nat.{ℕ}
use mathlib.Core.Path.{◌≡◌, refl, sym, ap₂}
use mathlib.Core.Bool.{Bool, true, false, ◌&&◌}
use mathlib.Core.List.{List, [], ◌∷◌, ◌++◌}
use lib.Dec.{eqb}
use borrow.Author.Tests.{eq-eqb, eqb-false, eqb-true, ne_eqb}
use Rattle.std.specs.Prelude.{Option, is_some, unwrap_or}
use Rattle.forest.specs.Lists.{same_bytes}
use Rattle.forest.proofs.Bools.{apart}
use Rattle.headers.specs.code.Compare.{Held, ended, other, same}
use Rattle.headers.specs.Tokens.{Placed, Token, closing, differing}

-- numbers are told apart whichever comes first
eqb_turned : (a b : ℕ) → eqb a b ≡ eqb b a
eqb_turned a b = go (eqb a b) refl
  where
    go : (t : Bool) → eqb a b ≡ t → t ≡ eqb b a
    go true e = sym (eq-eqb b a (sym (eqb-true a b e)))
    go false e = let ne = eqb-false a b e in sym (ne_eqb b a (λ h. ne (sym h)))

-- and so are names
pub same_turned : (u v : List ℕ) → same_bytes u v ≡ same_bytes v u
unfolding same_bytes
same_turned [] [] = refl
same_turned [] (b ∷ v) = refl
same_turned (a ∷ u) [] = refl
same_turned (a ∷ u) (b ∷ v) = ap₂ ◌&&◌ (eqb_turned a b) (same_turned u v)

-- a part that is the same, and what follows it
pub held_then : {q r : Option ℕ} {ws us : List Placed} {ts ss : List Token} → Held ws ts q → is_some q ≡ false → Held us ss r
    → Held (ws ++ us) (ts ++ ss) r
held_then ended same_part h = h
held_then (same e more) same_part h = same e (held_then more same_part h)
held_then (other e) same_part h = apart (sym same_part)

-- a part in which a word differs
pub held_there : {q : Option ℕ} {ws : List Placed} {ts : List Token} (us : List Placed) (ss : List Token) → Held ws ts q → is_some q ≡ true
    → Held (ws ++ us) (ts ++ ss) q
held_there us ss ended differs = apart differs
held_there us ss (same e more) differs = same e (held_there us ss more differs)
held_there us ss (other e) differs = other e

-- the bracket that closes a list is the same
pub closed : (close : ℕ) {r : Option ℕ} {ws : List Placed} {ts : List Token} → Held ws ts r
    → Held (ws ++ record { at = close; token = closing } ∷ []) (ts ++ closing ∷ []) r
closed close ended = same refl ended
closed close (same e more) = same e (closed close more)
closed close (other e) = other e

-- the first word that differs is found
pub held_found : (nowhere : ℕ) {r : Option ℕ} {ws : List Placed} {ts : List Token} → Held ws ts r → unwrap_or r nowhere ≡ differing nowhere ws ts
unfolding differing
held_found nowhere ended = refl
held_found nowhere (same e more) = rw e (held_found nowhere more)
held_found nowhere (other e) = rw e
