-- The order of lists of rules: total, transitive, kept by what stands before and behind; so the least list is one.
use mathlib.Core.Path.{◌≡◌, refl, sym, ap, subst}
use mathlib.Core.Logic.{◌⊎◌, inl, inr}
use Prim.Native.Nat.{ℕ, zero, suc, ◌+◌, ◌*◌, ◌<◌, ◌≤◌}
use native.Mathlib.Decide.{dec_lt}
use native.Mathlib.Omega.{arith}
use mathlib.Core.List.{List, [], ◌∷◌, ◌++◌}
use lib.ListN.{length, length-append}
use Rattle.forest.specs.Forest.{Forest}
use Rattle.terms.specs.Labels.{Terms}
use Rattle.derivation.specs.Derivation.{Grammar, Item, Rule, rule, weight_of, most_weight}
use Rattle.derivation.specs.Least.{Before, First, Least, Lower, total_of, here, there, fewer, lighter, lower}
use Rattle.derivation.specs.code.Admitted.{Admitted}

pub total_append : (rules : List Rule) (ds es : List ℕ) → total_of rules (ds ++ es) ≡ total_of rules ds + total_of rules es
unfolding total_of
total_append rules [] es = omega arith
total_append rules (r ∷ ds) es = omega (arith, total_append rules ds es)

pub total_cons : (rules : List Rule) (r : ℕ) (ds : List ℕ) → total_of rules (r ∷ ds) ≡ weight_of rules r + total_of rules ds
unfolding total_of
total_cons rules r ds = refl

-- what is no rule weighs nothing
weight_past : (rules : List Rule) (r : ℕ) → length rules ≤ r → weight_of rules r ≡ 0
unfolding weight_of
weight_past [] r h = refl
weight_past (rule A weight form ∷ more) zero h = absurd (omega arith)
weight_past (rule A weight form ∷ more) (suc r) h = weight_past more r (omega arith)

-- so each weight is light
pub light_all : {G : Grammar} → Admitted G → (r : ℕ) → weight_of G.rules r ≤ most_weight
light_all {G} a r = go (dec_lt r (length G.rules))
  where
    go : Dec (r < length G.rules) → weight_of G.rules r ≤ most_weight
    go (yes h) = a.light r h
    go (no h) = omega (arith, weight_past G.rules r (omega arith))

-- weights bound a total
pub total_bound : (rules : List Rule) (n : ℕ) → ((r : ℕ) → weight_of rules r ≤ n) → (ds : List ℕ) → total_of rules ds ≤ n * length ds
unfolding total_of
total_bound rules n h [] = omega arith
total_bound rules n h (r ∷ ds) = omega (arith, total_bound rules n h ds, h r)

lower_trans : {xs ys zs : List ℕ} → Lower xs ys → Lower ys zs → Lower xs zs
lower_trans (here {x = x} h) (here {y = z} k) = let l : x < z = omega arith in here l
lower_trans (here h) (there l) = here h
lower_trans (there l) (here k) = here k
lower_trans (there l) (there m) = there (lower_trans l m)

lower_not : {xs ys : List ℕ} → Lower xs ys → xs ≡ ys → ⊥
lower_not (here {x = x} {y = y} h) e = let same : x ≡ y = cc in omega arith
lower_not (there {xs = xs} {ys = ys} l) e = let same : xs ≡ ys = cc in lower_not l same

lower_append : {xs ys : List ℕ} (zs : List ℕ) → Lower xs ys → Lower (xs ++ zs) (ys ++ zs)
lower_append zs (here h) = here h
lower_append zs (there l) = there (lower_append zs l)

-- of two lists of one length
lower_total : (xs ys : List ℕ) → length xs ≡ length ys → (xs ≡ ys) ⊎ (Lower xs ys ⊎ Lower ys xs)
lower_total [] [] e = inl refl
lower_total [] (y ∷ ys) e = absurd (omega arith)
lower_total (x ∷ xs) [] e = absurd (omega arith)
lower_total (x ∷ xs) (y ∷ ys) e = go (dec_lt x y) (dec_lt y x) (lower_total xs ys (omega arith))
  where
    behind : x ≡ y → (xs ≡ ys) ⊎ (Lower xs ys ⊎ Lower ys xs) → (x ∷ xs ≡ y ∷ ys) ⊎ (Lower (x ∷ xs) (y ∷ ys) ⊎ Lower (y ∷ ys) (x ∷ xs))
    behind q (inl p) = inl (cc)
    behind q (inr (inl l)) = inr (inl (subst (λ (z : ℕ). Lower (x ∷ xs) (z ∷ ys)) q (there l)))
    behind q (inr (inr l)) = inr (inr (subst (λ (z : ℕ). Lower (z ∷ ys) (x ∷ xs)) q (there l)))

    go : Dec (x < y) → Dec (y < x) → (xs ≡ ys) ⊎ (Lower xs ys ⊎ Lower ys xs)
        → (x ∷ xs ≡ y ∷ ys) ⊎ (Lower (x ∷ xs) (y ∷ ys) ⊎ Lower (y ∷ ys) (x ∷ xs))
    go (yes h) k w = inr (inl (here h))
    go (no h) (yes k) w = inr (inr (here k))
    go (no h) (no k) w = behind (omega arith) w

module _ (G : Grammar) where
  pub before_trans : {xs ys zs : List ℕ} → Before G xs ys → Before G ys zs → Before G xs zs
  before_trans (lighter h) (lighter k) = lighter (omega arith)
  before_trans (lighter h) (fewer e k) = lighter (omega arith)
  before_trans (lighter h) (lower e k l) = lighter (omega arith)
  before_trans (fewer e h) (lighter k) = lighter (omega arith)
  before_trans (fewer e h) (fewer f k) = fewer (omega arith) (omega arith)
  before_trans (fewer e h) (lower f k l) = fewer (omega arith) (omega arith)
  before_trans (lower e h l) (lighter k) = lighter (omega arith)
  before_trans (lower e h l) (fewer f k) = fewer (omega arith) (omega arith)
  before_trans (lower e h l) (lower f k m) = lower (omega arith) (omega arith) (lower_trans l m)

  pub before_not : {xs : List ℕ} → Before G xs xs → ⊥
  before_not (lighter h) = omega arith
  before_not (fewer e h) = omega arith
  before_not (lower e h l) = lower_not l refl

  pub before_total : (xs ys : List ℕ) → (xs ≡ ys) ⊎ (Before G xs ys ⊎ Before G ys xs)
  before_total xs ys = go (dec_lt (total xs) (total ys)) (dec_lt (total ys) (total xs)) (dec_lt (length xs) (length ys)) (dec_lt (length ys) (length xs))
    where
      total : List ℕ → ℕ
      total ds = total_of G.rules ds

      even : total_of G.rules xs ≡ total_of G.rules ys → length xs ≡ length ys → (xs ≡ ys) ⊎ (Lower xs ys ⊎ Lower ys xs)
          → (xs ≡ ys) ⊎ (Before G xs ys ⊎ Before G ys xs)
      even e f (inl p) = inl p
      even e f (inr (inl l)) = inr (inl (lower e f l))
      even e f (inr (inr l)) = inr (inr (lower (sym e) (sym f) l))

      go : Dec (total_of G.rules xs < total_of G.rules ys) → Dec (total_of G.rules ys < total_of G.rules xs) → Dec (length xs < length ys)
          → Dec (length ys < length xs)
          → (xs ≡ ys) ⊎ (Before G xs ys ⊎ Before G ys xs)
      go (yes h) b c d = inr (inl (lighter h))
      go (no h) (yes k) c d = inr (inr (lighter k))
      go (no h) (no k) (yes c) d = inr (inl (fewer (omega arith) c))
      go (no h) (no k) (no c) (yes d) = inr (inr (fewer (omega arith) d))
      go (no h) (no k) (no c) (no d) = let f : length xs ≡ length ys = omega arith in even (omega arith) f (lower_total xs ys f)

  pub first_trans : {xs ys zs : List ℕ} → First G xs ys → First G ys zs → First G xs zs
  first_trans {zs = zs} (inl e) b = subst (λ (x : List ℕ). First G x zs) (sym e) b
  first_trans {xs} (inr a) (inl e) = subst (λ (x : List ℕ). First G xs x) e (inr a)
  first_trans (inr a) (inr b) = inr (before_trans a b)

  pub first_both : {xs ys : List ℕ} → First G xs ys → First G ys xs → xs ≡ ys
  first_both (inl e) b = e
  first_both (inr a) (inl e) = sym e
  first_both (inr a) (inr b) = absurd (before_not (before_trans a b))

  -- one rule more in front of both
  before_cons : (r : ℕ) {xs ys : List ℕ} → Before G xs ys → Before G (r ∷ xs) (r ∷ ys)
  unfolding total_of
  before_cons r (lighter h) = lighter (omega arith)
  before_cons r (fewer e h) = fewer (omega arith) (omega arith)
  before_cons r (lower e h l) = lower (omega arith) (omega arith) (there l)

  pub first_cons : (r : ℕ) {xs ys : List ℕ} → First G xs ys → First G (r ∷ xs) (r ∷ ys)
  first_cons r (inl e) = inl (ap (λ (x : List ℕ). r ∷ x) e)
  first_cons r (inr b) = inr (before_cons r b)

  -- or in front of the one
  pub before_more : (r : ℕ) (xs : List ℕ) → Before G xs (r ∷ xs)
  unfolding total_of
  before_more r xs = go (dec_lt 0 (weight_of G.rules r))
    where
      go : Dec (0 < weight_of G.rules r) → Before G xs (r ∷ xs)
      go (yes h) = lighter (omega arith)
      go (no h) = fewer (omega arith) (omega arith)

  -- the same rules in front of both, and behind both
  pub first_front : (ws : List ℕ) {xs ys : List ℕ} → First G xs ys → First G (ws ++ xs) (ws ++ ys)
  first_front [] f = f
  first_front (w ∷ ws) f = first_cons w (first_front ws f)

  before_back : (ws : List ℕ) {xs ys : List ℕ} → Before G xs ys → Before G (xs ++ ws) (ys ++ ws)
  before_back ws {xs} {ys} (lighter h) = lighter (omega (arith, total_append G.rules xs ws, total_append G.rules ys ws))
  before_back ws {xs} {ys} (fewer e h) =
      fewer (omega (arith, total_append G.rules xs ws, total_append G.rules ys ws)) (omega (arith, length-append xs ws, length-append ys ws))
  before_back ws {xs} {ys} (lower e h l) =
      lower (omega (arith, total_append G.rules xs ws, total_append G.rules ys ws)) (omega (arith, length-append xs ws, length-append ys ws))
      (lower_append ws l)

  pub first_append : {xs ys us vs : List ℕ} → First G xs ys → First G us vs → First G (xs ++ us) (ys ++ vs)
  first_append {xs} {us = us} {vs = vs} (inl e) f = subst (λ (x : List ℕ). First G (xs ++ us) (x ++ vs)) e (first_front xs f)
  first_append {ys = ys} {us = us} (inr b) f = first_trans (inr (before_back us b)) (first_front ys f)

  -- the least list is one
  pub least_unique : {P : Forest Item} {T : Terms} {ds es : List ℕ} → Least G P T ds → Least G P T es → ds ≡ es
  least_unique {ds = ds} {es = es} a b = first_both (a.least es b.derivation) (b.least ds a.derivation)
