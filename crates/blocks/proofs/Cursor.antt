-- Payload bytes that are put one after the other: what is written, what is left to write, and that it is the file.
use mathlib.Core.Path.{◌≡◌, refl, sym, subst, ap, ◌∙◌}
use mathlib.Core.Bool.{Bool, true, false, cond}
use Prim.Native.Nat.{ℕ, zero, suc, ◌+◌, ◌*◌, ◌/◌, ◌%◌, ◌<◌, ◌≤◌}
use native.Mathlib.Nat.{mod-lt, mul-le-mul}
use native.Mathlib.Omega.{arith}
use mathlib.Core.List.{List, [], ◌∷◌, ◌++◌, append_assoc}
use lib.Dec.{eqb, lit<}
use lib.ListN.{drop, length, length-append, length-drop, set, take, take-append-drop}
use lib.Seq.{length-sets, length-take-le, sets}
use borrow.Author.Tests.{eq-eqb, eqb-false, eqb-true, ne_eqb}
use Rattle.forest.proofs.Rows.{sets_append}
use Rattle.blocks.specs.declared.Place.{Place}
use Rattle.blocks.specs.Blocks.{block_of, cut_into, low, sum_from, sum_of}
use Rattle.blocks.specs.code.Places.{Fitting, Written, filled_by, filled_next, out, put_out, sum_by, sum_next, sum_with, written}

-- ---- bytes behind bytes

written_append : (xs ys : List ℕ) (f s : ℕ) → written f s (xs ++ ys) ≡ written f s xs ++ written (filled_by f xs) (sum_by f s xs) ys
unfolding written filled_by sum_by
written_append [] ys f s = refl
written_append (x ∷ xs) ys f s =
    ap (λ (l : List ℕ). put_out f s x ++ l) (written_append xs ys (filled_next f) (sum_next f s x))
    ∙ sym (append_assoc (put_out f s x) (written (filled_next f) (sum_next f s x) xs) (written (filled_by (filled_next f) xs) (sum_by (filled_next f) (sum_next f s x) xs) ys))

pub filled_append : (xs ys : List ℕ) (f : ℕ) → filled_by f (xs ++ ys) ≡ filled_by (filled_by f xs) ys
unfolding filled_by
filled_append [] ys f = refl
filled_append (x ∷ xs) ys f = filled_append xs ys (filled_next f)

sum_append : (xs ys : List ℕ) (f s : ℕ) → sum_by f s (xs ++ ys) ≡ sum_by (filled_by f xs) (sum_by f s xs) ys
unfolding filled_by sum_by
sum_append [] ys f s = refl
sum_append (x ∷ xs) ys f s = sum_append xs ys (filled_next f) (sum_next f s x)

-- a place stays within a block
next_low : (f : ℕ) → f < 510 → filled_next f < 510
next_low f h = go (eqb (f + 1) 510) refl
  where
    go : (t : Bool) → eqb (f + 1) 510 ≡ t → cond t 0 (f + 1) < 510
    go true e = omega arith
    go false e = let ne = eqb-false (f + 1) 510 e in omega arith

by_low : (xs : List ℕ) (f : ℕ) → f < 510 → filled_by f xs < 510
unfolding filled_by
by_low [] f h = h
by_low (x ∷ xs) f h = by_low xs (filled_next f) (next_low f h)

next_sum_low : (t : Bool) (n : ℕ) → cond t 0 (n % 65521) < 65521
next_sum_low true n = omega arith
next_sum_low false n = mod-lt n (lit< {m = 0} {n = 65521} tt)

sum_by_low : (xs : List ℕ) (f s : ℕ) → s < 65521 → sum_by f s xs < 65521
unfolding sum_by
sum_by_low [] f s h = h
sum_by_low (x ∷ xs) f s h = sum_by_low xs (filled_next f) (sum_next f s x) (next_sum_low (eqb (f + 1) 510) (s + (f + 1) * x))

-- how many bytes the open block has, by the number of bytes put
pub filled-by : (xs : List ℕ) (f : ℕ) → f < 510 → filled_by f xs ≡ (f + length xs) % 510
unfolding filled_by
filled-by [] f h = omega arith
filled-by (x ∷ xs) f h = go (eqb (f + 1) 510) refl (filled-by xs)
  where
    go : (t : Bool) → eqb (f + 1) 510 ≡ t → ((f : ℕ) → f < 510 → filled_by f xs ≡ (f + length xs) % 510)
        → filled_by (cond t 0 (f + 1)) xs ≡ (f + suc (length xs)) % 510
    go true e more = let z = eqb-true (f + 1) 510 e in more 0 (omega arith) ∙ omega arith
    go false e more = let ne = eqb-false (f + 1) 510 e in more (f + 1) (omega arith) ∙ ap (λ (n : ℕ). n % 510) (omega arith)

-- ---- one byte

module _ {place : Place} {b : ℕ} {lent : List ℕ} (o : Fitting place (b ∷ []) lent) where
  some_out : 1 ≤ length (out place (b ∷ []))
  unfolding written
  some_out = go (eqb (place.filled + 1) 510)
    where
      go : (t : Bool) → 1 ≤ length (cond t (b ∷ low 2 (sum_with place.filled place.sum b)) (b ∷ []) ++ [])
      go true = omega arith
      go false = omega arith

  pub put_within : place.at < length lent
  put_within = omega (arith, some_out, o.room)

  pub term_low : {w : ℕ} → w ≡ b → b < 256 → (place.filled + 1) * w ≤ 130050
  term_low {w} e h =
      let k : place.filled + 1 ≤ 510 = omega (arith, o.filled_low) in
      let z : (place.filled + 1) * w ≤ 510 * 255 = mul-le-mul {m₁ = w} {m₂ = 255} k (omega arith) in
      omega arith

  module _ {w : ℕ} (ew : w ≡ b) where
    -- within a block
    pub put_open : place.filled + 1 < 510
        → Written place (b ∷ []) lent (set lent place.at b) (record { at = place.at + 1; filled = place.filled + 1; sum = (place.sum + (place.filled + 1) * w) % 65521 })
    unfolding written filled_by sum_by
    put_open h =
        let t : eqb (place.filled + 1) 510 ≡ false = ne_eqb (place.filled + 1) 510 (λ e. omega arith) in
        record {
          area_is = rw t;
          at_is = rw t;
          filled_is = rw t;
          sum_is = rw t (ap (λ (n : ℕ). (place.sum + (place.filled + 1) * n) % 65521) ew);
        }

    -- the last of a block
    module _ (h : 510 ≤ place.filled + 1) where
      full : eqb (place.filled + 1) 510 ≡ true
      full = eq-eqb (place.filled + 1) 510 (omega (arith, o.filled_low))

      pub put_within_three : place.at + 3 ≤ length lent
      unfolding written
      put_within_three = let r = o.room in rw full at r

      module _ {first second : ℕ} (first_is : first ≡ (place.sum + (place.filled + 1) * w) % 65521 % 256)
          (second_is : second ≡ (place.sum + (place.filled + 1) * w) % 65521 / 256 % 256) where
        pub put_full : Written place (b ∷ []) lent (set (set (set lent place.at b) (place.at + 1) first) (place.at + 2) second)
            (record { at = place.at + 3; filled = 0; sum = 0 })
        unfolding written filled_by sum_by
        put_full =
            let n : ℕ = (place.sum + (place.filled + 1) * w) % 65521 in
            let en : n ≡ sum_with place.filled place.sum b = ap (λ (m : ℕ). (place.sum + (place.filled + 1) * m) % 65521) ew in
            let e1 : place.at + 1 ≡ suc place.at = omega arith in
            let e2 : place.at + 2 ≡ suc (suc place.at) = omega arith in
            record {
              area_is =
                  ap (λ (k : ℕ). set (set (set lent place.at b) k first) (place.at + 2) second) e1
                  ∙ ap (λ (k : ℕ). set (set (set lent place.at b) (suc place.at) first) k second) e2
                  ∙ ap (λ (k : ℕ). set (set (set lent place.at b) (suc place.at) k) (suc (suc place.at)) second) first_is
                  ∙ ap (λ (k : ℕ). set (set (set lent place.at b) (suc place.at) (n % 256)) (suc (suc place.at)) k) second_is
                  ∙ ap (λ (k : ℕ). sets lent place.at (b ∷ low 2 k)) en
                  ∙ rw full;
              at_is = rw full;
              filled_is = rw full;
              sum_is = rw full;
            }

-- ---- what is left to write

pub record Going (start : Place) (all lent : List ℕ) (place : Place) (left area : List ℕ) : Type 0 where
  pub filled_low : place.filled < 510
  pub sum_low : place.sum < 65521
  pub long : length area ≡ length lent
  pub room : start.at + length (out start all) ≤ length lent
  pub ats : place.at + length (out place left) ≡ start.at + length (out start all)
  pub areas : sets area place.at (out place left) ≡ sets lent start.at (out start all)
  pub filleds : filled_by place.filled left ≡ filled_by start.filled all
  pub sums : sum_by place.filled place.sum left ≡ sum_by start.filled start.sum all

pub go_start : {start : Place} {all lent : List ℕ} → Fitting start all lent → Going start all lent start all lent
go_start o = record { filled_low = o.filled_low; sum_low = o.sum_low; long = refl; room = o.room; ats = refl; areas = refl; filleds = refl; sums = refl }

module _ {start place : Place} {all lent left area : List ℕ} (g : Going start all lent place left area) where
  -- the same bytes, written otherwise
  pub go_as : {other : List ℕ} → left ≡ other → Going start all lent place other area
  go_as e = subst (λ (l : List ℕ). Going start all lent place l area) e g

  -- there is room for the first of them
  pub go_fits : {ys : List ℕ} (zs : List ℕ) → left ≡ ys ++ zs → Fitting place ys area
  go_fits {ys} zs e =
      let w = ap length (ap (out place) e ∙ written_append ys zs place.filled place.sum) in
      let l = length-append (out place ys) (written (filled_by place.filled ys) (sum_by place.filled place.sum ys) zs) in
      record { filled_low = g.filled_low; sum_low = g.sum_low; room = omega (arith, g.ats, g.room, g.long) }

  -- and when they are written the others are left
  pub go_on : {ys zs area' : List ℕ} {place' : Place} → left ≡ ys ++ zs → Written place ys area area' place' → Going start all lent place' zs area'
  go_on {ys} {zs} {area'} {place'} e w =
      let f : ℕ = place.filled in
      let s : ℕ = place.sum in
      let parts : out place left ≡ out place ys ++ out place' zs =
      ap (out place) e
      ∙ written_append ys zs f s
      ∙ ap (λ (n : ℕ). out place ys ++ written n (sum_by f s ys) zs) (sym w.filled_is)
      ∙ ap (λ (n : ℕ). out place ys ++ written place'.filled n zs) (sym w.sum_is) in
      let lp = ap length parts in
      let la = length-append (out place ys) (out place' zs) in
      record {
        filled_low = omega (arith, w.filled_is, by_low ys f g.filled_low);
        sum_low = omega (arith, w.sum_is, sum_by_low ys f s g.sum_low);
        long = ap length w.area_is ∙ length-sets area place.at (out place ys) ∙ g.long;
        room = g.room;
        ats = omega (arith, w.at_is, g.ats);
        areas =
            ap (λ (l : List ℕ). sets l place'.at (out place' zs)) w.area_is
            ∙ ap (λ (n : ℕ). sets (sets area place.at (out place ys)) n (out place' zs)) w.at_is
            ∙ sym (sets_append area place.at (out place ys) (out place' zs))
            ∙ ap (sets area place.at) (sym parts)
            ∙ g.areas;
        filleds =
            ap (λ (n : ℕ). filled_by n zs) w.filled_is ∙ sym (filled_append ys zs f) ∙ ap (filled_by f) (sym e) ∙ g.filleds;
        sums =
            ap (λ (n : ℕ). sum_by n place'.sum zs) w.filled_is
            ∙ ap (λ (n : ℕ). sum_by (filled_by f ys) n zs) w.sum_is
            ∙ sym (sum_append ys zs f s)
            ∙ ap (sum_by f s) (sym e)
            ∙ g.sums;
      }

-- none is left
pub go_end : {start place : Place} {all lent area : List ℕ} → Going start all lent place [] area → Written start all lent area place
unfolding written filled_by sum_by
go_end g = record { area_is = g.areas; at_is = omega (arith, g.ats); filled_is = g.filleds; sum_is = g.sums }

-- ---- what is written is the file

-- the rest of a block, and what is behind it
rest_of_block : (x : ℕ) (xs more : List ℕ) (f s : ℕ) → f + suc (length xs) ≡ 510
    → written f s (x ∷ xs ++ more) ≡ x ∷ xs ++ low 2 ((s + sum_from (f + 1) (x ∷ xs)) % 65521) ++ written 0 0 more
unfolding written sum_from
rest_of_block x [] more f s e =
    let t : eqb (f + 1) 510 ≡ true = eq-eqb (f + 1) 510 (omega arith) in
    let z : (f + 1) * x ≡ (f + 1) * x + 0 = omega arith in
    rw t (ap (λ (n : ℕ). x ∷ low 2 ((s + n) % 65521) ++ written 0 0 more) z)
rest_of_block x (y ∷ xs) more f s e =
    let t : eqb (f + 1) 510 ≡ false = ne_eqb (f + 1) 510 (λ q. omega arith) in
    let k : ℕ = sum_from (f + 1 + 1) (y ∷ xs) in
    let z : (sum_with f s x + k) % 65521 ≡ (s + ((f + 1) * x + k)) % 65521 = mod_plus (s + (f + 1) * x) k ∙ ap (λ (n : ℕ). n % 65521) (omega arith) in
    rw t
    (
    ap (λ (l : List ℕ). x ∷ l) (rest_of_block y xs more (f + 1) (sum_with f s x) (omega arith))
    ∙ ap (λ (n : ℕ). x ∷ (y ∷ xs ++ low 2 n ++ written 0 0 more)) z
    )
  where
    mod_plus : (a b : ℕ) → (a % 65521 + b) % 65521 ≡ (a + b) % 65521
    mod_plus a b = omega arith

block_written : (pay more : List ℕ) → length pay ≡ 510 → written 0 0 (pay ++ more) ≡ block_of pay ++ written 0 0 more
unfolding block_of sum_of
block_written [] more e = absurd (omega arith)
block_written (x ∷ xs) more e = rest_of_block x xs more 0 0 (omega arith) ∙ ap (λ (n : ℕ). x ∷ xs ++ low 2 (n % 65521) ++ written 0 0 more) (omega arith)

pub all_written : (n : ℕ) (pay : List ℕ) → length pay ≡ 510 * n → written 0 0 pay ≡ cut_into n pay
unfolding written cut_into
all_written zero [] e = refl
all_written zero (x ∷ pay) e = absurd (omega arith)
all_written (suc n) pay e =
    ap (written 0 0) (sym (take-append-drop 510 pay))
    ∙ block_written (take 510 pay) (drop 510 pay) (length-take-le 510 pay (omega arith))
    ∙ ap (λ (l : List ℕ). block_of (take 510 pay) ++ l) (all_written n (drop 510 pay) (length-drop 510 pay ∙ omega arith))
