-- The declared arguments, by the rows of the table of names.
use Prim.Native.Nat.{ℕ, suc, ◌+◌}
use native.Mathlib.Omega.{arith}
use mathlib.Core.Path.{◌≡◌, refl, ap₂}
use mathlib.Core.Bool.{Bool, true, false, cond}
use mathlib.Core.List.{List, [], ◌∷◌}
use lib.Dec.{eqb}
use Rattle.forest.specs.Lists.{same_bytes}
use Rattle.forest.specs.Search.{place_in}
use Rattle.names.specs.Scopes.{Named, names_of, named_sorts}
use Rattle.names.specs.code.Table.{name_in, names_from, sort_in, sorts_from}

-- a word that is looked for in one row is there just when it is the name in it
pub one_row : (names : List ℕ) (row : ℕ) {word bytes : List ℕ} → word ≡ bytes → {place : ℕ} → place ≡ place_in (names_from names row 1) 0 word
    → eqb place 0 ≡ same_bytes (name_in names row) bytes
unfolding names_from place_in
one_row names row {word} {bytes} same e = rw (e, same) (go (same_bytes (name_in names row) bytes))
  where
    go : (t : Bool) → eqb (cond t 0 1) 0 ≡ t
    go true = refl
    go false = refl

-- Arguments of which the first is that in a row, and the others those in the rows behind it.
pub record FirstRow (names : List ℕ) (row n : ℕ) (declared : List Named) : Type 0 where
  pub at : ℕ
  pub more : List Named
  pub is : declared ≡ record { name = name_in names row; at = at; sort = sort_in names row } ∷ more
  pub names_are : names_from names (row + 1) n ≡ names_of more
  pub sorts_are : sorts_from names (row + 1) n ≡ named_sorts more

module _ (names : List ℕ) (row : ℕ) where
  -- some rows hold the first of the arguments
  pub first-row : (n : ℕ) (declared : List Named) → names_from names row (suc n) ≡ names_of declared → sorts_from names row (suc n) ≡ named_sorts declared
      → FirstRow names row n declared
  unfolding names_from sorts_from
  first-row n [] en es = let z : ◌≡◌ {A = ℕ} 0 1 = cc in absurd (omega arith)
  first-row n (a ∷ more) en es =
      let name : a.name ≡ name_in names row = cc in
      let sort : a.sort ≡ sort_in names row = cc in
      record {
        at = a.at;
        more = more;
        is = ap₂ (λ (m : List ℕ) (s : ℕ). record { name = m; at = a.at; sort = s } ∷ more) name sort;
        names_are = cc;
        sorts_are = cc;
      }

  -- no rows hold none
  pub no_row : (declared : List Named) → names_from names row 0 ≡ names_of declared → declared ≡ []
  unfolding names_from
  no_row [] en = refl
  no_row (a ∷ more) en = let z : ◌≡◌ {A = ℕ} 0 1 = cc in absurd (omega arith)
