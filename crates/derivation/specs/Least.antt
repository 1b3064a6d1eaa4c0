-- Which derivation is shown: "of least total weight among all of any length, then with fewest rules, then with the least rule numbers at the first difference"
-- (E13).
use Rattle.std.specs.Prelude.{◌≡◌, ◌⊎◌, ℕ, ◌+◌, ◌<◌, List, [], ◌∷◌, length}
use Rattle.forest.specs.Forest.{Forest}
use Rattle.terms.specs.Labels.{Terms}
use Rattle.derivation.specs.Derivation.{Derives, Grammar, Item, Rule, weight_of}

-- The summed weights of the rules ds.
unfoldable pub total_of : List Rule → (ds : List ℕ) → ℕ
total_of rules [] = 0
total_of rules (r ∷ ds) = weight_of rules r + total_of rules ds

-- At the first difference the one list has the lower number.
pub data Lower : List ℕ → List ℕ → Type 0 where
  here : {x y : ℕ} {xs ys : List ℕ} → x < y → Lower (x ∷ xs) (y ∷ ys)
  there : {x : ℕ} {xs ys : List ℕ} → Lower xs ys → Lower (x ∷ xs) (x ∷ ys)

-- The rules ds go before the rules es.
pub data Before (G : Grammar) (ds es : List ℕ) : Type 0 where
  lighter : total_of G.rules ds < total_of G.rules es → Before G ds es
  fewer : total_of G.rules ds ≡ total_of G.rules es → length ds < length es → Before G ds es
  lower : total_of G.rules ds ≡ total_of G.rules es → length ds ≡ length es → Lower ds es → Before G ds es

-- They are the same, or go before them.
abbrev pub First : (G : Grammar) (ds es : List ℕ) → Type 0
First G ds es = (ds ≡ es) ⊎ Before G ds es

-- The rules ds derive the terms T from the forms P, and go before all others that do, of any length.
pub record Least (G : Grammar) (P : Forest Item) (T : Terms) (ds : List ℕ) : Type 0 where
  pub derivation : Derives G P T ds
  pub least : (es : List ℕ) → Derives G P T es → First G ds es
