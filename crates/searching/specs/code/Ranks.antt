-- Ranks: the weight and the number of the rules of a list as one number.
use Rattle.std.specs.Prelude.{◌≡◌, ℕ, ◌+◌, ◌*◌, ◌≤◌, List, ◌∷◌, length}
use Rattle.forest.specs.Forest.{Forest}
use Rattle.forest.specs.Limits.{list_size}
use Rattle.terms.specs.Labels.{Terms}
use Rattle.derivation.specs.Derivation.{Grammar, Item, form_of, most_weight}
use Rattle.derivation.specs.Least.{Least, total_of}

-- More than the rules of any list that is looked at: a least one has at most as many as a list of the area, and one that is compared with it one more.
abbrev pub per_weight : ℕ
per_weight = 2 * list_size

-- A rank says a weight and a count: for per_weight below that the lower rank has less weight, or as much and fewer rules.
abbrev pub rank_of : Grammar → (ds : List ℕ) → ℕ
rank_of G ds = per_weight * total_of G.rules ds + length ds

-- More than any rank: that of so many rules of the most weight.
abbrev pub most : ℕ
most = per_weight * per_weight * (most_weight + 1)

-- The rules that P derives T by, the least of all, are at most n, and their rank is c.
pub record Ranked (G : Grammar) (P : Forest Item) (T : Terms) (n c : ℕ) : Type 0 where
  pub ds : List ℕ
  pub least : Least G P T ds
  pub rank : c ≡ rank_of G ds
  pub few : length ds ≤ n

-- The same of rule r and the least of all that its right side derives T by.
pub record Through (G : Grammar) (T : Terms) (r n c : ℕ) : Type 0 where
  pub ds : List ℕ
  pub least : Least G (form_of G.rules r) T ds
  pub rank : c ≡ rank_of G (r ∷ ds)
  pub few : length ds + 1 ≤ n
