-- What the check of one body asks and gives.
use Rattle.std.specs.Prelude.{◌≡◌, ℕ, ◌*◌, ◌≤◌, ◌<◌, List, [], MatchOption, Option, length}
use Rattle.std.proofs.lemmas.List.Edits.{sets}
use Rattle.forest.specs.Forest.{count}
use Rattle.forest.specs.code.Cursors.{size}
use Rattle.terms.specs.Labels.{Terms}
use Rattle.derivation.specs.Derivation.{Derives, Grammar, Simple}
use Rattle.derivation.specs.Least.{Least, total_of}
use Rattle.derivation.specs.code.Tables.{Given}
use Rattle.forest.specs.Limits.{area_size, list_size, most_functions, most_nodes}
use Rattle.derivation.specs.Answer.{start, list_of}

-- The tables hold rules and one body of at most 256 nodes; the area has its size, and the function is one of eight.
pub record DerivePre (rules forms body : List ℕ) (k : ℕ) (area : List ℕ) : Type 0 where
  pub given : Given rules forms body
  pub one : count given.F ≡ 1
  pub fits : size given.F ≤ most_nodes
  pub sized : length area ≡ area_size
  pub function : k < most_functions

-- The rules ds derive the body, with no non-terminal twice at one place; they are the least that do, and weigh `total`; and function k's list in the area shows
-- them.
pub record Shown (G : Grammar) (F : Terms) (k : ℕ) (area areaAfter : List ℕ) (total : ℕ) : Type 0 where
  pub ds : List ℕ
  pub derivation : Simple G [] start F ds
  pub least : Least G start F ds
  pub weighs : total ≡ total_of G.rules ds
  pub few : length ds ≤ list_size
  pub shown : areaAfter ≡ sets area (list_size * k) (list_of ds)

-- No list of rules, of any length, derives the body; the area is as it was.
pub record NotDerived (G : Grammar) (F : Terms) (area areaAfter : List ℕ) : Type 0 where
  pub none_derives : (ds : List ℕ) → Derives G start F ds → ⊥
  pub unchanged : areaAfter ≡ area

-- There is a total, and the least derivation, which weighs it, is shown; or there is none, and no derivation.
abbrev pub DerivePost : (rules forms body : List ℕ) (k : ℕ) (area : List ℕ) → DerivePre rules forms body k area → (areaAfter : List ℕ) → Option ℕ → Type 0
DerivePost rules forms body k area p areaAfter found =
    MatchOption found (NotDerived p.given.G p.given.F area areaAfter) (Shown p.given.G p.given.F k area areaAfter)

-- The same, for whatever the tables hold.
abbrev pub Decides : (rules forms body : List ℕ) (k : ℕ) (area areaAfter : List ℕ) → Option ℕ → Type 0
Decides rules forms body k area areaAfter found = (p : DerivePre rules forms body k area) → DerivePost rules forms body k area p areaAfter found
