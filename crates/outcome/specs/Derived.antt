-- Derivations of the bodies of all functions, and how they are shown. Functions and bodies stand in script order.
use Rattle.std.specs.Prelude.{ℕ, zero, suc, ◌-◌, ◌≤◌, List, [], ◌∷◌, ◌++◌, map, length, replicate}
use Rattle.terms.specs.Labels.{Terms}
use Rattle.derivation.specs.Answer.{list_of, start}
use Rattle.forest.specs.Limits.{area_size, list_size, most_functions, unused}
use Rattle.derivation.specs.Derivation.{Derives, Simple}
use Rattle.derivation.specs.Least.{Least, total_of}
use Rattle.names.specs.Scopes.{Function}
use Rattle.script.specs.Response.{Body}

-- The terms of bodies.
abbrev pub terms_of : List Body → List Terms
terms_of bs = map (λ (b : Body). b.term) bs

-- Each function's grammar derives the function's term from its start, by a list of rules of any length.
pub data Derived : List Function → List Terms → Type 0 where
  no_more : Derived [] []
  also : {f : Function} {t : Terms} {fs : List Function} {ts : List Terms} {ds : List ℕ} → Derives f.grammar start t ds → Derived fs ts
      → Derived (f ∷ fs) (t ∷ ts)

-- The same by the lists that are shown: "No non-terminal is used twice at the same place of the body, so 256 × 16 entries suffice." "The derivation shown must
-- now be of least total weight among all of any length, then with fewest rules, then with the least rule numbers at the first difference." (E13)
pub data ListsShown : List Function → List Terms → (lists : List (List ℕ)) → Type 0 where
  no_more : ListsShown [] [] []
  also : {f : Function} {t : Terms} {fs : List Function} {ts : List Terms} {ds : List ℕ} {lists : List (List ℕ)} → Simple f.grammar [] start t ds
      → Least f.grammar start t ds → length ds ≤ list_size → ListsShown fs ts lists → ListsShown (f ∷ fs) (t ∷ ts) (ds ∷ lists)

-- "13 (first such function)": function j is the first whose grammar derives its body by no list of rules, of any length; b is that body.
pub data FirstUnderived : List Function → List Body → (j : ℕ) → (b : Body) → Type 0 where
  here : {f : Function} {fs : List Function} {b : Body} {bs : List Body} → ((ds : List ℕ) → Derives f.grammar start b.term ds → ⊥)
      → FirstUnderived (f ∷ fs) (b ∷ bs) zero b
  later : {f : Function} {fs : List Function} {c b : Body} {bs : List Body} {j : ℕ} {ds : List ℕ} → Derives f.grammar start c.term ds
      → FirstUnderived fs bs j b → FirstUnderived (f ∷ fs) (c ∷ bs) (suc j) b

-- Lists one behind the other, each with its unused entries: "Function k's list starts at 4,096·k".
unfoldable pub lists_of : List (List ℕ) → List ℕ
lists_of [] = []
lists_of (ds ∷ more) = list_of ds ++ lists_of more

-- The area that shows the lists: "every entry of the area that no list uses is 65,535".
unfoldable pub shown_area : List (List ℕ) → List ℕ
shown_area lists = lists_of lists ++ replicate (area_size - length (lists_of lists)) unused

-- What each function's list weighs: "The total is reported for each function" (E13).
unfoldable pub weighed : List Function → (lists : List (List ℕ)) → List ℕ
weighed fs [] = []
weighed [] (ds ∷ more) = []
weighed (f ∷ fs) (ds ∷ more) = total_of f.grammar.rules ds ∷ weighed fs more

-- The totals of all functions that a script may have: "0 where none is shown" (E13).
unfoldable pub totals : List Function → (lists : List (List ℕ)) → List ℕ
totals fs lists = weighed fs lists ++ replicate (most_functions - length (weighed fs lists)) 0

-- The totals where no list is shown.
unfoldable pub no_totals : List ℕ
no_totals = replicate most_functions 0

-- The area that shows none: "after any other answer each entry is 65,535".
unfoldable pub blank_area : List ℕ
blank_area = replicate area_size unused
