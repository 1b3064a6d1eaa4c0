-- The lists of rules that an area shows: "Function k's list starts at 4,096·k"; "every entry of the area that no list uses is 65,535".
use Rattle.std.specs.Prelude.{cond, ℕ, zero, suc, ◌+◌, ◌*◌, ◌-◌, List, [], ◌∷◌, ◌++◌, eqb, drop, length, replicate, take}
use Rattle.forest.specs.Limits.{area_size, list_size, most_functions, unused}
use Rattle.forest.specs.Tables.{rows}

-- The rules before the first entry that is not used.
unfoldable pub rules_shown : List ℕ → List ℕ
rules_shown [] = []
rules_shown (entry ∷ more) = let later = rules_shown more in cond (eqb entry unused) [] (entry ∷ later)

-- A list with its unused entries.
abbrev pub list_with : (list : List ℕ) → List ℕ
list_with list = list ++ replicate (list_size - length list) unused

-- The area that shows lists, one behind the other: an entry that none of them uses is not used.
unfoldable pub area_of : (lists : List (List ℕ)) → List ℕ
area_of lists = rows list_with lists ++ replicate (area_size - length (rows list_with lists)) unused

-- The list of function j.
unfoldable pub list_shown : (shown : List ℕ) → (j : ℕ) → List ℕ
list_shown shown j = rules_shown (take list_size (drop (list_size * j) shown))

-- The lists of n functions from j on.
unfoldable pub lists_shown_from : (shown : List ℕ) → (j n : ℕ) → List (List ℕ)
lists_shown_from shown j zero = []
lists_shown_from shown j (suc n) = list_shown shown j ∷ lists_shown_from shown (j + 1) n

-- The eight lists, that of an absent function empty.
abbrev pub lists_shown : (shown : List ℕ) → List (List ℕ)
lists_shown shown = lists_shown_from shown 0 most_functions
