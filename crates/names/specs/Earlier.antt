-- Declared names with the places of their declarations, and the earlier declaration of a new name that is taken (E8).
use Rattle.std.specs.Prelude.{ℕ, max, cond, ◌&&◌, List, [], ◌∷◌, map, eqb, ltb}
use Rattle.forest.specs.Lists.{same_bytes}
use Rattle.names.specs.Scopes.{Defined, Function, Named}

-- A declared name and the word at which it is declared.
pub record Declared : Type 0 where
  pub name : List ℕ
  pub at : ℕ

-- Variables, arguments or non-terminals as declared names.
abbrev pub declared_names : List Named → List Declared
declared_names ns = map (λ (n : Named). record { name = n.name; at = n.at }) ns

-- `define-fun`s as declared names.
abbrev pub declared_defined : List Defined → List Declared
declared_defined ds = map (λ (d : Defined). record { name = d.name; at = d.at }) ds

-- Synthesized functions as declared names.
abbrev pub declared_functions : List Function → List Declared
declared_functions fs = map (λ (f : Function). record { name = f.name; at = f.at }) fs

-- The spellings of declared names.
abbrev pub spellings : List Declared → List (List ℕ)
spellings ds = map (λ (d : Declared). d.name) ds

-- The place of the last of these names that is spelt n and declared before word w; 0 where there is none. In scope there is one at most: names in scope have
-- distinct spellings. No name is declared at word 0, which is a bracket or refused.
unfoldable pub last_before : List Declared → (w : ℕ) → (n : List ℕ) → ℕ
last_before [] w n = 0
last_before (d ∷ more) w n = max (cond (same_bytes d.name n && ltb d.at w) d.at 0) (last_before more w n)

-- "answer 7 returns it as second number; 0 for unknown or reserved" (E8): where word w is that of one of the new names, the place of the earlier declaration,
-- among all names, of the name that it takes; 0 where word w is no new name's, or its name is none that is declared before.
unfoldable pub earlier : (all new : List Declared) → (w : ℕ) → ℕ
earlier all [] w = 0
earlier all (d ∷ more) w = cond (eqb d.at w) (last_before all w d.name) (earlier all more w)
