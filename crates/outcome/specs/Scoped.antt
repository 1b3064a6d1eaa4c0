-- "All names in scope have distinct spellings and a place before their use" (E8), of every command of a script that passes.
use Rattle.std.specs.Prelude.{ℕ, ◌<◌, true, false, cond, ◌≡◌, ltb}
use mathlib.Core.List.{List, [], ◌∷◌, ◌++◌, Memᴰ}
use Rattle.forest.specs.Forest.{none, tree}
use Rattle.forest.specs.Lists.{same_bytes}
use Rattle.words.specs.Trees.{word_of}
use Rattle.lexemes.specs.Lists.{Items, is, item}
use Rattle.lexemes.specs.Reserved.{is_reserved}
use Rattle.names.specs.Earlier.{Declared, spellings}
use Rattle.names.specs.Scopes.{is_named}
use Rattle.script.specs.Outcome.{offset_of, second_of}
use Rattle.script.specs.Script.{Known, declared_in, known_after, new_names}
use Rattle.outcome.specs.Met.{MetIn}

-- "distinct spellings": none of the names is one of those behind it; and none is reserved.
unfoldable pub Apart : List (List ℕ) → Type 0
Apart [] = Unit {0}
Apart (n ∷ more) = (is_reserved n ≡ false) × (is_named more n ≡ false) × Apart more

-- "a place before": each is declared before word w.
unfoldable pub AllBefore : (w : ℕ) → List Declared → Type 0
AllBefore w [] = Unit {0}
AllBefore w (d ∷ more) = (d.at < w) × AllBefore w more

-- The names in scope where a command begins, at word `at`: it holds before the first, and each command that passes keeps it, so that it holds before a command
-- that is refused too.
pub record InScope (k : Known) (at : ℕ) : Type 0 where
  pub apart : Apart (spellings (declared_in k))
  pub before : AllBefore at (declared_in k)

-- The names in scope within command c, whose bracket is word `at`: those before it, which all of the command stands behind; and its new names, which stand
-- before what may use them, the body of a `define-fun`, or what a `synth-fun` lists. A term names no others (`names/specs/Unknown`); a response's body names
-- those of the script.
pub record Scoped (k : Known) (at : ℕ) (c : Items) : Type 0 where
  pub apart : Apart (spellings (declared_in k ++ new_names c))
  pub before : AllBefore at (declared_in k)
  pub before_body : is "define-fun" (item 0 c) ≡ true → AllBefore (word_of (item 4 c)) (new_names c)
  pub before_rules : is "synth-fun" (item 0 c) ≡ true → AllBefore (word_of (item 5 c)) (new_names c)

-- The same of each of the commands, the first of which follows those that have said k.
unfoldable pub AllScoped : Known → (commands : Items) → Type 0
AllScoped k none = Unit {0}
AllScoped k (tree l c more) = Scoped k (word_of l) c × AllScoped (known_after k c) more

-- Those of declared names that are declared before word w.
unfoldable pub declared_before : (w : ℕ) → List Declared → List Declared
declared_before w [] = []
declared_before w (d ∷ more) = cond (ltb d.at w) (d ∷ declared_before w more) (declared_before w more)

-- The names in scope at word w of command c: those before the command, and its new names that are declared before the word.
abbrev pub in_scope_at : Known → (c : Items) → (w : ℕ) → List Declared
in_scope_at k c w = declared_in k ++ declared_before w (new_names c)

-- A new name that stands at word w.
pub record NewAt (c : Items) (w : ℕ) (new : Declared) : Type 0 where
  pub is_new : Memᴰ new (new_names c)
  pub at_word : new.at ≡ w

-- A declaration in scope at word w that is spelt n.
pub record SpeltBefore (k : Known) (c : Items) (w : ℕ) (n : List ℕ) (d : Declared) : Type 0 where
  pub in_scope : Memᴰ d (in_scope_at k c w)
  pub spelt : same_bytes d.name n ≡ true
  pub before : d.at < w

-- The name at word w is "taken" by the one that is declared at the place.
pub record TakenBy (k : Known) (c : Items) (w place : ℕ) : Type 0 where
  pub new : Declared
  pub new_at : NewAt c w new
  pub unreserved : is_reserved new.name ≡ false
  pub declaration : Declared
  pub spelt_before : SpeltBefore k c w new.name declaration
  pub place_is : declaration.at ≡ place

-- The second number of a name at fault at word w of command c, as a word, 0 for none.
pub record SecondStated (k : Known) (c : Items) (w second : ℕ) : Type 0 where
  -- Names in scope there have distinct spellings, so that one of them at most is spelt as the name.
  pub apart : Apart (spellings (in_scope_at k c w))
  -- "answer 7 returns it as second number": the place of the declaration, and no other number but 0
  pub taken : {new d : Declared} → NewAt c w new → SpeltBefore k c w new.name d → second ≡ d.at
  pub taken_by : 0 < second → TakenBy k c w second
  -- "0 for .. reserved"
  pub reserved : {new : Declared} → NewAt c w new → is_reserved new.name ≡ true → second ≡ 0
  -- "0 for unknown": a word that is no new name's
  pub unknown : ((new : Declared) → NewAt c w new → ⊥) → second ≡ 0

-- A script that is refused by 7: the command, the word at fault and the word that the second number speaks of.
pub record NameRefused (script : List ℕ) (place second : ℕ) : Type 0 where
  pub known : Known
  pub at : ℕ
  pub command : Items
  pub met : MetIn script known at command
  pub word : ℕ
  pub earlier : ℕ
  pub stated : SecondStated known command word earlier
  pub place_is : place ≡ offset_of script word
  pub second_is : second ≡ second_of script earlier
