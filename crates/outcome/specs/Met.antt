-- "commands, the first faulty one": the commands that reading meets, each of which passes but the last. Words of the theorems on answers 7 and 9.
use Rattle.std.specs.Prelude.{ℕ, true, List, ◌≡◌, length, Ok}
use Rattle.forest.specs.Forest.{tree}
use Rattle.forest.specs.Limits.{allowed}
use Rattle.words.specs.Limits.{script_limits}
use Rattle.words.specs.Reading.{reading_of}
use Rattle.words.specs.Trees.{Lexeme, word_of}
use Rattle.words.specs.Words.{words_of}
use Rattle.lexemes.specs.Lists.{Items, is_list, items_of}
use Rattle.script.specs.Script.{Known, judged, known_after, nothing_known, passed}

-- Reading meets command c, whose bracket is word `at`, with `known` known: of commands that follow those that have said k, each before it passes.
pub data Met (nowhere : ℕ) : (k : Known) → (commands : Items) → (known : Known) → (at : ℕ) → (c : Items) → Type 0 where
  first : {k : Known} {l : Lexeme} {c more : Items} → is_list l ≡ true → Met nowhere k (tree l c more) k (word_of l) c
  later : {k known : Known} {l : Lexeme} {b more c : Items} {at : ℕ} → is_list l ≡ true
      → judged allowed nowhere k (word_of l) b (known_after k b) ≡ passed (known_after k b) → Met nowhere (known_after k b) more known at c
      → Met nowhere k (tree l b more) known at c

-- The same of a script, whose words pass.
pub record MetIn (script : List ℕ) (known : Known) (at : ℕ) (c : Items) : Type 0 where
  pub words : reading_of script_limits script ≡ Ok (length (words_of script))
  pub met : Met (length (words_of script)) nothing_known (items_of script) known at c
