-- "A non-terminal is refused exactly if it derives no term" (E9), of the grammars of a script.
use Rattle.std.specs.Prelude.{ℕ, ◌<◌, ◌≤◌, true, false, List, [], ◌∷◌, ◌≡◌, length}
use Rattle.forest.specs.Forest.{count}
use Rattle.forest.specs.Limits.{allowed}
use Rattle.words.specs.Trees.{word_of}
use Rattle.words.specs.Words.{words_of}
use Rattle.lexemes.specs.Lists.{Items, inside, is, item}
use Rattle.derivation.specs.Derivation.{Grammar}
use Rattle.derivation.specs.Productive.{DerivesSome}
use Rattle.shapes.specs.Carried.{is_not_carried}
use Rattle.shapes.specs.Shapes.{command_shape}
use Rattle.grammars.specs.Grammars.{grammar_in, listed_misfit}
use Rattle.names.specs.Scopes.{Function, View}
use Rattle.script.specs.Outcome.{ScriptOutcome, offset_of, script_outcome}
use Rattle.script.specs.Script.{Known, limit_place, name_place, out_of_place, sorting_place, view_of}
use Rattle.outcome.specs.Met.{MetIn}

-- A word is the predeclared name of the first of a grammar's non-terminals that derives no term, by no list of rules of any length.
pub record FirstDead (G : Grammar) (pairs : Items) (place : ℕ) : Type 0 where
  pub A : ℕ
  pub declared : A < count pairs
  pub derives_none : DerivesSome G A → ⊥
  pub others_derive : (B : ℕ) → B < A → DerivesSome G B
  pub place_is : place ≡ word_of (item 0 (inside A pairs))

-- Why a `synth-fun` is refused by 9 at word w: for another cause, at its place; or, "after the other causes of 9", at "the first of them where predeclared".
pub data GrammarAt (nowhere : ℕ) (view : View) (c : Items) (w : ℕ) : Type 0 where
  other_cause : listed_misfit nowhere view c ≡ w → w < nowhere → GrammarAt nowhere view c w
  dead : nowhere ≤ listed_misfit nowhere view c → FirstDead (grammar_in view c) (inside 4 c) w → GrammarAt nowhere view c w

-- A script that is refused by 9: the command, the word at fault and why.
pub record GrammarRefused (script : List ℕ) (place second : ℕ) : Type 0 where
  pub known : Known
  pub at : ℕ
  pub command : Items
  pub met : MetIn script known at command
  pub synthesizes : is "synth-fun" (item 0 command) ≡ true
  pub word : ℕ
  pub cause : GrammarAt (length (words_of script)) (view_of known command) command word
  pub place_is : place ≡ offset_of script word
  pub second_is : second ≡ 0

-- A `synth-fun` passes all other tests: 6, 5, 4, 7 and 8, and the other causes of 9.
pub record OthersPass (nowhere : ℕ) (k : Known) (at : ℕ) (c : Items) : Type 0 where
  pub synthesizes : is "synth-fun" (item 0 c) ≡ true
  pub carried : is_not_carried k.weights c ≡ false
  pub shaped : command_shape c ≡ true
  pub in_place : out_of_place k c ≡ false
  pub limited : nowhere ≤ limit_place allowed nowhere k at c
  pub named : nowhere ≤ name_place nowhere k c
  pub sorted : nowhere ≤ sorting_place nowhere k c
  pub listed : nowhere ≤ listed_misfit nowhere (view_of k c) c

-- "Refuse such a grammar with answer 9 at the first of them where predeclared": a script that is refused for a non-terminal of command c.
pub record DeadRefused (script : List ℕ) (k : Known) (c : Items) : Type 0 where
  pub word : ℕ
  pub first_dead : FirstDead (grammar_in (view_of k c) c) (inside 4 c) word
  pub refused : script_outcome script ≡ ScriptOutcome.faulty 9 (offset_of script word) 0

-- Every non-terminal of every function derives a term.
unfoldable pub AllAlive : List Function → Type 0
AllAlive [] = Unit {0}
AllAlive (f ∷ more) = ((A : ℕ) → A < length f.non_terminals → DerivesSome f.grammar A) × AllAlive more
