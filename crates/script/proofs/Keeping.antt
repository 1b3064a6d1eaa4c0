-- What every command within its limits and without a fault in its sorts and its grammar keeps to, a script that passes keeps to.
use Prim.Native.Nat.{ℕ, ◌≤◌, ◌<◌}
use native.Mathlib.Omega.{arith}
use mathlib.Core.Bool.{Bool, true, false, cond, not, ◌||◌}
use mathlib.Core.List.{List}
use mathlib.Core.Path.{◌≡◌, refl, subst}
use lib.Dec.{ltb}
use borrow.Author.Tests.{ltb-false}
use Rattle.forest.specs.Forest.{none, tree}
use Rattle.words.specs.Reading.{reading_of}
use Rattle.words.specs.Trees.{word_of}
use Rattle.words.specs.Limits.{script_limits}
use Rattle.words.specs.Answers.{Reading}
use Rattle.std.specs.Prelude.{Ok, Err}
use Rattle.lexemes.specs.Lists.{Items, is_list, items_of}
use Rattle.lexemes.proofs.WholeText.{text_stands}
use Rattle.shapes.specs.Carried.{is_not_carried}
use Rattle.shapes.specs.Shapes.{command_shape}
use Rattle.forest.specs.Limits.{allowed}
use Rattle.script.specs.Script.{Known, Read, and_then, grammar_place, judged, known_after, limit_place, name_place, out_of_place, passed, read_all, refused}
use Rattle.script.specs.Script.{sorting_place, nothing_known, tested}
use Rattle.script.proofs.WordsBelow.{Below, stands_below}
use Rattle.script.specs.Outcome.{ScriptOutcome, by_commands, by_words, said, script_outcome}

-- Every command, which stands at a word of the script, within its limits and without a fault in its sorts and its grammar keeps to P.
module _ (P : Known → Type 0)
    (kept : (nowhere : ℕ) (k : Known) (at : ℕ) (c : Items) → at < nowhere → Below nowhere c → nowhere ≤ limit_place allowed nowhere k at c
    → nowhere ≤ sorting_place nowhere k c → nowhere ≤ grammar_place nowhere k c → P k → P (known_after k c)) where
  -- What is known keeps to P, where the reading passes.
  data Keeps : Read → Type 0 where
    ends : {number place second : ℕ} → Keeps (refused number place second)
    goes_on : {k : Known} → P k → Keeps (passed k)

  -- One of two readings, by a test.
  either_keeps : (test : Bool) {x y : Read} → (test ≡ true → Keeps x) → (test ≡ false → Keeps y) → Keeps (cond test x y)
  either_keeps true f g = f refl
  either_keeps false f g = g refl

  -- A command and what follows it.
  then_keeps : {read : Read} (next : Known → Read) → Keeps read → ((k : Known) → P k → Keeps (next k)) → Keeps (and_then read next)
  then_keeps next ends later = ends
  then_keeps next (goes_on {k = k} p) later = later k p

  -- A command that passes is within its limits and has no fault in its sorts and its grammar.
  judged_keeps : (nowhere : ℕ) (k : Known) (at : ℕ) (c : Items) (after : Known)
      → (nowhere ≤ limit_place allowed nowhere k at c → nowhere ≤ sorting_place nowhere k c → nowhere ≤ grammar_place nowhere k c → P after)
      → Keeps (judged allowed nowhere k at c after)
  unfolding judged tested
  judged_keeps nowhere k at c after p =
      either_keeps (is_not_carried k.weights c) (λ e. ends)
      (λ e. either_keeps (not (command_shape c) || out_of_place k c) (λ e. ends)
      (λ e. either_keeps (ltb (limit_place allowed nowhere k at c) nowhere) (λ e. ends)
      (λ limited. either_keeps (ltb (name_place nowhere k c) nowhere) (λ e. ends)
      (λ e. either_keeps (ltb (sorting_place nowhere k c) nowhere) (λ e. ends)
      (λ sorted. either_keeps (ltb (grammar_place nowhere k c) nowhere) (λ e. ends)
      (λ ruled. goes_on (p (ltb-false _ _ limited) (ltb-false _ _ sorted) (ltb-false _ _ ruled))))))))

  -- All commands.
  all_keep : (nowhere : ℕ) (items : Items) {k : Known} → Below nowhere items → P k → Keeps (read_all allowed nowhere k items)
  unfolding Below read_all
  all_keep nowhere none {k} below p = either_keeps k.ended (λ e. goes_on p) (λ e. ends)
  all_keep nowhere (tree l c more) {k} below p =
      let after = kept nowhere k (word_of l) c below.0.first below.1 in
      let command = judged_keeps nowhere k (word_of l) c (known_after k c) (λ limited sorted ruled. after limited sorted ruled p) in
      either_keeps (is_list l) (λ e. then_keeps _ command (λ later q. all_keep nowhere more below.2 q)) (λ e. ends)

  -- What the script says keeps to P.
  data SaidKeeps : ScriptOutcome → Type 0 where
    nothing_said : {number offset second : ℕ} → SaidKeeps (ScriptOutcome.faulty number offset second)
    said_keeps : {k : Known} → P k → SaidKeeps (said k)

  -- What the commands say.
  commands_keep : (text : List ℕ) {read : Read} → Keeps read → SaidKeeps (by_commands text read)
  commands_keep text ends = nothing_said
  commands_keep text (goes_on p) = said_keeps p

  -- What a text says.
  text_keeps : (text : List ℕ) → P nothing_known → SaidKeeps (script_outcome text)
  unfolding script_outcome
  text_keeps text p = go (reading_of script_limits text) refl
    where
      go : (reading : Reading) → reading_of script_limits text ≡ reading → SaidKeeps (by_words text reading)
      go (Err refusal) whole = nothing_said
      go (Ok n) whole =
          let stands = text_stands script_limits text n whole in
          commands_keep text (all_keep n (items_of text) (stands_below n stands (omega arith)) p)

  -- What is said keeps to P.
  kept_said : {k : Known} → SaidKeeps (said k) → P k
  kept_said (said_keeps p) = p

  -- A script that passes keeps to P.
  pub script_keeps : (text : List ℕ) {k : Known} → script_outcome text ≡ said k → P nothing_known → P k
  script_keeps text e p = kept_said (subst SaidKeeps e (text_keeps text p))
