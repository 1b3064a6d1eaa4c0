-- What is promised of a script that passes, from its bytes.
use Prim.Native.Nat.{ℕ}
use native.Mathlib.Omega.{arith}
use mathlib.Core.List.{List}
use mathlib.Core.Path.{◌≡◌, refl}
use Rattle.words.specs.Reading.{reading_of}
use Rattle.words.specs.Limits.{script_limits}
use Rattle.words.specs.Answers.{Reading}
use Rattle.std.specs.Prelude.{Ok, Err}
use Rattle.lexemes.specs.Lists.{items_of}
use Rattle.lexemes.proofs.WholeText.{text_stands}
use Rattle.forest.specs.Limits.{allowed}
use Rattle.script.specs.Script.{Known, Read, passed, read_all, refused, nothing_known}
use Rattle.outcome.specs.code.Sorted.{Sorted}
use Rattle.outcome.proofs.Sorted.{passed_sorted}
use Rattle.script.specs.Outcome.{ScriptOutcome, by_commands, by_words, said, script_outcome}

-- A refusal says nothing.
pub not_said : {A : Type 0} {number offset second : ℕ} {k : Known} → ScriptOutcome.faulty number offset second ≡ said k → A
not_said e = let z : ◌≡◌ {A = ℕ} 0 1 = cc in absurd (omega arith)

-- What the commands say is what was read.
pub by-commands : (text : List ℕ) (read : Read) {k : Known} → by_commands text read ≡ said k → read ≡ passed k
by-commands text (refused number place second) e = not_said e
by-commands text (passed k) e = cc

-- Every rule, body, constraint and assumption of a script that passes has its sort.
pub script_sorted : (text : List ℕ) {k : Known} → script_outcome text ≡ said k → Sorted k
unfolding script_outcome
script_sorted text {k} e = go (reading_of script_limits text) refl e
  where
    go : (reading : Reading) → reading_of script_limits text ≡ reading → by_words text reading ≡ said k → Sorted k
    go (Err refusal) whole h = not_said h
    go (Ok n) whole h =
        let stands = text_stands script_limits text n whole in
        passed_sorted allowed n (items_of text) stands (by-commands text (read_all allowed n nothing_known (items_of text)) h)
