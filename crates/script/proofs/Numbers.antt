-- A refusal has a number of the table of answers: that of its row.
use Prim.Native.Nat.{ℕ, ◌≤◌}
use native.Mathlib.Omega.{arith}
use mathlib.Core.Path.{◌≡◌, refl, subst, sym}
use mathlib.Core.List.{List}
use Rattle.words.specs.Answers.{Reading, number_of, passed as passedWords}
use Rattle.words.specs.Reading.{reading_of}
use Rattle.words.specs.declared.Limits.{Limits}
use Rattle.std.specs.Prelude.{Ok, Err}
use Rattle.script.specs.Script.{Known}
use Rattle.script.specs.Outcome.{ResponseOutcome, ScriptOutcome, given, response_within, said, script_outcome}
use Rattle.script.specs.Rows.{ResponseRow, ScriptRow, TextRow, bad_name, bad_word, closed_too_often, ends_early, fail, grammar-fault, header-differs}
use Rattle.script.specs.Rows.{infeasible, name_taken, never_closed, not_carried, past_limit, shape_unknown, sort_fault, too_long}
use Rattle.script.proofs.Rows.{ReadingRow, ResponseKept, ScriptKept, reading_row, response_kept, says, script_kept}

-- ---- rows

-- the numbers of a row of both texts
text_number : {text : List ℕ} {number place : ℕ} → TextRow text number place → (1 ≤ number) × (number ≤ 8)
text_number too_long = omega arith
text_number (bad_word a) = omega arith
text_number (closed_too_often a) = omega arith
text_number never_closed = omega arith
text_number (past_limit a) = omega arith
text_number (shape_unknown a) = omega arith
text_number ends_early = omega arith
text_number (not_carried a) = omega arith
text_number (bad_name a) = omega arith
text_number (sort_fault a) = omega arith

-- of a row of a script
pub script_row_number : {text : List ℕ} {number place second : ℕ} → ScriptRow text number place second → (1 ≤ number) × (number ≤ 12)
script_row_number (ScriptRow.of_text r) = let h = text_number r in omega arith
script_row_number (grammar-fault a) = omega arith
script_row_number (name_taken a b h) = omega arith

-- and of a row of a response
pub response_row_number : {text : List ℕ} {number place : ℕ} → ResponseRow text number place → (1 ≤ number) × (number ≤ 12)
response_row_number (ResponseRow.of_text r) = let h = text_number r in omega arith
response_row_number fail = omega arith
response_row_number infeasible = omega arith
response_row_number (header-differs a) = omega arith

-- ---- texts

-- a text without a number is read whole
pub read_whole : (limits : Limits) (text : List ℕ) (r : Reading) → r ≡ reading_of limits text → number_of r ≡ 0 → r ≡ Ok (passedWords r)
read_whole limits text r e z = go r (subst (ReadingRow text) (sym e) (reading_row limits text)) z
  where
    go : (r : Reading) → ReadingRow text r → number_of r ≡ 0 → r ≡ Ok (passedWords r)
    go (Ok n) row z = refl
    go (Err refusal) (ReadingRow.refuses row) z = let h = text_number row in absurd (omega arith)

-- what was found has a number, one of those that texts give
pub record Numbered {A : Type 0} (number : A → ℕ) (a : A) : Type 0 where
  pub some : 1 ≤ number a
  pub few : number a ≤ 12

-- the number of a script that is refused; 1 where it is not
abbrev pub in_script : ScriptOutcome → ℕ
in_script (ScriptOutcome.faulty number offset second) = number
in_script (said k) = 1

-- a script
pub script_numbered : (text : List ℕ) → Numbered in_script (script_outcome text)
script_numbered text = go (script_kept text)
  where
    go : {r : ScriptOutcome} → ScriptKept text r → Numbered in_script r
    go (ScriptKept.refuses row) = let h = script_row_number row in record { some = h.0; few = h.1 }
    go says = record { some = omega arith; few = omega arith }

-- the number of a response that is refused; 1 where it is not
abbrev pub in_response : ResponseOutcome → ℕ
in_response (ResponseOutcome.faulty number offset) = number
in_response (given bs) = 1

-- a response
pub response_numbered : (limits : Limits) (k : Known) (text : List ℕ) → Numbered in_response (response_within limits k text)
response_numbered limits k text = go (response_kept limits k text)
  where
    go : {r : ResponseOutcome} → ResponseKept text r → Numbered in_response r
    go (ResponseKept.refuses row) = let h = response_row_number row in record { some = h.0; few = h.1 }
    go (ResponseKept.gives first) = record { some = omega arith; few = omega arith }
