-- A response, from its bytes.
use Prim.Native.Nat.{ℕ, ◌*◌}
use native.Mathlib.Omega.{arith}
use mathlib.Core.Path.{◌≡◌, refl, ◌∙◌}
use mathlib.Core.Bool.{cond, ◌||◌}
use mathlib.Core.List.{List}
use lib.Dec.{eqb}
use lib.ListN.{take}
use Rattle.words.specs.Reading.{reading_of}
use Rattle.words.specs.Answers.{Reading, number_of, place_of}
use Rattle.words.specs.declared.Limits.{Limits}
use Rattle.std.specs.Prelude.{Ok, Err}
use Rattle.lexemes.specs.code.Table.{row_width as lexemeWidth}
use Rattle.lexemes.specs.Lists.{items_of}
use Rattle.lexemes.proofs.WholeText.{text_stands}
use Rattle.term_faults.proofs.Texts.{text_lawful}
use Rattle.forest.specs.Limits.{allowed}
use Rattle.script.specs.declared.Progress.{Progress}
use Rattle.script.specs.declared.Verdict.{Verdict}
use Rattle.script.specs.Response.{Answered, answered, bodies, in_script_order, refused}
use Rattle.response.specs.code.Answers.{Answers, Responded, Responding}
use Rattle.script.specs.Outcome.{by_answers, offset_of, response_within}
use Rattle.script.specs.code.Answers.{fail_answer, infeasible_answer}
use Rattle.term_nodes.specs.code.Table.{row_width as rawWidth}
use Rattle.texts.specs.code.Texts.{RowEach}
use Rattle.texts.specs.code.Responses.{Ready, ResponseRead, ResponseTold}
use Rattle.texts.specs.code.Lexed.{Worded}
use Rattle.texts.proofs.Offsets.{offset_there}
use Rattle.texts.proofs.TextLexemes.{only_lexemes, placed_alone}

-- a word is refused
pub words_refused : {limits : Limits} {text names places nodes placesAfter nodesAfter : List ℕ} {p : Progress} (q : Ready limits text names places nodes p)
    (r : Reading) {v : Verdict} → r ≡ reading_of limits text → (number_of r ≡ 0 → ⊥) → v.number ≡ number_of r → v.place ≡ place_of r
    → ResponseRead q placesAfter nodesAfter v
unfolding response_within
words_refused q (Ok n) e some number place = absurd (some refl)
words_refused q (Err refusal) e some number place = record { told = rw (← e) (number, place) }

module _ {limits : Limits} {text lexemes names raw places nodes : List ℕ} {p : Progress} {n : ℕ} (w : Worded limits text lexemes n)
    (ready : Ready limits text names places nodes p) (raw_room : RowEach limits text rawWidth raw) where
  -- what the reading of a response's commands asks
  abbrev pub responding : Responding text (take (lexemeWidth * n) lexemes) names raw places nodes p n
  responding =
      record {
        items = items_of text;
        stands = rw (only_lexemes w) (text_stands limits text n w.whole);
        lawful = rw (only_lexemes w) (text_lawful limits text n w.whole);
        starts = λ i below. offset_there (placed_alone w) below;
        few = omega (arith, w.few, ready.few_words);
        known = ready.known;
        forms = ready.forms;
        tables = ready.tables;
        raw_room = raw_room.room n w.few w.short;
        nodes_room = ready.nodes_room n w.few w.short;
      }

  -- the commands are read
  pub commands_told : {placesAfter nodesAfter : List ℕ} {v : Verdict} {offset : ℕ} → Responded responding placesAfter nodesAfter v
      → offset ≡ cond (eqb v.number fail_answer || eqb v.number infeasible_answer) 0 (offset_of text v.place)
      → ResponseRead ready placesAfter nodesAfter (record { number = v.number; place = offset; rows = v.rows })
  unfolding response_within
  commands_told {placesAfter} {nodesAfter} {v} {offset} done at =
      record { told = rw w.whole (go (answered allowed n ready.known.defined (in_script_order ready.known.functions) (items_of text)) done.answers) }
    where
      go : (r : Answered) → Answers r text placesAfter nodesAfter p.nodes ready.known v
          → ResponseTold (by_answers text r) ready.known text placesAfter nodesAfter ready.forms p
          (record { number = v.number; place = offset; rows = v.rows })
      go (refused number place) (e, f) = (e, at ∙ rw (e, f))
      go (bodies bs) (e, held) = (e, held, done.grammars_hold)
