-- A script, from its bytes.
use Prim.Native.Nat.{ℕ, ◌*◌}
use native.Mathlib.Omega.{arith}
use mathlib.Core.Path.{◌≡◌, refl, ap}
use mathlib.Core.List.{List}
use lib.ListN.{take}
use borrow.Author.Tests.{ne_eqb}
use Rattle.words.specs.Reading.{reading_of}
use Rattle.words.specs.Answers.{Reading, number_of, place_of}
use Rattle.words.specs.Limits.{script_limits}
use Rattle.std.specs.Prelude.{Ok, Err}
use Rattle.lexemes.specs.code.Table.{row_width as lexemeWidth}
use Rattle.lexemes.specs.Lists.{items_of}
use Rattle.lexemes.proofs.WholeText.{text_stands}
use Rattle.term_faults.proofs.Texts.{text_lawful}
use Rattle.forest.specs.Limits.{allowed}
use Rattle.script.specs.Script.{Read, passed, read_all, refused, nothing_known}
use Rattle.script_reader.specs.code.Commands.{Reads}
use Rattle.script_reader.specs.code.Scripts.{ScriptAt, ScriptRead as CommandsRead}
use Rattle.script_reader.specs.declared.Step.{Step}
use Rattle.script.specs.Outcome.{by_commands, offset_of, script_outcome, second_of}
use Rattle.term_nodes.specs.code.Table.{row_width as rawWidth}
use Rattle.texts.specs.code.Texts.{RowEach}
use Rattle.texts.specs.code.Scripts.{Lent, ScriptRead, ScriptTold, in_offsets}
use Rattle.texts.specs.code.Lexed.{Worded}
use Rattle.texts.proofs.TextLexemes.{only_lexemes}

-- a second number that speaks of no word
pub second_none : (text : List ℕ) {word : ℕ} → word ≡ 0 → 0 ≡ second_of text word
second_none text e = rw e

-- one that speaks of a word
pub second_there : (text : List ℕ) {word : ℕ} → (word ≡ 0 → ⊥) → {r : ℕ} → r ≡ offset_of text word → r ≡ second_of text word
second_there text {word} some e = rw (ne_eqb word 0 some) e

-- a word is refused
pub words_refused : {text names places nodes forms : List ℕ} (r : Reading) {s : Step} → r ≡ reading_of script_limits text → (number_of r ≡ 0 → ⊥)
    → (s.number ≡ number_of r) × (s.place ≡ place_of r) × (s.second ≡ 0) → ScriptRead text names places nodes forms s
unfolding script_outcome
words_refused (Ok n) e some told = absurd (some refl)
words_refused (Err refusal) e some told = record { told = rw (← e) told }

module _ {text lexemes names raw places nodes forms : List ℕ} {n : ℕ} (w : Worded script_limits text lexemes n) (lent : Lent text names places nodes forms)
    (raw_room : RowEach script_limits text rawWidth raw) where
  -- what the reading of commands asks
  abbrev pub script_at : ScriptAt text (take (lexemeWidth * n) lexemes) names raw places nodes forms n
  script_at =
      record {
        items = items_of text;
        stands = rw (only_lexemes w) (text_stands script_limits text n w.whole);
        lawful = rw (only_lexemes w) (text_lawful script_limits text n w.whole);
        few = w.few;
        table = lent.table;
        long = lent.long;
        roomy = record {
          raw_room = raw_room.room n w.few w.short;
          nodes_room = lent.nodes_room.room n w.few w.short;
          forms_room = lent.forms_room.room n w.few w.short;
        };
      }

  -- the commands are read
  pub commands_told : {namesAfter placesAfter nodesAfter formsAfter : List ℕ} {s placed : Step}
      → CommandsRead script_at namesAfter placesAfter nodesAfter formsAfter s → placed ≡ in_offsets text s
      → ScriptRead text namesAfter placesAfter nodesAfter formsAfter placed
  unfolding script_outcome
  commands_told {namesAfter} {placesAfter} {nodesAfter} {formsAfter} {s} done at =
      rw at (record { told = rw w.whole (go (read_all allowed n nothing_known (items_of text)) done.reads) })
    where
      go : (r : Read) → Reads r namesAfter placesAfter nodesAfter formsAfter s
          → ScriptTold (by_commands text r) text namesAfter placesAfter nodesAfter formsAfter (in_offsets text s)
      go (refused number place second) (e, f, g) = (e, ap (offset_of text) f, ap (second_of text) g)
      go (passed k) (e, held) = let within = done.nodes_within e in (e, held, omega (arith, within, w.few), omega (arith, within, w.short))
