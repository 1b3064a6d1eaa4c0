-- What the tables of a text that is read whole keep to.
use Prim.Native.Nat.{ℕ, ◌+◌, ◌*◌, ◌<◌}
use native.Mathlib.Omega.{arith}
use mathlib.Core.Path.{◌≡◌, refl, sym, ◌∙◌}
use mathlib.Core.List.{List}
use lib.ListN.{drop, length}
use Rattle.forest.proofs.Lists.{stands}
use Rattle.forest.proofs.Rows.{length_rows}
use Rattle.words.specs.declared.Limits.{Limits}
use Rattle.std.specs.Prelude.{Ok}
use Rattle.words.specs.Reading.{reading_of}
use Rattle.words.specs.Table.{entries}
use Rattle.words.specs.Trees.{bytes_of}
use Rattle.words.specs.Words.{Word, words_of}
use Rattle.words.proofs.Chains.{entries_long}
use Rattle.lexemes.specs.code.Standing.{Source, all_of}
use Rattle.lexemes.specs.code.Table.{code_at, lexeme_row, lexeme_table, row_width as lexemeWidth}
use Rattle.lexemes.proofs.Said.{Saying, say}
use Rattle.lexemes.proofs.Standing.{coded}
use Rattle.lexemes.proofs.WholeText.{whole_count}
use Rattle.term_faults.specs.code.Bodies.{Lawful}
use Rattle.term_faults.proofs.Bounds.{Kept, word_kept}

-- What is known of a word that has a code.
record Known (source : Source) (i : ℕ) : Type 0 where
  word : Word
  later : List Word
  says : Saying source i word later
  kept : Kept (bytes_of source.text word) word.kind

module _ (limits : Limits) (text : List ℕ) (n : ℕ) (whole : reading_of limits text ≡ Ok n) where
  -- the tables of a text that is read whole keep to their bounds
  pub text_lawful : Lawful (all_of text) n
  unfolding lexeme_table
  text_lawful =
      record {
        bounded = record {
          numerals = λ i e. let k = known i (omega arith) in rw k.says.value (k.kept.low (sym k.says.code ∙ e));
          fit = λ i e. let k = known i (omega arith) in rw (k.says.width, k.says.value) (k.kept.fits (sym k.says.code ∙ e));
        };
        short = λ i h. let k = known i (omega arith) in rw k.says.bytes (k.kept.short (rw k.says.code at h));
        ends = λ i h. omega (arith, inside i h, whole_count limits text n whole);
      }
    where
      lexemes : List ℕ
      lexemes = lexeme_table text (words_of text)

      inside : (i : ℕ) → 0 < code_at lexemes i → i < length (words_of text)
      inside i h =
          let rows = entries (words_of text) 0 in
          let long : length lexemes ≡ lexemeWidth * length rows = length_rows (lexeme_row text) lexemeWidth (λ e. refl) rows in
          omega (arith, coded lexemes i h, entries_long (words_of text) 0)

      known : (i : ℕ) → 0 < code_at lexemes i → Known (all_of text) i
      known i h =
          let st = stands (words_of text) i (inside i h) in
          record {
            word = st.here;
            later = drop (i + 1) (words_of text);
            says = say text i st.here _ st.is;
            kept = word_kept text i st.here _ st.is;
          }
