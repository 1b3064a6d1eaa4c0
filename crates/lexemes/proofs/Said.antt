-- What the tables of a text say of a word.
use Prim.Native.Nat.{ℕ, zero, suc, ◌+◌, ◌≤◌, ◌<◌}
use native.Mathlib.Nat.{le_of_lt, zero-add}
use native.Mathlib.Omega.{arith}
use mathlib.Core.Path.{◌≡◌, refl, sym, ◌∙◌}
use mathlib.Core.Bool.{Bool, true, false, cond}
use mathlib.Core.List.{List, [], ◌∷◌, ◌++◌, append-nil, map}
use lib.ListN.{drop, get_or, length}
use Rattle.forest.specs.code.Rows.{number_at}
use Rattle.forest.proofs.Lists.{drop_map, within}
use Rattle.forest.proofs.Rows.{row_at}
use Rattle.words.specs.Spans.{comment_after, in_run, starts, starts_from, word_starts}
use Rattle.words.specs.Table.{Entry, entries, next_of, row, row_width as wordWidth, value_of, width_of, word_table}
use Rattle.words.specs.Trees.{bytes_of}
use Rattle.words.specs.Words.{Word, word_at, words_of}
use Rattle.words.proofs.Chains.{entries_drop, wide}
use Rattle.words.proofs.Offsets.{end_past, end_within}
use Rattle.lexemes.specs.code.Standing.{Source, all_of, spelt}
use Rattle.lexemes.specs.code.Table.{code_at, kind_code, lexeme_row, lexeme_table, next_at, row_width, value_at, width_at}

-- ---- a word of a text

-- every word starts within its text
starts_within : (s : List ℕ) (i : ℕ) (comment run : Bool) (k a : ℕ) (more : List ℕ) → drop k (starts_from s i comment run) ≡ a ∷ more → a < i + length s
unfolding starts_from
starts_within [] i comment run k a more e = let z = within [] k a more e in absurd (omega arith)
starts_within (b ∷ s) i comment run k a more e =
    go (starts comment run b) k (λ j. starts_within s (i + 1) (comment_after comment b) (in_run comment b) j a more) e
  where
    later : List ℕ
    later = starts_from s (i + 1) (comment_after comment b) (in_run comment b)

    go : (t : Bool) (k : ℕ) → ((j : ℕ) → drop j later ≡ a ∷ more → a < i + 1 + length s) → drop k (cond t (i ∷ later) later) ≡ a ∷ more → a < i + suc (length s)
    go true zero r e = let q : i ≡ a = cc in omega arith
    go true (suc k) r e = let h = r k e in omega arith
    go false k r e = let h = r k e in omega arith

-- where a word of a text starts
pub record Found (text : List ℕ) (w : Word) : Type 0 where
  pub start : ℕ
  pub is : w ≡ word_at text start
  pub inside : start < length text

-- a word of a text starts within it
pub found : (text : List ℕ) (i : ℕ) (w : Word) (more : List Word) → drop i (words_of text) ≡ w ∷ more → Found text w
unfolding words_of word_starts
found text i w more e = go (drop i (word_starts text)) refl (sym (drop_map (word_at text) i (word_starts text)) ∙ e)
  where
    go : (l : List ℕ) → drop i (word_starts text) ≡ l → map (word_at text) l ≡ w ∷ more → Found text w
    go [] e h = let z : ◌≡◌ {A = ℕ} 0 1 = cc in absurd (omega arith)
    go (a ∷ l) e h = record { start = a; is = cc; inside = omega (arith, starts_within text 0 false false i a l e) }

-- the place of a word in its text
pub part_fits : (text : List ℕ) (i : ℕ) (w : Word) (more : List Word) → drop i (words_of text) ≡ w ∷ more → (w.start ≤ w.end) × (w.end ≤ length text)
unfolding word_at
part_fits text i w more e =
    let f = found text i w more e in
    rw f.is (le_of_lt (end_past text f.start _ refl), end_within text f.start _ refl f.inside)

-- ---- the rows of word i

module _ (text : List ℕ) (i : ℕ) (w : Word) (later : List Word) (here : drop i (words_of text) ≡ w ∷ later) where
  -- the word with the index past it
  abbrev pub entry_of : Entry
  entry_of = record { word = w; next = next_of w later i }

  -- it stands among the entries of the text
  pub entry_here : drop i (entries (words_of text) 0) ≡ entry_of ∷ entries later (i + 1)
  unfolding entries
  entry_here = entries_drop (words_of text) 0 i ∙ rw (zero-add, here)

  -- number `column` of the word's row in the word table
  pub word_says : {words : List ℕ} (rest : List ℕ) → words ≡ word_table (words_of text) ++ rest → (column : ℕ) → column < wordWidth
      → number_at wordWidth words i column ≡ get_or (row entry_of) column 0
  unfolding word_table
  word_says rest is column h = rw is (row_at row wordWidth wide (entries (words_of text) 0) rest i column entry_of _ entry_here h)

  -- number `column` of the word's row in the table of lexemes
  pub lexeme_says : {lexemes : List ℕ} (rest : List ℕ) → lexemes ≡ lexeme_table text (words_of text) ++ rest → (column : ℕ) → column < row_width
      → number_at row_width lexemes i column ≡ get_or (lexeme_row text entry_of) column 0
  unfolding lexeme_table
  lexeme_says rest is column h = rw is (row_at (lexeme_row text) row_width (λ e. refl) (entries (words_of text) 0) rest i column entry_of _ entry_here h)

-- what the table of lexemes says of word i
pub record Saying (source : Source) (i : ℕ) (w : Word) (later : List Word) : Type 0 where
  pub code : code_at source.lexemes i ≡ kind_code w.kind (bytes_of source.text w)
  pub next : next_at source.lexemes i ≡ next_of w later i
  pub value : value_at source.lexemes i ≡ value_of w.kind
  pub width : width_at source.lexemes i ≡ width_of w.kind
  pub bytes : spelt source i ≡ bytes_of source.text w

-- the table of lexemes says that of each word of its text
pub say : (text : List ℕ) (i : ℕ) (w : Word) (later : List Word) → drop i (words_of text) ≡ w ∷ later → Saying (all_of text) i w later
say text i w later here =
    let said = lexeme_says text i w later here [] (sym (append-nil (lexeme_table text (words_of text)))) in
    record {
      code = said 0 (omega arith);
      next = said 1 (omega arith);
      value = said 2 (omega arith);
      width = said 5 (omega arith);
      bytes = rw (said 3 (omega arith), said 4 (omega arith));
    }
