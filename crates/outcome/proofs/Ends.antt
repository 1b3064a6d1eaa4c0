-- The end that an answer carries is that of a word of its text, as the reader of words has it, or the text's.
use Prim.Native.Nat.{ℕ, zero, suc, ◌+◌, ◌-◌, ◌≤◌, ◌<◌}
use native.Mathlib.Omega.{arith}
use mathlib.Core.Bool.{Bool, true, false, cond, ◌||◌}
use mathlib.Core.List.{List, [], ◌∷◌, map}
use mathlib.Core.Path.{◌≡◌, refl, subst⁻¹}
use borrow.Author.Tests.{eq-eqb, ne_eqb}
use lib.Dec.{eqb}
use lib.ListN.{drop, length, length-drop}
use lib.Seq.{length-take-le}
use Rattle.forest.specs.Lists.{among}
use Rattle.forest.proofs.Bools.{apart}
use Rattle.words.specs.Positions.{end_of}
use Rattle.words.specs.Spans.{comment_after, in_run, starts, starts_from, word_end, word_starts}
use Rattle.words.specs.Words.{bytes_at, enquired, word_at, words_of}
use Rattle.words.proofs.Offsets.{end_past, end_within}
use Rattle.script.specs.Outcome.{start_of}
use Rattle.script.specs.Rows.{AtWord, ResponseRow, ScriptRow, TextRow, bad_name, bad_word, closed_too_often, ends_early, fail, grammar-fault, header-differs}
use Rattle.script.specs.Rows.{infeasible, name_taken, never_closed, not_carried, past_limit, shape_unknown, sort_fault, too_long}
use Rattle.outcome.specs.Checked.{Checked}
use Rattle.outcome.specs.Located.{EndAt, carries, located, of_text, of_word, spoken_of}
use Rattle.outcome.specs.Table.{AnswerRow, accepted, bad_points, budget_ended, constraint_false, no_derivation, of_response, of_script}
use Rattle.outcome.specs.declared.Outcome.{Outcome}
use Rattle.outcome.proofs.Table.{table}

-- No word starts behind the bytes that are left.
none_behind : (u : List ℕ) (i : ℕ) (comment run : Bool) (at : ℕ) → i + length u ≤ at → among at (starts_from u i comment run) ≡ false
unfolding starts_from
none_behind [] i comment run at h = refl
none_behind (b ∷ u) i comment run at h = go (starts comment run b) (none_behind u (i + 1) (comment_after comment b) (in_run comment b) at (omega arith))
  where
    later : List ℕ
    later = starts_from u (i + 1) (comment_after comment b) (in_run comment b)

    go : (t : Bool) → among at later ≡ false → among at (cond t (i ∷ later) later) ≡ false
    go true r = rw (ne_eqb at i (λ e. omega arith)) r
    go false r = r

-- At the end of a text the end is the text's length.
pub text_ends : (text : List ℕ) → end_of text (length text) ≡ length text
unfolding end_of enquired word_starts
text_ends text = rw (none_behind text 0 false false (length text) (omega arith)) (omega arith)

-- Where a word starts, the end is the word's.
pub word_ends : (text : List ℕ) (place : ℕ) → place < length text → among place (word_starts text) ≡ true → end_of text place ≡ word_end text place
unfolding end_of enquired bytes_at
word_ends text place h t =
    let past = end_past text place (word_end text place) refl in
    let within = end_within text place (word_end text place) refl h in
    let left = length-drop place text in
    let long = length-take-le (word_end text place - place) (drop place text) (omega arith) in
    rw t (omega arith)

-- What holds of the later test holds of either.
or_later : (a : Bool) {b : Bool} → b ≡ true → a || b ≡ true
or_later true h = refl
or_later false h = h

-- The offset of a word is one at which a word starts.
offset_starts : (text ss : List ℕ) (past n : ℕ) → n < length (map (word_at text) ss) → among (start_of past (map (word_at text) ss) n) ss ≡ true
unfolding start_of word_at
offset_starts text [] past n h = absurd (omega arith)
offset_starts text (a ∷ ss) past zero h = rw (eq-eqb a a refl) refl
offset_starts text (a ∷ ss) past (suc n) h = or_later (eqb (start_of past (map (word_at text) ss) n) a) (offset_starts text ss past n (omega arith))

-- At the place of a word the end is the word's.
of_place : {text : List ℕ} {place : ℕ} → AtWord text place → EndAt text place (end_of text place)
unfolding words_of word_at
of_place {text} {place} w =
    let starts = subst⁻¹ (λ (p : ℕ). among p (word_starts text) ≡ true) w.is (offset_starts text (word_starts text) (length text) w.word w.known) in
    subst⁻¹ (EndAt text place) (word_ends text place w.within starts) (of_word starts)

-- At the end of a text it is the text's.
of_length : {text : List ℕ} → EndAt text (length text) (end_of text (length text))
of_length {text} = subst⁻¹ (EndAt text (length text)) (text_ends text) (of_text refl)

-- A row of both texts.
text_row_ends : {text : List ℕ} {number place : ℕ} → TextRow text number place → carries number ≡ true → EndAt text place (end_of text place)
text_row_ends too_long t = apart t
text_row_ends (bad_word w) t = of_place w
text_row_ends (closed_too_often w) t = of_place w
text_row_ends never_closed t = of_length
text_row_ends (past_limit w) t = of_place w
text_row_ends (shape_unknown w) t = of_place w
text_row_ends ends_early t = of_length
text_row_ends (not_carried w) t = of_place w
text_row_ends (bad_name w) t = of_place w
text_row_ends (sort_fault w) t = of_place w

-- One of a script.
script_row_ends : {text : List ℕ} {number place second : ℕ} → ScriptRow text number place second → carries number ≡ true → EndAt text place (end_of text place)
script_row_ends (ScriptRow.of_text r) t = text_row_ends r t
script_row_ends (grammar-fault w) t = of_place w
script_row_ends (name_taken w u h) t = of_place w

-- One of a response.
response_row_ends : {text : List ℕ} {number place : ℕ} → ResponseRow text number place → carries number ≡ true → EndAt text place (end_of text place)
response_row_ends (ResponseRow.of_text r) t = text_row_ends r t
response_row_ends fail t = apart t
response_row_ends infeasible t = apart t
response_row_ends (header-differs w) t = of_place w

-- A row of the table of answers.
row_ends : {script response points area : List ℕ} {o : Outcome} → AnswerRow script response points area o → carries o.number ≡ true
    → EndAt (spoken_of script response o) o.place (located script response o).end
unfolding located
row_ends (accepted s g h) t = apart t
row_ends (AnswerRow.too_long l) t = apart t
row_ends (of_script r) t = rw t (script_row_ends r t)
row_ends (of_response r) t = rw t (response_row_ends r t)
row_ends (no_derivation s w f) t = of_place w
row_ends (constraint_false s n) t = apart t
row_ends (budget_ended s g p n) t = apart t
row_ends (bad_points s e l) t = apart t

-- "each word's end" (E6): what is carried is the end of the word at the place, or the text's length at its end.
pub carried_end : {script response points : List ℕ} {budget : ℕ} {area : List ℕ} {o : Outcome} {a w : List ℕ} → Checked script response points budget area o a w
    → carries o.number ≡ true → EndAt (spoken_of script response o) o.place (located script response o).end
carried_end c = row_ends (table c)
