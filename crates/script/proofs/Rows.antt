-- What is refused in a text keeps to a row of the table of answers.
use Prim.Native.Nat.{ℕ, zero, suc, ◌+◌, ◌≤◌, ◌<◌, min}
use native.Mathlib.Omega.{arith}
use mathlib.Core.Path.{◌≡◌, refl, subst, sym, ap}
use mathlib.Core.Bool.{Bool, true, false, cond, ◌&&◌, ◌||◌, not}
use mathlib.Core.List.{List, [], ◌∷◌, map}
use borrow.Author.Tests.{eqb-false, ltb-true}
use lib.Dec.{eqb, leb, ltb}
use lib.ListN.{drop, length, length-map}
use Rattle.forest.specs.Forest.{none, tree}
use Rattle.forest.specs.Limits.{Counts, allowed}
use Rattle.forest.proofs.Lists.{drop_more, stands, within}
use Rattle.word_kinds.specs.declared.Fault.{Fault}
use Rattle.word_kinds.specs.declared.Fault.TheVariants.{BadWord, Bracket, NotCarried, PastLimit}
use Rattle.word_kinds.specs.declared.Kind.{Kind}
use Rattle.words.specs.Reading.{close_fault, depth_after, fault_at, found_from, found_there, lesser, limit_fault, own_fault, reading_of}
use Rattle.words.specs.Spans.{comment_after, in_run, starts, starts_from, word_starts}
use Rattle.words.specs.Words.{Word, word_at, words_of}
use Rattle.words.specs.Table.{closes as closing, opens as opening}
use Rattle.words.specs.Answers.{Reading, fault_number}
use Rattle.words.specs.Limits.{script_limits}
use Rattle.words.specs.declared.Limits.{Limits}
use Rattle.std.specs.Prelude.{Option, None, Some, Ok, Err}
use Rattle.words.specs.declared.Refusal.{Refusal}
use Rattle.lexemes.specs.Lists.{Items, inside, is, is_list, item, items_of}
use Rattle.lexemes.proofs.Said.{found}
use Rattle.lexemes.proofs.WholeText.{text_stands, whole_count}
use Rattle.shapes.specs.Carried.{any_uncarried, is_not_carried}
use Rattle.shapes.specs.Shapes.{command_shape, define_fun_shape}
use Rattle.headers.specs.Tokens.{differing, header_of, header_tokens, words_in}
use Rattle.headers.specs.Heads.{header_past}
use Rattle.term_faults.specs.Faults.{body_fault}
use Rattle.names.specs.Scopes.{Defined, Function}
use Rattle.names.proofs.Taken.{earlier_found}
use Rattle.script.specs.Limits.{node_past}
use Rattle.script.specs.Naming.{term_names}
use Rattle.script.specs.Script.{Known, Read, and_then, earlier_place, grammar_place, judged, limit_place, name_place, out_of_place, passed, read_all, refused}
use Rattle.script.specs.Script.{nothing_known, sorting_place, tested}
use Rattle.script.specs.Response.{Answered, Body, answered, bodies, nothing_behind, in_script_order, is_alone, judged_all, judged_body, judged_extra}
use Rattle.script.specs.Response.{refused as declined, response_view, with_body}
use Rattle.script.specs.Outcome.{ResponseOutcome, ScriptOutcome, by_answers, by_commands, by_response, by_words, given, offset_of, response_within, said}
use Rattle.script.specs.Outcome.{script_outcome, second_of, start_of}
use Rattle.script.specs.Rows.{AtWord, ResponseRow, ScriptRow, TextRow, bad_name, bad_word, closed_too_often, ends_early, fail, grammar-fault, header-differs}
use Rattle.script.specs.Rows.{infeasible, name_taken, never_closed, not_carried, past_limit, shape_unknown, sort_fault, too_long}
use Rattle.script.proofs.WordFaults.{OwnFault, OwnKind, a_keyword, a_literal, a_numeral, a_symbol, closes, faulty, kind_own, opens}
use Rattle.script.proofs.WordsBelow.{Below, item_below, stands_below}
use Rattle.script.specs.code.Answers.{fail_answer, infeasible_answer, name_answer, shape_answer}

-- Where the row holds of what a test takes, by the test, and of what else is taken, it holds of what is taken.
either : {A : Type 0} (Row : A → Type 0) {a b : A} (t : Bool) → (t ≡ true → Row a) → Row b → Row (cond t a b)
either Row true p q = p refl
either Row false p q = q

-- ---- places

-- the offset of a word that is there
start_there : (past : ℕ) (ws : List Word) (i : ℕ) (w : Word) (later : List Word) → drop i ws ≡ w ∷ later → start_of past ws i ≡ w.start
unfolding start_of
start_there past [] zero w later e = let z : ◌≡◌ {A = ℕ} 0 1 = cc in absurd (omega arith)
start_there past [] (suc i) w later e = let z : ◌≡◌ {A = ℕ} 0 1 = cc in absurd (omega arith)
start_there past (v ∷ ws) zero w later e = let q : v ≡ w = cc in rw q
start_there past (v ∷ ws) (suc i) w later e = start_there past ws i w later e

-- and of one past the last
start_past : (past : ℕ) (ws : List Word) (i : ℕ) → length ws ≤ i → start_of past ws i ≡ past
unfolding start_of
start_past past [] i h = refl
start_past past (w ∷ ws) zero h = absurd (omega arith)
start_past past (w ∷ ws) (suc i) h = start_past past ws i (omega arith)

-- a word of a text starts within it
starts_within : (text : List ℕ) (i : ℕ) (w : Word) (later : List Word) → drop i (words_of text) ≡ w ∷ later → w.start < length text
unfolding word_at
starts_within text i w later here =
    let f = found text i w later here in
    omega (arith, ap (λ (v : Word). v.start) f.is, f.inside)

-- the offset of a word is a place at a word
at_word : (text : List ℕ) (i : ℕ) → i < length (words_of text) → AtWord text (offset_of text i)
at_word text i h =
    let st = stands (words_of text) i h in
    let start = start_there (length text) (words_of text) i st.here _ st.is in
    record { word = i; known = h; is = refl; within = omega (arith, start, starts_within text i st.here _ st.is) }

-- The offset of word n of those that start so.
abbrev start_in : (text : List ℕ) → (past : ℕ) → (ss : List ℕ) → (n : ℕ) → ℕ
start_in text past ss n = start_of past (map (word_at text) ss) n

-- words start at or behind the first of the bytes
starts_after : (text u : List ℕ) (i : ℕ) (comment run : Bool) (past n : ℕ) → n < length (starts_from u i comment run)
    → i ≤ start_in text past (starts_from u i comment run) n
unfolding start_of starts_from word_at
starts_after text [] i comment run past n h = absurd (omega arith)
starts_after text (b ∷ u) i comment run past n h =
    go (starts comment run b) n h (λ m below. starts_after text u (i + 1) (comment_after comment b) (in_run comment b) past m below)
  where
    later : List ℕ
    later = starts_from u (i + 1) (comment_after comment b) (in_run comment b)

    go : (t : Bool) (n : ℕ) → n < length (cond t (i ∷ later) later) → ((m : ℕ) → m < length later → i + 1 ≤ start_in text past later m)
        → i ≤ start_in text past (cond t (i ∷ later) later) n
    go true zero h after = omega arith
    go true (suc n) h after = omega (arith, after n (omega arith))
    go false n h after = omega (arith, after n h)

-- and the later the word, the later it starts
starts_rise : (text u : List ℕ) (i : ℕ) (comment run : Bool) (past m n : ℕ) → m < n → n < length (starts_from u i comment run)
    → start_in text past (starts_from u i comment run) m < start_in text past (starts_from u i comment run) n
unfolding start_of starts_from word_at
starts_rise text [] i comment run past m n l h = absurd (omega arith)
starts_rise text (b ∷ u) i comment run past m n l h =
    go (starts comment run b) m n l h (λ j k. starts_rise text u (i + 1) (comment_after comment b) (in_run comment b) past j k)
  where
    later : List ℕ
    later = starts_from u (i + 1) (comment_after comment b) (in_run comment b)

    go : (t : Bool) (m n : ℕ) → m < n → n < length (cond t (i ∷ later) later)
        → ((j k : ℕ) → j < k → k < length later → start_in text past later j < start_in text past later k)
        → start_in text past (cond t (i ∷ later) later) m < start_in text past (cond t (i ∷ later) later) n
    go true m zero l h rise = absurd (omega arith)
    go true zero (suc n) l h rise = omega (arith, starts_after text u (i + 1) (comment_after comment b) (in_run comment b) past n (omega arith))
    go true (suc m) (suc n) l h rise = rise m n (omega arith) (omega arith)
    go false m n l h rise = rise m n l h

-- an earlier word of a text has a lesser offset
pub words_rise : (text : List ℕ) (i j : ℕ) → i < j → j < length (words_of text) → offset_of text i < offset_of text j
unfolding word_starts words_of
words_rise text i j l h = starts_rise text text 0 false false (length text) i j l (omega (arith, length-map (word_starts text) (word_at text)))

-- ---- words

-- A fault that a word of a text may have.
data OfWord : Option Fault → Type 0 where
  none_there : OfWord None
  bad : OfWord (Some BadWord)
  bracket : OfWord (Some Bracket)
  limit : OfWord (Some PastLimit)
  uncarried : OfWord (Some NotCarried)

-- a fault by its own bytes
own-fault : {fault : Fault} → OwnFault fault → OfWord (Some fault)
own-fault OwnFault.bad_word = bad
own-fault OwnFault.past_limit = limit
own-fault OwnFault.not_carried = uncarried

own_of : {kind : Kind} → OwnKind kind → OfWord (own_fault kind)
own_of opens = none_there
own_of closes = none_there
own_of a_numeral = none_there
own_of a_literal = none_there
own_of a_symbol = none_there
own_of a_keyword = none_there
own_of (faulty o) = own-fault o

-- the lesser of two
lesser_of : (a b : Option Fault) → OfWord a → OfWord b → OfWord (lesser a b)
lesser_of None b p q = q
lesser_of (Some a) None p q = p
lesser_of (Some a) (Some b) p q = either (λ (f : Fault). OfWord (Some f)) (leb (fault_number a) (fault_number b)) (λ t. p) q

-- a fault of a word
fault_of : (limits : Limits) (kind : Kind) (n depth : ℕ) → OwnKind kind → OfWord (fault_at limits kind n depth)
unfolding fault_at
fault_of limits kind n depth own =
    lesser_of (own_fault kind) _ (own_of own)
    (lesser_of (close_fault kind depth) (limit_fault limits kind n depth)
    (either OfWord (closing kind && eqb depth 0) (λ t. bracket) none_there)
    (either OfWord (leb limits.words n || opening kind && leb limits.nesting depth) (λ t. limit) none_there))

-- the row of a fault of a word
fault_row : (text : List ℕ) {fault : Fault} {place : ℕ} → OfWord (Some fault) → AtWord text place → TextRow text (fault_number fault) place
fault_row text bad a = bad_word a
fault_row text bracket a = closed_too_often a
fault_row text limit a = past_limit a
fault_row text uncarried a = not_carried a

-- What is found in the words of a text: all is well, or a row.
pub data ReadingRow (text : List ℕ) : Reading → Type 0 where
  whole : {n : ℕ} → ReadingRow text (Ok n)
  refuses : {refusal : Refusal} → TextRow text (fault_number refusal.fault) refusal.place → ReadingRow text (Err refusal)

-- from word i on
found_row : (limits : Limits) (text : List ℕ) (ws : List Word) (i depth : ℕ) → drop i (words_of text) ≡ ws
    → ReadingRow text (found_from limits (length text) ws i depth)
unfolding found_from word_at
found_row limits text [] i depth here = either (ReadingRow text) (eqb depth 0) (λ t. whole) (refuses never_closed)
found_row limits text (w ∷ ws) i depth here =
    let f = found text i w ws here in
    let own : OwnKind w.kind = rw f.is (kind_own _) in
    let start = start_there (length text) (words_of text) i w ws here in
    let there = subst (AtWord text) start (at_word text i (within (words_of text) i w ws here)) in
    go (fault_at limits w.kind i depth) (fault_of limits w.kind i depth own) there
    (found_row limits text ws (i + 1) (depth_after w.kind depth) (drop_more (words_of text) i w ws here))
  where
    go : (f : Option Fault) → OfWord f → AtWord text w.start → {later : Reading} → ReadingRow text later → ReadingRow text (found_there f w.start i later)
    go None o a r = r
    go (Some fault) o a r = refuses (fault_row text o a)

-- a text
pub reading_row : (limits : Limits) (text : List ℕ) → ReadingRow text (reading_of limits text)
unfolding reading_of
reading_row limits text =
    either (ReadingRow text) (leb (length text) limits.bytes) (λ t. found_row limits text (words_of text) 0 0 refl) (refuses too_long)

-- ---- commands of a script

-- What is found in the commands of a script: they pass, or a row.
data ReadRow (text : List ℕ) : Read → Type 0 where
  passes : {k : Known} → ReadRow text (passed k)
  refuses : {number place second : ℕ} → ScriptRow text number (offset_of text place) (second_of text second) → ReadRow text (refused number place second)

-- what follows a command
then_row : (text : List ℕ) (r : Read) (next : Known → Read) → ReadRow text r → ((k : Known) → ReadRow text (next k)) → ReadRow text (and_then r next)
then_row text (refused number place second) next p q = p
then_row text (passed k) next p q = q k

module _ (text : List ℕ) (nowhere : ℕ) (all : nowhere ≡ length (words_of text)) where
  -- a word of the text
  there : (i : ℕ) → i < nowhere → AtWord text (offset_of text i)
  there i h = at_word text i (omega (arith, all))

  -- a word that a test has found
  tested_there : (i : ℕ) → ltb i nowhere ≡ true → AtWord text (offset_of text i)
  tested_there i t = there i (ltb-true i nowhere t)

  -- the end of the text
  at_end : length text ≡ offset_of text nowhere
  at_end = sym (start_past (length text) (words_of text) nowhere (omega (arith, all)))

  -- a name at fault, and the earlier declaration of one that is taken
  name-row : (k : Known) (c : Items) (w : ℕ) → ltb w nowhere ≡ true → ReadRow text (refused name_answer w (earlier_place k c w))
  name-row k c w t = refuses (go (eqb (earlier_place k c w) 0) refl)
    where
      go : (none : Bool) → eqb (earlier_place k c w) 0 ≡ none
          → ScriptRow text name_answer (offset_of text w) (cond none 0 (offset_of text (earlier_place k c w)))
      go true e = ScriptRow.of_text (bad_name (tested_there w t))
      go false e =
          let below = ltb-true w nowhere t in
          let some : 0 < earlier_place k c w = let ne = eqb-false (earlier_place k c w) 0 e in omega arith in
          let declaration = (earlier_found _ _ w some).declaration in
          let before : earlier_place k c w < w = omega (arith, declaration.is, declaration.before) in
          name_taken (there w below) (there (earlier_place k c w) (omega arith)) (words_rise text (earlier_place k c w) w before (omega (arith, all)))

  -- one command
  command_row : (counts : Counts) (k : Known) (at : ℕ) (c : Items) (after : Known) → at < nowhere → ReadRow text (judged counts nowhere k at c after)
  unfolding judged tested
  command_row counts k at c after h =
      either (ReadRow text) (is_not_carried k.weights c) (λ t. refuses (ScriptRow.of_text (not_carried (there at h))))
      (either (ReadRow text) (not (command_shape c) || out_of_place k c) (λ t. refuses (ScriptRow.of_text (shape_unknown (there at h))))
      (either (ReadRow text) (ltb (limit_place counts nowhere k at c) nowhere) (λ t. refuses (ScriptRow.of_text (past_limit (tested_there _ t))))
      (either (ReadRow text) (ltb (name_place nowhere k c) nowhere) (λ t. name-row k c _ t)
      (either (ReadRow text) (ltb (sorting_place nowhere k c) nowhere) (λ t. refuses (ScriptRow.of_text (sort_fault (tested_there _ t))))
      (either (ReadRow text) (ltb (grammar_place nowhere k c) nowhere) (λ t. refuses (grammar-fault (tested_there _ t))) passes)))))

  -- all commands
  all-rows : (counts : Counts) (k : Known) (items : Items) → Below nowhere items → ReadRow text (read_all counts nowhere k items)
  unfolding read_all Below
  all-rows counts k none b =
      either (ReadRow text) k.ended (λ t. passes) (refuses (ScriptRow.of_text (subst (TextRow text shape_answer) at_end ends_early)))
  all-rows counts k (tree l c more) b =
      either (ReadRow text) (is_list l)
      (λ t. then_row text _ _ (command_row counts k _ c _ b.0.first) (λ later. all-rows counts later more b.2))
      (refuses (ScriptRow.of_text (shape_unknown (there _ b.0.first))))

-- A script: it passes, or it is refused by a row.
pub data ScriptKept (text : List ℕ) : ScriptOutcome → Type 0 where
  refuses : {number place second : ℕ} → ScriptRow text number place second → ScriptKept text (ScriptOutcome.faulty number place second)
  says : {k : Known} → ScriptKept text (said k)

-- every script
pub script_kept : (text : List ℕ) → ScriptKept text (script_outcome text)
unfolding script_outcome
script_kept text = go (reading_of script_limits text) refl (reading_row script_limits text)
  where
    by : (r : Read) → ReadRow text r → ScriptKept text (by_commands text r)
    by (refused number place second) (refuses row) = refuses row
    by (passed k) passes = says

    go : (r : Reading) → reading_of script_limits text ≡ r → ReadingRow text r → ScriptKept text (by_words text r)
    go (Ok n) e whole =
        by _ (all-rows text n (whole_count script_limits text n e) allowed nothing_known (items_of text)
        (stands_below n (text_stands script_limits text n e) (omega arith)))
    go (Err refusal) e (refuses row) = refuses (ScriptRow.of_text row)

-- ---- commands of a response

-- The first words of bodies are words of the text.
pub data FirstWords (text : List ℕ) : List Body → Type 0 where
  no_more : FirstWords text []
  also : {b : Body} {bs : List Body} → AtWord text (offset_of text b.first) → FirstWords text bs → FirstWords text (b ∷ bs)

-- What is found in the commands of a response: bodies, or a row.
data AnsweredRow (text : List ℕ) : Answered → Type 0 where
  gives : {bs : List Body} → FirstWords text bs → AnsweredRow text (bodies bs)
  declines : {number place : ℕ} → ResponseRow text number (cond (eqb number fail_answer || eqb number infeasible_answer) 0 (offset_of text place))
      → AnsweredRow text (declined number place)

-- a body more
with_row : (text : List ℕ) (b : Body) (r : Answered) → AtWord text (offset_of text b.first) → AnsweredRow text r → AnsweredRow text (with_body b r)
with_row text b (declined number place) a p = p
with_row text b (bodies bs) a (gives p) = gives (also a p)

module _ (text : List ℕ) (nowhere : ℕ) (all : nowhere ≡ length (words_of text)) (counts : Counts) (defs : List Defined) where
  -- a word of the text, and one that a test has found
  abbrev is_there : (i : ℕ) → i < nowhere → AtWord text (offset_of text i)
  is_there = there text nowhere all

  abbrev is_found : (i : ℕ) → ltb i nowhere ≡ true → AtWord text (offset_of text i)
  is_found = tested_there text nowhere all

  -- a choice between two
  abbrev taken : {a b : Answered} (t : Bool) → (t ≡ true → AnsweredRow text a) → AnsweredRow text b → AnsweredRow text (cond t a b)
  taken = either (AnsweredRow text)

  -- what stands behind the list
  ending_row : (items : Items) → Below nowhere items → AnsweredRow text (nothing_behind items)
  unfolding Below
  ending_row none b = gives no_more
  ending_row (tree l c more) b = declines (ResponseRow.of_text (shape_unknown (is_there _ b.0.first)))

  -- one `define-fun`
  body_row : (f : Function) (at : ℕ) (c : Items) (later : Answered) → at < nowhere → Below nowhere c → AnsweredRow text later
      → AnsweredRow text (judged_body counts nowhere defs f at c later)
  unfolding judged_body
  body_row f at c later h b p =
      taken (not (is "define-fun" (item 0 c))) (λ t. declines (ResponseRow.of_text (shape_unknown (is_there at h))))
      (taken (any_uncarried c) (λ t. declines (ResponseRow.of_text (not_carried (is_there at h))))
      (taken (not (define_fun_shape c)) (λ t. declines (ResponseRow.of_text (shape_unknown (is_there at h))))
      (taken (ltb (min (header_past counts nowhere c) (node_past counts nowhere (item 4 c) (inside 4 c))) nowhere)
      (λ t. declines (ResponseRow.of_text (past_limit (is_found _ t))))
      (taken (ltb (differing nowhere (words_in (header_of c)) (header_tokens f)) nowhere) (λ t. declines (header-differs (is_found _ t)))
      (taken (ltb (term_names nowhere (response_view defs f) (item 4 c) (inside 4 c)) nowhere)
      (λ t. declines (ResponseRow.of_text (bad_name (is_found _ t))))
      (taken (ltb (body_fault nowhere (response_view defs f) f.result (item 4 c) (inside 4 c)) nowhere)
      (λ t. declines (ResponseRow.of_text (sort_fault (is_found _ t))))
      (with_row text _ later (is_there _ (item_below (omega arith) 4 c b).first) p)))))))

  -- one too many
  extra_row : (at : ℕ) (c : Items) → at < nowhere → AnsweredRow text (judged_extra counts nowhere at c)
  unfolding judged_extra
  extra_row at c h =
      taken (not (is "define-fun" (item 0 c))) (λ t. declines (ResponseRow.of_text (shape_unknown (is_there at h))))
      (taken (any_uncarried c) (λ t. declines (ResponseRow.of_text (not_carried (is_there at h))))
      (taken (not (define_fun_shape c)) (λ t. declines (ResponseRow.of_text (shape_unknown (is_there at h))))
      (taken (ltb (min (header_past counts nowhere c) (node_past counts nowhere (item 4 c) (inside 4 c))) nowhere)
      (λ t. declines (ResponseRow.of_text (past_limit (is_found _ t))))
      (declines (header-differs (is_there at h))))))

  -- all of them
  bodies_rows : (close : ℕ) (fs : List Function) (items : Items) (after : Answered) → close < nowhere → Below nowhere items → AnsweredRow text after
      → AnsweredRow text (judged_all counts nowhere defs close fs items after)
  unfolding judged_all Below
  bodies_rows close [] none after h b p = p
  bodies_rows close (f ∷ fs) none after h b p = declines (header-differs (is_there close h))
  bodies_rows close [] (tree l c more) after h b p =
      taken (is_list l) (λ t. extra_row _ c b.0.first) (declines (ResponseRow.of_text (shape_unknown (is_there _ b.0.first))))
  bodies_rows close (f ∷ fs) (tree l c more) after h b p =
      taken (is_list l) (λ t. body_row f _ c _ b.0.first b.1 (bodies_rows close fs more after h b.2 p))
      (declines (ResponseRow.of_text (shape_unknown (is_there _ b.0.first))))

  -- a response's commands
  answered_row : (fs : List Function) (items : Items) → Below nowhere items → AnsweredRow text (answered counts nowhere defs fs items)
  unfolding answered Below
  answered_row fs none b = declines (ResponseRow.of_text (subst (TextRow text shape_answer) (at_end text nowhere all) ends_early))
  answered_row fs (tree l c more) b =
      taken (is "fail" l && is_alone (tree l c more)) (λ t. declines fail)
      (taken (is "infeasible" l && is_alone (tree l c more)) (λ t. declines infeasible)
      (taken (is_list l) (λ t. bodies_rows _ fs c _ b.0.last b.1 (ending_row more b.2))
      (declines (ResponseRow.of_text (shape_unknown (is_there _ b.0.first))))))

-- A response: it gives bodies whose first words are words of it, or it is refused by a row.
pub data ResponseKept (text : List ℕ) : ResponseOutcome → Type 0 where
  refuses : {number place : ℕ} → ResponseRow text number place → ResponseKept text (ResponseOutcome.faulty number place)
  gives : {bs : List Body} → FirstWords text bs → ResponseKept text (given bs)

-- every response
pub response_kept : (limits : Limits) (k : Known) (text : List ℕ) → ResponseKept text (response_within limits k text)
unfolding response_within
response_kept limits k text = go (reading_of limits text) refl (reading_row limits text)
  where
    by : (r : Answered) → AnsweredRow text r → ResponseKept text (by_answers text r)
    by (declined number place) (declines row) = refuses row
    by (bodies bs) (gives first) = gives first

    go : (r : Reading) → reading_of limits text ≡ r → ReadingRow text r → ResponseKept text (by_response k text r)
    go (Ok n) e whole =
        by _ (answered_row text n (whole_count limits text n e) allowed k.defined (in_script_order k.functions) (items_of text)
        (stands_below n (text_stands limits text n e) (omega arith)))
    go (Err refusal) e (refuses row) = refuses (ResponseRow.of_text row)
