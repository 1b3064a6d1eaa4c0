-- A script that is refused by 7 or 9 is so for the command that reading meets last.
use Prim.Native.Nat.{ℕ, ◌+◌, ◌≤◌, ◌<◌}
use native.Mathlib.Omega.{arith}
use mathlib.Core.Bool.{Bool, true, false, cond, not, ◌||◌}
use mathlib.Core.List.{List}
use mathlib.Core.Path.{◌≡◌, refl, ap, sym, ◌∙◌, subst}
use borrow.Author.Tests.{ltb-false, ltb-true, not-false}
use lib.Dec.{ltb}
use lib.ListN.{length}
use Rattle.forest.specs.Limits.{allowed}
use Rattle.forest.proofs.Bools.{or_left}
use Rattle.word_kinds.specs.declared.Fault.{Fault}
use Rattle.word_kinds.specs.declared.Fault.TheVariants.{BadWord, Bracket, NotCarried, PastLimit, TooLong}
use Rattle.words.specs.Answers.{Reading, fault_number}
use Rattle.words.specs.Limits.{script_limits}
use Rattle.words.specs.Reading.{reading_of}
use Rattle.words.specs.Words.{words_of}
use Rattle.std.specs.Prelude.{Ok, Err}
use Rattle.lexemes.specs.Lists.{Items, items_of}
use Rattle.lexemes.specs.code.Standing.{Source, Stands, all_of, bracketed, ends, word}
use Rattle.lexemes.proofs.Standing.{forward}
use Rattle.lexemes.proofs.WholeText.{text_stands, whole_count}
use Rattle.shapes.specs.Carried.{is_not_carried}
use Rattle.shapes.specs.Shapes.{command_shape}
use Rattle.script.specs.Outcome.{ScriptOutcome, by_commands, by_words, offset_of, said, script_outcome, second_of}
use Rattle.script.specs.Script.{Known, Read, and_then, earlier_place, grammar_place, judged, known_after, limit_place, name_place, nothing_known, out_of_place}
use Rattle.script.specs.Script.{passed, read_all, refused, sorting_place, tested}
use Rattle.script.specs.code.Answers.{grammar_answer, name_answer, shape_answer}
use Rattle.outcome.specs.Met.{Met, MetIn, first, later}
use Rattle.outcome.specs.Scoped.{AllBefore, Apart, InScope}
use Rattle.outcome.proofs.Scoped.{command_scoped}
use Rattle.outcome.proofs.Sorted.{no_faults}

-- A number that is neither of the two.
pub record Other (number : ℕ) : Type 0 where
  pub no_name : number ≡ name_answer → ⊥
  pub no-grammar : number ≡ grammar_answer → ⊥

-- ---- one command

-- What one command gives: 7 at its first name at fault, with the second number; 9 at the word at fault in its grammar, within the limits; another number; or it
-- passes.
pub data Gives (nowhere : ℕ) (k : Known) (at : ℕ) (c : Items) : Read → Type 0 where
  another : {number place second : ℕ} → Other number → Gives nowhere k at c (refused number place second)
  a_name : command_shape c ≡ true → Gives nowhere k at c (refused name_answer (name_place nowhere k c) (earlier_place k c (name_place nowhere k c)))
  a_grammar : nowhere ≤ limit_place allowed nowhere k at c → grammar_place nowhere k c < nowhere
      → Gives nowhere k at c (refused grammar_answer (grammar_place nowhere k c) 0)
  passes : {after : Known} → Gives nowhere k at c (passed after)

-- One of two, by a test.
either : {nowhere : ℕ} {k : Known} {at : ℕ} {c : Items} (t : Bool) {one other : Read} → (t ≡ true → Gives nowhere k at c one)
    → (t ≡ false → Gives nowhere k at c other) → Gives nowhere k at c (cond t one other)
either true p q = p refl
either false p q = q refl

-- Every command.
judged_gives : (nowhere : ℕ) (k : Known) (at : ℕ) (c : Items) (after : Known) → Gives nowhere k at c (judged allowed nowhere k at c after)
unfolding judged tested
judged_gives nowhere k at c after =
    either (is_not_carried k.weights c) (λ e. another (record { no_name = λ e. omega arith; no-grammar = λ e. omega arith }))
    (λ carried. either (not (command_shape c) || out_of_place k c) (λ e. another (record { no_name = λ e. omega arith; no-grammar = λ e. omega arith }))
    (λ shaped. either (ltb (limit_place allowed nowhere k at c) nowhere)
    (λ e. another (record { no_name = λ e. omega arith; no-grammar = λ e. omega arith }))
    (λ limited. either (ltb (name_place nowhere k c) nowhere)
    (λ e. a_name (not-false (command_shape c) (or_left (not (command_shape c)) (out_of_place k c) shaped)))
    (λ named. either (ltb (sorting_place nowhere k c) nowhere) (λ e. another (record { no_name = λ e. omega arith; no-grammar = λ e. omega arith }))
    (λ sorted. either (ltb (grammar_place nowhere k c) nowhere) (λ e. a_grammar (ltb-false _ _ limited) (ltb-true _ _ e)) (λ ruled. passes))))))

-- ---- all commands

-- The command for which commands, the first of which follows those that have said k, are refused: the names in scope before it are apart, and it stands in the
-- text before word `nowhere`.
pub record Refuses (source : Source) (nowhere : ℕ) (k : Known) (commands : Items) (number place second : ℕ) : Type 0 where
  pub known : Known
  pub at : ℕ
  pub command : Items
  pub close : ℕ
  pub met : Met nowhere k commands known at command
  pub in_scope : InScope known at
  pub stands : Stands source (at + 1) command close
  pub ahead : close < nowhere
  pub gives : Gives nowhere known at command (refused number place second)

-- What commands give, one after the other.
data AllGive (source : Source) (nowhere : ℕ) (k : Known) (commands : Items) : Read → Type 0 where
  another : {number place second : ℕ} → Other number → AllGive source nowhere k commands (refused number place second)
  by-command : {number place second : ℕ} → Refuses source nowhere k commands number place second → AllGive source nowhere k commands (refused number place second)
  passes : {after : Known} → AllGive source nowhere k commands (passed after)

-- 5 is another number.
shape_other : Other shape_answer
shape_other = record { no_name = λ e. omega arith; no-grammar = λ e. omega arith }

-- Where the script ends.
at_end : (source : Source) (nowhere : ℕ) (k : Known) (commands : Items) (ended : Bool)
    → AllGive source nowhere k commands (cond ended (passed k) (refused shape_answer nowhere 0))
at_end source nowhere k commands true = passes
at_end source nowhere k commands false = another shape_other

-- All commands.
all_give : {source : Source} {i nowhere : ℕ} {items : Items} (k : Known) → Stands source i items nowhere → InScope k i
    → AllGive source nowhere k items (read_all allowed nowhere k items)
unfolding read_all
all_give {source} {nowhere = nowhere} {items = items} k ends s = at_end source nowhere k items k.ended
all_give k (word w rest) s = rw w.no_list (another shape_other)
all_give {source} {i} {nowhere} {items} k (bracketed {c = close} {ops = c} {more = more} b inner rest) s =
    go refl (judged_gives nowhere k i c (known_after k c)) (λ here. all_give (known_after k c) rest here)
  where
    behind : {r : Read} → judged allowed nowhere k i c (known_after k c) ≡ passed (known_after k c) → AllGive source nowhere (known_after k c) more r
        → AllGive source nowhere k items r
    behind e (AllGive.another other) = another other
    behind e passes = passes
    behind e (by-command x) = by-command (record {
      known = x.known;
      at = x.at;
      command = x.command;
      close = x.close;
      met = later refl e x.met;
      in_scope = x.in_scope;
      stands = x.stands;
      ahead = x.ahead;
      gives = x.gives;
    })

    go : {r : Read} → judged allowed nowhere k i c (known_after k c) ≡ r → Gives nowhere k i c r
        → (InScope (known_after k c) (close + 1) → AllGive source nowhere (known_after k c) more (read_all allowed nowhere (known_after k c) more))
        → AllGive source nowhere k items (and_then r (λ (after : Known). read_all allowed nowhere after more))
    go {r = refused number place second} e g next =
        by-command (record {
          known = k;
          at = i;
          command = c;
          close = close;
          met = first refl;
          in_scope = s;
          stands = inner;
          ahead = omega (arith, forward rest);
          gives = g;
        })
    go {r = passed after} e g next =
        let same = (no_faults allowed nowhere k i c (known_after k c) e).is in
        let here = command_scoped allowed k c inner (omega (arith, forward rest)) s e in
        let whole : judged allowed nowhere k i c (known_after k c) ≡ passed (known_after k c) = e ∙ ap passed (sym same) in
        subst (λ (k' : Known). AllGive source nowhere k items (read_all allowed nowhere k' more)) same (behind whole (next here.1))

-- ---- a script

-- A script that is refused for a command, at a word and with a second one.
pub record Refusal (script : List ℕ) (number place second : ℕ) : Type 0 where
  pub word : ℕ
  pub earlier : ℕ
  pub words : reading_of script_limits script ≡ Ok (length (words_of script))
  pub by : Refuses (all_of script) (length (words_of script)) nothing_known (items_of script) number word earlier
  pub place_is : place ≡ offset_of script word
  pub second_is : second ≡ second_of script earlier

-- The command is met.
pub met_in : {script : List ℕ} {number place second : ℕ} (r : Refusal script number place second) → MetIn script r.by.known r.by.at r.by.command
met_in r = record { words = r.words; met = r.by.met }

-- What is said of a script: a refusal by 7 or 9 is such.
data Told (script : List ℕ) : ScriptOutcome → Type 0 where
  another : {number place second : ℕ} → Other number → Told script (ScriptOutcome.faulty number place second)
  by-command : {number place second : ℕ} → Refusal script number place second → Told script (ScriptOutcome.faulty number place second)
  nothing_refused : {k : Known} → Told script (said k)

-- No word is refused by 7 or 9.
by-words : (fault : Fault) → Other (fault_number fault)
by-words TooLong = record { no_name = λ e. omega arith; no-grammar = λ e. omega arith }
by-words BadWord = record { no_name = λ e. omega arith; no-grammar = λ e. omega arith }
by-words Bracket = record { no_name = λ e. omega arith; no-grammar = λ e. omega arith }
by-words PastLimit = record { no_name = λ e. omega arith; no-grammar = λ e. omega arith }
by-words NotCarried = record { no_name = λ e. omega arith; no-grammar = λ e. omega arith }

-- Every script.
script_told : (script : List ℕ) → Told script (script_outcome script)
unfolding AllBefore Apart script_outcome
script_told script = go (reading_of script_limits script) refl
  where
    n : ℕ
    n = length (words_of script)

    by : reading_of script_limits script ≡ Ok n → {r : Read} → AllGive (all_of script) n nothing_known (items_of script) r → Told script (by_commands script r)
    by whole (AllGive.another other) = another other
    by whole (AllGive.by-command {place = w} {second = e} x) =
        by-command (record { word = w; earlier = e; words = whole; by = x; place_is = refl; second_is = refl })
    by whole passes = nothing_refused

    at_commands : reading_of script_limits script ≡ Ok n → Told script (by_words script (Ok n))
    at_commands whole =
        by whole (all_give nothing_known (text_stands script_limits script n whole) (record { apart = tt; before = tt }))

    go : (reading : Reading) → reading_of script_limits script ≡ reading → Told script (by_words script reading)
    go (Err refusal) e = another (by-words refusal.fault)
    go (Ok m) e =
        let counted = whole_count script_limits script m e in
        subst (λ (m : ℕ). Told script (by_words script (Ok m))) (sym counted) (at_commands (e ∙ ap Ok counted))

-- A script that is refused by a number that is not another.
told_command : (script : List ℕ) {number place second : ℕ} → (Other number → ⊥) → Told script (ScriptOutcome.faulty number place second)
    → Refusal script number place second
told_command script not_other (another other) = absurd (not_other other)
told_command script not_other (by-command r) = r

-- Every script that is refused by 7.
pub name_refusal : (script : List ℕ) {place second : ℕ} → script_outcome script ≡ ScriptOutcome.faulty name_answer place second
    → Refusal script name_answer place second
name_refusal script e = told_command script (λ other. other.no_name refl) (subst (Told script) e (script_told script))

-- Every script that is refused by 9.
pub grammar_refusal : (script : List ℕ) {place second : ℕ} → script_outcome script ≡ ScriptOutcome.faulty grammar_answer place second
    → Refusal script grammar_answer place second
grammar_refusal script e = told_command script (λ other. other.no-grammar refl) (subst (Told script) e (script_told script))
