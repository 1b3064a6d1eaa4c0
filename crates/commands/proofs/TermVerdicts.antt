-- The verdict on a command with a term, by the words at fault in its names and its sorts.
use Prim.Native.Nat.{ℕ, ◌≤◌, ◌<◌}
use native.Mathlib.Omega.{arith}
use mathlib.Core.Path.{◌≡◌, refl, ap}
use mathlib.Core.Bool.{Bool, true, false, cond}
use lib.Dec.{ltb}
use borrow.Author.Tests.{le-ltb, ltb-true}
use Rattle.words.specs.Trees.{Lexeme, word_of}
use Rattle.lexemes.specs.Lists.{Items}
use Rattle.forest.specs.Limits.{Counts}
use Rattle.term_nodes.specs.Terms.{raw_term}
use Rattle.names.specs.Scopes.{View}
use Rattle.term_faults.specs.Faults.{body_fault, one_sort, raw_sorts, term_fault}
use Rattle.script.specs.Limits.{command_past}
use Rattle.script.specs.Script.{Known, earlier_place, grammar_place, limit_place, name_place, passed, refused, sorting_place, tested}
use Rattle.script.specs.code.Tables.{Says}
use Rattle.script.specs.declared.Verdict.{Verdict}
use Rattle.script.specs.code.Answers.{name_answer, sort_answer}
use Rattle.commands.specs.code.TermTests.{verdict_of}

-- It is that of the command's tests, where no limit is passed and there is no grammar.
pub body_says : (counts : Counts) (nowhere : ℕ) (k : Known) (at : ℕ) (c : Items) (said : Known) (v : Verdict) (count : ℕ)
    → nowhere ≤ limit_place counts nowhere k at c → grammar_place nowhere k c ≡ nowhere
    → v ≡ verdict_of nowhere (name_place nowhere k c) (sorting_place nowhere k c) count → Says v (tested counts nowhere k at c said)
unfolding tested
body_says counts nowhere k at c said v count limited no-grammar e =
    let none_wrong : nowhere ≤ grammar_place nowhere k c = omega arith in
    rw (le-ltb _ _ limited, le-ltb _ _ none_wrong) (go (ltb (name_place nowhere k c) nowhere) (ltb (sorting_place nowhere k c) nowhere) e)
  where
    go : (named sorted : Bool)
        → v ≡ cond named (record { number = name_answer; place = name_place nowhere k c; rows = 0 })
        (cond sorted (record { number = sort_answer; place = sorting_place nowhere k c; rows = 0 }) (record { number = 0; place = 0; rows = count }))
        → Says v (cond named (refused name_answer (name_place nowhere k c) (earlier_place k c (name_place nowhere k c)))
        (cond sorted (refused sort_answer (sorting_place nowhere k c) 0) (passed said)))
    go true sorted e = (ap (λ (w : Verdict). w.number) e, ap (λ (w : Verdict). w.place) e)
    go false true e = (ap (λ (w : Verdict). w.number) e, ap (λ (w : Verdict). w.place) e)
    go false false e = ap (λ (w : Verdict). w.number) e

-- Where it is no refusal, it has so many rows.
pub passed_rows : (nowhere names sorts count : ℕ) {v : Verdict} → v ≡ verdict_of nowhere names sorts count → v.number ≡ 0 → v.rows ≡ count
passed_rows nowhere names sorts count {v} e z = go (ltb names nowhere) (ltb sorts nowhere) e
  where
    go : (named sorted : Bool) → v ≡ cond named (record { number = name_answer; place = names; rows = 0 })
        (cond sorted (record { number = sort_answer; place = sorts; rows = 0 }) (record { number = 0; place = 0; rows = count })) → v.rows ≡ count
    go true sorted e = absurd (omega (arith, ap (λ (w : Verdict). w.number) e))
    go false true e = absurd (omega (arith, ap (λ (w : Verdict). w.number) e))
    go false false e = ap (λ (w : Verdict). w.rows) e

-- The word at fault in the sort of a term is at most nowhere.
pub fault_low : (nowhere : ℕ) (view : View) (s : ℕ) (l : Lexeme) (ops : Items) → word_of l < nowhere → body_fault nowhere view s l ops ≤ nowhere
fault_low nowhere view s l ops below = go (ltb (term_fault nowhere view (raw_term l ops)) nowhere) refl (one_sort (raw_sorts view (raw_term l ops)) s)
  where
    go : (b : Bool) → ltb (term_fault nowhere view (raw_term l ops)) nowhere ≡ b → (one : Bool)
        → cond b (term_fault nowhere view (raw_term l ops)) (cond one nowhere (word_of l)) ≤ nowhere
    go true e one = omega (arith, ltb-true (term_fault nowhere view (raw_term l ops)) nowhere e)
    go false e true = omega arith
    go false e false = omega arith

-- There are fewer than so many of a kind, where the command is not past their limit.
pub command_fits : (nowhere most before at : ℕ) → at < nowhere → nowhere ≤ command_past nowhere most before at → before < most
command_fits nowhere most before at below h = go (ltb before most) refl h
  where
    go : (b : Bool) → ltb before most ≡ b → nowhere ≤ cond b nowhere at → before < most
    go true e h = ltb-true before most e
    go false e h = absurd (omega arith)
