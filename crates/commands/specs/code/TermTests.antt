-- What the tests of a command's term ask and give.
use Rattle.std.specs.Prelude.{ℕ, ◌*◌, ◌≤◌, min, cond, List, ◌≡◌, ltb, length}
use Rattle.std.proofs.lemmas.List.Edits.{sets}
use Rattle.forest.specs.Forest.{nodes_of}
use Rattle.forest.specs.Limits.{script_words}
use Rattle.operators.specs.Sorts.{max_width}
use Rattle.terms.specs.code.Nodes.{row_width as nodeWidth}
use Rattle.derivation.specs.code.Tables.{form_table}
use Rattle.term_nodes.specs.Terms.{raw_term}
use Rattle.names.specs.Scopes.{forms_of}
use Rattle.names.specs.Unknown.{unknown_in}
use Rattle.term_faults.specs.Faults.{body_fault}
use Rattle.term_faults.specs.code.Bodies.{Signed}
use Rattle.bodies.specs.code.Bodies.{Naming}
use Rattle.script.specs.declared.Verdict.{Verdict}
use Rattle.script.specs.code.Answers.{name_answer, sort_answer}
use Rattle.commands.specs.declared.TermTest.{TermTest}

-- 7 at the least word whose name is at fault, else 8 at the least word whose sort is, else none and so many rows.
abbrev pub verdict_of : (nowhere names sorts count : ℕ) → Verdict
verdict_of nowhere names sorts count =
    cond (ltb names nowhere) (record { number = name_answer; place = names; rows = 0 })
    (cond (ltb sorts nowhere) (record { number = sort_answer; place = sorts; rows = 0 })
    (record { number = 0; place = 0; rows = count }))

-- The nodes of a term are gathered that is to be of a sort, and the tables have the names and the signatures that it sees.
pub record Judging (text lexemes names raw places nodes : List ℕ) (t : TermTest) : Type 0 where
  pub naming : Naming text lexemes names raw nodes t.seen t.target.count t.target.base t.target.nowhere
  pub signed : Signed places naming.view
  pub low : t.sort ≤ max_width
  pub few : t.target.count ≤ script_words

-- The term is tested, after a word whose name and a word whose sort is at fault in its command; and its forms are written.
pub record Judged {text lexemes names raw places nodes : List ℕ} {t : TermTest} (p : Judging text lexemes names raw places nodes t)
    (rawAfter nodesAfter : List ℕ) (v : Verdict) : Type 0 where
  pub verdict_is : v ≡ verdict_of t.target.nowhere
      (min t.named (unknown_in t.target.nowhere p.naming.view (nodes_of (raw_term p.naming.label p.naming.operands))))
      (min t.empty (body_fault t.target.nowhere p.naming.view t.sort p.naming.label p.naming.operands))
      t.target.count
  pub nodes_are : nodesAfter ≡ sets nodes (nodeWidth * t.target.base) (form_table (forms_of p.naming.view (raw_term p.naming.label p.naming.operands)))
  pub raw_long : length rawAfter ≡ length raw

-- The same, for whatever term stands there.
abbrev pub Judges : (text lexemes names raw places nodes : List ℕ) → TermTest → (rawAfter nodesAfter : List ℕ) → Verdict → Type 0
Judges text lexemes names raw places nodes t rawAfter nodesAfter v =
    (p : Judging text lexemes names raw places nodes t) → Judged p rawAfter nodesAfter v
