-- What the tests of shape and limits of a `define-fun` in a response ask and give.
use Rattle.std.specs.Prelude.{ℕ, ◌+◌, ◌*◌, ◌≤◌, ◌<◌, min, cond, not, List, ◌≡◌, ltb, length}
use Rattle.lexemes.specs.Lists.{Items, inside, is, item}
use Rattle.lexemes.specs.code.Standing.{ListAt}
use Rattle.lexemes.specs.code.Table.{code_at, next_at}
use Rattle.shapes.specs.Carried.{any_uncarried}
use Rattle.shapes.specs.Shapes.{define_fun_shape}
use Rattle.term_nodes.specs.code.Table.{row_width as rawWidth}
use Rattle.headers.specs.Heads.{header_past}
use Rattle.forest.specs.Limits.{Counts, allowed}
use Rattle.script.specs.Limits.{node_past}
use Rattle.script.specs.declared.Verdict.{Verdict}
use Rattle.script.specs.Response.{Answered, judged_extra, refused}
use Rattle.script.specs.code.Answers.{limit_answer, shape_answer, uncarried_answer}
use Rattle.response.specs.code.Responding.{Gathered}

-- The word at which the body of the `define-fun` at word i begins.
abbrev pub body_at : (lexemes : List ℕ) → (i : ℕ) → ℕ
body_at lexemes i = next_at lexemes (next_at lexemes (next_at lexemes (i + 2)))

-- Shape and limits of a `define-fun`; what follows where it passes is `later`.
unfoldable pub outlined : Counts → (nowhere at : ℕ) → Items → (later : Answered) → Answered
outlined counts nowhere at c later =
    let limit = min (header_past counts nowhere c) (node_past counts nowhere (item 4 c) (inside 4 c)) in
    cond (not (is "define-fun" (item 0 c))) (refused shape_answer at)
    (cond (any_uncarried c) (refused uncarried_answer at)
    (cond (not (define_fun_shape c)) (refused shape_answer at)
    (cond (ltb limit nowhere) (refused limit_answer limit)
    later)))

-- A list stands at word i of a text of so many words, and the table has a row for each of these.
pub record ListIn (lexemes raw : List ℕ) (i nowhere : ℕ) : Type 0 where
  pub here : ListAt lexemes i
  pub ends : (w : ℕ) → 0 < code_at lexemes w → w < nowhere
  pub room : rawWidth * nowhere ≤ length raw

-- Shape and limits are tested, and the nodes of the body are gathered where they pass.
pub record Outlined {lexemes raw : List ℕ} {i nowhere : ℕ} (x : ListIn lexemes raw i nowhere) (rawAfter : List ℕ) (v : Verdict) : Type 0 where
  pub stops : (v.number ≡ 0 → ⊥) → (later : Answered) → outlined allowed nowhere i x.here.operands later ≡ refused v.number v.place
  pub goes_on : v.number ≡ 0 → (later : Answered) → outlined allowed nowhere i x.here.operands later ≡ later
  pub gathered : v.number ≡ 0 → Gathered lexemes rawAfter i x.here.operands v.rows
  pub long : length rawAfter ≡ length raw

-- A `define-fun` past the last function is refused.
pub record Extra {lexemes raw : List ℕ} {i nowhere : ℕ} (x : ListIn lexemes raw i nowhere) (v : Verdict) : Type 0 where
  pub refuses : judged_extra allowed nowhere i x.here.operands ≡ refused v.number v.place
  pub number : v.number ≡ 0 → ⊥

-- What the tests of shape and limits give.
abbrev pub Outlines : (lexemes raw : List ℕ) → (i nowhere : ℕ) → (rawAfter : List ℕ) → Verdict → Type 0
Outlines lexemes raw i nowhere rawAfter v = (x : ListIn lexemes raw i nowhere) → Outlined x rawAfter v

-- What they give of a `define-fun` for which there is no function.
abbrev pub Extras : (lexemes raw : List ℕ) → (i nowhere : ℕ) → Verdict → Type 0
Extras lexemes raw i nowhere v = (x : ListIn lexemes raw i nowhere) → Extra x v
