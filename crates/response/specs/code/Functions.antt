-- What the `define-fun` of a response for a function asks and gives.
use Rattle.std.specs.Prelude.{ℕ, ◌+◌, ◌*◌, ◌≤◌, min, cond, List, ◌∷◌, ◌≡◌, ltb, drop}
use Rattle.std.proofs.lemmas.List.Edits.{sets}
use Rattle.forest.specs.Forest.{tree}
use Rattle.words.specs.Trees.{list, word_of}
use Rattle.terms.specs.code.Nodes.{row_width as nodeWidth}
use Rattle.derivation.specs.code.Tables.{form_table}
use Rattle.lexemes.specs.Lists.{Items, inside, item}
use Rattle.lexemes.specs.code.Table.{next_at}
use Rattle.term_nodes.specs.Terms.{raw_term}
use Rattle.names.specs.Scopes.{Defined, Function, forms_of}
use Rattle.names.specs.code.Table.{own_argument_row}
use Rattle.names.specs.declared.Seen.{Seen}
use Rattle.term_faults.specs.Faults.{body_fault}
use Rattle.forest.specs.Limits.{allowed}
use Rattle.headers.specs.Tokens.{differing, header_of, header_tokens, words_in}
use Rattle.script.specs.Naming.{term_names}
use Rattle.script.specs.Script.{Known, term_of}
use Rattle.script.specs.code.Tables.{GrammarsHold}
use Rattle.script.specs.code.Places.{arguments_in, before_in, functions_place}
use Rattle.script.specs.declared.Progress.{Progress}
use Rattle.script.specs.declared.Verdict.{Verdict}
use Rattle.script.specs.Response.{Answered, Body, in_script_order, judged_body, refused, response_view, with_body}
use Rattle.script.specs.code.Answers.{name_answer, sort_answer, header_answer}
use Rattle.response.specs.declared.Turn.{Turn}
use Rattle.response.specs.code.Responding.{Gathered, Reading, OneMore}

-- 12, 7 and 8 of a `define-fun` for the function f; what follows where it passes is `later`.
unfoldable pub matched : (nowhere : ℕ) → (defs : List Defined) → Function → Items → (later : Answered) → Answered
matched nowhere defs f c later =
    let view = response_view defs f in
    let header = differing nowhere (words_in (header_of c)) (header_tokens f) in
    let name = term_names nowhere view (item 4 c) (inside 4 c) in
    let sort = body_fault nowhere view f.result (item 4 c) (inside 4 c) in
    cond (ltb header nowhere) (refused header_answer header)
    (cond (ltb name nowhere) (refused name_answer name)
    (cond (ltb sort nowhere) (refused sort_answer sort)
    later))

-- The body of a `define-fun` for the function f.
abbrev pub body_of : (defs : List Defined) → Function → Items → Body
body_of defs f c = record { first = word_of (item 4 c); term = term_of (response_view defs f) (item 4 c) (inside 4 c) }

-- A `define-fun` for function j stands at word i, and what is known of the script stands in the tables, in `base` rows.
pub record Answering (text lexemes names raw places nodes : List ℕ) (p : Progress) (i j base nowhere : ℕ) : Type 0 where
  pub known : Known
  pub end : ℕ
  pub rows : ℕ
  pub based : base ≡ p.nodes + rows
  pub reading : Reading text lexemes names raw places nodes p i end j rows nowhere known
  pub close : ℕ
  pub command : Items
  pub more : Items
  pub is : reading.items ≡ tree (list i close) command more
  pub function : Function
  pub later : List Function
  pub next : drop j (in_script_order known.functions) ≡ function ∷ later

-- The nodes of its body are gathered.
pub record Comparing (text lexemes names raw places nodes : List ℕ) (p : Progress) (i j rows base nowhere : ℕ) : Type 0 where
  pub asked : Answering text lexemes names raw places nodes p i j base nowhere
  pub gathered : Gathered lexemes raw i asked.command rows

-- What a body for function j sees, as rows of the table of names: its arguments, and the `define-fun`s before it.
abbrev pub seen_by : (places : List ℕ) → Progress → (j : ℕ) → Seen
seen_by places p j = record {
  first = own_argument_row j;
  names = arguments_in places j;
  defined = min (before_in places j) p.defined;
  functions = 0;
  non_terminals = 0;
}

-- It is held to the function, and the nodes of its body are written where it passes.
pub record Matched {text lexemes names raw places nodes : List ℕ} {p : Progress} {i j rows base nowhere : ℕ}
    (q : Comparing text lexemes names raw places nodes p i j rows base nowhere) (nodesAfter : List ℕ) (v : Verdict) : Type 0 where
  pub stops : (v.number ≡ 0 → ⊥) → (later : Answered)
      → matched nowhere q.asked.known.defined q.asked.function q.asked.command later ≡ refused v.number v.place
  pub goes_on : v.number ≡ 0 → (later : Answered) → matched nowhere q.asked.known.defined q.asked.function q.asked.command later ≡ later
  pub written : v.number ≡ 0 → nodesAfter
      ≡ sets nodes (nodeWidth * base)
      (form_table (forms_of (response_view q.asked.known.defined q.asked.function) (raw_term (item 4 q.asked.command) (inside 4 q.asked.command))))
  pub taken : v.rows ≡ rows

-- The `define-fun` is tested, and its body stands in the tables where it passes.
pub record Taken {text lexemes names raw places nodes : List ℕ} {p : Progress} {i j base nowhere : ℕ}
    (q : Answering text lexemes names raw places nodes p i j base nowhere) (placesAfter nodesAfter : List ℕ) (v : Verdict) : Type 0 where
  pub stops : (v.number ≡ 0 → ⊥) → (later : Answered)
      → judged_body allowed nowhere q.known.defined q.function i q.command later ≡ refused v.number v.place
  pub goes_on : v.number ≡ 0 → (later : Answered)
      → judged_body allowed nowhere q.known.defined q.function i q.command later ≡ with_body (body_of q.known.defined q.function
      q.command) later
  pub one_more : v.number ≡ 0
      → OneMore text places base q.known q.reading.places_hold.all j (body_of q.known.defined q.function q.command) placesAfter nodesAfter v.rows
  pub few : v.number ≡ 0 → i + v.rows ≤ next_at lexemes i
  pub grammars_hold : GrammarsHold (drop functions_place placesAfter) q.reading.forms p.forms q.known.functions

-- A `define-fun` for a function is read: it is asked that it stands there,
abbrev pub TurnAsked : (text lexemes names raw places nodes : List ℕ) → Turn → Type 0
TurnAsked text lexemes names raw places nodes t =
    Answering text lexemes names raw places nodes t.progress t.at t.function t.base t.nowhere

-- and it is tested, and its body taken.
abbrev pub TurnTaken : (text lexemes names raw places nodes : List ℕ) → Turn → (placesAfter nodesAfter : List ℕ) → Verdict → Type 0
TurnTaken text lexemes names raw places nodes t placesAfter nodesAfter v =
    (q : TurnAsked text lexemes names raw places nodes t) → Taken q placesAfter nodesAfter v

-- It is held to its function: it is asked that the nodes of its body are gathered in so many rows,
abbrev pub TurnGathered : (text lexemes names raw places nodes : List ℕ) → Turn → (rows : ℕ) → Type 0
TurnGathered text lexemes names raw places nodes t rows =
    Comparing text lexemes names raw places nodes t.progress t.at t.function rows t.base t.nowhere

-- and it is tested.
abbrev pub TurnMatched : (text lexemes names raw places nodes : List ℕ) → Turn → (rows : ℕ) → (nodesAfter : List ℕ) → Verdict → Type 0
TurnMatched text lexemes names raw places nodes t rows nodesAfter v =
    (q : TurnGathered text lexemes names raw places nodes t rows) → Matched q nodesAfter v
