-- What the reading of a response asks and gives.
use Rattle.std.specs.Prelude.{ℕ, ◌+◌, ◌*◌, ◌≤◌, ◌<◌, List, [], ◌∷◌, ◌≡◌, drop, length}
use Rattle.terms.specs.Labels.{Terms}
use Rattle.terms.specs.code.Nodes.{row_width as nodeWidth}
use Rattle.evaluation.specs.code.Tables.{TermStands}
use Rattle.lexemes.specs.Lists.{Items}
use Rattle.lexemes.specs.code.Standing.{Stands}
use Rattle.lexemes.specs.code.Table.{next_at}
use Rattle.term_nodes.specs.code.Table.{row_width as rawWidth}
use Rattle.names.specs.code.Lookup.{source_of}
use Rattle.term_faults.specs.code.Bodies.{Lawful}
use Rattle.forest.specs.Limits.{allowed, script_words}
use Rattle.script.specs.Script.{Known}
use Rattle.script.specs.code.Tables.{GrammarsHold, PlacesHold, TablesHold}
use Rattle.script.specs.code.Places.{body_in, functions_place, offset_in}
use Rattle.script.specs.declared.Progress.{Progress}
use Rattle.script.specs.declared.Verdict.{Verdict}
use Rattle.script.specs.Outcome.{offset_of}
use Rattle.script.specs.Response.{Answered, Body, answered, bodies, in_script_order, judged_all, refused, with_body}
use Rattle.response.specs.declared.Turn.{Turn}
use Rattle.response.specs.code.Responding.{Starts, Reading, OneMore}

-- Bodies of a text, from that of function j on, begin at the nodes that the table has for them, and the offsets of their first words stand in it.
unfoldable pub ResponseAt : (text : List ℕ) → (all : Terms) → (places : List ℕ) → (j : ℕ) → List Body → Type 0
ResponseAt text all places j [] = Unit {0}
ResponseAt text all places j (b ∷ more) =
    TermStands all (body_in places j) b.term × (offset_in places j ≡ offset_of text b.first) × ResponseAt text all places (j + 1) more

-- The tables hold what a script says, and the bodies of a response.
pub record BodiesHeld (text places nodes : List ℕ) (rows : ℕ) (k : Known) (bs : List Body) : Type 0 where
  pub places_hold : PlacesHold places nodes rows k
  pub bodies_at : ResponseAt text places_hold.all places 0 bs

-- What was read: a refusal with its number and word; or the bodies, which the tables hold.
abbrev pub Answers : Answered → (text places nodes : List ℕ) → (rows : ℕ) → Known → Verdict → Type 0
Answers (refused number place) text places nodes rows k v = (v.number ≡ number) × (v.place ≡ place)
Answers (bodies bs) text places nodes rows k v = (v.number ≡ 0) × BodiesHeld text places nodes (rows + v.rows) k bs

-- The items of a response's text stand in its tables; the tables hold what the script says, and there is a row for each word of the response.
pub record Responding (text lexemes names raw places nodes : List ℕ) (p : Progress) (nowhere : ℕ) : Type 0 where
  pub items : Items
  pub stands : Stands (source_of text lexemes) 0 items nowhere
  pub lawful : Lawful (source_of text lexemes) nowhere
  pub starts : Starts text lexemes nowhere
  pub few : nowhere ≤ script_words
  pub known : Known
  pub forms : List ℕ
  pub tables : TablesHold names places nodes forms p known
  pub raw_room : rawWidth * nowhere ≤ length raw
  pub nodes_room : nodeWidth * (p.nodes + nowhere) ≤ length nodes

-- The response is read; the rules and forms of the script's grammars are what they were.
pub record Responded {text lexemes names raw places nodes : List ℕ} {p : Progress} {nowhere : ℕ}
    (q : Responding text lexemes names raw places nodes p nowhere) (placesAfter nodesAfter : List ℕ) (v : Verdict) : Type 0 where
  pub answers : Answers (answered allowed nowhere q.known.defined (in_script_order q.known.functions) q.items) text placesAfter nodesAfter
      p.nodes q.known v
  pub grammars_hold : GrammarsHold (drop functions_place placesAfter) q.forms p.forms q.known.functions
  pub long : length nodesAfter ≡ length nodes

-- An item of the list that ends at the word `close` is left, and what is known stands in the tables, in `base` rows.
pub record AnyReading (text lexemes names raw places nodes : List ℕ) (p : Progress) (i j base nowhere : ℕ) : Type 0 where
  pub known : Known
  pub close : ℕ
  pub rows : ℕ
  pub based : base ≡ p.nodes + rows
  pub reading : Reading text lexemes names raw places nodes p i close j rows nowhere known
  pub some : i < close

-- What is left where the first item passes: its body stands in the tables.
pub record ItemPassed {text lexemes names raw places nodes : List ℕ} {p : Progress} {i e j rows nowhere : ℕ} {k : Known}
    (r : Reading text lexemes names raw places nodes p i e j rows nowhere k) (placesAfter nodesAfter : List ℕ) (more : ℕ) : Type 0 where
  pub body : Body
  pub items : Items
  pub stands : Stands (source_of text lexemes) (next_at lexemes i) items e
  pub goes_on : (after : Answered)
      → judged_all allowed nowhere k.defined e (drop j (in_script_order k.functions)) r.items after
      ≡ with_body body (judged_all allowed nowhere k.defined e (drop (j + 1) (in_script_order k.functions)) items after)
  pub one_more : OneMore text places (p.nodes + rows) k r.places_hold.all j body placesAfter nodesAfter more
  pub low : rows + more ≤ next_at lexemes i
  pub passed : j + 1 ≤ p.functions

-- The first item is read.
pub record ItemRead {text lexemes names raw places nodes : List ℕ} {p : Progress} {i j base nowhere : ℕ}
    (a : AnyReading text lexemes names raw places nodes p i j base nowhere) (placesAfter nodesAfter : List ℕ) (v : Verdict) : Type 0 where
  pub stops : (v.number ≡ 0 → ⊥) → (after : Answered)
      → judged_all allowed nowhere a.known.defined a.close (drop j (in_script_order a.known.functions)) a.reading.items after
      ≡ refused v.number v.place
  pub passes : v.number ≡ 0 → ItemPassed a.reading placesAfter nodesAfter v.rows
  pub grammars_hold : GrammarsHold (drop functions_place placesAfter) a.reading.forms p.forms a.known.functions

-- What the reading of a response gives.
abbrev pub Responds : (text lexemes names raw places nodes : List ℕ) → Progress → (nowhere : ℕ) → (placesAfter nodesAfter : List ℕ) → Verdict → Type 0
Responds text lexemes names raw places nodes p nowhere placesAfter nodesAfter v =
    (q : Responding text lexemes names raw places nodes p nowhere) → Responded q placesAfter nodesAfter v

-- Any item is read: it is asked that one is left,
abbrev pub ItemAsked : (text lexemes names raw places nodes : List ℕ) → Turn → Type 0
ItemAsked text lexemes names raw places nodes t =
    AnyReading text lexemes names raw places nodes t.progress t.at t.function t.base t.nowhere

-- and it is tested.
abbrev pub ItemAnswered : (text lexemes names raw places nodes : List ℕ) → Turn → (placesAfter nodesAfter : List ℕ) → Verdict → Type 0
ItemAnswered text lexemes names raw places nodes t placesAfter nodesAfter v =
    (a : ItemAsked text lexemes names raw places nodes t) → ItemRead a placesAfter nodesAfter v
