-- What the reading of a body asks and gives. Definitions that serve a step.
use Rattle.std.specs.Prelude.{ℕ, ◌+◌, ◌-◌, ◌*◌, ◌≤◌, true, List, ◌++◌, ◌≡◌, length, replicate}
use Rattle.std.proofs.lemmas.List.Edits.{sets}
use Rattle.forest.specs.Forest.{nodes_of, tree}
use Rattle.forest.specs.Limits.{script_words}
use Rattle.terms.specs.code.Nodes.{row_width as nodeWidth}
use Rattle.forest.specs.code.Cursors.{size}
use Rattle.words.specs.Trees.{Lexeme}
use Rattle.derivation.specs.code.Tables.{form_table}
use Rattle.lexemes.specs.Lists.{Items}
use Rattle.lexemes.specs.code.Standing.{Source, Stands}
use Rattle.lexemes.specs.code.Table.{next_at}
use Rattle.shapes.specs.Shapes.{term_shape}
use Rattle.term_nodes.specs.code.Table.{raw_table, row_width as rawWidth, uncounted_table}
use Rattle.term_nodes.specs.Terms.{raw_term, word_past}
use Rattle.names.specs.Scopes.{View, forms_of}
use Rattle.names.specs.code.Lookup.{Sees, source_of}
use Rattle.names.specs.Unknown.{unknown_in}
use Rattle.names.specs.declared.Seen.{Seen}
use Rattle.names.specs.declared.Target.{Target}
use Rattle.term_faults.specs.code.Bodies.{Lawful}
use Rattle.bodies.specs.declared.Body.{Body}

-- A term stands at word i, and the table has a row for each of its words.
pub record TermAt (lexemes raw : List ℕ) (i : ℕ) : Type 0 where
  pub source : Source
  pub same : source.lexemes ≡ lexemes
  pub label : Lexeme
  pub operands : Items
  pub more : Items
  pub end : ℕ
  pub stands : Stands source i (tree label operands more) end
  pub shaped : term_shape label operands ≡ true
  pub room : rawWidth * (next_at lexemes i - i) ≤ length raw

-- Its nodes are gathered, and the word past the limit is found.
pub record Limited {lexemes raw : List ℕ} {i : ℕ} (p : TermAt lexemes raw i) (most nowhere : ℕ) (rawAfter : List ℕ) (b : Body) : Type 0 where
  pub rest : List ℕ
  pub raw_is : rawAfter ≡ uncounted_table (raw_term p.label p.operands) ++ rest
  pub long : length rawAfter ≡ length raw
  pub rows_are : b.rows ≡ size (raw_term p.label p.operands)
  pub few : b.rows ≤ next_at lexemes i - i
  pub place_is : b.place ≡ word_past nowhere most (nodes_of (raw_term p.label p.operands))

-- The nodes of a term of a text are gathered, not counted yet; names are seen; and there is room for the forms from row `base` on.
pub record Naming (text lexemes names raw nodes : List ℕ) (seen : Seen) (count base nowhere : ℕ) : Type 0 where
  pub i : ℕ
  pub end : ℕ
  pub label : Lexeme
  pub operands : Items
  pub more : Items
  pub stands : Stands (source_of text lexemes) i (tree label operands more) end
  pub shaped : term_shape label operands ≡ true
  pub lawful : Lawful (source_of text lexemes) nowhere
  pub rest : List ℕ
  pub raw_is : raw ≡ uncounted_table (raw_term label operands) ++ rest
  pub counted : count ≡ size (raw_term label operands)
  pub view : View
  pub sees : Sees names seen view
  pub room : nodeWidth * (base + count) ≤ length nodes

-- They are counted, the forms are written, and the least word with an unknown name is found.
pub record Named {text lexemes names raw nodes : List ℕ} {seen : Seen} {count base nowhere : ℕ}
    (p : Naming text lexemes names raw nodes seen count base nowhere) (rawAfter nodesAfter : List ℕ) (r : ℕ) : Type 0 where
  pub raw_is : rawAfter ≡ raw_table (raw_term p.label p.operands) ++ p.rest
  pub nodes_are : nodesAfter ≡ sets nodes (nodeWidth * base) (form_table (forms_of p.view (raw_term p.label p.operands)))
  pub unknown_is : r ≡ unknown_in nowhere p.view (nodes_of (raw_term p.label p.operands))

-- The same, for whatever the tables hold.
abbrev pub NamesBody : (text lexemes names raw nodes : List ℕ) → Seen → Target → (rawAfter nodesAfter : List ℕ) → (r : ℕ) → Type 0
NamesBody text lexemes names raw nodes seen target rawAfter nodesAfter r =
    (p : Naming text lexemes names raw nodes seen target.count target.base target.nowhere) → Named p rawAfter nodesAfter r

-- The column of sorts before it is filled: "8,192 words of script" (E10).
unfoldable pub no_sorts : List ℕ
no_sorts = replicate script_words 0
