-- What the writing of forms asks and gives.
use Rattle.std.specs.Prelude.{ℕ, ◌+◌, ◌*◌, ◌≤◌, List, ◌++◌, ◌≡◌, length}
use Rattle.std.proofs.lemmas.List.Edits.{sets}
use Rattle.forest.specs.Forest.{Forest, nodes_of, none, tree}
use Rattle.terms.specs.code.Nodes.{row_width as nodeWidth}
use Rattle.forest.specs.code.Cursors.{size}
use Rattle.derivation.specs.code.Tables.{form_table}
use Rattle.term_nodes.specs.code.Says.{AllSay}
use Rattle.term_nodes.specs.code.Table.{raw_table}
use Rattle.term_nodes.specs.Terms.{Raw}
use Rattle.names.specs.Scopes.{View, forms_of}
use Rattle.names.specs.Unknown.{unknown_in}
use Rattle.names.specs.declared.Seen.{Seen}
use Rattle.names.specs.declared.Target.{Target}
use Rattle.names.specs.code.Lookup.{Sees, source_of, Bounded, Headed}

-- The same of every node.
unfoldable pub AllHeaded : Forest Raw → Type 0
AllHeaded none = Unit {0}
AllHeaded (tree r ops rest) = Headed r × AllHeaded ops × AllHeaded rest

-- Terms, of which the words say what they are, their nodes counted; names that are seen; and room for the forms from row `base` on.
pub record Resolving (names text lexemes raw forms : List ℕ) (seen : Seen) (count base : ℕ) : Type 0 where
  pub F : Forest Raw
  pub rest : List ℕ
  pub is_raw : raw ≡ raw_table F ++ rest
  pub counted : count ≡ size F
  pub say : AllSay (source_of text lexemes) F
  pub headed : AllHeaded F
  pub bounded : Bounded (source_of text lexemes)
  pub view : View
  pub sees : Sees names seen view
  pub room : nodeWidth * (base + count) ≤ length forms

-- The forms are written, and the least word with an unknown name is found.
pub record Resolved {names text lexemes raw forms : List ℕ} {seen : Seen} {count base : ℕ}
    (p : Resolving names text lexemes raw forms seen count base) (nowhere : ℕ) (formsAfter : List ℕ) (r : ℕ) : Type 0 where
  pub forms_are : formsAfter ≡ sets forms (nodeWidth * base) (form_table (forms_of p.view p.F))
  pub unknown_is : r ≡ unknown_in nowhere p.view (nodes_of p.F)

-- The same, for whatever the tables hold.
abbrev pub Resolves : (names text lexemes raw forms : List ℕ) → Seen → Target → (formsAfter : List ℕ) → (r : ℕ) → Type 0
Resolves names text lexemes raw forms seen target formsAfter r =
    (p : Resolving names text lexemes raw forms seen target.count target.base) → Resolved p target.nowhere formsAfter r
