-- The tables of nodes and of places where one term more is known: what stood in them stands, and the term stands behind it.
use Prim.Native.Nat.{ℕ, zero, suc, ◌+◌, ◌*◌, ◌≤◌, ◌<◌}
use native.Mathlib.Nat.{add-zero, zero-add}
use native.Mathlib.Omega.{arith}
use mathlib.Core.List.{List, [], ◌∷◌, ◌++◌, append_assoc}
use mathlib.Core.Path.{◌≡◌, refl, sym, ap, ◌∙◌}
use lib.ListN.{drop, get_or, length, length-map, length-set, set, take}
use lib.Seq.{get_or-drop, get_or-set_other, get_or-set_same, sets, sets-eq, take-append_seam}
use Rattle.forest.specs.Limits.{first_assumption, most_defined, most_functions}
use Rattle.forest.specs.Forest.{Forest, join, nodes_of, none, tree}
use Rattle.forest.specs.code.Cursors.{from, size}
use Rattle.forest.specs.code.Rows.{number_at}
use Rattle.forest.specs.Tables.{rows}
use Rattle.forest.proofs.Laws.{from_past, join_assoc, size_join}
use Rattle.forest.proofs.Nodes.{length_nodes, nodes_join}
use Rattle.forest.proofs.Rows.{length_rows, rows_append}
use Rattle.terms.specs.Labels.{Label, Terms}
use Rattle.terms.specs.code.Nodes.{AllPlain, node_row, node_table, row_width as nodeWidth}
use Rattle.terms.proofs.Bodies.{plain_join}
use Rattle.terms.specs.Sorts.{Definition, Signature}
use Rattle.evaluation.specs.code.Tables.{BodiesAt, TermStands}
use Rattle.term_sorts.specs.code.Signatures.{RowsAre, all_rows, function_signature}
use Rattle.operators.specs.Sorts.{max_width}
use Rattle.names.specs.Scopes.{Defined, signature_of}
use Rattle.names.specs.code.Table.{sorts_from}
use Rattle.script.specs.code.Signatures.{SignedIn, Signing}
use Rattle.script.proofs.Signed.{back_kept, long_kept, row_same, rows_grow, rows_kept, rows_same}
use Rattle.script.specs.Script.{Known, definitions_of}
use Rattle.script.specs.code.Tables.{PlacesHold, StatedAt}
use Rattle.script.specs.code.Places.{bodies_place, constraints_place, places_length, stated_count}

-- ---- forests

-- A tree at a cursor stays there where others follow.
from_wider : {L : Type 0} (F more : Forest L) (i : ℕ) (l : L) (ops rest : Forest L) → from F i ≡ tree l ops rest
    → from (join F more) i ≡ tree l ops (join rest more)
unfolding from join
from_wider F more zero l ops rest e = rw e
from_wider none more (suc i) l ops rest e = cc
from_wider (tree m a b) more (suc i) l ops rest e = rw (← join_assoc a b more) (from_wider (join a b) more i l ops rest e)

-- ---- tables of nodes

-- How many numbers the table of terms has.
pub length_table : (t : Terms) → length (node_table t) ≡ nodeWidth * size t
unfolding node_table
length_table t = length_rows node_row nodeWidth (λ n. refl) (nodes_of t) ∙ ap (λ (n : ℕ). nodeWidth * n) (length_nodes t)

-- The table of terms, one behind the other.
table_join : (all t : Terms) → node_table (join all t) ≡ node_table all ++ node_table t
unfolding node_table
table_join all t = ap (rows node_row) (nodes_join all t) ∙ rows_append node_row nodeWidth (λ n. refl) (nodes_of all) (nodes_of t)

-- A table into which the nodes of a term are written behind those of others.
pub table_grows : {nodes : List ℕ} (rest : List ℕ) {rows : ℕ} (all t : Terms) → nodes ≡ node_table all ++ rest → rows ≡ size all
    → nodeWidth * (rows + size t) ≤ length nodes → {nodesAfter : List ℕ} → nodesAfter ≡ sets nodes (nodeWidth * rows) (node_table t)
    → nodesAfter ≡ node_table (join all t) ++ drop (nodeWidth * rows + length (node_table t)) nodes
table_grows {nodes} rest {rows} all t e counted room is =
    let long : nodeWidth * rows + length (node_table t) ≤ length nodes = omega (arith, length_table t) in
    let front : take (nodeWidth * rows) nodes ≡ node_table all = rw e (rw (counted, ← length_table all) (take-append_seam (node_table all) rest)) in
    is ∙ sets-eq (node_table t) nodes (nodeWidth * rows) long ∙ rw (front, table_join all t, append_assoc)

-- ---- what stands in them

module _ (all t : Terms) where
  -- A term that stands among terms stands there where another follows.
  pub stands_wider : {i : ℕ} {x : Terms} → TermStands all i x → TermStands (join all t) i x
  stands_wider {i} {x} s = record {
    label = s.label;
    operands = s.operands;
    rest = join s.rest t;
    at = from_wider all t i s.label s.operands s.rest s.at;
    is = s.is;
  }

  -- One that is written behind them stands there.
  pub stands_last : (l : Label) (ops : Terms) → t ≡ tree l ops none → TermStands (join all t) (size all) t
  stands_last l ops e = record { label = l; operands = ops; rest = none; at = from_past all t ∙ e; is = e }

  -- The bodies stand at the nodes at which they stood.
  pub bodies_wider : (bodies bodiesAfter : List ℕ) (base : ℕ) (ds : List Definition)
      → ((j : ℕ) → j < length ds → get_or bodiesAfter (base + j) 0 ≡ get_or bodies (base + j) 0) → BodiesAt all bodies base ds
      → BodiesAt (join all t) bodiesAfter base ds
  unfolding BodiesAt
  bodies_wider bodies bodiesAfter base [] same held = tt
  bodies_wider bodies bodiesAfter base (d ∷ earlier) same held =
      (rw (same (length earlier) (omega arith)) (stands_wider held.0), bodies_wider bodies bodiesAfter base earlier (λ j h. same j (omega arith)) held.1)

  -- Constraints or assumptions, from number m on, stand at the nodes at which they stood.
  pub stated_wider : (places placesAfter : List ℕ) (m : ℕ) (ts : List Terms)
      → ((j : ℕ) → m ≤ j → j < m + length ts → get_or placesAfter (constraints_place + j) 0 ≡ get_or places (constraints_place + j) 0) → StatedAt all places m ts
      → StatedAt (join all t) placesAfter m ts
  unfolding StatedAt
  stated_wider places placesAfter m [] same held = tt
  stated_wider places placesAfter m (x ∷ more) same held = (
    rw (same m (omega arith) (omega arith)) (stands_wider held.0),
    stated_wider places placesAfter (m + 1) more (λ j l h. same j (omega arith) (omega arith)) held.1,
  )

-- One of them more.
pub stated_more : (all t : Terms) (places : List ℕ) (m : ℕ) (ts : List Terms) → StatedAt all places m ts
    → TermStands all (get_or places (constraints_place + (m + length ts)) 0) t → StatedAt all places m (ts ++ t ∷ [])
unfolding StatedAt
stated_more all t places m [] held last = (rw add-zero at last, tt)
stated_more all t places m (x ∷ more) held last =
    let next : m + suc (length more) ≡ m + 1 + length more = omega arith in
    (held.0, stated_more all t places (m + 1) more held.1 (rw next at last))

-- ---- the tables with one term more

-- The nodes of a term are written behind the rows that are taken.
pub record Grown (nodes : List ℕ) (rows more : ℕ) (t : Terms) (nodesAfter : List ℕ) : Type 0 where
  pub plain : AllPlain t
  pub label : Label
  pub operands : Terms
  pub single : t ≡ tree label operands none
  pub sized : more ≡ size t
  pub room : nodeWidth * (rows + more) ≤ length nodes
  pub is : nodesAfter ≡ sets nodes (nodeWidth * rows) (node_table t)

-- Rows of signatures whose numbers are what they were.
pub rows_elsewhere : (places placesAfter : List ℕ) → ((j : ℕ) → j < bodies_place → get_or placesAfter j 0 ≡ get_or places j 0)
    → (base : ℕ) (fs : List Signature) → base + length fs ≤ all_rows → RowsAre places base fs → RowsAre placesAfter base fs
unfolding number_at
rows_elsewhere places placesAfter same base fs low held = rows_same base fs (λ k f h row. row_same (λ c low_column. same _ (omega arith)) row) held

module _ {places nodes nodesAfter : List ℕ} {rows more : ℕ} {k : Known} (p : PlacesHold places nodes rows k) {t : Terms}
    (g : Grown nodes rows more t nodesAfter) where
  -- The term begins at the first row that was not taken.
  pub term_stands : TermStands (join p.all t) rows t
  term_stands = rw p.rows_are (stands_last p.all t g.label g.operands g.single)

  -- The nodes are those of all terms.
  pub nodes_grow : nodesAfter ≡ node_table (join p.all t) ++ drop (nodeWidth * rows + length (node_table t)) nodes
  nodes_grow = table_grows p.rest p.all t p.nodes_are p.rows_are (omega (arith, g.sized, g.room)) g.is

  -- So many rows are taken.
  pub rows_grown : rows + more ≡ size (join p.all t)
  rows_grown = omega (arith, p.rows_are, g.sized, size_join p.all t)

  -- The term is put at number m of constraints and assumptions.
  module _ {m : ℕ} (few : m < stated_count) {placesAfter : List ℕ} (put : placesAfter ≡ set places (constraints_place + m) rows) where
    elsewhere : (j : ℕ) → (j ≡ constraints_place + m → ⊥) → get_or placesAfter j 0 ≡ get_or places j 0
    elsewhere j h = rw put (get_or-set_other places (constraints_place + m) j rows 0 h)

    -- Those of other numbers stand where they stood.
    pub others_held : (first : ℕ) (ts : List Terms) → ((j : ℕ) → first ≤ j → j < first + length ts → j ≡ m → ⊥) → StatedAt p.all places first ts
        → StatedAt (join p.all t) placesAfter first ts
    others_held first ts far held = stated_wider p.all t places placesAfter first ts (λ j l h. elsewhere _ (λ e. far j l h (omega arith))) held

    -- It stands behind those whose next number is m.
    pub next_held : (first : ℕ) (ts : List Terms) → m ≡ first + length ts → StatedAt p.all places first ts
        → StatedAt (join p.all t) placesAfter first (ts ++ t ∷ [])
    next_held first ts e held =
        let here : get_or placesAfter (constraints_place + m) 0 ≡ rows =
        rw put (get_or-set_same places (constraints_place + m) rows 0 (omega (arith, p.long))) in
        stated_more (join p.all t) t placesAfter first ts (others_held first ts (λ j l h q. omega arith) held) (rw (← e, here) term_stands)

    -- The tables hold what is known after it.
    pub stated_held : length k.defined ≤ most_defined → length k.functions ≤ most_functions
        → {after : Known} → after.defined ≡ k.defined → after.functions ≡ k.functions
        → StatedAt (join p.all t) placesAfter 0 after.constraints → StatedAt (join p.all t) placesAfter first_assumption after.assumptions
        → PlacesHold placesAfter nodesAfter (rows + more) after
    stated_held few_defined few_functions same_defined same_functions constraints assumptions =
        record {
          long = ap length put ∙ length-set places (constraints_place + m) rows ∙ p.long;
          defined_rows = rw same_defined (rows_elsewhere places placesAfter (λ j h. elsewhere j (λ e. omega arith)) 0 _
              (omega (arith, length-map k.defined (λ (d : Defined). d.definition.signature))) p.defined_rows);
          function_rows = rw same_functions (rows_elsewhere places placesAfter (λ j h. elsewhere j (λ e. omega arith)) function_signature _
              (omega (arith, length-map k.functions signature_of)) p.function_rows);
          all = join p.all t;
          rest = drop (nodeWidth * rows + length (node_table t)) nodes;
          nodes_are = nodes_grow;
          rows_are = rows_grown;
          plain = plain_join p.all t p.plain g.plain;
          bodies_at = rw same_defined (bodies_wider p.all t _ _ 0 (definitions_of k.defined) (λ j h. rw (get_or-drop, get_or-drop)
              (elsewhere _ (λ e. omega (arith, length-map k.defined (λ (d : Defined). d.definition))))) p.bodies_at);
          constraints_at = constraints;
          assumptions_at = assumptions;
        }

  -- One `define-fun` more.
  module _ {names : List ℕ} {n first arguments result : ℕ} (given : Signing names places n first arguments result)
      {signed : List ℕ} (is_Signed : SignedIn names places n first arguments result signed) where
    -- What stands behind the signatures is what it was.
    behind_kept : (j : ℕ) → get_or signed (bodies_place + j) 0 ≡ get_or places (bodies_place + j) 0
    behind_kept j = sym (get_or-drop bodies_place signed j 0) ∙ ap (λ (l : List ℕ). get_or l j 0) (back_kept given is_Signed) ∙ get_or-drop bodies_place places j 0

    pub definition_held : n ≡ length k.defined → n < most_defined → length k.functions ≤ most_functions
        → {placesAfter : List ℕ} → placesAfter ≡ set signed (bodies_place + n) rows
        → (d : Defined) → d.definition.signature.arguments ≡ sorts_from names first arguments → d.definition.signature.result ≡ result → result ≤ max_width
        → d.definition.body ≡ t
        → {after : Known} → after.defined ≡ d ∷ k.defined → after.functions ≡ k.functions → after.constraints ≡ k.constraints
        → after.assumptions ≡ k.assumptions
        → PlacesHold placesAfter nodesAfter (rows + more) after
    unfolding BodiesAt
    definition_held counted few few_functions {placesAfter} put d ea er narrow eb {after} one_more same_functions same_constraints same_assumptions =
        let long : length signed ≡ places_length = long_kept given is_Signed ∙ p.long in
        let other : (j : ℕ) → (j ≡ bodies_place + n → ⊥) → get_or placesAfter j 0 ≡ get_or signed j 0 =
        λ j h. rw put (get_or-set_other signed (bodies_place + n) j rows 0 h) in
        let here : get_or placesAfter (bodies_place + n) 0 ≡ rows = rw put (get_or-set_same signed (bodies_place + n) rows 0 (omega arith)) in
        let signatures = length-map k.defined (λ (d : Defined). d.definition.signature) in
        let definitions = length-map k.defined (λ (d : Defined). d.definition) in
        let functions = length-map k.functions signature_of in
        let behind : (j : ℕ) → get_or placesAfter (constraints_place + j) 0 ≡ get_or places (constraints_place + j) 0 = λ j.
        let far : constraints_place + j ≡ bodies_place + (most_defined + most_functions + j) = omega arith in
        rw far (other _ (λ e. omega arith) ∙ behind_kept _) in
        record {
          long = ap length put ∙ length-set signed (bodies_place + n) rows ∙ long;
          defined_rows = rw one_more (rows_elsewhere signed placesAfter (λ j h. other j (λ e. omega arith)) 0 _ (omega arith)
              (rows_grow given is_Signed 0 d.definition.signature _ (omega arith) ea er narrow p.defined_rows));
          function_rows = rw same_functions (rows_elsewhere signed placesAfter (λ j h. other j (λ e. omega arith)) function_signature _ (omega arith)
              (rows_kept given is_Signed function_signature _ (λ j h e. omega arith) p.function_rows));
          all = join p.all t;
          rest = drop (nodeWidth * rows + length (node_table t)) nodes;
          nodes_are = nodes_grow;
          rows_are = rows_grown;
          plain = plain_join p.all t p.plain g.plain;
          bodies_at = rw one_more (
            rw (eb, get_or-drop, zero-add, definitions, ← counted, here) term_stands,
            bodies_wider p.all t (drop bodies_place places) (drop bodies_place placesAfter) 0 (definitions_of k.defined)
                (λ j h. rw (get_or-drop, get_or-drop) (other _ (λ e. omega arith) ∙ behind_kept _)) p.bodies_at,
          );
          constraints_at = rw same_constraints (stated_wider p.all t places placesAfter 0 k.constraints (λ j l h. behind j) p.constraints_at);
          assumptions_at = rw same_assumptions (stated_wider p.all t places placesAfter first_assumption k.assumptions (λ j l h. behind j)
              p.assumptions_at);
        }
