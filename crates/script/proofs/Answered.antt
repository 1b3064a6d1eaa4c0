-- The tables into which the body of a synthesized function is put: the nodes of one term more, and two numbers in the table of places. What they held they
-- hold.
use Prim.Native.Nat.{ℕ, ◌+◌, ◌*◌, ◌≤◌, ◌<◌}
use native.Mathlib.Omega.{arith}
use mathlib.Core.List.{List, [], ◌∷◌}
use mathlib.Core.Path.{◌≡◌, refl, sym, ap, ◌∙◌}
use lib.ListN.{drop, get_or, length, length-drop, length-map, length-set, length-take, set, take}
use lib.Seq.{ext_get_or, get_or-drop, get_or-set_other, get_or-set_same, get_or-take}
use Rattle.derivation.specs.code.Rules.{rule_width}
use Rattle.forest.specs.Limits.{first_assumption, most_assumptions, most_constraints, most_defined, most_functions}
use Rattle.forest.specs.Forest.{join}
use Rattle.terms.specs.Labels.{Terms}
use Rattle.terms.specs.code.Nodes.{node_table, row_width as nodeWidth}
use Rattle.term_sorts.specs.code.Signatures.{function_signature}
use Rattle.names.specs.Scopes.{Defined, Function, signature_of}
use Rattle.script.specs.Script.{Known, definitions_of}
use Rattle.script.specs.code.Tables.{GrammarHeld, GrammarsHold, PlacesHold}
use Rattle.script.specs.code.Places.{constraints_place, function_bodies_place, function_width, functions_place, rules_place, offsets_place}
use Rattle.script.proofs.OneTermMore.{Grown, bodies_wider, stated_wider, nodes_grow, rows_elsewhere, rows_grown}
use Rattle.terms.proofs.Bodies.{plain_join}

-- The numbers of two tables of places are the same, but for those of the bodies of functions.
pub record SamePlaces (places placesAfter : List ℕ) : Type 0 where
  pub long : length placesAfter ≡ length places
  pub front : (n : ℕ) → n < function_bodies_place → get_or placesAfter n 0 ≡ get_or places n 0
  pub middle : (n : ℕ) → constraints_place ≤ n → n < offsets_place → get_or placesAfter n 0 ≡ get_or places n 0

-- A table in which nothing is put.
pub same_places : {places : List ℕ} → SamePlaces places places
same_places = record { long = refl; front = λ n h. refl; middle = λ n l h. refl }

module _ (places : List ℕ) {placesAfter : List ℕ} (j node offset : ℕ) (low : j < most_functions)
    (put : placesAfter ≡ set (set places (function_bodies_place + j) node) (offsets_place + j) offset) where
  -- A number other than the two that are put is what it was.
  pub other_place : (n : ℕ) → (n ≡ function_bodies_place + j → ⊥) → (n ≡ offsets_place + j → ⊥) → get_or placesAfter n 0 ≡ get_or places n 0
  other_place n one other =
      rw put (get_or-set_other (set places (function_bodies_place + j) node) (offsets_place + j) n offset 0 other ∙ get_or-set_other places
      (function_bodies_place + j) n node 0 one)

  -- The first of them is the node.
  pub node_put : function_bodies_place + j < length places → get_or placesAfter (function_bodies_place + j) 0 ≡ node
  node_put h =
      rw put (get_or-set_other (set places (function_bodies_place + j) node) (offsets_place + j) (function_bodies_place + j) offset 0 (λ e. omega arith)
      ∙ get_or-set_same places (function_bodies_place + j) node 0 h)

  -- The other is the offset.
  pub offset_put : offsets_place + j < length places → get_or placesAfter (offsets_place + j) 0 ≡ offset
  offset_put h =
      rw put (get_or-set_same (set places (function_bodies_place + j) node) (offsets_place + j) offset 0 (omega (arith, length-set places (function_bodies_place + j) node)))

  -- Where the two are put for one of the functions, the others are the same.
  pub body_places : SamePlaces places placesAfter
  body_places = record {
    long = ap length put ∙ length-set (set places (function_bodies_place + j) node) (offsets_place + j) offset ∙ length-set places (function_bodies_place + j) node;
    front = λ n h. other_place n (λ e. omega arith) (λ e. omega arith);
    middle = λ n l h. other_place n (λ e. omega arith) (λ e. omega arith);
  }

module _ {places placesAfter : List ℕ} (same : SamePlaces places placesAfter) where
  -- A number of those of functions and their rules is what it was.
  number_same : (n : ℕ) → functions_place + n < offsets_place → get_or (drop functions_place placesAfter) n 0 ≡ get_or (drop functions_place places) n 0
  number_same n h =
      get_or-drop functions_place placesAfter n 0 ∙ same.middle (functions_place + n) (omega arith) (omega arith) ∙ sym (get_or-drop functions_place places n 0)

  -- So are numbers one behind the other.
  part_same : (k n : ℕ) → functions_place + (k + n) ≤ offsets_place → take n (drop k (drop functions_place placesAfter)) ≡ take n (drop k (drop functions_place places))
  part_same k n h =
      ext_get_or 0 _ _ (simp (length-take, length-drop) (rw same.long))
      (λ i l. let b : i < n = omega (arith, simp (length-take) at l) in
      rw (
        get_or-take n (drop k (drop functions_place placesAfter)) i 0 b,
        get_or-take n (drop k (drop functions_place places)) i 0 b,
        get_or-drop k (drop functions_place placesAfter) i 0,
        get_or-drop k (drop functions_place places) i 0,
      ) (number_same (k + i) (omega arith)))

  -- The grammar of a function is what it was.
  grammar_kept : (forms : List ℕ) (rows j : ℕ) (f : Function) → j < most_functions → GrammarHeld (drop functions_place places) forms rows j f
      → GrammarHeld (drop functions_place placesAfter) forms rows j f
  grammar_kept forms rows j f low g =
      let start = number_same (function_width * j) (omega arith) in
      let taken = number_same (function_width * j + 1) (omega arith) in
      record {
        rules_are = number_same (function_width * j + 2) (omega arith) ∙ g.rules_are;
        few_rules = g.few_rules;
        before_is = number_same (function_width * j + 3) (omega arith) ∙ g.before_is;
        table_is = part_same (rules_place j) (rule_width * length f.grammar.rules) (omega (arith, g.few_rules)) ∙ g.table_is;
        forms_are = rw (start, taken) g.forms_are;
        within = rw (start, taken) g.within;
        sized = taken ∙ g.sized;
      }

  -- The grammars of functions are what they were.
  pub grammars_kept : (forms : List ℕ) (rows : ℕ) (fs : List Function) → length fs ≤ most_functions → GrammarsHold (drop functions_place places) forms rows fs
      → GrammarsHold (drop functions_place placesAfter) forms rows fs
  unfolding GrammarsHold
  grammars_kept forms rows [] few held = tt
  grammars_kept forms rows (f ∷ earlier) few held =
      (grammar_kept forms rows (length earlier) f (omega arith) held.0, grammars_kept forms rows earlier (omega arith) held.1)

  module _ {nodes nodesAfter : List ℕ} {rows more : ℕ} {k : Known} (p : PlacesHold places nodes rows k) {t : Terms}
      (g : Grown nodes rows more t nodesAfter) (few_defined : length k.defined ≤ most_defined) (few_functions : length k.functions ≤ most_functions)
      (few_constraints : length k.constraints ≤ most_constraints) (few_assumptions : length k.assumptions ≤ most_assumptions) where
    -- The tables hold what they held, with one term more.
    abbrev pub body_held : PlacesHold placesAfter nodesAfter (rows + more) k
    body_held = record {
      long = same.long ∙ p.long;
      defined_rows = rows_elsewhere places placesAfter (λ j h. same.front j (omega arith)) 0 _
          (omega (arith, length-map k.defined (λ (d : Defined). d.definition.signature))) p.defined_rows;
      function_rows = rows_elsewhere places placesAfter (λ j h. same.front j (omega arith)) function_signature _
          (omega (arith, length-map k.functions signature_of)) p.function_rows;
      all = join p.all t;
      rest = drop (nodeWidth * rows + length (node_table t)) nodes;
      nodes_are = nodes_grow p g;
      rows_are = rows_grown p g;
      plain = plain_join p.all t p.plain g.plain;
      bodies_at = bodies_wider p.all t _ _ 0 (definitions_of k.defined) (λ j h. rw (get_or-drop, get_or-drop)
          (same.front _ (omega (arith, length-map k.defined (λ (d : Defined). d.definition))))) p.bodies_at;
      constraints_at = stated_wider p.all t places placesAfter 0 k.constraints (λ j l h. same.middle _ (omega arith) (omega arith))
          p.constraints_at;
      assumptions_at = stated_wider p.all t places placesAfter first_assumption k.assumptions (λ j l h. same.middle _ (omega arith) (omega arith))
          p.assumptions_at;
    }
