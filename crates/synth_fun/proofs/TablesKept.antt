-- Tables of places and of forms of which a part is what it was: what stands in that part stands.
use Prim.Native.Nat.{ℕ, suc, ◌+◌, ◌-◌, ◌*◌, ◌≤◌, ◌<◌}
use native.Mathlib.Nat.{add-zero}
use native.Mathlib.Omega.{arith}
use mathlib.Core.Path.{◌≡◌, refl, ap, ◌∙◌}
use mathlib.Core.List.{List, [], ◌∷◌, map}
use lib.ListN.{drop, get_or, length, length-map, set, take}
use lib.Seq.{drop-set-add, get_or-drop, sets, take-set-le}
use Rattle.forest.specs.code.Rows.{number_at}
use Rattle.terms.specs.Labels.{Terms}
use Rattle.terms.specs.code.Nodes.{row_width as nodeWidth}
use Rattle.terms.specs.Sorts.{Definition, Signature}
use Rattle.evaluation.specs.code.Tables.{BodiesAt}
use Rattle.derivation.specs.code.Rules.{rule_width}
use Rattle.term_sorts.specs.code.Signatures.{RowsAre, all_rows, function_signature}
use Rattle.names.specs.Scopes.{Defined, Function, signature_of}
use Rattle.script.proofs.Signed.{row_same, rows_same}
use Rattle.script.specs.Script.{Known, definitions_of}
use Rattle.forest.specs.Limits.{first_assumption}
use Rattle.script.specs.code.Tables.{Counted, GrammarHeld, GrammarsHold, PlacesHold, StatedAt, defined_signatures}
use Rattle.script.specs.code.Places.{bodies_place, constraints_place, function_width, functions_place, rules_place, rules_width}
use Rattle.script.specs.declared.Progress.{Progress}

-- A part of a list before a number that is written.
part_set : (n d : ℕ) (l : List ℕ) (m v : ℕ) → n ≤ m → take n (drop d (set l (d + m) v)) ≡ take n (drop d l)
part_set n d l m v h = ap (take n) (drop-set-add d l m v) ∙ take-set-le n (drop d l) m v h

-- A part of a list before numbers that are written.
pub part_before : (n d : ℕ) (l : List ℕ) (at : ℕ) (vs : List ℕ) → d + n ≤ at → take n (drop d (sets l at vs)) ≡ take n (drop d l)
part_before n d l at [] h = refl
part_before n d l at (v ∷ vs) h =
    let here : d + (at - d) ≡ at = omega arith in
    part_before n d (set l at v) (suc at) vs (omega arith) ∙ (rw here at (part_set n d l (at - d) v (omega arith)))

-- Rows of signatures whose numbers are what they were.
pub rows_elsewhere : (places placesAfter : List ℕ) → ((j : ℕ) → j < bodies_place → get_or placesAfter j 0 ≡ get_or places j 0)
    → (base : ℕ) (fs : List Signature) → base + length fs ≤ all_rows → RowsAre places base fs → RowsAre placesAfter base fs
unfolding number_at
rows_elsewhere places placesAfter same base fs low = rows_same base fs (λ k f h. row_same (λ c narrow. same _ (omega arith)))

-- Bodies whose places are what they were.
pub bodies_same : (all : Terms) (bodies bodiesAfter : List ℕ) (base : ℕ) (ds : List Definition)
    → ((j : ℕ) → j < length ds → get_or bodiesAfter (base + j) 0 ≡ get_or bodies (base + j) 0) → BodiesAt all bodies base ds → BodiesAt all bodiesAfter base ds
unfolding BodiesAt
bodies_same all bodies bodiesAfter base [] same held = tt
bodies_same all bodies bodiesAfter base (d ∷ earlier) same held =
    (rw (same (length earlier) (omega arith)) held.0, bodies_same all bodies bodiesAfter base earlier (λ j h. same j (omega arith)) held.1)

-- Constraints and assumptions whose places are what they were.
pub stated_same : (all : Terms) (places placesAfter : List ℕ) (m : ℕ) (ts : List Terms)
    → ((j : ℕ) → j < m + length ts → get_or placesAfter (constraints_place + j) 0 ≡ get_or places (constraints_place + j) 0) → StatedAt all places m ts
    → StatedAt all placesAfter m ts
unfolding StatedAt
stated_same all places placesAfter m [] same held = tt
stated_same all places placesAfter m (t ∷ more) same held =
    (rw (same m (omega arith)) held.0, stated_same all places placesAfter (m + 1) more (λ j h. same j (omega arith)) held.1)

-- What the tables have of the first `count` functions is what they had.
pub record Same (numbers numbersAfter lent forms : List ℕ) (count rows : ℕ) : Type 0 where
  pub number : (j m : ℕ) → j < count → m < function_width → get_or numbersAfter (function_width * j + m) 0 ≡ get_or numbers (function_width * j + m) 0
  pub rules : (j n : ℕ) → j < count → n ≤ rules_width → take n (drop (rules_place j) numbersAfter) ≡ take n (drop (rules_place j) numbers)
  pub part : (first n : ℕ) → first + n ≤ rows → take (nodeWidth * n) (drop (nodeWidth * first) forms) ≡ take (nodeWidth * n) (drop (nodeWidth * first) lent)

module _ {numbers numbersAfter lent forms : List ℕ} {count rows : ℕ} (same : Same numbers numbersAfter lent forms count rows) (more : ℕ) where
  -- The grammar of one of them stands in them.
  held_kept : (j : ℕ) (f : Function) → j < count → GrammarHeld numbers lent rows j f → GrammarHeld numbersAfter forms (rows + more) j f
  held_kept j f h held =
      let first : get_or numbersAfter (function_width * j) 0 ≡ get_or numbers (function_width * j) 0 = rw add-zero at (same.number j 0 h (omega arith)) in
      let taken = same.number j 1 h (omega arith) in
      record {
        rules_are = same.number j 2 h (omega arith) ∙ held.rules_are;
        before_is = same.number j 3 h (omega arith) ∙ held.before_is;
        table_is = same.rules j (rule_width * length f.grammar.rules) h (omega (arith, held.few_rules)) ∙ held.table_is;
        forms_are = rw (first, taken)
            (same.part (get_or numbers (function_width * j) 0) (get_or numbers (function_width * j + 1) 0) held.within ∙ held.forms_are);
        within = rw (first, taken) (omega (arith, held.within));
        sized = taken ∙ held.sized;
        few_rules = held.few_rules;
      }

  -- And so do all.
  pub grammars_kept : (fs : List Function) → length fs ≤ count → GrammarsHold numbers lent rows fs → GrammarsHold numbersAfter forms (rows + more) fs
  unfolding GrammarsHold
  grammars_kept [] h held = tt
  grammars_kept (f ∷ earlier) h held = (held_kept (length earlier) f h held.0, grammars_kept earlier (omega arith) held.1)

-- The table of places holds what it held where all numbers before those of functions are what they were.
pub places_kept : {places placesAfter nodes : List ℕ} {rows : ℕ} {p : Progress} {k : Known} → Counted p k → PlacesHold places nodes rows k
    → length placesAfter ≡ length places → ((j : ℕ) → j < functions_place → get_or placesAfter j 0 ≡ get_or places j 0) → PlacesHold placesAfter nodes rows k
places_kept {places} {placesAfter} {k = k} counted held long same =
    let defined = length-map k.defined (λ (d : Defined). d.definition.signature) in
    let bodies = length-map k.defined (λ (d : Defined). d.definition) in
    let functions = length-map k.functions signature_of in
    let low : (j : ℕ) → j < bodies_place → get_or placesAfter j 0 ≡ get_or places j 0 = λ j h. same j (omega arith) in
    record {
      long = long ∙ held.long;
      defined_rows = rows_elsewhere places placesAfter low 0 (defined_signatures k.defined) (omega (arith, counted.defined_are, counted.few_defined))
          held.defined_rows;
      function_rows = rows_elsewhere places placesAfter low function_signature (map signature_of k.functions)
          (omega (arith, counted.functions_are, counted.few_functions))
          held.function_rows;
      all = held.all;
      rest = held.rest;
      nodes_are = held.nodes_are;
      rows_are = held.rows_are;
      plain = held.plain;
      bodies_at = bodies_same held.all _ _ 0 (definitions_of k.defined) (λ j h. rw (get_or-drop, get_or-drop)
          (same (bodies_place + (0 + j)) (omega (arith, counted.defined_are, counted.few_defined)))) held.bodies_at;
      constraints_at = stated_same held.all places placesAfter 0 k.constraints (λ j h.
          same (constraints_place + j) (omega (arith, counted.constraints_are, counted.few_constraints))) held.constraints_at;
      assumptions_at = stated_same held.all places placesAfter first_assumption k.assumptions (λ j h.
          same (constraints_place + j) (omega (arith, counted.assumptions_are, counted.few_assumptions))) held.assumptions_at;
    }
