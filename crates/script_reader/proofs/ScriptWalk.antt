-- The walk along the commands of a script.
use Prim.Native.Nat.{ℕ, ◌-◌, ◌≤◌, ◌<◌}
use native.Mathlib.Omega.{arith}
use mathlib.Core.Bool.{Bool, true, false, cond}
use mathlib.Core.List.{List}
use mathlib.Core.Path.{◌≡◌, refl, sym, ap, ◌∙◌, subst, subst⁻¹}
use lib.ListN.{length}
use Rattle.forest.specs.Forest.{nodes_of, none, tree}
use Rattle.forest.specs.code.Cursors.{size}
use Rattle.forest.specs.Tables.{rows}
use Rattle.words.specs.Trees.{Lexeme, word_of}
use Rattle.lexemes.specs.Lists.{Items}
use Rattle.lexemes.specs.code.Table.{code_at, next_at, open_code}
use Rattle.lexemes.specs.code.Standing.{ItemAt, Stands}
use Rattle.lexemes.proofs.Listed.{at_item, is-list, item_ahead, list_from, no_list}
use Rattle.lexemes.proofs.Standing.{forward, none_left, some_left}
use Rattle.term_nodes.proofs.TermWords.{first_of}
use Rattle.terms.specs.code.Nodes.{AllPlain, node_table}
use Rattle.evaluation.specs.code.Tables.{BodiesAt}
use Rattle.term_sorts.specs.code.Signatures.{RowsAre}
use Rattle.names.specs.Scopes.{in_order}
use Rattle.names.specs.code.Lookup.{Names, source_of}
use Rattle.names.specs.code.Table.{declared_from, names_from, sorts_from}
use Rattle.forest.specs.Limits.{allowed}
use Rattle.script.specs.Script.{Known, Read, and_then, judged, known_after, passed, read_all, refused, nothing_known}
use Rattle.script.specs.code.Tables.{ArgumentsHold, GrammarsHold, StatedAt, TablesHold, declared_in_order}
use Rattle.script.specs.code.Places.{places_length}
use Rattle.script.specs.declared.Progress.{Progress}
use Rattle.script.specs.code.Answers.{shape_answer}
use Rattle.script_reader.specs.code.Commands.{Reads}
use Rattle.script_reader.specs.code.Scripts.{ScriptAt, ScriptRead, last_step, nothing_said}
use Rattle.script_reader.specs.code.Command.{CommandRead, Commanded}
use Rattle.script_reader.specs.declared.Step.{Step}
use Rattle.script_reader.proofs.CommandWords.{ends_in}
use Rattle.script_reader.proofs.JudgedInOrder.{Numbered, judged_numbered}

-- Before the first command the tables hold that nothing is known.
pub nothing_held : {names places : List ℕ} (nodes forms : List ℕ) → Names names → length places ≡ places_length
    → TablesHold names places nodes forms nothing_said nothing_known
unfolding names_from sorts_from declared_from in_order declared_in_order ArgumentsHold RowsAre AllPlain BodiesAt StatedAt GrammarsHold node_table nodes_of rows size
nothing_held nodes forms table long = record {
  counted = record {
    logic_is = refl;
    weights_is = refl;
    ended_is = refl;
    variables_are = refl;
    defined_are = refl;
    functions_are = refl;
    constraints_are = refl;
    assumptions_are = refl;
    few_variables = omega arith;
    few_defined = omega arith;
    few_functions = omega arith;
    few_constraints = omega arith;
    few_assumptions = omega arith;
  };
  names_hold = record {
    table = table;
    variables_are = refl;
    variable-sorts = refl;
    defined_are = refl;
    functions_are = refl;
    arguments_are = tt;
    placed = record { variables_are = refl; defined_are = refl; functions_are = refl };
  };
  places_hold = record {
    long = long;
    defined_rows = tt;
    function_rows = tt;
    all = none;
    rest = nodes;
    nodes_are = refl;
    rows_are = refl;
    plain = tt;
    bodies_at = tt;
    constraints_at = tt;
    assumptions_at = tt;
  };
  grammars_hold = tt;
  forms_room = omega arith;
}

-- What passes, and the tables that hold what is then known.
record Passes (r : Read) (names places nodes forms : List ℕ) (s : Step) : Type 0 where
  known : Known
  is : r ≡ passed known
  tables : TablesHold names places nodes forms s.progress known

-- What is read and is no refusal passes.
passes : (r : Read) (names places nodes forms : List ℕ) (s : Step) → Numbered r → Reads r names places nodes forms s → s.number ≡ 0
    → Passes r names places nodes forms s
passes (refused number place second) names places nodes forms s some h z = absurd (omega (arith, h.0))
passes (passed k) names places nodes forms s some h z = record { known = k; is = refl; tables = h.1 }

-- A refusal ends the reading.
ends_reading : (r : Read) (next : Known → Read) (names places nodes forms : List ℕ) (s : Step) → Reads r names places nodes forms s → (s.number ≡ 0 → ⊥)
    → Reads (and_then r next) names places nodes forms s
ends_reading (refused number place second) next names places nodes forms s h ne = h
ends_reading (passed k) next names places nodes forms s h ne = absurd (ne h.0)

-- The items from word `at` on are left; the tables hold what is known; and what is read of the rest is what is read of the script.
pub record Left (text lexemes names places nodes forms : List ℕ) (nowhere : ℕ) (all : Read) (p : Progress) (at : ℕ) : Type 0 where
  pub items : Items
  pub stands : Stands (source_of text lexemes) at items nowhere
  pub known : Known
  pub tables : TablesHold names places nodes forms p known
  pub same : read_all allowed nowhere known items ≡ all
  pub nodes_within : p.nodes ≤ at
  pub forms_within : p.forms ≤ at

-- The same of whatever script is given.
pub record Walk (text lexemes names₀ raw₀ places₀ nodes₀ forms₀ : List ℕ) (nowhere : ℕ) (names raw places nodes forms : List ℕ) (p : Progress) (at : ℕ)
    : Type 0 where
  pub given : ScriptAt text lexemes names₀ raw₀ places₀ nodes₀ forms₀ nowhere
  pub left : (g : ScriptAt text lexemes names₀ raw₀ places₀ nodes₀ forms₀ nowhere)
      → Left text lexemes names places nodes forms nowhere (read_all allowed nowhere nothing_known g.items) p at
  pub names_long : length names ≡ length names₀
  pub raw_long : length raw ≡ length raw₀
  pub places_long : length places ≡ length places₀
  pub nodes_long : length nodes ≡ length nodes₀
  pub forms_long : length forms ≡ length forms₀

module _ {text lexemes names₀ raw₀ places₀ nodes₀ forms₀ : List ℕ} {nowhere : ℕ} where
  -- The walk begins at the first word.
  pub walk_start : {p : Progress} → p ≡ nothing_said → ScriptAt text lexemes names₀ raw₀ places₀ nodes₀ forms₀ nowhere
      → Walk text lexemes names₀ raw₀ places₀ nodes₀ forms₀ nowhere names₀ raw₀ places₀ nodes₀ forms₀ p 0
  walk_start {p} e given = record {
    given = given;
    left = λ g. record {
      items = g.items;
      stands = g.stands;
      known = nothing_known;
      tables = subst⁻¹ (λ (q : Progress). TablesHold names₀ places₀ nodes₀ forms₀ q nothing_known) e (nothing_held nodes₀ forms₀ g.table g.long);
      same = refl;
      nodes_within = omega (arith, ap (λ (q : Progress). q.nodes) e);
      forms_within = omega (arith, ap (λ (q : Progress). q.forms) e);
    };
    names_long = refl;
    raw_long = refl;
    places_long = refl;
    nodes_long = refl;
    forms_long = refl;
  }

  module _ {names raw places nodes forms : List ℕ} {p : Progress} {at : ℕ}
      (w : Walk text lexemes names₀ raw₀ places₀ nodes₀ forms₀ nowhere names raw places nodes forms p at) where
    -- At the end of the script.
    pub walk_end : nowhere ≤ at → {s : Step} → s ≡ last_step nowhere p.ended p
        → (g : ScriptAt text lexemes names₀ raw₀ places₀ nodes₀ forms₀ nowhere) → ScriptRead g names places nodes forms s
    unfolding read_all
    walk_end over {s} e g = record {
      reads =
          subst (λ (r : Read). Reads r names places nodes forms s) all
          (subst⁻¹ (λ (t : Step). Reads (cond x.known.ended (passed x.known) (refused shape_answer nowhere 0)) names places nodes forms t) e
          (go x.known.ended x.tables.counted.ended_is));
      nodes_within = λ z. omega (arith, ap (λ (t : Step). t.progress.nodes) e, x.nodes_within, forward x.stands);
    }
      where
        x : Left text lexemes names places nodes forms nowhere (read_all allowed nowhere nothing_known g.items) p at
        x = w.left g

        all : read_all allowed nowhere x.known none ≡ read_all allowed nowhere nothing_known g.items
        all = ap (λ (F : Items). read_all allowed nowhere x.known F) (sym (none_left x.stands over)) ∙ x.same

        go : (b : Bool) → p.ended ≡ b
            → Reads (cond b (passed x.known) (refused shape_answer nowhere 0)) names places nodes forms (last_step nowhere p.ended p)
        go true q = (ap (λ (t : Bool). cond t 0 shape_answer) q, x.tables)
        go false q = (ap (λ (t : Bool). cond t 0 shape_answer) q, refl, refl)

    module _ (within : at < nowhere) where
      -- The item that stands there.
      abbrev pub item-at : (g : ScriptAt text lexemes names₀ raw₀ places₀ nodes₀ forms₀ nowhere) → ItemAt lexemes at
      item-at g =
          let x = w.left g in
          let t = some_left x.stands within in
          record {
            source = source_of text lexemes;
            same = refl;
            label = t.l;
            operands = t.ops;
            more = t.rest;
            end = nowhere;
            stands = subst (λ (F : Items). Stands (source_of text lexemes) at F nowhere) t.is x.stands;
          }

      -- What is read of it and of what stands behind it.
      read_here : (g : ScriptAt text lexemes names₀ raw₀ places₀ nodes₀ forms₀ nowhere)
          → let x = item-at g in
          read_all allowed nowhere (w.left g).known (tree x.label x.operands x.more) ≡ read_all allowed nowhere nothing_known g.items
      read_here g =
          let x = w.left g in
          ap (λ (F : Items). read_all allowed nowhere x.known F) (sym (some_left x.stands within).is) ∙ x.same

      module _ {code : ℕ} (coded : code ≡ code_at lexemes at) where
        -- A word that is in no command.
        pub walk_word : (code ≡ open_code → ⊥) → {s : Step} → s ≡ record { number = shape_answer; place = at; second = 0; progress = p }
            → (g : ScriptAt text lexemes names₀ raw₀ places₀ nodes₀ forms₀ nowhere) → ScriptRead g names places nodes forms s
        unfolding read_all
        walk_word other {s} e g =
            let x = item-at g in
            let k = (w.left g).known in
            let word = no_list coded other x in
            let place : word_of x.label ≡ at = first_of x.stands in
            let read : read_all allowed nowhere k (tree x.label x.operands x.more) ≡ refused shape_answer at 0 = rw (word, place) in
            let number : s.number ≡ shape_answer = ap (λ (t : Step). t.number) e in
            record {
              reads = subst (λ (r : Read). Reads r names places nodes forms s) (sym read ∙ read_here g)
                  (number, ap (λ (t : Step). t.place) e, ap (λ (t : Step). t.second) e);
              nodes_within = λ z. absurd (omega arith);
            }

        module _ (opens : code ≡ open_code) where
          -- A command.
          abbrev pub command_at : (g : ScriptAt text lexemes names₀ raw₀ places₀ nodes₀ forms₀ nowhere)
              → Commanded text lexemes names raw places nodes forms p at nowhere
          command_at g =
              let x = w.left g in
              let l = list_from (item-at g) (is-list coded opens (item-at g)) in
              record {
                here = record {
                  close = l.close;
                  command = l.operands;
                  more = l.more;
                  end = nowhere;
                  stands = l.stands;
                  lawful = g.lawful;
                  few = g.few;
                };
                known = x.known;
                tables = x.tables;
                roomy = record {
                  raw_room = omega (arith, g.roomy.raw_room, w.raw_long);
                  nodes_room = omega (arith, g.roomy.nodes_room, w.nodes_long);
                  forms_room = omega (arith, g.roomy.forms_room, w.forms_long);
                };
                nodes_within = x.nodes_within;
                forms_within = x.forms_within;
              }

          -- What is read of it and of what stands behind it.
          reading : (g : ScriptAt text lexemes names₀ raw₀ places₀ nodes₀ forms₀ nowhere)
              → let c = command_at g in
              and_then (judged allowed nowhere c.known at c.here.command (known_after c.known c.here.command))
              (λ (later : Known). read_all allowed nowhere later c.here.more)
              ≡ read_all allowed nowhere nothing_known g.items
          unfolding read_all
          reading g =
              let x = item-at g in
              let label = ((at_item x).a_list (is-list coded opens x)).label in
              ap (λ (l : Lexeme). read_all allowed nowhere (w.left g).known (tree l x.operands x.more)) (sym label) ∙ read_here g

          module _ {namesAfter placesAfter nodesAfter formsAfter : List ℕ} {s : Step}
              (read : (c : Commanded text lexemes names raw places nodes forms p at nowhere)
              → CommandRead c namesAfter placesAfter nodesAfter formsAfter s) where
            -- The command is refused.
            pub walk_stop : (s.number ≡ 0 → ⊥)
                → (g : ScriptAt text lexemes names₀ raw₀ places₀ nodes₀ forms₀ nowhere) → ScriptRead g namesAfter placesAfter nodesAfter formsAfter s
            walk_stop faulty g =
                let c = command_at g in
                let said = known_after c.known c.here.command in
                record {
                  reads =
                      subst (λ (r : Read). Reads r namesAfter placesAfter nodesAfter formsAfter s) (reading g)
                      (ends_reading
                      (judged allowed nowhere c.known at c.here.command said)
                      (λ (later : Known). read_all allowed nowhere later c.here.more)
                      namesAfter placesAfter nodesAfter formsAfter s
                      (read c).reads
                      faulty);
                  nodes_within = λ z. absurd (faulty z);
                }

            module _ {next : ℕ} (behind : next ≡ next_at lexemes at) where
              -- There is less of the script left.
              pub walk_less : nowhere - next < nowhere - at
              walk_less = omega (arith, item_ahead (item-at w.given) behind)

              -- The command passes, and the walk goes on behind it.
              pub walk_turn : {rawAfter : List ℕ} → s.number ≡ 0 → length namesAfter ≡ length names → length rawAfter ≡ length raw
                  → length placesAfter ≡ length places → length nodesAfter ≡ length nodes → length formsAfter ≡ length forms
                  → Walk text lexemes names₀ raw₀ places₀ nodes₀ forms₀ nowhere namesAfter rawAfter placesAfter nodesAfter formsAfter s.progress next
              walk_turn z names_same raw_same places_same nodes-same forms-same = record {
                given = w.given;
                left = λ g.
                    let c = command_at g in
                    let r = read c in
                    let ends = ends_in c.here in
                    let said = known_after c.known c.here.command in
                    let after = passes (judged allowed nowhere c.known at c.here.command said) namesAfter placesAfter nodesAfter formsAfter s
                    (judged_numbered allowed nowhere c.known at c.here.command said) r.reads z in
                    record {
                      items = c.here.more;
                      stands = subst⁻¹ (λ (n : ℕ). Stands (source_of text lexemes) n c.here.more nowhere) behind (at_item (item-at g)).rest;
                      known = after.known;
                      tables = after.tables;
                      same = ap (λ (x : Read). and_then x (λ (later : Known). read_all allowed nowhere later c.here.more)) (sym after.is) ∙ reading g;
                      nodes_within = omega (arith, r.nodes_within z, ends.next);
                      forms_within = omega (arith, r.forms_within z, ends.next);
                    };
                names_long = names_same ∙ w.names_long;
                raw_long = raw_same ∙ w.raw_long;
                places_long = places_same ∙ w.places_long;
                nodes_long = nodes-same ∙ w.nodes_long;
                forms_long = forms-same ∙ w.forms_long;
              }
