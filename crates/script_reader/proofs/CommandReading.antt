-- The reading of a command: 6, 5, and its own tests.
use Prim.Native.Nat.{ℕ, ◌+◌, ◌<◌}
use native.Mathlib.Omega.{arith}
use mathlib.Core.Bool.{Bool, true, false, ◌||◌, not}
use mathlib.Core.List.{List}
use mathlib.Core.Path.{◌≡◌, sym, ap, ap₂, ◌∙◌, subst⁻¹}
use borrow.Author.Tests.{not-false}
use Rattle.forest.proofs.Bools.{or_left}
use Rattle.lexemes.specs.code.Table.{code_at}
use Rattle.lexemes.specs.code.Standing.{ListAt}
use Rattle.shapes.specs.Carried.{is_not_carried}
use Rattle.shapes.specs.Shapes.{command_shape}
use Rattle.forest.specs.Limits.{allowed, script_words}
use Rattle.script.specs.Script.{Read, judged, known_after, out_of_place, refused}
use Rattle.script.specs.code.Tables.{TablesHold}
use Rattle.script.specs.declared.Progress.{Progress}
use Rattle.script.specs.declared.Verdict.{Verdict}
use Rattle.script.specs.code.Answers.{name_answer, shape_answer, uncarried_answer}
use Rattle.script_reader.specs.code.Commands.{Reads, said_by}
use Rattle.script_reader.specs.code.Taken.{FindsSecond, Refused}
use Rattle.script_reader.specs.code.Progress.{Few, Stepped, out_of_place_by}
use Rattle.script_reader.specs.code.Command.{CommandRead, CommandTested, Commanded, Shaped, said_at}
use Rattle.script_reader.specs.declared.Step.{Step}
use Rattle.script_reader.proofs.CommandWords.{ends_in, listed, tests, word_fits}
use Rattle.script_reader.proofs.KnownAfter.{out_by}
use Rattle.script_reader.proofs.JudgedInOrder.{judged_misplaced, judged_placed, judged_uncarried, reads_by}

module _ {text lexemes names raw places nodes forms : List ℕ} {p : Progress} {i nowhere : ℕ} where
  -- The word of the command has a number.
  pub word_near : Commanded text lexemes names raw places nodes forms p i nowhere → i + 1 < script_words
  word_near c = word_fits c.here

  -- A refusal of the command itself.
  refusal : (c : Commanded text lexemes names raw places nodes forms p i nowhere) {s : Step} (number : ℕ) → 0 < number
      → s ≡ record { number = number; place = i; second = 0; progress = p }
      → judged allowed nowhere c.known i c.here.command (known_after c.known c.here.command) ≡ refused number i 0
      → CommandRead c names places nodes forms s
  refusal c {s} number some e is =
      let number_is : s.number ≡ number = ap (λ (t : Step). t.number) e in
      let place_is : s.place ≡ i = ap (λ (t : Step). t.place) e in
      record {
        reads = subst⁻¹ (λ (r : Read). Reads r names places nodes forms s) is (number_is, place_is, ap (λ (t : Step). t.second) e);
        nodes_within = λ z. absurd (omega arith);
        forms_within = λ z. absurd (omega arith);
      }

  module _ {uncarried : Bool} (found : (x : ListAt lexemes i) → uncarried ≡ is_not_carried p.weights x.operands) where
    -- By what is known.
    known_uncarried : (c : Commanded text lexemes names raw places nodes forms p i nowhere) → uncarried ≡ is_not_carried c.known.weights c.here.command
    known_uncarried c = found (listed c.here) ∙ ap (λ (w : Bool). is_not_carried w c.here.command) c.tables.counted.weights_is

    -- 6.
    pub read_uncarried : uncarried ≡ true → {s : Step} → s ≡ record { number = uncarried_answer; place = i; second = 0; progress = p }
        → (c : Commanded text lexemes names raw places nodes forms p i nowhere) → CommandRead c names places nodes forms s
    read_uncarried taken e c =
        refusal c uncarried_answer (omega arith) e
        (judged_uncarried allowed nowhere c.known i c.here.command _ (sym (known_uncarried c) ∙ taken))

    module _ (left : uncarried ≡ false) {code : ℕ} (coded : code ≡ code_at lexemes (i + 1)) {shape : Bool}
        (shapes : (x : ListAt lexemes i) → shape ≡ command_shape x.operands) {out : Bool} (placed : out ≡ out_of_place_by p code) where
      -- The command is carried.
      carried : (c : Commanded text lexemes names raw places nodes forms p i nowhere) → is_not_carried c.known.weights c.here.command ≡ false
      carried c = sym (known_uncarried c) ∙ left

      -- The second test is that of its shape and its place.
      test_is : (c : Commanded text lexemes names raw places nodes forms p i nowhere)
          → not shape || out ≡ not (command_shape c.here.command) || out_of_place c.known c.here.command
      test_is c = ap₂ (λ (a b : Bool). not a || b) (shapes (listed c.here)) (placed ∙ out_by c.tables.counted (tests c.here coded))

      -- 5.
      pub read_misplaced : not shape || out ≡ true → {s : Step} → s ≡ record { number = shape_answer; place = i; second = 0; progress = p }
          → (c : Commanded text lexemes names raw places nodes forms p i nowhere) → CommandRead c names places nodes forms s
      read_misplaced taken e c =
          refusal c shape_answer (omega arith) e
          (judged_misplaced allowed nowhere c.known i c.here.command _ (carried c) (sym (test_is c) ∙ taken))

      module _ (right : not shape || out ≡ false) where
        -- The command is of its shape and in its place.
        abbrev pub in_shape : Commanded text lexemes names raw places nodes forms p i nowhere
            → Shaped text lexemes names raw places nodes forms p i nowhere
        in_shape c = record {
          commanded = c;
          shaped = sym (shapes (listed c.here)) ∙ not-false shape (or_left (not shape) out right);
        }

        module _ {namesAfter placesAfter nodesAfter formsAfter : List ℕ} {v : Verdict}
            (tested : (c : Shaped text lexemes names raw places nodes forms p i nowhere)
            → CommandTested c namesAfter placesAfter nodesAfter formsAfter v) where
          -- The numbers after it are within their bounds.
          pub few_after : Commanded text lexemes names raw places nodes forms p i nowhere → v.number ≡ 0 → Few (said_by p code v.rows)
          few_after c z =
              let t = tested (in_shape c) in
              let n = (t.tables z).counted in
              let ends = ends_in c.here in
              subst⁻¹ (λ (m : ℕ). Few (said_by p m v.rows)) coded (record {
                variables = n.few_variables;
                defined = n.few_defined;
                functions = n.few_functions;
                constraints = n.few_constraints;
                assumptions = n.few_assumptions;
                nodes = omega (arith, t.nodes_within z, c.here.few);
                forms = omega (arith, t.forms_within z, c.here.few);
              })

          -- A command that is refused for a name has what tells by which it is taken.
          abbrev pub refused_here : Commanded text lexemes names raw places nodes forms p i nowhere → v.number ≡ name_answer
              → Refused lexemes namesAfter p i nowhere
          refused_here c z = record {
            text = text;
            here = c.here;
            shaped = (in_shape c).shaped;
            known = c.known;
            counted = c.tables.counted;
            taken = (tested (in_shape c)).taken z;
          }

          -- The command is read by its own tests.
          pub read_tested : {second : ℕ} → FindsSecond lexemes namesAfter (record { progress = p; at = i; nowhere = nowhere }) v second
              → {s : Step} → Stepped p code v second s → (c : Commanded text lexemes names raw places nodes forms p i nowhere)
              → CommandRead c namesAfter placesAfter nodesAfter formsAfter s
          read_tested seconds {s} step c =
              let t = tested (in_shape c) in
              let said = known_after c.known c.here.command in
              let placed-is = judged_placed allowed nowhere c.known i c.here.command said (carried c) (sym (test_is c) ∙ right) in
              let zero : s.number ≡ 0 → v.number ≡ 0 = λ z. sym step.number_is ∙ z in
              let progress : v.number ≡ 0 → s.progress ≡ said_at lexemes p i v.rows
              = λ z. step.progress_is z ∙ ap (λ (m : ℕ). said_by p m v.rows) coded in
              let tables : v.number ≡ 0 → TablesHold namesAfter placesAfter nodesAfter formsAfter s.progress said
              = λ z. subst⁻¹ (λ (q : Progress). TablesHold namesAfter placesAfter nodesAfter formsAfter q said) (progress z) (t.tables z) in
              record {
                reads = subst⁻¹ (λ (r : Read). Reads r namesAfter placesAfter nodesAfter formsAfter s) placed-is
                    (reads_by allowed nowhere c.known i c.here.command said v s namesAfter placesAfter nodesAfter formsAfter
                    t.verdict_is step.number_is step.place_is (λ ne. step.second_is ∙ seconds.none ne)
                    (λ z. step.second_is ∙ seconds.taken z (refused_here c z)) tables);
                nodes_within = λ z. rw (progress (zero z)) (t.nodes_within (zero z));
                forms_within = λ z. rw (progress (zero z)) (t.forms_within (zero z));
              }
