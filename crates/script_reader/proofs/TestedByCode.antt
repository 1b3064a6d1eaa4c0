-- The test of a command by its code: what each command asks, and what it gives.
use Prim.Native.Nat.{ℕ, ◌+◌, ◌≤◌, ◌<◌}
use Prim.Native.String.{String}
use native.Mathlib.Omega.{arith}
use mathlib.Core.Bool.{Bool, true, false, cond, ◌||◌}
use mathlib.Core.List.{List}
use mathlib.Core.Path.{◌≡◌, refl, sym, ap, subst, subst⁻¹, ◌∙◌}
use lib.ListN.{length}
use lib.Dec.{eqb}
use borrow.Author.Tests.{eqb-false, ne_eqb}
use Rattle.lexemes.specs.Lists.{Items, is, item}
use Rattle.lexemes.specs.code.Table.{code_at}
use Rattle.lexemes.specs.code.Codes.{assume_code, constraint_code, declare_var_code, define_fun_code, synth_fun_code}
use Rattle.forest.specs.Limits.{allowed, most_assumptions, most_constraints, most_defined, most_functions, most_variables}
use Rattle.script.specs.Script.{Known, known_after, limit_place, tested}
use Rattle.script.specs.code.Answers.{name_answer}
use Rattle.script.specs.code.Tables.{CommandOf, Says, TablesHold}
use Rattle.script.specs.declared.Progress.{Progress}
use Rattle.script.specs.declared.Verdict.{Verdict}
use Rattle.commands.specs.code.State.{Stated, Stating, stated_word}
use Rattle.commands.specs.code.DeclareVar.{Declared, Declaring}
use Rattle.commands.specs.code.DefineFun.{Defined, Defining}
use Rattle.synth_fun.specs.code.Synthesizing.{Synthesized, Synthesizing}
use Rattle.script_reader.specs.code.Commands.{said_by}
use Rattle.script_reader.specs.code.Command.{CommandTested, Shaped, said_at}
use Rattle.script_reader.specs.code.Taken.{TakenBy}
use Rattle.script_reader.proofs.CommandWords.{ends_in, tests}
use Rattle.script.proofs.CommandByCode.{Chosen}
use Rattle.script_reader.proofs.KnownAfter.{counted_after, names_kept, places_kept, same_assumptions, same_constraints, same_defined, same_functions}
use Rattle.script_reader.proofs.KnownAfter.{same_variables}
use Rattle.script_reader.proofs.JudgedInOrder.{fewer, others_pass, within_limits}

-- The code of `constraint` or `assume`.
abbrev pub stated_code : (assumed : Bool) → ℕ
stated_code assumed = cond assumed assume_code constraint_code

-- It is that of no other command, and of one that says a term.
record OtherCodes (code : ℕ) : Type 0 where
  declares : eqb code declare_var_code ≡ false
  defines : eqb code define_fun_code ≡ false
  synthesizes : eqb code synth_fun_code ≡ false
  says_term : eqb code define_fun_code || eqb code constraint_code || eqb code assume_code ≡ true

other_codes : (assumed : Bool) → OtherCodes (stated_code assumed)
other_codes true = record { declares = refl; defines = refl; synthesizes = refl; says_term = refl }
other_codes false = record { declares = refl; defines = refl; synthesizes = refl; says_term = refl }

-- A command of such a code has no new names.
none_new : {code : ℕ} → OtherCodes code → {names : List ℕ} {p : Progress} {k : Known} {c : Items} → TakenBy code names p k c
none_new {code} o = record {
  variable = λ e. absurd (eqb-false code declare_var_code o.declares e);
  definition = λ e. absurd (eqb-false code define_fun_code o.defines e);
  function = λ e. absurd (eqb-false code synth_fun_code o.synthesizes e);
}

-- The tables hold what is known, in no more rows than words before the one given.
pub record Held (names places nodes forms : List ℕ) (q : Progress) (k : Known) (close : ℕ) : Type 0 where
  pub tables : TablesHold names places nodes forms q k
  pub nodes_within : q.nodes ≤ close
  pub forms_within : q.forms ≤ close

module _ {text lexemes names raw places nodes forms : List ℕ} {p : Progress} {code i nowhere : ℕ} (coded : code ≡ code_at lexemes (i + 1))
    (c : Shaped text lexemes names raw places nodes forms p i nowhere) where
  -- What is known before the command.
  abbrev pub known : Known
  known = c.commanded.known

  -- The command.
  abbrev pub command : Items
  command = c.commanded.here.command

  -- What is known after it.
  abbrev pub later : Known
  later = known_after known command

  -- The tests of its word.
  pub command_is : {m : ℕ} → code ≡ m → Chosen command m
  command_is e = subst (λ (m : ℕ). Chosen command m) e (tests c.commanded.here coded)

  -- A test of the command from what holds of its code.
  by_code : {m : ℕ} → code ≡ m → {namesAfter placesAfter nodesAfter formsAfter : List ℕ} {v : Verdict}
      → Says v (tested allowed nowhere known i command later)
      → (v.number ≡ name_answer → TakenBy m namesAfter p known command)
      → (v.number ≡ 0 → Held namesAfter placesAfter nodesAfter formsAfter (said_by p m v.rows) later c.commanded.here.close)
      → CommandTested c namesAfter placesAfter nodesAfter formsAfter v
  by_code e {namesAfter} {placesAfter} {nodesAfter} {formsAfter} {v} says taken held =
      let holds : v.number ≡ 0 → Held namesAfter placesAfter nodesAfter formsAfter (said_at lexemes p i v.rows) later c.commanded.here.close
      = λ z. subst⁻¹
      (λ (m : ℕ). Held namesAfter placesAfter nodesAfter formsAfter (said_by p m v.rows) later c.commanded.here.close) (sym coded ∙ e) (held z) in
      record {
        verdict_is = says;
        tables = λ z. (holds z).tables;
        taken = λ z. subst⁻¹ (λ (m : ℕ). TakenBy m namesAfter p known command) (sym coded ∙ e) (taken z);
        nodes_within = λ z. (holds z).nodes_within;
        forms_within = λ z. (holds z).forms_within;
      }

  -- The command, by its word.
  abbrev pub command_of : {word : String} → is word (item 0 command) ≡ true → CommandOf word text lexemes p i nowhere
  command_of by = record { here = c.commanded.here; by = by; shaped = c.shaped; known = known; counted = c.commanded.tables.counted }

  -- What `declare-var` asks.
  abbrev pub declaring : code ≡ declare_var_code → Declaring text lexemes names p i nowhere
  declaring e = record {
    of = command_of (command_is e).declares;
    names_hold = c.commanded.tables.names_hold;
  }

  -- What `define-fun` asks.
  abbrev pub defining : code ≡ define_fun_code → Defining text lexemes names raw places nodes p i nowhere
  defining e = record {
    of = command_of (command_is e).defines;
    names_hold = c.commanded.tables.names_hold;
    places_hold = c.commanded.tables.places_hold;
    raw_room = c.commanded.roomy.raw_room;
    nodes_room = c.commanded.roomy.nodes_room;
    within = c.commanded.nodes_within;
  }

  -- What `synth-fun` asks.
  abbrev pub synthesizing : code ≡ synth_fun_code → Synthesizing text lexemes names raw places forms p i nowhere
  synthesizing e = record {
    of = command_of (command_is e).synthesizes;
    names_hold = c.commanded.tables.names_hold;
    nodes = nodes;
    places_hold = c.commanded.tables.places_hold;
    grammars_hold = c.commanded.tables.grammars_hold;
    raw_room = c.commanded.roomy.raw_room;
    forms_room = c.commanded.roomy.forms_room;
    within = c.commanded.forms_within;
  }

  -- It is a `constraint` or an `assume`.
  pub stated_is : (assumed : Bool) → code ≡ stated_code assumed → is (stated_word assumed) (item 0 command) ≡ true
  stated_is true e = (command_is e).assumes
  stated_is false e = (command_is e).constrains

  -- What `constraint` and `assume` ask.
  abbrev pub stating : (assumed : Bool) → code ≡ stated_code assumed → Stating text lexemes names raw places nodes p i nowhere assumed
  stating assumed e = record {
    of = command_of (stated_is assumed e);
    names_hold = c.commanded.tables.names_hold;
    places_hold = c.commanded.tables.places_hold;
    raw_room = c.commanded.roomy.raw_room;
    nodes_room = c.commanded.roomy.nodes_room;
    within = c.commanded.nodes_within;
  }

  -- A command that passes is not past a limit.
  limits : (v : Verdict) → Says v (tested allowed nowhere known i command later) → v.number ≡ 0 → nowhere ≤ limit_place allowed nowhere known i command
  limits v says z = within_limits allowed nowhere known i command later v says z

  -- It stands before the end of the text.
  ahead : i < nowhere
  ahead = let e = ends_in c.commanded.here in omega arith

  -- What a `declare-var` gives.
  pub declared : (e : code ≡ declare_var_code) {namesAfter : List ℕ} {v : Verdict} → Declared (declaring e) namesAfter v
      → CommandTested c namesAfter places nodes forms v
  unfolding limit_place
  declared e {namesAfter} {v} g = by_code e g.verdict_is taken held
    where
      taken : v.number ≡ name_answer → TakenBy declare_var_code namesAfter p known command
      taken z = record { variable = λ q. g.taken z; definition = λ q. absurd (omega arith); function = λ q. absurd (omega arith) }

      held : v.number ≡ 0 → Held namesAfter places nodes forms (said_by p declare_var_code v.rows) later c.commanded.here.close
      held z =
          let before = c.commanded in
          let n = before.tables.counted in
          let ends = ends_in before.here in
          let t = command_is e in
          let most = rw t.declares at (limits v g.verdict_is z) in
          let room = fewer nowhere most_variables (length known.variables) i _ ahead most in
          let functions = same_functions known t refl in
          record {
            tables = record {
              counted = counted_after known t v.rows n (omega arith) n.few_defined n.few_functions n.few_constraints n.few_assumptions;
              names_hold = g.names_hold z;
              places_hold = places_kept (same_defined known t refl) functions (same_constraints known t refl) (same_assumptions known t refl)
                  before.tables.places_hold;
              grammars_hold = rw functions before.tables.grammars_hold;
              forms_room = before.tables.forms_room;
            };
            nodes_within = omega (arith, before.nodes_within);
            forms_within = omega (arith, before.forms_within);
          }

  -- What a `define-fun` gives.
  pub defined : (e : code ≡ define_fun_code) {namesAfter rawAfter placesAfter nodesAfter : List ℕ} {v : Verdict}
      → Defined (defining e) namesAfter rawAfter placesAfter nodesAfter v
      → CommandTested c namesAfter placesAfter nodesAfter forms v
  unfolding limit_place
  defined e {namesAfter} {rawAfter} {placesAfter} {nodesAfter} {v} g = by_code e g.verdict_is taken held
    where
      taken : v.number ≡ name_answer → TakenBy define_fun_code namesAfter p known command
      taken z = record { variable = λ q. absurd (omega arith); definition = λ q. g.taken z; function = λ q. absurd (omega arith) }

      held : v.number ≡ 0 → Held namesAfter placesAfter nodesAfter forms (said_by p define_fun_code v.rows) later c.commanded.here.close
      held z =
          let before = c.commanded in
          let n = before.tables.counted in
          let ends = ends_in before.here in
          let t = command_is e in
          let most = rw (t.declares, t.defines) at (limits v g.verdict_is z) in
          let room = fewer nowhere most_defined (length known.defined) i _ ahead most in
          record {
            tables = record {
              counted = counted_after known t v.rows n n.few_variables (omega arith) n.few_functions n.few_constraints n.few_assumptions;
              names_hold = g.names_hold z;
              places_hold = g.places_hold z;
              grammars_hold = rw (same_functions known t refl, g.kept) before.tables.grammars_hold;
              forms_room = before.tables.forms_room;
            };
            nodes_within = g.within z;
            forms_within = omega (arith, before.forms_within);
          }

  -- What a `synth-fun` gives.
  pub synthesized : (e : code ≡ synth_fun_code) {namesAfter rawAfter placesAfter formsAfter : List ℕ} {v : Verdict}
      → Synthesized (synthesizing e) namesAfter rawAfter placesAfter formsAfter v
      → CommandTested c namesAfter placesAfter nodes formsAfter v
  unfolding limit_place
  synthesized e {namesAfter} {rawAfter} {placesAfter} {formsAfter} {v} g = by_code e g.verdict_is taken held
    where
      taken : v.number ≡ name_answer → TakenBy synth_fun_code namesAfter p known command
      taken z = record { variable = λ q. absurd (omega arith); definition = λ q. absurd (omega arith); function = λ q. g.taken z }

      held : v.number ≡ 0 → Held namesAfter placesAfter nodes formsAfter (said_by p synth_fun_code v.rows) later c.commanded.here.close
      held z =
          let before = c.commanded in
          let n = before.tables.counted in
          let ends = ends_in before.here in
          let t = command_is e in
          let most = rw (t.declares, t.defines, t.synthesizes) at (limits v g.verdict_is z) in
          let room = fewer nowhere most_functions (length known.functions) i _ ahead most in
          record {
            tables = record {
              counted = counted_after known t v.rows n n.few_variables n.few_defined (omega arith) n.few_constraints n.few_assumptions;
              names_hold = g.names_hold z;
              places_hold = g.places_hold z;
              grammars_hold = g.grammars_hold z;
              forms_room = omega (arith, g.within z, g.forms_long, before.roomy.forms_room);
            };
            nodes_within = omega (arith, before.nodes_within);
            forms_within = g.within z;
          }

  -- There are no more of them than there may be.
  few_stated : (assumed : Bool) → code ≡ stated_code assumed → (v : Verdict) → Says v (tested allowed nowhere known i command later) → v.number ≡ 0
      → let q = said_by p (stated_code assumed) v.rows in (q.constraints ≤ most_constraints) × (q.assumptions ≤ most_assumptions)
  unfolding limit_place
  few_stated true e v says z =
      let n = c.commanded.tables.counted in
      let t = command_is e in
      let most = rw (t.declares, t.defines, t.synthesizes, t.constrains, t.assumes) at (limits v says z) in
      let room = fewer nowhere most_assumptions (length known.assumptions) i _ ahead most in
      (n.few_constraints, omega (arith, n.assumptions_are))
  few_stated false e v says z =
      let n = c.commanded.tables.counted in
      let t = command_is e in
      let most = rw (t.declares, t.defines, t.synthesizes, t.constrains) at (limits v says z) in
      let room = fewer nowhere most_constraints (length known.constraints) i _ ahead most in
      (omega (arith, n.constraints_are), n.few_assumptions)

  -- What a `constraint` and an `assume` give.
  pub stated : (assumed : Bool) (e : code ≡ stated_code assumed) {rawAfter placesAfter nodesAfter : List ℕ} {v : Verdict}
      → Stated (stating assumed e) rawAfter placesAfter nodesAfter v
      → CommandTested c names placesAfter nodesAfter forms v
  stated assumed e {rawAfter} {placesAfter} {nodesAfter} {v} g = by_code e g.verdict_is (λ z. none_new (other_codes assumed)) held
    where
      held : v.number ≡ 0 → Held names placesAfter nodesAfter forms (said_by p (stated_code assumed) v.rows) later c.commanded.here.close
      held z =
          let before = c.commanded in
          let n = before.tables.counted in
          let ends = ends_in before.here in
          let t = command_is e in
          let o = other_codes assumed in
          let few = few_stated assumed e v g.verdict_is z in
          let functions = same_functions known t o.synthesizes in
          record {
            tables = record {
              counted =
                  counted_after known t v.rows n
                  (rw o.declares n.few_variables)
                  (rw o.defines n.few_defined)
                  (rw o.synthesizes n.few_functions)
                  few.0
                  few.1;
              names_hold = names_kept (same_defined known t o.defines) functions (same_variables known t o.declares) before.tables.names_hold;
              places_hold = rw o.says_term (g.places_hold z);
              grammars_hold = rw (o.synthesizes, functions, g.kept) before.tables.grammars_hold;
              forms_room = rw o.synthesizes before.tables.forms_room;
            };
            nodes_within = rw o.says_term (g.within z);
            forms_within = rw o.synthesizes (omega (arith, before.forms_within));
          }

  -- What the other commands give.
  pub others : (code ≡ declare_var_code → ⊥) → (code ≡ define_fun_code → ⊥) → (code ≡ synth_fun_code → ⊥) → (code ≡ constraint_code → ⊥)
      → (code ≡ assume_code → ⊥) → {v : Verdict} → v ≡ record { number = 0; place = i; rows = 0 }
      → CommandTested c names places nodes forms v
  others n9 n10 n11 n12 n14 {v} e =
      let before = c.commanded in
      let n = before.tables.counted in
      let ends = ends_in before.here in
      let t = command_is refl in
      let e9 = ne_eqb code declare_var_code n9 in
      let e10 = ne_eqb code define_fun_code n10 in
      let e11 = ne_eqb code synth_fun_code n11 in
      let e12 = ne_eqb code constraint_code n12 in
      let e14 = ne_eqb code assume_code n14 in
      let functions = same_functions known t e11 in
      let defined = same_defined known t e10 in
      let zero : v.number ≡ 0 = ap (λ (w : Verdict). w.number) e in
      by_code refl (rw (others_pass allowed nowhere known i command later t e9 e10 e11 e12 e14) zero) (λ z. absurd (omega arith)) (λ z. record {
        tables = record {
          counted =
              counted_after known t v.rows n
              (rw e9 n.few_variables)
              (rw e10 n.few_defined)
              (rw e11 n.few_functions)
              (rw e12 n.few_constraints)
              (rw e14 n.few_assumptions);
          names_hold = names_kept defined functions (same_variables known t e9) before.tables.names_hold;
          places_hold = rw (e10, e12, e14) (places_kept defined functions (same_constraints known t e12) (same_assumptions known t e14)
              before.tables.places_hold);
          grammars_hold = rw (e11, functions) before.tables.grammars_hold;
          forms_room = rw e11 before.tables.forms_room;
        };
        nodes_within = rw (e10, e12, e14) (omega (arith, before.nodes_within));
        forms_within = rw e11 (omega (arith, before.forms_within));
      })
