-- The tests of a `declare-var`, one after the other.
use Prim.Native.Nat.{ℕ, ◌+◌, ◌≤◌, ◌<◌, min}
use native.Mathlib.Omega.{arith}
use mathlib.Core.List.{List}
use mathlib.Core.Path.{◌≡◌, refl, ap, ap₂, ◌∙◌, subst⁻¹}
use lib.Dec.{ltb}
use borrow.Author.Tests.{ltb-true}
use Rattle.lexemes.specs.Lists.{inside, item}
use Rattle.written_sorts.specs.code.Places.{SortAt}
use Rattle.written_sorts.specs.Written.{sort_place}
use Rattle.written_sorts.specs.declared.Fault.TheVariants.{TooWide, Unknown, Empty}
use Rattle.forest.specs.Limits.{allowed, most_variables}
use Rattle.names.specs.code.Table.{argument_row, names_from, variable_row}
use Rattle.names.specs.code.New.{NameTested, NewName}
use Rattle.names.proofs.Members.{same_name}
use Rattle.script.specs.Limits.{command_past}
use Rattle.script.specs.Script.{grammar_place, limit_place, name_place, sorting_place}
use Rattle.script.specs.code.Tables.{Tested}
use Rattle.script.specs.declared.Progress.{Progress}
use Rattle.script.specs.declared.Verdict.{Verdict}
use Rattle.script.proofs.NamesKept.{few_before, same_scope, scope_before}
use Rattle.script.proofs.WordsBelow.{command_below, command_word, inside_below, item_below, no_fault, sort_narrow}
use Rattle.script.proofs.Verdicts.{says_limit, says_name, says_passed, says_sorting}
use Rattle.script.specs.code.Answers.{limit_answer, name_answer, sort_answer}
use Rattle.commands.specs.code.DeclareVar.{Added, Adding, Declared, Declaring, FindsLimit, LimitFound, NameFound}
use Rattle.commands.proofs.VariableItems.{is_declaring, name_item, parts, sort_here, variable_here}
use Rattle.commands.proofs.VariablePut.{names_declared, variable_put, variable_taken}

-- The word past a limit.
pub limit_found : {lexemes : List ℕ} (variables at nowhere : ℕ)
    → {wide : ℕ} → ((s : SortAt lexemes (at + 3)) → wide ≡ sort_place TooWide nowhere s.here.label s.here.operands)
    → {past : ℕ} → past ≡ command_past nowhere most_variables variables at → {r : ℕ} → r ≡ min past wide → FindsLimit lexemes variables at nowhere r
limit_found variables at nowhere known counted e s = e ∙ ap₂ min counted (known s)

module _ {text lexemes names : List ℕ} {p : Progress} {i nowhere : ℕ} where
  -- Its name is a new one.
  abbrev pub name_new : Declaring text lexemes names p i nowhere → NewName text lexemes names (scope_before p argument_row) argument_row 0 (i + 2)
  name_new d =
      let x = variable_here d.of in
      record {
        label = (name_item x).label;
        operands = (name_item x).operands;
        more = (name_item x).more;
        end = (name_item x).end;
        stands = (name_item x).stands;
        a_symbol = (parts x).named;
        table = d.names_hold.table;
        few = few_before d.of.counted argument_row (omega arith);
        fits = omega arith;
      }

  -- The word of a name at fault.
  pub name_found : {name : ℕ} → ((q : NewName text lexemes names (scope_before p argument_row) argument_row 0 (i + 2)) → NameTested q nowhere name)
      → {unknown : ℕ} → ((s : SortAt lexemes (i + 3)) → unknown ≡ sort_place Unknown nowhere s.here.label s.here.operands)
      → {r : ℕ} → r ≡ min name unknown → (d : Declaring text lexemes names p i nowhere) → NameFound d r
  unfolding names_from
  name_found tested known e d =
      let same = same_scope d.of.counted argument_row d.names_hold in
      e
      ∙ ap₂ min
      (tested (name_new d) ∙ same_name nowhere _ _ same (item 1 d.of.here.command))
      (known (sort_here (variable_here d.of)))

  -- Whatever the verdict is, but for one that passes or speaks of a name, the table makes no difference.
  refused : (d : Declaring text lexemes names p i nowhere) {after : List ℕ} {v : Verdict} → Tested d.of v → (v.number ≡ 0 → ⊥)
      → (v.number ≡ name_answer → ⊥) → Declared d after v
  refused d tested faulty named = record { verdict_is = tested; names_hold = λ e. absurd (faulty e); taken = λ e. absurd (named e) }

  module _ {limit : ℕ} (limits : (s : SortAt lexemes (i + 3)) → LimitFound s p.variables i nowhere limit) where
    -- The first place is that of the definition.
    limit_is : (d : Declaring text lexemes names p i nowhere) → limit ≡ limit_place allowed nowhere d.of.known i d.of.here.command
    unfolding limit_place
    limit_is d =
        let c = d.of.here.command in
        let wide = sort_place TooWide nowhere (item 2 c) (inside 2 c) in
        limits (sort_here (variable_here d.of))
        ∙ ap (λ (n : ℕ). min (command_past nowhere most_variables n i) wide) d.of.counted.variables_are
        ∙ rw (is_declaring d.of).declares

    -- The command is past a limit.
    pub past_limit : limit < nowhere → {v : Verdict} → v ≡ record { number = limit_answer; place = limit; rows = 0 }
        → (d : Declaring text lexemes names p i nowhere)
        → Declared d names v
    past_limit h e d = subst⁻¹ (λ (w : Verdict). Declared d names w) e
        (refused d (says_limit allowed nowhere _ i _ _ (record { number = limit_answer; place = limit; rows = 0 }) (record { number_is = refl; place_is = limit_is d; found = h })) (λ z. omega arith) (λ z. omega arith))

    module _ (limited : nowhere ≤ limit) where
      -- There is a row for the variable.
      pub one_more : Declaring text lexemes names p i nowhere → p.variables < most_variables
      one_more d =
          let first = command_word d.of.here in
          ltb-true p.variables most_variables (no_fault (ltb p.variables most_variables) first (omega (arith, limits (sort_here (variable_here d.of)))))

      -- The variable can be put into its row.
      abbrev pub adding : Declaring text lexemes names p i nowhere → Adding text lexemes names (variable_row + p.variables) i
      adding d =
          let x = d.of.here in
          let held = inside 2 x.command in
          let width = item_below (omega (arith, command_word x)) 2 held (inside_below nowhere 2 x.command (command_below x)) in
          record {
            here = variable_here d.of;
            narrow =
                sort_narrow nowhere (item 2 x.command) held width.first (omega (arith, limits (sort_here (variable_here d.of))));
            short = x.lawful.short;
            low_words = λ j h. omega (arith, x.lawful.ends j h, x.few);
            table = d.names_hold.table;
            fits = omega (arith, one_more d);
          }

      module _ {name : ℕ} (names-tested : (q : Declaring text lexemes names p i nowhere) → NameFound q name)
          {after : List ℕ} (added : (a : Adding text lexemes names (variable_row + p.variables) i) → Added a after) where
        -- The second place is that of the definition.
        name_is : (d : Declaring text lexemes names p i nowhere) → name ≡ name_place nowhere d.of.known d.of.here.command
        unfolding name_place
        name_is d = names-tested d ∙ rw (is_declaring d.of).declares

        -- A name is at fault.
        pub name_faulty : name < nowhere → {v : Verdict} → v ≡ record { number = name_answer; place = name; rows = 0 }
            → (d : Declaring text lexemes names p i nowhere)
            → Declared d after v
        name_faulty h e d = subst⁻¹ (λ (w : Verdict). Declared d after w) e (record {
          verdict_is = says_name allowed nowhere _ i _ _ (record { number = name_answer; place = name; rows = 0 }) (omega (arith, limit_is d)) (record { number_is = refl; place_is = name_is d; found = h });
          names_hold = λ z. absurd (omega arith);
          taken = λ z. variable_taken d (one_more d) (variable_put (adding d) (added (adding d)));
        })

        module _ (named : nowhere ≤ name) {sort : ℕ}
            (sorts : (s : SortAt lexemes (i + 3)) → sort ≡ sort_place Empty nowhere s.here.label s.here.operands) where
          -- The third place is that of the definition.
          sort_is : (d : Declaring text lexemes names p i nowhere) → sort ≡ sorting_place nowhere d.of.known d.of.here.command
          unfolding sorting_place
          sort_is d = sorts (sort_here (variable_here d.of)) ∙ rw (is_declaring d.of).declares

          -- The sort is at fault.
          pub sort_faulty : sort < nowhere → {v : Verdict} → v ≡ record { number = sort_answer; place = sort; rows = 0 }
              → (d : Declaring text lexemes names p i nowhere)
              → Declared d after v
          sort_faulty h e d = subst⁻¹ (λ (w : Verdict). Declared d after w) e
              (refused d (says_sorting allowed nowhere _ i _ _ (record { number = sort_answer; place = sort; rows = 0 }) (omega (arith, limit_is d)) (omega (arith, name_is d))
              (record { number_is = refl; place_is = sort_is d; found = h })) (λ z. omega arith) (λ z. omega arith))

          -- No rule is at fault, since there is none.
          no_rules : (d : Declaring text lexemes names p i nowhere) → nowhere ≤ grammar_place nowhere d.of.known d.of.here.command
          unfolding grammar_place
          no_rules d = rw (is_declaring d.of).declares (omega arith)

          -- The command passes, and its variable is known.
          pub passes : nowhere ≤ sort → {v : Verdict} → v ≡ record { number = 0; place = 0; rows = 0 } → (d : Declaring text lexemes names p i nowhere)
              → Declared d after v
          passes sorted e d = subst⁻¹ (λ (w : Verdict). Declared d after w) e (record {
            verdict_is =
                says_passed allowed nowhere _ i _ _ (record { number = 0; place = 0; rows = 0 }) (omega (arith, limit_is d)) (omega (arith, name_is d)) (omega (arith, sort_is d)) (no_rules d) refl;
            names_hold = λ z. names_declared d (one_more d) (variable_put (adding d) (added (adding d)));
            taken = λ z. absurd (omega arith);
          })
