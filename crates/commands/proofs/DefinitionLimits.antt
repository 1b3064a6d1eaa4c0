-- The `define-fun` at a word: its limits, and what follows from the rest of its tests.
use Prim.Native.Nat.{ℕ, ◌+◌, ◌≤◌, ◌<◌, min}
use native.Mathlib.Omega.{arith}
use mathlib.Core.Path.{◌≡◌, refl, sym, ap, ap₂, ◌∙◌, subst⁻¹}
use mathlib.Core.List.{List}
use Rattle.lexemes.specs.code.Table.{next_at}
use Rattle.forest.specs.Limits.{allowed, most_defined, most_nodes}
use Rattle.written_sorts.specs.code.Headers.{HeaderAt}
use Rattle.headers.specs.code.Heads.{HeadLimited}
use Rattle.bodies.specs.code.Bodies.{Limited, TermAt}
use Rattle.bodies.specs.declared.Body.{Body}
use Rattle.script.specs.Limits.{command_past}
use Rattle.script.specs.Script.{limit_place}
use Rattle.script.specs.code.Tables.{After}
use Rattle.script.specs.declared.Progress.{Progress}
use Rattle.script.specs.declared.Verdict.{Verdict}
use Rattle.script.proofs.Verdicts.{says_limit}
use Rattle.script.specs.code.Answers.{limit_answer}
use Rattle.commands.specs.code.DefineFun.{Defined, Defining, Settled, Within}
use Rattle.commands.proofs.TermStanding.{body_term, body_within}
use Rattle.commands.proofs.DefinitionItems.{body_behind, body_here, header_here, is_definition, limit_is}

module _ {text lexemes names raw places nodes : List ℕ} {p : Progress} {at nowhere : ℕ} where
  -- Its header.
  abbrev pub its_header : Defining text lexemes names raw places nodes p at nowhere → HeaderAt lexemes at
  its_header d = header_here d.of

  module _ {arguments : ℕ} (ea : arguments ≡ next_at lexemes (at + 2)) {result : ℕ} (er : result ≡ next_at lexemes arguments)
      {i : ℕ} (ei : i ≡ next_at lexemes result) where
    -- Its body may be gathered.
    abbrev pub body_at : Defining text lexemes names raw places nodes p at nowhere → TermAt lexemes raw i
    body_at d = body_term (body_here d.of ea er ei) d.raw_room

    module _ {rawAfter : List ℕ} {body : Body} (gathered : (q : TermAt lexemes raw i) → Limited q most_nodes nowhere rawAfter body)
        {before : ℕ} (eb : before ≡ command_past nowhere most_defined p.defined at) {head : ℕ} (eh : (q : HeaderAt lexemes at) → HeadLimited q allowed nowhere head)
        {lesser : ℕ} (el : lesser ≡ min head body.place) {past : ℕ} (ep : past ≡ min before lesser) where
      -- The word past a limit.
      pub past_is : (d : Defining text lexemes names raw places nodes p at nowhere)
          → past ≡ limit_place allowed nowhere d.of.known at d.of.here.command
      past_is d =
          let counted = ap (λ (n : ℕ). command_past nowhere most_defined n at) d.of.counted.defined_are in
          ep ∙ ap₂ min (eb ∙ counted) (el ∙ ap₂ min (eh (header_here d.of)) (gathered (body_at d)).place_is)
          ∙ sym (limit_is nowhere d.of.known at (is_definition d.of))

      -- A limit is passed.
      pub limit_refused : past < nowhere → {v : Verdict} → v ≡ record { number = limit_answer; place = past; rows = 0 }
          → (d : Defining text lexemes names raw places nodes p at nowhere) → Defined d names rawAfter places nodes v
      limit_refused h e d = subst⁻¹ (λ (w : Verdict). Defined d names rawAfter places nodes w) e (record {
        verdict_is = says_limit allowed nowhere d.of.known at d.of.here.command (After d.of) (record { number = limit_answer; place = past; rows = 0 })
            (record { number_is = refl; place_is = past_is d; found = h });
        names_hold = λ z. absurd (omega arith);
        taken = λ z. absurd (omega arith);
        places_hold = λ z. absurd (omega arith);
        within = λ z. absurd (omega arith);
        kept = refl;
        raw_long = (gathered (body_at d)).long;
        nodes_long = refl;
      })

      module _ (passed : nowhere ≤ past) where
        -- No limit is passed.
        abbrev pub within_limits : Defining text lexemes names raw places nodes p at nowhere
            → Within text lexemes names rawAfter places nodes p body.rows at nowhere
        within_limits d = record {
          of = d.of;
          names_hold = d.names_hold;
          places_hold = d.places_hold;
          limited = omega (arith, past_is d);
          rest = (gathered (body_at d)).rest;
          raw_is = (gathered (body_at d)).raw_is;
          counted = (gathered (body_at d)).rows_are;
          nodes_room = d.nodes_room;
          fits = body_within (body_here d.of ea er ei) d.raw_room gathered (omega (arith, d.within, body_behind d.of ea er ei));
        }

        -- What the rest of its tests find is what all of them do.
        pub definition_tested : {namesAfter rawLast placesAfter nodesAfter : List ℕ} {v : Verdict}
            → ((w : Within text lexemes names rawAfter places nodes p body.rows at nowhere) → Settled w namesAfter rawLast placesAfter nodesAfter v)
            → (d : Defining text lexemes names raw places nodes p at nowhere) → Defined d namesAfter rawLast placesAfter nodesAfter v
        definition_tested settled d =
            let s = settled (within_limits d) in
            record {
              verdict_is = s.verdict_is;
              names_hold = s.names_hold;
              taken = s.taken;
              places_hold = s.places_hold;
              within = s.within;
              kept = s.kept;
              raw_long = s.raw_long ∙ (gathered (body_at d)).long;
              nodes_long = s.nodes_long;
            }
