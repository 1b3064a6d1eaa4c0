-- The verdict on the sorts and on the grammar of a `synth-fun`, and what is known after it where it passes.
use Prim.Native.Nat.{ℕ, ◌*◌, ◌≤◌, ◌<◌, min}
use native.Mathlib.Omega.{arith}
use mathlib.Core.Path.{◌≡◌, refl, sym, ◌∙◌}
use mathlib.Core.List.{List}
use lib.ListN.{length}
use Rattle.bodies.specs.code.Bodies.{no_sorts}
use Rattle.written_sorts.specs.code.Headers.{HeaderAt}
use Rattle.written_sorts.specs.Written.{header_place}
use Rattle.written_sorts.specs.declared.Fault.TheVariants.{Empty}
use Rattle.lexemes.specs.Lists.{inside}
use Rattle.derivation.specs.Productive.{productive}
use Rattle.term_faults.specs.Faults.{rule_misfit}
use Rattle.forest.specs.Limits.{allowed}
use Rattle.terms.specs.code.Nodes.{row_width as nodeWidth}
use Rattle.grammars.specs.Grammars.{grammar_misfit, list_misfit, listed_misfit}
use Rattle.grammars.specs.Listing.{dead_misfit}
use Rattle.grammars.specs.code.Read.{Sorted, Sorting}
use Rattle.grammars.proofs.Dead.{misfit_dead, misfit_listed}
use Rattle.term_nodes.specs.declared.Gathered.{Gathered}
use Rattle.script.specs.code.Signatures.{Listed}
use Rattle.script.specs.Script.{sorting_place, view_of}
use Rattle.script.specs.code.Tables.{After, Tested}
use Rattle.script.specs.declared.Progress.{Progress}
use Rattle.script.specs.declared.Verdict.{Verdict}
use Rattle.script.proofs.Verdicts.{says_grammar, says_passed, says_sorting}
use Rattle.script.specs.code.Answers.{grammar_answer, name_answer, sort_answer}
use Rattle.script.specs.code.Taken.{FunctionTaken}
use Rattle.synth_fun.specs.code.Synthesizing.{Synthesized, Synthesizing}
use Rattle.synth_fun.specs.code.Rows.{Put}
use Rattle.synth_fun.specs.code.SortTests.{Comparing, Deriving, Unsorted, from_place}
use Rattle.synth_fun.specs.declared.Header.{Header}
use Rattle.synth_fun.proofs.FunctionKnown.{after_is}
use Rattle.synth_fun.proofs.SortsSought.{comparing_here, forms_long, sorting-place}
use Rattle.synth_fun.proofs.FunctionHeld.{grammars_grow, places_grow}
use Rattle.synth_fun.proofs.GrammarAsked.{dead_is, deriving_here}
use Rattle.synth_fun.proofs.SynthFunParts.{grammar_is}

-- A refusal changes nothing that is known, and keeps the lengths of the tables.
pub refused_so : {text lexemes names raw places forms : List ℕ} {p : Progress} {i nowhere : ℕ}
    (d : Synthesizing text lexemes names raw places forms p i nowhere) {namesAfter rawAfter placesAfter formsAfter : List ℕ} {v : Verdict}
    → 0 < v.number → (v.number ≡ name_answer → FunctionTaken namesAfter p d.of.known d.of.here.command) → Tested d.of v → length rawAfter ≡ length raw → length formsAfter ≡ length forms
    → Synthesized d namesAfter rawAfter placesAfter formsAfter v
refused_so d some taken says raw_long forms_long = record {
  verdict_is = says;
  names_hold = λ e. absurd (omega arith);
  taken = taken;
  places_hold = λ e. absurd (omega arith);
  grammars_hold = λ e. absurd (omega arith);
  within = λ e. absurd (omega arith);
  raw_long = raw_long;
  forms_long = forms_long;
}

-- What holds of a verdict holds of what is the same.
pub same_verdict : {text lexemes names raw places forms : List ℕ} {p : Progress} {i nowhere : ℕ}
    {d : Synthesizing text lexemes names raw places forms p i nowhere} {namesAfter rawAfter placesAfter formsAfter : List ℕ} {v w : Verdict}
    → v ≡ w → Synthesized d namesAfter rawAfter placesAfter formsAfter w → Synthesized d namesAfter rawAfter placesAfter formsAfter v
same_verdict is found = rw is found

module _ {text lexemes names raw places forms : List ℕ} {p : Progress} {g : Gathered} {h : Header} {i nowhere : ℕ}
    (s : Unsorted text lexemes names raw places forms p g h i nowhere)
    {placesBetween : List ℕ} (listed : Listed names places h.listed placesBetween) {column : List ℕ} (blank : column ≡ no_sorts)
    {columnAfter : List ℕ} {within : ℕ}
    (tested : (q : Sorting lexemes raw (from_place (nodeWidth * p.forms) forms) placesBetween column i g.row nowhere)
    → Sorted q columnAfter within)
    {head : ℕ} (by-head : (q : HeaderAt lexemes i) → head ≡ header_place Empty nowhere q.here.operands) {place : ℕ} (least : place ≡ min head within) where
  -- what the test of the sorts finds
  sorts_are : place ≡ sorting_place nowhere s.given.of.known s.given.of.here.command
  sorts_are = sorting-place s listed blank tested by-head least

  -- a sort is at fault
  pub sorts_refused : place < nowhere → {placesAfter : List ℕ}
      → Synthesized s.given names raw placesAfter forms (record { number = sort_answer; place = place; rows = 0 })
  sorts_refused found =
      refused_so s.given (omega arith) (λ e. absurd (omega arith))
      (says_sorting allowed nowhere s.given.of.known i s.given.of.here.command (After s.given.of) (record { number = sort_answer; place = place; rows = 0 }) s.limited s.named
      (record { number_is = refl; place_is = sorts_are; found = found })) s.raw_long (forms_long s)

  module _ (fine : nowhere ≤ place) {misfit : ℕ}
      (by-lists : (q : Comparing text lexemes names raw placesBetween columnAfter p g h i)
      → misfit ≡ min (list_misfit nowhere q.lists.view q.lists.command) (rule_misfit nowhere q.rules.view q.rules.ruled)) where
    -- the sorts are in order
    sorts_pass : nowhere ≤ sorting_place nowhere s.given.of.known s.given.of.here.command
    sorts_pass = rw sorts_are at fine

    -- what the test of what it lists finds
    listed_is : misfit ≡ listed_misfit nowhere (view_of s.given.of.known s.given.of.here.command) s.given.of.here.command
    listed_is = by-lists (comparing_here s listed blank tested)

    -- its grammar is at fault
    refused_at : (r : ℕ) → r ≡ grammar_misfit nowhere (view_of s.given.of.known s.given.of.here.command) s.given.of.here.command → r < nowhere
        → {placesAfter : List ℕ} → Synthesized s.given names raw placesAfter forms (record { number = grammar_answer; place = r; rows = 0 })
    refused_at r is found =
        refused_so s.given (omega arith) (λ e. absurd (omega arith))
        (says_grammar allowed nowhere s.given.of.known i s.given.of.here.command (After s.given.of) (record { number = grammar_answer; place = r; rows = 0 }) s.limited s.named sorts_pass
        (record { number_is = refl; place_is = is ∙ sym (grammar_is s.given.of); found = found })) s.raw_long (forms_long s)

    -- in what it lists
    pub lists_refused : misfit < nowhere → {placesAfter : List ℕ}
        → Synthesized s.given names raw placesAfter forms (record { number = grammar_answer; place = misfit; rows = 0 })
    lists_refused found =
        let c = s.given.of.here.command in
        refused_at misfit (listed_is ∙ sym (misfit_listed (view_of s.given.of.known c) c (rw listed_is at found))) found

    module _ (right : nowhere ≤ misfit) where
      -- what it lists is in order
      pub lists_pass : nowhere ≤ listed_misfit nowhere (view_of s.given.of.known s.given.of.here.command) s.given.of.here.command
      lists_pass = rw listed_is at right

      -- which of its non-terminals derive a term may be asked
      abbrev pub asked_here : {placesAfter : List ℕ} → Put names placesBetween p g h placesAfter → Deriving lexemes placesAfter forms p g h i
      asked_here put = deriving_here s lists_pass listed put

      module _ {placesAfter : List ℕ} (put : Put names placesBetween p g h placesAfter) {dead : ℕ}
          (by-dead : (q : Deriving lexemes placesAfter forms p g h i)
          → dead ≡ dead_misfit nowhere (productive q.asks.tabled.G h.listed) 0 (inside 4 q.declared.command.here.operands)) where
        -- what that test finds
        misfit_is : dead ≡ grammar_misfit nowhere (view_of s.given.of.known s.given.of.here.command) s.given.of.here.command
        misfit_is =
            let c = s.given.of.here.command in
            dead_is s lists_pass listed put by-dead ∙ sym (misfit_dead (view_of s.given.of.known c) c lists_pass)

        -- a non-terminal derives no term
        pub dead_refused : dead < nowhere
            → Synthesized s.given names raw placesAfter forms (record { number = grammar_answer; place = dead; rows = 0 })
        dead_refused found = refused_at dead misfit_is found

        -- nothing is at fault
        pub all-passed : nowhere ≤ dead → Synthesized s.given names raw placesAfter forms (record { number = 0; place = 0; rows = g.row })
        all-passed alive = record {
          verdict_is = says_passed allowed nowhere s.given.of.known i s.given.of.here.command (After s.given.of) (record { number = 0; place = 0; rows = g.row }) s.limited s.named
              sorts_pass (rw (misfit_is ∙ sym (grammar_is s.given.of)) at alive) refl;
          names_hold = λ e. s.names_hold;
          taken = λ e. absurd (omega arith);
          places_hold = λ e. rw (after_is s.given.of) (places_grow s listed put);
          grammars_hold = λ e. rw (after_is s.given.of) (grammars_grow s listed put);
          within = λ e. omega (arith, s.within, s.given.within);
          raw_long = s.raw_long;
          forms_long = forms_long s;
        }
