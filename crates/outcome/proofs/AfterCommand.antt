-- What is known after a command whose sorts and grammar have no fault.
use Prim.Native.Nat.{ℕ, ◌≤◌, ◌<◌}
use native.Mathlib.Nat.{sub_self}
use native.Mathlib.Omega.{arith}
use mathlib.Core.Bool.{true, false}
use mathlib.Core.List.{List, [], ◌∷◌, ◌++◌, map-map}
use mathlib.Core.Path.{refl}
use lib.ListN.{length}
use Rattle.terms.specs.Labels.{Terms}
use Rattle.terms.specs.Sorts.{Definition}
use Rattle.lexemes.specs.Lists.{Items, inside, item}
use Rattle.names.specs.New.{named_by}
use Rattle.names.specs.Scopes.{Defined}
use Rattle.written_sorts.specs.Written.{sort_of}
use Rattle.term_faults.specs.Faults.{body_fault, scope_of}
use Rattle.grammars.proofs.Dead.{misfit_none}
use Rattle.script.specs.Script.{Known, arguments_of, body_view, constraint_view, grammar_place, known_after, sorting_place, term_of, view_of}
use Rattle.outcome.specs.code.Sorted.{AllBool}
use Rattle.outcome.proofs.BodiesPromised.{body_sorted}
use Rattle.outcome.proofs.OneCommand.{Command, Tests, another, assuming, constraining, declaring, defining, synthesizing}
use Rattle.outcome.proofs.Growing.{Sound, bool_more, with_definition, with-function, with_stated, with_variable}
use Rattle.script.proofs.WordsBelow.{Below, inside_below, item_below}
use Rattle.script.proofs.Rules.{groups_placed, heads_below, listed, rules_sorted, starts}

-- It is sound where what was known before is.
module _ {nowhere : ℕ} (k : Known) (c : Items) (some_word : 0 < nowhere) (below : Below nowhere c) (sound : Sound k)
    (sorts : nowhere ≤ sorting_place nowhere k c) (rules : nowhere ≤ grammar_place nowhere k c) where
  -- After a `define-fun`.
  after_definition : Tests c false true false false false → Sound (known_after k c)
  unfolding known_after sorting_place
  after_definition t =
      let fits = rw (t.declares, t.defines) at sorts in
      let same = map-map (λ (d : Definition). d.signature) (λ (d : Defined). d.definition) k.defined in
      let sort = sort_of (item 3 c) (inside 3 c) in
      let body = body_sorted (body_view k (arguments_of c)) sort (item 4 c) (inside 4 c) (item_below some_word 4 c below) refl (omega (arith, fits)) in
      rw (t.declares, t.defines, t.synthesizes, t.constrains, t.assumes) (with_definition k _ _ _ sound _ (rw same body))

  -- After a `synth-fun`.
  after_function : Tests c false false true false false → Sound (known_after k c)
  unfolding grammar_place known_after
  after_function t =
      let fits = (misfit_none (view_of k c) c (rw (t.declares, t.defines, t.synthesizes) at rules)).0 in
      let pairs = inside 4 c in
      let groups = inside 5 c in
      let in-groups = inside_below nowhere 5 c below in
      let many = listed (item_below some_word 5 c below).last (named_by pairs) groups in-groups (omega (arith, fits)) in
      let placed = groups_placed {most = length (named_by pairs)} 0 groups (omega arith) in-groups in
      rw (t.declares, t.defines, t.synthesizes, t.constrains, t.assumes)
      (with-function k _ _ _ sound _ (omega arith) (record {
        start = starts _ (item_below some_word 4 c below).last pairs (inside_below nowhere 4 c below) (omega (arith, fits));
        heads = heads_below (view_of k c) placed;
        rules = λ r h. rw (sub_self (length k.defined)) (rules_sorted (view_of k c) placed (omega (arith, fits)) r h);
        arguments = refl;
      }))

  -- The term that a `constraint` or an `assume` states, behind terms that are Bool.
  stated_bool : nowhere ≤ body_fault nowhere (constraint_view k) 0 (item 1 c) (inside 1 c) → (ts : List Terms) → AllBool (scope_of (constraint_view k)).terms ts
      → AllBool (scope_of (constraint_view k)).terms (ts ++ term_of (constraint_view k) (item 1 c) (inside 1 c) ∷ [])
  stated_bool fits ts all =
      bool_more (scope_of (constraint_view k)).terms ts (term_of (constraint_view k) (item 1 c) (inside 1 c)) all
      (body_sorted (constraint_view k) 0 (item 1 c) (inside 1 c) (item_below some_word 1 c below) refl fits)

  -- After a `constraint`.
  after_constraint : Tests c false false false true false → Sound (known_after k c)
  unfolding known_after sorting_place
  after_constraint t =
      let fits = rw (t.declares, t.defines, t.synthesizes, t.constrains) at sorts in
      rw (t.declares, t.defines, t.synthesizes, t.constrains, t.assumes)
      (with_stated k _ _ _ sound _ _ (stated_bool fits k.constraints sound.sorted.constraints) sound.sorted.assumptions)

  -- After an `assume`.
  after_assumption : Tests c false false false false true → Sound (known_after k c)
  unfolding known_after sorting_place
  after_assumption t =
      let fits = rw (t.declares, t.defines, t.synthesizes, t.constrains, t.assumes) at sorts in
      rw (t.declares, t.defines, t.synthesizes, t.constrains, t.assumes)
      (with_stated k _ _ _ sound _ _ sound.sorted.constraints (stated_bool fits k.assumptions sound.sorted.assumptions))

  -- After any command.
  pub after_command : Command c → Sound (known_after k c)
  unfolding known_after
  after_command (declaring t) = rw (t.declares, t.defines, t.synthesizes, t.constrains, t.assumes) (with_variable k _ _ _ sound _)
  after_command (defining t) = after_definition t
  after_command (synthesizing t) = after_function t
  after_command (constraining t) = after_constraint t
  after_command (assuming t) = after_assumption t
  after_command (another t) =
      rw (t.declares, t.defines, t.synthesizes, t.constrains, t.assumes)
      (with_stated k _ _ _ sound _ _ sound.sorted.constraints sound.sorted.assumptions)
