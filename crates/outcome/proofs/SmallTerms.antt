-- The bodies of `define-fun`s, the constraints and the assumptions of a script that passes have at most 256 nodes each.
use Prim.Native.Nat.{ℕ, min, ◌≤◌, ◌<◌}
use native.Mathlib.Omega.{arith}
use mathlib.Core.Bool.{Bool, true, false}
use mathlib.Core.List.{List, [], ◌∷◌, ◌++◌}
use mathlib.Core.Path.{◌≡◌, refl}
use Rattle.forest.specs.Limits.{allowed, most_nodes}
use Rattle.forest.specs.code.Cursors.{size}
use Rattle.terms.specs.Labels.{Terms}
use Rattle.lexemes.specs.Lists.{Items, inside, item}
use Rattle.names.specs.Scopes.{View}
use Rattle.written_sorts.specs.Written.{header_place, sort_of}
use Rattle.written_sorts.specs.declared.Fault.TheVariants.{Empty}
use Rattle.term_faults.specs.Faults.{body_fault, scope_of}
use Rattle.script.specs.Limits.{node_past}
use Rattle.script.specs.Outcome.{said, script_outcome}
use Rattle.script.specs.Script.{Known, arguments_of, body_view, constraint_view, known_after, limit_place, sorting_place, term_of}
use Rattle.headers.specs.Heads.{header_past}
use Rattle.script.proofs.Keeping.{script_keeps}
use Rattle.script.proofs.Within.{past_neither, past_none}
use Rattle.script.proofs.WordsBelow.{Below, inside_below, item_below}
use Rattle.evaluation.specs.code.Running.{SmallTerms}
use Rattle.evaluation.specs.code.Tables.{SmallBodies}
use Rattle.outcome.specs.code.Assured.{FewNodes}
use Rattle.outcome.proofs.BodiesPromised.{body_sorted}
use Rattle.outcome.proofs.Nodes.{few_nodes}
use Rattle.outcome.proofs.OneCommand.{Command, Tests, another, assuming, command, constraining, declaring, defining, synthesizing}

-- One term more.
small_more : (ts : List Terms) (t : Terms) → SmallTerms ts → size t ≤ most_nodes → SmallTerms (ts ++ t ∷ [])
unfolding SmallTerms
small_more [] t all h = (h, tt)
small_more (u ∷ more) t all h = (all.0, small_more more t all.1 h)

-- Every command within its limits and without a fault in its sorts keeps to it.
module _ {nowhere : ℕ} (k : Known) (at : ℕ) (c : Items) (some_word : 0 < nowhere) (below : Below nowhere c)
    (limited : nowhere ≤ limit_place allowed nowhere k at c) (sorted : nowhere ≤ sorting_place nowhere k c) (few : FewNodes k) where
  -- A term of the command, of one sort and with no node past the limit.
  item_small : (view : View) (s i : ℕ) → view.non_terminals ≡ [] → nowhere ≤ node_past allowed nowhere (item i c) (inside i c)
      → nowhere ≤ body_fault nowhere view s (item i c) (inside i c) → size (term_of view (item i c) (inside i c)) ≤ most_nodes
  item_small view s i closed past fault =
      let first = item_below some_word i c below in
      let sort = body_sorted view s (item i c) (inside i c) first closed fault in
      few_nodes view (scope_of view).terms most_nodes (item i c) (inside i c) first (inside_below nowhere i c below) closed sort past

  -- After a `define-fun`.
  after_definition : Tests c false true false false false → FewNodes (known_after k c)
  unfolding SmallBodies known_after limit_place sorting_place
  after_definition t =
      let past = rw (t.declares, t.defines) at limited in
      let fault = rw (t.declares, t.defines) at sorted in
      let faults = past_neither (header_place Empty nowhere c) _ fault in
      let limits = past_none _ (header_past allowed nowhere c) (node_past allowed nowhere (item 4 c) (inside 4 c)) past in
      let body = item_small (body_view k (arguments_of c)) (sort_of (item 3 c) (inside 3 c)) 4 refl limits.2 faults.1 in
      rw (t.declares, t.defines, t.synthesizes, t.constrains, t.assumes)
      (record { bodies = (body, few.bodies); constraints = few.constraints; assumptions = few.assumptions })

  -- The term that a `constraint` or an `assume` states, behind small terms.
  stated_small : (past : ℕ) → nowhere ≤ min past (node_past allowed nowhere (item 1 c) (inside 1 c))
      → nowhere ≤ body_fault nowhere (constraint_view k) 0 (item 1 c) (inside 1 c) → (ts : List Terms) → SmallTerms ts
      → SmallTerms (ts ++ term_of (constraint_view k) (item 1 c) (inside 1 c) ∷ [])
  stated_small past within fault ts all =
      let limits = past_neither past (node_past allowed nowhere (item 1 c) (inside 1 c)) within in
      small_more ts _ all (item_small (constraint_view k) 0 1 refl limits.1 fault)

  -- After a `constraint`.
  after_constraint : Tests c false false false true false → FewNodes (known_after k c)
  unfolding known_after limit_place sorting_place
  after_constraint t =
      let past = rw (t.declares, t.defines, t.synthesizes, t.constrains) at limited in
      let fault = rw (t.declares, t.defines, t.synthesizes, t.constrains) at sorted in
      rw (t.declares, t.defines, t.synthesizes, t.constrains, t.assumes)
      (record { bodies = few.bodies; constraints = stated_small _ past fault k.constraints few.constraints; assumptions = few.assumptions })

  -- After an `assume`.
  after_assumption : Tests c false false false false true → FewNodes (known_after k c)
  unfolding known_after limit_place sorting_place
  after_assumption t =
      let past = rw (t.declares, t.defines, t.synthesizes, t.constrains, t.assumes) at limited in
      let fault = rw (t.declares, t.defines, t.synthesizes, t.constrains, t.assumes) at sorted in
      rw (t.declares, t.defines, t.synthesizes, t.constrains, t.assumes)
      (record { bodies = few.bodies; constraints = few.constraints; assumptions = stated_small _ past fault k.assumptions few.assumptions })

  -- After another command.
  after_other : {declared synthesized : Bool} → Tests c declared false synthesized false false → FewNodes (known_after k c)
  unfolding known_after
  after_other t =
      rw (t.defines, t.constrains, t.assumes) (record { bodies = few.bodies; constraints = few.constraints; assumptions = few.assumptions })

  -- After any command.
  after_command : Command c → FewNodes (known_after k c)
  after_command (declaring t) = after_other t
  after_command (defining t) = after_definition t
  after_command (synthesizing t) = after_other t
  after_command (constraining t) = after_constraint t
  after_command (assuming t) = after_assumption t
  after_command (another t) = after_other t

-- "256 nodes (literals, names, applications; no head is one) a body, constraint or rule": no body, constraint or assumption of a script that passes has more.
pub script_few : (text : List ℕ) {k : Known} → script_outcome text ≡ said k → FewNodes k
unfolding SmallBodies SmallTerms
script_few text e =
    script_keeps FewNodes (λ nowhere k at c ahead below limited sorted ruled few. after_command k at c (omega (arith, ahead)) below limited sorted few (command c)) text e
    (record { bodies = tt; constraints = tt; assumptions = tt })
