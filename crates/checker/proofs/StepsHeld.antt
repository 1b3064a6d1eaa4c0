-- The list of steps of a function's body, from the tables of texts that pass.
use Prim.Native.Nat.{ℕ, zero, suc, ◌+◌, ◌*◌, ◌≤◌, ◌<◌}
use native.Mathlib.Nat.{suc-add, zero-add}
use native.Mathlib.Omega.{arith}
use mathlib.Core.Path.{◌≡◌, refl, sym, ap, subst₂, ◌∙◌}
use mathlib.Core.Bool.{Bool, true, false}
use mathlib.Core.List.{List, [], ◌∷◌}
use lib.ListN.{drop, length}
use Rattle.forest.proofs.Nodes.{length_nodes}
use Rattle.forest.specs.Forest.{join}
use Rattle.forest.specs.Limits.{most_functions, most_nodes}
use Rattle.forest.specs.code.Cursors.{from, size}
use Rattle.terms.specs.Labels.{Terms}
use Rattle.terms.specs.code.Nodes.{row_width, size_at}
use Rattle.evaluation.specs.code.Tables.{TermStands}
use Rattle.steps.specs.Stack.{node_count}
use Rattle.steps.specs.code.List.{Listable, TermsStand, UsesTold, Listed as StepsListed}
use Rattle.names.specs.Scopes.{Defined, Function}
use Rattle.script.specs.Response.{Body, in_script_order}
use Rattle.script.specs.code.Places.{body_in}
use Rattle.script.specs.declared.Progress.{Progress}
use Rattle.response.proofs.Picked.{body_at, order_length}
use Rattle.outcome.specs.Derived.{terms_of}
use Rattle.outcome.specs.StepList.{FunctionAt, here, later}
use Rattle.outcome.specs.code.Assured.{BodiesFit}
use Rattle.outcome.specs.declared.Answer.{Answer}
use Rattle.one_function.proofs.BodyRows.{body_size, body_within}
use Rattle.checker.specs.code.Stepping.{BodiesStand, BodyListed, BodySteps, HeldAnswer, TextsListed, applying, lacking, written}

-- function j and its body, with no more nodes than it may have
pub record Bodied (fs : List Function) (bs : List Body) (j : ℕ) : Type 0 where
  pub function : Function
  pub body : Body
  pub at : FunctionAt fs (terms_of bs) j function body.term
  pub body_is : drop j bs ≡ body ∷ drop (j + 1) bs
  pub few : size body.term ≤ most_nodes

-- they are there
bodied : (defs : List Defined) (fs : List Function) (bs : List Body) (j : ℕ) → BodiesFit defs fs bs → j < length fs → Bodied fs bs j
unfolding BodiesFit
bodied defs [] bs j fit low = absurd (omega arith)
bodied defs (f ∷ fs) [] j fit low = absurd fit
bodied defs (f ∷ fs) (b ∷ bs) zero fit low = record { function = f; body = b; at = here; body_is = refl; few = fit.1 }
bodied defs (f ∷ fs) (b ∷ bs) (suc j) fit low =
    let r = bodied defs fs bs j fit.2 (omega arith) in
    record { function = r.function; body = r.body; at = later r.at; body_is = rw suc-add r.body_is; few = r.few }

module _ {places nodes area : List ℕ} {p : Progress} (q : BodiesStand places nodes p area) where
  -- there are as many functions as the reading has counted
  many : length (in_script_order q.known.functions) ≡ p.functions
  many = order_length q.known.functions ∙ sym q.held.counted.functions_are

  -- a number that the script lacks
  pub lacks : {function : ℕ} → p.functions ≤ function → BodySteps q.known q.bodies function area 0 area
  lacks past = lacking (omega (arith, many))

  module _ {function : ℕ} (low : function < p.functions) where
    -- the table of places has a body for it
    pub few_functions : function < most_functions
    few_functions = omega (arith, q.held.counted.few_functions)

    -- the function and its body
    pub next : Bodied (in_script_order q.known.functions) q.bodies function
    next = bodied q.known.defined (in_script_order q.known.functions) q.bodies function q.held.response (omega (arith, many))

    -- the body stands in the tables
    pub stands : TermStands q.held.bodies_held.places_hold.all (body_in places function) next.body.term
    stands = (body_at 0 function function q.bodies (omega arith) q.held.bodies_held.bodies_at next.body_is).begins

    -- it has a node
    pub some_node : 0 < node_count next.body.term
    unfolding size
    some_node = omega (arith, length_nodes next.body.term, ap size stands.is)

    module _ {node rows : ℕ} (node-is : node ≡ body_in places function) (rows_are : rows ≡ size_at nodes node) where
      -- its rows are as many as its nodes
      pub rows_counted : rows ≡ size next.body.term
      rows_counted =
          rows_are ∙ ap (size_at nodes) node-is
          ∙ body_size stands q.held.bodies_held.places_hold.rest q.held.bodies_held.places_hold.nodes_are

      -- they end within the table
      pub rows_end : row_width * (node + rows) ≤ length nodes
      rows_end =
          rw (node-is, rows_counted)
          (body_within stands q.held.bodies_held.places_hold.rest q.held.bodies_held.places_hold.nodes_are)

      -- the body begins at the node
      pub begins : from q.held.bodies_held.places_hold.all node ≡ join next.body.term stands.rest
      unfolding join
      begins =
          ap (from q.held.bodies_held.places_hold.all) node-is ∙ stands.at ∙ sym (ap (λ (t : Terms). join t stands.rest) stands.is)

      -- it stands from the node up to that past it
      abbrev pub body_stands : TermsStand nodes node (node + rows)
      body_stands =
          record {
            all = q.held.bodies_held.places_hold.all;
            behind = q.held.bodies_held.places_hold.rest;
            nodes_are = q.held.bodies_held.places_hold.nodes_are;
            terms = next.body.term;
            rest = stands.rest;
            at = begins;
            ends = ap (λ (n : ℕ). node + n) rows_counted;
          }

      module _ {uses : Bool} (told : UsesTold nodes node (node + rows) uses) where
        -- it applies a function of the script
        pub applies : uses ≡ true → BodySteps q.known q.bodies function area 0 area
        applies e = applying next.at (sym (told body_stands) ∙ e)

        module _ (e : uses ≡ false) where
          -- its steps may be written
          abbrev pub to_write : Listable nodes area node (node + rows) 0
          to_write =
              record {
                stand = body_stands;
                plain = q.held.bodies_held.places_hold.plain;
                none_used = sym (told body_stands) ∙ e;
                room = omega (arith, next.few, q.sized);
              }

          -- they are written
          pub writes : {after : List ℕ} {count : ℕ} → StepsListed nodes area after node (node + rows) 0 count
              → BodySteps q.known q.bodies function area count after
          writes {after} {count} listed =
              let done = listed to_write in
              let counted : node_count next.body.term ≡ count =
              length_nodes next.body.term ∙ sym (done.past_is ∙ zero-add (size next.body.term)) in
              subst₂ (BodySteps q.known q.bodies function area) counted (sym done.area_is)
              (written next.at (sym (told body_stands) ∙ e) some_node)

module _ {places nodes area : List ℕ} {p : Progress} {found : Answer} (q : HeldAnswer places nodes p found area) (is_zero : found.outcome.number ≡ 0) where
  -- what listing the steps asks
  abbrev pub to_list_body : BodiesStand places nodes p area
  to_list_body =
      record {
        text = q.response;
        names = (q.both! is_zero).names;
        forms = (q.both! is_zero).forms;
        known = (q.both! is_zero).both.known;
        bodies = (q.both! is_zero).both.bodies;
        held = (q.both! is_zero).both.held;
        sized = q.sized;
      }

  -- the steps of the texts' function
  pub texts_listed : {function count : ℕ} {after : List ℕ} → BodyListed places nodes p function area after count
      → TextsListed q.script q.response function area after count
  texts_listed listed =
      record {
        known = (q.both! is_zero).both.known;
        bodies = (q.both! is_zero).both.bodies;
        says = (q.both! is_zero).both.passing.says;
        gives = (q.both! is_zero).both.passing.gives;
        steps = listed to_list_body;
      }
