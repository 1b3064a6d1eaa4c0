-- Writing the steps of terms tree by tree: what has been written, and what is left.
use Prim.Native.Nat.{ℕ, suc, ◌+◌, ◌*◌, ◌≤◌, ◌<◌}
use native.Mathlib.Omega.{arith}
use mathlib.Core.Path.{◌≡◌, refl, sym, ap, ◌∙◌}
use mathlib.Core.Bool.{false, ◌||◌}
use mathlib.Core.List.{List, ◌++◌, append-nil}
use lib.ListN.{length}
use lib.Seq.{length-sets, sets}
use Rattle.forest.proofs.Bools.{or_left, or_right}
use Rattle.forest.proofs.Laws.{Tree, from_one, from_over, join_assoc, join_none, size_join, size_zero, tree_of_size, size_tree}
use Rattle.forest.proofs.Rows.{sets_append}
use Rattle.forest.specs.Forest.{count, join, none, tree}
use Rattle.forest.specs.code.Cursors.{from, size}
use Rattle.terms.proofs.Bodies.{Says, plain_at, says}
use Rattle.terms.proofs.Cursors.{tree_within}
use Rattle.terms.specs.Labels.{Terms}
use Rattle.terms.specs.code.Nodes.{code_at, operands_at, size_at, value_at}
use Rattle.steps.specs.Steps.{step_of, steps_of, uses_defined}
use Rattle.steps.specs.declared.Step.{Step}
use Rattle.steps.specs.code.List.{Listable, Listed, Written, numbers_of, step_by, step_width}
use Rattle.steps.proofs.Labels.{step_by_lem}
use Rattle.steps.proofs.Lists.{NoneUsed, none_used, steps_join, steps_length, uses_join}

module _ {nodes area : List ℕ} {start stop at : ℕ} (e : Listable nodes area start stop at) where
  -- The steps of some trees are written, and those of the others are left.
  pub record SoFar (after : List ℕ) (node place : ℕ) : Type 0 where
    pub done : Terms
    pub left : Terms
    pub together : join done left ≡ e.stand.terms
    pub here : from e.stand.all node ≡ join left e.stand.rest
    pub ends : stop ≡ node + size left
    pub written : Written done area after at place

  -- Nothing is written at the start.
  pub none_written : SoFar area start at
  unfolding join steps_of size
  none_written = record {
    done = none;
    left = e.stand.terms;
    together = refl;
    here = e.stand.at;
    ends = e.stand.ends;
    written = record { area_is = refl; past_is = omega arith };
  }

  module _ {after : List ℕ} {node place : ℕ} (s : SoFar after node place) where
    -- What is written keeps the length.
    pub after_long : length after ≡ length area
    after_long = ap length s.written.area_is ∙ length-sets area (step_width * at) (steps_of s.done)

    -- All is written at the end.
    pub all_written : stop ≤ node → Written e.stand.terms area after at place
    all_written h =
        let z : s.left ≡ none = size_zero s.left (omega (arith, s.ends)) in
        let q : s.done ≡ e.stand.terms = sym (join_none s.done) ∙ ap (join s.done) (sym z) ∙ s.together in
        rw (← q) s.written

    module _ (h : node < stop) where
      -- A tree is left.
      next : Tree s.left
      next = tree_of_size s.left (omega (arith, s.ends))

      -- It stands at the node.
      tree_here : from e.stand.all node ≡ tree next.l next.ops (join next.rest e.stand.rest)
      unfolding join
      tree_here = s.here ∙ ap (λ (t : Terms). join t e.stand.rest) next.is

      -- Neither what is done nor what is left applies a function of the script.
      neither : uses_defined s.done || uses_defined s.left ≡ false
      neither = sym (uses_join s.done s.left) ∙ ap uses_defined s.together ∙ e.none_used

      unused : NoneUsed next.l next.ops next.rest
      unused =
          none_used next.l next.ops next.rest (ap uses_defined (sym next.is) ∙ or_right (uses_defined s.done) (uses_defined s.left) neither)

      -- The table says of it what it is.
      told : Says nodes node next.l next.ops
      told = says e.stand.all e.stand.behind node next.l next.ops (join next.rest e.stand.rest) e.stand.nodes_are tree_here

      -- How many nodes there are, and how many are left.
      sizes : size s.left ≡ suc (size next.ops + size next.rest)
      sizes = size_tree next

      all_sizes : size s.done + size s.left ≡ size e.stand.terms
      all_sizes = sym (size_join s.done s.left) ∙ ap size s.together

      -- The tree ends within the table.
      pub next_within : {n : ℕ} → n ≡ size_at nodes node → node + n ≤ length nodes
      next_within q =
          omega (arith, q, told.size, tree_within e.stand.all e.stand.behind node next.l next.ops _ e.stand.nodes_are tree_here)

      -- It ends with the last of the trees or before.
      pub next_ends : {n : ℕ} → n ≡ size_at nodes node → (1 ≤ n) × (node + n ≤ stop)
      next_ends q = (omega (arith, q, told.size), omega (arith, q, told.size, s.ends, sizes))

      -- Its operands come first.
      pub operands_listable : {n : ℕ} → n ≡ size_at nodes node → Listable nodes after (node + 1) (node + n) place
      operands_listable q = record {
        stand = record {
          all = e.stand.all;
          behind = e.stand.behind;
          nodes_are = e.stand.nodes_are;
          terms = next.ops;
          rest = join next.rest e.stand.rest;
          at = from_one e.stand.all node next.l next.ops _ tree_here;
          ends = omega (arith, q, told.size);
        };
        plain = e.plain;
        none_used = unused.below;
        room = omega (arith, e.room, s.written.past_is, after_long, sizes, all_sizes);
      }

      module _ {n past : ℕ} {after' : List ℕ} (q : n ≡ size_at nodes node) (w : Listed nodes after after' (node + 1) (node + n) place past) where
        -- Their steps are written.
        ops_written : Written next.ops after after' place past
        unfolding operands_listable
        ops_written = w (operands_listable q)

        -- What is written keeps the length.
        pub operands_long : length after' ≡ length area
        operands_long = ap length ops_written.area_is ∙ length-sets after (step_width * place) (steps_of next.ops) ∙ after_long

        -- There is room for the step of the label.
        pub step_room : step_width * (past + 1) ≤ length after'
        step_room = omega (arith, operands_long, ops_written.past_is, s.written.past_is, sizes, all_sizes, e.room)

        -- Then the label's step.
        module _ {step : Step} {after'' : List ℕ} (step_is : step ≡ step_by (code_at nodes node) (value_at nodes node) (operands_at nodes node))
            (put : after'' ≡ sets after' (step_width * past) (numbers_of step)) where
          -- It is the label's.
          label_step : numbers_of step ≡ step_of next.l (count next.ops)
          label_step =
              let plain = plain_at e.stand.all node next.l next.ops _ e.plain tree_here in
              ap numbers_of (step_is ∙ (rw (told.code, told.value, told.operands)))
              ∙ step_by_lem next.l (count next.ops) plain unused.here

          -- The tree's steps are written.
          tree_written : after'' ≡ sets area (step_width * at) (steps_of (join s.done (tree next.l next.ops none)))
          unfolding steps_of
          tree_written =
              let ops = steps_of next.ops in
              let one = step_of next.l (count next.ops) in
              let done = steps_of s.done in
              let first : step_width * place ≡ step_width * at + length done =
              omega (arith, s.written.past_is, steps_length s.done (or_left (uses_defined s.done) (uses_defined s.left) neither)) in
              let second : step_width * past ≡ step_width * place + length ops = omega (arith, ops_written.past_is, steps_length next.ops unused.below) in
              put ∙ ap (sets after' (step_width * past)) label_step
              ∙ ap (λ (l : List ℕ). sets l (step_width * past) one) ops_written.area_is
              ∙ ap (λ (k : ℕ). sets (sets after (step_width * place) ops) k one) second
              ∙ sym (sets_append after (step_width * place) ops one)
              ∙ ap (λ (l : List ℕ). sets l (step_width * place) (ops ++ one)) s.written.area_is
              ∙ ap (λ (k : ℕ). sets (sets area (step_width * at) done) k (ops ++ one)) first
              ∙ sym (sets_append area (step_width * at) done (ops ++ one))
              ∙ ap (sets area (step_width * at))
              (ap (λ (l : List ℕ). done ++ l) (sym (append-nil (ops ++ one))) ∙ sym (steps_join s.done (tree next.l next.ops none)))

          -- One tree more is done.
          pub one_written : SoFar after'' (node + n) (past + 1)
          unfolding join size
          one_written = record {
            done = join s.done (tree next.l next.ops none);
            left = next.rest;
            together = join_assoc s.done (tree next.l next.ops none) next.rest ∙ ap (join s.done) (sym next.is) ∙ s.together;
            here = ap (λ (k : ℕ). from e.stand.all (node + k)) (q ∙ told.size) ∙ from_over e.stand.all node next.l next.ops _ tree_here;
            ends = omega (arith, s.ends, sizes, q, told.size);
            written = record {
              area_is = tree_written;
              past_is = omega (arith, ops_written.past_is, s.written.past_is, size_join s.done (tree next.l next.ops none));
            };
          }
