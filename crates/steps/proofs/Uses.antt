-- The search for a label that applies a function of the script, node by node.
use Prim.Native.Nat.{ℕ, ◌+◌, ◌≤◌, ◌<◌}
use native.Mathlib.Omega.{arith}
use mathlib.Core.Path.{◌≡◌, sym, ap, ◌∙◌}
use mathlib.Core.Bool.{true, false, ◌||◌}
use mathlib.Core.List.{List}
use lib.Dec.{eqb}
use Rattle.forest.proofs.Laws.{Tree, size_join, size_zero, tree_of_size, size_tree}
use Rattle.forest.specs.Forest.{join, tree}
use Rattle.forest.specs.code.Cursors.{from, size}
use Rattle.terms.proofs.Bodies.{Says, says}
use Rattle.terms.proofs.Cursors.{cursor_next}
use Rattle.terms.specs.Labels.{Terms}
use Rattle.terms.specs.code.Codes.{defined_kind, function_kind, kind_of}
use Rattle.terms.specs.code.Nodes.{code_at}
use Rattle.steps.specs.Steps.{is_applied, uses_defined}
use Rattle.steps.specs.code.List.{TermsStand}
use Rattle.steps.proofs.Labels.{applied_kind}
use Rattle.steps.proofs.Lists.{uses_join}

module _ {nodes : List ℕ} {start stop : ℕ} (e : TermsStand nodes start stop) where
  -- None of the nodes before applies one, so that it depends on those that are left.
  pub record NoneYet (node : ℕ) : Type 0 where
    pub left : Terms
    pub here : from e.all node ≡ join left e.rest
    pub ends : stop ≡ node + size left
    pub same : uses_defined e.terms ≡ uses_defined left

  module _ {node : ℕ} (s : NoneYet node) where
    -- None applies one.
    pub none_uses : stop ≤ node → false ≡ uses_defined e.terms
    unfolding uses_defined
    none_uses h = sym (s.same ∙ ap uses_defined (size_zero s.left (omega (arith, s.ends))))

    module _ (h : node < stop) where
      -- A node is left.
      next : Tree s.left
      next = tree_of_size s.left (omega (arith, s.ends))

      tree_here : from e.all node ≡ tree next.l next.ops (join next.rest e.rest)
      unfolding join
      tree_here = s.here ∙ ap (λ (t : Terms). join t e.rest) next.is

      told : Says nodes node next.l next.ops
      told = says e.all e.behind node next.l next.ops _ e.nodes_are tree_here

      module _ {code kind : ℕ} (code_is : code ≡ code_at nodes node) (kind_is : kind ≡ kind_of code) where
        -- Whether it applies one is told by its kind.
        by_kind : eqb kind defined_kind || eqb kind function_kind ≡ is_applied next.l
        by_kind = rw (kind_is, code_is, told.code) (applied_kind next.l)

        -- It depends on the node and on those behind it.
        by_parts : uses_defined e.terms ≡ is_applied next.l || uses_defined next.ops || uses_defined next.rest
        unfolding uses_defined
        by_parts = s.same ∙ ap uses_defined next.is

        -- It applies one.
        pub one_uses : eqb kind defined_kind || eqb kind function_kind ≡ true → true ≡ uses_defined e.terms
        one_uses t = sym (by_parts ∙ (rw (sym by_kind ∙ t)))

        -- It applies none.
        pub none_here : eqb kind defined_kind || eqb kind function_kind ≡ false → NoneYet (node + 1)
        none_here t = record {
          left = join next.ops next.rest;
          here = cursor_next e.all node next.l next.ops next.rest e.rest tree_here;
          ends = omega (arith, s.ends, size_tree next, size_join next.ops next.rest);
          same = by_parts ∙ (rw (sym by_kind ∙ t) (sym (uses_join next.ops next.rest)));
        }
