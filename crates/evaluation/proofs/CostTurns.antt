-- The loop over the nodes of a term that sums up what is held of its cost.
use Prim.Native.Nat.{ℕ, suc, ◌+◌, ◌-◌, ◌^◌, ◌≤◌, ◌<◌, min}
use native.Mathlib.Omega.{arith}
use mathlib.Core.Path.{◌≡◌, refl, ap, ap₂, ◌∙◌}
use mathlib.Core.List.{List}
use lib.Dec.{lit<}
use lib.ListN.{get_or, length}
use borrow.Author.Tests.{lt-ltb}
use Rattle.forest.proofs.Laws.{size_join, size_zero, tree_of_size}
use Rattle.forest.specs.Forest.{join, none, tree}
use Rattle.forest.specs.code.Cursors.{from, size}
use Rattle.terms.proofs.Bodies.{Says, says}
use Rattle.terms.specs.Costs.{BodyCosts, body_cost, cost_of, costs, defined_cost, function_cost}
use Rattle.terms.specs.Labels.{Label, Terms, defined, function, literal, name, operator}
use Rattle.terms.specs.code.Codes.{literal_kind, name_kind, operator_kind}
use Rattle.terms.proofs.CodeParts.{kind_with}
use Rattle.forest.specs.Limits.{most_defined, most_functions}
use Rattle.terms.specs.code.Nodes.{code_at, code_of, size_at, value_at, value_of}
use Rattle.terms.specs.Sorts.{Definition}
use Rattle.evaluation.specs.code.Budget.{Priced, held}
use Rattle.evaluation.specs.code.Costs.{Costing}
use Rattle.evaluation.specs.code.Tables.{CallsKnown, BodiesHold, Callable, body_place, no_place}
use Rattle.evaluation.proofs.Bodies.{Body, held_defined, held_function}
use Rattle.evaluation.proofs.Cursors.{calls_join}
use Rattle.terms.proofs.Cursors.{cursor_next, tree_within}
use Rattle.evaluation.proofs.Sums.{bodies_cost, bodies_join, cost_parts, cost_some, sum_more}

-- What a list of costs has at the place of a label's body: what is held of its cost, if it has a body.
record Price (costs : List ℕ) (place cost : ℕ) : Type 0 where
  applied : place < no_place → (1 ≤ cost) × (get_or costs place 0 ≡ held cost)
  other : no_place ≤ place → cost ≡ 0

-- A label without a body.
no_price : (costs : List ℕ) {place : ℕ} → place ≡ no_place → Price costs place 0
no_price costs e = record { applied = λ h. absurd (omega arith); other = λ h. refl }

-- A label with a body.
a_price : {costs : List ℕ} {place p cost : ℕ} → place ≡ p → p < no_place → 1 ≤ cost → get_or costs p 0 ≡ held cost → Price costs place cost
a_price e h l g = record { applied = λ q. (l, rw e g); other = λ q. absurd (omega arith) }

-- A body costs something.
body_some : {all : Terms} {bodies : List ℕ} {callable place cost : ℕ} {give : _} → Body all bodies callable place cost give → 1 ≤ cost
body_some b = rw (b.cost_is, b.stands.is) (cost_some _ _ _ _)

module _ {nodes bodies costs : List ℕ} {defs funs : List Definition} (h : BodiesHold nodes bodies defs funs) (priced : Priced costs defs funs) where
  -- The price of a label's body.
  label_price : (l : Label) → Callable (length defs) (length funs) l
      → Price costs (body_place (code_of l) (value_of l)) (body_cost (record { defined = defined_cost defs; functions = function_cost defs funs }) l)
  label_price (literal s v) k = no_price costs (rw (kind_with literal_kind s (lit< tt)))
  label_price (name s n) k = no_price costs (rw (kind_with name_kind s (lit< tt)))
  label_price (operator o i j) k = no_price costs (rw (kind_with operator_kind o (lit< tt)))
  label_price (defined n) k =
      a_price (rw (lt-ltb n most_defined (omega (arith, h.defined_most)))) (omega (arith, h.defined_most)) (body_some (held_defined h n k).body)
      (priced.defined n k)
  label_price (function n) k =
      a_price (rw (lt-ltb n most_functions (omega (arith, h.functions_most)))) (omega (arith, h.functions_most))
      (body_some (held_function h n k).body)
      (priced.functions n k)

-- The costs of the bodies that a term may apply.
abbrev pub body_costs : {nodes bodies costs : List ℕ} {i : ℕ} (e : Costing nodes bodies costs i) → BodyCosts
body_costs e = record { defined = defined_cost e.defs; functions = function_cost e.defs e.funs }

-- What is summed up before node j: the cost is that with the bodies of the nodes that are left.
pub record Summed {nodes bodies costs : List ℕ} {i : ℕ} (e : Costing nodes bodies costs i) (stop sum j : ℕ) : Type 0 where
  pub left : Terms
  pub rest : Terms
  pub at : from e.holds.all j ≡ join left rest
  pub ends : stop ≡ j + size left
  pub calls : CallsKnown (length e.defs) (length e.funs) left
  pub so_far : held (cost_of e.defs e.funs e.t) ≡ min (sum + bodies_cost (body_costs e) left) (2 ^ 64 - 1)

module _ {nodes bodies costs : List ℕ} {i : ℕ} (e : Costing nodes bodies costs i) where
  -- What the table says of the term's first node.
  first_node : Says nodes i e.stands.label e.stands.operands
  first_node = says e.holds.all e.holds.rest i _ _ e.stands.rest e.holds.nodes_are e.stands.at

  -- The term has nodes.
  pub size_some : {n : ℕ} → n ≡ size_at nodes i → 1 ≤ n
  size_some q = omega (arith, q ∙ first_node.size)

  -- It ends within the table.
  pub ends_within : {n : ℕ} → n ≡ size_at nodes i → i + n ≤ length nodes
  ends_within q = rw (q ∙ first_node.size) (tree_within e.holds.all e.holds.rest i _ _ e.stands.rest e.holds.nodes_are e.stands.at)

  -- At the start there are only the nodes.
  pub sum_start : {n : ℕ} → n ≡ size_at nodes i → Summed e (i + n) (n - 1) i
  unfolding join size CallsKnown
  sum_start {n} q =
      let s = e.stands in
      let t = tree s.label s.operands none in
      record {
        left = t;
        rest = s.rest;
        at = s.at;
        ends = omega (arith, q ∙ first_node.size);
        calls = rw s.is at e.calls;
        so_far = rw s.is (omega (arith, cost_parts (body_costs e) t, q ∙ first_node.size));
      }

  -- At the end it is what is held of the cost.
  pub sum_end : {stop sum j : ℕ} → Summed e stop sum j → stop ≤ j → sum ≤ 2 ^ 64 - 1 → sum ≡ held (cost_of e.defs e.funs e.t)
  unfolding bodies_cost
  sum_end r h l =
      let n = size_zero r.left (omega (arith, r.ends)) in
      omega (arith, r.so_far, ap (bodies_cost (body_costs e)) n)

  -- The node at which a sum stands: its label and its operands, and the trees that are left behind it.
  record Here (stop sum j : ℕ) : Type 0 where
    label : Label
    operands : Terms
    more : Terms
    rest : Terms
    at : from e.holds.all j ≡ tree label operands (join more rest)
    ends : stop ≡ j + suc (size operands + size more)
    known : Callable (length e.defs) (length e.funs) label
    calls : CallsKnown (length e.defs) (length e.funs) (join operands more)
    so_far : held (cost_of e.defs e.funs e.t)
        ≡ min (sum + (body_cost (body_costs e) label + bodies_cost (body_costs e) (join operands more))) (2 ^ 64 - 1)

  -- Where a node is left, the sum stands at one.
  here : {stop sum j : ℕ} → Summed e stop sum j → j < stop → Here stop sum j
  unfolding join size CallsKnown bodies_cost
  here {stop} {sum} {j} r h =
      let t = tree_of_size r.left (omega (arith, r.ends)) in
      let calls : CallsKnown (length e.defs) (length e.funs) (tree t.l t.ops t.rest) = rw t.is at r.calls in
      record {
        label = t.l;
        operands = t.ops;
        more = t.rest;
        rest = r.rest;
        at = r.at ∙ ap (λ (x : Terms). join x r.rest) t.is;
        ends = omega (arith, r.ends, ap size t.is);
        known = calls.0;
        calls = calls_join _ _ t.ops t.rest calls.1 calls.2;
        so_far = omega (arith, r.so_far, ap (bodies_cost (body_costs e)) t.is, bodies_join (body_costs e) t.ops t.rest);
      }

  -- The sum that stands at the next node.
  next : {stop sum sum' j : ℕ} (r : Here stop sum j)
      → held (cost_of e.defs e.funs e.t) ≡ min (sum' + bodies_cost (body_costs e) (join r.operands r.more)) (2 ^ 64 - 1)
      → Summed e stop sum' (j + 1)
  next {j = j} r q =
      record {
        left = join r.operands r.more;
        rest = r.rest;
        at = cursor_next e.holds.all j r.label r.operands r.more r.rest r.at;
        ends = omega (arith, r.ends, size_join r.operands r.more);
        calls = r.calls;
        so_far = q;
      }

  module _ {stop sum j code value place : ℕ} (r : Summed e stop sum j) (h : j < stop) (code_is : code ≡ code_at nodes j) (value_is : value ≡ value_at nodes j)
      (place_is : place ≡ body_place code value)
    where
      -- The price of the node's body.
      price : Price costs place (body_cost (body_costs e) (here r h).label)
      price =
          let n = here r h in
          let s = says e.holds.all e.holds.rest j _ _ _ e.holds.nodes_are n.at in
          rw (place_is ∙ ap₂ body_place (code_is ∙ s.code) (value_is ∙ s.value)) (label_price e.holds e.priced n.label n.known)

      -- A node that applies a body adds what is held of the body's cost, and 1.
      pub sum_body : {cost a sum' : ℕ} → place < no_place → cost ≡ get_or costs place 0 → a ≡ min (sum + cost) (2 ^ 64 - 1) → sum' ≡ min (a + 1) (2 ^ 64 - 1)
          → Summed e stop sum' (j + 1)
      sum_body p c a s = let q = price.applied p in next (here r h) ((here r h).so_far ∙ sum_more _ _ _ (c ∙ q.1) q.0 a s)

      -- Any other node adds nothing.
      pub sum_other : {sum' : ℕ} → no_place ≤ place → sum' ≡ sum → Summed e stop sum' (j + 1)
      sum_other p q = next (here r h) (omega (arith, (here r h).so_far, price.other p))
