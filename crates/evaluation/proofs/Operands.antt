-- The loop over the operands of a term: the values of those passed stand on the stack.
use Prim.Native.Nat.{ℕ, suc, ◌+◌, ◌≤◌, ◌<◌}
use native.Mathlib.Omega.{arith}
use mathlib.Core.Path.{◌≡◌, refl, sym, ap, subst, ◌∙◌}
use mathlib.Core.Bool.{cond}
use mathlib.Core.List.{List, [], ◌∷◌, ◌++◌, append_assoc, append-nil}
use mathlib.Core.Option.{some}
use lib.Dec.{eqb}
use lib.ListN.{get_or, length, length-append, set, take}
use Rattle.forest.proofs.Laws.{from_over, size_zero, tree_of_size}
use Rattle.forest.specs.Forest.{join, none, tree}
use Rattle.forest.specs.code.Cursors.{from, size}
use Rattle.terms.proofs.Bodies.{Says, says}
use Rattle.terms.specs.Costs.{cost_of, costs}
use Rattle.terms.specs.Labels.{Label, Terms}
use Rattle.terms.specs.code.Nodes.{size_at}
use Rattle.terms.specs.Values.{Meaning, label_value, meaning_at, sorts_in, value_over, values_at, values_in, with_value}
use Rattle.terms.specs.declared.Value.{Value}
use Rattle.evaluation.specs.code.Evaluator.{Evaluable, Evaluated, Names, OperandsAre, OperandsEvaluable, Pushed, Room}
use Rattle.evaluation.proofs.Stack.{below_same, pushed_kept, pushed_more, sort_more}
use Rattle.terms.proofs.Cursors.{tree_within}
use Rattle.terms.proofs.Valued.{TreeParts, tree_parts}

-- A tree that has a value, by itself.
pub tree_value : (meaning : Meaning) (l : Label) (ops : Terms) {vs : List Value} {v : Value} → label_value meaning l vs ≡ some v → values_in meaning ops ≡ some vs
    → values_in meaning (tree l ops none) ≡ some (v ∷ [])
unfolding values_in value_over with_value
tree_value meaning l ops h g = rw (g, h)

-- What is done before operand k, which stands at node j: the values of the operands passed, and those that are left.
pub record Done {nodes bodies stack : List ℕ} {base top i stop left : ℕ} (e : OperandsEvaluable nodes bodies stack base top i stop left) (after : List ℕ)
    (one two j k : ℕ) : Type 0 where
  pub operands : Terms
  pub at : from e.holds.all j ≡ join operands e.rest
  pub ends : stop ≡ j + size operands
  pub room : Room stack (top + k) (size operands) e.defs e.funs
  pub cost : cost_of e.defs e.funs operands ≤ left
  pub done : List Value
  pub vs : List Value
  pub has : values_at e.defs e.funs e.point operands ≡ some vs
  pub all : done ++ vs ≡ e.vs
  pub number : length done ≡ k
  pub pushed : Pushed stack after top done
  pub sort_one : one ≡ get_or (sorts_in done) 0 0
  pub sort_two : two ≡ get_or (sorts_in done) 1 0

module _ {nodes bodies stack : List ℕ} {base top i stop left : ℕ} (e : OperandsEvaluable nodes bodies stack base top i stop left) where
  module _ {after : List ℕ} {one two j k : ℕ} (r : Done e after one two j k) where
    -- At the end all are.
    pub all_done : stop ≤ j → OperandsAre stack after top one two e.vs
    unfolding values_in
    all_done h =
        let n = size_zero r.operands (omega (arith, r.ends)) in
        let nil : some [] ≡ some r.vs = rw n at r.has in
        let nil' : r.vs ≡ [] = cc in
        let q : r.done ≡ e.vs = sym (append-nil r.done) ∙ rw nil' at r.all in
        rw (← q) (record { pushed = r.pushed; sort_one = r.sort_one; sort_two = r.sort_two })

    -- The operand at node j.
    pub record First : Type 0 where
      pub label : Label
      pub ops : Terms
      pub more : Terms
      pub at : from e.holds.all j ≡ tree label ops (join more e.rest)
      pub ends : stop ≡ j + suc (size ops + size more)
      pub room : Room stack (top + k) (suc (size ops + size more)) e.defs e.funs
      pub cost : cost_of e.defs e.funs (tree label ops more) ≤ left
      pub values : TreeParts (meaning_at e.defs e.funs e.point) label ops more r.vs

    -- Where a node is left, an operand stands there.
    pub first : j < stop → First
    unfolding join size
    first h =
        let t = tree_of_size r.operands (omega (arith, r.ends)) in
        record {
          label = t.l;
          ops = t.ops;
          more = t.rest;
          at = r.at ∙ ap (λ (x : Terms). join x e.rest) t.is;
          ends = omega (arith, r.ends, ap size t.is);
          room = omega (arith, r.room, ap size t.is);
          cost = rw t.is at r.cost;
          values = tree_parts _ t.l t.ops t.rest (rw t.is at r.has);
        }

    module _ (h : j < stop) where
      -- It has a value.
      pub first_value : values_at e.defs e.funs e.point (tree (first h).label (first h).ops none) ≡ some ((first h).values.first ∷ [])
      first_value = let f = first h in tree_value _ f.label f.ops f.values.label f.values.ops_have

      -- And it costs no more than what is left.
      pub first_cost : cost_of e.defs e.funs (tree (first h).label (first h).ops none) ≤ left
      unfolding costs
      first_cost = omega (arith, (first h).cost)

      -- The operands behind it cost no more either.
      more_cost : cost_of e.defs e.funs (first h).more ≤ left
      unfolding costs
      more_cost = omega (arith, (first h).cost)

      -- The stack is as long as before.
      as_long : length after ≡ length stack
      as_long = r.pushed.as_long

      -- There is room for it.
      pub first_room : Room after (top + k) (size (tree (first h).label (first h).ops none)) e.defs e.funs
      unfolding size
      first_room = omega (arith, (first h).room, as_long)

      -- What is pushed lies within the stack.
      within : top ≤ length stack
      within = omega (arith, e.room)

      -- The names are where they were.
      pub names_kept : Names after base e.point
      names_kept = below_same (length e.point) base top after stack e.under (pushed_kept r.done within r.pushed) ∙ e.names

      -- So it can be evaluated.
      abbrev pub operand_evaluable : Evaluable nodes bodies after base (top + k) j left
      operand_evaluable =
          record {
            defs = e.defs;
            funs = e.funs;
            holds = e.holds;
            point = e.point;
            names = names_kept;
            under = omega (arith, e.under);
            fits = e.fits;
            t = tree (first h).label (first h).ops none;
            stands = record {
              label = (first h).label;
              operands = (first h).ops;
              rest = join (first h).more e.rest;
              at = (first h).at;
              is = refl;
            };
            v = (first h).values.first;
            has = first_value;
            cost = first_cost;
            room = first_room;
          }

      -- There is a place for its value.
      pub operand_room : top + k < length stack
      operand_room = omega (arith, (first h).room)

      -- It is there after the operand's value is known too.
      pub operand_place : {after' : List ℕ} {v : Value} → Evaluated nodes bodies after after' base (top + k) j left v → top + k < length after'
      operand_place g = let given = g operand_evaluable in omega (arith, operand_room, as_long, given.as_long)

      -- What the table says of it.
      said : Says nodes j (first h).label (first h).ops
      said = says e.holds.all e.holds.rest j _ _ _ e.holds.nodes_are (first h).at

      module _ {n : ℕ} (n-is : n ≡ size_at nodes j) where
        -- It has nodes.
        pub operand_size : 1 ≤ n
        operand_size = omega (arith, n-is ∙ said.size)

        -- It ends within the table.
        pub operand_within : j + n ≤ length nodes
        operand_within = rw (n-is ∙ said.size) (tree_within e.holds.all e.holds.rest j _ _ _ e.holds.nodes_are (first h).at)

        -- One operand more is passed once its value and its sort are stored.
        pub one_done : {after' : List ℕ} {v : Value} {one' two' : ℕ} → Evaluated nodes bodies after after' base (top + k) j left v
            → one' ≡ cond (eqb k 0) v.sort one → two' ≡ cond (eqb k 1) v.sort two
            → Done e (set after' (top + k) v.number) one' two' (j + n) (k + 1)
        one_done {after'} {v} got s t =
            let f = first h in
            let given = got operand_evaluable in
            let v-is : v ≡ f.values.first = given.is in
            record {
              operands = f.more;
              at = rw (n-is ∙ said.size) (from_over e.holds.all j f.label f.ops (join f.more e.rest) f.at);
              ends = omega (arith, f.ends, n-is ∙ said.size);
              room = omega (arith, f.room);
              cost = more_cost;
              done = r.done ++ (v ∷ []);
              vs = f.values.others;
              has = f.values.rest_have;
              all = rw (append_assoc, v-is, f.values.together) r.all;
              number = omega (arith, length-append r.done (v ∷ []), r.number);
              pushed = subst (λ (m : ℕ). Pushed stack (set after' (top + m) v.number) top (r.done ++ (v ∷ []))) r.number
                  (pushed_more r.done within r.pushed v after' (omega (arith, operand_room, as_long, given.as_long, r.number))
                  (subst (λ (m : ℕ). take (top + m) after' ≡ take (top + m) after) (sym r.number) given.kept) given.as_long);
              sort_one = sort_more 0 r.done v r.number r.sort_one s;
              sort_two = sort_more 1 r.done v r.number r.sort_two t;
            }
