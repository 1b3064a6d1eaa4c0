-- The value of a term by its label: what the term evaluator asks of the functions that it calls, and what it gives.
use Prim.Native.Nat.{ℕ, suc, ◌+◌, ◌-◌, ◌*◌, ◌≤◌, ◌<◌}
use native.Mathlib.Omega.{arith}
use mathlib.Core.Path.{◌≡◌, refl, sym, ap, ap₂, ◌∙◌}
use mathlib.Core.List.{List, [], ◌∷◌}
use mathlib.Core.Option.{some}
use lib.ListN.{drop, get_or, length, take}
use lib.Seq.{get_or-drop, get_or-take}
use Rattle.forest.proofs.Laws.{count_size, from_one}
use Rattle.forest.specs.Forest.{join, none}
use Rattle.forest.specs.Limits.{most_nodes}
use Rattle.forest.specs.code.Cursors.{from, size}
use Rattle.operators.specs.Operators.{operator_sort}
use Rattle.operators.specs.Sorts.{AllFit}
use Rattle.terms.proofs.Bodies.{Says, plain_at, says}
use Rattle.terms.specs.Costs.{body_cost, cost_of, costs, defined_cost, function_cost}
use Rattle.terms.specs.code.Codes.{cut_value, head_of, kind_of, literal_kind, name_kind, operator_kind}
use Rattle.terms.specs.code.Nodes.{Plain, code_at, code_of, operands_at, size_at, value_at, value_of}
use Rattle.terms.specs.Values.{Meaning, defined_value, label_value, meaning_at, numbers_in, sorts_in, value, values_at}
use Rattle.terms.specs.declared.Value.{Value}
use Rattle.evaluation.specs.code.Evaluator.{Evaluable, Evaluated, Names, OperandsAre, OperandsEvaluable, OperandsEvaluated, OperatorGave, OperatorReady, Room}
use Rattle.evaluation.specs.code.Evaluator.{ValueIs}
use Rattle.evaluation.specs.code.Tables.{TermStands, body_place}
use Rattle.evaluation.proofs.Stack.{kept_below, pushed_kept, pushed_names}
use Rattle.evaluation.proofs.LabelValues.{Operator, call_label, literal_label, name_label, no_functions, operator_label}
use Rattle.evaluation.proofs.Bodies.{Body, held_seen}
use Rattle.terms.proofs.Cursors.{tree_within}
use Rattle.evaluation.proofs.Fitting.{Called, called_body, values_fit}
use Rattle.evaluation.proofs.ValuedTrees.{label_known}
use Rattle.terms.proofs.Valued.{TreeParts, tree_parts, values_count}

module _ {nodes bodies stack : List ℕ} {base top i left : ℕ} (e : Evaluable nodes bodies stack base top i left) where
  -- What names and functions mean.
  abbrev pub meaning : Meaning
  meaning = meaning_at e.defs e.funs e.point

  -- The values of the term's operands.
  pub split : TreeParts meaning e.stands.label e.stands.operands none (e.v ∷ [])
  split = tree_parts meaning _ _ none (rw e.stands.is at e.has)

  -- The value of its label over them is its own.
  pub labelled : label_value meaning e.stands.label split.operands ≡ some e.v
  labelled = let q : split.first ≡ e.v = cc split.together in split.label ∙ ap some q

  -- They are of their sorts.
  pub operands_fit : AllFit (sorts_in split.operands) (numbers_in split.operands)
  operands_fit = values_fit e.defs e.funs e.point e.fits e.stands.operands split.ops_have

  -- What the table says of its first node.
  said : Says nodes i e.stands.label e.stands.operands
  said = says e.holds.all e.holds.rest i _ _ e.stands.rest e.holds.nodes_are e.stands.at

  -- Its cost, by parts.
  cost_by_parts : 1 + cost_of e.defs e.funs e.stands.operands
      + body_cost (record { defined = defined_cost e.defs; functions = function_cost e.defs e.funs }) e.stands.label ≤ left
  unfolding costs
  cost_by_parts = omega (arith, rw e.stands.is at e.cost)

  -- Something is left.
  pub left_some : 1 ≤ left
  left_some = omega (arith, cost_by_parts)

  -- It ends within the table.
  pub term_within : {n : ℕ} → n ≡ size_at nodes i → i + n ≤ length nodes
  term_within q = rw (q ∙ said.size) (tree_within e.holds.all e.holds.rest i _ _ e.stands.rest e.holds.nodes_are e.stands.at)

  -- There is room for its operands, and for what the bodies call.
  pub room_by_parts : top + suc (size e.stands.operands) + most_nodes * (length e.defs + length e.funs) ≤ length stack
  unfolding size
  room_by_parts = omega (arith, ap size e.stands.is, e.room)

  -- The stack is as long as what is in use.
  within : top ≤ length stack
  within = omega (arith, room_by_parts)

  -- This value, and the stack as it was.
  pub unchanged : {r : Value} → r ≡ e.v → ValueIs stack stack top r e.v
  unchanged q = record { is = q; kept = refl; as_long = refl }

  -- Its label's numbers tell it.
  plain : Plain e.stands.label
  plain = plain_at e.holds.all i _ _ e.stands.rest e.holds.plain e.stands.at

  module _ {code v kind : ℕ} (code_is : code ≡ code_at nodes i) (value_is : v ≡ value_at nodes i) (kind_is : kind ≡ kind_of code) where
    -- The code is the label's.
    code-of : code ≡ code_of e.stands.label
    code-of = code_is ∙ said.code

    -- The value is the label's.
    value-of : v ≡ value_of e.stands.label
    value-of = value_is ∙ said.value

    -- Its kind.
    kind-of : kind_of (code_of e.stands.label) ≡ kind
    kind-of = ap kind_of (sym code-of) ∙ sym kind_is

    -- The value of a literal.
    pub literal_value : {sort : ℕ} → kind ≡ literal_kind → sort ≡ head_of code → ValueIs stack stack top (value sort v) e.v
    literal_value k s =
        unchanged
        (ap₂ value (s ∙ ap head_of code-of) value-of
        ∙ literal_label meaning e.stands.label split.operands plain (kind-of ∙ k) labelled)

    module _ (k : kind ≡ name_kind) where
      -- What it says of a name that there is a value.
      name_says : (value_of e.stands.label < length e.point)
          × (value (head_of (code_of e.stands.label)) (get_or (numbers_in e.point) (value_of e.stands.label) 0) ≡ e.v)
      name_says = name_label meaning e.stands.label split.operands (kind-of ∙ k) labelled

      -- The name's place lies within the stack.
      pub name_within : base + v < length stack
      name_within = omega (arith, name_says.0, value-of, e.under, within)

      -- The value of a name.
      pub name_value : {sort n : ℕ} → sort ≡ head_of code → n ≡ get_or stack (base + v) 0 → ValueIs stack stack top (value sort n) e.v
      name_value s q =
          let at = value_of e.stands.label in
          let front : get_or stack (base + at) 0 ≡ get_or (numbers_in e.point) at 0 =
          sym (get_or-drop base stack at 0) ∙ sym (get_or-take (length e.point) (drop base stack) at 0 name_says.0)
          ∙ ap (λ (l : List ℕ). get_or l at 0) e.names in
          unchanged (ap₂ value (s ∙ ap head_of code-of) (q ∙ ap (λ (m : ℕ). get_or stack (base + m) 0) value-of ∙ front) ∙ name_says.1)

    module _ (no-literal : kind ≡ literal_kind → ⊥) (no_name : kind ≡ name_kind → ⊥) where
      -- What it says of an operator's operands that there is a value.
      pub the_operator : kind ≡ operator_kind → Operator e.stands.label split.operands e.v
      the_operator k = operator_label meaning e.stands.label split.operands plain (kind-of ∙ k) labelled

      -- The body of the function that is applied.
      pub the_body : (kind ≡ operator_kind → ⊥)
          → Body e.holds.all bodies (length e.defs + length e.funs) (body_place (code_of e.stands.label) (value_of e.stands.label))
          (body_cost (record { defined = defined_cost e.defs; functions = function_cost e.defs e.funs }) e.stands.label)
          (label_value meaning e.stands.label)
      the_body no-operator =
          call_label e.holds e.point e.stands.label (λ q. no-literal (sym kind-of ∙ q)) (λ q. no_name (sym kind-of ∙ q))
          (λ q. no-operator (sym kind-of ∙ q))
          (label_known e.defs e.funs e.point e.stands.label split.operands labelled)

      -- The value that its body has.
      pub called_with : (k : kind ≡ operator_kind → ⊥) → Called (defined_value (the_body k).sees) (the_body k).d split.operands e.v
      called_with k = called_body (defined_value (the_body k).sees) (the_body k).d split.operands (sym ((the_body k).gives split.operands) ∙ labelled)

      module _ {n : ℕ} (n-is : n ≡ size_at nodes i) where
        -- They stand behind the term's first node.
        pub operands-at : from e.holds.all (i + 1) ≡ join e.stands.operands e.stands.rest
        operands-at = from_one e.holds.all i e.stands.label e.stands.operands e.stands.rest e.stands.at

        -- They end where the term does.
        pub operands_end : i + n ≡ i + 1 + size e.stands.operands
        operands_end = omega (arith, n-is ∙ said.size)

        -- They cost less than the term.
        pub operands_cost : cost_of e.defs e.funs e.stands.operands ≤ left - 1
        operands_cost = omega (arith, cost_by_parts)

        -- There is room for them.
        pub operands_room : Room stack top (size e.stands.operands) e.defs e.funs
        operands_room = omega (arith, room_by_parts)

        -- So they can be evaluated.
        abbrev pub operands_evaluable : OperandsEvaluable nodes bodies stack base top (i + 1) (i + n) (left - 1)
        operands_evaluable =
            record {
              defs = e.defs;
              funs = e.funs;
              holds = e.holds;
              point = e.point;
              names = e.names;
              under = e.under;
              fits = e.fits;
              ops = e.stands.operands;
              rest = e.stands.rest;
              at = operands-at;
              ends = operands_end;
              vs = split.operands;
              has = split.ops_have;
              cost = operands_cost;
              room = operands_room;
            }

        module _ {after : List ℕ} {one two m : ℕ} (got : OperandsEvaluated nodes bodies stack after base top (i + 1) (i + n) (left - 1) one two)
            (m-is : m ≡ operands_at nodes i) where
          -- The numbers and the sorts are those of the operands.
          pub are : OperandsAre stack after top one two split.operands
          are = got operands_evaluable

          -- There are as many as the table says.
          pub counted : m ≡ length split.operands
          counted = m-is ∙ said.operands ∙ sym (values_count meaning e.stands.operands split.ops_have)

          -- They lie within the stack.
          pub pushed_within : top + m ≤ length stack
          pushed_within = omega (arith, room_by_parts, m-is ∙ said.operands, count_size e.stands.operands)

          -- The stack is as long as before.
          pub after_long : length after ≡ length stack
          after_long = are.pushed.as_long

          -- Below them it is as before.
          after_kept : take top after ≡ take top stack
          after_kept = pushed_kept split.operands within are.pushed

          -- They are the names in the body.
          pub after_names : Names after top split.operands
          after_names = pushed_names split.operands within are.pushed

          module _ (k : kind ≡ operator_kind) {head : ℕ} (head_is : head ≡ head_of code) where
            -- The label's value has the numbers of `(_ extract i j)`.
            pub operator_numbers : v ≡ cut_value (the_operator k).i (the_operator k).j
            operator_numbers = value-of ∙ (the_operator k).value_is

            -- The operator is the one that the code says.
            operator_is : head ≡ (the_operator k).o
            operator_is = head_is ∙ ap head_of code-of ∙ (the_operator k).code

            -- It has a sort over the sorts of the operands.
            pub operator_sorted : operator_sort head (the_operator k).i (the_operator k).j (sorts_in split.operands) ≡ some (the_operator k).sort
            operator_sorted = rw operator_is (the_operator k).sorted

            -- The operands' numbers stand on the stack.
            pub operator_numbers_at : take (top + m - top) (drop top after) ≡ numbers_in split.operands
            operator_numbers_at =
                let q : top + m - top ≡ length split.operands = omega (arith, counted) in
                ap (λ (n : ℕ). take n (drop top after)) q ∙ after_names

            -- An operator is given the operands' sorts and numbers.
            abbrev pub operator_ready : OperatorReady head v one two after top (top + m)
            operator_ready =
                record {
                  high = (the_operator k).i;
                  low = (the_operator k).j;
                  bounds_are = operator_numbers;
                  small = (the_operator k).small;
                  vs = split.operands;
                  fit = operands_fit;
                  sort = (the_operator k).sort;
                  sorted = operator_sorted;
                  sort_one = are.sort_one;
                  sort_two = are.sort_two;
                  order = omega arith;
                  within = omega (arith, pushed_within, after_long);
                  numbers = operator_numbers_at;
                }

            -- What it gives is the term's value.
            pub operator_result : {r : Value} → OperatorGave head v one two after top (top + m) r → ValueIs stack after top r e.v
            operator_result g = record { is = g operator_ready ∙ rw operator_is (the_operator k).is; kept = after_kept; as_long = after_long }

          module _ (k : kind ≡ operator_kind → ⊥) {place b : ℕ} (place_is : place ≡ body_place code v) (b-is : b ≡ get_or bodies place 0) where
            -- The body stands where the tables say.
            pub body_stands : TermStands e.holds.all b (the_body k).d.body
            body_stands = rw (b-is ∙ ap (λ (p : ℕ). get_or bodies p 0) (place_is ∙ ap₂ body_place code-of value-of)) (the_body k).stands

            -- It has the term's value.
            pub body_value : values_at (the_body k).sees [] split.operands (the_body k).d.body ≡ some (e.v ∷ [])
            body_value = sym (no_functions (the_body k).sees split.operands (the_body k).d.body) ∙ (called_with k).body

            -- It costs less than the term.
            pub body-cost : cost_of (the_body k).sees [] (the_body k).d.body ≤ left - 1
            body-cost = omega (arith, cost_by_parts, (the_body k).cost_is)

            -- There is room for it: it calls fewer functions than the term.
            pub body_room : Room after (top + m) (size (the_body k).d.body) (the_body k).sees []
            body_room =
                omega
                (arith, room_by_parts, m-is ∙ said.operands, count_size e.stands.operands, after_long, (the_body k).small, (the_body k).fewer)

            -- So it can be evaluated, with the operands' values as its names.
            abbrev pub body_evaluable : Evaluable nodes bodies after top (top + m) b (left - 1)
            body_evaluable =
                record {
                  defs = (the_body k).sees;
                  funs = [];
                  holds = held_seen e.holds (the_body k).seen;
                  point = split.operands;
                  names = after_names;
                  under = omega (arith, counted);
                  fits = operands_fit;
                  t = (the_body k).d.body;
                  stands = body_stands;
                  v = e.v;
                  has = body_value;
                  cost = body-cost;
                  room = body_room;
                }

            -- What it gives is the term's value.
            pub body_result : {after' : List ℕ} {r : Value} → Evaluated nodes bodies after after' top (top + m) b (left - 1) r
                → ValueIs stack after' top r e.v
            body_result {after'} g =
                let given = g body_evaluable in
                record {
                  is = given.is;
                  kept = kept_below top (top + m) after' after (omega arith) given.kept ∙ after_kept;
                  as_long = given.as_long ∙ after_long;
                }
