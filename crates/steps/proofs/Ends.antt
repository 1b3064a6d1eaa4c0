-- Running the list of a body's steps: it ends with the body's value alone, and after each step the stack has the values of what is finished.
use Prim.Native.Nat.{ℕ, suc, ◌+◌, ◌-◌, ◌*◌, ◌/◌, ◌≤◌, ◌<◌}
use native.Mathlib.Nat.{add-zero, zero-add}
use native.Mathlib.Omega.{arith}
use mathlib.Core.Path.{◌≡◌, refl, sym, ap, ◌∙◌}
use mathlib.Core.Bool.{Bool, true, false}
use mathlib.Core.List.{List, [], ◌∷◌, ◌++◌, append_assoc, append-nil}
use mathlib.Core.Option.{some}
use borrow.Author.Tests.{eq-eqb, le-leb, le-ltb, leb-false, leb-true, lt-ltb}
use lib.Dec.{leb}
use lib.ListN.{length, length-append, take}
use lib.Seq.{append_snoc, take-append-add, take-append-le, take-nil}
use Rattle.forest.proofs.Nodes.{length_nodes}
use Rattle.forest.specs.Forest.{count, none, tree}
use Rattle.forest.specs.code.Cursors.{size}
use Rattle.operators.specs.Sorts.{AllFit, max_width, values_of}
use Rattle.operators.specs.Sorts.AllFit.{no_more as fit-no-more, also as fit-also}
use Rattle.terms.proofs.Valued.{tree_parts, values_count}
use Rattle.terms.specs.Labels.{Label, Terms}
use Rattle.terms.specs.Values.{Meaning, label_value, value_over, values_in, with_value}
use Rattle.terms.specs.declared.Value.{Value}
use Rattle.steps.specs.Ends.{Body, EachHas, Holds, Stated}
use Rattle.steps.specs.Ends.EachHas.{no_more, also}
use Rattle.steps.specs.Stack.{as_values, ended, ended_with, finished, first_bad, most_values, node_count, ran, run_from, turned}
use Rattle.steps.specs.Steps.{step_of, steps_of, uses_defined}
use Rattle.steps.proofs.Lists.{NoneUsed, as_many, none_used, step-width, steps_length, uses_alone}
use Rattle.steps.proofs.Stack.{step_runs}

module _ (meaning : Meaning) where
  -- The steps that follow those of a tree's operands: its label's, and those of the trees behind it.
  one_more : (l : Label) (ops rest : Terms) (more : List ℕ)
      → steps_of (tree l ops rest) ++ more ≡ steps_of ops ++ (step_of l (count ops) ++ (steps_of rest ++ more))
  unfolding steps_of
  one_more l ops rest more =
      append_assoc (steps_of ops ++ step_of l (count ops)) (steps_of rest) more ∙ append_assoc (steps_of ops) (step_of l (count ops)) (steps_of rest ++ more)

  -- The steps of terms put their values on the stack, and what follows goes on there.
  pub list_pushes : (F : Terms) {vs : List Value} → values_in meaning F ≡ some vs → uses_defined F ≡ false → (st : List Value) → length st + size F ≤ most_values
      → (k : ℕ) (more : List ℕ) → run_from meaning.names k (steps_of F ++ more) st ≡ run_from meaning.names (k + size F) more (turned vs ++ st)
  unfolding values_in steps_of size turned
  list_pushes none {vs} h u st room k more = let e : vs ≡ [] = cc in rw (e, add-zero)
  list_pushes (tree l ops rest) {vs} h u st room k more =
      let p = tree_parts meaning l ops rest h in
      let n = none_used l ops rest u in
      let counted : count ops ≡ length p.operands = sym (values_count meaning ops p.ops_have) in
      let behind = steps_of rest ++ more in
      let at : k + size ops + 1 + size rest ≡ k + suc (size ops + size rest) = omega arith in
      ap (λ (steps : List ℕ). run_from meaning.names k steps st) (one_more l ops rest more)
      ∙ list_pushes ops p.ops_have n.below st (omega arith) k (step_of l (count ops) ++ behind)
      ∙ ap (λ (c : ℕ). run_from meaning.names (k + size ops) (step_of l c ++ behind) (turned p.operands ++ st)) counted
      ∙ step_runs meaning l p.operands st p.label n.here (omega arith) (k + size ops) behind
      ∙ list_pushes rest p.rest_have n.behind (p.first ∷ st) (omega arith) (k + size ops + 1) more
      ∙ ap (λ (c : ℕ). run_from meaning.names c more (turned p.others ++ (p.first ∷ st))) at
      ∙ ap (run_from meaning.names (k + suc (size ops + size rest)) more)
      (sym (append_snoc (turned p.others) p.first st) ∙ ap (λ (us : List Value). turned us ++ st) p.together)

  -- The stack after the first n steps of terms, above what it had.
  record Above (F : Terms) (st : List Value) (n k : ℕ) : Type 0 where
    values : List Value
    each : EachHas meaning (finished n F) values
    stack : run_from meaning.names k (take (4 * n) (steps_of F)) st ≡ ended (turned values ++ st)

  -- A tree by itself has its label's value.
  tree_has : (l : Label) (ops : Terms) {us : List Value} {v : Value} → values_in meaning ops ≡ some us → label_value meaning l us ≡ some v
      → values_in meaning (tree l ops none) ≡ some (v ∷ [])
  unfolding values_in value_over with_value
  tree_has l ops o h = rw (o, h)

  module _ (l : Label) (ops rest : Terms) (u : NoneUsed l ops rest) (st : List Value) (n k : ℕ) where
    -- How many nodes the first tree has.
    here : node_count (tree l ops none) ≡ suc (size ops)
    unfolding size
    here = length_nodes (tree l ops none) ∙ omega arith

    -- Its steps.
    front : List ℕ
    front = steps_of ops ++ step_of l (count ops)

    front_long : length front ≡ 4 * suc (size ops)
    unfolding front
    front_long = length-append (steps_of ops) (step_of l (count ops)) ∙ omega (arith, steps_length ops u.below, step-width l (count ops) u.here)

    -- Within the first tree the stack is that of its operands.
    within : leb (node_count (tree l ops none)) n ≡ false → Above ops st n k → Above (tree l ops rest) st n k
    unfolding finished steps_of front
    within e a =
        let low : n < suc (size ops) = omega (arith, leb-false (node_count (tree l ops none)) n e, here) in
        let ops-long = steps_length ops u.below in
        record {
          values = a.values;
          each = rw e a.each;
          stack = ap (λ (s : List ℕ). run_from meaning.names k s st)
              (take-append-le (4 * n) front (steps_of rest) (omega (arith, front_long))
              ∙ take-append-le (4 * n) (steps_of ops) (step_of l (count ops)) (omega (arith, ops-long)))
              ∙ a.stack;
        }

    -- Past it the stack has its value, and above that what the trees behind it have.
    past : {v : Value} → leb (node_count (tree l ops none)) n ≡ true → uses_defined (tree l ops none) ≡ false → values_in meaning (tree l ops none) ≡ some (v ∷ [])
        → length st + suc (size ops) ≤ most_values → Above rest (v ∷ st) (n - node_count (tree l ops none)) (k + suc (size ops)) → Above (tree l ops rest) st n k
    unfolding finished steps_of front turned
    past {v} e none_here has room a =
        let behind = n - node_count (tree l ops none) in
        let cut : 4 * n ≡ length front + 4 * behind = omega (arith, front_long, here, leb-true (node_count (tree l ops none)) n e) in
        let left = take (4 * behind) (steps_of rest) in
        let alone : size (tree l ops none) ≡ suc (size ops) = sym (length_nodes (tree l ops none)) ∙ here in
        record {
          values = v ∷ a.values;
          each = rw e (also has a.each);
          stack = ap (λ (s : List ℕ). run_from meaning.names k s st)
              (ap (λ (c : ℕ). take c (front ++ steps_of rest)) cut ∙ take-append-add front (steps_of rest) (4 * behind)
              ∙ ap (λ (s : List ℕ). s ++ left) (sym (append-nil front)))
              ∙ list_pushes (tree l ops none) has none_here st (omega (arith, alone)) k left
              ∙ ap (λ (c : ℕ). run_from meaning.names (k + c) left (v ∷ st)) alone
              ∙ a.stack
              ∙ ap ended (sym (append_snoc (turned a.values) v st));
        }

  -- The stack after each step.
  after_some : (F : Terms) {vs : List Value} → values_in meaning F ≡ some vs → uses_defined F ≡ false → (st : List Value) → length st + size F ≤ most_values
      → (n k : ℕ) → n ≤ size F → Above F st n k
  unfolding steps_of size turned finished run_from
  after_some none h u st room n k b = record { values = []; each = no_more; stack = ap (λ (s : List ℕ). run_from meaning.names k s st) (take-nil (4 * n)) }
  after_some (tree l ops rest) {vs} h u st room n k b =
      let p = tree_parts meaning l ops rest h in
      let w = none_used l ops rest u in
      let has = tree_has l ops p.ops_have p.label in
      let size-here = here l ops rest w st n k in
      by_case l ops rest w st n k (leb (node_count (tree l ops none)) n) refl has (omega arith)
      (λ low. after_some ops p.ops_have w.below st (omega arith) n k (omega (arith, size-here)))
      (λ high.
      after_some rest p.rest_have w.behind (p.first ∷ st) (omega arith) (n - node_count (tree l ops none)) (k + suc (size ops))
      (omega (arith, size-here)))
    where
      by_case : (l : Label) (ops rest : Terms) (w : NoneUsed l ops rest) (st : List Value) (n k : ℕ) {v : Value} (whole : Bool)
          → leb (node_count (tree l ops none)) n ≡ whole → values_in meaning (tree l ops none) ≡ some (v ∷ []) → length st + suc (size ops) ≤ most_values
          → (n < node_count (tree l ops none) → Above ops st n k)
          → (node_count (tree l ops none) ≤ n → Above rest (v ∷ st) (n - node_count (tree l ops none)) (k + suc (size ops)))
          → Above (tree l ops rest) st n k
      by_case l ops rest w st n k true e has room low high = past l ops rest w st n k e (uses_alone l ops w.here w.below) has room (high (leb-true _ _ e))
      by_case l ops rest w st n k false e has room low high = within l ops rest w st n k e (low (leb-false _ _ e))

-- Arguments that fit have no bad index.
none_bad : {ss vs : List ℕ} → AllFit ss vs → (n : ℕ) → first_bad n ss vs ≡ n + length vs
unfolding first_bad
none_bad fit-no-more n = omega arith
none_bad (fit-also {s = s} {v = v} {ss = ss} {vs = vs} f more) n =
    let one : n + 1 + length vs ≡ n + suc (length vs) = omega arith in
    rw (le-leb s max_width f.sort, lt-ltb v (values_of s) f.value) (none_bad more (n + 1) ∙ one)

-- They are as many as the sorts.
as_many_fit : {ss vs : List ℕ} → AllFit ss vs → length ss ≡ length vs
as_many_fit fit-no-more = refl
as_many_fit (fit-also f more) = ap suc (as_many_fit more)

-- The runner on arguments that fit is the run of the steps.
pub ran_fitting : {ss vs : List ℕ} → AllFit ss vs → (steps : List ℕ) → ran ss vs steps ≡ ended_with (length steps / 4) (run_from (as_values ss vs) 0 steps [])
unfolding ran
ran_fitting {ss} {vs} a steps =
    let bad : first_bad 0 ss vs ≡ length vs = none_bad a 0 ∙ zero-add (length vs) in
    rw (eq-eqb _ _ (as_many_fit a), bad, le-ltb (length vs) (length vs) (omega arith))

module _ {sorts numbers : List ℕ} {t : Terms} (b : Body sorts numbers t) where
  -- There is room for the values of the body's nodes.
  room : length {A = Value} [] + size t ≤ most_values
  room = omega (arith, b.small, length_nodes t)

  -- The run of the list ends with the value alone.
  ends_alone : run_from (as_values sorts numbers) 0 (steps_of t) [] ≡ ended (b.v ∷ [])
  unfolding run_from turned
  ends_alone =
      ap (λ (names : List Value). run_from names 0 (steps_of t) []) (sym b.names)
      ∙ ap (λ (s : List ℕ). run_from b.meaning.names 0 s []) (sym (append-nil (steps_of t)))
      ∙ list_pushes b.meaning t b.has b.unused [] room 0 []

  -- The stack after n steps.
  holds : (n : ℕ) → n ≤ node_count t → Holds b.meaning t n
  holds n h =
      let a = after_some b.meaning t b.has b.unused [] room n 0 (omega (arith, length_nodes t)) in
      record { values = a.values; each = a.each; stack = a.stack ∙ ap ended (append-nil (turned a.values)) }

  -- What is said of the list.
  pub stated : Stated b
  stated = record {
    as_many = as_many t b.unused;
    alone = ran_fitting b.fit (steps_of t) ∙ ap (ended_with (length (steps_of t) / 4)) ends_alone;
    after_each = holds;
  }
