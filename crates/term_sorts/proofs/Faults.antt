-- The first fault of forms, node by node from the last to the first.
use Prim.Native.Nat.{ℕ, suc, ◌+◌, ◌≤◌, ◌<◌, min}
use native.Mathlib.Nat.{add-zero}
use native.Mathlib.Omega.{arith}
use mathlib.Core.Bool.{Bool, true, false, cond, not, ◌&&◌, ◌||◌}
use mathlib.Core.Path.{◌≡◌, refl, ap, ◌∙◌}
use mathlib.Core.List.{List}
use mathlib.Core.Option.{Option, none as nothing, some}
use borrow.Author.Tests.{le-ltb, lt-ltb, ltb-false, ltb-true, ne_eqb}
use lib.Dec.{eqb, ltb}
use Rattle.forest.specs.Forest.{Forest, join, none, tree}
use Rattle.forest.specs.code.Cursors.{size}
use Rattle.derivation.specs.Derivation.{Item}
use Rattle.terms.specs.Sorts.{sort_over, with_sort}
use Rattle.term_sorts.specs.Forms.{FormScope, form_sorts, item_sort, sorted, tree_sort}
use Rattle.term_sorts.specs.code.Forms.{fault_from, sort_number}
use Rattle.term_sorts.proofs.AllSorted.{sorted_with}

-- A number between two others.
record Between (least most n : ℕ) : Type 0 where
  low : least ≤ n
  high : n ≤ most

-- The lesser of two numbers of which the one is between, and the other above the least.
min_between : {least most a b : ℕ} → Between least most a → least ≤ b → Between least most (min a b)
min_between p q = record { low = omega (arith, p.low); high = omega (arith, p.high) }

-- The least of three numbers.
min_assoc : (a b c : ℕ) → min a (min b c) ≡ min (min a b) c
min_assoc a b c = omega arith

-- Either of two numbers that are between.
either_between : (test : Bool) {least most a b : ℕ} → Between least most a → Between least most b → Between least most (cond test a b)
either_between true p q = p
either_between false p q = q

-- Whether the lesser of two numbers is below a third.
min_below : (a b n : ℕ) → ltb (min a b) n ≡ ltb a n || ltb b n
min_below a b n = go (ltb a n) refl (ltb b n) refl
  where
    go : (p : Bool) → ltb a n ≡ p → (q : Bool) → ltb b n ≡ q → ltb (min a b) n ≡ p || q
    go true e q f = lt-ltb (min a b) n (omega (arith, ltb-true a n e))
    go false e true f = lt-ltb (min a b) n (omega (arith, ltb-true b n f))
    go false e false f = le-ltb (min a b) n (omega (arith, ltb-false a n e, ltb-false b n f))

-- Whether there is a fault in a tree or behind it, where the operands' faults start at `within` and those behind it at `behind`.
step_test : (within behind nowhere k : ℕ) (rule : List ℕ → Option ℕ) (ss : Option (List ℕ)) (more : Option (List ℕ)) → ltb within nowhere ≡ not (sorted ss)
    → ltb behind nowhere ≡ not (sorted more) → k < nowhere
    → ltb (min (cond (ltb within nowhere) within (cond (sorted (sort_over rule ss)) nowhere k)) behind) nowhere ≡ not (sorted (with_sort (sort_over rule ss) more))
unfolding sort_over with_sort
step_test within behind nowhere k rule nothing more a b h = rw a (min_below within behind nowhere ∙ rw a)
step_test within behind nowhere k rule (some ss) more a b h = rw a (go (rule ss))
  where
    go : (t : Option ℕ) → ltb (min (cond (sorted t) nowhere k) behind) nowhere ≡ not (sorted (with_sort t more))
    go nothing = min_below k behind nowhere ∙ rw (lt-ltb k nowhere h)
    go (some s) = min_below nowhere behind nowhere ∙ rw (le-ltb nowhere nowhere (omega arith), sorted_with (some s) more (λ z. omega arith)) b

-- The first fault of a tree and of what is behind it, by what is found at its node.
step_fault : {within behind nowhere k sort : ℕ} {whole : Bool} (ss : Option (List ℕ)) (t : Option ℕ) → ltb within nowhere ≡ not (sorted ss) → within ≤ nowhere
    → k ≤ behind → whole ≡ sorted ss → sort ≡ sort_number t
    → cond (whole && eqb sort 0) k (min within behind) ≡ min (cond (ltb within nowhere) within (cond (sorted t) nowhere k)) behind
step_fault nothing t a w l q r = rw (q, a)
step_fault {within} {behind} {nowhere} {k} (some ss) nothing a w l q r = rw (q, a, r) (omega arith)
step_fault {within} {behind} {nowhere} {k} (some ss) (some s) a w l q r =
    let far = ltb-false within nowhere a in
    let e : within ≡ nowhere = omega arith in
    rw (q, a, r, ne_eqb (s + 1) 0 (λ z. omega arith)) (ap (λ (n : ℕ). min n behind) e)

module _ (scope : FormScope) (nowhere : ℕ) where
  -- A fault is at one of the nodes, or nowhere.
  fault_between : (k : ℕ) (F : Forest Item) → k + size F ≤ nowhere → Between k nowhere (fault_from scope nowhere k F)
  unfolding fault_from size
  fault_between k none h = record { low = omega arith; high = omega arith }
  fault_between k (tree i ops rest) h =
      let within = fault_between (k + 1) ops (omega arith) in
      let behind = fault_between (k + suc (size ops)) rest (omega arith) in
      let wide : Between k nowhere (fault_from scope nowhere (k + 1) ops) = record { low = omega (arith, within.low); high = within.high } in
      let far : Between k nowhere nowhere = record { low = omega arith; high = omega arith } in
      let here : Between k nowhere k = record { low = omega arith; high = omega arith } in
      let low : k ≤ fault_from scope nowhere (k + suc (size ops)) rest = omega (arith, behind.low) in
      let either = either_between (sorted (tree_sort scope i (form_sorts scope ops))) far here in
      min_between (either_between (ltb (fault_from scope nowhere (k + 1) ops) nowhere) wide either) low

  -- There is one exactly where a sort is missing.
  fault_test : (k : ℕ) (F : Forest Item) → k + size F ≤ nowhere → ltb (fault_from scope nowhere k F) nowhere ≡ not (sorted (form_sorts scope F))
  unfolding fault_from form_sorts size
  fault_test k none h = le-ltb nowhere nowhere (omega arith)
  fault_test k (tree i ops rest) h =
      step_test _ _ nowhere k (item_sort scope i) (form_sorts scope ops) (form_sorts scope rest) (fault_test (k + 1) ops (omega arith))
      (fault_test (k + suc (size ops)) rest (omega arith)) (omega arith)

  -- The first fault of forms one after the other.
  fault_join : (k : ℕ) (a b : Forest Item) → k + size a + size b ≤ nowhere
      → fault_from scope nowhere k (join a b) ≡ min (fault_from scope nowhere k a) (fault_from scope nowhere (k + size a) b)
  unfolding fault_from join size
  fault_join k none b h = rw add-zero (omega (arith, (fault_between k b (omega arith)).high))
  fault_join k (tree i ops rest) b h =
      let next : k + suc (size ops) + size rest ≡ k + suc (size ops + size rest) = omega arith in
      rw (fault_join (k + suc (size ops)) rest b (omega arith), next) (min_assoc _ _ _)

  -- The first fault from a node on, by what is found there and the first fault behind the node.
  pub fault_turn : (k : ℕ) (i : Item) (ops rest : Forest Item) → k + size (tree i ops rest) ≤ nowhere → {sort : ℕ} {whole : Bool}
      → whole ≡ sorted (form_sorts scope ops) → sort ≡ sort_number (tree_sort scope i (form_sorts scope ops))
      → cond (whole && eqb sort 0) k (fault_from scope nowhere (k + 1) (join ops rest)) ≡ fault_from scope nowhere k (tree i ops rest)
  unfolding fault_from size
  fault_turn k i ops rest h q r =
      let next : k + 1 + size ops ≡ k + suc (size ops) = omega arith in
      let behind = fault_between (k + suc (size ops)) rest (omega arith) in
      rw (fault_join (k + 1) ops rest (omega arith), next)
      (step_fault (form_sorts scope ops) (tree_sort scope i (form_sorts scope ops)) (fault_test (k + 1) ops (omega arith))
      (fault_between (k + 1) ops (omega arith)).high (omega (arith, behind.low)) q r)

  -- There is none past the last node.
  pub fault_none : (k : ℕ) → fault_from scope nowhere k none ≡ nowhere
  unfolding fault_from
  fault_none k = refl
