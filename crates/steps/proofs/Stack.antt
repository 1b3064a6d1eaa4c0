-- One step on a stack: the step of a label takes the values of its operands off and puts the label's value on.
use Prim.Native.Nat.{ℕ, ◌+◌, ◌<◌}
use native.Mathlib.Omega.{arith}
use mathlib.Core.Path.{◌≡◌, refl, sym, ap, ap₂, ◌∙◌}
use mathlib.Core.Bool.{Bool, true, false, cond, ◌&&◌}
use mathlib.Core.List.{List, [], ◌∷◌, ◌++◌}
use mathlib.Core.Option.{Option, none as nothing, some}
use borrow.Author.Tests.{eqb-false, eqb-true, le-leb, lt-ltb}
use lib.Dec.{eqb, leb, ltb}
use lib.ListN.{drop, get_or, length, length-append, length-map, take}
use lib.Seq.{drop-append_seam, take-append_seam}
use Rattle.forest.proofs.Bools.{and_left, and_right, apart}
use Rattle.forest.proofs.Options.{never, passed}
use Rattle.operators.proofs.Counts.{extract_one, sort_uncut, value_uncut}
use Rattle.operators.specs.Operators.{operator_sort, operator_value}
use Rattle.operators.specs.Sorts.{max_width, values_of}
use Rattle.operators.specs.code.Operators.{extract_number}
use Rattle.terms.specs.Labels.{Label, defined, function, literal, name, operator}
use Rattle.terms.specs.Values.{Meaning, label_value, numbers_in, operator_gives, sorts_in, value}
use Rattle.terms.specs.declared.Value.{Value}
use Rattle.steps.specs.Stack.{applied, most_values, pushed, run_from, step_on, turned}
use Rattle.steps.specs.Steps.{apply_operator, is_applied, is_extract, push_argument, push_constant, step_of}
use Rattle.steps.proofs.Labels.{extract_is}

-- Values in the other order are as many.
pub turned_length : (vs : List Value) → length (turned vs) ≡ length vs
unfolding turned
turned_length [] = refl
turned_length (v ∷ more) = length-append (turned more) (v ∷ []) ∙ omega (arith, turned_length more)

-- One that stands last comes first.
turned_last : (vs : List Value) (v : Value) → turned (vs ++ v ∷ []) ≡ v ∷ turned vs
unfolding turned
turned_last [] v = refl
turned_last (u ∷ more) v = ap (λ (l : List Value). l ++ u ∷ []) (turned_last more v)

-- Turned twice they are as before.
pub turned_twice : (vs : List Value) → turned (turned vs) ≡ vs
unfolding turned
turned_twice [] = refl
turned_twice (v ∷ more) = turned_last (turned more) v ∙ ap (λ (l : List Value). v ∷ l) (turned_twice more)

-- A list of no length is empty.
pub empty : (vs : List Value) → length vs ≡ 0 → vs ≡ []
empty [] e = refl
empty (v ∷ more) e = absurd (omega arith)

-- A value is pushed where there is room.
pub pushes : (st : List Value) (v : Value) → length st < most_values → pushed st v ≡ some (v ∷ st)
pushes st v h = rw (lt-ltb (length st) most_values h)

-- An operator on the values of its operands, which stand on top.
pub applies : (o i j : ℕ) (vs st : List Value) {v : Value}
    → operator_gives (operator_sort o i j (sorts_in vs)) (operator_value o i j (sorts_in vs) (numbers_in vs)) ≡ some v
    → applied o i j (length vs) (turned vs ++ st) ≡ some (v ∷ st)
applies o i j vs st {v} h =
    let n = turned_length vs in
    let top : turned (take (length vs) (turned vs ++ st)) ≡ vs =
    ap (λ (k : ℕ). turned (take k (turned vs ++ st))) (sym n) ∙ ap turned (take-append_seam (turned vs) st) ∙ turned_twice vs in
    let below : drop (length vs) (turned vs ++ st) ≡ st = ap (λ (k : ℕ). drop k (turned vs ++ st)) (sym n) ∙ drop-append_seam (turned vs) st in
    let enough : leb (length vs) (length (turned vs ++ st)) ≡ true =
    le-leb (length vs) (length (turned vs ++ st)) (omega (arith, n, length-append (turned vs) st)) in
    rw (enough, top, below, h)

-- An operator that gives a value has a sort.
gives_sort : (m : Option ℕ) (n : ℕ) {v : Value} → operator_gives m n ≡ some v → (s : ℕ) × (m ≡ some s)
unfolding operator_gives
gives_sort nothing n h = never h
gives_sort (some s) n h = (s, refl)

-- An operator's step: `extract` by its two numbers, any other by how many operands it has.
operator-on : (arguments : List Value) (o i j : ℕ) (vs st : List Value) {v : Value}
    → operator_gives (operator_sort o i j (sorts_in vs)) (operator_value o i j (sorts_in vs) (numbers_in vs)) ≡ some v
    → (cut : Bool) → is_extract o ≡ cut
    → step_on arguments apply_operator o (cond cut i (length vs)) (cond cut j 0) (turned vs ++ st) ≡ some (v ∷ st)
unfolding step_on
operator-on arguments o i j vs st h true e =
    let is : o ≡ extract_number = eqb-true _ _ e ∙ extract_is in
    let sort = gives_sort (operator_sort o i j (sorts_in vs)) _ h in
    let one : length vs ≡ 1 =
    sym (length-map vs (λ (u : Value). u.sort)) ∙ extract_one i j (sorts_in vs) (sym (ap (λ (p : ℕ). operator_sort p i j (sorts_in vs)) is) ∙ sort.1) in
    rw e (ap (λ (n : ℕ). applied o i j n (turned vs ++ st)) (sym one) ∙ applies o i j vs st h)
operator-on arguments o i j vs st h false e =
    let other : o ≡ extract_number → ⊥ = λ q. eqb-false _ _ e (q ∙ sym extract_is) in
    rw e (applies o 0 0 vs st (sym (ap₂ operator_gives (sort_uncut o other i j (sorts_in vs)) (value_uncut o other i j (sorts_in vs) (numbers_in vs))) ∙ h))

module _ (meaning : Meaning) where
  -- Where the step of four numbers gives a stack, the others follow on it.
  goes : (a b c d : ℕ) (stack next : List Value) → step_on meaning.names a b c d stack ≡ some next
      → (k : ℕ) (more : List ℕ) → run_from meaning.names k (a ∷ b ∷ c ∷ d ∷ more) stack ≡ run_from meaning.names (k + 1) more next
  unfolding run_from
  goes a b c d stack next h k more = rw h

  -- A constant.
  literal_on : (s n : ℕ) (st : List Value) {v : Value} → (leb s max_width && ltb n (values_of s)) ≡ true → value s n ≡ v → length st < most_values
      → step_on meaning.names push_constant n s 0 st ≡ some (v ∷ st)
  unfolding step_on
  literal_on s n st {v} f is room = rw (f, is) (pushes st v room)

  -- An argument.
  name_on : (s n : ℕ) (st : List Value) {v : Value} → ltb n (length meaning.names) ≡ true → get_or (sorts_in meaning.names) n 0 ≡ s
      → value s (get_or (numbers_in meaning.names) n 0) ≡ v → length st < most_values
      → step_on meaning.names push_argument n 0 0 st ≡ some (v ∷ st)
  unfolding step_on
  name_on s n st {v} known same is room = rw (known, same, is) (pushes st v room)

  -- The step of a label on the values of its operands.
  pub step_runs : (l : Label) (vs st : List Value) {v : Value} → label_value meaning l vs ≡ some v → is_applied l ≡ false → length st < most_values
      → (k : ℕ) (more : List ℕ) → run_from meaning.names k (step_of l (length vs) ++ more) (turned vs ++ st) ≡ run_from meaning.names (k + 1) more (v ∷ st)
  unfolding label_value turned
  step_runs (literal s n) vs st {v} h u room k more =
      let fit = leb s max_width && ltb n (values_of s) in
      let q = passed (fit && eqb (length vs) 0) h in
      let z = empty vs (eqb-true _ _ (and_right fit (eqb (length vs) 0) q.0)) in
      let is : value s n ≡ v = cc q.1 in
      let on = literal_on s n st (and_left fit (eqb (length vs) 0) q.0) is room in
      rw z (goes push_constant n s 0 st (v ∷ st) on k more)
  step_runs (name s n) vs st {v} h u room k more =
      let known = ltb n (length meaning.names) in
      let same = eqb (get_or (sorts_in meaning.names) n 0) s in
      let q = passed (known && same && eqb (length vs) 0) h in
      let p = and_left (known && same) (eqb (length vs) 0) q.0 in
      let z = empty vs (eqb-true _ _ (and_right (known && same) (eqb (length vs) 0) q.0)) in
      let is : value s (get_or (numbers_in meaning.names) n 0) ≡ v = cc q.1 in
      let on = name_on s n st (and_left known same p) (eqb-true _ _ (and_right known same p)) is room in
      rw z (goes push_argument n 0 0 st (v ∷ st) on k more)
  step_runs (operator o i j) vs st {v} h u room k more =
      goes apply_operator o _ _ (turned vs ++ st) (v ∷ st) (operator-on meaning.names o i j vs st h (is_extract o) refl) k more
  step_runs (defined n) vs st h u room k more = apart (sym u)
  step_runs (function n) vs st h u room k more = apart (sym u)
