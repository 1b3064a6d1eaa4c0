-- The value of a label over the values of its operands, by the label's code and value.
use Prim.Native.Nat.{ℕ, ◌+◌, ◌<◌}
use native.Mathlib.Omega.{arith}
use mathlib.Core.Path.{◌≡◌, refl}
use mathlib.Core.Bool.{◌&&◌}
use mathlib.Core.List.{List, []}
use mathlib.Core.Option.{Option, none as nothing, some}
use borrow.Author.Tests.{lt-ltb, ltb-true}
use lib.Dec.{eqb, leb, lit<, ltb}
use lib.ListN.{get_or, length}
use Rattle.forest.proofs.Bools.{and_left}
use Rattle.forest.proofs.Options.{never, passed}
use Rattle.operators.specs.Operators.{operator_sort, operator_value}
use Rattle.operators.specs.Sorts.{max_width, values_of}
use Rattle.terms.specs.Costs.{body_cost, defined_cost, function_cost}
use Rattle.terms.specs.Labels.{Label, Terms, defined, function, literal, name, operator}
use Rattle.terms.specs.code.Codes.{cut_value, head_of, kind_of, literal_kind, low_count, name_kind, operator_kind}
use Rattle.terms.specs.code.Nodes.{Plain, code_of, value_of}
use Rattle.terms.proofs.CodeParts.{head_with}
use Rattle.terms.specs.Sorts.{Definition}
use Rattle.terms.specs.Values.{Meaning, defined_value, function_value, label_value, meaning_at, numbers_in, operator_gives, sorts_in, value, values_at}
use Rattle.terms.specs.Values.{values_in}
use Rattle.terms.specs.declared.Value.{Value}
use Rattle.evaluation.specs.code.Tables.{BodiesHold, Callable, body_place}
use Rattle.forest.specs.Limits.{most_defined, most_functions}
use Rattle.evaluation.proofs.Bodies.{Body, held_defined, held_function, same_body}

-- The value of a literal is the one that its code and its value say.
pub literal_label : (meaning : Meaning) (l : Label) (vs : List Value) {v : Value} → Plain l → kind_of (code_of l) ≡ literal_kind → label_value meaning l vs ≡ some v
    → value (head_of (code_of l)) (value_of l) ≡ v
unfolding label_value
literal_label meaning (literal s n) vs {v} p k h =
    let q = passed (leb s max_width && ltb n (values_of s) && eqb (length vs) 0) h in
    let is : value s n ≡ v = cc q.1 in
    rw (head_with literal_kind s (lit< tt)) is
literal_label meaning (name s n) vs p k h = absurd (omega arith)
literal_label meaning (operator o i j) vs p k h = absurd (omega arith)
literal_label meaning (defined n) vs p k h = absurd (omega arith)
literal_label meaning (function n) vs p k h = absurd (omega arith)

-- The value of a name has the sort that its code says, and is the name's.
pub name_label : (meaning : Meaning) (l : Label) (vs : List Value) {v : Value} → kind_of (code_of l) ≡ name_kind → label_value meaning l vs ≡ some v
    → (value_of l < length meaning.names) × (value (head_of (code_of l)) (get_or (numbers_in meaning.names) (value_of l) 0) ≡ v)
unfolding label_value
name_label meaning (literal s n) vs k h = absurd (omega arith)
name_label meaning (name s n) vs {v} k h =
    let known = ltb n (length meaning.names) in
    let same = eqb (get_or (sorts_in meaning.names) n 0) s in
    let empty = eqb (length vs) 0 in
    let q = passed (known && same && empty) h in
    let is : value s (get_or (numbers_in meaning.names) n 0) ≡ v = cc q.1 in
    (ltb-true _ _ (and_left known same (and_left (known && same) empty q.0)), rw (head_with name_kind s (lit< tt)) is)
name_label meaning (operator o i j) vs k h = absurd (omega arith)
name_label meaning (defined n) vs k h = absurd (omega arith)
name_label meaning (function n) vs k h = absurd (omega arith)

-- What it says of an operator's label that it has a value.
pub record Operator (l : Label) (vs : List Value) (v : Value) : Type 0 where
  pub o : ℕ
  pub i : ℕ
  pub j : ℕ
  pub sort : ℕ
  pub code : head_of (code_of l) ≡ o
  pub value_is : value_of l ≡ cut_value i j
  pub small : j < low_count
  pub sorted : operator_sort o i j (sorts_in vs) ≡ some sort
  pub is : value sort (operator_value o i j (sorts_in vs) (numbers_in vs)) ≡ v

-- An operator gives a value where it has a sort.
operator-gives : (m : Option ℕ) (n : ℕ) {v : Value} → operator_gives m n ≡ some v → (s : ℕ) × (m ≡ some s) × (value s n ≡ v)
unfolding operator_gives
operator-gives nothing n h = never h
operator-gives (some s) n h = (s, refl, cc)

-- It is an operator, and gives the value.
pub operator_label : (meaning : Meaning) (l : Label) (vs : List Value) {v : Value} → Plain l → kind_of (code_of l) ≡ operator_kind
    → label_value meaning l vs ≡ some v → Operator l vs v
unfolding label_value
operator_label meaning (literal s n) vs p k h = absurd (omega arith)
operator_label meaning (name s n) vs p k h = absurd (omega arith)
operator_label meaning (operator o i j) vs p k h =
    let g = operator-gives (operator_sort o i j (sorts_in vs)) _ h in
    record { o = o; i = i; j = j; sort = g.0; code = head_with operator_kind o (lit< tt); value_is = refl; small = p; sorted = g.1; is = g.2 }
operator_label meaning (defined n) vs p k h = absurd (omega arith)
operator_label meaning (function n) vs p k h = absurd (omega arith)

-- Where there are no synthesized functions, terms have the values that they have where these give nothing.
pub no_functions : (defs : List Definition) (point : List Value) (t : Terms)
    → values_in (record { names = point; defined = defined_value defs; functions = λ (k : ℕ) (us : List Value). nothing }) t ≡ values_at defs [] point t
unfolding function_value
no_functions defs point t = refl

module _ {nodes bodies : List ℕ} {defs funs : List Definition} (h : BodiesHold nodes bodies defs funs) (point : List Value) where
  -- The body of the function that a label applies.
  pub call_label : (l : Label) → (kind_of (code_of l) ≡ literal_kind → ⊥) → (kind_of (code_of l) ≡ name_kind → ⊥) → (kind_of (code_of l) ≡ operator_kind → ⊥)
      → Callable (length defs) (length funs) l
      → Body h.all bodies (length defs + length funs) (body_place (code_of l) (value_of l))
      (body_cost (record { defined = defined_cost defs; functions = function_cost defs funs }) l)
      (label_value (meaning_at defs funs point) l)
  unfolding label_value
  call_label (literal s n) a b c k = absurd (a (omega arith))
  call_label (name s n) a b c k = absurd (b (omega arith))
  call_label (operator o i j) a b c k = absurd (c (omega arith))
  call_label (defined n) a b c k =
      rw (lt-ltb n most_defined (omega (arith, h.defined_most))) (same_body (omega arith) refl (λ vs. refl) (held_defined h n k).body)
  call_label (function n) a b c k = rw (lt-ltb n most_functions (omega (arith, h.functions_most))) (held_function h n k).body
