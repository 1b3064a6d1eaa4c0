-- The step of a label, by the label's numbers.
use Prim.Native.Nat.{ℕ}
use mathlib.Core.Path.{◌≡◌, refl, sym}
use mathlib.Core.Bool.{Bool, true, false, cond, ◌||◌}
use mathlib.Core.List.{[], ◌∷◌}
use borrow.Author.Tests.{eq-eqb, ne_eqb}
use lib.Dec.{eqb, lit<}
use Rattle.forest.proofs.Bools.{apart}
use Rattle.forest.specs.Lists.{same_bytes, spelling}
use Rattle.operators.specs.Operators.{named, operator_of, operators}
use Rattle.operators.specs.code.Operators.{extract_number}
use Rattle.terms.proofs.CodeParts.{head_with, high-in, kind_with, low-in}
use Rattle.terms.specs.Labels.{Label, defined, function, literal, name, operator}
use Rattle.terms.specs.code.Codes.{defined_kind, function_kind, head_of, high_in, kind_of, literal_kind, low_in, name_kind, operator_kind}
use Rattle.terms.specs.code.Nodes.{Plain, code_of, value_of}
use Rattle.steps.specs.Steps.{apply_operator, is_applied, push_argument, push_constant, step_of}
use Rattle.steps.specs.code.List.{numbers_of, step, step_by}

-- The number of `extract`.
pub extract_is : operator_of (spelling "extract") ≡ extract_number
unfolding operator_of named operators same_bytes
extract_is = refl

-- An operator's step: `extract` has its two numbers, any other how many operands it has.
operator_step : (o i j n : ℕ) (cuts : Bool) → numbers_of (cond cuts (step apply_operator o i j) (step apply_operator o n 0))
    ≡ apply_operator ∷ o ∷ cond cuts i n ∷ cond cuts j 0 ∷ []
operator_step o i j n true = refl
operator_step o i j n false = refl

-- The step that a label's numbers say is the label's.
pub step_by_lem : (l : Label) (n : ℕ) → Plain l → is_applied l ≡ false → numbers_of (step_by (code_of l) (value_of l) n) ≡ step_of l n
step_by_lem (literal s v) n p u = rw (kind_with literal_kind s (lit< tt), head_with literal_kind s (lit< tt))
step_by_lem (name s k) n p u = rw (kind_with name_kind s (lit< tt))
step_by_lem (operator o i j) n p u =
    rw (kind_with operator_kind o (lit< tt), head_with operator_kind o (lit< tt), high-in i j p, low-in i j p, extract_is)
    (operator_step o i j n (eqb o extract_number))
step_by_lem (defined k) n p u = apart (sym u)
step_by_lem (function k) n p u = apart (sym u)

-- Whether a label applies a function of the script, by its kind.
pub applied_kind : (l : Label) → eqb (kind_of (code_of l)) defined_kind || eqb (kind_of (code_of l)) function_kind ≡ is_applied l
applied_kind (literal s v) = rw (kind_with literal_kind s (lit< tt))
applied_kind (name s k) = rw (kind_with name_kind s (lit< tt))
applied_kind (operator o i j) = rw (kind_with operator_kind o (lit< tt))
applied_kind (defined k) = refl
applied_kind (function k) = refl

-- The step of a node by its kind and its head, as the code finds it.
module _ {code value code' value' kind head : ℕ} (operands : ℕ) (code_is : code' ≡ code) (value_is : value' ≡ value)
    (kind_is : kind ≡ kind_of code') (head_is : head ≡ head_of code')
  where
    -- A literal.
    pub constant_step : kind ≡ literal_kind → step push_constant value' head 0 ≡ step_by code value operands
    constant_step k = rw (← code_is, ← value_is, ← kind_is, ← head_is, eq-eqb kind literal_kind k)

    module _ (l : kind ≡ literal_kind → ⊥) where
      -- A name.
      pub argument_step : kind ≡ name_kind → step push_argument value' 0 0 ≡ step_by code value operands
      argument_step k = rw (← code_is, ← value_is, ← kind_is, ← head_is, ne_eqb kind literal_kind l, eq-eqb kind name_kind k)

      module _ (m : kind ≡ name_kind → ⊥) where
        -- An `extract`.
        pub cut_step : {i j : ℕ} → head ≡ extract_number → i ≡ high_in value' → j ≡ low_in value' → step apply_operator head i j ≡ step_by code value operands
        cut_step k p q = rw (← code_is, ← value_is, ← kind_is, ← head_is, ne_eqb kind literal_kind l, ne_eqb kind name_kind m, eq-eqb head extract_number k, p, q)

        -- Another operator.
        pub other_step : {n : ℕ} → (head ≡ extract_number → ⊥) → n ≡ operands → step apply_operator head n 0 ≡ step_by code value operands
        other_step k q = rw (← code_is, ← value_is, ← kind_is, ← head_is, ne_eqb kind literal_kind l, ne_eqb kind name_kind m, ne_eqb head extract_number k, q)
