-- Operators "with two or more operands as Core says", computed: values over three operands, and the counts that are refused.
use Prim.Native.String.{String}
use mathlib.Core.List.{List, [], ◌∷◌, map}
use mathlib.Core.Option.{none as nothing}
use mathlib.Core.Path.{◌≡◌, refl}
use Rattle.forest.specs.Lists.{same_bytes, spelling}
use Rattle.operators.specs.Operators.{named, operator_at, operator_of, operators, operator_sort, operator_value}
use Rattle.operators.specs.Sorts.{sort_by}
use Rattle.operators.specs.Values.{chained, group_left, group_right, pairwise, with_each}
use Rattle.test_decided.specs.Bench.{AllSettled, Mark, no_more, value}
use Rattle.test_decided.proofs.Bench.{with_value}

-- "`and or xor` group from the left, `=>` from the right, `=` chains, `distinct` is pairwise": operands that tell each from its neighbours.
abbrev pub grouped : List Mark
grouped =
    value "and" 0 0 (0 ∷ 0 ∷ 0 ∷ []) (1 ∷ 1 ∷ 0 ∷ []) 0 0
    ∷ value "or" 0 0 (0 ∷ 0 ∷ 0 ∷ []) (0 ∷ 0 ∷ 1 ∷ []) 0 1
    ∷ value "xor" 0 0 (0 ∷ 0 ∷ 0 ∷ []) (1 ∷ 1 ∷ 1 ∷ []) 0 1
    ∷ value "=>" 0 0 (0 ∷ 0 ∷ 0 ∷ []) (0 ∷ 1 ∷ 0 ∷ []) 0 1
    ∷ value "=" 0 0 (8 ∷ 8 ∷ 8 ∷ []) (5 ∷ 5 ∷ 6 ∷ []) 0 0
    ∷ value "=" 0 0 (8 ∷ 8 ∷ 8 ∷ []) (5 ∷ 5 ∷ 5 ∷ []) 0 1
    ∷ value "distinct" 0 0 (8 ∷ 8 ∷ 8 ∷ []) (1 ∷ 2 ∷ 1 ∷ []) 0 0
    ∷ value "distinct" 0 0 (8 ∷ 8 ∷ 8 ∷ []) (1 ∷ 2 ∷ 3 ∷ []) 0 1
    ∷ []

-- They have these values.
pub grouped_so : AllSettled grouped
unfolding chained group_left group_right named operator_at operator_of operator_sort operator_value operators pairwise same_bytes sort_by with_each
grouped_so =
    with_value refl refl
    (with_value refl refl
    (with_value refl refl
    (with_value refl refl
    (with_value refl refl
    (with_value refl refl
    (with_value refl refl
    (with_value refl refl
    no_more)))))))

-- None of the six takes one operand.
pub one_refused : map (λ (name : String). operator_sort (operator_of (spelling name)) 0 0 (0 ∷ [])) ("and" ∷ "or" ∷ "xor" ∷ "=>" ∷ "=" ∷ "distinct" ∷ [])
    ≡ nothing ∷ nothing ∷ nothing ∷ nothing ∷ nothing ∷ nothing ∷ []
unfolding named operator_at operator_of operator_sort operators same_bytes sort_by
one_refused = refl

-- Three operands are too many for an operator of one or two.
pub more_refused : map (λ (name : String). operator_sort (operator_of (spelling name)) 0 0 (8 ∷ 8 ∷ 8 ∷ [])) ("bvnot" ∷ "bvadd" ∷ "bvult" ∷ "concat" ∷ [])
    ≡ nothing ∷ nothing ∷ nothing ∷ nothing ∷ []
unfolding named operator_at operator_of operator_sort operators same_bytes sort_by
more_refused = refl
