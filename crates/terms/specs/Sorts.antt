-- Sorts of terms; an ill-sorted term has none. A sort is a number: 0 is `Bool`, n is `(_ BitVec n)`.
use Rattle.std.specs.Prelude.{ℕ, Bool, true, false, cond, ◌&&◌, List, [], ◌∷◌, eqb, leb, ltb, get_or, length}
use Rattle.std.proofs.Math.Option.{Option, none as nothing, some}
use Rattle.forest.specs.Forest.{none, tree}
use Rattle.operators.specs.Operators.{operator_sort}
use Rattle.operators.specs.Sorts.{max_width, values_of, sort_where}
use Rattle.terms.specs.Labels.{Label, Terms, defined, function, literal, name, operator}

-- The sorts of a function's arguments and of its result.
pub record Signature : Type 0 where
  pub arguments : List ℕ
  pub result : ℕ

-- What a term may name: the sorts of the arguments or variables, the `define-fun`s before it, the last first, and the synthesized functions, the last first.
pub record Scope : Type 0 where
  pub names : List ℕ
  pub defined : List Signature
  pub functions : List Signature

-- Whether two lists of sorts are the same.
unfoldable pub same_sorts : List ℕ → List ℕ → Bool
same_sorts [] [] = true
same_sorts [] (t ∷ ts) = false
same_sorts (s ∷ ss) [] = false
same_sorts (s ∷ ss) (t ∷ ts) = eqb s t && same_sorts ss ts

-- The sort of function k over operands of the sorts ss: its result's, where they are those of its arguments; the functions stand the last first.
unfoldable pub called_sort : List Signature → (k : ℕ) → (ss : List ℕ) → Option ℕ
called_sort [] k ss = nothing
called_sort (f ∷ earlier) k ss = cond (eqb k (length earlier)) (sort_where (same_sorts ss f.arguments) f.result) (called_sort earlier k ss)

-- The sort of a label over operands of the sorts ss: a literal's value and a name's sort are those they say, and neither has operands.
unfoldable pub label_sort : Scope → Label → (ss : List ℕ) → Option ℕ
label_sort scope (literal s v) ss = sort_where (leb s max_width && ltb v (values_of s) && eqb (length ss) 0) s
label_sort scope (name s k) ss = sort_where (ltb k (length scope.names) && eqb (get_or scope.names k 0) s && eqb (length ss) 0) s
label_sort scope (operator o i j) ss = operator_sort o i j ss
label_sort scope (defined k) ss = called_sort scope.defined k ss
label_sort scope (function k) ss = called_sort scope.functions k ss

-- A sort for the label, where its operands have sorts.
unfoldable pub sort_over : (List ℕ → Option ℕ) → Option (List ℕ) → Option ℕ
sort_over rule nothing = nothing
sort_over rule (some ss) = rule ss

-- One sort more, where there is one and there are others.
unfoldable pub with_sort : Option ℕ → Option (List ℕ) → Option (List ℕ)
with_sort nothing more = nothing
with_sort (some s) nothing = nothing
with_sort (some s) (some ss) = some (s ∷ ss)

-- The sorts of the terms; none where one is ill-sorted.
unfoldable pub sorts_of : Scope → Terms → Option (List ℕ)
sorts_of scope none = some []
sorts_of scope (tree l ops rest) = with_sort (sort_over (label_sort scope l) (sorts_of scope ops)) (sorts_of scope rest)

-- A function with its body.
pub record Definition : Type 0 where
  pub signature : Signature
  pub body : Terms
