-- Values of terms, as in SMT-LIB; an ill-sorted term has none.
use Rattle.std.specs.Prelude.{ℕ, Bool, cond, ◌&&◌, List, [], ◌∷◌, map, eqb, leb, ltb, get_or, length}
use Rattle.std.proofs.Math.Option.{Option, none as nothing, some}
use Rattle.forest.specs.Forest.{none, tree}
use Rattle.operators.specs.Operators.{operator_sort, operator_value}
use Rattle.operators.specs.Sorts.{max_width, values_of}
use Rattle.terms.specs.Labels.{Label, Terms, defined, function, literal, name, operator}
use Rattle.terms.specs.Sorts.{Definition, same_sorts}
use Rattle.terms.specs.declared.Value.{Value}

-- A value of a sort: its sort and its number.
abbrev pub value : (sort number : ℕ) → Value
value sort number = record { sort = sort; number = number }

-- The sorts of values.
abbrev pub sorts_in : List Value → List ℕ
sorts_in vs = map (λ (v : Value). v.sort) vs

-- The numbers of values.
abbrev pub numbers_in : List Value → List ℕ
numbers_in vs = map (λ (v : Value). v.number) vs

-- The value where the test passes, none where it fails.
abbrev pub value_when : Bool → Value → Option Value
value_when test v = cond test (some v) nothing

-- What the names and the functions of a term mean: the values of the arguments or variables, and what each function gives for values of its arguments.
pub record Meaning : Type 0 where
  pub names : List Value
  pub defined : ℕ → List Value → Option Value
  pub functions : ℕ → List Value → Option Value

-- The number of a value of the sort, as an operator gives it.
unfoldable pub operator_gives : Option ℕ → (number : ℕ) → Option Value
operator_gives nothing number = nothing
operator_gives (some s) number = some (value s number)

-- The value of a label over operands of the values vs.
unfoldable pub label_value : Meaning → Label → (vs : List Value) → Option Value
label_value meaning (literal s v) vs = value_when (leb s max_width && ltb v (values_of s) && eqb (length vs) 0) (value s v)
label_value meaning (name s k) vs =
    value_when (ltb k (length meaning.names) && eqb (get_or (sorts_in meaning.names) k 0) s && eqb (length vs) 0)
    (value s (get_or (numbers_in meaning.names) k 0))
label_value meaning (operator o i j) vs = operator_gives (operator_sort o i j (sorts_in vs)) (operator_value o i j (sorts_in vs) (numbers_in vs))
label_value meaning (defined k) vs = meaning.defined k vs
label_value meaning (function k) vs = meaning.functions k vs

-- A value for the label, where its operands have values.
unfoldable pub value_over : (List Value → Option Value) → Option (List Value) → Option Value
value_over give nothing = nothing
value_over give (some vs) = give vs

-- One value more, where there is one and there are others.
unfoldable pub with_value : Option Value → Option (List Value) → Option (List Value)
with_value nothing more = nothing
with_value (some v) nothing = nothing
with_value (some v) (some vs) = some (v ∷ vs)

-- The values of the terms; none where one has none.
unfoldable pub values_in : Meaning → Terms → Option (List Value)
values_in meaning none = some []
values_in meaning (tree l ops rest) = with_value (value_over (label_value meaning l) (values_in meaning ops)) (values_in meaning rest)

-- The value of a body: the one value that it has, where it is of the result's sort.
unfoldable pub result_of : (result : ℕ) → Option (List Value) → Option Value
result_of result nothing = nothing
result_of result (some []) = nothing
result_of result (some (v ∷ [])) = value_when (eqb v.sort result) v
result_of result (some (v ∷ u ∷ more)) = nothing

-- The value of a function over arguments of the values vs: its body's, where they are of its arguments' sorts; `earlier` says what the `define-fun`s
-- before it give.
unfoldable pub called : (earlier : ℕ → List Value → Option Value) → Definition → (vs : List Value) → Option Value
called earlier d vs =
    cond (same_sorts (sorts_in vs) d.signature.arguments)
    (result_of d.signature.result (values_in (record { names = vs; defined = earlier; functions = λ (k : ℕ) (us : List Value). nothing }) d.body))
    nothing

-- What `define-fun` k gives; they stand the last first, and each sees only those before it.
unfoldable pub defined_value : List Definition → (k : ℕ) → (vs : List Value) → Option Value
defined_value [] k vs = nothing
defined_value (d ∷ earlier) k vs = cond (eqb k (length earlier)) (called (defined_value earlier) d vs) (defined_value earlier k vs)

-- What synthesized function k gives; they stand the last first, and each sees the `define-fun`s.
unfoldable pub function_value : (defs : List Definition) → List Definition → (k : ℕ) → (vs : List Value) → Option Value
function_value defs [] k vs = nothing
function_value defs (f ∷ earlier) k vs = cond (eqb k (length earlier)) (called (defined_value defs) f vs) (function_value defs earlier k vs)

-- What names and functions mean at a point, where the script has these `define-fun`s and the response these functions.
abbrev pub meaning_at : (defs funs : List Definition) → (point : List Value) → Meaning
meaning_at defs funs point = record { names = point; defined = defined_value defs; functions = function_value defs funs }

-- The values of terms at a point.
abbrev pub values_at : (defs funs : List Definition) → (point : List Value) → Terms → Option (List Value)
values_at defs funs point t = values_in (meaning_at defs funs point) t
