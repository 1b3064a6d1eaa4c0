-- The values that terms have are values of their sorts.
use Prim.Native.Nat.{ℕ}
use native.Mathlib.Omega.{arith}
use mathlib.Core.Path.{◌≡◌, refl}
use mathlib.Core.Bool.{Bool, true, false, cond}
use mathlib.Core.List.{List, [], ◌∷◌}
use mathlib.Core.Option.{Option, none as nothing, some}
use lib.Dec.{eqb}
use lib.ListN.{length}
use Rattle.forest.proofs.Options.{never, passed}
use Rattle.forest.specs.Forest.{none, tree}
use Rattle.operators.proofs.Closed.{closed}
use Rattle.operators.specs.Operators.{operator_sort, operator_value}
use Rattle.operators.specs.Sorts.{Fit}
use Rattle.operators.specs.Sorts.AllFit.{no_more, also}
use Rattle.terms.proofs.Sound.{Fits, fit_at, literal-fits, name_fits}
use Rattle.terms.specs.Labels.{Label, Terms, defined, function, literal, name, operator}
use Rattle.terms.specs.Sorts.{Definition, same_sorts}
use Rattle.terms.specs.Values.{Meaning, called, defined_value, function_value, label_value, numbers_in, operator_gives, result_of, sorts_in, value, value_when}
use Rattle.terms.specs.Values.{values_at, values_in}
use Rattle.terms.specs.declared.Value.{Value}
use Rattle.terms.proofs.Valued.{tree_parts}

-- A value of its sort.
record OfSort (v : Value) : Type 0 where
  fit : Fit v.sort v.number

-- What functions give for arguments of their sorts is of its sort.
record GiveFit (give : ℕ → List Value → Option Value) : Type 0 where
  fits : (k : ℕ) (vs : List Value) {v : Value} → Fits vs → give k vs ≡ some v → OfSort v

-- A meaning whose names are values of their sorts, and whose functions give such.
record Suits (meaning : Meaning) : Type 0 where
  names : Fits meaning.names
  defined : GiveFit meaning.defined
  functions : GiveFit meaning.functions

-- A value that passes the test of its sort.
fit_when : (test : Bool) {s n : ℕ} {v : Value} → value_when test (value s n) ≡ some v → (test ≡ true → Fit s n) → OfSort v
fit_when test {s} {n} {v} h f =
    let p = passed test h in
    let e : value s n ≡ v = cc p.1 in
    rw (← e) (record { fit = f p.0 })

-- A value that an operator gives.
fit_operator : (m : Option ℕ) (n : ℕ) {v : Value} → operator_gives m n ≡ some v → ((s : ℕ) → m ≡ some s → Fit s n) → OfSort v
unfolding operator_gives
fit_operator nothing n h f = never h
fit_operator (some s) n {v} h f = let e : value s n ≡ v = cc in rw (← e) (record { fit = f s refl })

module _ {meaning : Meaning} (suits : Suits meaning) where
  -- The value of a label is of its sort.
  label_fits : (l : Label) (vs : List Value) {v : Value} → Fits vs → label_value meaning l vs ≡ some v → OfSort v
  unfolding label_value
  label_fits (literal s v) vs f h = fit_when _ h (literal-fits s v (eqb (length vs) 0))
  label_fits (name s k) vs f h = fit_when _ h (name_fits meaning.names s k (eqb (length vs) 0) suits.names)
  label_fits (operator o i j) vs f h =
      fit_operator (operator_sort o i j (sorts_in vs)) (operator_value o i j (sorts_in vs) (numbers_in vs)) h (λ s e. closed o i j f e)
  label_fits (defined k) vs f h = suits.defined.fits k vs f h
  label_fits (function k) vs f h = suits.functions.fits k vs f h

  -- The values of terms are of their sorts.
  terms_fit : (t : Terms) {vs : List Value} → values_in meaning t ≡ some vs → Fits vs
  unfolding values_in
  terms_fit none {vs} h = let e : [] ≡ vs = cc in rw (← e) no_more
  terms_fit (tree l ops rest) h =
      let p = tree_parts meaning l ops rest h in
      rw (← p.together) (also (label_fits l p.operands (terms_fit ops p.ops_have) p.label).fit (terms_fit rest p.rest_have))

-- The value of a body is the one value that it has.
pub result_one : (result : ℕ) (m : Option (List Value)) {v : Value} → result_of result m ≡ some v → m ≡ some (v ∷ [])
unfolding result_of
result_one result nothing h = never h
result_one result (some []) h = never h
result_one result (some (u ∷ [])) {v} h = let p = passed (eqb u.sort result) h in let e : u ≡ v = cc p.1 in rw e
result_one result (some (u ∷ w ∷ more)) h = never h

-- A function's value is its body's one value, and its arguments are of their sorts.
pub record Called (earlier : ℕ → List Value → Option Value) (d : Definition) (vs : List Value) (v : Value) : Type 0 where
  pub sorts : same_sorts (sorts_in vs) d.signature.arguments ≡ true
  pub body : values_in (record { names = vs; defined = earlier; functions = λ (k : ℕ) (us : List Value). nothing }) d.body ≡ some (v ∷ [])

-- So it is where a function gives a value.
pub called_body : (earlier : ℕ → List Value → Option Value) (d : Definition) (vs : List Value) {v : Value} → called earlier d vs ≡ some v
    → Called earlier d vs v
unfolding called
called_body earlier d vs h =
    let p = passed (same_sorts (sorts_in vs) d.signature.arguments) h in
    record { sorts = p.0; body = result_one d.signature.result _ p.1 }

-- No functions give nothing.
none_fit : GiveFit (λ (k : ℕ) (us : List Value). nothing)
none_fit = record { fits = λ k vs f h. never h }

-- What a function gives is of its sort.
called_fits : {earlier : ℕ → List Value → Option Value} → GiveFit earlier → (d : Definition) (vs : List Value) {v : Value} → Fits vs
    → called earlier d vs ≡ some v → OfSort v
called_fits {earlier} g d vs {v} f h =
    let b = called_body earlier d vs h in
    record { fit = fit_at (terms_fit (record { names = f; defined = g; functions = none_fit }) d.body b.body) 0 (omega arith) }

-- What the last of functions and the others give.
last_fits : {last : List Value → Option Value} {give : ℕ → List Value → Option Value} → ((vs : List Value) (v : Value) → Fits vs → last vs ≡ some v → OfSort v)
    → GiveFit give → (n : ℕ) → GiveFit (λ k vs. cond (eqb k n) (last vs) (give k vs))
last_fits {last} {give} l g n = record { fits = λ k vs f h. by_case k vs (eqb k n) f h }
  where
    by_case : (k : ℕ) (vs : List Value) (here : Bool) {v : Value} → Fits vs → cond here (last vs) (give k vs) ≡ some v → OfSort v
    by_case k vs true {v} f h = l vs v f h
    by_case k vs false f h = g.fits k vs f h

-- What `define-fun`s give is of its sort.
defined_fit : (defs : List Definition) → GiveFit (defined_value defs)
unfolding defined_value
defined_fit [] = none_fit
defined_fit (d ∷ earlier) = let g = defined_fit earlier in last_fits (λ vs v f h. called_fits g d vs f h) g (length earlier)

-- So is what synthesized functions give.
functions_fit : (defs funs : List Definition) → GiveFit (function_value defs funs)
unfolding function_value
functions_fit defs [] = none_fit
functions_fit defs (f ∷ earlier) = last_fits (λ vs v fit h. called_fits (defined_fit defs) f vs fit h) (functions_fit defs earlier) (length earlier)

-- The values of terms at a point of values of their sorts are of their sorts.
pub values_fit : (defs funs : List Definition) (point : List Value) → Fits point → (t : Terms) {vs : List Value} → values_at defs funs point t ≡ some vs
    → Fits vs
values_fit defs funs point f t h = terms_fit (record { names = f; defined = defined_fit defs; functions = functions_fit defs funs }) t h
