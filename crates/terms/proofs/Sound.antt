-- A term that has a sort, with bodies and arguments of their sorts, has exactly one value, and it is of that sort.
use Prim.Native.Nat.{ℕ, zero, suc, ◌<◌}
use native.Mathlib.Omega.{arith}
use mathlib.Core.Path.{◌≡◌, refl, ap, ◌∙◌}
use mathlib.Core.Bool.{Bool, true, false, cond, ◌&&◌}
use mathlib.Core.List.{List, [], ◌∷◌}
use mathlib.Core.Option.{Option, none as nothing, some}
use borrow.Author.Tests.{eq-eqb, eqb-true, leb-true, ltb-true}
use lib.Dec.{eqb, leb, ltb}
use lib.ListN.{get_or, length, length-map}
use Rattle.forest.proofs.Bools.{and_left, and_right, apart}
use Rattle.forest.proofs.Options.{never, passed}
use Rattle.forest.specs.Forest.{none, tree}
use Rattle.operators.proofs.Closed.{closed}
use Rattle.operators.specs.Operators.{operator_value}
use Rattle.operators.specs.Sorts.{AllFit, Fit, max_width, values_of}
use Rattle.operators.specs.Sorts.AllFit.{no_more, also}
use Rattle.terms.specs.Labels.{Label, Terms, defined, function, literal, name, operator}
use Rattle.terms.specs.Sorts.{Definition, Scope, Signature, called_sort, label_sort, same_sorts, sorts_of}
use Rattle.terms.specs.code.Sorted.{AllSorted, BodySorted, FunctionsSorted, signatures}
use Rattle.terms.specs.Values.{Meaning, called, defined_value, function_value, label_value, meaning_at, numbers_in, operator_gives, result_of, sorts_in, value}
use Rattle.terms.specs.Values.{value_over, value_when, values_in, with_value}
use Rattle.terms.specs.declared.Value.{Value}
use Rattle.terms.proofs.Sorted.{sorted}

-- Values, each of its sort.
abbrev pub Fits : List Value → Type 0
Fits vs = AllFit (sorts_in vs) (numbers_in vs)

-- There is a value, of the sort.
record Given (m : Option Value) (s : ℕ) : Type 0 where
  v : Value
  is : m ≡ some v
  sort : v.sort ≡ s
  fit : Fit v.sort v.number

-- There are values of the terms, of the sorts.
pub record Valued (meaning : Meaning) (t : Terms) (ss : List ℕ) : Type 0 where
  pub vs : List Value
  pub is : values_in meaning t ≡ some vs
  pub sorts : sorts_in vs ≡ ss
  pub fit : Fits vs

-- What functions give where their sorts are these: for arguments of its arguments' sorts each gives a value of its result's sort.
record Gives (fs : List Signature) (give : ℕ → List Value → Option Value) : Type 0 where
  gives : (k : ℕ) (vs : List Value) {s : ℕ} → Fits vs → called_sort fs k (sorts_in vs) ≡ some s → Given (give k vs) s

-- A meaning for what a term may name.
record Suits (scope : Scope) (meaning : Meaning) : Type 0 where
  names : sorts_in meaning.names ≡ scope.names
  fit : Fits meaning.names
  defined : Gives scope.defined meaning.defined
  functions : Gives scope.functions meaning.functions

-- One of some values, each of its sort, is of its sort.
pub fit_at : {ss vs : List ℕ} → AllFit ss vs → (k : ℕ) → k < length ss → Fit (get_or ss k 0) (get_or vs k 0)
fit_at no_more k h = absurd (omega arith)
fit_at (also f more) zero h = f
fit_at (also f more) (suc k) h = fit_at more k (omega arith)

-- A literal that passes its test is a value of its sort.
pub literal-fits : (s v : ℕ) (empty : Bool) → (leb s max_width && ltb v (values_of s) && empty) ≡ true → Fit s v
literal-fits s v empty t =
    let sort = leb s max_width in
    let below = ltb v (values_of s) in
    let p = and_left (sort && below) empty t in
    record { sort = leb-true _ _ (and_left sort below p); value = ltb-true _ _ (and_right sort below p) }

-- A name that passes its test has a value of its sort.
pub name_fits : (vs : List Value) (s k : ℕ) (empty : Bool) → Fits vs → (ltb k (length vs) && eqb (get_or (sorts_in vs) k 0) s && empty) ≡ true
    → Fit s (get_or (numbers_in vs) k 0)
name_fits vs s k empty f t =
    let known = ltb k (length vs) in
    let same = eqb (get_or (sorts_in vs) k 0) s in
    let p = and_left (known && same) empty t in
    let e : get_or (sorts_in vs) k 0 ≡ s = eqb-true _ _ (and_right known same p) in
    rw e at (fit_at f k (rw length-map (ltb-true _ _ (and_left known same p))))

-- A value that the test of its sort lets pass.
given_when : (test : Bool) {s r v : ℕ} → cond test (some s) nothing ≡ some r → (test ≡ true → Fit s v) → Given (value_when test (value s v)) r
given_when test {s} {r} {v} h f =
    let p = passed test h in
    let e : s ≡ r = cc p.1 in
    record { v = value s v; is = rw p.0; sort = e; fit = f p.0 }

module _ {scope : Scope} {meaning : Meaning} (suits : Suits scope meaning) where
  -- A label that has a sort over the sorts of its operands has a value of that sort over their values.
  label_given : (l : Label) (vs : List Value) {s : ℕ} → Fits vs → label_sort scope l (sorts_in vs) ≡ some s → Given (label_value meaning l vs) s
  unfolding label_sort label_value operator_gives
  label_given (literal s v) vs f h = given_when _ (rw length-map at h) (literal-fits s v (eqb (length vs) 0))
  label_given (name s k) vs f h =
      given_when _ (rw (← suits.names, length-map, length-map) at h) (name_fits meaning.names s k (eqb (length vs) 0) suits.fit)
  label_given (operator o i j) vs f h =
      rw h (record { v = value _ (operator_value o i j (sorts_in vs) (numbers_in vs)); is = refl; sort = refl; fit = closed o i j f h })
  label_given (defined k) vs f h = suits.defined.gives k vs f h
  label_given (function k) vs f h = suits.functions.gives k vs f h

  -- Terms that have sorts have values of them.
  terms_valued : (t : Terms) {ss : List ℕ} → sorts_of scope t ≡ some ss → Valued meaning t ss
  unfolding values_in sorts_of value_over with_value
  terms_valued none h = record { vs = []; is = refl; sorts = cc; fit = no_more }
  terms_valued (tree l ops rest) h =
      let p = sorted scope l ops rest h in
      let o = terms_valued ops p.ops_have in
      let r = terms_valued rest p.rest_have in
      let g = label_given l o.vs {s = p.first} o.fit (rw o.sorts p.label) in
      record {
        vs = g.v ∷ r.vs;
        is = rw (o.is, r.is, g.is);
        sorts = rw (g.sort, r.sorts, p.together);
        fit = also g.fit r.fit;
      }

-- Whether two lists of sorts are the same is whether they are equal.
same-sorts : (ss ts : List ℕ) → same_sorts ss ts ≡ true → ss ≡ ts
unfolding same_sorts
same-sorts [] [] h = refl
same-sorts [] (t ∷ ts) h = apart h
same-sorts (s ∷ ss) [] h = apart h
same-sorts (s ∷ ss) (t ∷ ts) h =
    rw (eqb-true s t (and_left (eqb s t) (same_sorts ss ts) h), same-sorts ss ts (and_right (eqb s t) (same_sorts ss ts) h))

-- No functions give nothing.
none_give : {give : ℕ → List Value → Option Value} → Gives [] give
unfolding called_sort
none_give = record { gives = λ k vs f h. never h }

-- The values are one value, of the sort.
record One (vs : List Value) (s : ℕ) : Type 0 where
  v : Value
  is : vs ≡ v ∷ []
  sort : v.sort ≡ s
  fit : Fit v.sort v.number

-- Values that have one sort are.
one : {s : ℕ} (vs : List Value) → sorts_in vs ≡ s ∷ [] → Fits vs → One vs s
one [] e f = absurd (omega (arith, ap length e))
one (v ∷ []) e (also f no_more) = record { v = v; is = refl; sort = ap (λ (ss : List ℕ). get_or ss 0 0) e; fit = f }
one (v ∷ u ∷ more) e f = absurd (omega (arith, ap length e))

-- What a function gives is the one value of its body, where that is of the result's sort.
result_is : {m : Option (List Value)} {v : Value} {result : ℕ} → m ≡ some (v ∷ []) → v.sort ≡ result → result_of result m ≡ some v
unfolding result_of
result_is {v = v} {result = result} i e = rw (i, eq-eqb v.sort result e)

-- What a body sees: the values of its arguments, and what the `define-fun`s before it give.
abbrev body_meaning : (earlier : ℕ → List Value → Option Value) → (vs : List Value) → Meaning
body_meaning earlier vs = record { names = vs; defined = earlier; functions = λ k us. nothing }

-- A function whose body has its result's sort gives a value of it for arguments of its arguments' sorts.
called_given : (earlier : List Definition) {give : ℕ → List Value → Option Value} → Gives (signatures earlier) give → (d : Definition) → BodySorted earlier d
    → (vs : List Value) → Fits vs → same_sorts (sorts_in vs) d.signature.arguments ≡ true → Given (called give d vs) d.signature.result
unfolding called
called_given earlier {give} g d b vs f h =
    let names = same-sorts (sorts_in vs) d.signature.arguments h in
    let t = terms_valued {meaning = body_meaning give vs} (record { names = names; fit = f; defined = g; functions = none_give }) d.body b in
    let r = one t.vs t.sorts t.fit in
    record { v = r.v; is = rw h (result_is (t.is ∙ ap some r.is) r.sort); sort = r.sort; fit = r.fit }

-- Functions of which the last gives a value of its result's sort, and so do the others.
with_last : (f : Signature) {earlier : List Signature} {last : List Value → Option Value} {give : ℕ → List Value → Option Value}
    → ((vs : List Value) → Fits vs → same_sorts (sorts_in vs) f.arguments ≡ true → Given (last vs) f.result) → Gives earlier give
    → (n : ℕ) → length earlier ≡ n → Gives (f ∷ earlier) (λ k vs. cond (eqb k n) (last vs) (give k vs))
unfolding called_sort
with_last f {earlier} {last} {give} g more n e = record { gives = λ k vs fit h. by_case vs fit k (eqb k n) (rw (← e) h) }
  where
    by_case : (vs : List Value) → Fits vs → (k : ℕ) (here : Bool) {s : ℕ}
        → cond here (cond (same_sorts (sorts_in vs) f.arguments) (some f.result) nothing) (called_sort earlier k (sorts_in vs)) ≡ some s
        → Given (cond here (last vs) (give k vs)) s
    by_case vs fit k true {s} h =
        let p = passed (same_sorts (sorts_in vs) f.arguments) h in
        let r : f.result ≡ s = cc p.1 in
        rw r at (g vs fit p.0)
    by_case vs fit k false h = more.gives k vs fit h

-- `define-fun`s with bodies of their sorts give values of their results' sorts.
defined_give : (defs : List Definition) → AllSorted defs → Gives (signatures defs) (defined_value defs)
unfolding AllSorted defined_value
defined_give [] a = none_give
defined_give (d ∷ earlier) a =
    let g = defined_give earlier a.1 in
    with_last d.signature (called_given earlier g d a.0) g (length earlier) (length-map earlier _)

-- So do synthesized functions.
functions_give : (defs funs : List Definition) → AllSorted defs → FunctionsSorted defs funs → Gives (signatures funs) (function_value defs funs)
unfolding FunctionsSorted function_value
functions_give defs [] a b = none_give
functions_give defs (f ∷ others) a b =
    with_last f.signature (called_given defs (defined_give defs a) f b.0) (functions_give defs others a b.1) (length others) (length-map others _)

-- What a term sees at a point.
abbrev pub point_scope : (defs funs : List Definition) → (point : List Value) → Scope
point_scope defs funs point = record { names = sorts_in point; defined = signatures defs; functions = signatures funs }

-- Terms that have sorts, with bodies and arguments of their sorts, have values of their sorts.
pub valued : (defs funs : List Definition) → AllSorted defs → FunctionsSorted defs funs → (point : List Value) → Fits point
    → (t : Terms) {ss : List ℕ} → sorts_of (point_scope defs funs point) t ≡ some ss → Valued (meaning_at defs funs point) t ss
valued defs funs a b point fit t h =
    terms_valued (record { names = refl; fit = fit; defined = defined_give defs a; functions = functions_give defs funs a b }) t h

-- There is one value of the terms, and it is of the sort.
pub record OneValue (meaning : Meaning) (t : Terms) (s : ℕ) : Type 0 where
  pub v : Value
  pub is : values_in meaning t ≡ some (v ∷ [])
  pub sort : v.sort ≡ s
  pub fit : Fit s v.number

-- A term that has a sort, with bodies and arguments of their sorts, has one value, and it is of that sort.
pub one_value : (defs funs : List Definition) → AllSorted defs → FunctionsSorted defs funs → (point : List Value) → Fits point
    → (t : Terms) {s : ℕ} → sorts_of (point_scope defs funs point) t ≡ some (s ∷ []) → OneValue (meaning_at defs funs point) t s
one_value defs funs a b point fit t h =
    let r = valued defs funs a b point fit t h in
    let o = one r.vs r.sorts r.fit in
    record { v = o.v; is = r.is ∙ ap some o.is; sort = o.sort; fit = rw o.sort at o.fit }
