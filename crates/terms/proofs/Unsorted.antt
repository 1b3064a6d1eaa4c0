-- A term that has a value has that value's sort: an ill-sorted term has none.
use Prim.Native.Nat.{ℕ}
use mathlib.Core.Path.{◌≡◌, refl, sym, ap, ◌∙◌}
use mathlib.Core.Bool.{Bool, true, false, cond, ◌&&◌}
use mathlib.Core.List.{List, [], ◌∷◌}
use mathlib.Core.Option.{Option, none as nothing, some}
use borrow.Author.Tests.{eqb-true}
use lib.Dec.{eqb, leb, ltb}
use lib.ListN.{get_or, length, length-map}
use Rattle.forest.proofs.Options.{never, passed}
use Rattle.forest.specs.Forest.{none, tree}
use Rattle.operators.specs.Operators.{operator_sort}
use Rattle.operators.specs.Sorts.{max_width, values_of, sort_where}
use Rattle.terms.specs.Labels.{Label, Terms, defined, function, literal, name, operator}
use Rattle.terms.specs.Sorts.{Definition, Scope, Signature, called_sort, label_sort, same_sorts, sort_over, sorts_of, with_sort}
use Rattle.terms.specs.code.Sorted.{signatures}
use Rattle.terms.specs.Values.{Meaning, called, defined_value, function_value, label_value, numbers_in, operator_gives, result_of, sorts_in, value, value_over}
use Rattle.terms.specs.Values.{values_at, values_in, with_value}
use Rattle.terms.specs.declared.Value.{Value}
use Rattle.terms.proofs.Sound.{point_scope}

-- A value, if there is one, has the sort that there is.
record HasSort (m : Option Value) (n : Option ℕ) : Type 0 where
  has : {v : Value} → m ≡ some v → n ≡ some v.sort

-- Values, if there are, have the sorts that there are.
record HaveSorts (m : Option (List Value)) (n : Option (List ℕ)) : Type 0 where
  have : {vs : List Value} → m ≡ some vs → n ≡ some (sorts_in vs)

-- Where there is no value.
no_value : {n : Option ℕ} → HasSort nothing n
no_value = record { has = λ e. never e }

-- Where there are no values.
no-values : {n : Option (List ℕ)} → HaveSorts nothing n
no-values = record { have = λ e. never e }

-- Where there is a value.
the_value : (v : Value) → HasSort (some v) (some v.sort)
the_value v = record { has = λ {v = u} e. let q : v ≡ u = cc in ap (λ (x : Value). some x.sort) q }

-- Where there are values.
the_values : (vs : List Value) → HaveSorts (some vs) (some (sorts_in vs))
the_values vs = record { have = λ {vs = us} e. let q : vs ≡ us = cc in ap (λ (x : List Value). some (sorts_in x)) q }

-- Where one test decides on both.
has_cond : (test : Bool) {m₁ m₂ : Option Value} {n₁ n₂ : Option ℕ} → HasSort m₁ n₁ → HasSort m₂ n₂ → HasSort (cond test m₁ m₂) (cond test n₁ n₂)
has_cond true h g = h
has_cond false h g = g

-- For a label, where there are operands.
has_over : {give : List Value → Option Value} (rule : List ℕ → Option ℕ) → ((vs : List Value) → HasSort (give vs) (rule (sorts_in vs)))
    → (m : Option (List Value)) {n : Option (List ℕ)} → HaveSorts m n → HasSort (value_over give m) (sort_over rule n)
unfolding value_over sort_over
has_over rule f nothing h = no_value
has_over rule f (some vs) h = rw (h.have refl) (f vs)

-- One more.
have_with : (m : Option Value) {n : Option ℕ} (ms : Option (List Value)) {ns : Option (List ℕ)} → HasSort m n → HaveSorts ms ns
    → HaveSorts (with_value m ms) (with_sort n ns)
unfolding with_value with_sort
have_with nothing ms h hs = no-values
have_with (some v) nothing h hs = no-values
have_with (some v) (some vs) h hs = rw (h.has refl, hs.have refl) (the_values (v ∷ vs))

-- What an operator gives has the sort of its rule.
has_operator : (m : Option ℕ) (number : ℕ) → HasSort (operator_gives m number) m
unfolding operator_gives
has_operator nothing number = no_value
has_operator (some s) number = the_value (value s number)

-- A meaning whose values have the sorts that the scope gives.
record Within (scope : Scope) (meaning : Meaning) : Type 0 where
  names : sorts_in meaning.names ≡ scope.names
  defined : (k : ℕ) (vs : List Value) → HasSort (meaning.defined k vs) (called_sort scope.defined k (sorts_in vs))
  functions : (k : ℕ) (vs : List Value) → HasSort (meaning.functions k vs) (called_sort scope.functions k (sorts_in vs))

module _ {scope : Scope} {meaning : Meaning} (within : Within scope meaning) where
  -- The value of a label has its sort.
  has_label : (l : Label) (vs : List Value) → HasSort (label_value meaning l vs) (label_sort scope l (sorts_in vs))
  unfolding label_value label_sort
  has_label (literal s v) vs = rw length-map (has_cond (leb s max_width && ltb v (values_of s) && eqb (length vs) 0) (the_value (value s v)) no_value)
  has_label (name s k) vs =
      let test = ltb k (length meaning.names) && eqb (get_or (sorts_in meaning.names) k 0) s && eqb (length vs) 0 in
      rw (← within.names, length-map, length-map) (has_cond test (the_value (value s (get_or (numbers_in meaning.names) k 0))) no_value)
  has_label (operator o i j) vs = has_operator (operator_sort o i j (sorts_in vs)) _
  has_label (defined k) vs = within.defined k vs
  has_label (function k) vs = within.functions k vs

  -- The values of terms have their sorts.
  have_terms : (t : Terms) → HaveSorts (values_in meaning t) (sorts_of scope t)
  unfolding values_in sorts_of
  have_terms none = the_values []
  have_terms (tree l ops rest) =
      have_with (value_over (label_value meaning l) (values_in meaning ops)) (values_in meaning rest)
      (has_over (label_sort scope l) (has_label l) (values_in meaning ops) (have_terms ops)) (have_terms rest)

-- What a body gives has the result's sort.
has_result : (result : ℕ) (m : Option (List Value)) → HasSort (result_of result m) (some result)
unfolding result_of
has_result result nothing = no_value
has_result result (some []) = no_value
has_result result (some (v ∷ [])) =
    record {
      has = λ e.
          let p = passed (eqb v.sort result) e in
          rw (← eqb-true v.sort result p.0) ((the_value v).has p.1);
    }
has_result result (some (v ∷ u ∷ more)) = no_value

-- What a function gives has its result's sort, where its arguments have theirs.
has_called : (give : ℕ → List Value → Option Value) (d : Definition) (vs : List Value)
    → HasSort (called give d vs) (sort_where (same_sorts (sorts_in vs) d.signature.arguments) d.signature.result)
unfolding called
has_called give d vs = has_cond (same_sorts (sorts_in vs) d.signature.arguments) (has_result d.signature.result _) no_value

-- What functions give, of which the last gives this, and the others that.
has_last : (f : Signature) (earlier : List Signature) {n : ℕ} → length earlier ≡ n → (k : ℕ) (ss : List ℕ) {this that : Option Value}
    → HasSort this (sort_where (same_sorts ss f.arguments) f.result) → HasSort that (called_sort earlier k ss)
    → HasSort (cond (eqb k n) this that) (called_sort (f ∷ earlier) k ss)
unfolding called_sort
has_last f earlier e k ss h g = rw (← e) (has_cond (eqb k (length earlier)) h g)

-- What `define-fun`s give.
has_defined : (defs : List Definition) (k : ℕ) (vs : List Value) → HasSort (defined_value defs k vs) (called_sort (signatures defs) k (sorts_in vs))
unfolding defined_value
has_defined [] k vs = no_value
has_defined (d ∷ earlier) k vs =
    has_last d.signature (signatures earlier) (length-map earlier _) k (sorts_in vs) (has_called (defined_value earlier) d vs) (has_defined earlier k vs)

-- What synthesized functions give.
has_function : (defs funs : List Definition) (k : ℕ) (vs : List Value) → HasSort (function_value defs funs k vs) (called_sort (signatures funs) k (sorts_in vs))
unfolding function_value
has_function defs [] k vs = no_value
has_function defs (f ∷ earlier) k vs =
    has_last f.signature (signatures earlier) (length-map earlier _) k (sorts_in vs) (has_called (defined_value defs) f vs) (has_function defs earlier k vs)

-- Terms that have values have their sorts.
pub sorts_of_values : (defs funs : List Definition) (point : List Value) (t : Terms) {vs : List Value} → values_at defs funs point t ≡ some vs
    → sorts_of (point_scope defs funs point) t ≡ some (sorts_in vs)
sorts_of_values defs funs point t h =
    (have_terms (record { names = refl; defined = has_defined defs; functions = has_function defs funs }) t).have h

-- "values, which give an ill-sorted term none"
pub ill_sorted : (defs funs : List Definition) (point : List Value) (t : Terms) → sorts_of (point_scope defs funs point) t ≡ nothing
    → values_at defs funs point t ≡ nothing
ill_sorted defs funs point t h = by_case (values_at defs funs point t) refl
  where
    by_case : (m : Option (List Value)) → values_at defs funs point t ≡ m → values_at defs funs point t ≡ nothing
    by_case nothing e = e
    by_case (some vs) e = never (sym h ∙ sorts_of_values defs funs point t e)
