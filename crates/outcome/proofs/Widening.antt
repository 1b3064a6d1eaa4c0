-- Scopes that grow: a term that has a sort keeps it.
use Prim.Native.Nat.{ℕ, ◌<◌}
use native.Mathlib.Omega.{arith}
use mathlib.Core.List.{List, [], ◌∷◌, ◌++◌}
use mathlib.Core.Option.{some}
use mathlib.Core.Path.{◌≡◌, refl, ap, ◌∙◌}
use lib.ListN.{get_or, length, length-append, get_or-append}
use borrow.Author.Tests.{lt-ltb, ltb-true, ne_eqb}
use Rattle.forest.specs.Forest.{none, tree}
use Rattle.forest.proofs.Bools.{and_left}
use Rattle.forest.proofs.Options.{passed}
use Rattle.terms.specs.Labels.{Label, Terms, defined, function, literal, name, operator}
use Rattle.terms.specs.Sorts.{Scope, Signature, called_sort, label_sort, sorts_of}
use Rattle.terms.proofs.Bodies.{called_within}
use Rattle.terms.proofs.Sorted.{sorted, sorts_tree}
use Rattle.outcome.specs.code.Sorted.{AllBool}

-- A call that has a sort where the ones are seen has it where the others are.
abbrev pub Keeps : (fs gs : List Signature) → Type 0
Keeps fs gs = (k : ℕ) (ss : List ℕ) (s : ℕ) → called_sort fs k ss ≡ some s → called_sort gs k ss ≡ some s

-- What the one scope has, the other has at the same place.
pub record Wider (a b : Scope) : Type 0 where
  pub names : (k : ℕ) → k < length a.names → (k < length b.names) × (get_or b.names k 0 ≡ get_or a.names k 0)
  pub defined : Keeps a.defined b.defined
  pub functions : Keeps a.functions b.functions

-- One more in front keeps the sorts of calls.
pub keeps_more : (f : Signature) (fs : List Signature) → Keeps fs (f ∷ fs)
unfolding called_sort
keeps_more f fs k ss s h = let low = called_within fs k ss h in rw (ne_eqb k (length fs) (λ e. omega arith)) h

-- A scope with one more name behind its names is wider.
pub wider_names : (scope : Scope) (s : ℕ) → Wider scope (record { names = scope.names ++ s ∷ []; defined = scope.defined; functions = scope.functions })
wider_names scope s = record {
  names = λ k h. (omega (arith, length-append scope.names (s ∷ [])), get_or-append scope.names (s ∷ []) 0 k h);
  defined = λ k ss s h. h;
  functions = λ k ss s h. h;
}

-- A scope with one more `define-fun` is wider.
pub wider_defined : (scope : Scope) (f : Signature) → Wider scope (record { names = scope.names; defined = f ∷ scope.defined; functions = scope.functions })
wider_defined scope f = record { names = λ k h. (h, refl); defined = keeps_more f scope.defined; functions = λ k ss s h. h }

-- A scope with one more function is wider.
pub wider_functions : (scope : Scope) (f : Signature)
    → Wider scope (record { names = scope.names; defined = scope.defined; functions = f ∷ scope.functions })
wider_functions scope f = record { names = λ k h. (h, refl); defined = λ k ss s h. h; functions = keeps_more f scope.functions }

module _ {a b : Scope} (wider : Wider a b) where
  -- A label keeps its sort.
  label_wider : (l : Label) (ss : List ℕ) {s : ℕ} → label_sort a l ss ≡ some s → label_sort b l ss ≡ some s
  unfolding label_sort
  label_wider (literal t v) ss h = h
  label_wider (name t k) ss h =
      let low = and_left _ _ (and_left _ _ (passed _ h).0) in
      let there = wider.names k (ltb-true k (length a.names) low) in
      rw (lt-ltb k (length b.names) there.0, there.1) (rw low at h)
  label_wider (operator o i j) ss h = h
  label_wider (defined k) ss h = wider.defined k ss _ h
  label_wider (function k) ss h = wider.functions k ss _ h

  -- Terms keep their sorts.
  sorts_wider : (T : Terms) {ss : List ℕ} → sorts_of a T ≡ some ss → sorts_of b T ≡ some ss
  unfolding sorts_of
  sorts_wider none h = h
  sorts_wider (tree l ops rest) h =
      let p = sorted a l ops rest h in
      sorts_tree b l ops rest (label_wider l p.operands p.label) (sorts_wider ops p.ops_have) (sorts_wider rest p.rest_have) ∙ ap some p.together

  -- Terms that are Bool stay so.
  pub bool_wider : (ts : List Terms) → AllBool a ts → AllBool b ts
  unfolding AllBool
  bool_wider [] all = tt
  bool_wider (t ∷ more) all = (sorts_wider t all.0, bool_wider more all.1)
