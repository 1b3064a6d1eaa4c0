-- The table of names when some of its rows are changed: what is known of the others, one name more, and the names in scope.
use Prim.Native.Nat.{ℕ, suc, ◌+◌, ◌≤◌, ◌<◌}
use native.Mathlib.Numerals.{add-one}
use native.Mathlib.Omega.{arith}
use mathlib.Core.Path.{◌≡◌, refl, sym, ap, ap₂, ◌∙◌}
use mathlib.Core.Bool.{◌||◌}
use mathlib.Core.List.{List, [], ◌∷◌, ◌++◌, append-nil}
use lib.ListN.{length}
use Rattle.forest.specs.Lists.{same_bytes}
use Rattle.forest.specs.Limits.{most_arguments}
use Rattle.names.specs.Scopes.{Function, defined_names, function_names, in_order, is_named, names_of}
use Rattle.names.specs.Earlier.{Declared}
use Rattle.names.specs.code.Lookup.{Names, SameRows}
use Rattle.names.specs.code.Table.{declared_from, defined_row, function_row, name_in, names_from, own_argument_row, row_count, sort_in, sorts_from, variable_row, word_in}
use Rattle.names.proofs.NamePut.{last_row}
use Rattle.names.specs.code.New.{Few, names_in}
use Rattle.names.specs.declared.Scope.{Scope}
use Rattle.names.proofs.Members.{SameNames, name_between, named_both}
use Rattle.script.specs.Script.{Known, scope}
use Rattle.script.specs.code.Tables.{ArgumentsHold, Counted, NamesHold, PlacedNames, declared_in_order}
use Rattle.script.specs.declared.Progress.{Progress}

-- What one row declares.
one_row : (names : List ℕ) (r : ℕ) → declared_from names r 1 ≡ record { name = name_in names r; at = word_in names r } ∷ []
unfolding declared_from
one_row names r = refl

-- The own rows of the arguments of the first `count` functions are what they were.
abbrev pub SameArguments : (after names : List ℕ) → (count : ℕ) → Type 0
SameArguments after names count = (j m : ℕ) → j < count → m ≤ most_arguments → SameRows after names (own_argument_row j) m

module _ {names after : List ℕ} where
  -- Then the arguments of these functions stand in them.
  pub arguments_kept : (fs : List Function) → SameArguments after names (length fs) → ArgumentsHold names fs → ArgumentsHold after fs
  unfolding ArgumentsHold
  arguments_kept [] same hold = tt
  arguments_kept (f ∷ earlier) same hold =
      let own = same (length earlier) (length f.arguments) (omega arith) hold.2 in
      (own.names ∙ hold.0, own.sorts ∙ hold.1, hold.2, arguments_kept earlier (λ j m h few. same j m (omega arith) few) hold.3)

  -- Where the rows of variables, `define-fun`s and functions are what they were, the table has their places.
  pub placed_kept : {k : Known} → SameRows after names variable_row (length k.variables)
      → SameRows after names defined_row (length k.defined) → SameRows after names function_row (length k.functions)
      → PlacedNames names k → PlacedNames after k
  placed_kept variables defined functions hold = record {
    variables_are = variables.declared ∙ hold.variables_are;
    defined_are = defined.declared ∙ hold.defined_are;
    functions_are = functions.declared ∙ hold.functions_are;
  }

  -- Where the rows of all that is known are what they were, the table has the names that are known.
  pub names_kept : {k : Known} → Names after → SameRows after names variable_row (length k.variables)
      → SameRows after names defined_row (length k.defined) → SameRows after names function_row (length k.functions)
      → SameArguments after names (length k.functions) → NamesHold names k → NamesHold after k
  names_kept {k} table variables defined functions arguments hold = record {
    table = table;
    variables_are = variables.names ∙ hold.variables_are;
    variable-sorts = variables.sorts ∙ hold.variable-sorts;
    defined_are = defined.names ∙ hold.defined_are;
    functions_are = functions.names ∙ hold.functions_are;
    arguments_are = arguments_kept k.functions arguments hold.arguments_are;
    placed = placed_kept variables defined functions hold.placed;
  }

  -- One name more behind names that are what they were.
  pub one_name_more : {r n : ℕ} → SameRows after names r n → {l : List (List ℕ)} → names_from names r n ≡ l
      → {name : List ℕ} → name_in after (r + n) ≡ name → names_from after r (suc n) ≡ l ++ name ∷ []
  one_name_more {r} {n} same e is = rw (← add-one) ((last_row after r n).name ∙ rw (same.names, e, is))

  -- One sort more behind sorts that are what they were.
  pub one_sort_more : {r n : ℕ} → SameRows after names r n → {l : List ℕ} → sorts_from names r n ≡ l
      → {sort : ℕ} → sort_in after (r + n) ≡ sort → sorts_from after r (suc n) ≡ l ++ sort ∷ []
  one_sort_more {r} {n} same e is = rw (← add-one) ((last_row after r n).sort ∙ rw (same.sorts, e, is))

  -- One declared name more behind those that are what they were.
  pub one_declared_more : {r n : ℕ} → SameRows after names r n → {l : List Declared} → declared_from names r n ≡ l
      → {d : Declared} → declared_from after (r + n) 1 ≡ d ∷ [] → declared_from after r (suc n) ≡ l ++ d ∷ []
  one_declared_more {r} {n} same e is =
      rw (← add-one) ((last_row after r n).declared ∙ ap₂ ◌++◌ (same.declared ∙ e) (sym (one_row after (r + n)) ∙ is))

  -- One name more in front of names that stand the last first.
  pub one_more_in_order : {r n : ℕ} → SameRows after names r n → (earlier : List (List ℕ)) → names_from names r n ≡ in_order earlier
      → {name : List ℕ} → name_in after (r + n) ≡ name → names_from after r (suc n) ≡ in_order (name ∷ earlier)
  unfolding in_order
  one_more_in_order same earlier e is = one_name_more same e is

  -- One declared name more in front of those that stand the last first.
  pub one_declared_in_order : {r n : ℕ} → SameRows after names r n → (earlier : List Declared) → declared_from names r n ≡ declared_in_order earlier
      → {d : Declared} → declared_from after (r + n) 1 ≡ d ∷ [] → declared_from after r (suc n) ≡ declared_in_order (d ∷ earlier)
  unfolding declared_in_order
  one_declared_in_order same earlier e is = one_declared_more same e is

-- The order of names makes no difference to which names there are.
pub same_in_order : (names : List (List ℕ)) → SameNames (in_order names) names
unfolding in_order is_named
same_in_order [] n = refl
same_in_order (m ∷ earlier) n =
    let last = name_between (in_order earlier) [] m n in
    sym (simp append-nil at last) ∙ ap (◌||◌ (same_bytes m n)) (same_in_order earlier n)

-- Two lists of names have the names of two others.
same_both : (a b c d : List (List ℕ)) → SameNames a b → SameNames c d → SameNames (a ++ c) (b ++ d)
same_both a b c d one other n = named_both a c n ∙ ap₂ ◌||◌ (one n) (other n) ∙ sym (named_both b d n)

-- The names in scope before a command, which has arguments from row `first` on.
abbrev pub scope_before : Progress → (first : ℕ) → Scope
scope_before p first = record { variables = p.variables; defined = p.defined; functions = p.functions; first = first; arguments = 0 }

module _ {p : Progress} {k : Known} (counted : Counted p k) (first : ℕ) where
  -- They are no more than their rows.
  pub few_before : first ≤ row_count → Few (scope_before p first)
  few_before h = record {
    variables = counted.few_variables;
    defined = counted.few_defined;
    functions = counted.few_functions;
    arguments = omega arith;
  }

  -- They are the names that are known.
  pub same_scope : {names : List ℕ} → NamesHold names k → SameNames (names_in names (scope_before p first)) (scope k)
  unfolding names_from
  same_scope {names} hold =
      let variables : names_from names variable_row p.variables ≡ names_of k.variables = rw counted.variables_are hold.variables_are in
      let defined : names_from names defined_row p.defined ≡ in_order (defined_names k.defined) = rw counted.defined_are hold.defined_are in
      let functions : names_from names function_row p.functions ≡ in_order (function_names k.functions) =
      rw counted.functions_are hold.functions_are in
      let v = names_of k.variables in
      let d = defined_names k.defined in
      let f = function_names k.functions in
      rw (variables, defined, functions) (same_both (v ++ in_order d) (v ++ d) (in_order f) f
      (same_both v v (in_order d) d (λ n. refl) (same_in_order d)) (same_in_order f))
