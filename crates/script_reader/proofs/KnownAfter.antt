-- What is known after a command, by its code: what is the same, and how many there are of each kind.
use Prim.Native.Nat.{ℕ, ◌+◌, ◌≤◌}
use native.Mathlib.Omega.{arith}
use mathlib.Core.Bool.{Bool, true, false, cond, ◌||◌}
use mathlib.Core.List.{List, [], ◌∷◌, ◌++◌}
use mathlib.Core.Path.{◌≡◌, refl, sym, ap, ap₂, ◌∙◌}
use lib.Dec.{eqb}
use lib.ListN.{length, length-append}
use Rattle.forest.specs.Limits.{most_assumptions, most_constraints, most_defined, most_functions, most_variables}
use Rattle.lexemes.specs.Lists.{Items}
use Rattle.lexemes.specs.code.Codes.{assume_code, constraint_code, declare_var_code, define_fun_code, synth_fun_code}
use Rattle.script.specs.Script.{Known, known_after, out_of_place}
use Rattle.script.specs.code.Tables.{Counted, NamesHold, PlacesHold}
use Rattle.script.specs.declared.Progress.{Progress}
use Rattle.script_reader.specs.code.Commands.{said_by}
use Rattle.script_reader.specs.code.Progress.{out_of_place_by}
use Rattle.script.proofs.CommandByCode.{Chosen}

-- A list that a test adds to: how long it is.
longer : {A : Type 0} (b m : Bool) (more few : List A) → b ≡ m → length more ≡ length few + 1 → length (cond b more few) ≡ cond m (length few + 1) (length few)
longer true true more few e h = h
longer false false more few e h = refl
longer true false more few e h = let z : ◌≡◌ {A = ℕ} 0 1 = cc in absurd (omega arith)
longer false true more few e h = let z : ◌≡◌ {A = ℕ} 0 1 = cc in absurd (omega arith)

-- A list with one thing behind it.
behind : {A : Type 0} (few : List A) (a : A) → length (few ++ a ∷ []) ≡ length few + 1
behind few a = simp length-append

-- Whether a command is out of place, by its code.
pub out_by : {p : Progress} {k : Known} {c : Items} {code : ℕ} → Counted p k → Chosen c code → out_of_place_by p code ≡ out_of_place k c
out_by n t =
    rw (
      n.logic_is,
      n.weights_is,
      n.ended_is,
      n.variables_are,
      n.defined_are,
      n.functions_are,
      n.constraints_are,
      n.assumptions_are,
      t.sets,
      t.ends,
      t.features,
    )

module _ (k : Known) {c : Items} {code : ℕ} (t : Chosen c code) where
  -- Only `declare-var` adds a variable.
  pub same_variables : eqb code declare_var_code ≡ false → (known_after k c).variables ≡ k.variables
  unfolding known_after
  same_variables e = rw (t.declares, e)

  -- Only `define-fun` adds a definition.
  pub same_defined : eqb code define_fun_code ≡ false → (known_after k c).defined ≡ k.defined
  unfolding known_after
  same_defined e = rw (t.defines, e)

  -- Only `synth-fun` adds a function.
  pub same_functions : eqb code synth_fun_code ≡ false → (known_after k c).functions ≡ k.functions
  unfolding known_after
  same_functions e = rw (t.synthesizes, e)

  -- Only `constraint` adds a constraint.
  pub same_constraints : eqb code constraint_code ≡ false → (known_after k c).constraints ≡ k.constraints
  unfolding known_after
  same_constraints e = rw (t.constrains, e)

  -- Only `assume` adds an assumption.
  pub same_assumptions : eqb code assume_code ≡ false → (known_after k c).assumptions ≡ k.assumptions
  unfolding known_after
  same_assumptions e = rw (t.assumes, e)

  -- The numbers after a command are those of what is known after it.
  pub counted_after : {p : Progress} (rows : ℕ) → Counted p k
      → let q = said_by p code rows in
      q.variables ≤ most_variables → q.defined ≤ most_defined → q.functions ≤ most_functions → q.constraints ≤ most_constraints
      → q.assumptions ≤ most_assumptions → Counted q (known_after k c)
  unfolding known_after
  counted_after rows n variables defined functions constraints assumptions = record {
    logic_is = ap₂ ◌||◌ n.logic_is (sym t.sets);
    weights_is = ap₂ ◌||◌ n.weights_is (sym t.features);
    ended_is = ap₂ ◌||◌ n.ended_is (sym t.ends);
    variables_are = ap (λ (m : ℕ). cond (eqb code declare_var_code) (m + 1) m) n.variables_are ∙ sym (longer _ _ _ k.variables t.declares (behind k.variables _));
    defined_are = ap (λ (m : ℕ). cond (eqb code define_fun_code) (m + 1) m) n.defined_are ∙ sym (longer _ _ _ k.defined t.defines (omega arith));
    functions_are = ap (λ (m : ℕ). cond (eqb code synth_fun_code) (m + 1) m) n.functions_are ∙ sym (longer _ _ _ k.functions t.synthesizes (omega arith));
    constraints_are =
        ap (λ (m : ℕ). cond (eqb code constraint_code) (m + 1) m) n.constraints_are
        ∙ sym (longer _ _ _ k.constraints t.constrains (behind k.constraints _));
    assumptions_are =
        ap (λ (m : ℕ). cond (eqb code assume_code) (m + 1) m) n.assumptions_are
        ∙ sym (longer _ _ _ k.assumptions t.assumes (behind k.assumptions _));
    few_variables = variables;
    few_defined = defined;
    few_functions = functions;
    few_constraints = constraints;
    few_assumptions = assumptions;
  }

module _ {k later : Known} (defined : later.defined ≡ k.defined) (functions : later.functions ≡ k.functions) where
  -- A table of names that is the same holds what is the same.
  pub names_kept : {names : List ℕ} → later.variables ≡ k.variables → NamesHold names k → NamesHold names later
  names_kept variables h = record {
    table = h.table;
    variables_are = rw variables h.variables_are;
    variable-sorts = rw variables h.variable-sorts;
    defined_are = rw defined h.defined_are;
    functions_are = rw functions h.functions_are;
    arguments_are = rw functions h.arguments_are;
    placed = record {
      variables_are = rw variables h.placed.variables_are;
      defined_are = rw defined h.placed.defined_are;
      functions_are = rw functions h.placed.functions_are;
    };
  }

  -- So do tables of places and nodes.
  pub places_kept : {places nodes : List ℕ} {rows : ℕ} → later.constraints ≡ k.constraints → later.assumptions ≡ k.assumptions
      → PlacesHold places nodes rows k → PlacesHold places nodes rows later
  places_kept constraints assumptions h = record {
    long = h.long;
    defined_rows = rw defined h.defined_rows;
    function_rows = rw functions h.function_rows;
    all = h.all;
    rest = h.rest;
    nodes_are = h.nodes_are;
    rows_are = h.rows_are;
    plain = h.plain;
    bodies_at = rw defined h.bodies_at;
    constraints_at = rw constraints h.constraints_at;
    assumptions_at = rw assumptions h.assumptions_at;
  }
