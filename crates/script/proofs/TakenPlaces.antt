-- The earlier declaration of a name that is taken, by the table of names.
use Prim.Native.Nat.{ℕ, max}
use native.Mathlib.Omega.{arith}
use mathlib.Core.Path.{◌≡◌, refl, sym, ap₂, ◌∙◌}
use mathlib.Core.Bool.{cond}
use mathlib.Core.List.{List, [], ◌∷◌, ◌++◌}
use lib.Dec.{eqb}
use Rattle.lexemes.specs.Lists.{Items}
use Rattle.names.specs.Earlier.{Declared, declared_defined, declared_functions, declared_names, earlier, last_before}
use Rattle.names.specs.code.Earlier.{all_rows, new_rows, old_rows}
use Rattle.names.specs.code.Table.{declared_from, defined_row, function_row, variable_row}
use Rattle.names.proofs.EarlierRows.{last_both}
use Rattle.script.specs.Script.{Known, declared_in, earlier_place, new_names}
use Rattle.script.specs.code.Tables.{Counted, PlacedNames, declared_in_order}
use Rattle.script.specs.code.Taken.{TakenAt, scope_within}
use Rattle.script.specs.declared.Progress.{Progress}

-- Of two lists of names the last declaration before each word is the same.
abbrev SameLast : (ds es : List Declared) → Type 0
SameLast ds es = (w : ℕ) (n : List ℕ) → last_before ds w n ≡ last_before es w n

-- The order of names makes no difference to it.
last_in_order : (ds : List Declared) → SameLast (declared_in_order ds) ds
unfolding declared_in_order last_before
last_in_order [] w n = refl
last_in_order (d ∷ earlier) w n = last_both (declared_in_order earlier) (d ∷ []) w n ∙ omega (arith, last_in_order earlier w n)

last_of_both : (a b c d : List Declared) → SameLast a b → SameLast c d → SameLast (a ++ c) (b ++ d)
last_of_both a b c d one other w n = last_both a c w n ∙ ap₂ max (one w n) (other w n) ∙ sym (last_both b d w n)

-- Nor then to the earlier declaration of a new name.
same_earlier : (all others new : List Declared) → SameLast all others → (w : ℕ) → earlier all new w ≡ earlier others new w
unfolding earlier
same_earlier all others [] same w = refl
same_earlier all others (d ∷ more) same w = ap₂ (cond (eqb d.at w)) (same w d.name) (same_earlier all others more same w)

module _ {names : List ℕ} {p : Progress} {k : Known} (counted : Counted p k) where
  -- the rows of the names that are known are these
  old_last : (first arguments : ℕ) → PlacedNames names k → SameLast (old_rows names (scope_within p first arguments)) (declared_in k)
  old_last first arguments hold =
      let v = declared_names k.variables in
      let d = declared_defined k.defined in
      let f = declared_functions k.functions in
      let variables : declared_from names variable_row p.variables ≡ v = rw counted.variables_are hold.variables_are in
      let defined : declared_from names defined_row p.defined ≡ declared_in_order d = rw counted.defined_are hold.defined_are in
      let functions : declared_from names function_row p.functions ≡ declared_in_order f = rw counted.functions_are hold.functions_are in
      rw (variables, defined, functions)
      (last_of_both (v ++ declared_in_order d) (v ++ d) (declared_in_order f) f
      (last_of_both v v (declared_in_order d) d (λ w n. refl) (last_in_order d)) (last_in_order f))

  -- what is found by the rows is the place of the earlier declaration
  pub taken_place : (c : Items) {own first arguments listed : ℕ} → TakenAt names p k c own first arguments listed → (w : ℕ)
      → {r : ℕ}
      → r ≡ earlier (all_rows names (scope_within p first arguments) own listed) (new_rows names (scope_within p first arguments) own listed) w
      → r ≡ earlier_place k c w
  taken_place c {own} {first} {arguments} {listed} t w e =
      let scope = scope_within p first arguments in
      let old = old_rows names scope in
      e
      ∙ rw t.new_are
      (same_earlier (old ++ new_names c) (declared_in k ++ new_names c) (new_names c)
      (last_of_both old (declared_in k) (new_names c) (new_names c) (old_last first arguments t.placed) (λ w n. refl)) w)
