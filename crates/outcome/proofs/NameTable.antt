-- "the name table keeps this true" (E8): the declarations in the rows of the table of names have distinct spellings and a place before the next command.
use Prim.Native.Nat.{ℕ}
use mathlib.Core.List.{List, [], ◌∷◌, ◌++◌, append_assoc, append-nil}
use mathlib.Core.Path.{◌≡◌, sym, subst}
use lib.ListN.{length}
use Rattle.names.specs.Earlier.{Declared, declared_defined, declared_functions, declared_names, spellings}
use Rattle.script.specs.Script.{Known}
use Rattle.names.specs.code.Table.{declared_from, defined_row, function_row, variable_row}
use Rattle.script.specs.code.Tables.{PlacedNames, declared_in_order}
use Rattle.outcome.specs.Scoped.{AllBefore, Apart, InScope}
use Rattle.outcome.proofs.Apart.{Untaken, apart_among, apart_without, before_among, before_without}

-- Declarations with distinct spellings, none of them reserved, all before word w.
pub record InRows (w : ℕ) (ds : List Declared) : Type 0 where
  pub apart : Apart (spellings ds)
  pub before : AllBefore w ds

-- It makes no difference where one of them stands.
moved : {w : ℕ} (front middle back : List Declared) (d : Declared) → InRows w (front ++ d ∷ (middle ++ back)) → InRows w (front ++ middle ++ d ∷ back)
moved {w} front middle back d r =
    let same = sym (append_assoc front middle back) in
    let others = apart_without front (middle ++ back) d r.apart in
    let placed = before_without w front (middle ++ back) d r.before in
    record {
      apart = apart_among (front ++ middle) back d (subst (λ (ds : List Declared). Untaken ds d) same others.0)
          (subst (λ (ds : List Declared). Apart (spellings ds)) same others.1);
      before = before_among (front ++ middle) back d placed.0 (subst (AllBefore w) same placed.1);
    }

-- Nor whether some of them stand the last first or in script order.
in_order : {w : ℕ} (front ds back : List Declared) → InRows w (front ++ (ds ++ back)) → InRows w (front ++ (declared_in_order ds ++ back))
unfolding declared_in_order
in_order front [] back r = r
in_order {w} front (d ∷ earlier) back r =
    let last = subst (InRows w) (append_assoc front earlier (d ∷ back)) (moved front earlier back d r) in
    subst (λ (es : List Declared). InRows w (front ++ es)) (sym (append_assoc (declared_in_order earlier) (d ∷ []) back)) (in_order front earlier (d ∷ back) last)

-- Rows that have the variables, the `define-fun`s and the functions that are known, in script order, keep it true.
pub rows_scoped : (k : Known) {at : ℕ} {variables defined functions : List Declared} → variables ≡ declared_names k.variables
    → defined ≡ declared_in_order (declared_defined k.defined) → functions ≡ declared_in_order (declared_functions k.functions) → InScope k at
    → InRows at (variables ++ defined ++ functions)
rows_scoped k {at} ev ed ef s =
    let variables = declared_names k.variables in
    let definitions = declared_defined k.defined in
    let functions = declared_functions k.functions in
    let last = declared_in_order functions in
    let known : InRows at (variables ++ definitions ++ functions) = record { apart = s.apart; before = s.before } in
    let front = subst (λ (ds : List Declared). InRows at (variables ++ definitions ++ ds)) (sym (append-nil functions)) known in
    let behind = subst (λ (ds : List Declared). InRows at (variables ++ definitions ++ ds)) (append-nil last)
    (in_order (variables ++ definitions) functions [] front) in
    let all = in_order variables definitions last (subst (InRows at) (append_assoc variables definitions last) behind) in
    rw (ev, ed, ef) (subst (InRows at) (sym (append_assoc variables (declared_in_order definitions) last)) all)

-- So does the table of names that has what is known.
pub table_scoped : (k : Known) {names : List ℕ} {at : ℕ} → PlacedNames names k → InScope k at
    → InRows at (declared_from names variable_row (length k.variables) ++ declared_from names defined_row (length k.defined)
    ++ declared_from names function_row (length k.functions))
table_scoped k hold s = rows_scoped k hold.variables_are hold.defined_are hold.functions_are s
