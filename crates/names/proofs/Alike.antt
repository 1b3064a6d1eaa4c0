-- Where the same names, define-funs and functions are seen, symbols stand for one label exactly where they are one word, whatever non-terminals are seen.
use Prim.Native.Nat.{ℕ, suc}
use native.Mathlib.Omega.{arith}
use mathlib.Core.Path.{◌≡◌, refl, sym, ap, ◌∙◌}
use mathlib.Core.Bool.{Bool, true, false, cond, ◌||◌}
use mathlib.Core.List.{List, [], ◌∷◌}
use mathlib.Core.Option.{Option, none as nothing, some}
use lib.Dec.{eqb, ltb}
use lib.ListN.{get_or}
use Rattle.forest.proofs.Bools.{apart}
use Rattle.forest.proofs.Options.{never}
use Rattle.forest.proofs.Searching.{place_later, same_bytes_lem}
use Rattle.forest.specs.Lists.{same_bytes, spelling}
use Rattle.forest.specs.Search.{place_in}
use Rattle.operators.specs.Operators.{operator_count, operator_of, operators}
use Rattle.operators.specs.code.Operators.{spellings}
use Rattle.operators.proofs.Naming.{named_spellings}
use Rattle.terms.specs.Labels.{Label, defined, function, literal, name, operator}
use Rattle.derivation.specs.Derivation.{Item, any_argument, any_literal, non_terminal, the}
use Rattle.lexemes.specs.Reserved.{is_word}
use Rattle.names.specs.Scopes.{Defined, Function, Named, View, defined_names, function_names, in_order, is_named, names_of, symbol_means}
use Rattle.names.proofs.Lookup.{named_by_place, named_in_order}

-- A name that is one of the names stands at its place.
at_place : (names : List (List ℕ)) (n : List ℕ) → is_named names n ≡ true → get_or names (place_in names 0 n) [] ≡ n
unfolding is_named place_in
at_place [] n h = apart h
at_place (m ∷ more) n h = go (same_bytes m n) refl h (at_place more n)
  where
    go : (here : Bool) → same_bytes m n ≡ here → here || is_named more n ≡ true → (is_named more n ≡ true → get_or more (place_in more 0 n) [] ≡ n)
        → get_or (m ∷ more) (cond here 0 (place_in more 1 n)) [] ≡ n
    go true e h later = same_bytes_lem m n e
    go false e h later = let next : place_in more 1 n ≡ suc (place_in more 0 n) = place_later more 1 0 n ∙ omega arith in rw next (later h)

-- And so does an operator's name.
operator_at_place : (n : List ℕ) → ltb (operator_of n) operator_count ≡ true → get_or (spellings operators) (operator_of n) [] ≡ n
unfolding operator_of operators
operator_at_place n h =
    let e = named_spellings operators 0 n in
    let there : is_named (spellings operators) n ≡ true = named_by_place (spellings operators) 0 n ∙ ap (λ (k : ℕ). ltb k operator_count) (sym e) ∙ h in
    ap (λ (k : ℕ). get_or (spellings operators) k []) e ∙ at_place (spellings operators) n there

module _ (ns : List Named) (ds : List Defined) (fs : List Function) where
  -- A term's view, with the non-terminals that a rule sees and a body does not.
  abbrev seeing : List Named → View
  seeing As = record { names = ns; defined = ds; functions = fs; non_terminals = As }

  -- The word that a label is written by where it is a symbol.
  word_of : Label → List ℕ
  word_of (literal s v) = spelling (cond (eqb v 0) "false" "true")
  word_of (name s k) = get_or (names_of ns) k []
  word_of (operator o i j) = get_or (spellings operators) o []
  word_of (defined k) = get_or (in_order (defined_names ds)) k []
  word_of (function k) = get_or (in_order (function_names fs)) k []

  -- The word of what a symbol n stands for; n where that is no label.
  word_for : (n : List ℕ) → Option Item → List ℕ
  word_for n nothing = n
  word_for n (some (the l)) = word_of l
  word_for n (some (non_terminal A)) = n
  word_for n (some (any_literal s)) = n
  word_for n (some (any_argument s)) = n

  -- It is the symbol.
  written : (As : List Named) (n : List ℕ) → word_for n (symbol_means (seeing As) n) ≡ n
  unfolding symbol_means word_for word_of
  written As n =
      go (is_word "true" n) refl (is_word "false" n) refl (ltb (operator_of n) operator_count) refl (is_word "extract" n) refl
      (is_named (names_of ns) n) refl (is_named (defined_names ds) n) refl (is_named (function_names fs) n) refl (is_named (names_of As) n) refl
    where
      go : (t : Bool) → is_word "true" n ≡ t → (f : Bool) → is_word "false" n ≡ f
          → (o : Bool) → ltb (operator_of n) operator_count ≡ o → (x : Bool) → is_word "extract" n ≡ x
          → (a : Bool) → is_named (names_of ns) n ≡ a → (d : Bool) → is_named (defined_names ds) n ≡ d
          → (g : Bool) → is_named (function_names fs) n ≡ g → (b : Bool) → is_named (names_of As) n ≡ b
          → word_for n (symbol_means (seeing As) n) ≡ n
      go true et f ef o eo x ex a ea d ed g eg b eb = rw et (same_bytes_lem (spelling "true") n et)
      go false et true ef o eo x ex a ea d ed g eg b eb = rw (et, ef) (same_bytes_lem (spelling "false") n ef)
      go false et false ef true eo true ex a ea d ed g eg b eb = rw (et, ef, eo, ex)
      go false et false ef true eo false ex a ea d ed g eg b eb = rw (et, ef, eo, ex) (operator_at_place n eo)
      go false et false ef false eo x ex true ea d ed g eg b eb = rw (et, ef, eo, ea) (at_place (names_of ns) n ea)
      go false et false ef false eo x ex false ea true ed g eg b eb =
          rw (et, ef, eo, ea, ed) (at_place (in_order (defined_names ds)) n (named_in_order (defined_names ds) n ∙ ed))
      go false et false ef false eo x ex false ea false ed true eg b eb =
          rw (et, ef, eo, ea, ed, eg) (at_place (in_order (function_names fs)) n (named_in_order (function_names fs) n ∙ eg))
      go false et false ef false eo x ex false ea false ed false eg true eb = rw (et, ef, eo, ea, ed, eg, eb)
      go false et false ef false eo x ex false ea false ed false eg false eb = rw (et, ef, eo, ea, ed, eg, eb)

-- "Apart from literals, derivations still compare terms as written" (E3): two symbols stand for one label only where they are one word.
pub symbols_alike : (ns : List Named) (ds : List Defined) (fs : List Function) (As Bs : List Named) (u v : List ℕ) {l : Label}
    → symbol_means (record { names = ns; defined = ds; functions = fs; non_terminals = As }) u ≡ some (the l)
    → symbol_means (record { names = ns; defined = ds; functions = fs; non_terminals = Bs }) v ≡ some (the l)
    → u ≡ v
unfolding word_for
symbols_alike ns ds fs As Bs u v e f =
    let left = sym (written ns ds fs As u) ∙ ap (word_for ns ds fs u) e in
    left ∙ sym (ap (word_for ns ds fs v) f) ∙ written ns ds fs Bs v

-- And one word stands for one label, whichever non-terminals are seen.
pub symbols_same : (ns : List Named) (ds : List Defined) (fs : List Function) (As Bs : List Named) (u : List ℕ) {l : Label}
    → symbol_means (record { names = ns; defined = ds; functions = fs; non_terminals = As }) u ≡ some (the l)
    → symbol_means (record { names = ns; defined = ds; functions = fs; non_terminals = Bs }) u ≡ some (the l)
unfolding symbol_means
symbols_same ns ds fs As Bs u {l} e =
    sym (go (is_word "true" u) refl (is_word "false" u) refl (ltb (operator_of u) operator_count) refl (is_named (names_of ns) u) refl
    (is_named (defined_names ds) u) refl (is_named (function_names fs) u) refl (is_named (names_of As) u) refl) ∙ e
  where
    go : (t : Bool) → is_word "true" u ≡ t → (f : Bool) → is_word "false" u ≡ f → (o : Bool) → ltb (operator_of u) operator_count ≡ o
        → (a : Bool) → is_named (names_of ns) u ≡ a → (d : Bool) → is_named (defined_names ds) u ≡ d
        → (g : Bool) → is_named (function_names fs) u ≡ g → (b : Bool) → is_named (names_of As) u ≡ b
        → symbol_means (seeing ns ds fs As) u ≡ symbol_means (seeing ns ds fs Bs) u
    go true et f ef o eo a ea d ed g eg b eb = rw et
    go false et true ef o eo a ea d ed g eg b eb = rw (et, ef)
    go false et false ef true eo a ea d ed g eg b eb = rw (et, ef, eo)
    go false et false ef false eo true ea d ed g eg b eb = rw (et, ef, eo, ea)
    go false et false ef false eo false ea true ed g eg b eb = rw (et, ef, eo, ea, ed)
    go false et false ef false eo false ea false ed true eg b eb = rw (et, ef, eo, ea, ed, eg)
    go false et false ef false eo false ea false ed false eg true eb =
        let other : symbol_means (seeing ns ds fs As) u ≡ some (non_terminal (place_in (names_of As) 0 u)) = rw (et, ef, eo, ea, ed, eg, eb) in
        let z : ◌≡◌ {A = ℕ} 0 1 = cc in absurd (omega arith)
    go false et false ef false eo false ea false ed false eg false eb =
        let other : symbol_means (seeing ns ds fs As) u ≡ nothing = rw (et, ef, eo, ea, ed, eg, eb) in never (sym other ∙ e)
