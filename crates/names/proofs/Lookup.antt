-- What a symbol that is neither a literal nor an operator stands for, by where its name is found.
use Prim.Native.Nat.{ℕ, zero, suc, ◌+◌, ◌≤◌, ◌<◌}
use native.Mathlib.Nat.{zero-add}
use native.Mathlib.Omega.{arith}
use mathlib.Core.Path.{◌≡◌, refl, sym, ap, ◌∙◌}
use mathlib.Core.Bool.{Bool, true, false, cond, ◌||◌, or_assoc, or_comm, or-false}
use mathlib.Core.List.{List, [], ◌∷◌, ◌++◌}
use mathlib.Core.Option.{Option, none as nothing, some}
use lib.Dec.{ltb}
use lib.ListN.{get_or, length}
use borrow.Author.Tests.{le-ltb, lt-ltb}
use Rattle.forest.specs.Lists.{same_bytes}
use Rattle.terms.specs.Labels.{defined, function, name}
use Rattle.derivation.specs.Derivation.{Item, non_terminal, the}
use Rattle.derivation.specs.code.Tables.{item_code, item_value}
use Rattle.forest.specs.Search.{place_in}
use Rattle.terms.specs.code.Codes.{code_with, defined_kind, function_kind, name_kind, non_terminal_kind}
use Rattle.names.specs.Scopes.{View, defined_names, function_names, in_order, is_known, is_named, is_seen, item_or, names_of, named_sorts, symbol_means}
use Rattle.names.specs.code.Lookup.{nothing_code}
use Rattle.names.specs.code.Meanings.{Ordinary, Seeing, SymbolMeans}
use Rattle.names.specs.code.Table.{defined_row, function_row, names_from, non_terminal_row, sort_in, sorts_from}
use Rattle.names.specs.declared.Seen.{Seen}

-- A name is one of the names just when its place is before their end.
pub named_by_place : (names : List (List ℕ)) (k : ℕ) (n : List ℕ) → is_named names n ≡ ltb (place_in names k n) (k + length names)
unfolding is_named place_in
named_by_place [] k n = sym (le-ltb k (k + 0) (omega arith))
named_by_place (m ∷ more) k n = go (same_bytes m n) (named_by_place more (k + 1) n)
  where
    go : (here : Bool) → is_named more n ≡ ltb (place_in more (k + 1) n) (k + 1 + length more)
        → here || is_named more n ≡ ltb (cond here k (place_in more (k + 1) n)) (k + suc (length more))
    go true e = sym (lt-ltb k (k + suc (length more)) (omega arith))
    go false e = let z : k + 1 + length more ≡ k + suc (length more) = omega arith in rw z at e

pub named_append : (names others : List (List ℕ)) (n : List ℕ) → is_named (names ++ others) n ≡ is_named names n || is_named others n
unfolding is_named
named_append [] others n = refl
named_append (m ∷ more) others n = rw (named_append more others n) (sym (or_assoc (same_bytes m n) (is_named more n) (is_named others n)))

-- The order of names does not matter.
pub named_in_order : (names : List (List ℕ)) (n : List ℕ) → is_named (in_order names) n ≡ is_named names n
unfolding is_named in_order
named_in_order [] n = refl
named_in_order (m ∷ earlier) n =
    named_append (in_order earlier) (m ∷ []) n
    ∙ rw (named_in_order earlier n, or-false (same_bytes m n)) (or_comm (is_named earlier n) (same_bytes m n))

names_long : (names : List ℕ) (r n : ℕ) → length (names_from names r n) ≡ n
unfolding names_from
names_long names r zero = refl
names_long names r (suc n) = ap suc (names_long names (r + 1) n)

-- The sort of a name that is found.
sort-at : (names : List ℕ) (r n k : ℕ) → k < n → get_or (sorts_from names r n) k 0 ≡ sort_in names (r + k)
unfolding sorts_from
sort-at names r zero k h = absurd (omega arith)
sort-at names r (suc n) zero h = let z : r + 0 ≡ r = omega arith in rw z
sort-at names r (suc n) (suc k) h = let z : r + suc k ≡ r + 1 + k = omega arith in rw z (sort-at names (r + 1) n k (omega arith))

-- A name that was looked for among names: whether it is one of them, and its place in their order.
record Looked (l order : List (List ℕ)) (n : List ℕ) (count k : ℕ) : Type 0 where
  pub test : is_named l n ≡ ltb k count
  pub place : k ≡ place_in order 0 n

-- A name that was found at a place in rows of the table.
abbrev pub Found : (names : List ℕ) (first count : ℕ) (n : List ℕ) (k : ℕ) → Type 0
Found names first count n k = k ≡ place_in (names_from names first count) 0 n

module _ (names : List ℕ) (first count : ℕ) (n : List ℕ) {k : ℕ} (found : Found names first count n k) where
  -- the rows hold the names in their order
  in_rows : (l : List (List ℕ)) → names_from names first count ≡ l → Looked l l n count k
  in_rows l e =
      let long : 0 + length (names_from names first count) ≡ count = zero-add (length (names_from names first count)) ∙ names_long names first count in
      record {
        test = ap (λ (x : List (List ℕ)). is_named x n) (sym e) ∙ named_by_place (names_from names first count) 0 n ∙ rw (long, found);
        place = found ∙ ap (λ (x : List (List ℕ)). place_in x 0 n) e;
      }

  -- the names stand the last first, and the rows hold them in script order
  back_in_rows : (l : List (List ℕ)) → names_from names first count ≡ in_order l → Looked l (in_order l) n count k
  back_in_rows l e = let o = in_rows (in_order l) e in record { test = sym (named_in_order l n) ∙ o.test; place = o.place }

module _ {l order : List (List ℕ)} {n : List ℕ} {count k : ℕ} (o : Looked l order n count k) where
  there : k < count → is_named l n ≡ true
  there h = o.test ∙ lt-ltb k count h

  gone : count ≤ k → is_named l n ≡ false
  gone h = o.test ∙ le-ltb k count h

-- A symbol that stands for something is known.
pub stands_for : {view : View} {n : List ℕ} (i : Item) → symbol_means view n ≡ some i → is_known view n ≡ true
    → SymbolMeans view n (record { known = true; code = item_code i; value = item_value i })
stands_for i e k = record {
  known_is = sym k;
  stated = record { code_is = ap (λ (x : Option Item). item_code (item_or x)) (sym e); value_is = ap (λ (x : Option Item). item_value (item_or x)) (sym e) };
}

-- What a name that is seen stands for.
abbrev seen_means : View → (n : List ℕ) → Option Item
seen_means view n =
    let k = place_in (names_of view.names) 0 n in
    cond (is_named (names_of view.names) n) (some (the (name (get_or (named_sorts view.names) k 0) k)))
    (cond (is_named (defined_names view.defined) n) (some (the (defined (place_in (in_order (defined_names view.defined)) 0 n))))
    (cond (is_named (function_names view.functions) n) (some (the (function (place_in (in_order (function_names view.functions)) 0 n))))
    (cond (is_named (names_of view.non_terminals) n) (some (non_terminal (place_in (names_of view.non_terminals) 0 n))) nothing)))

module _ {names : List ℕ} {seen : Seen} {n : List ℕ} (given : Seeing names seen) (o : Ordinary n)
    {a : ℕ} (at_name : Found names seen.first seen.names n a) where
  means_seen : symbol_means given.view n ≡ seen_means given.view n
  unfolding symbol_means
  means_seen = rw (o.not-true, o.not-false, o.no-operator)

  known_seen : is_known given.view n ≡ is_seen given.view n
  unfolding is_known
  known_seen = rw (o.not-true, o.not-false, o.no-operator)

  a_name : Looked (names_of given.view.names) (names_of given.view.names) n seen.names a
  a_name = in_rows names seen.first seen.names n at_name (names_of given.view.names) given.sees.names_are

  -- the symbol is an argument or a variable
  pub is_name : {s code : ℕ} → a < seen.names → s ≡ sort_in names (seen.first + a) → code ≡ code_with name_kind s
      → SymbolMeans given.view n (record { known = true; code = code; value = a })
  is_name {s} h es ec =
      let sort : s ≡ get_or (named_sorts given.view.names) a 0 =
      es ∙ sym (sort-at names seen.first seen.names a h) ∙ ap (λ (l : List ℕ). get_or l a 0) given.sees.sorts_are in
      rw ec (stands_for (the (name s a)) (means_seen ∙ rw (there a_name h, ← a_name.place, sort)) (known_seen ∙ rw (there a_name h)))

  module _ (no_name : seen.names ≤ a) {b : ℕ} (at-defined : Found names defined_row seen.defined n b) where
    a_defined : Looked (defined_names given.view.defined) (in_order (defined_names given.view.defined)) n seen.defined b
    a_defined = back_in_rows names defined_row seen.defined n at-defined (defined_names given.view.defined) given.sees.defined_are

    -- the symbol is a `define-fun`
    pub is_defined : b < seen.defined → SymbolMeans given.view n (record { known = true; code = code_with defined_kind 0; value = b })
    is_defined h =
        stands_for (the (defined b)) (means_seen ∙ rw (gone a_name no_name, there a_defined h, ← a_defined.place))
        (known_seen ∙ rw (gone a_name no_name, there a_defined h))

    module _ (no-defined : seen.defined ≤ b) {f : ℕ} (at-function : Found names function_row seen.functions n f) where
      a_function : Looked (function_names given.view.functions) (in_order (function_names given.view.functions)) n seen.functions f
      a_function = back_in_rows names function_row seen.functions n at-function (function_names given.view.functions) given.sees.functions_are

      -- the symbol is a function
      pub is_function : f < seen.functions → SymbolMeans given.view n (record { known = true; code = code_with function_kind 0; value = f })
      is_function h =
          stands_for (the (function f)) (means_seen ∙ rw (gone a_name no_name, gone a_defined no-defined, there a_function h, ← a_function.place))
          (known_seen ∙ rw (gone a_name no_name, gone a_defined no-defined, there a_function h))

      module _ (no_function : seen.functions ≤ f) {k : ℕ} (at-non-terminal : Found names non_terminal_row seen.non_terminals n k) where
        a_non_terminal : Looked (names_of given.view.non_terminals) (names_of given.view.non_terminals) n seen.non_terminals k
        a_non_terminal =
            in_rows names non_terminal_row seen.non_terminals n at-non-terminal (names_of given.view.non_terminals) given.sees.non_terminals_are

        -- only non-terminals are left
        means_last : symbol_means given.view n
            ≡ cond (is_named (names_of given.view.non_terminals) n) (some (non_terminal (place_in (names_of given.view.non_terminals) 0 n))) nothing
        means_last = means_seen ∙ rw (gone a_name no_name, gone a_defined no-defined, gone a_function no_function)

        known_last : is_known given.view n ≡ is_named (names_of given.view.non_terminals) n
        known_last = known_seen ∙ rw (gone a_name no_name, gone a_defined no-defined, gone a_function no_function)

        -- the symbol is a non-terminal
        pub is_non_terminal : k < seen.non_terminals → SymbolMeans given.view n (record { known = true; code = code_with non_terminal_kind 0; value = k })
        is_non_terminal h =
            stands_for (non_terminal k) (means_last ∙ rw (there a_non_terminal h, ← a_non_terminal.place)) (known_last ∙ there a_non_terminal h)

        -- the symbol is not known
        pub is_unknown : seen.non_terminals ≤ k → SymbolMeans given.view n (record { known = false; code = nothing_code; value = 0 })
        is_unknown h =
            let nothing : symbol_means given.view n ≡ nothing = means_last ∙ rw (gone a_non_terminal h) in
            record { known_is = sym (known_last ∙ gone a_non_terminal h); stated = record { code_is = rw nothing; value_is = rw nothing } }
