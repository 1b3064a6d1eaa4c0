-- The earlier declaration of a name that is taken, by the rows of the table.
use Prim.Native.Nat.{ℕ, zero, suc, ◌+◌, ◌-◌, ◌≤◌, ◌<◌, max}
use native.Mathlib.Omega.{arith}
use mathlib.Core.Path.{◌≡◌, refl, sym, ap, ◌∙◌}
use mathlib.Core.Bool.{Bool, true, false, cond}
use mathlib.Core.List.{List, [], ◌∷◌, ◌++◌, append_assoc, append-nil}
use lib.Dec.{eqb}
use borrow.Author.Tests.{eq-eqb, ne_eqb}
use Rattle.names.specs.Earlier.{Declared, earlier, last_before}
use Rattle.std.specs.Prelude.{Option, None, Some}
use Rattle.std.specs.Option.{option_or}
use Rattle.names.specs.code.Earlier.{Listing, all_rows, before_in, new_row, new_rows, old_rows, row_for}
use Rattle.names.specs.code.Table.{declared_from, defined_row, function_row, name_in, non_terminal_row, row_count, variable_row, word_in}
use Rattle.names.specs.declared.Scope.{Scope}

-- ---- the last declaration before a word

-- Of two lists it is the later of those in each.
pub last_both : (ds es : List Declared) (w : ℕ) (n : List ℕ) → last_before (ds ++ es) w n ≡ max (last_before ds w n) (last_before es w n)
unfolding last_before
last_both [] es w n = omega arith
last_both (d ∷ more) es w n = omega (arith, last_both more es w n)

-- The rows from a row on, and what was found before them, decide the last of all.
pub record LastLeft (names name : List ℕ) (first count word place last row : ℕ) : Type 0 where
  pub left : max last (last_before (declared_from names row (first + count - row)) word name) ≡ max place (last_before (declared_from names first count) word name)

module _ {names name : List ℕ} {first count word place last row : ℕ} (l : LastLeft names name first count word place last row) where
  -- a row more
  pub last_turn : row < first + count → {later : ℕ} → later ≡ max last (before_in names row name word)
      → LastLeft names name first count word place later (row + 1)
  unfolding declared_from last_before
  last_turn h e =
      let more : first + count - row ≡ suc (first + count - (row + 1)) = omega arith in
      let step = rw more at l.left in
      record { left = omega arith }

  -- past the last row
  pub last_ends : first + count ≤ row → last ≡ max place (last_before (declared_from names first count) word name)
  unfolding declared_from last_before
  last_ends h =
      let none : first + count - row ≡ 0 = omega arith in
      let step = rw none at l.left in
      omega arith

max_next : (a b c : ℕ) → max (max a b) c ≡ max a (max b c)
max_next a b c = omega arith

-- The greatest of six numbers, in turn and by parts.
six_parts : (v d f o a l : ℕ) → max (max (max (max (max (max 0 v) d) f) o) a) l ≡ max (max (max v d) f) (max (max o a) l)
six_parts v d f o a l =
    let first : max 0 v ≡ v = omega arith in
    let old = max (max v d) f in
    rw first (ap (λ (m : ℕ). max m l) (max_next old o a) ∙ max_next old (max o a) l)

-- The last of all rows is the last of each part in turn.
pub last_of_parts : (names : List ℕ) (scope : Scope) (own listed : ℕ) (name : List ℕ) (word : ℕ) {v d f o a r : ℕ}
    → v ≡ max 0 (last_before (declared_from names variable_row scope.variables) word name)
    → d ≡ max v (last_before (declared_from names defined_row scope.defined) word name)
    → f ≡ max d (last_before (declared_from names function_row scope.functions) word name)
    → o ≡ max f (last_before (declared_from names own 1) word name)
    → a ≡ max o (last_before (declared_from names scope.first scope.arguments) word name)
    → r ≡ max a (last_before (declared_from names non_terminal_row listed) word name)
    → r ≡ last_before (all_rows names scope own listed) word name
last_of_parts names scope own listed name word ev ed ef eo ea er =
    let variables = declared_from names variable_row scope.variables in
    let defined = declared_from names defined_row scope.defined in
    let functions = declared_from names function_row scope.functions in
    let itself = declared_from names own 1 in
    let arguments = declared_from names scope.first scope.arguments in
    let listing = declared_from names non_terminal_row listed in
    er
    ∙ rw (ea, eo, ef, ed, ev)
    (six_parts _ _ _ _ _ _
    ∙ sym (last_both (old_rows names scope) (new_rows names scope own listed) word name
    ∙ rw (
      last_both (variables ++ defined) functions word name,
      last_both variables defined word name,
      last_both (itself ++ arguments) listing word name,
      last_both itself arguments word name,
    )))

-- ---- the row of a new name

-- The rows from a row on, of so many from the first on, decide the row of a word among all of them.
pub record RowLeft (names : List ℕ) (first count word row : ℕ) : Type 0 where
  pub left : row_for names row (first + count - row) word ≡ row_for names first count word

module _ {names : List ℕ} {first count word row : ℕ} (l : RowLeft names first count word row) where
  module _ (h : row < first + count) {at : ℕ} (ea : at ≡ word_in names row) where
    -- a row decides whether it is the one or one after it
    row_choice : cond (eqb at word) (Some row) (row_for names (row + 1) (first + count - (row + 1)) word) ≡ row_for names first count word
    unfolding row_for
    row_choice = let more : first + count - row ≡ suc (first + count - (row + 1)) = omega arith in rw ea (rw more at l.left)

    -- it is the one
    pub row_found : at ≡ word → Some row ≡ row_for names first count word
    row_found e = rw (eq-eqb at word e) at row_choice

    -- it is not
    pub row_turn : (at ≡ word → ⊥) → RowLeft names first count word (row + 1)
    row_turn e = record { left = rw (ne_eqb at word e) at row_choice }

  -- it is none
  pub row_none : first + count ≤ row → None ≡ row_for names first count word
  unfolding row_for
  row_none h = let none : first + count - row ≡ 0 = omega arith in rw none at l.left

-- The row of a word is one of those that are looked at.
row_within : (names : List ℕ) (first count word : ℕ) → first + count ≤ row_count → {row : ℕ} → Some row ≡ row_for names first count word → row < row_count
unfolding row_for
row_within names first zero word h e = cc
row_within names first (suc n) word h {row} e = go (eqb (word_in names first) word) (row_within names (first + 1) n word (omega arith)) e
  where
    later : Option ℕ
    later = row_for names (first + 1) n word

    go : (here : Bool) → (Some row ≡ later → row < row_count) → Some row ≡ cond here (Some first) later → row < row_count
    go true behind e = let same : row ≡ first = cc in omega arith
    go false behind e = behind e

-- The last place before a word at which the name in a row is declared, where there is a row.
abbrev last_or : (names : List ℕ) → (all : List Declared) → (word otherwise : ℕ) → Option ℕ → ℕ
last_or names all word otherwise None = otherwise
last_or names all word otherwise (Some row) = last_before all word (name_in names row)

-- The earlier declaration of the name of a word is that of the row of the word; where it is in none of the rows, it is one of the other names.
by_row : (names : List ℕ) (first count word : ℕ) (all others : List Declared)
    → earlier all (declared_from names first count ++ others) word ≡ last_or names all word (earlier all others word) (row_for names first count word)
unfolding declared_from earlier row_for
by_row names first zero word all others = refl
by_row names first (suc n) word all others = go (eqb (word_in names first) word) (by_row names (first + 1) n word all others)
  where
    row : Option ℕ
    row = row_for names (first + 1) n word

    go : (here : Bool)
        → earlier all (declared_from names (first + 1) n ++ others) word ≡ last_or names all word (earlier all others word) row
        → cond here (last_before all word (name_in names first)) (earlier all (declared_from names (first + 1) n ++ others) word)
        ≡ last_or names all word (earlier all others word) (cond here (Some first) row)
    go true later = refl
    go false later = later

-- The first of three rows that there is.
first_of : (names : List ℕ) (all : List Declared) (word : ℕ) (a b c : Option ℕ)
    → last_or names all word (last_or names all word (last_or names all word 0 c) b) a ≡ last_or names all word 0 (option_or (option_or a b) c)
first_of names all word None None c = refl
first_of names all word None (Some row) c = refl
first_of names all word (Some row) b c = refl

module _ (names : List ℕ) (scope : Scope) (own listed word : ℕ) where
  -- The earlier declaration of the name of a word is that of the row of the new name.
  by_new_row : (all : List Declared) → earlier all (new_rows names scope own listed) word ≡ last_or names all word 0 (new_row names scope own listed word)
  unfolding earlier
  by_new_row all =
      let itself = declared_from names own 1 in
      let arguments = declared_from names scope.first scope.arguments in
      let listing = declared_from names non_terminal_row listed in
      let last : earlier all listing word ≡ last_or names all word 0 (row_for names non_terminal_row listed word) =
      ap (λ (ds : List Declared). earlier all ds word) (sym (append-nil listing)) ∙ by_row names non_terminal_row listed word all [] in
      let next = by_row names scope.first scope.arguments word all listing in
      let first = by_row names own 1 word all (arguments ++ listing) in
      ap (λ (ds : List Declared). earlier all ds word) (append_assoc itself arguments listing)
      ∙ first
      ∙ rw (next, last)
      (first_of names all word (row_for names own 1 word) (row_for names scope.first scope.arguments word) (row_for names non_terminal_row listed word))

  -- no new name is declared at the word
  pub no_row : None ≡ new_row names scope own listed word → 0 ≡ earlier (all_rows names scope own listed) (new_rows names scope own listed) word
  no_row e = sym (rw (← e) at (by_new_row (all_rows names scope own listed)))

  module _ {row : ℕ} (e : Some row ≡ new_row names scope own listed word) where
    -- the row is in the table
    pub new_within : Listing names scope own listed → row < row_count
    new_within l = go (row_for names own 1 word) (row_for names scope.first scope.arguments word) (row_within names own 1 word (omega (arith, l.own_fits)))
        (row_within names scope.first scope.arguments word l.few.arguments)
        (row_within names non_terminal_row listed word (omega (arith, l.few_listed)))
        e
      where
        go : (a b : Option ℕ) {c : Option ℕ} → (Some row ≡ a → row < row_count) → (Some row ≡ b → row < row_count) → (Some row ≡ c → row < row_count)
            → Some row ≡ option_or (option_or a b) c → row < row_count
        go None None p q r e = r e
        go None (Some y) p q r e = q e
        go (Some x) b p q r e = p e

    -- the name in the row is
    pub by_name : {name : List ℕ} → name ≡ name_in names row → {r : ℕ} → r ≡ last_before (all_rows names scope own listed) word name
        → r ≡ earlier (all_rows names scope own listed) (new_rows names scope own listed) word
    by_name en er = er ∙ rw en (sym (rw (← e) at (by_new_row (all_rows names scope own listed))))
