-- Functions in script order: function j of them, and what the tables have of it and of its body; and the `define-fun`s that stand before it.
use Prim.Native.Nat.{ℕ, zero, suc, ◌+◌, ◌-◌, ◌≤◌, ◌<◌}
use native.Mathlib.Numerals.{add-one}
use native.Mathlib.Omega.{arith}
use mathlib.Core.Path.{◌≡◌, refl, sym, ap, ◌∙◌, subst}
use mathlib.Core.List.{List, [], ◌∷◌, ◌++◌, map}
use lib.ListN.{drop, length, length-append, length-map}
use lib.Seq.{drop-nil}
use Rattle.forest.proofs.Lists.{within as below}
use Rattle.terms.specs.Labels.{Terms}
use Rattle.evaluation.specs.code.Tables.{TermStands}
use Rattle.forest.specs.Limits.{most_arguments}
use Rattle.term_sorts.specs.code.Signatures.{RowIs, RowsAre}
use Rattle.names.specs.Scopes.{Defined, Function, defined_names, function_names, in_order, names_of, signature_of, named_sorts}
use Rattle.names.specs.code.Table.{name_in, names_from, own_argument_row, sorts_from}
use Rattle.names.proofs.NamePut.{last_row}
use Rattle.script.specs.code.Tables.{ArgumentsHold, GrammarHeld, GrammarsHold, defined_signatures}
use Rattle.script.specs.code.Places.{body_in, offset_in}
use Rattle.script.specs.Outcome.{offset_of}
use Rattle.script.specs.Response.{Body, in_script_order}
use Rattle.response.specs.code.Answers.{ResponseAt}

-- The function is number j of functions that stand the last first.
pub data At : (fs : List Function) → (j : ℕ) → Function → Type 0 where
  last : {f : Function} {earlier : List Function} {j : ℕ} → j ≡ length earlier → At (f ∷ earlier) j f
  before : {f g : Function} {earlier : List Function} {j : ℕ} → At earlier j g → At (f ∷ earlier) j g

-- There are as many in script order.
pub order_length : (fs : List Function) → length (in_script_order fs) ≡ length fs
unfolding in_script_order
order_length [] = refl
order_length (f ∷ earlier) = omega (arith, length-append (in_script_order earlier) (f ∷ []), order_length earlier)

-- A function of a list and one more: one of the list, or the last.
data Split (xs : List Function) (f : Function) (j : ℕ) (g : Function) : Type 0 where
  within : (later : List Function) → drop j xs ≡ g ∷ later → Split xs f j g
  at_end : j ≡ length xs → f ≡ g → Split xs f j g

-- The same behind another.
split_next : {x : Function} {xs : List Function} {f : Function} {j : ℕ} {g : Function} → Split xs f j g → Split (x ∷ xs) f (suc j) g
split_next (within later e) = within later e
split_next (at_end e same) = at_end (ap suc e) same

-- Each is one of the two.
split : (xs : List Function) (f : Function) (j : ℕ) {g : Function} {later : List Function} → drop j (xs ++ f ∷ []) ≡ g ∷ later → Split xs f j g
split [] f zero e = at_end refl (cc)
split [] f (suc j) e = let n = drop-nil {A = Function} j in let z : ◌≡◌ {A = ℕ} 0 1 = cc in absurd (omega arith)
split (x ∷ xs) f zero {g} {later} e = within xs (cc)
split (x ∷ xs) f (suc j) e = split_next (split xs f j e)

-- By which it is the last, or one before it.
from_split : {f g : Function} (earlier : List Function) {j : ℕ} → ((later : List Function) → drop j (in_script_order earlier) ≡ g ∷ later → At earlier j g)
    → Split (in_script_order earlier) f j g → At (f ∷ earlier) j g
from_split earlier rest (within later e) = before (rest later e)
from_split {f} earlier {j} rest (at_end e same) = subst (At (f ∷ earlier) j) same (last (e ∙ order_length earlier))

-- The first of the functions from function j on, in script order, is number j.
pub place : (fs : List Function) (j : ℕ) {g : Function} (later : List Function) → drop j (in_script_order fs) ≡ g ∷ later → At fs j g
unfolding in_script_order
place [] j later e = let n = drop-nil {A = Function} j in let z : ◌≡◌ {A = ℕ} 0 1 = cc in absurd (omega arith)
place (f ∷ earlier) j later e = from_split earlier (λ l h. place earlier j l h) (split (in_script_order earlier) f j e)

-- Lists with one more behind them are the same just when they and those are.
last_same : {A : Type 0} (xs ys : List A) (x y : A) → xs ++ x ∷ [] ≡ ys ++ y ∷ [] → (xs ≡ ys) × (x ≡ y)
last_same [] [] x y e = (refl, cc)
last_same [] (b ∷ ys) x y e = absurd (omega (arith, simp length-append at (ap length e)))
last_same (a ∷ xs) [] x y e = absurd (omega (arith, simp length-append at (ap length e)))
last_same (a ∷ xs) (b ∷ ys) x y e =
    let t : xs ++ x ∷ [] ≡ ys ++ y ∷ [] = cc in
    let r = last_same xs ys x y t in
    let s = r.0 in
    (cc, r.1)

-- What the table of names has of a function's arguments.
pub record Own (names : List ℕ) (j : ℕ) (f : Function) : Type 0 where
  pub names_are : names_from names (own_argument_row j) (length f.arguments) ≡ names_of f.arguments
  pub sorts_are : sorts_from names (own_argument_row j) (length f.arguments) ≡ named_sorts f.arguments
  pub few : length f.arguments ≤ most_arguments

-- The last of names in rows, and those before it.
names_last : (names : List ℕ) (r n : ℕ) (earlier : List (List ℕ)) (m : List ℕ) → names_from names r (suc n) ≡ in_order (m ∷ earlier)
    → (names_from names r n ≡ in_order earlier) × (name_in names (r + n) ≡ m)
unfolding in_order
names_last names r n earlier m h =
    let rows : names_from names r (suc n) ≡ names_from names r n ++ name_in names (r + n) ∷ [] = rw (← add-one) (last_row names r n).name in
    last_same (names_from names r n) (in_order earlier) (name_in names (r + n)) m (sym rows ∙ h)

module _ (names : List ℕ) where
  -- The arguments of function j.
  pub arguments_at : {fs : List Function} {j : ℕ} {f : Function} → At fs j f → ArgumentsHold names fs → Own names j f
  unfolding ArgumentsHold
  arguments_at (last e) hold = rw e (record { names_are = hold.0; sorts_are = hold.1; few = hold.2 })
  arguments_at (before a) hold = arguments_at a hold.3

  -- Its name.
  pub name_at : {fs : List Function} {j : ℕ} {f : Function} (r : ℕ) → At fs j f → names_from names r (length fs) ≡ in_order (function_names fs)
      → name_in names (r + j) ≡ f.name
  name_at r (last {f} {earlier} e) h = rw e (names_last names r (length earlier) (function_names earlier) f.name h).1
  name_at r (before {f} {g} {earlier} a) h = name_at r a (names_last names r (length earlier) (function_names earlier) f.name h).0

-- Its signature.
pub row_at : {places : List ℕ} (base : ℕ) {fs : List Function} {j : ℕ} {f : Function} → At fs j f → RowsAre places base (map signature_of fs)
    → RowIs places (base + j) (signature_of f)
unfolding RowsAre
row_at base (last {f} {earlier} e) rows = rw (e, ← length-map earlier signature_of) rows.0
row_at base (before a) rows = row_at base a rows.1

-- Its grammar.
pub grammar_at : {numbers forms : List ℕ} {rows : ℕ} {fs : List Function} {j : ℕ} {f : Function} → At fs j f → GrammarsHold numbers forms rows fs
    → GrammarHeld numbers forms rows j f
unfolding GrammarsHold
grammar_at (last e) held = rw e held.0
grammar_at (before a) held = grammar_at a held.1

-- What every function has, function j has.
pub each : {Has : Function → Type 0} {All : List Function → Type 0} → ((f : Function) (others : List Function) → All (f ∷ others) → Has f × All others)
    → {fs : List Function} {j : ℕ} {f : Function} → At fs j f → All fs → Has f
each parts (last {f} {earlier} e) all = (parts f earlier all).0
each {Has = Has} {All = All} parts (before {f} {g} {earlier} a) all = each {Has = Has} {All = All} parts a (parts f earlier all).1

-- It is one of them.
pub at_below : {fs : List Function} {j : ℕ} {f : Function} → At fs j f → j < length fs
at_below (last e) = omega arith
at_below (before a) = omega (arith, at_below a)

-- The names of `define-fun`s but the last n.
pub names_before : (names : List ℕ) (r n : ℕ) (defs : List Defined) → names_from names r (length defs) ≡ in_order (defined_names defs)
    → names_from names r (length defs - n) ≡ in_order (defined_names (drop n defs))
names_before names r zero defs h = let z : length defs - 0 ≡ length defs = omega arith in rw z h
names_before names r (suc n) [] h = let z : 0 - suc n ≡ 0 = omega arith in rw z h
names_before names r (suc n) (d ∷ earlier) h =
    let z : suc (length earlier) - suc n ≡ length earlier - n = omega arith in
    rw z (names_before names r n earlier (names_last names r (length earlier) (defined_names earlier) d.name h).0)

-- Their signatures.
pub rows_before : (places : List ℕ) (base n : ℕ) (defs : List Defined) → RowsAre places base (defined_signatures defs)
    → RowsAre places base (defined_signatures (drop n defs))
unfolding RowsAre
rows_before places base zero defs h = h
rows_before places base (suc n) [] h = h
rows_before places base (suc n) (d ∷ earlier) h = rows_before places base n earlier h.1

-- The body of function j begins at its node, and the offset of its first word stands in the table.
pub record BodyAt (text : List ℕ) (all : Terms) (places : List ℕ) (j : ℕ) (b : Body) : Type 0 where
  pub begins : TermStands all (body_in places j) b.term
  pub offset_is : offset_in places j ≡ offset_of text b.first

-- Of bodies from that of function m on, the one that has n before it.
pub body_at : {text : List ℕ} {all : Terms} {places : List ℕ} (m n j : ℕ) (bs : List Body) {b : Body} {more : List Body} → j ≡ m + n
    → ResponseAt text all places m bs → drop n bs ≡ b ∷ more → BodyAt text all places j b
unfolding ResponseAt
body_at m n j [] {b} {more} e held is = absurd (omega (arith, below [] n b more is))
body_at m zero j (c ∷ bs) {b} e held is =
    let same : c ≡ b = cc in
    let here : j ≡ m = omega arith in
    rw (here, ← same) (record { begins = held.0; offset_is = held.1 })
body_at m (suc n) j (c ∷ bs) e held is = body_at (m + 1) n j bs (omega arith) held.2 is
