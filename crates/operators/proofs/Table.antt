-- The columns of the operator table as lists: what the constant arrays hold is computed from the rows, once for all of them.
use Rattle.std.proofs.Common.{◌≡◌, ℕ, zero, suc, ◌+◌, ◌<◌, ◌≤◌, List, [], ◌∷◌, map, length, get_or, drop, sym, refl, ap, ◌∙◌, add-one, drop-cons}
use Rattle.std.proofs.lemmas.List.{get_or_default}
use lib.ListN.{get_or-eq_default, get_or-map}
use Rattle.operators.specs.Operators.{Operator, no_operator, operator_at, operator_count, operators}

-- There are as many operators as rows.
pub operators_counted : operator_count ≡ length operators
unfolding operators
operators_counted = refl

-- A column read at o is that column of operator o.
pub column : {A : Type 0} (f : Operator → A) (o : ℕ) → get_or (map f operators) o (f no_operator) ≡ f (operator_at o)
unfolding operator_at
column f o = get_or-map f operators o no_operator

-- What an array of entries has for operator o, where each is what e makes of a row.
pub entry_at : {E A : Type 0} (g : E → A) (e : Operator → E) (d : E) {o : ℕ} → o < operator_count → g (get_or (map e operators) o d) ≡ g (e (operator_at o))
unfolding operators
entry_at g e d {o} h = ap g (get_or_default (map e operators) o d (e no_operator) h ∙ column e o)

-- Past the last operator a column has what it has for no operator.
pub past : {A : Type 0} (f : Operator → A) {o : ℕ} → operator_count ≤ o → f no_operator ≡ f (operator_at o)
unfolding operator_at operators
past f h = ap f (sym (get_or-eq_default operators no_operator h))

-- The rows from o on are operator o and the rows after it.
pub next_row : {o : ℕ} → o < operator_count → drop o operators ≡ operator_at o ∷ drop (o + 1) operators
unfolding operator_at operators
next_row {o} h = rw (add-one, drop-cons operators o no_operator)

-- P holds of each of some things.
abbrev pub Each : {A : Type 0} → (A → Type 0) → List A → Type 0
Each P [] = Unit
Each P (x ∷ more) = P x × Each P more

-- It holds of what stands at k, if it holds of what stands for nothing.
pub each_at : {A : Type 0} (P : A → Type 0) (l : List A) (d : A) → Each P l → P d → (k : ℕ) → P (get_or l k d)
each_at P [] d h g k = g
each_at P (x ∷ more) d h g zero = h.0
each_at P (x ∷ more) d h g (suc k) = each_at P more d h.1 g k

-- Of the first of some things and of the others.
infixr 5 ◌and◌
pub ◌and◌ : {A B : Type 0} → A → B → A × B
a and b = (a, b)
