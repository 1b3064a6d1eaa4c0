-- The stack in its two tables: a value put on it, and the newest values taken off it.
use Prim.Native.Nat.{ℕ, ◌+◌, ◌-◌, ◌≤◌, ◌<◌}
use native.Mathlib.Numerals.{add-one}
use native.Mathlib.Omega.{arith}
use mathlib.Core.Path.{◌≡◌, sym, ap, ◌∙◌}
use mathlib.Core.List.{List, [], ◌∷◌, ◌++◌, append_assoc, append-nil, map, map-append}
use borrow.Author.Tests.{le-ltb, lt-ltb}
use lib.ListN.{drop, length, length-drop, length-map, length-set, set, take, take-append-drop}
use lib.Seq.{drop-append_seam, length-take-le, take-add, take-append_seam, take-suc-set}
use Rattle.operators.specs.Sorts.{Fit}
use Rattle.operators.specs.Sorts.AllFit.{no_more, also}
use Rattle.steps.proofs.Stack.{turned_length}
use Rattle.steps.specs.Stack.{most_values, pushed, turned}
use Rattle.terms.proofs.Sound.{Fits}
use Rattle.terms.specs.Values.{numbers_in, sorts_in}
use Rattle.terms.specs.declared.Value.{Value}
use Rattle.runner.specs.code.Stack.{Held, Pushable, Ready, Stepped}
use Rattle.std.specs.Prelude.{None, Some}
use Rattle.runner.specs.code.Stack.Stepped.{done, not_done}

-- Values behind others, in the other order.
turned_append : (a b : List Value) → turned (a ++ b) ≡ turned b ++ turned a
unfolding turned
turned_append [] b = sym (append-nil (turned b))
turned_append (v ∷ a) b = ap (λ (l : List Value). l ++ v ∷ []) (turned_append a b) ∙ append_assoc (turned b) (turned a) (v ∷ [])

-- Values that fit, behind others that fit.
fits_append : (a b : List Value) → Fits a → Fits b → Fits (a ++ b)
fits_append [] b no_more g = g
fits_append (v ∷ a) b (also f more) g = also f (fits_append a b more g)

-- The first of values that fit, and the others.
fits_front : (a b : List Value) → Fits (a ++ b) → Fits a
fits_front [] b f = no_more
fits_front (v ∷ a) b (also f more) = also f (fits_front a b more)

fits_back : (a b : List Value) → Fits (a ++ b) → Fits b
fits_back [] b f = f
fits_back (v ∷ a) b (also f more) = fits_back a b more

-- One number more in a table that has those of some values.
put_one : (f : Value → ℕ) (table : List ℕ) (k : ℕ) (vs : List Value) (v : Value) → k < length table → take k table ≡ map f vs
    → take (k + 1) (set table k (f v)) ≡ map f (vs ++ v ∷ [])
put_one f table k vs v h e =
    ap (λ (n : ℕ). take n (set table k (f v))) (add-one k) ∙ take-suc-set table k (f v) h ∙ ap (λ (l : List ℕ). l ++ f v ∷ []) e
    ∙ sym (map-append f vs (v ∷ []))

-- A value put on the stack.
pub held_put : {values sorts : List ℕ} {top : ℕ} {stack : List Value} → Held values sorts top stack → top < most_values → (v : Value) → Fit v.sort v.number
    → Held (set values top v.number) (set sorts top v.sort) (top + 1) (v ∷ stack)
unfolding turned
held_put {values} {sorts} {top} {stack} h room v f =
    record {
      numbers_are = put_one (λ (u : Value). u.number) values top (turned stack) v (omega (arith, h.values_long)) h.numbers_are;
      sorts_are = put_one (λ (u : Value). u.sort) sorts top (turned stack) v (omega (arith, h.sorts_long)) h.sorts_are;
      fit = fits_append (turned stack) (v ∷ []) h.fit (also f no_more);
      counted = omega (arith, h.counted);
      most = omega arith;
      values_long = length-set values top v.number ∙ h.values_long;
      sorts_long = length-set sorts top v.sort ∙ h.sorts_long;
    }

module _ {values sorts : List ℕ} {top : ℕ} {v : Value} (e : Pushable values sorts top v) where
  -- A full stack.
  pub push_full : top ≡ most_values → Stepped values sorts top None (pushed e.ready.stack v)
  push_full q = rw (le-ltb (length e.ready.stack) most_values (omega (arith, e.ready.held.counted))) not_done

  -- A stack that has room.
  pub push_room : (top ≡ most_values → ⊥) → Stepped (set values top v.number) (set sorts top v.sort) (top + 1) (Some tt) (pushed e.ready.stack v)
  push_room q =
      let room : top < most_values = omega (arith, e.ready.held.most) in
      rw (lt-ltb (length e.ready.stack) most_values (omega (arith, e.ready.held.counted))) (done (held_put e.ready.held room v e.fit))

-- A table that has the numbers of values, cut where the newest begin.
cut_table : (f : Value → ℕ) (table : List ℕ) (base n : ℕ) (old new : List Value) → base + n ≤ length table → length old ≡ base
    → take (base + n) table ≡ map f (old ++ new) → (take base table ≡ map f old) × (take n (drop base table) ≡ map f new)
cut_table f table base n old new long counted e =
    let front = take base table in
    let back = take n (drop base table) in
    let parts : front ++ back ≡ map f old ++ map f new = sym (take-add base n table) ∙ e ∙ map-append f old new in
    let one : length front ≡ base = length-take-le base table (omega arith) in
    let two : length (map f old) ≡ base = length-map old f ∙ counted in (
      sym (take-append_seam front back) ∙ ap (λ (k : ℕ). take k (front ++ back)) one ∙ ap (take base) parts
          ∙ ap (λ (k : ℕ). take k (map f old ++ map f new)) (sym two) ∙ take-append_seam (map f old) (map f new),
      sym (drop-append_seam front back) ∙ ap (λ (k : ℕ). drop k (front ++ back)) one ∙ ap (drop base) parts
          ∙ ap (λ (k : ℕ). drop k (map f old ++ map f new)) (sym two) ∙ drop-append_seam (map f old) (map f new),
    )

-- The newest values of a stack and what is below them.
module _ {values sorts : List ℕ} {top : ℕ} (e : Ready values sorts top) (n : ℕ) (few : n ≤ top) where
  abbrev pub operands : List Value
  operands = turned (take n e.stack)

  abbrev pub below : List Value
  below = drop n e.stack

  -- They are the stack.
  split : turned e.stack ≡ turned below ++ operands
  split = ap turned (sym (take-append-drop n e.stack)) ∙ turned_append (take n e.stack) below

  pub operands_counted : length operands ≡ n
  operands_counted = turned_length (take n e.stack) ∙ length-take-le n e.stack (omega (arith, e.held.counted))

  below_counted : length (turned below) ≡ top - n
  below_counted = turned_length below ∙ length-drop n e.stack ∙ omega (arith, e.held.counted)

  -- Each table cut.
  cut_at : (f : Value → ℕ) (table : List ℕ) → length table ≡ most_values → take top table ≡ map f (turned e.stack)
      → (take (top - n) table ≡ map f (turned below)) × (take n (drop (top - n) table) ≡ map f operands)
  cut_at f table long is =
      let q : top - n + n ≡ top = omega arith in
      cut_table f table (top - n) n (turned below) operands (omega (arith, long, e.held.most)) below_counted
      (ap (λ (k : ℕ). take k table) q ∙ is ∙ ap (map f) split)

  numbers_cut : (take (top - n) values ≡ numbers_in (turned below)) × (take n (drop (top - n) values) ≡ numbers_in operands)
  numbers_cut = cut_at (λ (u : Value). u.number) values e.held.values_long e.held.numbers_are

  sorts_cut : (take (top - n) sorts ≡ sorts_in (turned below)) × (take n (drop (top - n) sorts) ≡ sorts_in operands)
  sorts_cut = cut_at (λ (u : Value). u.sort) sorts e.held.sorts_long e.held.sorts_are

  -- As the code cuts them.
  pub operand_numbers : take (top - (top - n)) (drop (top - n) values) ≡ numbers_in operands
  operand_numbers = let q : top - (top - n) ≡ n = omega arith in ap (λ (k : ℕ). take k (drop (top - n) values)) q ∙ numbers_cut.1

  pub operand_sorts : take (top - (top - n)) (drop (top - n) sorts) ≡ sorts_in operands
  operand_sorts = let q : top - (top - n) ≡ n = omega arith in ap (λ (k : ℕ). take k (drop (top - n) sorts)) q ∙ sorts_cut.1

  -- They fit.
  all_fit : Fits (turned below ++ operands)
  all_fit = rw split at e.held.fit

  pub operands_fit : Fits operands
  operands_fit = fits_back (turned below) operands all_fit

  -- What is below them is held too.
  pub held_below : Held values sorts (top - n) below
  held_below =
      record {
        numbers_are = numbers_cut.0;
        sorts_are = sorts_cut.0;
        fit = fits_front (turned below) operands all_fit;
        counted = sym (turned_length below) ∙ below_counted;
        most = omega (arith, e.held.most);
        values_long = e.held.values_long;
        sorts_long = e.held.sorts_long;
      }
