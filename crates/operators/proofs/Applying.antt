-- What `apply` asks of the functions that it calls, and what it gives, at any row of the table.
use Rattle.std.proofs.Common.{◌≡◌, ℕ, zero, suc, ◌+◌, ◌-◌, ◌<◌, ◌≤◌, Bool, true, false, not, ◌&&◌, ◌||◌, eqb, ltb, leb, List, [], ◌∷◌, length, get_or, drop, sym, refl, ap, ◌∙◌, subst, arith, get_or-drop, ltb-false, ltb-true, ne_eqb, eqb-true, leb-false, leb-true}
use mathlib.Core.Option.{some}
use borrow.Author.Tests.{lt-leb, not-true}
use Rattle.forest.proofs.Bools.{and_right, apart, each, or_other}
use Rattle.forest.proofs.Options.{passed}
use Rattle.operators.specs.Operators.{Operands, Operator, no_operator, operator_at, operator_count, operator_sort, operator_value, operators, takes}
use Rattle.operators.specs.Sorts.{cutting, joining, max_width, sort_by}
use Rattle.operators.proofs.RuledOperands.{asks_width, both, cut, pair, vectors}
use Rattle.operators.specs.code.Operators.{Applied, FixedApplied, FixedOperable, LaterApplied, LaterOperable, Operable, extract_number}
use Rattle.operators.specs.code.Vectors.{Joined, Width, Word, Words}
use Rattle.operators.proofs.Table.{Each, each_at, past, ◌and◌}

-- The operands as `apply` has them: two widths and the values.
abbrev pub given : (high low first second : ℕ) (values : List ℕ) → Operands
given high low first second values = record { i = high; j = low; sorts = first ∷ second ∷ []; values = values }

-- The operands as `fixed_value` has them: two widths and three values.
abbrev pub given_three : (high low first second one two three : ℕ) → Operands
given_three high low first second one two three = given high low first second (one ∷ two ∷ three ∷ [])

-- The same of operands of any number.
abbrev pub firsts : Operands → Operands
firsts x = given_three x.i x.j (get_or x.sorts 0 0) (get_or x.sorts 1 0) (get_or x.values 0 0) (get_or x.values 1 0) (get_or x.values 2 0)

-- The operands with the sorts of the first two alone.
abbrev pub two_sorts : Operands → Operands
two_sorts x = given x.i x.j (get_or x.sorts 0 0) (get_or x.sorts 1 0) x.values

-- A row that has a fixed number of operands.
fixed_count : (r : Operator) (n : ℕ) → r.many ≡ false → takes r n ≡ true → n ≡ r.operands
fixed_count r n f h = eqb-true n r.operands (rw f at h)

module _ {operator high low first second one two three k : ℕ} (at : operator ≡ k) (e : FixedOperable operator high low first second one two three) where
  -- The row takes as many operands as there are, and its rule gives their sort.
  taken : (takes (operator_at k) (length e.sorts) ≡ true) × (sort_by (operator_at k).rule high low e.sorts ≡ some e.result)
  unfolding operator_sort
  taken =
      let counts = takes (operator_at k) (length e.sorts) in
      let p = passed (ltb k operator_count && counts) (rw at at e.sorted) in
      (and_right (ltb k operator_count) counts p.0, p.1)

  -- The first operand of a row whose rule asks for operands of one width.
  pub a_word : asks_width (operator_at k).rule ≡ true → Word first one
  a_word q = rw (e.width_one, e.is_one) (vectors (operator_at k).rule q high low e.fit taken.1).first

  -- Its width.
  pub a_width : asks_width (operator_at k).rule ≡ true → Width first
  a_width q = (a_word q).width

  -- Both operands of such a row.
  pub two_words : asks_width (operator_at k).rule ≡ true → (operator_at k).operands ≡ 2 → Words first one two
  two_words q l =
      let counted : length e.sorts ≡ 2 = fixed_count (operator_at k) _ (rw at at e.fixed) taken.0 ∙ l in
      record { first = a_word q; second = rw (e.width_one, e.is_two) ((vectors (operator_at k).rule q high low e.fit taken.1).second counted) }

  -- The operands of a row with the rule `joining`.
  pub a_pair : (operator_at k).rule ≡ joining → Joined first second one two
  a_pair q = rw (e.width_one, e.width_two, e.is_one, e.is_two) (pair high low e.fit (rw q at taken.1)).operands

  -- The numbers of a row with the rule `cutting`.
  pub a_cut : (operator_at k).rule ≡ cutting → (low ≤ high) × (high < max_width)
  a_cut q = let h = cut high low e.fit (rw q at taken.1) in (h.order, h.most)

-- A row's value is the operator's value, where the row looks at no more of the operands than `fixed_value` has.
pub fixed_applied : {operator high low first second one two three k r : ℕ} → operator ≡ k
    → ((x : Operands) → (operator_at k).value (firsts x) ≡ (operator_at k).value x)
    → r ≡ (operator_at k).value (given_three high low first second one two three) → FixedApplied operator high low first second one two three r
unfolding operator_value
fixed_applied {high = high} {low = low} at f h e =
    rw (at, h, e.width_one, e.width_two, e.is_one, e.is_two, e.is_three)
    (f (record { i = high; j = low; sorts = e.sorts; values = e.values }))

-- A row's value is the operator's value, where the row looks at no more of the sorts than `apply` has.
pub applied : {operator high low first second k r : ℕ} {values : List ℕ} → operator ≡ k
    → ((x : Operands) → (operator_at k).value (two_sorts x) ≡ (operator_at k).value x)
    → r ≡ (operator_at k).value (given high low first second values) → Applied operator high low first second values r
unfolding operator_value
applied {high = high} {low = low} {values = values} at f h e =
    rw (at, h, e.width_one, e.width_two) (f (record { i = high; j = low; sorts = e.sorts; values = values }))

-- B, and o is none of the n numbers from `start` on.
abbrev pub NoneOf : (B : Type 0) (start n o : ℕ) → Type 0
NoneOf B start zero o = B
NoneOf B start (suc n) o = NoneOf B start n o × (o ≡ start + n → ⊥)

-- So it is past them, if it is not before them.
none_of : (B : Type 0) (start n o : ℕ) → NoneOf B start n o → start ≤ o → start + n ≤ o
none_of B start zero o h l = omega arith
none_of B start (suc n) o h l = let g = none_of B start n o h.0 l in omega (arith, g, h.1)

-- And B.
besides : (B : Type 0) (start n o : ℕ) → NoneOf B start n o → B
besides B start zero o h = h
besides B start (suc n) o h = besides B start n o h.0

-- Operators 1 to 6 take any number of operands from two on.
wide_rows : (o : ℕ) → 1 ≤ o → o ≤ 6 → (operator_at o).many ≡ true
unfolding operator_at operators
wide_rows o l h =
    or_other (eqb o 0) (operator_at o).many (ne_eqb o 0 (λ z. omega arith)) (each 7 (λ (k : ℕ). eqb k 0 || (operator_at k).many) tt o (omega arith))

-- The others have a fixed number.
fixed_rows : (o : ℕ) → (1 ≤ o → 7 ≤ o) → (operator_at o).many ≡ false
unfolding operator_at operators
fixed_rows o f = by_case (ltb o operator_count) refl
  where
    outside : (t : Bool) → leb 1 o ≡ t → (t && leb o 6) ≡ false
    outside true e = lt-leb o 6 (omega (arith, f (leb-true 1 o e)))
    outside false e = refl

    by_case : (known : Bool) → ltb o operator_count ≡ known → (operator_at o).many ≡ false
    by_case true k =
        let row = each operator_count (λ (n : ℕ). leb 1 n && leb n 6 || not (operator_at n).many) tt o (ltb-true o operator_count k) in
        not-true (operator_at o).many (or_other (leb 1 o && leb o 6) (not (operator_at o).many) (outside (leb 1 o) refl) row)
    by_case false k = sym (past (λ (r : Operator). r.many) (ltb-false o operator_count k))

-- So has an operator that is none of 1 to 6.
pub fixed_row : (o : ℕ) → NoneOf Unit 1 6 o → (operator_at o).many ≡ false
fixed_row o h = fixed_rows o (none_of Unit 1 6 o h)

-- An operator that has a fixed number of operands and is none of 0 and 7 to 22 stands behind `extract`.
pub fixed_rest : {o : ℕ} → (operator_at o).many ≡ false → NoneOf (Unit × (o ≡ 0 → ⊥)) 7 16 o → extract_number < o
fixed_rest {o} f h = none_of (Unit × (o ≡ 0 → ⊥)) 7 16 o h (by_case (leb o 6) refl)
  where
    by_case : (t : Bool) → leb o 6 ≡ t → 7 ≤ o
    by_case true e = apart (sym f ∙ wide_rows o (omega (arith, (besides (Unit × (o ≡ 0 → ⊥)) 7 16 o h).1)) (leb-true o 6 e))
    by_case false e = leb-false o 6 e

-- An operator behind `extract` has two operands of one width.
later_rows : {o : ℕ} → extract_number < o → o < operator_count → (asks_width (operator_at o).rule ≡ true) × ((operator_at o).operands ≡ 2)
unfolding operator_at operators
later_rows {o} l h =
    let row = each operator_count (λ (k : ℕ). leb k extract_number || asks_width (operator_at k).rule && eqb (operator_at k).operands 2) tt o h in
    let p = both (asks_width (operator_at o).rule) (eqb (operator_at o).operands 2) (or_other (leb o extract_number) _ (lt-leb o extract_number l) row) in
    (p.0, eqb-true (operator_at o).operands 2 p.1)

-- The two words that an operator behind `extract` is given.
abbrev pub later_given : (width one two : ℕ) → Operands
later_given width one two = record { i = 0; j = 0; sorts = width ∷ []; values = one ∷ two ∷ [] }

-- A row's value over two words is the operator's.
pub later_applied : (width one two : ℕ) {operator k r : ℕ} → operator ≡ k → r ≡ (operator_at k).value (later_given width one two)
    → LaterApplied operator width one two r
unfolding operator_value
later_applied width one two at h = rw at h

-- Past the last operator the value is 0.
pub later_past : {operator : ℕ} (width one two : ℕ) → extract_number < operator → NoneOf Unit 23 11 operator → LaterApplied operator width one two 0
unfolding operator_value
later_past {operator} width one two l h = past (λ (r : Operator). r.value (later_given width one two)) (none_of Unit 23 11 operator h l)

-- A row that looks at the first width and the first two values alone.
abbrev LooksAtWords : Operator → Type 0
LooksAtWords r = (x : Operands) → r.value (later_given (get_or x.sorts 0 0) (get_or x.values 0 0) (get_or x.values 1 0)) ≡ r.value x

-- So do those behind `extract`.
later_look : {o : ℕ} → extract_number < o → LooksAtWords (operator_at o)
unfolding operator_at operators
later_look {o} l =
    let k : 23 + (o - 23) ≡ o = omega arith in
    let e = get_or-drop 23 operators (o - 23) no_operator ∙ ap (λ (k : ℕ). get_or operators k no_operator) k in
    subst LooksAtWords e (each_at LooksAtWords (drop 23 operators) no_operator looks (λ x. refl) (o - 23))
  where
    looks : Each LooksAtWords (drop 23 operators)
    looks =
        (λ x. refl)
        and (λ x. refl)
        and (λ x. refl)
        and (λ x. refl)
        and (λ x. refl)
        and (λ x. refl)
        and (λ x. refl)
        and (λ x. refl)
        and (λ x. refl)
        and (λ x. refl)
        and (λ x. refl)
        and tt

module _ {operator high low first second one two three : ℕ} (rest : NoneOf (Unit × (operator ≡ 0 → ⊥)) 7 16 operator)
    (e : FixedOperable operator high low first second one two three) where
  -- `later_value` takes the operands of an operator that is none of `fixed_value`'s.
  pub later_operable : LaterOperable operator first one two
  unfolding operator_sort
  later_operable =
      let counts = takes (operator_at operator) (length e.sorts) in
      let tested = (passed (ltb operator operator_count && counts) e.sorted).0 in
      let known = ltb-true operator operator_count (both (ltb operator operator_count) counts tested).0 in
      let l = fixed_rest e.fixed rest in
      let row = later_rows l known in
      record { later = l; words = two_words refl e row.0 row.1 }

  -- Its value is the operator's.
  pub later_gives : {r : ℕ} → LaterApplied operator first one two r → r ≡ operator_value operator high low e.sorts e.values
  unfolding operator_value
  later_gives h =
      h
      ∙ rw (e.width_one, e.is_one, e.is_two)
      (later_look (fixed_rest e.fixed rest) (record { i = high; j = low; sorts = e.sorts; values = e.values }))

-- An operator that is none of 1 to 6, over the first three operands.
module _ {operator high low first second one two three : ℕ} {values : List ℕ} (others : NoneOf Unit 1 6 operator) (is_one : one ≡ get_or values 0 0)
    (is_two : two ≡ get_or values 1 0) (is_three : three ≡ get_or values 2 0) where
  -- `fixed_value` takes them.
  abbrev pub fixed_operable : Operable operator high low first second values → FixedOperable operator high low first second one two three
  fixed_operable e =
      record {
        fixed = fixed_row operator others;
        sorts = e.sorts;
        values = values;
        result = e.result;
        sorted = e.sorted;
        fit = e.fit;
        width_one = e.width_one;
        width_two = e.width_two;
        is_one = is_one;
        is_two = is_two;
        is_three = is_three;
      }

  -- Its value is the operator's.
  pub fixed_gives : {r : ℕ} → FixedApplied operator high low first second one two three r → Applied operator high low first second values r
  fixed_gives g e = g (fixed_operable e)
