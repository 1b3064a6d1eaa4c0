-- The value of an operator over operands of their sorts is a value of the result's sort.
use Rattle.std.proofs.Common.{◌≡◌, ℕ, suc, ◌^◌, ◌<◌, ◌≤◌, Bool, true, false, cond, not, ◌&&◌, ◌||◌, eqb, ltb, leb, List, [], ◌∷◌, length, get_or, drop, refl, ap, arith, lit<, lit≤, eqb-true, leb-true}
use Prim.Native.String.{String}
use mathlib.Core.Option.{some}
use Rattle.forest.proofs.Options.{passed}
use Rattle.operators.specs.Operators.{Operands, one, others, three, two, width_of_one, width_of_two, Operator, no_operator, operator_at, operator_count}
use Rattle.operators.specs.Operators.{operator_sort, operator_value, operators, row, takes, wide}
use Rattle.forest.proofs.Bools.{and_right}
use Rattle.operators.specs.Sorts.{AllFit, Fit, SortRule, choice, cutting, joining, sort_by, width}
use Rattle.operators.specs.Sorts.AllFit.{no_more, also}
use Rattle.operators.specs.code.Vectors.{Word, Words}
use Rattle.operators.specs.Values.{bvashr_value, bvsdiv_value, bvsmod_value, bvsrem_value, bvurem_value, chained, concat_value, differ, extract_value, group_left}
use Rattle.operators.specs.Values.{group_right, holds, ite_value, magnitude, negative, pairwise}
use Rattle.operators.proofs.Below.{bvand_below, bvlshr_below, bvnot_below, bvor_below, bvshl_below, bvudiv_below, bvurem_below, bvxor_below, by_signs_below}
use Rattle.operators.proofs.Below.{concat_below, magnitude_word, mod_below, negated, pick_below, signs_below, truth_below}
use Rattle.operators.proofs.Results.{width_sort}
use Rattle.operators.proofs.Table.{Each, each_at, ◌and◌}
use Rattle.operators.proofs.RuledOperands.{chosen, cut, gives_bool, pair, truths, vectors, word_fits}

-- A row's value is one of the sort that its rule gives.
record Closed (r : Operator) : Type 0 where
  fits : (x : Operands) (s : ℕ) → AllFit x.sorts x.values → takes r (length x.sorts) ≡ true → sort_by r.rule x.i x.j x.sorts ≡ some s
      → Fit s (r.value x)

-- A row whose result is Bool.
boolean : {r : Operator} → gives_bool r.rule ≡ true → ((x : Operands) → r.value x < 2) → Closed r
boolean {r} b f =
    record { fits = λ x s a l h. rw (← truths r.rule b x.i x.j x.sorts h) (record { sort = lit≤ tt; value = f x }) }

-- As many sorts as values.
all_counted : {ss vs : List ℕ} → AllFit ss vs → length ss ≡ length vs
all_counted no_more = refl
all_counted (also f more) = ap suc (all_counted more)

-- A row of any number of operands from two on whose result is Bool.
grouped : {name : String} {rule : SortRule} {value : Operands → ℕ} → gives_bool rule ≡ true → ((x : Operands) → 2 ≤ length x.values → value x < 2)
    → Closed (wide name rule value)
grouped {rule = rule} b f =
    record {
      fits = λ x s a l h.
          let two = leb-true 2 (length x.sorts) l in
          rw (← truths rule b x.i x.j x.sorts h) (record { sort = lit≤ tt; value = f x (omega (arith, two, all_counted a)) });
    }

-- Numbers below 2, grouped from the left.
left_below : {f : ℕ → ℕ → ℕ} → ((a b : ℕ) → f a b < 2) → (a : ℕ) (more : List ℕ) → a < 2 → group_left f a more < 2
unfolding group_left
left_below g a [] h = h
left_below {f} g a (b ∷ more) h = left_below g (f a b) more (g a b)

-- Two or more numbers, grouped from the left.
grouped_left : {f : ℕ → ℕ → ℕ} → ((a b : ℕ) → f a b < 2) → (vs : List ℕ) → 2 ≤ length vs → group_left f (get_or vs 0 0) (drop 1 vs) < 2
unfolding group_left
grouped_left g [] h = absurd (omega arith)
grouped_left g (a ∷ []) h = absurd (omega arith)
grouped_left {f} g (a ∷ b ∷ more) h = left_below g (f a b) more (g a b)

-- From the right.
grouped_right : {f : ℕ → ℕ → ℕ} → ((a b : ℕ) → f a b < 2) → (vs : List ℕ) → 2 ≤ length vs → group_right f (get_or vs 0 0) (drop 1 vs) < 2
unfolding group_right
grouped_right g [] h = absurd (omega arith)
grouped_right g (a ∷ []) h = absurd (omega arith)
grouped_right g (a ∷ b ∷ more) h = g a _

-- A row with one vector.
unary : {name : String} {value : Operands → ℕ} → ((x : Operands) → Word (width_of_one x) (one x) → value x < 2 ^ width_of_one x) → Closed (row name 1 width value)
unary f =
    record {
      fits = λ x s a l h.
          let v = vectors width refl x.i x.j a h in
          rw (← width_sort x.i x.j x.sorts h) (word_fits v.first.width (f x v.first));
    }

-- A row with two vectors.
binary : {name : String} {value : Operands → ℕ} → ((x : Operands) → Words (width_of_one x) (one x) (two x) → value x < 2 ^ width_of_one x)
    → Closed (row name 2 width value)
binary f =
    record {
      fits = λ x s a l h.
          let v = vectors width refl x.i x.j a h in
          rw (← width_sort x.i x.j x.sorts h) (word_fits v.first.width (f x (record { first = v.first; second = v.second (eqb-true _ _ l) })));
    }

-- Of two values of a sort either is one.
either : (t : Bool) {s a b : ℕ} → Fit s a → Fit s b → Fit s (cond t a b)
either true f g = f
either false f g = g

-- `ite`
choosing : {name : String} → Closed (row name 3 choice (λ x. ite_value (one x) (two x) (three x)))
choosing = record { fits = λ x s a l h. let v = chosen x.i x.j a (eqb-true _ _ l) h in either (holds (one x)) v.second v.third }

-- `concat`
joined : {name : String} → Closed (row name 2 joining (λ x. concat_value (width_of_two x) (one x) (two x)))
joined =
    record {
      fits = λ x s a l h.
          let p = pair x.i x.j a h in
          rw (← p.result) (word_fits p.operands.together (concat_below p.operands));
    }

-- `(_ extract i j)`
extracted : {name : String} → Closed (row name 1 cutting (λ x. extract_value x.i x.j (one x)))
extracted =
    record {
      fits = λ x s a l h.
          let c = cut x.i x.j a h in
          rw (← c.result) (word_fits (record { least = omega arith; most = omega (arith, c.most) }) (mod_below _ _));
    }

-- The signed operators on two words of one width.
module _ {n a b : ℕ} (w : Words n a b) where
  bvsdiv_below : bvsdiv_value n a b < 2 ^ n
  bvsdiv_below =
      by_signs_below n a b (bvudiv_below w) (mod_below n _) (mod_below n _) (bvudiv_below (record { first = negated w.first; second = negated w.second }))

  bvsrem_below : bvsrem_value n a b < 2 ^ n
  bvsrem_below =
      by_signs_below n a b (bvurem_below w) (mod_below n _) (bvurem_below (record { first = w.first; second = negated w.second })) (mod_below n _)

  bvsmod_below : bvsmod_value n a b < 2 ^ n
  bvsmod_below =
      let rest = bvurem_below (record { first = magnitude_word w.first; second = magnitude_word w.second }) in
      pick_below (eqb (bvurem_value (magnitude n a) (magnitude n b)) 0) rest (by_signs_below n a b rest (mod_below n _) (mod_below n _) (mod_below n _))

  bvashr_below : bvashr_value n a b < 2 ^ n
  bvashr_below = pick_below (negative n a) (bvnot_below n _) (bvlshr_below n b w.first.below)

-- Every row is closed.
rows_closed : Each Closed operators
unfolding operators
rows_closed =
    boolean refl (λ x. truth_below (not (holds (one x))))
    and grouped refl (λ x h. grouped_left (λ a b. truth_below (holds a && holds b)) x.values h)
    and grouped refl (λ x h. grouped_left (λ a b. truth_below (holds a || holds b)) x.values h)
    and grouped refl (λ x h. grouped_left (λ a b. truth_below (holds a && not (holds b) || not (holds a) && holds b)) x.values h)
    and grouped refl (λ x h. grouped_right (λ a b. truth_below (not (holds a) || holds b)) x.values h)
    and grouped refl (λ x h. truth_below (chained eqb (one x) (others x)))
    and grouped refl (λ x h. truth_below (pairwise differ x.values))
    and choosing
    and unary (λ x w. bvnot_below _ _)
    and unary (λ x w. mod_below _ _)
    and binary (λ x w. bvand_below w)
    and binary (λ x w. bvor_below w)
    and binary (λ x w. bvxor_below w)
    and binary (λ x w. mod_below _ _)
    and binary (λ x w. mod_below _ _)
    and binary (λ x w. mod_below _ _)
    and binary (λ x w. bvudiv_below w)
    and binary (λ x w. bvurem_below w)
    and binary (λ x w. bvshl_below _ _ _)
    and binary (λ x w. bvlshr_below _ _ w.first.below)
    and boolean refl (λ x. truth_below (ltb (one x) (two x)))
    and joined
    and extracted
    and binary (λ x w. bvsdiv_below w)
    and binary (λ x w. bvsrem_below w)
    and binary (λ x w. bvsmod_below w)
    and binary (λ x w. bvashr_below w)
    and boolean refl (λ x. signs_below (width_of_one x) (one x) (two x) (ltb (one x) (two x)))
    and boolean refl (λ x. signs_below (width_of_one x) (one x) (two x) (leb (one x) (two x)))
    and boolean refl (λ x. signs_below (width_of_one x) (two x) (one x) (ltb (two x) (one x)))
    and boolean refl (λ x. signs_below (width_of_one x) (two x) (one x) (leb (two x) (one x)))
    and boolean refl (λ x. truth_below (leb (one x) (two x)))
    and boolean refl (λ x. truth_below (ltb (two x) (one x)))
    and boolean refl (λ x. truth_below (leb (two x) (one x)))
    and tt

-- The value of an operator over operands of their sorts is a value of the result's sort.
pub closed : (o i j : ℕ) {ss vs : List ℕ} {s : ℕ} → AllFit ss vs → operator_sort o i j ss ≡ some s → Fit s (operator_value o i j ss vs)
unfolding operator_sort operator_value operator_at
closed o i j {ss} {vs} {s} a h =
    let counts = takes (operator_at o) (length ss) in
    let p = passed (ltb o operator_count && counts) h in
    let r = each_at Closed operators no_operator rows_closed (boolean refl (λ x. lit< tt)) o in
    r.fits (record { i = i; j = j; sorts = ss; values = vs }) s a (and_right (ltb o operator_count) counts p.0) p.1
