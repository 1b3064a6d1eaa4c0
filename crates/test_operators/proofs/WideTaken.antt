-- More than two operands of one sort are such as the operators take that may have more.
use Rattle.std.proofs.Common.{◌≡◌, ℕ, zero, suc, ◌<◌, ◌≤◌, Bool, true, false, cond, ◌&&◌, leb, List, [], ◌∷◌, take, replicate, sym, refl, ◌∙◌, arith, lt-ltb, eq-eqb, le-leb, leb-true}
use mathlib.Core.Option.{some}
use lib.ListN.{get_or-replicate, length-replicate}
use Rattle.operators.specs.Operators.{Operator, operator_at, operator_count, operator_sort, operators, takes}
use Rattle.operators.specs.Sorts.{AllFit, Fit, SortRule, all_are, bool, choice, cutting, equality, joining, logic, order, sort_by, width}
use Rattle.operators.specs.Sorts.AllFit.{no_more, also}
use Rattle.operators.specs.code.Operators.{Operable}
use Rattle.operators.specs.code.Rules.{sort_rule}
use Rattle.operators.specs.declared.rules.Rule.{Rule}
use Rattle.operators.specs.declared.rules.Rule.TheVariants.{Logic, Equality, Choice, Width, Order, Joining, Cutting}
use Rattle.std.proofs.lemmas.Bool.{false≢true}
use Rattle.operators.specs.code.Vectors.{Width as IsWidth}
use Rattle.operators.proofs.RuledOperands.{both}
use Rattle.operators.proofs.Table.{column}
use Rattle.test_operators.specs.Wide.{Wide, most_operands}

-- Whether a rule is `logic` or `equality`.
abbrev uniform : SortRule → Bool
uniform logic = true
uniform equality = true
uniform choice = false
uniform width = false
uniform order = false
uniform joining = false
uniform cutting = false

-- What holds of a row that takes as many operands as the program makes.
wide_row : Operator → Bool
wide_row r = cond (takes r most_operands) (uniform r.rule && (r.many && leb r.operands 3)) true

-- Of those two, which is left beside the first.
other_uniform : (rule : Rule) → uniform (sort_rule rule) ≡ true → (rule ≡ Logic → ⊥) → sort_rule rule ≡ equality
other_uniform Logic u p = absurd (p refl)
other_uniform Equality u p = refl
other_uniform Choice u p = absurd (false≢true u)
other_uniform Width u p = absurd (false≢true u)
other_uniform Order u p = absurd (false≢true u)
other_uniform Joining u p = absurd (false≢true u)
other_uniform Cutting u p = absurd (false≢true u)

module _ {operator : ℕ} (known : operator < operator_count) (taken : takes (operator_at operator) most_operands ≡ true) where
  -- It holds of every row.
  all_wide : uniform (operator_at operator).rule && ((operator_at operator).many && leb (operator_at operator).operands 3) ≡ true
  unfolding operators wide_row
  all_wide = rw taken at (sym (column wide_row operator) ∙ get_or-replicate operator_count operator true true known)

  -- An operator that takes as many takes fewer.
  fewer : {count : ℕ} → 3 ≤ count → takes (operator_at operator) count ≡ true
  fewer {count} h =
      let w = (both (uniform (operator_at operator).rule) _ all_wide).1 in
      let m = both (operator_at operator).many _ w in
      let few = leb-true (operator_at operator).operands 3 m.1 in
      rw (m.0, le-leb (operator_at operator).operands count (omega arith))

  -- Operands of `and` to `=>` are Bools.
  pub wide_logic : logic ≡ (operator_at operator).rule → Wide operator 0
  unfolding sort_by
  wide_logic e =
      let r = sym e in
      record { known = known; taken = taken; within = omega arith; sorted = λ more h. rw (r, h) }

  -- Those of `=` and `distinct` have any sort.
  pub wide_equality : {n : ℕ} {rule : Rule} → sort_rule rule ≡ (operator_at operator).rule → (rule ≡ Logic → ⊥) → IsWidth n → Wide operator n
  unfolding sort_by
  wide_equality {rule = rule} e p w =
      let u : uniform (sort_rule rule) ≡ true = rw e (both (uniform (operator_at operator).rule) _ all_wide).0 in
      let r : (operator_at operator).rule ≡ equality = sym e ∙ other_uniform rule u p in
      record { known = known; taken = taken; within = w.most; sorted = λ more h. rw (r, h) }

-- Sorts that are all the same.
all_are_lem : (n s : ℕ) → all_are s (replicate n s) ≡ true
all_are_lem zero s = refl
all_are_lem (suc n) s = rw (eq-eqb s s refl) (all_are_lem n s)

-- Some of the values of one sort.
fit_some : (s n m : ℕ) {vs : List ℕ} → n ≤ m → AllFit (replicate m s) vs → AllFit (replicate n s) (take n vs)
fit_some s zero m h f = no_more
fit_some s (suc n) zero h f = absurd (omega arith)
fit_some s (suc n) (suc m) h (also f more) = also f (fit_some s n m (omega arith) more)

module _ {operator s : ℕ} (w : Wide operator s) where
  -- The sort that the operator gives them.
  several_sorted : (count : ℕ) → 3 ≤ count → operator_sort operator 0 0 (replicate count s) ≡ some bool
  unfolding operator_sort
  several_sorted zero h = absurd (omega arith)
  several_sorted (suc n) h =
      rw (lt-ltb operator operator_count w.known, length-replicate n s, fewer w.known w.taken h) (w.sorted (replicate n s) (all_are_lem n s))

  -- The first of six values of the sort are operands.
  pub several_taken : {count a b c d e f : ℕ} → 3 ≤ count → count ≤ most_operands → Fit s a → Fit s b → Fit s c → Fit s d → Fit s e → Fit s f
      → Operable operator 0 0 s s (take count (a ∷ b ∷ c ∷ d ∷ e ∷ f ∷ []))
  several_taken {count} l h fa fb fc fd fe ff =
      record {
        sorts = replicate count s;
        result = bool;
        sorted = several_sorted count l;
        fit = fit_some s count most_operands h (also fa (also fb (also fc (also fd (also fe (also ff no_more))))));
        width_one = sym (get_or-replicate count 0 s 0 (omega arith));
        width_two = sym (get_or-replicate count 1 s 0 (omega arith));
      }
