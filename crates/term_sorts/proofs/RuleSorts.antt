-- The sorts that the rules give, by what the code compares.
use Prim.Native.Nat.{ℕ, zero, suc, ◌+◌, ◌-◌, ◌≤◌, ◌<◌}
use native.Mathlib.Omega.{arith}
use mathlib.Core.Bool.{Bool, true, false, cond, ◌&&◌, and-false, and-true}
use mathlib.Core.Path.{◌≡◌, refl, sym, ap, ◌∙◌}
use mathlib.Core.List.{List, ◌∷◌}
use borrow.Author.Tests.{le-leb, lt-leb, lt-ltb, ne_eqb}
use lib.Dec.{eqb, leb, ltb}
use lib.ListN.{get_or, length}
use Rattle.operators.specs.Sorts.{SortRule, all_are, bool, choice, cutting, equality, joining, logic, max_width, order, sort_by, vector, sort_where, width}
use Rattle.operators.specs.code.Rules.{sort_rule}
use Rattle.operators.specs.declared.rules.Rule.{Rule}
use Rattle.operators.specs.declared.rules.Rule.TheVariants.{Logic, Equality, Choice, Width, Order, Joining, Cutting}
use Rattle.terms.specs.code.Codes.{high_in, low_in}
use Rattle.terms.specs.code.Nodes.{size_at}
use Rattle.term_sorts.specs.code.Forms.{sort_number}
use Rattle.term_sorts.specs.code.Rules.{RuleGives, Ruled, least}
use Rattle.term_sorts.specs.code.Operands.{Common, SomeTrees, common_sort}
use Rattle.term_sorts.proofs.TreeWalk.{Turn, all_left, turn}

-- The number of a sort that a test gives.
pub number_of : (test : Bool) (s : ℕ) → cond test (s + 1) 0 ≡ sort_number (sort_where test s)
number_of true s = refl
number_of false s = refl

-- The same of two tests, one after the other.
number_both : (a b : Bool) (s : ℕ) → cond a (sort_number (sort_where b s)) 0 ≡ sort_number (sort_where (a && b) s)
number_both true b s = refl
number_both false b s = refl

-- Two vectors that are narrow enough together have a sort.
pub joined_fits : (a b : ℕ) {r : ℕ} → a + b ≤ max_width → r ≡ cond (vector a && vector b) (a + b + 1) 0
    → r ≡ sort_number (sort_where (vector a && vector b && leb (a + b) max_width) (a + b))
joined_fits a b h e = rw (le-leb (a + b) max_width h, and-true) (e ∙ number_of (vector a && vector b) (a + b))

-- Two vectors that are too wide together have none.
pub joined_wide : (a b : ℕ) → max_width < a + b → 0 ≡ sort_number (sort_where (vector a && vector b && leb (a + b) max_width) (a + b))
joined_wide a b h = rw (lt-leb (a + b) max_width h, and-false)

-- Whether a sort is a vector's, by its number.
over_one : (s : ℕ) → ltb 1 (s + 1) ≡ vector s
over_one zero = refl
over_one (suc s) = lt-ltb 1 (suc s + 1) (omega arith) ∙ sym (lt-ltb 0 (suc s) (omega arith))

-- The rule `logic` over operands that are all of one sort, by the number of that sort.
logic_number : (s : ℕ) (more : List ℕ) → cond (eqb (sort_number (sort_where (all_are s more) s)) 1) 1 0 ≡ sort_number (sort_where (all_are bool (s ∷ more)) bool)
logic_number zero more = go (all_are 0 more)
  where
    go : (b : Bool) → cond (eqb (sort_number (sort_where b 0)) 1) 1 0 ≡ sort_number (sort_where b 0)
    go true = refl
    go false = refl
logic_number (suc s) more = rw (ne_eqb (suc s) 0 (λ e. omega arith)) (go (all_are (suc s) more))
  where
    go : (b : Bool) → ◌≡◌ {A = ℕ} (cond (eqb (sort_number (sort_where b (suc s))) 1) 1 0) 0
    go true = rw (ne_eqb (suc s + 1) 1 (λ e. omega arith))
    go false = refl

-- The rule `equality`.
equality_number : (b : Bool) (s : ℕ) → cond (leb 1 (sort_number (sort_where b s))) 1 0 ≡ sort_number (sort_where b bool)
equality_number true s = rw (le-leb 1 (s + 1) (omega arith))
equality_number false s = refl

-- The rule `width`.
width_number : (b : Bool) (s : ℕ) → cond (ltb 1 (sort_number (sort_where b s))) (sort_number (sort_where b s)) 0 ≡ sort_number (sort_where (vector s && b) s)
width_number true s = rw (over_one s, and-true) (number_of (vector s) s)
width_number false s = rw and-false

-- The rule `order`.
order_number : (b : Bool) (s : ℕ) → cond (ltb 1 (sort_number (sort_where b s))) 1 0 ≡ sort_number (sort_where (vector s && b) bool)
order_number true s = rw (over_one s, and-true) (number_of (vector s) bool)
order_number false s = rw and-false

-- The number that a rule gives, by what the rule and the operands are.
given_by : {rule be : Rule} {ss ts : List ℕ} (i j : ℕ) → rule ≡ be → ss ≡ ts
    → sort_number (sort_by (sort_rule be) i j ts) ≡ sort_number (sort_by (sort_rule rule) i j ss)
given_by i j p q = rw (p, q)

-- Every rule asks for an operand.
least_some : (by : SortRule) → 1 ≤ least by
least_some logic = omega arith
least_some equality = omega arith
least_some choice = omega arith
least_some width = omega arith
least_some order = omega arith
least_some joining = omega arith
least_some cutting = omega arith

module _ {forms column : List ℕ} {place count : ℕ} {rule : Rule} where
  -- The first operand.
  first_operand : (e : Ruled forms column place count rule) → Turn (λ (s : ℕ). s + 1) forms column place count (λ (rest : List ℕ). e.trees.sorts ≡ rest)
  first_operand e = turn (all_left e.trees refl) (omega (arith, least_some (sort_rule rule), e.enough))

  -- It has a sort.
  pub first_there : Ruled forms column place count rule → 1 ≤ get_or column place 0
  first_there e = omega (arith, (first_operand e).number_is)

  -- It ends within the column.
  pub first_room : Ruled forms column place count rule → place + size_at forms place ≤ length column
  first_room e = (first_operand e).room

  -- There is at least one.
  pub all_operands : Ruled forms column place count rule → SomeTrees forms column place count
  all_operands e = record { trees = e.trees; any = omega (arith, least_some (sort_rule rule), e.enough) }

  module _ {size : ℕ} (size_is : size ≡ size_at forms place) (be : Rule) (two : least (sort_rule be) ≡ 2) (is : rule ≡ be) where
    -- There are two where the rule asks for two.
    two_enough : Ruled forms column place count rule → 2 ≤ count
    two_enough e = let z : least (sort_rule rule) ≡ 2 = rw is two in omega (arith, e.enough)

    -- Those that follow the first operand.
    pub other_operands : Ruled forms column place count rule → SomeTrees forms column (place + size) (count - 1)
    other_operands e =
        let t = first_operand e in
        record { trees = record { sorts = t.more; stand = rw size_is t.stand; counted = t.counted }; any = omega (arith, two_enough e) }

    -- The second operand.
    second_operand : (e : Ruled forms column place count rule)
        → Turn (λ (s : ℕ). s + 1) forms column (place + size) (count - 1) (λ (rest : List ℕ). (other_operands e).trees.sorts ≡ rest)
    second_operand e = turn (all_left (other_operands e).trees refl) (other_operands e).any

    -- It has a sort.
    pub second_there : Ruled forms column place count rule → 1 ≤ get_or column (place + size) 0
    second_there e = omega (arith, (second_operand e).number_is)

  module _ (value : ℕ) {found : ℕ} (found_is : found ≡ get_or column place 0) where
    -- The sort of `(_ extract i j)`.
    pub cutting_gives : {high low r : ℕ} → rule ≡ Cutting → high ≡ high_in value → low ≡ low_in value
        → r ≡ sort_number (sort_where (leb low high && ltb high (found - 1)) (high - low + 1)) → RuleGives forms column place count rule value r
    unfolding sort_by
    cutting_gives {high} {low} {r} is is-high is-low w e =
        let t = first_operand e in
        let first : found - 1 ≡ t.first = omega (arith, found_is, t.number_is) in
        (rw (first, is-high, is-low) at w) ∙ given_by (high_in value) (low_in value) is t.owed

    module _ {size : ℕ} (size_is : size ≡ size_at forms place) where
      -- The first two operands.
      first_two : (be : Rule) (two : least (sort_rule be) ≡ 2) (is : rule ≡ be) (e : Ruled forms column place count rule)
          → e.trees.sorts ≡ (first_operand e).first ∷ (second_operand size_is be two is e).first ∷ (second_operand size_is be two is e).more
      unfolding other_operands
      first_two be two is e = (first_operand e).owed ∙ ap (λ (x : List ℕ). (first_operand e).first ∷ x) (second_operand size_is be two is e).owed

      -- The sort of `concat`.
      pub joining_gives : {second r : ℕ} → rule ≡ Joining → second ≡ get_or column (place + size) 0
          → r ≡ sort_number (sort_where (vector (found - 1) && vector (second - 1) && leb (found - 1 + (second - 1)) max_width) (found - 1 + (second - 1)))
          → RuleGives forms column place count rule value r
      unfolding sort_by
      joining_gives {second} is q w e =
          let t = first_operand e in
          let u = second_operand size_is Joining refl is e in
          let one : found - 1 ≡ t.first = omega (arith, found_is, t.number_is) in
          let two : second - 1 ≡ u.first = omega (arith, q, u.number_is) in
          (rw (one, two) at w) ∙ given_by (high_in value) (low_in value) is (first_two Joining refl is e)

      -- The sort of `ite`.
      pub choice_gives : {common r : ℕ} → rule ≡ Choice → Common forms column (place + size) (count - 1) common → r ≡ cond (eqb (found - 1) 0) common 0
          → RuleGives forms column place count rule value r
      unfolding sort_by common_sort
      choice_gives {common} {r} is q w e =
          let t = first_operand e in
          let u = second_operand size_is Choice refl is e in
          let one : found - 1 ≡ t.first = omega (arith, found_is, t.number_is) in
          let same : common ≡ sort_number (common_sort (u.first ∷ u.more)) =
          q (other_operands size_is Choice refl is e) ∙ ap (λ (x : List ℕ). sort_number (common_sort x)) u.owed
          in
          (rw (one, same) at w) ∙ number_both (eqb t.first 0) (all_are u.first u.more) u.first
          ∙ given_by (high_in value) (low_in value) is (first_two Choice refl is e)

  module _ (value : ℕ) {common r : ℕ} (common-is : Common forms column place count common) where
    -- A rule over operands that are all of one sort.
    same_gives : (be : Rule) (number : ℕ → ℕ)
        → ((s : ℕ) (more : List ℕ) → number (sort_number (common_sort (s ∷ more))) ≡ sort_number (sort_by (sort_rule be) (high_in value) (low_in value) (s ∷ more)))
        → r ≡ number common → (e : Ruled forms column place count rule) → rule ≡ be
        → r ≡ sort_number (sort_by (sort_rule rule) (high_in value) (low_in value) e.trees.sorts)
    unfolding all_operands
    same_gives be number law w e is =
        let t = first_operand e in
        w ∙ ap number (common-is (all_operands e) ∙ ap (λ (x : List ℕ). sort_number (common_sort x)) t.owed)
        ∙ law t.first t.more
        ∙ given_by (high_in value) (low_in value) is t.owed

    -- The sort by the rule `logic`.
    pub logic_gives : rule ≡ Logic → r ≡ cond (eqb common 1) 1 0 → RuleGives forms column place count rule value r
    unfolding common_sort sort_by
    logic_gives is w e = same_gives Logic (λ (n : ℕ). cond (eqb n 1) 1 0) logic_number w e is

    -- The sort by the rule `equality`.
    pub equality_gives : rule ≡ Equality → r ≡ cond (leb 1 common) 1 0 → RuleGives forms column place count rule value r
    unfolding common_sort sort_by
    equality_gives is w e = same_gives Equality (λ (n : ℕ). cond (leb 1 n) 1 0) (λ s more. equality_number (all_are s more) s) w e is

    -- The sort by the rule `width`.
    pub width_gives : rule ≡ Width → r ≡ cond (ltb 1 common) common 0 → RuleGives forms column place count rule value r
    unfolding common_sort sort_by
    width_gives is w e = same_gives Width (λ (n : ℕ). cond (ltb 1 n) n 0) (λ s more. width_number (all_are s more) s) w e is

    -- The sort by the rule `order`.
    pub order_gives : rule ≡ Order → r ≡ cond (ltb 1 common) 1 0 → RuleGives forms column place count rule value r
    unfolding common_sort sort_by
    order_gives is w e = same_gives Order (λ (n : ℕ). cond (ltb 1 n) 1 0) (λ s more. order_number (all_are s more) s) w e is
