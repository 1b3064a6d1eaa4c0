-- The sort of the tree at a node, by the column of sorts, and the first word of the tree.
use Prim.Native.Nat.{ℕ, ◌+◌, ◌-◌, ◌≤◌, ◌<◌}
use native.Mathlib.Omega.{arith}
use mathlib.Core.Path.{◌≡◌, refl, sym, ap, ◌∙◌}
use mathlib.Core.Bool.{Bool, true, false, cond}
use mathlib.Core.List.{List, [], ◌++◌}
use mathlib.Core.Option.{Option, none as nothing, some}
use borrow.Author.Tests.{eq-eqb, eqb-false, eqb-true, ne_eqb}
use lib.Dec.{eqb}
use lib.ListN.{get_or, length, length-append}
use lib.Seq.{drop-append_seam}
use Rattle.forest.specs.Forest.{none, tree}
use Rattle.forest.specs.Tables.{over}
use Rattle.forest.proofs.Laws.{inside}
use Rattle.terms.specs.Sorts.{with_sort}
use Rattle.term_sorts.specs.Forms.{form_sorts, tree_sort}
use Rattle.term_sorts.specs.code.Forms.{sort_column, sort_number}
use Rattle.term_sorts.proofs.Columns.{column_at, column_length}
use Rattle.lexemes.specs.code.Codes.{weight_code}
use Rattle.lexemes.specs.code.Table.{code_at, next_at}
use Rattle.term_nodes.specs.code.Table.{first_at}
use Rattle.names.specs.Scopes.{forms_of, item_or, means}
use Rattle.term_faults.specs.Faults.{one_sort, raw_sorts, scope_of}
use Rattle.term_faults.specs.code.Roots.{RootAt, RootFits, SideFits, rule_first}
use Rattle.term_faults.proofs.Agreeing.{first-word}
use Rattle.term_faults.proofs.Forms.{form_at, size_form}

-- Two numbers are equal just when they are one further on.
one_on : (a b : ℕ) → eqb a b ≡ eqb (a + 1) (b + 1)
one_on a b = go (eqb a b) refl
  where
    go : (same : Bool) → eqb a b ≡ same → same ≡ eqb (a + 1) (b + 1)
    go true e = sym (eq-eqb (a + 1) (b + 1) (ap (λ (n : ℕ). n + 1) (eqb-true a b e)))
    go false e = let other = eqb-false a b e in sym (ne_eqb (a + 1) (b + 1) (λ z. other (omega arith)))

-- Whether a tree by itself has a sort, by the number of its sort.
one-sort : (t : Option ℕ) (s : ℕ) → one_sort (with_sort t (some [])) s ≡ eqb (sort_number t) (s + 1)
unfolding with_sort
one-sort nothing s = sym (ne_eqb 0 (s + 1) (λ e. omega arith))
one-sort (some u) s = one_on u s

module _ {raw column : List ℕ} {node sort : ℕ} where
  -- The node has a number in the column.
  pub root_within : RootAt raw column node sort → node < length column
  root_within p =
      let low = inside p.F node (record { l = p.root; ops = p.operands; rest = p.later; is = p.here }) in
      let long = ap length p.is_column ∙ length-append (sort_column (scope_of p.view) (forms_of p.view p.F)) p.more in
      omega (arith, column_length (scope_of p.view) (forms_of p.view p.F), size_form p.view p.F)

  -- It is the number of the sort of the node's tree.
  root_number : (p : RootAt raw column node sort)
      → get_or column node 0 ≡ sort_number (tree_sort (scope_of p.view) (item_or (means p.view p.root)) (raw_sorts p.view p.operands))
  root_number p =
      let front = sort_column (scope_of p.view) (forms_of p.view p.F) in
      let written : over front (front ++ p.more) ≡ front ++ p.more = ap (λ (l : List ℕ). front ++ l) (drop-append_seam front p.more) in
      ap (λ (l : List ℕ). get_or l node 0) (p.is_column ∙ sym written)
      ∙ column_at (scope_of p.view) (forms_of p.view p.F) (front ++ p.more) node _ _ _
      (form_at p.view p.F node p.root p.operands p.later p.here)

  -- So it tells whether the tree has the sort.
  root_test : (p : RootAt raw column node sort) → one_sort (raw_sorts p.view (tree p.root p.operands none)) sort ≡ eqb (get_or column node 0) (sort + 1)
  unfolding forms_of form_sorts
  root_test p = one-sort _ sort ∙ ap (λ (n : ℕ). eqb n (sort + 1)) (sym (root_number p))

  -- The tree has the sort.
  pub root_fits : (nowhere : ℕ) → get_or column node 0 ≡ sort + 1 → (p : RootAt raw column node sort) → RootFits p nowhere nowhere
  root_fits nowhere e p = rw (root_test p ∙ eq-eqb _ _ e)

  -- The tree has another sort, or none.
  pub root_misfits : (nowhere : ℕ) {r : ℕ} → (get_or column node 0 ≡ sort + 1 → ⊥) → r ≡ first_at raw node → (p : RootAt raw column node sort)
      → RootFits p nowhere r
  root_misfits nowhere e q p =
      rw (root_test p ∙ ne_eqb (get_or column node 0) (sort + 1) e)
      (q ∙ first-word p.F p.rest p.is_raw node p.root p.operands p.later p.here)

  -- The same of the right side of a rule.
  module _ (lexemes : List ℕ) (nowhere : ℕ) where
    pub side_fits : get_or column node 0 ≡ sort + 1 → (p : RootAt raw column node sort) → SideFits lexemes p nowhere nowhere
    side_fits e p = rw (root_test p ∙ eq-eqb _ _ e)

    pub side_misfits : (get_or column node 0 ≡ sort + 1 → ⊥) → {w : ℕ} → w ≡ first_at raw node → {r : ℕ} → r ≡ rule_first lexemes w
        → (p : RootAt raw column node sort) → SideFits lexemes p nowhere r
    side_misfits e q known p =
        rw (root_test p ∙ ne_eqb (get_or column node 0) (sort + 1) e)
        (known ∙ ap (rule_first lexemes) (q ∙ first-word p.F p.rest p.is_raw node p.root p.operands p.later p.here))

-- The first word of a rule, by the word behind its right side.
module _ (lexemes : List ℕ) (w : ℕ) {behind : ℕ} (eb : behind ≡ next_at lexemes w) {code : ℕ} (ec : code ≡ code_at lexemes behind) where
  pub first_plain : (code ≡ weight_code → ⊥) → w ≡ rule_first lexemes w
  unfolding rule_first
  first_plain other = rw (← eb, ← ec, ne_eqb code weight_code other)

  module _ (is : code ≡ weight_code) where
    pub first_none : w < 2 → 0 ≡ rule_first lexemes w
    unfolding rule_first
    first_none h = let z : w - 2 ≡ 0 = omega arith in rw (← eb, ← ec, eq-eqb code weight_code is, z)

    pub first_annotated : w - 2 ≡ rule_first lexemes w
    unfolding rule_first
    first_annotated = rw (← eb, ← ec, eq-eqb code weight_code is)

-- The first word of a rule is not behind that of its right side.
pub first_low : (lexemes : List ℕ) (w : ℕ) → rule_first lexemes w ≤ w
unfolding rule_first
first_low lexemes w = go (eqb (code_at lexemes (next_at lexemes w)) weight_code)
  where
    go : (b : Bool) → cond b (w - 2) w ≤ w
    go true = omega arith
    go false = omega arith
