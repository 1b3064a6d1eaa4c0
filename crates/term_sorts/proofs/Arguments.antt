-- Whether trees have the sorts of a function's arguments, tree by tree.
use Prim.Native.Nat.{ℕ, suc, ◌+◌, ◌-◌, ◌≤◌, ◌<◌}
use native.Mathlib.Omega.{arith}
use mathlib.Core.Bool.{Bool, true, false, cond, and-false}
use mathlib.Core.Path.{◌≡◌, refl, sym, ap, ◌∙◌}
use mathlib.Core.List.{List, [], ◌∷◌}
use borrow.Author.Tests.{eq-eqb, ne_eqb}
use lib.ListN.{drop, drop_of_length-le, get_or, length}
use Rattle.forest.proofs.Lists.{drop_next}
use Rattle.forest.specs.code.Rows.{number_at}
use Rattle.terms.specs.code.Nodes.{size_at}
use Rattle.terms.specs.Sorts.{same_sorts}
use Rattle.term_sorts.specs.code.Calls.{ArgumentsFit, Called, CalledFully, CalledGives}
use Rattle.term_sorts.specs.code.Signatures.{signature_width}
use Rattle.term_sorts.proofs.RuleSorts.{number_of}
use Rattle.term_sorts.proofs.TreeWalk.{Left, none_left, rest_left, turn}

-- Sorts of which the first differs are not the same.
first_differs : (s t : ℕ) (ss ts later : List ℕ) → ts ≡ t ∷ later → (s ≡ t → ⊥) → same_sorts (s ∷ ss) ts ≡ false
unfolding same_sorts
first_differs s t ss ts later e n = rw (e, ne_eqb s t n)

-- Sorts of which the first agrees are the same where those that follow are.
first_agrees : (s t : ℕ) (ss ts later : List ℕ) → ts ≡ t ∷ later → s ≡ t → same_sorts (s ∷ ss) ts ≡ same_sorts ss later
unfolding same_sorts
first_agrees s t ss ts later e n = rw (e, eq-eqb s t n)

-- The trees from node `here` on are to be held against the arguments from number k on.
pub record Fitting (forms signatures column : List ℕ) (place count row here k : ℕ) : Type 0 where
  pub low : k ≤ count
  pub owes : (e : CalledFully forms signatures column place count row)
      → Left (λ (s : ℕ). s + 1) forms column here (count - k)
      (λ (rest : List ℕ). same_sorts e.called.trees.sorts e.called.by.arguments ≡ same_sorts rest (drop k e.called.by.arguments))

module _ {forms signatures column : List ℕ} {place count row : ℕ} where
  module _ {here k : ℕ} (f : Fitting forms signatures column place count row here k) (h : k < count) where
    module _ (e : CalledFully forms signatures column place count row) where
      -- The next tree ends within the column.
      pub fitting_room : here + size_at forms here ≤ length column
      fitting_room = (turn (f.owes e) (omega arith)).room

      -- The next tree has a sort.
      pub fitting_some : 1 ≤ get_or column here 0
      fitting_some = let t = turn (f.owes e) (omega arith) in omega (arith, t.number_is)

      -- The first of the arguments that are left.
      next_argument : {argument : ℕ} → argument ≡ number_at signature_width signatures row (2 + k)
          → drop k e.called.by.arguments ≡ argument ∷ drop (k + 1) e.called.by.arguments
      next_argument q =
          let l : k < length e.called.by.arguments = omega (arith, e.full) in
          drop_next e.called.by.arguments k l ∙ rw (q, e.called.row_is.arguments_are k l)

    -- The next tree has not the sort of the next argument.
    pub fitting_fails : {found argument : ℕ} → found ≡ get_or column here 0 → argument ≡ number_at signature_width signatures row (2 + k)
        → (found - 1 ≡ argument → ⊥) → ArgumentsFit forms signatures column place count row false
    fitting_fails q r z e =
        let t = turn (f.owes e) (omega arith) in
        sym (t.owed ∙ first_differs t.first _ t.more _ _ (next_argument e r) (λ n. z (omega (arith, q, t.number_is, n))))

    -- The next tree has the sort of the next argument.
    pub fitting_goes : {found argument size : ℕ} → found ≡ get_or column here 0 → argument ≡ number_at signature_width signatures row (2 + k)
        → found - 1 ≡ argument → size ≡ size_at forms here → Fitting forms signatures column place count row (here + size) (k + 1)
    fitting_goes q r z w = record {
      low = omega arith;
      owes = λ e.
          let t = turn (f.owes e) (omega arith) in
          let same = first_agrees t.first _ t.more _ _ (next_argument e r) (omega (arith, q, z, t.number_is)) in
          let one : count - k - 1 ≡ count - (k + 1) = omega arith in
          rw (← one) (rest_left t w (t.owed ∙ same));
    }

  -- All trees have the sorts of the arguments.
  pub fitting_ends : {here k : ℕ} → Fitting forms signatures column place count row here k → count ≤ k
      → ArgumentsFit forms signatures column place count row true
  unfolding same_sorts
  fitting_ends {here} {k} f h e =
      let past : drop k e.called.by.arguments ≡ [] = drop_of_length-le e.called.by.arguments {i = k} (omega (arith, e.full)) in
      sym (none_left (f.owes e) (omega arith) ∙ ap (same_sorts []) past)

-- Sorts of another number are not the same.
other_count : (ss ts : List ℕ) → (length ss ≡ length ts → ⊥) → same_sorts ss ts ≡ false
unfolding same_sorts
other_count [] [] n = absurd (n refl)
other_count [] (t ∷ ts) n = refl
other_count (s ∷ ss) [] n = refl
other_count (s ∷ ss) (t ∷ ts) n = rw (other_count ss ts (λ e. n (ap suc e)), and-false)

module _ {forms signatures column : List ℕ} {place count row n : ℕ} (n-is : n ≡ number_at signature_width signatures row 0) where
  -- Another number of operands than of arguments.
  pub called_fails : (count ≡ n → ⊥) → CalledGives forms signatures column place count row 0
  called_fails z e =
      let other = other_count e.trees.sorts e.by.arguments (λ q. z (e.trees.counted ∙ q ∙ sym e.row_is.counted ∙ sym n-is)) in
      rw other

  -- As many operands as arguments.
  module _ (full : count ≡ n) where
    -- The arguments can be held against the operands.
    pub fully_called : Called forms signatures column place count row → CalledFully forms signatures column place count row
    fully_called e = record { called = e; full = full ∙ n-is ∙ e.row_is.counted }

    -- The function has its sort where they fit.
    pub called_gives : {fit : Bool} {result r : ℕ} → ArgumentsFit forms signatures column place count row fit
        → result ≡ number_at signature_width signatures row 1 → r ≡ cond fit (result + 1) 0 → CalledGives forms signatures column place count row r
    unfolding fully_called
    called_gives {fit} {result} f q w e =
        let sort : result ≡ e.by.result = q ∙ e.row_is.result_is in
        w ∙ (rw (f (fully_called e), sort) (number_of (same_sorts e.trees.sorts e.by.arguments) e.by.result))
