-- The sort that trees have in common, tree by tree.
use Prim.Native.Nat.{ℕ, ◌+◌, ◌-◌, ◌≤◌, ◌<◌}
use native.Mathlib.Nat.{sub-zero}
use native.Mathlib.Omega.{arith}
use mathlib.Core.Path.{◌≡◌, refl, sym, ap, ◌∙◌}
use mathlib.Core.List.{List, ◌∷◌}
use borrow.Author.Tests.{eq-eqb, ne_eqb}
use lib.ListN.{get_or, length}
use Rattle.operators.specs.Sorts.{all_are, sort_where}
use Rattle.terms.specs.code.Nodes.{size_at}
use Rattle.term_sorts.specs.code.Operands.{Common, SomeTrees, common_sort}
use Rattle.term_sorts.proofs.TreeWalk.{Left, all_left, none_left, rest_left, turn}

-- The sort in common is that of the number `sort`, where those of `rest` are.
pub record Agrees (sort : ℕ) (all rest : List ℕ) : Type 0 where
  pub s : ℕ
  pub sort_is : sort ≡ s + 1
  pub agrees : common_sort all ≡ sort_where (all_are s rest) s

-- The trees behind the first `done` are left from node `here` on, of which the sort in common depends.
pub record Agreeing (forms column : List ℕ) (place count sort here done : ℕ) : Type 0 where
  pub owes : (e : SomeTrees forms column place count) → Left (λ (s : ℕ). s + 1) forms column here (count - done) (Agrees sort e.trees.sorts)

-- The first sort agrees with itself.
agrees_first : (all more : List ℕ) (s : ℕ) {sort : ℕ} → all ≡ s ∷ more → sort ≡ s + 1 → Agrees sort all all
unfolding common_sort
agrees_first all more s e q = record { s = s; sort_is = q; agrees = rw (e, eq-eqb s s refl) }

module _ {forms column : List ℕ} {place count sort : ℕ} where
  -- All are left, at the start.
  pub agreeing_begins : sort ≡ get_or column place 0 → Agreeing forms column place count sort place 0
  agreeing_begins q = record {
    owes = λ e.
        let all = e.trees.sorts in
        let t = turn (all_left e.trees {Owed = λ (rest : List ℕ). all ≡ rest} refl) e.any in
        rw sub-zero (all_left e.trees (agrees_first all t.more t.first t.owed (q ∙ t.number_is)));
  }

  module _ {here done : ℕ} (a : Agreeing forms column place count sort here done) where
    -- The next tree ends within the column.
    pub agreeing_room : SomeTrees forms column place count → done < count → here + size_at forms here ≤ length column
    agreeing_room e h = (turn (a.owes e) (omega arith)).room

    -- The next tree has another sort.
    pub agreeing_fails : {found : ℕ} → done < count → found ≡ get_or column here 0 → (found ≡ sort → ⊥) → Common forms column place count 0
    agreeing_fails h q z e =
        let t = turn (a.owes e) (omega arith) in
        let o = t.owed in
        let other = ne_eqb t.first o.s (λ n. z (q ∙ t.number_is ∙ ap (λ (k : ℕ). k + 1) n ∙ sym o.sort_is)) in
        rw (o.agrees, other)

    -- The next tree has the same sort.
    pub agreeing_goes : {found size : ℕ} → done < count → found ≡ get_or column here 0 → found ≡ sort → size ≡ size_at forms here
        → Agreeing forms column place count sort (here + size) (done + 1)
    agreeing_goes h q z k = record {
      owes = λ e.
          let t = turn (a.owes e) (omega arith) in
          let o = t.owed in
          let same = eq-eqb t.first o.s (omega (arith, q, z, t.number_is, o.sort_is)) in
          let one : count - done - 1 ≡ count - (done + 1) = omega arith in
          rw (← one) (rest_left t k (record { s = o.s; sort_is = o.sort_is; agrees = rw same at o.agrees }));
    }

    -- All trees have the sort.
    pub agreeing_ends : count ≤ done → Common forms column place count sort
    agreeing_ends h e = let o = none_left (a.owes e) (omega arith) in rw o.agrees o.sort_is
