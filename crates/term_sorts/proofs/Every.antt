-- What holds of every node of forms holds of the node at a cursor, and of all below and behind it.
use Prim.Native.Nat.{ℕ, zero, suc}
use mathlib.Core.Path.{◌≡◌, subst}
use Rattle.forest.specs.Forest.{Forest, join, none, tree}
use Rattle.forest.specs.code.Cursors.{from}
use Rattle.term_sorts.specs.code.Signatures.{Every}

module _ {A : Type 0} (holds : A → Type 0) where
  -- Of forms one after the other.
  pub every_join : (a b : Forest A) → Every holds a → Every holds b → Every holds (join a b)
  unfolding Every join
  every_join none b p q = q
  every_join (tree i ops rest) b p q = (p.0, p.1, every_join rest b p.2 q)

  -- Of what is left from a cursor on.
  every_from : (F : Forest A) (p : ℕ) → Every holds F → Every holds (from F p)
  unfolding Every from
  every_from F zero h = h
  every_from none (suc p) h = h
  every_from (tree i ops rest) (suc p) h = every_from (join ops rest) p (every_join ops rest h.1 h.2)

  -- Of the tree at a cursor.
  pub every_at : (F : Forest A) (p : ℕ) {i : A} {ops rest : Forest A} → from F p ≡ tree i ops rest → Every holds F → Every holds (tree i ops rest)
  every_at F p e h = subst (Every holds) e (every_from F p h)

  -- Of its first node.
  pub every_first : (i : A) (ops rest : Forest A) → Every holds (tree i ops rest) → holds i
  unfolding Every
  every_first i ops rest h = h.0
