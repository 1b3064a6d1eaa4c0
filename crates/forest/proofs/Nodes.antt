-- The nodes of a forest in the order of the text, by cursors.
use Prim.Native.Nat.{ℕ, zero, suc}
use mathlib.Core.Path.{◌≡◌, refl, sym, ap, ◌∙◌}
use mathlib.Core.List.{◌∷◌, ◌++◌, append_assoc}
use lib.ListN.{drop, length, length-append}
use Rattle.forest.specs.Forest.{Forest, join, nodes_of, none, tree}
use Rattle.forest.specs.code.Cursors.{from, size}

module _ {L : Type 0} where
  pub nodes_join : (a b : Forest L) → nodes_of (join a b) ≡ nodes_of a ++ nodes_of b
  unfolding join nodes_of
  nodes_join none b = refl
  nodes_join (tree l ops rest) b = rw (nodes_join rest b, append_assoc)

  pub length_nodes : (F : Forest L) → length (nodes_of F) ≡ size F
  unfolding nodes_of size
  length_nodes none = refl
  length_nodes (tree l ops rest) = rw (length-append, length_nodes ops, length_nodes rest)

  -- the nodes past the first i are those of what is left there
  pub nodes_from : (F : Forest L) (i : ℕ) → drop i (nodes_of F) ≡ nodes_of (from F i)
  unfolding from nodes_of
  nodes_from F zero = refl
  nodes_from none (suc i) = refl
  nodes_from (tree l ops rest) (suc i) = ap (drop i) (sym (nodes_join ops rest)) ∙ nodes_from (join ops rest) i

  -- the node at a cursor
  pub node_at : (F : Forest L) (i : ℕ) (l : L) (ops rest : Forest L) → from F i ≡ tree l ops rest
      → drop i (nodes_of F) ≡ record { label = l; operands = ops } ∷ (nodes_of ops ++ nodes_of rest)
  unfolding nodes_of
  node_at F i l ops rest e = nodes_from F i ∙ ap nodes_of e
