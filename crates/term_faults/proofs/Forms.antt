-- The forms that terms say, node by node.
use Prim.Native.Nat.{ℕ, zero, suc}
use mathlib.Core.Path.{◌≡◌, refl, sym, ap, ◌∙◌}
use Rattle.forest.specs.Forest.{Forest, join, none, tree}
use Rattle.forest.specs.code.Cursors.{from, size}
use Rattle.derivation.specs.Derivation.{Item}
use Rattle.term_nodes.specs.Terms.{Raw}
use Rattle.names.specs.Scopes.{View, forms_of, item_or, means}

-- What stands from the first node on is all.
pub from_first : (F : Forest Raw) → from F 0 ≡ F
unfolding from
from_first F = refl

module _ (view : View) where
  -- A form has a node for each node of its term.
  pub size_form : (F : Forest Raw) → size (forms_of view F) ≡ size F
  unfolding forms_of size
  size_form none = refl
  size_form (tree r ops rest) = rw (size_form ops, size_form rest)

  -- The forms of terms one after the other.
  form_join : (a b : Forest Raw) → forms_of view (join a b) ≡ join (forms_of view a) (forms_of view b)
  unfolding forms_of join
  form_join none b = refl
  form_join (tree r ops rest) b = ap (tree (item_or (means view r)) (forms_of view ops)) (form_join rest b)

  -- The forms from a node on.
  form_from : (F : Forest Raw) (i : ℕ) → from (forms_of view F) i ≡ forms_of view (from F i)
  unfolding forms_of from
  form_from F zero = refl
  form_from none (suc i) = refl
  form_from (tree r ops rest) (suc i) = ap (λ (x : Forest Item). from x i) (sym (form_join ops rest)) ∙ form_from (join ops rest) i

  -- The form at a node.
  pub form_at : (F : Forest Raw) (i : ℕ) (r : Raw) (ops rest : Forest Raw) → from F i ≡ tree r ops rest
      → from (forms_of view F) i ≡ tree (item_or (means view r)) (forms_of view ops) (forms_of view rest)
  unfolding forms_of
  form_at F i r ops rest e = form_from F i ∙ ap (forms_of view) e
