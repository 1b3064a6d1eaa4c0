-- What rules derive has the sorts of the forms: no check of the term's own sort is needed.
use mathlib.Core.Path.{◌≡◌, refl, sym, ap, ◌∙◌, subst}
use Prim.Native.Nat.{ℕ, ◌<◌}
use mathlib.Core.List.{List, [], ◌∷◌}
use mathlib.Core.Option.{Option, none as nothing, some}
use lib.ListN.{get_or, length}
use borrow.Author.Tests.{eq-eqb, le-leb, lt-ltb}
use Rattle.forest.proofs.Options.{never}
use Rattle.forest.specs.Forest.{Forest}
use Rattle.terms.specs.Labels.{Label, Terms}
use Rattle.terms.specs.Sorts.{label_sort, sort_over, sorts_of, with_sort}
use Rattle.derivation.specs.Derivation.{AnyLeaf, Derives, Grammar, Item, form_of, head_of}
use Rattle.derivation.specs.Sorts.{FormScope, form_sorts, item_sort}
use Rattle.derivation.specs.Derivation.AnyLeaf.{constant, variable}
use Rattle.derivation.specs.Derivation.Derives.{done, leaf, same, use-rule}

-- the sort of the label of a leaf that an item derives
leaf_sort : (scope : FormScope) {i : Item} {l : Label} → AnyLeaf scope.terms.names i l → label_sort scope.terms l [] ≡ item_sort scope i []
unfolding label_sort item_sort
leaf_sort scope (constant f) = rw (le-leb _ _ f.sort, lt-ltb _ _ f.value)
leaf_sort scope (variable f) = rw (lt-ltb _ _ f.declared, eq-eqb _ _ f.sort)

-- the one sort of a tree
first_sort : (first : Option ℕ) {s : ℕ} → with_sort first (some []) ≡ some (s ∷ []) → first ≡ some s
unfolding with_sort
first_sort nothing h = never h
first_sort (some t) h = cc

-- each rule has its non-terminal's sort, and names are the function's arguments
module _ (G : Grammar) (scope : FormScope) (names : scope.terms.names ≡ G.arguments)
    (heads : (r : ℕ) → r < length G.rules → head_of G.rules r < length scope.non_terminals)
    (ruled : (r : ℕ) → r < length G.rules → form_sorts scope (form_of G.rules r) ≡ some (get_or scope.non_terminals (head_of G.rules r) 0 ∷ [])) where
  -- what a form derives has the form's sorts
  pub derived_sorts : {P : Forest Item} {T : Terms} {ds : List ℕ} → Derives G P T ds → sorts_of scope.terms T ≡ form_sorts scope P
  unfolding sorts_of form_sorts sort_over item_sort
  derived_sorts done = refl
  derived_sorts (use-rule {A = A} {l = l} {ts = ts} r h e d d2) =
      let one = derived_sorts d ∙ ruled r h ∙ ap (λ (B : ℕ). some (get_or scope.non_terminals B 0 ∷ [])) e in
      let below = lt-ltb A (length scope.non_terminals) (subst (λ (B : ℕ). B < length scope.non_terminals) e (heads r h)) in
      rw (first_sort (sort_over (label_sort scope.terms l) (sorts_of scope.terms ts)) one, derived_sorts d2, below)
  derived_sorts (leaf {i = i} {l = l} a d) = rw (derived_sorts d, leaf_sort scope (subst (λ (ss : List ℕ). AnyLeaf ss i l) (sym names) a))
  derived_sorts (same {l = l} e d d2) = rw (derived_sorts d, derived_sorts d2, ap (label_sort scope.terms) (sym e))
