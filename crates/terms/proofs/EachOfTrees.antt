-- What it says of a tree and those after it that each of them has something, be it a sort or a value: of the tree's label, its operands and the others.
use mathlib.Core.Path.{◌≡◌, refl, ◌∙◌, sym}
use mathlib.Core.List.{List, ◌∷◌}
use mathlib.Core.Option.{Option, none as nothing, some}
use Rattle.forest.proofs.Options.{never}

-- A tree has `first`, which its label's rule gives over what its operands have, and the trees after it have the others.
pub record Parts {A : Type 0} (rule : List A → Option A) (ops rest : Option (List A)) (all : List A) : Type 0 where
  pub first : A
  pub operands : List A
  pub others : List A
  pub label : rule operands ≡ some first
  pub ops_have : ops ≡ some operands
  pub rest_have : rest ≡ some others
  pub together : first ∷ others ≡ all

-- A way to say what a tree has by what its operands have, and what trees have by what the first and the others have.
pub record Joining {A : Type 0} (over : (List A → Option A) → Option (List A) → Option A) (with : Option A → Option (List A) → Option (List A)) : Type 0 where
  pub over_none : (rule : List A → Option A) → over rule nothing ≡ nothing
  pub over_some : (rule : List A → Option A) (xs : List A) → over rule (some xs) ≡ rule xs
  pub with_none : (more : Option (List A)) → with nothing more ≡ nothing
  pub with_no_more : (x : A) → with (some x) nothing ≡ nothing
  pub with_some : (x : A) (xs : List A) → with (some x) (some xs) ≡ some (x ∷ xs)

module _ {A : Type 0} {over : (List A → Option A) → Option (List A) → Option A} {with : Option A → Option (List A) → Option (List A)} (j : Joining over with)
    (rule : List A → Option A) where
  -- The parts, once what the operands have is known.
  known_parts : (os : List A) (first : Option A) (rest : Option (List A)) {all : List A} → rule os ≡ first → with first rest ≡ some all
      → Parts rule (some os) rest all
  known_parts os nothing rest r h = never (sym (j.with_none rest) ∙ h)
  known_parts os (some x) nothing r h = never (sym (j.with_no_more x) ∙ h)
  known_parts os (some x) (some xs) {all} r h =
      let q : some (x ∷ xs) ≡ some all = sym (j.with_some x xs) ∙ h in
      record { first = x; operands = os; others = xs; label = r; ops_have = refl; rest_have = refl; together = cc }

  -- The parts of what a tree and those after it have.
  pub parts : (ops rest : Option (List A)) {all : List A} → with (over rule ops) rest ≡ some all → Parts rule ops rest all
  parts nothing rest h = never (sym (j.with_none rest) ∙ rw (j.over_none rule) at h)
  parts (some os) rest h = known_parts os (rule os) rest refl (rw (j.over_some rule os) at h)
