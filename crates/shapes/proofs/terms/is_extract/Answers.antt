use mathlib.Core.Path.{refl}
use Rattle.lexemes.proofs.ByCode.{code_for}
use Rattle.lexemes.proofs.Spelt.{indexed_read}
use Rattle.lexemes.proofs.Listed.{item_room}
use native.Mathlib.Omega.{arith}
use Rattle.shapes.proofs.terms.is_extract.Goals as goal

pub overflow_add-at : goal.overflow_add-at
overflow_add-at c = omega (arith, item_room c.requires)

pub overflow_add-at-2 : goal.overflow_add-at-2
overflow_add-at-2 c = omega (arith, item_room c.requires)

pub overflow_add-at-3 : goal.overflow_add-at-3
overflow_add-at-3 c = omega (arith, item_room c.requires)

pub overflow_add-at-4 : goal.overflow_add-at-4
overflow_add-at-4 c = omega (arith, item_room c.requires)

pub overflow_add-at-5 : goal.overflow_add-at-5
overflow_add-at-5 c = omega (arith, item_room c.requires)

pub returns : goal.returns
unfolding code_for
returns c =
    λ here.
    rw (
      c.code_at.ensures,
      c.code_at-2.ensures,
      c.code_at-3.ensures,
      c.code_at-4.ensures,
      c.code_at-5.ensures,
      c.code_at-6.ensures,
    )
    (indexed_read "extract" refl 2 here)
