use Rattle.written_sorts.proofs.Width.{empty, too_wide, unknown}
use Rattle.lexemes.proofs.Listed.{item_room}
use native.Mathlib.Omega.{arith}
use Rattle.written_sorts.proofs.places.sort_place.Goals as goal

pub overflow_add-at : goal.overflow_add-at
overflow_add-at c = omega (arith, item_room c.requires.here)

pub overflow_add-at-in-TooWide : goal.overflow_add-at-in-TooWide
overflow_add-at-in-TooWide c = omega (arith, item_room c.requires.here)

pub returns-in-TooWide : goal.returns-in-TooWide
returns-in-TooWide c =
    let nowhere = c.args.nowhere in
    λ p. cc (too_wide c.code_at-code.ensures c.value_at-width.ensures nowhere p)

pub returns-in-Unknown : goal.returns-in-Unknown
returns-in-Unknown c =
    let nowhere = c.args.nowhere in
    λ p. cc (unknown c.code_at-code.ensures nowhere p)

pub returns-in-Empty : goal.returns-in-Empty
returns-in-Empty c =
    let nowhere = c.args.nowhere in
    λ p. cc (empty c.code_at-code.ensures c.value_at-width.ensures nowhere p)
