use Rattle.blocks.proofs.Cursor.{put_full, put_open, put_within, put_within_three, term_low}
use lib.ListN.{get_or, length-set}
use mathlib.Core.List.{List}
use mathlib.Core.Path.{ap}
use Prim.Native.Nat.{ℕ}
use native.Mathlib.Omega.{arith}
use Rattle.blocks.proofs.writing.put.Goals as goal

pub overflow_mul-sum : goal.overflow_mul-sum
overflow_mul-sum c = omega (arith, term_low c.requires c.from.ensures (omega arith))

pub overflow_add-sum : goal.overflow_add-sum
overflow_add-sum c = omega (arith, term_low c.requires c.from.ensures (omega arith), c.requires.sum_low)

pub bounds-area-at : goal.bounds-area-at
bounds-area-at c = put_within c.requires

pub returns-then-filled-lt-PAY : goal.returns-then-filled-lt-PAY
returns-then-filled-lt-PAY c = put_open c.requires c.from.ensures c.if-filled-lt-PAY.true

pub bounds-area-at-2 : goal.bounds-area-at-2
bounds-area-at-2 c = simp length-set (omega (arith, put_within_three c.requires c.from.ensures c.if-filled-lt-PAY.false))

pub bounds-area-at-3 : goal.bounds-area-at-3
bounds-area-at-3 c = simp length-set (omega (arith, put_within_three c.requires c.from.ensures c.if-filled-lt-PAY.false))

pub returns : goal.returns
returns c =
    put_full c.requires c.from.ensures c.if-filled-lt-PAY.false (ap (λ (l : List ℕ). get_or l 0 0) c.to_le_bytes-held.ensures)
    (ap (λ (l : List ℕ). get_or l 1 0) c.to_le_bytes-held.ensures)
