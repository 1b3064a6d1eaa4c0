use native.Mathlib.Omega.{arith}
use lib.ListN.{length-set}
use Rattle.lexemes.proofs.Filling.{row_put}
use Rattle.lexemes.proofs.numbering.put_row.Goals as goal

pub bounds-lexemes-at-2 : goal.bounds-lexemes-at-2
bounds-lexemes-at-2 c = rw length-set (omega arith)

pub bounds-lexemes-at-3 : goal.bounds-lexemes-at-3
bounds-lexemes-at-3 c = simp length-set (omega arith)

pub bounds-lexemes-at-4 : goal.bounds-lexemes-at-4
bounds-lexemes-at-4 c = simp length-set (omega arith)

pub bounds-lexemes-at-5 : goal.bounds-lexemes-at-5
bounds-lexemes-at-5 c = simp length-set (omega arith)

pub bounds-lexemes-at-6 : goal.bounds-lexemes-at-6
bounds-lexemes-at-6 c = simp length-set (omega arith)

pub shape_of-lexemes : goal.shape_of-lexemes
shape_of-lexemes c = simp length-set

pub returns : goal.returns
returns c =
    let a = c.args in
    row_put a.words.now a.values.now a.lexemes.now a.word a.code c.next_at.ensures c.start_at.ensures c.end_at.ensures c.width_at.ensures
