use borrow.Author.Tests.{le-leb, le-ltb, lt-leb, lt-ltb}
use mathlib.Core.Bool.{and-false}
use native.Mathlib.Omega.{arith}
use Rattle.term_sorts.proofs.rules.cut_sort.Goals as goal

pub returns-then-high-low : goal.returns-then-high-low
returns-then-high-low c = rw (lt-leb _ _ c.if-high-low.true)

pub returns-then-sort-high : goal.returns-then-sort-high
returns-then-sort-high c = rw (le-ltb _ _ c.if-sort-high.true, and-false)

pub returns : goal.returns
returns c = rw (le-leb _ _ c.if-high-low.false, lt-ltb _ _ c.if-sort-high.false) (omega arith)
