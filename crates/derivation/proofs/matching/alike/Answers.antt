use mathlib.Core.Path.{sym}
use borrow.Author.Tests.{eq-eqb, ne_eqb}
use Rattle.derivation.specs.code.Matching.{alike}
use Rattle.derivation.proofs.matching.alike.Goals as goal

pub returns-then-operands_at : goal.returns-then-operands_at
unfolding alike
returns-then-operands_at c = rw (sym c.operands_at.ensures, sym c.operands_at-2.ensures, ne_eqb _ _ c.if-operands_at.true)

pub returns-then-code-found : goal.returns-then-code-found
unfolding alike
returns-then-code-found c =
    rw (
      sym c.operands_at.ensures,
      sym c.operands_at-2.ensures,
      eq-eqb _ _ c.if-operands_at.false,
      sym c.code_at-code.ensures,
      sym c.code_at-found.ensures,
      sym c.value_at.ensures,
      sym c.value_at-2.ensures,
      c.if-code-found.true,
    )

pub returns : goal.returns
unfolding alike
returns c =
    rw (
      sym c.operands_at.ensures,
      sym c.operands_at-2.ensures,
      eq-eqb _ _ c.if-operands_at.false,
      sym c.code_at-code.ensures,
      sym c.code_at-found.ensures,
      sym c.value_at.ensures,
      sym c.value_at-2.ensures,
      c.if-code-found.false,
    ) (cc)
