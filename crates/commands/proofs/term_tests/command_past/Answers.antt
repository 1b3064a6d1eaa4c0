use borrow.Author.Tests.{le-ltb, lt-ltb}
use Rattle.commands.proofs.term_tests.command_past.Goals as goal

pub returns-then-before-most : goal.returns-then-before-most
returns-then-before-most c = rw (lt-ltb _ _ c.if-before-most.true)

pub returns-else-before-most : goal.returns-else-before-most
returns-else-before-most c = rw (le-ltb _ _ c.if-before-most.false)
