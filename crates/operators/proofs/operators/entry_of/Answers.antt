use Rattle.std.proofs.Common.{◌∙◌}
use Rattle.operators.specs.Operators.{Operator, operators}
use Rattle.operators.specs.code.Rules.{sort_rule}
use Rattle.operators.specs.declared.operators.Entry.{Entry}
use Rattle.operators.proofs.Entries.{entry, sort-entry}
use Rattle.operators.proofs.Table.{entry_at, past}
use Rattle.operators.proofs.operators.entry_of.Goals as goal

pub returns-then-operator-lt-OPERATORS-clause-operands : goal.returns-then-operator-lt-OPERATORS-clause-operands
unfolding operators
returns-then-operator-lt-OPERATORS-clause-operands c = entry_at (λ (e : Entry). e.0) entry _ c.if-operator-lt-OPERATORS.true

pub returns-then-operator-lt-OPERATORS-clause-many : goal.returns-then-operator-lt-OPERATORS-clause-many
unfolding operators
returns-then-operator-lt-OPERATORS-clause-many c = entry_at (λ (e : Entry). e.1) entry _ c.if-operator-lt-OPERATORS.true

pub returns-then-operator-lt-OPERATORS-clause-rule : goal.returns-then-operator-lt-OPERATORS-clause-rule
unfolding operators
returns-then-operator-lt-OPERATORS-clause-rule c =
    entry_at (λ (e : Entry). sort_rule e.2) entry _ c.if-operator-lt-OPERATORS.true ∙ sort-entry _

pub returns-else-operator-lt-OPERATORS-clause-operands : goal.returns-else-operator-lt-OPERATORS-clause-operands
returns-else-operator-lt-OPERATORS-clause-operands c = past (λ (r : Operator). r.operands) c.if-operator-lt-OPERATORS.false

pub returns-else-operator-lt-OPERATORS-clause-many : goal.returns-else-operator-lt-OPERATORS-clause-many
returns-else-operator-lt-OPERATORS-clause-many c = past (λ (r : Operator). r.many) c.if-operator-lt-OPERATORS.false

pub returns-else-operator-lt-OPERATORS-clause-rule : goal.returns-else-operator-lt-OPERATORS-clause-rule
returns-else-operator-lt-OPERATORS-clause-rule c = past (λ (r : Operator). r.rule) c.if-operator-lt-OPERATORS.false
