-- The rows of the operator table as the code has them.
use Rattle.std.proofs.Common.{◌≡◌, refl}
use Rattle.operators.specs.Operators.{Operator}
use Rattle.operators.specs.Sorts.{SortRule, choice, cutting, equality, joining, logic, order, width}
use Rattle.operators.specs.code.Rules.{sort_rule}
use Rattle.operators.specs.declared.operators.Entry.{Entry}
use Rattle.operators.specs.declared.rules.Rule.{Rule}
use Rattle.operators.specs.declared.rules.Rule.TheVariants.{Logic, Equality, Choice, Width, Order, Joining, Cutting}

-- A sort rule as a rule of the code.
abbrev pub coded : SortRule → Rule
coded logic = Logic
coded equality = Equality
coded choice = Choice
coded width = Width
coded order = Order
coded joining = Joining
coded cutting = Cutting

-- The entry of a row.
abbrev pub entry : Operator → Entry
entry r = (r.operands, r.many, coded r.rule)

-- It is of the row's rule.
pub sort-entry : (rule : SortRule) → sort_rule (coded rule) ≡ rule
sort-entry logic = refl
sort-entry equality = refl
sort-entry choice = refl
sort-entry width = refl
sort-entry order = refl
sort-entry joining = refl
sort-entry cutting = refl
