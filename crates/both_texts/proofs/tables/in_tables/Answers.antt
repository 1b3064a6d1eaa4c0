use borrow.Author.Rules.{rules}
use Rattle.both_texts.proofs.tables.in_tables.Goals as goal

pub returns-then-script-response : goal.returns-then-script-response
returns-then-script-response g c = let q = c.read_in.ensures in (q.0, q.1, q.2, q.3, q.4, q.5, q.6, search rules, q.8, q.9)

pub returns-then-script-le-MIDDLE_SCRIPT : goal.returns-then-script-le-MIDDLE_SCRIPT
returns-then-script-le-MIDDLE_SCRIPT g c =
    let q = c.read_in-then-script-le-MIDDLE_SCRIPT.ensures in (q.0, q.1, q.2, q.3, q.4, q.5, q.6, search rules, q.8, q.9)

pub returns : goal.returns
returns g c = let q = c.read_in-2.ensures in (q.0, q.1, q.2, q.3, q.4, q.5, q.6, search rules, q.8, q.9)
