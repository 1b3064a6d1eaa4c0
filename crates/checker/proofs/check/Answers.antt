use Rattle.checker.proofs.check.Goals as goal

pub returns : goal.returns
returns c = record { weights = c.weigh-weighed.result.totals; checked = c.weigh-weighed.ensures }
