use Rattle.std.proofs.Common.{◌≡◌, ap, reverse, ◌∙◌, rules}
use Rattle.std.proofs.iter.runs.Made.{chains}
use Rattle.std.specs.List.{reduce}
use Rattle.std.specs.Option.{unwrap_or}
use Rattle.operators.specs.Values.{implies_value}
use Rattle.operators.proofs.Many.{grouped_right}
use Rattle.operators.proofs.truth.group_right.Goals as goal

pub returns : goal.returns
returns c =
    let e : c.reduce.result ≡ reduce (λ r b. implies_value b r) (reverse c.args.values.now) = search (rules, chains) in
    c.unwrap_or.ensures ∙ ap (λ r. unwrap_or r 0) e ∙ grouped_right implies_value c.args.values.now
