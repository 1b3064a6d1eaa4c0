use Rattle.std.proofs.Common.{◌≡◌, ap, ◌∙◌, rules, of_calls}
use Rattle.std.proofs.iter.runs.Made.{chains}
use Rattle.std.specs.Iterator.{ActsAsOnTwo}
use Rattle.std.specs.List.{reduce}
use Rattle.std.specs.Option.{unwrap_or}
use Rattle.operators.proofs.Many.{grouped_left}
use Rattle.operators.proofs.truth.group_left.Goals as goal

pub returns : goal.returns
returns g c f computes =
    let acts : ActsAsOnTwo g.F.Fn c.args.pair f = λ x y r p k. (g.met.F.Fn.1.step_stays _ _ _ _ k, computes x y r (search of_calls)) in
    let e : c.reduce.result ≡ reduce f c.args.values.now = search (rules, chains, acts) in
    c.unwrap_or.ensures ∙ ap (λ r. unwrap_or r 0) e ∙ grouped_left f c.args.values.now
