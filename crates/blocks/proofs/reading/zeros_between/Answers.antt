use Rattle.std.proofs.Common.{rules, ◌≡◌, ◌≤◌, get_or, IsTrue, ◌↔◌, ℕ, ◌<◌}
use Rattle.std.proofs.iter.runs.Sources.{ranges}
use Rattle.blocks.specs.Blocks.{payload_in}
use Rattle.blocks.proofs.Filling.{zeros_told}
use Rattle.blocks.proofs.reading.zeros_between.Goals as goal

pub returns : goal.returns
returns c =
    let each : IsTrue c.all.result ↔ ((k : ℕ) → c.args.from ≤ k → k < c.args.end → get_or (payload_in c.args.file.now) k 0 ≡ 0) = search (rules, ranges) in
    zeros_told (payload_in c.args.file.now) c.requires each
