use Prim.Native.Nat.{ℕ, ◌*◌}
use mathlib.Core.Path.{ap₂, ◌∙◌}
use lib.ListN.{drop, take}
use Rattle.derivation.specs.code.Rules.{rule_width}
use Rattle.script.proofs.TableParts.{part_whole}
use Rattle.script.proofs.places.rules_of.Goals as goal

pub returns : goal.returns
returns c =
    let places = c.args.places.now in
    let first = c.rules_place-first.ensures in
    let count = c.rule_count_of.ensures in
    part_whole c.rules_place-first.result (rule_width * c.rule_count_of.result) places
    ∙ ap₂ (λ (n m : ℕ). take (rule_width * n) (drop m places)) count first
