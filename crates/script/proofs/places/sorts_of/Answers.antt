use Prim.Native.Nat.{ℕ, ◌+◌, ◌*◌}
use mathlib.Core.Path.{ap, ◌∙◌}
use lib.ListN.{drop, take}
use Rattle.term_sorts.specs.code.Signatures.{function_signature, signature_width}
use Rattle.script.proofs.TableParts.{part_whole}
use Rattle.script.proofs.places.sorts_of.Goals as goal

pub returns : goal.returns
returns c =
    let places = c.args.places.now in
    let first = signature_width * (function_signature + c.args.function) + 2 in
    part_whole first c.arguments_of.result places ∙ ap (λ (n : ℕ). take n (drop first places)) c.arguments_of.ensures
