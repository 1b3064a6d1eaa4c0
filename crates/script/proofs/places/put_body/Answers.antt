use Prim.Native.Nat.{ℕ, ◌+◌}
use mathlib.Core.List.{List}
use mathlib.Core.Path.{ap, ◌∙◌}
use lib.ListN.{set}
use Rattle.script.specs.code.Places.{offsets_place}
use Rattle.script.proofs.places.put_body.Goals as goal

pub returns : goal.returns
returns c =
    let a = c.args in
    c.put_entry-2.ensures
    ∙ ap (λ (l : List ℕ). set l (offsets_place + a.function) a.offset) c.put_entry.ensures
