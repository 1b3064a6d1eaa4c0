-- The signature and the numbers of a function, written.
use Prim.Native.Nat.{ℕ, ◌+◌, ◌*◌}
use mathlib.Core.Path.{◌≡◌, ◌∙◌}
use mathlib.Core.List.{List}
use lib.Seq.{sets}
use Rattle.term_sorts.specs.code.Signatures.{function_signature}
use Rattle.names.specs.code.Table.{own_argument_row}
use Rattle.term_nodes.specs.declared.Gathered.{Gathered}
use Rattle.script.specs.code.Signatures.{SignedIn}
use Rattle.script.specs.code.Places.{function_width, functions_place}
use Rattle.script.specs.declared.Progress.{Progress}
use Rattle.synth_fun.specs.code.Rows.{Put, numbers_of}
use Rattle.synth_fun.specs.declared.Header.{Header}

-- The signature and the numbers of a function are put.
pub put_done : {names places : List ℕ} {p : Progress} {g : Gathered} {h : Header} {signed : List ℕ}
    → SignedIn names places (function_signature + p.functions) (own_argument_row p.functions) h.arguments h.result signed
    → {after : List ℕ} → after ≡ sets signed (functions_place + function_width * p.functions) (numbers_of p g) → Put names places p g h after
put_done by-signature by-numbers = record { is = by-numbers ∙ rw by-signature }
