-- Functions whose bodies have their sorts.
use Rattle.std.specs.Prelude.{List, [], ◌∷◌, map, ◌≡◌}
use Rattle.std.proofs.Math.Option.{some}
use Rattle.terms.specs.Sorts.{Signature, Scope, sorts_of, Definition}

-- The signatures of definitions.
abbrev pub signatures : List Definition → List Signature
signatures ds = map (λ (d : Definition). d.signature) ds

-- What a body sees: its arguments and the `define-fun`s before it.
abbrev pub body_scope : (earlier : List Definition) → Signature → Scope
body_scope earlier f = record { names = f.arguments; defined = signatures earlier; functions = [] }

-- A body of its function's sort.
abbrev pub BodySorted : (earlier : List Definition) → Definition → Type 0
BodySorted earlier d = sorts_of (body_scope earlier d.signature) d.body ≡ some (d.signature.result ∷ [])

-- `define-fun`s, the last first, each of whose bodies has its sort and sees only those before it.
unfoldable pub AllSorted : List Definition → Type 0
AllSorted [] = Unit {0}
AllSorted (d ∷ earlier) = BodySorted earlier d × AllSorted earlier

-- Synthesized functions each of whose bodies has its sort and sees the `define-fun`s.
unfoldable pub FunctionsSorted : (defs : List Definition) → List Definition → Type 0
FunctionsSorted defs [] = Unit {0}
FunctionsSorted defs (f ∷ others) = BodySorted defs f × FunctionsSorted defs others
