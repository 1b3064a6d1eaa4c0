-- What the sort pass asks and gives.
use Rattle.std.specs.Prelude.{ℕ, ◌≤◌, List, ◌≡◌, length}
use Rattle.forest.specs.code.Cursors.{size}
use Rattle.forest.specs.Tables.{over}
use Rattle.term_sorts.specs.code.Forms.{fault_from, sort_column}
use Rattle.term_sorts.specs.code.Signatures.{Sortable}

-- Tables of so many nodes, and room for their sorts.
pub record SortsFilling (forms signatures : List ℕ) (count : ℕ) (column : List ℕ) : Type 0 where
  pub given : Sortable forms signatures
  pub counted : count ≡ size given.F
  pub room : count ≤ length column

-- The sorts are filled in, and the first fault is found.
pub record SortsFilled {forms signatures : List ℕ} {count : ℕ} {column : List ℕ} (p : SortsFilling forms signatures count column) (columnAfter : List ℕ)
    (fault : ℕ) : Type 0 where
  pub column_is : columnAfter ≡ over (sort_column p.given.scope p.given.F) column
  pub fault_is : fault ≡ fault_from p.given.scope count 0 p.given.F
