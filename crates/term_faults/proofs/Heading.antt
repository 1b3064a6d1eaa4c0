-- The sorts of non-terminals in the table of signatures.
use Prim.Native.Nat.{ℕ, zero, suc, ◌+◌, ◌*◌, ◌<◌}
use native.Mathlib.Nat.{add-zero}
use native.Mathlib.Omega.{arith}
use mathlib.Core.Path.{◌≡◌, ◌∙◌}
use mathlib.Core.List.{List, [], ◌∷◌}
use lib.ListN.{get_or, length}
use Rattle.forest.specs.code.Rows.{number_at}
use Rattle.term_sorts.specs.code.Signatures.{RowIs, SortsAre, non_terminal_signature, signature_width}
use Rattle.term_faults.specs.code.Grammars.{HeadSort, Heads}

-- The row of a non-terminal has its sort.
row_of : (signatures : List ℕ) (r : ℕ) (sorts : List ℕ) (k : ℕ) → SortsAre signatures r sorts → k < length sorts
    → RowIs signatures (r + k) (record { arguments = []; result = get_or sorts k 0 })
unfolding SortsAre
row_of signatures r [] k rows h = absurd (omega arith)
row_of signatures r (s ∷ more) zero rows h = rw add-zero rows.0
row_of signatures r (s ∷ more) (suc k) rows h =
    let next : r + 1 + k ≡ r + suc k = omega arith in
    rw (← next) (row_of signatures (r + 1) more k rows.1 (omega arith))

module _ {signatures : List ℕ} {listed head : ℕ} where
  module _ (h : head < listed) where
    -- The table has the sort.
    pub head_there : {r : ℕ} → r ≡ get_or signatures (signature_width * (non_terminal_signature + head) + 1) 0 → (p : Heads signatures listed) → HeadSort p head r
    unfolding number_at
    head_there e p =
        let row = row_of signatures non_terminal_signature p.sorts head p.are (omega (arith, p.counted)) in
        record { is = e ∙ row.result_is; low = rw (e ∙ row.result_is) row.sort }
