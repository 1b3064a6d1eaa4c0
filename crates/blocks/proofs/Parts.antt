-- The parts of a file without a fault: they stand within the payload and are as long as their lengths say. One changed byte of it is refused.
use mathlib.Core.Path.{◌≡◌, sym, ap, ◌∙◌}
use mathlib.Core.Option.{Option, none, some}
use Prim.Native.Nat.{ℕ, suc, ◌+◌, ◌*◌, ◌-◌, ◌/◌, ◌<◌, ◌≤◌}
use native.Mathlib.Omega.{arith}
use mathlib.Core.List.{List}
use lib.Dec.{ltb}
use lib.ListN.{drop, get_or, length, length-drop, set, take}
use lib.Seq.{length-take-le}
use borrow.Author.Tests.{ltb-false}
use Rattle.blocks.specs.Blocks.{first_wrong, payload_in}
use Rattle.blocks.specs.Layout.{file_fault, filling_in, last_needed, list_at, list_in, list_length_in, misfilled, needed_in, or_else, response_in}
use Rattle.blocks.specs.Layout.{response_length_in, rules_before, script_in, script_length_in, zeros}
use Rattle.blocks.proofs.Changed.{changed}
use Rattle.blocks.proofs.Whole.{neither, pairs_length, passes, rules-from, rules_from}

-- the list of a function ends where all lists end, or before
pub list_end : (file : List ℕ) (j : ℕ) → j < 8 → list_at file j + 2 * list_length_in file j ≤ needed_in file
unfolding rules_from
list_end file j h =
    let m : ℕ = 8 - (j + 1) in
    let z : j + suc m ≡ 8 = omega arith in
    let e : rules_before file 8 ≡ rules_before file j + (list_length_in file j + rules_from file (suc j) m) =
    ap (rules_before file) (sym z) ∙ rules-from file j (suc m) in
    omega arith

module _ (file : List ℕ) (right : file_fault file ≡ none) where
  pub no_wrong_block : first_wrong file ≡ none
  unfolding file_fault
  no_wrong_block = (neither (first_wrong file) (misfilled file) right).0

  pub needed_within : needed_in file ≤ length (payload_in file)
  unfolding file_fault misfilled
  needed_within =
      let t = passes (ltb (length (payload_in file)) (needed_in file)) (zeros (filling_in file))
      (ltb (510 * (last_needed file + 1)) (length (payload_in file))) (last_needed file) (neither (first_wrong file) (misfilled file) right).1 in
      ltb-false (length (payload_in file)) (needed_in file) t.0

  pub script-size : length (script_in file) ≡ script_length_in file
  unfolding script_in
  script-size = length-take-le (script_length_in file) (drop 24 (payload_in file)) (omega (arith, needed_within, length-drop 24 (payload_in file)))

  pub response-size : length (response_in file) ≡ response_length_in file
  unfolding response_in
  response-size =
      length-take-le (response_length_in file) (drop (24 + script_length_in file) (payload_in file))
      (omega (arith, needed_within, length-drop (24 + script_length_in file) (payload_in file)))

  pub list_length : (j : ℕ) → j < 8 → length (list_in file j) ≡ list_length_in file j
  unfolding list_in
  list_length j h =
      pairs_length (take (2 * list_length_in file j) (drop (list_at file j) (payload_in file))) (list_length_in file j)
      (
      length-take-le (2 * list_length_in file j) (drop (list_at file j) (payload_in file))
      (omega (arith, needed_within, list_end file j h, length-drop (list_at file j) (payload_in file)))
      )

  -- "any one changed byte makes its block refused"
  pub changed_refused : ((k : ℕ) → get_or file k 0 < 256) → (i b : ℕ) → i < length file → b < 256 → (b ≡ get_or file i 0 → ⊥) → file_fault (set file i b) ≡ some (i / 512)
  unfolding file_fault
  changed_refused bytes i b inside byte other =
      ap (λ (o : Option ℕ). or_else o (misfilled (set file i b))) (changed file no_wrong_block bytes i b inside byte other)
