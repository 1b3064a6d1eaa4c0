-- Cases of the request, computed from the definitions.
use mathlib.Core.Path.{◌≡◌, refl}
use mathlib.Core.Bool.{true, false}
use mathlib.Core.Option.{none, some}
use Prim.Native.Nat.{ℕ}
use mathlib.Core.List.{List, [], ◌∷◌, ◌++◌}
use lib.ListN.{drop, length, replicate, set}
use Rattle.forest.specs.Lists.{same_bytes}
use Rattle.forest.specs.Tables.{rows}
use Rattle.blocks.specs.Layout.{filling_in, list_length_in, misfilled, number_in, response_length_in, rules_before, script_length_in, zeros as allZeros}
use Rattle.blocks.specs.Blocks.{pay_in, payload_in, block_of, framed, filled, first_wrong, low, payload_of, right_block, right_bytes, sum_from, sum_of}
use Rattle.blocks.specs.Blocks.{wrong_from, cut_into}

-- "low byte first"
four_bytes : low 4 65537 ≡ 1 ∷ 0 ∷ 1 ∷ 0 ∷ []
four_bytes = refl

-- "each byte times its position from 1"
positions : sum_of (10 ∷ 20 ∷ 30 ∷ []) ≡ 140
unfolding sum_of sum_from
positions = refl

-- "an empty file is block 0"
empty_file : first_wrong [] ≡ some 0
unfolding first_wrong wrong_from right_block right_bytes block_of sum_of sum_from same_bytes
empty_file = refl

abbrev zeros : List ℕ
zeros = replicate {A = ℕ} 510 0

-- a block of zeros is right, and wrong where its sum is held as 65,521
sum_held : right_bytes (zeros ++ 0 ∷ 0 ∷ []) ≡ true
unfolding right_bytes block_of sum_of sum_from same_bytes
sum_held = refl

sum_not_modulo : right_bytes (zeros ++ 241 ∷ 255 ∷ []) ≡ false
unfolding right_bytes block_of sum_of sum_from same_bytes
sum_not_modulo = refl

-- a file of one block that lacks its last byte
cut_file : first_wrong (zeros ++ 0 ∷ []) ≡ some 0
unfolding first_wrong wrong_from right_block right_bytes block_of sum_of sum_from same_bytes
cut_file = refl

-- payload that ends just at 510 bytes has no spare block
just_one : length (framed zeros) ≡ 512
unfolding framed filled cut_into block_of sum_of sum_from
just_one = refl

-- lengths, texts and lists in their order
payload : payload_of (40 ∷ 41 ∷ []) (42 ∷ []) ((7 ∷ 300 ∷ []) ∷ [] ∷ []) ≡ 2 ∷ 0 ∷ 0 ∷ 0 ∷ 1 ∷ 0 ∷ 0 ∷ 0 ∷ 2 ∷ 0 ∷ 0 ∷ 0 ∷ 40 ∷ 41 ∷ 42 ∷ 7 ∷ 0 ∷ 44 ∷ 1 ∷ []
unfolding payload_of rows
payload = refl

-- ---- the filling, and spare blocks

abbrev empty : List ℕ
empty = zeros ++ 0 ∷ 0 ∷ []

-- two lengths of 0 and eight of 0: 24 bytes are needed, and the rest is zeros
no_texts : misfilled empty ≡ none
unfolding misfilled filling_in script_length_in response_length_in rules_before list_length_in number_in payload_in pay_in allZeros
no_texts = refl

-- "no block is spare"
spare_block : misfilled (empty ++ empty) ≡ some 1
unfolding misfilled filling_in script_length_in response_length_in rules_before list_length_in number_in payload_in pay_in allZeros
spare_block = refl

-- a byte of the filling is not 0; a spare block comes after it
wrong_filling : misfilled (set empty 509 1 ++ empty) ≡ some 0
unfolding misfilled filling_in script_length_in response_length_in rules_before list_length_in number_in payload_in pay_in allZeros
wrong_filling = refl

-- a script of 487 bytes needs a second block
second_needed : misfilled (set (set empty 0 231) 1 1 ++ empty) ≡ none
unfolding misfilled filling_in script_length_in response_length_in rules_before list_length_in number_in payload_in pay_in allZeros
second_needed = refl

-- both lengths are as great as four bytes say: they are added as whole numbers
lengths_past : misfilled (replicate {A = ℕ} 8 255 ++ drop 8 empty) ≡ some 0
unfolding misfilled filling_in script_length_in response_length_in rules_before list_length_in number_in payload_in pay_in allZeros
lengths_past = refl
