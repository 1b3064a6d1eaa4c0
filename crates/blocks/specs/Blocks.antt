-- The evidence file: its payload, and the blocks that it is cut into.
use Rattle.std.specs.Prelude.{Bool, cond, ℕ, zero, suc, ◌+◌, ◌*◌, ◌-◌, ◌/◌, ◌%◌, max, List, [], ◌∷◌, ◌++◌, drop, length, replicate, take}
use Rattle.std.proofs.Math.Option.{Option, none, some}
use Rattle.forest.specs.Lists.{same_bytes}
use Rattle.forest.specs.Tables.{rows}

-- The bytes of a number, "low byte first".
abbrev pub low : (size n : ℕ) → List ℕ
low zero n = []
low (suc size) n = n % 256 ∷ low size (n / 256)

-- The number of bytes, low byte first.
abbrev pub number_of : List ℕ → ℕ
number_of [] = 0
number_of (b ∷ more) = b + 256 * number_of more

-- "blocks of 512 bytes"
abbrev pub block_size : ℕ
block_size = 512

-- "510 payload bytes"
abbrev pub pay_size : ℕ
pay_size = 510

-- "the sum of each byte times its position", the first byte's position being `position`.
unfoldable pub sum_from : (position : ℕ) → List ℕ → ℕ
sum_from position [] = 0
sum_from position (b ∷ more) = position * b + sum_from (position + 1) more

-- "the sum of each byte times its position from 1, modulo 65,521"
unfoldable pub sum_of : (pay : List ℕ) → ℕ
sum_of pay = sum_from 1 pay % 65521

-- The block of payload bytes: "510 payload bytes, then two bytes, low first, holding the sum".
unfoldable pub block_of : (pay : List ℕ) → List ℕ
block_of pay = pay ++ low 2 (sum_of pay)

-- "script length, response length (4 bytes each, low byte first), eight derivation lengths (2 bytes each, 0 for absent functions), script, response,
-- derivations (2 bytes a rule)"
unfoldable pub payload_of : (script response : List ℕ) → (lists : List (List ℕ)) → List ℕ
payload_of script response lists =
    low 4 (length script)
    ++ low 4 (length response)
    ++ rows (λ (list : List ℕ). low 2 (length list)) lists
    ++ script
    ++ response
    ++ rows (rows (low 2)) lists

-- "zeros", as many as fill the last block.
unfoldable pub filled : (payload : List ℕ) → List ℕ
filled payload = payload ++ replicate ((pay_size - length payload % pay_size) % pay_size) 0

-- The blocks of the first n · 510 bytes.
unfoldable pub cut_into : (n : ℕ) → List ℕ → List ℕ
cut_into zero pay = []
cut_into (suc n) pay = block_of (take pay_size pay) ++ cut_into n (drop pay_size pay)

-- "It is cut into blocks of 512 bytes": a payload with its zeros, in blocks.
unfoldable pub framed : (payload : List ℕ) → List ℕ
framed payload = cut_into (length (filled payload) / pay_size) (filled payload)

-- The file of a script, a response and the lists of rules.
abbrev pub file_of : (script response : List ℕ) → (lists : List (List ℕ)) → List ℕ
file_of script response lists = framed (payload_of script response lists)

-- The bytes begin with a right block: their first 512 are the block of their first 510. Fewer than 512 do not: their block is cut short.
unfoldable pub right_bytes : List ℕ → Bool
right_bytes bytes = same_bytes (take block_size bytes) (block_of (take pay_size bytes))

-- Block k of a file is right.
unfoldable pub right_block : (file : List ℕ) → (k : ℕ) → Bool
right_block file k = right_bytes (drop (block_size * k) file)

-- How many blocks a file has, a last one that is cut short among them; "an empty file is block 0".
abbrev pub blocks_in : (file : List ℕ) → ℕ
blocks_in file = max 1 ((length file + 511) / block_size)

-- The first of the n blocks from k on that is cut short or has a wrong sum.
unfoldable pub wrong_from : (file : List ℕ) → (k n : ℕ) → Option ℕ
wrong_from file k zero = none
wrong_from file k (suc n) = cond (right_block file k) (wrong_from file (k + 1) n) (some k)

-- "the first cut short or with a wrong sum"
unfoldable pub first_wrong : (file : List ℕ) → Option ℕ
first_wrong file = wrong_from file 0 (blocks_in file)

-- The payload bytes of the first n blocks.
unfoldable pub pay_in : (n : ℕ) → List ℕ → List ℕ
pay_in zero file = []
pay_in (suc n) file = take pay_size file ++ pay_in n (drop block_size file)

-- The payload bytes of a file, those of a last block that is cut short left out.
unfoldable pub payload_in : (file : List ℕ) → List ℕ
payload_in file = pay_in (length file / block_size) file
