-- What the payload of an evidence file says: its lengths, its texts and its lists, and whether it is filled as it must be.
use Rattle.std.specs.Prelude.{◌≡◌, Bool, true, cond, ◌&&◌, ℕ, zero, suc, ◌+◌, ◌*◌, ◌-◌, ◌/◌, ◌<◌, List, [], ◌∷◌, eqb, ltb, drop, get_or, length, take}
use Rattle.std.proofs.Math.Option.{Option, none, some}
use Rattle.forest.specs.Limits.{most_functions}
use Rattle.blocks.specs.Blocks.{first_wrong, number_of, payload_in, pay_size}

-- The number that `size` payload bytes hold from `at` on, "low byte first".
unfoldable pub number_in : (payload : List ℕ) → (at size : ℕ) → ℕ
number_in payload at size = number_of (take size (drop at payload))

-- "script length .. (4 bytes each, low byte first)"
unfoldable pub script_length_in : (file : List ℕ) → ℕ
script_length_in file = number_in (payload_in file) 0 4

-- "response length (4 bytes each, low byte first)"
unfoldable pub response_length_in : (file : List ℕ) → ℕ
response_length_in file = number_in (payload_in file) 4 4

-- "eight derivation lengths (2 bytes each, 0 for absent functions)": that of function j, a number of rules.
unfoldable pub list_length_in : (file : List ℕ) → (j : ℕ) → ℕ
list_length_in file j = number_in (payload_in file) (8 + 2 * j) 2

-- How many rules the lists of the functions before j have.
unfoldable pub rules_before : (file : List ℕ) → (j : ℕ) → ℕ
rules_before file zero = 0
rules_before file (suc j) = rules_before file j + list_length_in file j

-- Where the list of function j begins in the payload: behind the lengths, both texts and the lists before it.
abbrev pub list_at : (file : List ℕ) → (j : ℕ) → ℕ
list_at file j = 24 + script_length_in file + response_length_in file + 2 * rules_before file j

-- How many payload bytes the lengths, the texts and all eight lists take.
abbrev pub needed_in : (file : List ℕ) → ℕ
needed_in file = list_at file most_functions

-- "script"
unfoldable pub script_in : (file : List ℕ) → List ℕ
script_in file = take (script_length_in file) (drop 24 (payload_in file))

-- "response"
unfoldable pub response_in : (file : List ℕ) → List ℕ
response_in file = take (response_length_in file) (drop (24 + script_length_in file) (payload_in file))

-- The numbers that bytes hold two by two: "2 bytes a rule". Of a file without a fault there is no single one at the end.
unfoldable pub pairs : List ℕ → List ℕ
pairs [] = []
pairs (a ∷ []) = a ∷ []
pairs (a ∷ b ∷ more) = number_of (a ∷ b ∷ []) ∷ pairs more

-- "derivations (2 bytes a rule)": the list of function j.
unfoldable pub list_in : (file : List ℕ) → (j : ℕ) → List ℕ
list_in file j = pairs (take (2 * list_length_in file j) (drop (list_at file j) (payload_in file)))

-- What a file can hold: a length of a text has 4 bytes, there are eight lists, and 2 bytes hold the length of a list and a rule.
pub record Storable (script response : List ℕ) (lists : List (List ℕ)) : Type 0 where
  pub script_short : length script < 4294967296
  pub response_short : length response < 4294967296
  pub eight : length lists ≡ most_functions
  pub short : (j : ℕ) → length (get_or lists j []) < 65536
  pub rules : (j k : ℕ) → get_or (get_or lists j []) k 0 < 65536

-- The lists of n functions from j on.
unfoldable pub lists_from : (file : List ℕ) → (j n : ℕ) → List (List ℕ)
lists_from file j zero = []
lists_from file j (suc n) = list_in file j ∷ lists_from file (suc j) n

-- The eight lists.
abbrev pub lists_in : (file : List ℕ) → List (List ℕ)
lists_in file = lists_from file 0 most_functions

-- Whether bytes are zeros.
unfoldable pub zeros : List ℕ → Bool
zeros [] = true
zeros (b ∷ more) = eqb b 0 && zeros more

-- The last block that is needed: it holds the last of the payload bytes that are.
abbrev pub last_needed : (file : List ℕ) → ℕ
last_needed file = (needed_in file - 1) / pay_size

-- What fills the last needed block.
unfoldable pub filling_in : (file : List ℕ) → List ℕ
filling_in file = take (pay_size * (last_needed file + 1) - needed_in file) (drop (needed_in file) (payload_in file))

-- "then 0 for lengths past the file; then the first spare or wrongly filled"
unfoldable pub misfilled : (file : List ℕ) → Option ℕ
misfilled file =
    let spare = cond (ltb (pay_size * (last_needed file + 1)) (length (payload_in file))) (some (last_needed file + 1)) none in
    let filled = cond (zeros (filling_in file)) spare (some (last_needed file)) in
    cond (ltb (length (payload_in file)) (needed_in file)) (some 0) filled

-- The one, or where there is none the other.
abbrev pub or_else : Option ℕ → Option ℕ → Option ℕ
or_else none later = later
or_else (some k) later = some k

-- The place of answer 21: "block number: the first cut short or with a wrong sum; then 0 for lengths past the file; then the first spare or wrongly filled"
unfoldable pub file_fault : (file : List ℕ) → Option ℕ
file_fault file = or_else (first_wrong file) (misfilled file)
