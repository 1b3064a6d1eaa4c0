-- The file of two texts of bytes is a file of bytes.
use Prim.Native.Nat.{ℕ, zero, suc, ◌-◌, ◌/◌, ◌%◌}
use native.Mathlib.Omega.{arith}
use mathlib.Core.List.{List, [], ◌∷◌, ◌++◌}
use lib.ListN.{drop, length, replicate, take}
use lib.Seq.{get_or-drop}
use Rattle.forest.specs.Tables.{rows}
use Rattle.blocks.specs.Blocks.{block_of, cut_into, file_of, filled, framed, low, pay_size, payload_of, sum_of}
use Rattle.evidence.specs.Evidence.{Bytes}
use Rattle.evidence.proofs.Storing.{both_low}

-- The bytes of a number.
low_bytes : (size n : ℕ) → Bytes (low size n)
low_bytes zero n k = omega arith
low_bytes (suc size) n zero = omega arith
low_bytes (suc size) n (suc k) = low_bytes size (n / 256) k

-- Rows of bytes.
rows_bytes : {A : Type 0} (row : A → List ℕ) → ((a : A) → Bytes (row a)) → (all : List A) → Bytes (rows row all)
unfolding rows
rows_bytes row each [] k = omega arith
rows_bytes row each (a ∷ more) k = both_low (row a) (rows row more) (each a) (rows_bytes row each more) k

-- Zeros.
zero_bytes : (n : ℕ) → Bytes (replicate n 0)
zero_bytes zero k = omega arith
zero_bytes (suc n) zero = omega arith
zero_bytes (suc n) (suc k) = zero_bytes n k

-- The first of them.
first_bytes : (n : ℕ) (bytes : List ℕ) → Bytes bytes → Bytes (take n bytes)
first_bytes zero bytes h k = omega arith
first_bytes (suc n) [] h k = omega arith
first_bytes (suc n) (b ∷ bytes) h zero = h 0
first_bytes (suc n) (b ∷ bytes) h (suc k) = first_bytes n bytes (λ i. h (suc i)) k

-- The others.
later_bytes : (n : ℕ) (bytes : List ℕ) → Bytes bytes → Bytes (drop n bytes)
later_bytes n bytes h k = rw (get_or-drop n bytes k 0) (h _)

-- Blocks of them.
cut_bytes : (n : ℕ) (pay : List ℕ) → Bytes pay → Bytes (cut_into n pay)
unfolding cut_into block_of
cut_bytes zero pay h k = omega arith
cut_bytes (suc n) pay h k =
    both_low (block_of (take pay_size pay)) (cut_into n (drop pay_size pay))
    (both_low (take pay_size pay) (low 2 (sum_of (take pay_size pay))) (first_bytes pay_size pay h) (low_bytes 2 (sum_of (take pay_size pay))))
    (cut_bytes n (drop pay_size pay) (later_bytes pay_size pay h)) k

module _ (script response : List ℕ) (lists : List (List ℕ)) (in-script : Bytes script) (in-response : Bytes response) where
  -- The payload.
  payload_bytes : Bytes (payload_of script response lists)
  unfolding payload_of
  payload_bytes =
      let counts = low 4 (length script) ++ low 4 (length response) in
      let lengths = rows (λ (list : List ℕ). low 2 (length list)) lists in
      let rules = rows (rows (low 2)) lists in
      let in-counts : Bytes counts =
      both_low (low 4 (length script)) (low 4 (length response)) (low_bytes 4 (length script)) (low_bytes 4 (length response)) in
      let in-lengths : Bytes lengths = rows_bytes (λ (list : List ℕ). low 2 (length list)) (λ list. low_bytes 2 (length list)) lists in
      let in-rules : Bytes rules = rows_bytes (rows (low 2)) (λ list. rows_bytes (low 2) (low_bytes 2) list) lists in
      let to-script = both_low (counts ++ lengths) script (both_low counts lengths in-counts in-lengths) in-script in
      both_low (counts ++ lengths ++ script ++ response) rules (both_low (counts ++ lengths ++ script) response to-script in-response) in-rules

  -- The file.
  pub file_bytes : Bytes (file_of script response lists)
  unfolding framed filled
  file_bytes =
      let payload = payload_of script response lists in
      let n : ℕ = (pay_size - length payload % pay_size) % pay_size in
      cut_bytes (length (filled payload) / pay_size) (filled payload) (both_low payload (replicate n 0) payload_bytes (zero_bytes n))
