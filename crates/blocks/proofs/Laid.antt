-- The lists that an area shows are those that were laid out in it; and the length of their file.
use mathlib.Core.Path.{◌≡◌, refl, sym, ap, ◌∙◌}
use mathlib.Core.Bool.{Bool, true, false, cond}
use mathlib.Core.Option.{none}
use Prim.Native.Nat.{ℕ, zero, suc, ◌+◌, ◌*◌, ◌-◌, ◌/◌, ◌<◌, ◌≤◌}
use native.Mathlib.Omega.{arith}
use mathlib.Core.List.{List, [], ◌∷◌, ◌++◌, append_assoc}
use lib.Dec.{eqb}
use lib.ListN.{drop, get_or, length, length-append, length-replicate, replicate, take}
use lib.Seq.{drop_at, drop-drop, get_or-drop, take_at}
use borrow.Author.Tests.{ne_eqb}
use Rattle.forest.specs.Tables.{rows}
use Rattle.blocks.specs.Blocks.{file_of, payload_of}
use Rattle.blocks.specs.Layout.{Storable, file_fault}
use Rattle.blocks.specs.code.Lists.{file_length, rules_in}
use Rattle.blocks.specs.code.Shown.{area_of, list_shown, list_with, lists_shown, lists_shown_from, rules_shown}
use Rattle.blocks.proofs.Cutting.{framed_length}
use Rattle.blocks.proofs.Stored.{payload_size, stored_right}
use Rattle.blocks.proofs.Putting.{list_short}

-- there are eight lists
shown_count : (shown : List ℕ) (j n : ℕ) → length (lists_shown_from shown j n) ≡ n
unfolding lists_shown_from
shown_count shown j zero = refl
shown_count shown j (suc n) = ap suc (shown_count shown (j + 1) n)

pub shown_eight : (shown : List ℕ) → length (lists_shown shown) ≡ 8
shown_eight shown = shown_count shown 0 8

-- the length of a file, by its parts
pub file-length : (script response : List ℕ) (lists : List (List ℕ)) → length lists ≡ 8
    → length (file_of script response lists) ≡ file_length (length script) (length response) (rules_in lists)
file-length script response lists e =
    let n = payload_size script response lists in
    let z : length (payload_of script response lists) ≡ 24 + length script + length response + 2 * rules_in lists = omega arith in
    framed_length (payload_of script response lists) ∙ ap (λ (m : ℕ). 512 * ((m + 509) / 510)) z

-- entries that are not used show no rule
blank_shown : (k m : ℕ) → rules_shown (take k (replicate m 65535)) ≡ []
unfolding rules_shown
blank_shown zero m = refl
blank_shown (suc k) zero = refl
blank_shown (suc k) (suc m) = refl

drop_replicate : (k m : ℕ) → drop k (replicate {A = ℕ} m 65535) ≡ replicate (m - k) 65535
drop_replicate zero m = let z : m ≡ m - 0 = omega arith in ap (λ (n : ℕ). replicate n 65535) z
drop_replicate (suc k) zero = let z : 0 ≡ 0 - suc k = omega arith in ap (λ (n : ℕ). replicate n 65535) z
drop_replicate (suc k) (suc m) = let z : m - k ≡ suc m - suc k = omega arith in drop_replicate k m ∙ ap (λ (n : ℕ). replicate n 65535) z

-- the rules before them are shown
list-shown : (list : List ℕ) (m : ℕ) → ((k : ℕ) → get_or list k 0 < 65535) → rules_shown (list ++ replicate m 65535) ≡ list
unfolding rules_shown
list-shown [] zero h = refl
list-shown [] (suc m) h = refl
list-shown (x ∷ list) m h =
    let l : x < 65535 = h 0 in
    let t : eqb x 65535 ≡ false = ne_eqb x 65535 (λ e. omega arith) in
    rw t (ap (λ (l : List ℕ). x ∷ l) (list-shown list m (λ k. h (suc k))))

with_length : (list : List ℕ) → length list ≤ 4096 → length (list_with list) ≡ 4096
with_length list h = omega (arith, length-append list (replicate (4096 - length list) 65535), length-replicate {A = ℕ} (4096 - length list) 65535)

-- the lists of n functions from j on, where some are laid out and the others are absent
laid_from : (shown : List ℕ) (n j m : ℕ) (lists : List (List ℕ)) → length lists ≤ n → ((i : ℕ) → length (get_or lists i []) ≤ 4096)
    → ((i k : ℕ) → get_or (get_or lists i []) k 0 < 65535)
    → drop (4096 * j) shown ≡ rows list_with lists ++ replicate m 65535
    → lists_shown_from shown j n ≡ lists ++ replicate (n - length lists) []
unfolding lists_shown_from list_shown rows
laid_from shown zero j m [] c h r e = refl
laid_from shown zero j m (list ∷ lists) c h r e = absurd (omega arith)
laid_from shown (suc n) j m [] c h r e =
    let z : 4096 * (j + 1) ≡ 4096 * j + 4096 = omega arith in
    let d : drop (4096 * (j + 1)) shown ≡ replicate (m - 4096) 65535 =
    ap (λ (k : ℕ). drop k shown) z ∙ sym (drop-drop 4096 (4096 * j) shown) ∙ ap (drop 4096) e ∙ drop_replicate 4096 m in
    let y : suc (n - 0) ≡ suc n - 0 = omega arith in
    ap (λ (l : List ℕ). l ∷ lists_shown_from shown (j + 1) n) (ap (λ (l : List ℕ). rules_shown (take 4096 l)) e ∙ blank_shown 4096 m)
    ∙ ap (λ (l : List (List ℕ)). [] ∷ l) (laid_from shown n (j + 1) (m - 4096) [] (omega arith) h r d)
    ∙ ap (λ (k : ℕ). replicate k []) y
laid_from shown (suc n) j m (list ∷ lists) c h r e =
    let rest : List ℕ = rows list_with lists ++ replicate m 65535 in
    let a : drop (4096 * j) shown ≡ list_with list ++ rest = e ∙ append_assoc (list_with list) (rows list_with lists) (replicate m 65535) in
    let z : 4096 * (j + 1) ≡ 4096 * j + 4096 = omega arith in
    let d : drop (4096 * (j + 1)) shown ≡ rest =
    ap (λ (k : ℕ). drop k shown) z
    ∙ sym (drop-drop 4096 (4096 * j) shown)
    ∙ ap (drop 4096) a
    ∙ drop_at (list_with list) rest 4096 (with_length list (h 0)) in
    let y : n - length lists ≡ suc n - suc (length lists) = omega arith in
    ap (λ (l : List ℕ). l ∷ lists_shown_from shown (j + 1) n)
    (
    ap (λ (l : List ℕ). rules_shown (take 4096 l)) a
    ∙ ap rules_shown (take_at (list_with list) rest 4096 (with_length list (h 0)))
    ∙ list-shown list (4096 - length list) (r 0)
    )
    ∙ ap (λ (l : List (List ℕ)). list ∷ l) (laid_from shown n (j + 1) m lists (omega arith) (λ i. h (suc i)) (λ i. r (suc i)) d)
    ∙ ap (λ (k : ℕ). list ∷ (lists ++ replicate k [])) y

-- the lists of an area are those that it shows, "0 for absent functions"
pub lists-shown : (lists : List (List ℕ)) → length lists ≤ 8 → ((i : ℕ) → length (get_or lists i []) ≤ 4096) → ((i k : ℕ) → get_or (get_or lists i []) k 0 < 65535)
    → lists_shown (area_of lists) ≡ lists ++ replicate (8 - length lists) []
unfolding area_of
lists-shown lists c h r = laid_from (area_of lists) 8 0 (32768 - length (rows list_with lists)) lists c h r refl

-- ---- what an area of 16-bit numbers shows can be stored

shown_bytes : (l : List ℕ) (b : ℕ) → 0 < b → ((k : ℕ) → get_or l k 0 < b) → (k : ℕ) → get_or (rules_shown l) k 0 < b
unfolding rules_shown
shown_bytes [] b some h k = some
shown_bytes (x ∷ l) b some h k = go (eqb x 65535) k (shown_bytes l b some (λ i. h (suc i)))
  where
    go : (t : Bool) (k : ℕ) → ((k : ℕ) → get_or (rules_shown l) k 0 < b) → get_or (cond t [] (x ∷ rules_shown l)) k 0 < b
    go true k more = some
    go false zero more = h 0
    go false (suc k) more = more k

part_small : (m n : ℕ) (l : List ℕ) → ((k : ℕ) → get_or l k 0 < 65536) → (k : ℕ) → get_or (take m (drop n l)) k 0 < 65536
part_small m n l h k = go (drop n l) (λ i. rw (get_or-drop n l i 0) (h (n + i))) m k
  where
    go : (l : List ℕ) → ((k : ℕ) → get_or l k 0 < 65536) → (m k : ℕ) → get_or (take m l) k 0 < 65536
    go l h zero k = omega arith
    go [] h (suc m) k = omega arith
    go (b ∷ l) h (suc m) zero = h 0
    go (b ∷ l) h (suc m) (suc k) = go l (λ i. h (suc i)) m k

module _ (shown : List ℕ) where
  all_short : (n j i : ℕ) → length (get_or (lists_shown_from shown j n) i []) < 65536
  unfolding lists_shown_from
  all_short zero j i = omega arith
  all_short (suc n) j zero = omega (arith, list_short shown j)
  all_short (suc n) j (suc i) = all_short n (j + 1) i

  all-rules : ((k : ℕ) → get_or shown k 0 < 65536) → (n j i k : ℕ) → get_or (get_or (lists_shown_from shown j n) i []) k 0 < 65536
  unfolding lists_shown_from list_shown
  all-rules h zero j i k = omega arith
  all-rules h (suc n) j zero k =
      shown_bytes (take 4096 (drop (4096 * j) shown)) 65536 (omega arith) (part_small 4096 (4096 * j) shown h) k
  all-rules h (suc n) j (suc i) k = all-rules h n (j + 1) i k

  module _ (script response : List ℕ) (s : length script < 4294967296) (r : length response < 4294967296) (h : (k : ℕ) → get_or shown k 0 < 65536) where
    pub shown_storable : Storable script response (lists_shown shown)
    shown_storable =
        record {
          script_short = s;
          response_short = r;
          eight = shown_eight shown;
          short = all_short 8 0;
          rules = all-rules h 8 0;
        }

    -- "Whatever our writer makes is accepted": no block of what `write_file` writes is refused
    pub written_right : file_fault (file_of script response (lists_shown shown)) ≡ none
    written_right = stored_right script response (lists_shown shown) shown_storable
