-- The file of two texts and eight lists has no fault, and says them again.
use mathlib.Core.Path.{◌≡◌, refl, sym, ap, ◌∙◌}
use mathlib.Core.Bool.{true, false}
use mathlib.Core.Option.{none}
use Prim.Native.Nat.{ℕ, zero, suc, ◌+◌, ◌*◌, ◌-◌, ◌%◌, ◌<◌}
use native.Mathlib.Nat.{add-zero}
use native.Mathlib.Omega.{arith}
use mathlib.Core.List.{List, [], ◌∷◌, ◌++◌, append_assoc}
use lib.Dec.{ltb}
use lib.ListN.{drop, get_or, length, length-append, replicate, take}
use lib.Seq.{drop-append_seam, drop_at, drop-drop, take-append_seam, take_at}
use borrow.Author.Tests.{le-ltb}
use Rattle.forest.specs.Tables.{rows}
use Rattle.forest.proofs.Rows.{length_rows}
use Rattle.blocks.specs.Blocks.{file_of, filled, low, number_of, payload_in, payload_of}
use Rattle.blocks.specs.Layout.{Storable, file_fault, filling_in, last_needed, list_at, list_in, list_length_in, lists_from, lists_in, misfilled, needed_in}
use Rattle.blocks.specs.Layout.{number_in, pairs, response_in, response_length_in, rules_before, script_in, script_length_in, zeros}
use Rattle.blocks.specs.code.Lists.{lengths_of, rules_in, rules_of}
use Rattle.blocks.proofs.Cutting.{cut_whole, filled_length, filled_long, filled_short, payload_again}
use Rattle.blocks.proofs.Numbers.{number_low}

pub rules_two : (list : List ℕ) → length (rows (low 2) list) ≡ 2 * length list
rules_two list = length_rows (low 2) 2 (λ n. refl) list

pub lengths_two : (lists : List (List ℕ)) → length (lengths_of lists) ≡ 2 * length lists
lengths_two lists = length_rows (λ (list : List ℕ). low 2 (length list)) 2 (λ list. refl) lists

pub rules_length : (lists : List (List ℕ)) → length (rules_of lists) ≡ 2 * rules_in lists
unfolding rows rules_in
rules_length [] = refl
rules_length (list ∷ more) = omega (arith, length-append (rows (low 2) list) (rules_of more), rules_two list, rules_length more)

pub payload_size : (script response : List ℕ) (lists : List (List ℕ))
    → length (payload_of script response lists) ≡ 8 + 2 * length lists + length script + length response + 2 * rules_in lists
unfolding payload_of
payload_size script response lists =
    omega (
      arith,
      length-append (lengths_of lists ++ script ++ response) (rules_of lists),
      length-append (lengths_of lists ++ script) response,
      length-append (lengths_of lists) script,
      lengths_two lists,
      rules_length lists,
    )

-- rules are told by their bytes
pairs_again : (list : List ℕ) → ((k : ℕ) → get_or list k 0 < 65536) → pairs (rows (low 2) list) ≡ list
unfolding pairs rows
pairs_again [] h = refl
pairs_again (n ∷ list) h =
    ap (λ (m : ℕ). m ∷ pairs (rows (low 2) list)) (number_low 2 n (h 0)) ∙ ap (λ (l : List ℕ). n ∷ l) (pairs_again list (λ k. h (suc k)))

-- the lists from j on, where their lengths and their rules stand
lists_are : (file : List ℕ) (lists : List (List ℕ)) (j : ℕ) (X Y : List ℕ) → ((i : ℕ) → length (get_or lists i []) < 65536)
    → ((i k : ℕ) → get_or (get_or lists i []) k 0 < 65536)
    → drop (8 + 2 * j) (payload_in file) ≡ lengths_of lists ++ X
    → drop (list_at file j) (payload_in file) ≡ rules_of lists ++ Y
    → (lists_from file j (length lists) ≡ lists) × (rules_before file (j + length lists) ≡ rules_before file j + rules_in lists)
unfolding rows lists_from rules_in rules_before list_in list_length_in number_in
lists_are file [] j X Y hs hr ex ey = (refl, ap (rules_before file) (add-zero j) ∙ sym (add-zero (rules_before file j)))
lists_are file (list ∷ lists) j X Y hs hr ex ey =
    let P = payload_in file in
    let n : ℕ = 2 * length list in
    let el : list_length_in file j ≡ length list = ap (λ (d : List ℕ). number_of (take 2 d)) ex ∙ number_low 2 (length list) (hs 0) in
    let ea : drop (list_at file j) P ≡ rows (low 2) list ++ (rules_of lists ++ Y) = ey ∙ append_assoc (rows (low 2) list) (rules_of lists) Y in
    let ei : list_in file j ≡ list =
    ap (λ (m : ℕ). pairs (take (2 * m) (drop (list_at file j) P))) el
    ∙ ap (λ (d : List ℕ). pairs (take n d)) ea
    ∙ ap pairs (take_at (rows (low 2) list) (rules_of lists ++ Y) n (rules_two list))
    ∙ pairs_again list (hr 0) in
    let z : 8 + 2 * suc j ≡ 8 + 2 * j + 2 = omega arith in
    let nx : drop (8 + 2 * suc j) P ≡ lengths_of lists ++ X =
    ap (λ (m : ℕ). drop m P) z ∙ sym (drop-drop 2 (8 + 2 * j) P) ∙ ap (drop 2) ex in
    let y : list_at file (suc j) ≡ list_at file j + n = omega (arith, el) in
    let ny : drop (list_at file (suc j)) P ≡ rules_of lists ++ Y =
    ap (λ (m : ℕ). drop m P) y
    ∙ sym (drop-drop n (list_at file j) P)
    ∙ ap (drop n) ea
    ∙ drop_at (rows (low 2) list) (rules_of lists ++ Y) n (rules_two list) in
    let more = lists_are file lists (suc j) X Y (λ i. hs (suc i)) (λ i. hr (suc i)) nx ny in
    let w : j + suc (length lists) ≡ suc j + length lists = omega arith in
    let er : rules_before file (j + suc (length lists)) ≡ rules_before file (suc j) + rules_in lists = ap (rules_before file) w ∙ more.1 in (
      ap (λ (l : List ℕ). l ∷ lists_from file (suc j) (length lists)) ei ∙ ap (λ (m : List (List ℕ)). list ∷ m) more.0,
      omega (arith, er, el),
    )

zeros_taken : (m n : ℕ) → zeros (take m (replicate n 0)) ≡ true
unfolding zeros
zeros_taken zero n = refl
zeros_taken (suc m) zero = refl
zeros_taken (suc m) (suc n) = zeros_taken m n

pub regroup : (a b c d e : List ℕ) → a ++ b ++ c ++ d ++ e ≡ a ++ (b ++ (c ++ (d ++ e)))
regroup a b c d e = simp append_assoc

module _ (script response : List ℕ) (lists : List (List ℕ)) (s : Storable script response lists) where
  abbrev payload : List ℕ
  payload = payload_of script response lists

  abbrev file : List ℕ
  file = file_of script response lists

  abbrev filling : List ℕ
  filling = replicate ((510 - length (payload_of script response lists) % 510) % 510) 0

  -- from the lengths of lists on
  from_lengths : drop 8 (payload_in file) ≡ lengths_of lists ++ (script ++ (response ++ (rules_of lists ++ filling)))
  unfolding filled payload_of
  from_lengths =
      ap (drop 8) (payload_again payload) ∙ regroup (lengths_of lists) script response (rules_of lists) filling

  from_script : drop 24 (payload_in file) ≡ script ++ (response ++ (rules_of lists ++ filling))
  from_script =
      sym (drop-drop 16 8 (payload_in file))
      ∙ ap (drop 16) from_lengths
      ∙ drop_at (lengths_of lists) (script ++ (response ++ (rules_of lists ++ filling))) 16 (lengths_two lists ∙ omega (arith, s.eight))

  from_response : drop (24 + length script) (payload_in file) ≡ response ++ (rules_of lists ++ filling)
  from_response =
      sym (drop-drop (length script) 24 (payload_in file)) ∙ ap (drop (length script)) from_script ∙ drop-append_seam script (response ++ (rules_of lists ++ filling))

  from_rules : drop (24 + length script + length response) (payload_in file) ≡ rules_of lists ++ filling
  from_rules =
      sym (drop-drop (length response) (24 + length script) (payload_in file))
      ∙ ap (drop (length response)) from_response
      ∙ drop-append_seam response (rules_of lists ++ filling)

  script-length : script_length_in file ≡ length script
  unfolding script_length_in number_in filled payload_of
  script-length = ap (λ (p : List ℕ). number_of (take 4 p)) (payload_again payload) ∙ number_low 4 (length script) s.script_short

  response-length : response_length_in file ≡ length response
  unfolding response_length_in number_in filled payload_of
  response-length = ap (λ (p : List ℕ). number_of (take 4 (drop 4 p))) (payload_again payload) ∙ number_low 4 (length response) s.response_short

  -- the script, the response and the lists again
  pub script_again : script_in (file_of script response lists) ≡ script
  unfolding script_in
  script_again =
      ap (λ (n : ℕ). take n (drop 24 (payload_in file))) script-length
      ∙ ap (take (length script)) from_script
      ∙ take-append_seam script (response ++ (rules_of lists ++ filling))

  pub response_again : response_in (file_of script response lists) ≡ response
  unfolding response_in
  response_again =
      ap (λ (n : ℕ). take (response_length_in file) (drop (24 + n) (payload_in file))) script-length
      ∙ ap (λ (n : ℕ). take n (drop (24 + length script) (payload_in file))) response-length
      ∙ ap (take (length response)) from_response
      ∙ take-append_seam response (rules_of lists ++ filling)

  both : (lists_from file 0 (length lists) ≡ lists) × (rules_before file (0 + length lists) ≡ rules_before file 0 + rules_in lists)
  unfolding rules_before
  both =
      let z : list_at file 0 ≡ 24 + length script + length response = omega (arith, script-length, response-length) in
      lists_are file lists 0 (script ++ (response ++ (rules_of lists ++ filling))) filling s.short s.rules from_lengths
      (ap (λ (n : ℕ). drop n (payload_in file)) z ∙ from_rules)

  pub lists_again : lists_in (file_of script response lists) ≡ lists
  lists_again = ap (lists_from file 0) (sym s.eight) ∙ both.0

  needed_is : needed_in file ≡ length payload
  unfolding rules_before
  needed_is =
      let z : 8 ≡ 0 + length lists = omega (arith, s.eight) in
      let e : rules_before file 8 ≡ rules_before file (0 + length lists) = ap (rules_before file) z in
      omega (arith, e, both.1, script-length, response-length, payload_size script response lists, s.eight)

  -- no length is past the file, and it is filled as it must be
  filled_right : misfilled file ≡ none
  unfolding misfilled filling_in filled
  filled_right =
      let l : length (payload_in file) ≡ length (filled payload) = ap length (payload_again payload) in
      let a = filled_length payload in
      let b = filled_long payload in
      let d = filled_short payload in
      let n = payload_size script response lists in
      let e1 : ltb (length (payload_in file)) (needed_in file) ≡ false = le-ltb (length (payload_in file)) (needed_in file) (omega (arith, needed_is)) in
      let e2 : zeros (take (510 * (last_needed file + 1) - needed_in file) (drop (needed_in file) (payload_in file))) ≡ true =
      ap (λ (p : List ℕ). zeros (take (510 * (last_needed file + 1) - needed_in file) p))
      (
      ap (λ (m : ℕ). drop m (payload_in file)) needed_is
      ∙ ap (drop (length payload)) (payload_again payload)
      ∙ drop-append_seam payload filling
      )
      ∙ zeros_taken (510 * (last_needed file + 1) - needed_in file) ((510 - length payload % 510) % 510) in
      let e3 : ltb (510 * (last_needed file + 1)) (length (payload_in file)) ≡ false =
      le-ltb (510 * (last_needed file + 1)) (length (payload_in file)) (omega (arith, needed_is)) in
      rw (e1, e2, e3)

  -- "Whatever our writer makes is accepted": no block of it is refused
  pub stored_right : file_fault (file_of script response lists) ≡ none
  unfolding file_fault
  stored_right = rw (cut_whole payload (omega (arith, payload_size script response lists))) filled_right
