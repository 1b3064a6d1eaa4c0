-- One changed byte of a file of right blocks makes its block the first wrong one.
use mathlib.Core.Path.{◌≡◌, refl, sym, ap, ◌∙◌}
use mathlib.Core.Bool.{Bool, true, false, cond}
use mathlib.Core.Option.{Option, none, some}
use Prim.Native.Nat.{ℕ, zero, suc, ◌+◌, ◌*◌, ◌-◌, ◌/◌, ◌<◌, ◌≤◌}
use native.Mathlib.Decide.{dec_lt}
use native.Mathlib.Omega.{arith}
use mathlib.Core.List.{List}
use lib.ListN.{drop, get_or, length, length-set, set, take}
use lib.Seq.{drop-set-add, get_or-drop, take-set-le}
use Rattle.blocks.specs.Blocks.{blocks_in, first_wrong, right_block, right_bytes, wrong_from}
use Rattle.blocks.proofs.Right.{byte_changed}

cond_none : (r : Bool) (x : Option ℕ) (k : ℕ) → cond r x (some k) ≡ none → (r ≡ true) × (x ≡ none)
cond_none true x k e = (refl, e)
cond_none false x k e = let z : ◌≡◌ {A = ℕ} 0 1 = cc in absurd (omega arith)

-- each block is right where none is wrong
pub none_wrong : (file : List ℕ) (k n : ℕ) → wrong_from file k n ≡ none → (j : ℕ) → k ≤ j → j < k + n → right_block file j ≡ true
unfolding wrong_from
none_wrong file k zero e j a b = absurd (omega arith)
none_wrong file k (suc n) e j a b =
    let c = cond_none (right_block file k) (wrong_from file (k + 1) n) k e in
    go c.0 (none_wrong file (k + 1) n c.1 j) (dec_lt k j)
  where
    go : right_block file k ≡ true → (k + 1 ≤ j → j < k + 1 + n → right_block file j ≡ true) → Dec (k < j) → right_block file j ≡ true
    go r more (yes l) = more (omega arith) (omega arith)
    go r more (no l) = let e2 : k ≡ j = omega arith in ap (right_block file) (sym e2) ∙ r

-- and the first wrong one is where all before it are right
first_is : (file : List ℕ) (k n i : ℕ) → k ≤ i → i < k + n → ((j : ℕ) → k ≤ j → j < i → right_block file j ≡ true) → right_block file i ≡ false
    → wrong_from file k n ≡ some i
unfolding wrong_from
first_is file k zero i a b r w = absurd (omega arith)
first_is file k (suc n) i a b r w = go (dec_lt k i) (λ l. first_is file (k + 1) n i l (omega arith) (λ j h h2. r j (omega arith) h2) w)
  where
    go : Dec (k < i) → (k + 1 ≤ i → wrong_from file (k + 1) n ≡ some i) → cond (right_block file k) (wrong_from file (k + 1) n) (some k) ≡ some i
    go (yes l) more = rw (r k (omega arith) l) (more (omega arith))
    go (no l) more =
        let e : i ≡ k = omega arith in ap (λ (t : Bool). cond t (wrong_from file (k + 1) n) (some k)) (ap (right_block file) (sym e) ∙ w) ∙ ap some (sym e)

-- a block before the byte
before : (file : List ℕ) (i b j : ℕ) → j < i / 512 → right_block (set file i b) j ≡ right_block file j
unfolding right_block right_bytes
before file i b j h =
    let n : ℕ = i - 512 * j in
    let en : 512 * j + n ≡ i = omega arith in
    let ed : drop (512 * j) (set file i b) ≡ set (drop (512 * j) file) n b =
    ap (λ (k : ℕ). drop (512 * j) (set file k b)) (sym en) ∙ drop-set-add (512 * j) file n b in
    let e1 : take 512 (drop (512 * j) (set file i b)) ≡ take 512 (drop (512 * j) file) =
    ap (take 512) ed ∙ take-set-le 512 (drop (512 * j) file) n b (omega arith) in
    let e2 : take 510 (drop (512 * j) (set file i b)) ≡ take 510 (drop (512 * j) file) =
    ap (take 510) ed ∙ take-set-le 510 (drop (512 * j) file) n b (omega arith) in
    rw (e1, e2)

module _ (file : List ℕ) (right : first_wrong file ≡ none) (bytes : (k : ℕ) → get_or file k 0 < 256) (i b : ℕ) (inside : i < length file) (byte : b < 256)
    (other : b ≡ get_or file i 0 → ⊥) where
  all_right : (j : ℕ) → j < blocks_in file → right_block file j ≡ true
  unfolding first_wrong
  all_right j h = none_wrong file 0 (blocks_in file) right j (omega arith) (omega arith)

  -- the block of the byte
  its_block : right_block (set file i b) (i / 512) ≡ false
  unfolding right_block
  its_block =
      let k : ℕ = i / 512 in
      let o : ℕ = i - 512 * k in
      let eo : 512 * k + o ≡ i = omega arith in
      let ed : drop (512 * k) (set file i b) ≡ set (drop (512 * k) file) o b =
      ap (λ (x : ℕ). drop (512 * k) (set file x b)) (sym eo) ∙ drop-set-add (512 * k) file o b in
      let g : get_or (drop (512 * k) file) o 0 ≡ get_or file i 0 = get_or-drop (512 * k) file o 0 ∙ ap (λ (x : ℕ). get_or file x 0) eo in
      ap right_bytes ed
      ∙ byte_changed (drop (512 * k) file) (all_right k (omega arith)) (λ x. rw (get_or-drop (512 * k) file x 0) (bytes (512 * k + x))) o b (omega arith) byte
      (λ q. other (q ∙ g))

  -- "any one changed byte makes its block refused"
  pub changed : first_wrong (set file i b) ≡ some (i / 512)
  unfolding first_wrong
  changed =
      first_is (set file i b) 0 (blocks_in (set file i b)) (i / 512) (omega arith) (omega (arith, length-set file i b))
      (λ j l h. before file i b j h ∙ all_right j (omega arith)) its_block
