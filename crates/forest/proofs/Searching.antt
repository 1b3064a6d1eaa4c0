-- Laws of the search: two lists of bytes read side by side, and the slot of a word.
use Prim.Native.Nat.{ℕ, zero, suc, ◌+◌, ◌*◌, ◌-◌, ◌%◌, ◌≤◌, ◌<◌}
use native.Mathlib.Nat.{add_assoc, add-zero, mod-lt, suc-add}
use native.Mathlib.Numerals.{add-one}
use native.Mathlib.Omega.{arith}
use mathlib.Core.Path.{◌≡◌, refl, sym, ap, ap₂, subst, ◌∙◌}
use mathlib.Core.Bool.{Bool, true, false, cond}
use mathlib.Core.List.{List, [], ◌∷◌, ◌++◌, append_assoc}
use lib.Pointwise.{pointwise}
use lib.Dec.{T, eqb, lit<, ltb}
use lib.ListN.{drop, get_or, length, take, drop_of_length-le, length-append}
use lib.Seq.{drop-append_seam, take-append_seam}
use borrow.Author.Tests.{eqb-true, le-ltb, lt-ltb}
use Rattle.forest.specs.Lists.{same_bytes}
use Rattle.forest.proofs.Bools.{and_left, and_right, apart, each, every}
use Rattle.forest.proofs.Lists.{drop_next}
use Rattle.forest.specs.Search.{place_in}
use Rattle.forest.specs.code.Search.{Rising, Slotted, SlotsOf, TablesOf, ends_from, joined, slot_count, slot_from, slot_of, starts_of, words_in}

-- lists of bytes that are the same are equal
pub same_bytes_lem : (u v : List ℕ) → same_bytes u v ≡ true → u ≡ v
unfolding same_bytes
same_bytes_lem [] [] e = refl
same_bytes_lem [] (b ∷ v) e = apart e
same_bytes_lem (a ∷ u) [] e = apart e
same_bytes_lem (a ∷ u) (b ∷ v) e = ap₂ ◌∷◌ (eqb-true a b (and_left (eqb a b) (same_bytes u v) e)) (same_bytes_lem u v (and_right (eqb a b) _ e))

-- as `==` tests them
pub same_pointwise : (u v : List ℕ) → pointwise eqb u v ≡ same_bytes u v
unfolding same_bytes
same_pointwise [] [] = refl
same_pointwise [] (b ∷ v) = refl
same_pointwise (a ∷ u) [] = refl
same_pointwise (a ∷ u) (b ∷ v) = rw (same_pointwise u v)

-- ---- the words, one after the other

-- word k of those that stand in `names`
abbrev pub word_in : (names starts : List ℕ) → ℕ → List ℕ
word_in names starts k = take (get_or starts (k + 1) 0 - get_or starts k 0) (drop (get_or starts k 0) names)

-- one word less than starts
pub length_words : (names starts : List ℕ) → length (words_in names starts) ≡ length starts - 1
unfolding words_in
length_words names [] = refl
length_words names (start ∷ []) = refl
length_words names (start ∷ end ∷ more) = omega (arith, length_words names (end ∷ more))

-- word k of them
pub word_at : (names starts : List ℕ) (k : ℕ) → k < length starts - 1 → get_or (words_in names starts) k [] ≡ word_in names starts k
unfolding words_in
word_at names [] k h = absurd (omega arith)
word_at names (start ∷ []) k h = absurd (omega arith)
word_at names (start ∷ end ∷ more) zero h = refl
word_at names (start ∷ end ∷ more) (suc k) h = rw suc-add (word_at names (end ∷ more) k (omega arith))

-- ---- the slot of a word

-- a slot is one of those that there are
slot_small : (slot : ℕ) (word : List ℕ) → slot < slot_count → slot_from slot word < slot_count
unfolding slot_from
slot_small slot [] h = h
slot_small slot (b ∷ word) h = slot_small ((7 * slot + b) % slot_count) word (mod-lt (7 * slot + b) (lit< tt))

-- the slot of the bytes so far, and of those that are left
pub record Slotting (word : List ℕ) (slot k : ℕ) : Type 0 where
  pub reached : k ≤ length word
  pub small : slot < slot_count
  pub left : slot_from slot (drop k word) ≡ slot_of word

-- no byte is read at first
pub slot_begins : (word : List ℕ) → Slotting word 13 0
slot_begins word = record { reached = omega arith; small = lit< tt; left = refl }

module _ {word : List ℕ} {slot k : ℕ} (now : Slotting word slot k) where
  -- one byte more
  pub slot_goes : k < length word → Slotting word ((7 * slot + get_or word k 0) % slot_count) (k + 1)
  unfolding slot_from
  slot_goes h = record { reached = omega arith; small = mod-lt (7 * slot + get_or word k 0) (lit< tt); left = rw (drop_next word k h) at now.left }

  -- all of them
  pub slot_ends : length word ≤ k → slot ≡ slot_of word
  unfolding slot_from
  slot_ends h = rw (drop_of_length-le word h) at now.left

-- a test that cannot pass fails
not_so : (t : Bool) → (t ≡ true → ⊥) → t ≡ false
not_so true h = absurd (h refl)
not_so false h = refl

-- no word is the word that is searched
none_placed : (words : List (List ℕ)) (j : ℕ) (word : List ℕ) → ((k : ℕ) → k < length words → same_bytes (get_or words k []) word ≡ false)
    → place_in words j word ≡ j + length words
unfolding place_in
none_placed [] j word h = sym (add-zero j)
none_placed (w ∷ words) j word h =
    rw (h 0 (omega arith)) (none_placed words (j + 1) word (λ k l. h (suc k) (omega arith)) ∙ omega arith)

-- word k is the first that is it
first_placed : (words : List (List ℕ)) (j k : ℕ) (word : List ℕ) → k < length words → same_bytes (get_or words k []) word ≡ true
    → ((i : ℕ) → i < k → same_bytes (get_or words i []) word ≡ false) → place_in words j word ≡ j + k
unfolding place_in
first_placed [] j k word h e f = absurd (omega arith)
first_placed (w ∷ words) j zero word h e f = rw (e, add-zero j) refl
first_placed (w ∷ words) j (suc k) word h e f =
    rw (f 0 (omega arith)) (first_placed words (j + 1) k word (omega arith) e (λ i l. f (suc i) (omega arith)) ∙ omega arith)

module _ {names starts slots : List ℕ} (s : Slotted names starts slots) (word : List ℕ) {slot : ℕ} (there : slot ≡ slot_of word) where
  -- the slot of a word is one of the table's
  pub slot_within : slot < length slots
  slot_within = rw (s.long, there) (slot_small 13 word (lit< tt))

  -- a word that is the word stands in its slot
  only : (k : ℕ) → k < length starts - 1 → same_bytes (get_or (words_in names starts) k []) word ≡ true → k ≡ get_or slots slot 0
  only k h e =
      let same = same_bytes_lem (get_or (words_in names starts) k []) word e in
      sym (ap (λ (n : ℕ). get_or slots n 0) (there ∙ ap slot_of (sym same)) ∙ s.slotted k (omega arith))

  -- no word is the word, if that in its slot is not
  none_there : (get_or slots slot 0 < length starts - 1 → same_bytes (word_in names starts (get_or slots slot 0)) word ≡ false)
      → length starts - 1 ≡ place_in (words_in names starts) 0 word
  none_there f = omega (arith, length_words names starts, none_placed (words_in names starts) 0 word others)
    where
      others : (k : ℕ) → k < length (words_in names starts) → same_bytes (get_or (words_in names starts) k []) word ≡ false
      others k l =
          let h : k < length starts - 1 = omega (arith, length_words names starts) in
          not_so (same_bytes (get_or (words_in names starts) k []) word)
          (λ t.
          let e = only k h t in
          let same = subst (λ (p : ℕ). same_bytes (word_in names starts p) word ≡ true) e (rw (word_at names starts k h) at t) in
          apart (sym (f (omega arith)) ∙ same))

  -- there is none in its slot
  pub slot_empty : length starts - 1 ≤ get_or slots slot 0 → length starts - 1 ≡ place_in (words_in names starts) 0 word
  slot_empty h = none_there (λ l. absurd (omega arith))

  module _ (h : get_or slots slot 0 < length starts - 1) {t : Bool} (e : t ≡ same_bytes (word_in names starts (get_or slots slot 0)) word) where
    -- that in its slot is the word
    pub slot_finds : t ≡ true → get_or slots slot 0 ≡ place_in (words_in names starts) 0 word
    slot_finds q =
        let same : same_bytes (get_or (words_in names starts) (get_or slots slot 0) []) word ≡ true = rw (word_at names starts (get_or slots slot 0) h) (sym e ∙ q) in
        omega (arith, first_placed (words_in names starts) 0 (get_or slots slot 0) word (rw (length_words names starts) h) same others)
      where
        others : (i : ℕ) → i < get_or slots slot 0 → same_bytes (get_or (words_in names starts) i []) word ≡ false
        others i l = not_so (same_bytes (get_or (words_in names starts) i []) word) (λ t. omega (arith, only i (omega arith) t))

    -- it is another
    pub slot_other : t ≡ false → length starts - 1 ≡ place_in (words_in names starts) 0 word
    slot_other q = none_there (λ l. sym e ∙ q)

-- ---- words by their own lists

length_ends : (start : ℕ) (words : List (List ℕ)) → length (ends_from start words) ≡ length words
length_ends start [] = refl
length_ends start (w ∷ words) = ap suc (length_ends (start + length w) words)

ends_rise : (start : ℕ) (words : List (List ℕ)) (k : ℕ) → k < length words → get_or (start ∷ ends_from start words) k 0 ≤ get_or (ends_from start words) k 0
ends_rise start [] k h = absurd (omega arith)
ends_rise start (w ∷ words) zero h = omega arith
ends_rise start (w ∷ words) (suc k) h = ends_rise (start + length w) words k (omega arith)

ends_within : (start : ℕ) (words : List (List ℕ)) (k : ℕ) → k ≤ length words → get_or (start ∷ ends_from start words) k 0 ≤ start + length (joined words)
ends_within start words zero h = omega arith
ends_within start [] (suc k) h = absurd (omega arith)
ends_within start (w ∷ words) (suc k) h = omega (arith, length-append w (joined words), ends_within (start + length w) words k (omega arith))

-- the search may be asked among them
pub rising : (words : List (List ℕ)) → Rising (joined words) (starts_of words)
rising words =
    let long = length_ends 0 words in
    record {
      some = omega arith;
      rises = λ k h. rw add-one (ends_rise 0 words k (omega arith));
      within = λ k h. omega (arith, ends_within 0 words k (omega arith));
    }

words_behind : (front : List ℕ) (words : List (List ℕ)) → words_in (front ++ joined words) (length front ∷ ends_from (length front) words) ≡ words
unfolding words_in
words_behind front [] = refl
words_behind front (w ∷ words) =
    let size : length front + length w - length front ≡ length w = omega arith in
    let first : take (length w) (drop (length front) (front ++ (w ++ joined words))) ≡ w = rw (drop-append_seam front, take-append_seam w) in
    let whole : words_in (front ++ (w ++ joined words)) ((length front + length w) ∷ ends_from (length front + length w) words) ≡ words =
    rw (← append_assoc front w (joined words), ← length-append front w) (words_behind (front ++ w) words) in
    rw (size, first) (ap (λ (l : List (List ℕ)). w ∷ l) whole)

-- and they are the words that it goes through
pub words_are : (words : List (List ℕ)) → words_in (joined words) (starts_of words) ≡ words
words_are words = words_behind [] words

-- the slots are theirs, if the slot of each has its place
pub slotted : (words : List (List ℕ)) (slots : List ℕ) → length slots ≡ slot_count
    → T (every (length words) (λ (k : ℕ). eqb (get_or slots (slot_of (get_or words k [])) 0) k))
    → SlotsOf words slots
slotted words slots long t =
    record {
      rising = rising words;
      long = long;
      slotted = λ k h.
          rw (words_are words)
          (eqb-true _ k (each (length words) (λ (k : ℕ). eqb (get_or slots (slot_of (get_or words k [])) 0) k) t k (omega (arith, length_ends 0 words))));
    }

module _ {words : List (List ℕ)} {names starts slots : List ℕ} (tables : TablesOf words names starts slots) where
  -- the search may be asked of their tables
  pub tables_slotted : Slotted names starts slots
  tables_slotted = rw (tables.names_are, tables.starts_are) tables.slots_are

  -- and goes through them
  pub tables_words : words_in names starts ≡ words
  tables_words = rw (tables.names_are, tables.starts_are) (words_are words)

-- ---- the search through words that stand behind others

-- a place is not past the last word
pub place_bound : (words : List (List ℕ)) (k : ℕ) (word : List ℕ) → place_in words k word ≤ k + length words
unfolding place_in
place_bound [] k word = omega arith
place_bound (w ∷ words) k word = go (same_bytes w word) (place_bound words (k + 1) word)
  where
    go : (t : Bool) → place_in words (k + 1) word ≤ k + 1 + length words → cond t k (place_in words (k + 1) word) ≤ k + suc (length words)
    go true h = omega arith
    go false h = omega arith

-- the place counted from a greater number
pub place_later : (words : List (List ℕ)) (j k : ℕ) (word : List ℕ) → place_in words (j + k) word ≡ j + place_in words k word
unfolding place_in
place_later [] j k word = refl
place_later (w ∷ words) j k word = go (same_bytes w word) (place_in words (k + 1) word) (place_later words j (k + 1) word)
  where
    go : (t : Bool) (later : ℕ) → place_in words (j + (k + 1)) word ≡ j + later → cond t (j + k) (place_in words (j + k + 1) word) ≡ j + cond t k later
    go true later e = refl
    go false later e = rw add_assoc e

-- a word that is not among the first is searched among the others
pub place_append : (words others : List (List ℕ)) (k : ℕ) (word : List ℕ)
    → place_in (words ++ others) k word ≡ cond (ltb (place_in words k word) (k + length words)) (place_in words k word) (place_in others (k + length words) word)
unfolding place_in
place_append [] others k word = rw (add-zero k, le-ltb k k (omega arith))
place_append (w ∷ words) others k word =
    let sum : k + suc (length words) ≡ k + 1 + length words = omega arith in
    rw sum (go (same_bytes w word) (k + 1 + length words) (place_in words (k + 1) word) (omega arith) (place_append words others (k + 1) word))
  where
    go : (t : Bool) (end later : ℕ) → k < end → place_in (words ++ others) (k + 1) word ≡ cond (ltb later end) later (place_in others end word)
        → cond t k (place_in (words ++ others) (k + 1) word) ≡ cond (ltb (cond t k later) end) (cond t k later) (place_in others end word)
    go true end later h e = rw (lt-ltb k end h)
    go false end later h e = e
