-- Lists that hold words alone, read word by word.
use Prim.Native.Nat.{ℕ, zero, suc, ◌+◌, ◌≤◌}
use Prim.Native.String.{String}
use native.Mathlib.Omega.{arith}
use mathlib.Core.Path.{◌≡◌, refl, sym, ap, ap₂, ◌∙◌, subst}
use mathlib.Core.Bool.{Bool, true, false, ◌&&◌, and_assoc, and-false}
use mathlib.Core.List.{List, [], ◌∷◌}
use lib.Dec.{eqb, eqb-suc-suc, leb, ltb}
use lib.ListN.{replicate}
use borrow.Author.Tests.{eqb-true, le-leb, leb-true, ltb-true, ne_eqb}
use Rattle.forest.specs.Forest.{count, none, tree}
use Rattle.forest.proofs.Bools.{and_left, and_right}
use Rattle.lexemes.proofs.Numbers.{is_known}
use Rattle.lexemes.specs.Lists.{Items, after, all_numerals, indexed, indexed_by, is, is_constant, is_constant_word, is_list, is_numeral, item}
use Rattle.words.specs.Trees.{Lexeme}
use Rattle.lexemes.specs.code.Codes.{other_code}
use Rattle.lexemes.specs.code.Table.{close_code, code_at, code_of, numeral_code, open_code}
use Rattle.lexemes.specs.code.Standing.{ItemAt, Source, Stands}
use Rattle.lexemes.proofs.ByCode.{code-for, code_for, front_constant, front_code, front_word, list_code, not_close, numeral-code}
use Rattle.lexemes.proofs.Standing.{front, here}
use Rattle.lexemes.proofs.Listed.{at_item}

-- what a code is to be
pub data Wanted : Type 0 where
  exactly : (code : ℕ) → Wanted
  past : (code : ℕ) → Wanted

-- whether a code is so
abbrev pub meets : Wanted → (code : ℕ) → Bool
meets (exactly k) code = eqb code k
meets (past k) code = ltb k code

-- the least code that is so
abbrev least_of : Wanted → ℕ
least_of (exactly k) = k
least_of (past k) = suc k

met_least : (k : Wanted) (code : ℕ) → meets k code ≡ true → least_of k ≤ code
met_least (exactly k) code e = omega (arith, eqb-true code k e)
met_least (past k) code e = omega (arith, ltb-true k code e)

-- whether the items are words of such codes, and no more
abbrev pub spelled : (codes : List Wanted) → Items → Bool
spelled [] F = eqb (front_code F) close_code
spelled (k ∷ more) F = meets k (front_code F) && spelled more (after 1 F)

-- whether the words from word at + n on have such codes, and a bracket closes behind them; where an earlier test has passed or not
abbrev pub reads_after : Bool → (lexemes : List ℕ) → (at n : ℕ) → (codes : List Wanted) → Bool
reads_after passed lexemes at n [] = passed && eqb (code_at lexemes (at + n)) close_code
reads_after passed lexemes at n (k ∷ more) = reads_after (passed && meets k (code_at lexemes (at + n))) lexemes at (suc n) more

-- whether such codes are those of words that are no brackets
abbrev pub plain : List Wanted → Bool
plain [] = true
plain (k ∷ more) = leb numeral_code (least_of k) && plain more

-- a word that is followed by others
pub behind_word : {s : Source} {lexemes : List ℕ} → s.lexemes ≡ lexemes → {i c : ℕ} (F : Items) → Stands s i F c → numeral_code ≤ front_code F
    → Stands s (i + 1) (after 1 F) c
unfolding after
behind_word same none stands h = absurd (omega arith)
behind_word {s} same {i} {c} (tree l ops more) stands h =
    let x = here same stands in
    let word : is_list l ≡ false = list_code l ∙ ne_eqb (code_of l) open_code (λ e. omega arith) in
    subst (λ (j : ℕ). Stands s j more c) (x.a_word word).0 x.rest

failed : (lexemes : List ℕ) (at n : ℕ) (codes : List Wanted) → reads_after false lexemes at n codes ≡ false
failed lexemes at n [] = refl
failed lexemes at n (k ∷ more) = failed lexemes at (suc n) more

-- word by word a list is read as it is spelled
reads : {s : Source} {lexemes : List ℕ} → s.lexemes ≡ lexemes → (passed : Bool) (at n c : ℕ) (codes : List Wanted) (F : Items) → plain codes ≡ true
    → Stands s (at + n) F c → code_at lexemes c ≡ close_code → reads_after passed lexemes at n codes ≡ passed && spelled codes F
reads same passed at n c [] F p stands closed = ap (λ (k : ℕ). passed && eqb k close_code) (front same stands closed)
reads {s} {lexemes} same passed at n c (k ∷ more) F p stands closed =
    rw (front same stands closed)
    (go (meets k (front_code F)) refl (reads same (passed && true) at (suc n) c more (after 1 F) (and_right (leb numeral_code (least_of k)) (plain more) p)))
  where
    go : (b : Bool) → meets k (front_code F) ≡ b
        → (Stands s (at + suc n) (after 1 F) c → code_at lexemes c ≡ close_code
        → reads_after (passed && true) lexemes at (suc n) more ≡ (passed && true) && spelled more (after 1 F))
        → reads_after (passed && b) lexemes at (suc n) more ≡ passed && (b && spelled more (after 1 F))
    go true e later =
        let high = leb-true numeral_code (least_of k) (and_left (leb numeral_code (least_of k)) (plain more) p) in
        let next : at + n + 1 ≡ at + suc n = omega arith in
        later (subst (λ (j : ℕ). Stands s j (after 1 F) c) next (behind_word same F stands (omega (arith, met_least k (front_code F) e)))) closed
        ∙ and_assoc passed true (spelled more (after 1 F))
    go false e later = rw (and-false passed) (failed lexemes at (suc n) more)

pub after_two : (F : Items) → after 2 F ≡ after 1 (after 1 F)
unfolding after
after_two none = refl
after_two (tree l ops more) = refl

-- n numerals and no more
numerals : (n : ℕ) (F : Items) → eqb (count F) n && all_numerals F ≡ spelled (replicate n (exactly numeral_code)) F
unfolding after all_numerals count
numerals zero none = refl
numerals zero (tree l ops more) = rw (not_close l, ne_eqb (suc (count more)) 0 (λ e. omega arith))
numerals (suc n) none = rw (ne_eqb 0 (suc n) (λ e. omega arith))
numerals (suc n) (tree l ops more) =
    rw (← numerals n more, ← numeral-code l, eqb-suc-suc (count more) n) (swap (eqb (count more) n) (is_numeral l) (all_numerals more))
  where
    swap : (a b c : Bool) → a && (b && c) ≡ b && (a && c)
    swap true b c = refl
    swap false b c = sym (and-false b)

-- the codes of `_`, a word and n numerals
abbrev pub indexed_codes : Wanted → ℕ → List Wanted
indexed_codes word n = exactly (code_for "_") ∷ word ∷ replicate n (exactly numeral_code)

plain_numerals : (n : ℕ) → plain (replicate n (exactly numeral_code)) ≡ true
plain_numerals zero = refl
plain_numerals (suc n) = plain_numerals n

plain_word : (w : String) → leb numeral_code (code_for w) ≡ true
plain_word w = le-leb numeral_code (code_for w) (omega (arith, code-for w))

underscore_known : is_known "_" ≡ true
unfolding code_for
underscore_known = refl

-- lists whose second word passes a test that goes by its code
module _ (test : Lexeme → Bool) (word : Wanted) (high : leb numeral_code (least_of word) ≡ true)
    (tells : (F : Items) → test (item 1 F) ≡ meets word (front_code (after 1 F))) (n : ℕ) where
  indexed_spelt : (F : Items) → indexed_by test n F ≡ spelled (indexed_codes word n) F
  unfolding after
  indexed_spelt F =
      let rest = after 2 F in
      ap₂ (λ (a b : Bool). a && b && eqb (count rest) n && all_numerals rest) (front_word "_" underscore_known 0 F) (tells F)
      ∙ regroup (eqb (front_code F) (code_for "_")) (meets word (front_code (after 1 F))) (eqb (count rest) n) (all_numerals rest)
      ∙ ap (λ (t : Bool). eqb (front_code F) (code_for "_") && (meets word (front_code (after 1 F)) && t))
      (numerals n rest ∙ ap (spelled (replicate n (exactly numeral_code))) (after_two F))
    where
      regroup : (a b c d : Bool) → a && b && c && d ≡ a && (b && (c && d))
      regroup true true c d = refl
      regroup true false c d = refl
      regroup false b c d = refl

  -- an item that is such a list, read word by word
  list_read : {lexemes : List ℕ} {at : ℕ} (x : ItemAt lexemes at)
      → reads_after (eqb (code_at lexemes at) open_code) lexemes at 1 (indexed_codes word n) ≡ is_list x.label && indexed_by test n x.operands
  list_read {lexemes} {at} x = rw (indexed_spelt x.operands, (at_item x).code, ← list_code x.label) (go (is_list x.label) refl)
    where
      codes : List Wanted
      codes = indexed_codes word n

      go : (b : Bool) → is_list x.label ≡ b → reads_after b lexemes at 1 codes ≡ b && spelled codes x.operands
      go true e =
          let h = (at_item x).a_list e in
          reads x.same true at 1 h.close codes x.operands (rw (plain_word "_", high) (plain_numerals n)) h.stands h.closes
      go false e = failed lexemes at 1 codes

-- `(_ BitVec n)` and `(_ extract i j)`
pub indexed_read : {lexemes : List ℕ} {at : ℕ} (word : String) → is_known word ≡ true → (n : ℕ) (x : ItemAt lexemes at)
    → reads_after (eqb (code_at lexemes at) open_code) lexemes at 1 (indexed_codes (exactly (code_for word)) n) ≡ is_list x.label && indexed word n x.operands
indexed_read word k n = list_read (is word) (exactly (code_for word)) (plain_word word) (front_word word k 1) n

-- `(_ bvN n)`
pub constant_read : {lexemes : List ℕ} {at : ℕ} (x : ItemAt lexemes at)
    → reads_after (eqb (code_at lexemes at) open_code) lexemes at 1 (indexed_codes (past other_code) 1) ≡ is_list x.label && is_constant x.operands
constant_read = list_read is_constant_word (past other_code) refl (front_constant 1) 1
