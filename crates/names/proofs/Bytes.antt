-- The bytes of a word, as a part of the text.
use Prim.Native.Nat.{ℕ, ◌-◌, ◌≤◌, min}
use native.Mathlib.Nat.{min-eq_left, min-eq_right}
use native.Mathlib.Omega.{arith}
use mathlib.Core.Path.{◌≡◌, refl, sym, ◌∙◌}
use mathlib.Core.Bool.{Bool, true, false}
use mathlib.Core.List.{List, []}
use lib.Dec.{leb}
use lib.ListN.{drop, length, take, length-drop}
use lib.Seq.{take_all}
use borrow.Author.Tests.{leb-false, leb-true}
use Rattle.lexemes.specs.code.Table.{end_at, start_at}
use Rattle.names.specs.code.Lookup.{bytes_at}

-- A part that ends past the text ends with it.
within : (text : List ℕ) (start end : ℕ) → take (min end (length text) - start) (drop start text) ≡ take (end - start) (drop start text)
within text start end = go (leb end (length text)) refl
  where
    go : (inside : Bool) → leb end (length text) ≡ inside → take (min end (length text) - start) (drop start text) ≡ take (end - start) (drop start text)
    go true e = rw (min-eq_left (leb-true end (length text) e))
    go false e =
        let h = leb-false end (length text) e in
        let l = length-drop start text in
        let all : (n : ℕ) → length text ≤ n → take (n - start) (drop start text) ≡ drop start text =
        λ n k. take_all (n - start) (drop start text) (omega arith) in
        let shorter : length text ≤ end = omega arith in
        rw (min-eq_right shorter) (all (length text) (omega arith) ∙ sym (all end (omega arith)))

module _ (text lexemes : List ℕ) (word : ℕ) {start past end : ℕ} (es : start ≡ start_at lexemes word) (ep : past ≡ end_at lexemes word)
    (ee : end ≡ min past (length text)) where
  -- a word that has bytes
  pub some_bytes : take (end - start) (drop start text) ≡ bytes_at text lexemes word
  some_bytes = rw (ee, ep, es) (within text (start_at lexemes word) (end_at lexemes word))

  -- a word that has none
  pub no_bytes : end ≤ start → [] ≡ bytes_at text lexemes word
  no_bytes h = let z : end - start ≡ 0 = omega arith in rw z at some_bytes
