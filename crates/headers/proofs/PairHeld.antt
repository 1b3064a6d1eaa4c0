-- The words of a pair of a name and a sort, held to those of a declared argument.
use Prim.Native.Nat.{ℕ, ◌+◌}
use native.Mathlib.Omega.{arith}
use mathlib.Core.Path.{◌≡◌, refl, sym, ap, ◌∙◌, subst}
use mathlib.Core.Bool.{Bool, true, false, ◌&&◌, not}
use mathlib.Core.List.{List, ◌∷◌}
use lib.Dec.{eqb}
use borrow.Author.Tests.{eqb-true, not-false, not-true}
use Rattle.std.specs.Prelude.{Option, Some}
use Rattle.forest.specs.Forest.{count, none, tree}
use Rattle.forest.specs.Lists.{same_bytes}
use Rattle.forest.proofs.Bools.{and_left, and_right}
use Rattle.words.specs.Trees.{Lexeme}
use Rattle.lexemes.specs.Lists.{Items, after, inside, is_list, is_symbol, item, name_of}
use Rattle.lexemes.specs.code.Standing.{ItemAt, WordIs}
use Rattle.lexemes.proofs.Listed.{at_item, list_from}
use Rattle.shapes.specs.Shapes.{pair_shape, sort_shape}
use Rattle.written_sorts.specs.code.Places.{SortAt}
use Rattle.written_sorts.proofs.PairParts.{pair_sort}
use Rattle.written_sorts.proofs.Walked.{come_first, item_come, symbol_word, word_is}
use Rattle.names.specs.code.Lookup.{bytes_at, source_of}
use Rattle.names.specs.code.Table.{name_in, sort_in}
use Rattle.headers.specs.code.Compare.{Held, PairAt, PairHeld}
use Rattle.headers.specs.Tokens.{argument_tokens, named, sort_tokens, words_in}
use Rattle.headers.proofs.Held.{closed}
use Rattle.headers.proofs.Worded.{list_held, name_other, name_same, one_by_one, spread, symbol_spelt}

-- What a pair is.
record Pair (l : Lexeme) (ops : Items) : Type 0 where
  listed : is_list l ≡ true
  two : count ops ≡ 2
  symbol : is_symbol (item 0 ops) ≡ true

-- its shape says so
pair : (l : Lexeme) (ops : Items) → pair_shape l ops ≡ true → Pair l ops
pair l ops e =
    let front = is_list l && eqb (count ops) 2 in
    let first = and_left (front && is_symbol (item 0 ops)) (sort_shape (item 1 ops) (inside 1 ops)) e in
    let counted = and_left front (is_symbol (item 0 ops)) first in
    record {
      listed = and_left (is_list l) (eqb (count ops) 2) counted;
      two = eqb-true (count ops) 2 (and_right (is_list l) (eqb (count ops) 2) counted);
      symbol = and_right front (is_symbol (item 0 ops)) first;
    }

module _ {text lexemes names : List ℕ} {at row : ℕ} where
  -- where it stands
  abbrev pair_item : PairAt text lexemes names at row → ItemAt lexemes at
  pair_item p = record {
    source = source_of text lexemes;
    same = refl;
    label = p.label;
    operands = p.operands;
    more = p.more;
    end = p.end;
    stands = p.stands;
  }

  -- its sort
  abbrev pub sort_of_pair : PairAt text lexemes names at row → SortAt lexemes (at + 2)
  sort_of_pair p = pair_sort (record { here = pair_item p; shaped = p.shaped })

  -- its name
  name-word : (p : PairAt text lexemes names at row) → WordIs (source_of text lexemes) (at + 1) (item 0 p.operands)
  name-word p =
      let known = pair p.label p.operands p.shaped in
      let x = list_from (pair_item p) known.listed in
      word_is (item_come x (come_first x) (omega (arith, known.two))).stands (symbol_word (item 0 p.operands) known.symbol)

  -- a pair, by its name and its sort
  by_parts : (p : PairAt text lexemes names at row) {r : Option ℕ}
      → Held (words_in (spread 2 0 p.operands)) (named (name_in names row) ∷ sort_tokens (sort_in names row)) r → PairHeld p r
  unfolding after argument_tokens
  by_parts p {r} h =
      let known = pair p.label p.operands p.shaped in
      let tokens = named (name_in names row) ∷ sort_tokens (sort_in names row) in
      let held = (at_item (pair_item p)).a_list known.listed in
      list_held p.operands tokens held.label
      (closed held.close (subst (λ (F : Items). Held (words_in F) tokens r) (sym (one_by_one 2 0 p.operands known.two)) h))

  module _ {t : Bool} (et : t ≡ same_bytes (name_in names row) (bytes_at text lexemes (at + 1))) where
    -- the test of the word's bytes is one of the name
    name_test : (p : PairAt text lexemes names at row) → same_bytes (name_in names row) (name_of (item 0 p.operands)) ≡ t
    name_test p =
        let known = pair p.label p.operands p.shaped in
        ap (same_bytes (name_in names row)) (sym (symbol_spelt (item 0 p.operands) known.symbol (name-word p))) ∙ sym et

    -- its name is another
    pub pair_other : not t ≡ true → (p : PairAt text lexemes names at row) → PairHeld p (Some (at + 1))
    pair_other e p =
        let known = pair p.label p.operands p.shaped in
        let place = (name-word p).placed in
        by_parts p
        (subst (λ (word : ℕ). Held (words_in (spread 2 0 p.operands)) (named (name_in names row) ∷ sort_tokens (sort_in names row)) (Some word)) place
        (name_other (item 0 p.operands) (name_in names row) known.symbol (name_test p ∙ not-true t e) (inside 0 p.operands)
        (spread 1 1 p.operands) (sort_tokens (sort_in names row))))

    -- its name is the same
    pub pair_sorted : not t ≡ false → {sort : ℕ} → sort ≡ sort_in names row → {r : Option ℕ}
        → ((q : SortAt lexemes (at + 2)) → Held (words_in (tree q.here.label q.here.operands none)) (sort_tokens sort) r)
        → (p : PairAt text lexemes names at row) → PairHeld p r
    pair_sorted e {sort} es {r} by-sort p =
        let known = pair p.label p.operands p.shaped in
        by_parts p
        (name_same (item 0 p.operands) (name_in names row) known.symbol (name_test p ∙ not-false t e) (inside 0 p.operands) (spread 1 1 p.operands)
        (subst (λ (s : ℕ). Held (words_in (spread 1 1 p.operands)) (sort_tokens s) r) es (by-sort (sort_of_pair p))))
