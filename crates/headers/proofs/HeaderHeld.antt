-- The words of a function's name, arguments and sort, held to those that were declared.
use Prim.Native.Nat.{ℕ, ◌+◌, ◌-◌, ◌*◌, ◌<◌}
use native.Mathlib.Omega.{arith}
use mathlib.Core.Path.{◌≡◌, refl, sym, ap, ◌∙◌, subst}
use mathlib.Core.Bool.{Bool, true, false, ◌&&◌, not}
use mathlib.Core.List.{List, [], ◌∷◌, ◌++◌, append_assoc}
use lib.Dec.{eqb}
use lib.ListN.{length}
use borrow.Author.Tests.{eqb-true, not-false, not-true}
use Rattle.std.specs.Prelude.{Option, Some, is_some, unwrap_or}
use Rattle.forest.specs.Forest.{count, none, tree}
use Rattle.forest.specs.Lists.{same_bytes}
use Rattle.forest.proofs.Bools.{and_left, and_right}
use Rattle.words.specs.Trees.{list}
use Rattle.lexemes.specs.Lists.{Items, inside, is_list, is_symbol, item, name_of}
use Rattle.lexemes.specs.code.Standing.{ItemAt, ListAt, WordIs}
use Rattle.lexemes.specs.code.Table.{next_at, row_width as lexemeWidth}
use Rattle.lexemes.proofs.Listed.{at_item, item_ahead, item_room}
use Rattle.shapes.specs.Shapes.{all, define_fun_shape, header_shape, is_list_of, pair_shape, sort_shape, term_shape}
use Rattle.written_sorts.specs.code.Places.{SortAt}
use Rattle.written_sorts.specs.code.Headers.{HeaderAt}
use Rattle.written_sorts.proofs.HeaderSorts.{header_arguments, header_sort}
use Rattle.written_sorts.proofs.PairParts.{list_between}
use Rattle.written_sorts.proofs.Walked.{Come, come_behind, come_first, item_come, symbol_word, word_is}
use Rattle.names.specs.code.Lookup.{bytes_at, source_of}
use Rattle.names.specs.code.Table.{function_row, name_in, own_argument_row}
use Rattle.headers.specs.code.Compare.{Compared, Differs, Held, PairsAt, PairsHeld}
use Rattle.headers.specs.Tokens.{argument_tokens, closing, header_of, header_tokens, opening, sort_tokens, words_in}
use Rattle.headers.proofs.Held.{held_found}
use Rattle.headers.proofs.Worded.{item_then, item_there, list_held, name_other, name_same, spread, symbol_spelt}

-- What the items of a `define-fun` are.
pub record DefineFun (c : Items) : Type 0 where
  pub five : count c ≡ 5
  pub header : header_shape c ≡ true
  pub symbol : is_symbol (item 1 c) ≡ true

-- its shape says so
pub define-fun : (c : Items) → define_fun_shape c ≡ true → DefineFun c
define-fun c e =
    let front = and_left (eqb (count c) 5 && header_shape c) (term_shape (item 4 c) (inside 4 c)) e in
    let header = and_right (eqb (count c) 5) (header_shape c) front in
    let pairs = is_list_of pair_shape (item 2 c) (inside 2 c) in
    let named = and_left (is_symbol (item 1 c) && pairs) (sort_shape (item 3 c) (inside 3 c)) header in
    record {
      five = eqb-true (count c) 5 (and_left (eqb (count c) 5) (header_shape c) front);
      header = header;
      symbol = and_left (is_symbol (item 1 c)) pairs named;
    }

module _ {text lexemes names : List ℕ} {at function arguments result : ℕ} where
  -- the command's list
  abbrev command_list : Compared text lexemes names at function arguments result → ListAt lexemes at
  command_list p = record {
    source = source_of text lexemes;
    same = refl;
    close = p.close;
    operands = p.command;
    more = p.more;
    end = p.end;
    stands = p.stands;
  }

  -- its header
  abbrev header_at : Compared text lexemes names at function arguments result → HeaderAt lexemes at
  header_at p =
      let known = define-fun p.command p.shaped in
      record { here = command_list p; named = p.named; long = omega (arith, known.five); shaped = known.header }

  -- the name stands behind the command's word
  come_name : (p : Compared text lexemes names at function arguments result) → Come (command_list p) 1 (at + 2)
  come_name p =
      let x = command_list p in
      let known = define-fun p.command p.shaped in
      come_behind x (come_first x) (omega (arith, known.five)) (symbol_word (item 0 p.command) p.named) (omega arith)

  -- the name, where it stands
  abbrev name_item : Compared text lexemes names at function arguments result → ItemAt lexemes (at + 2)
  name_item p = let known = define-fun p.command p.shaped in item_come (command_list p) (come_name p) (omega (arith, known.five))

  -- the word of the name
  name-word : (p : Compared text lexemes names at function arguments result) → WordIs (source_of text lexemes) (at + 2) (item 1 p.command)
  name-word p = let known = define-fun p.command p.shaped in word_is (name_item p).stands (symbol_word (item 1 p.command) known.symbol)

  -- that word is within the table
  pub name_within : Compared text lexemes names at function arguments result → lexemeWidth * (at + 2) < length lexemes
  name_within p = item_room (name_item p)

  module _ {t : Bool} (et : t ≡ same_bytes (name_in names (function_row + function)) (bytes_at text lexemes (at + 2))) where
    -- the test of the word's bytes is one of the name
    name_test : (p : Compared text lexemes names at function arguments result) → same_bytes p.function.name (name_of (item 1 p.command)) ≡ t
    name_test p =
        let known = define-fun p.command p.shaped in
        rw (← symbol_spelt (item 1 p.command) known.symbol (name-word p), ← p.name_is) (sym et)

    -- the name is another
    pub name_differs : not t ≡ true → (nowhere : ℕ) (p : Compared text lexemes names at function arguments result) → Differs p nowhere (at + 2)
    name_differs e nowhere p =
        let known = define-fun p.command p.shaped in
        let place = (name-word p).placed in
        held_found nowhere
        (subst (λ (word : ℕ). Held (words_in (header_of p.command)) (header_tokens p.function) (Some word)) place
        (name_other (item 1 p.command) p.function.name known.symbol (name_test p ∙ not-true t e) (inside 1 p.command) (spread 2 2 p.command) _))

  module _ {pairs : ℕ} (ep : pairs ≡ next_at lexemes (at + 2)) where
    -- the list of the pairs is within the table
    pub pairs_within : Compared text lexemes names at function arguments result → lexemeWidth * pairs < length lexemes
    pairs_within p = item_room (header_arguments (header_at p) ep).here

    module _ {sort : ℕ} (es : sort ≡ next_at lexemes pairs) where
      -- the sort stands behind it
      pub sort_behind : Compared text lexemes names at function arguments result → pairs < sort
      sort_behind p = item_ahead (header_arguments (header_at p) ep).here es

      -- the pairs between the brackets
      abbrev pub pairs_at : Compared text lexemes names at function arguments result
          → PairsAt text lexemes names (pairs + 1) (sort - 1) (own_argument_row function) arguments
      pairs_at p =
          let b = list_between (header_arguments (header_at p) ep) es in
          record {
            items = inside 2 p.command;
            stands = b.between.stands;
            shaped = b.shaped;
            table = p.table;
            fits = omega (arith, p.low, p.few);
            declared = p.function.arguments;
            names_are = p.names_are;
            sorts_are = p.sorts_are;
          }

      -- the function's own sort
      abbrev pub own_sort : Compared text lexemes names at function arguments result → SortAt lexemes sort
      own_sort p = header_sort (header_at p) ep es

      -- the list ends before the sort
      list_is : (p : Compared text lexemes names at function arguments result) → item 2 p.command ≡ list pairs (sort - 1)
      list_is p =
          let x = header_arguments (header_at p) ep in
          let held = (at_item x.here).a_list (and_left (is_list (item 2 p.command)) (all pair_shape (inside 2 p.command)) x.shaped) in
          let close : held.close ≡ sort - 1 = omega (arith, held.next) in
          held.label ∙ ap (list pairs) close

      module _ {t : Bool} (et : t ≡ same_bytes (name_in names (function_row + function)) (bytes_at text lexemes (at + 2))) (e : not t ≡ false) {within : Option ℕ}
          (by-pairs : (q : PairsAt text lexemes names (pairs + 1) (sort - 1) (own_argument_row function) arguments) → PairsHeld q within) where
        -- the list of the pairs, held to the arguments
        listed : (p : Compared text lexemes names at function arguments result)
            → Held (words_in (tree (item 2 p.command) (inside 2 p.command) none)) (opening ∷ (argument_tokens p.function.arguments ++ closing ∷ [])) within
        listed p = list_held (inside 2 p.command) (argument_tokens p.function.arguments) (list_is p) (by-pairs (pairs_at p))

        -- the header, by what stands behind its name
        whole : (p : Compared text lexemes names at function arguments result) {r : Option ℕ}
            → Held (words_in (spread 2 2 p.command)) ((opening ∷ (argument_tokens p.function.arguments ++ closing ∷ [])) ++ sort_tokens result) r
            → Held (words_in (header_of p.command)) (header_tokens p.function) r
        whole p rest =
            let known = define-fun p.command p.shaped in
            let tokens = argument_tokens p.function.arguments in
            let result_is = p.result_is in
            name_same (item 1 p.command) p.function.name known.symbol (name_test et p ∙ not-false t e) (inside 1 p.command)
            (spread 2 2 p.command)
            (rw (append_assoc tokens (closing ∷ []) (sort_tokens result), result_is) at rest)

        -- an argument is another
        pub arguments_differ : is_some within ≡ true → (nowhere : ℕ) (p : Compared text lexemes names at function arguments result)
            → Differs p nowhere (unwrap_or within nowhere)
        arguments_differ differs nowhere p =
            held_found nowhere (whole p (item_there (item 2 p.command) (inside 2 p.command) (spread 1 3 p.command) _ (listed p) differs))

        -- they are the same, and the sort decides
        pub sort_decides : is_some within ≡ false → {own : Option ℕ}
            → ((q : SortAt lexemes sort) → Held (words_in (tree q.here.label q.here.operands none)) (sort_tokens result) own)
            → (nowhere : ℕ) {found : ℕ} → found ≡ unwrap_or own nowhere
            → (p : Compared text lexemes names at function arguments result) → Differs p nowhere found
        sort_decides same_pairs by-sort nowhere found_is p =
            found_is
            ∙ held_found nowhere
            (whole p (item_then (item 2 p.command) (inside 2 p.command) (spread 1 3 p.command) (listed p) same_pairs (by-sort (own_sort p))))
