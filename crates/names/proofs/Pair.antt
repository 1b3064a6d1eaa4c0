-- A pair that stands at a word: its name, its sort, and the row that they are put into.
use Prim.Native.Nat.{ℕ, ◌+◌, ◌*◌, ◌≤◌, ◌<◌}
use native.Mathlib.Omega.{arith}
use mathlib.Core.Path.{◌≡◌, refl, ◌∙◌}
use mathlib.Core.Bool.{true, ◌&&◌}
use mathlib.Core.List.{List}
use lib.Dec.{eqb}
use lib.ListN.{length}
use lib.Seq.{sets}
use Rattle.forest.specs.Forest.{count}
use Rattle.forest.proofs.Bools.{and_left, and_right}
use Rattle.operators.specs.Sorts.{max_width}
use Rattle.words.specs.Trees.{Lexeme, word_of}
use Rattle.lexemes.specs.Lists.{Items, inside, is_list, is_symbol, item, name_of}
use Rattle.lexemes.specs.code.Standing.{ItemAt}
use Rattle.lexemes.proofs.Listed.{item_room, list_from}
use Rattle.lexemes.specs.code.Table.{row_width as lexemeWidth}
use Rattle.shapes.specs.Shapes.{pair_shape, sort_shape}
use Rattle.written_sorts.specs.code.Places.{ShapedAt, SortAt}
use Rattle.written_sorts.specs.Written.{sort_of}
use Rattle.written_sorts.proofs.PairParts.{pair_sort, sorted}
use Rattle.written_sorts.proofs.Walked.{come_first, item_come}
use Rattle.names.specs.code.Lookup.{bytes_at, source_of}
use Rattle.names.specs.code.Table.{longest, name_row, row_count, row_width, words_told}
use Rattle.names.specs.code.New.{Few, NewName, PairAt, PairPut}
use Rattle.names.specs.declared.Scope.{Scope}
use Rattle.names.proofs.NewNameTested.{SymbolAt, symbol_at}

-- The name of a pair is a symbol.
pub name_symbol : (l : Lexeme) (ops : Items) → pair_shape l ops ≡ true → is_symbol (item 0 ops) ≡ true
name_symbol l ops e =
    let front = is_list l && eqb (count ops) 2 in
    and_right front (is_symbol (item 0 ops)) (and_left (front && is_symbol (item 0 ops)) (sort_shape (item 1 ops) (inside 1 ops)) e)

module _ {text lexemes names : List ℕ} {row i : ℕ} (p : PairAt text lexemes names row i) where
  -- an item of the shape of pairs stands there
  abbrev pub pair_here : ShapedAt pair_shape lexemes i
  pair_here = record {
    here = record {
      source = source_of text lexemes;
      same = refl;
      label = p.label;
      operands = p.operands;
      more = p.more;
      end = p.end;
      stands = p.stands;
    };
    shaped = p.shaped;
  }

  -- within the table of lexemes
  pub pair_room : lexemeWidth * i < length lexemes
  pair_room = item_room pair_here.here

  -- its name stands at the next word
  abbrev pub name_item : ItemAt lexemes (i + 1)
  name_item =
      let s = sorted p.label p.operands 2 p.shaped in
      let list = list_from pair_here.here s.a_list in
      item_come list (come_first list) (omega (arith, s.long))

  -- it is a new name
  abbrev pub name_here : {scope : Scope} → Few scope → {first n : ℕ} → first + n ≤ row_count → NewName text lexemes names scope first n (i + 1)
  name_here few fits = record {
    label = name_item.label;
    operands = name_item.operands;
    more = name_item.more;
    end = name_item.end;
    stands = name_item.stands;
    a_symbol = name_symbol p.label p.operands p.shaped;
    table = p.table;
    few = few;
    fits = fits;
  }

  symbol_here : SymbolAt text lexemes (i + 1) (item 0 p.operands)
  symbol_here = symbol_at name_item.stands (name_symbol p.label p.operands p.shaped)

  -- the sort stands at the word behind it
  abbrev pub sort_here : SortAt lexemes (i + 2)
  sort_here = pair_sort pair_here

  -- the name is not too long for a row
  pub name_fits : length (name_of (item 0 p.operands)) ≤ longest
  name_fits = rw (← symbol_here.spelled) (p.short (i + 1) (omega (arith, symbol_here.coded)))

  -- nor its word too high for one
  pub word_fits : word_of (item 0 p.operands) < words_told
  word_fits = rw symbol_here.is_placed (p.low_words (i + 1) (omega (arith, symbol_here.coded)))

  -- the word behind that of the pair
  pub next_fits : i + 1 < words_told
  next_fits = rw (← symbol_here.is_placed) word_fits

  module _ {bytes : List ℕ} (eb : bytes ≡ bytes_at text lexemes (i + 1)) where
    bytes_are : bytes ≡ name_of (item 0 p.operands)
    bytes_are = eb ∙ symbol_here.spelled

    pub bytes_fit : length bytes ≤ longest
    bytes_fit = rw bytes_are name_fits

  module _ {sort : ℕ} (es : (q : SortAt lexemes (i + 2)) → sort ≡ sort_of q.here.label q.here.operands) where
    -- nor the sort too wide
    pub sort_small : sort ≤ max_width
    sort_small = omega (arith, es sort_here, p.narrow)

    -- name, word and sort are put into the row
    pub pair_put : {bytes : List ℕ} → bytes ≡ bytes_at text lexemes (i + 1) → {after : List ℕ} → after ≡ sets names (row_width * row) (name_row sort (i + 1) bytes)
        → PairPut p after
    pair_put eb e = rw (← es sort_here, ← bytes_are eb, symbol_here.is_placed) e
