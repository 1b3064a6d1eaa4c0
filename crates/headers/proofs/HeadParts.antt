-- The parts of a head: where its name, its arguments and its sort stand, and what they are.
use Prim.Native.Nat.{ℕ, ◌+◌, ◌-◌, ◌*◌, ◌≤◌, ◌<◌, min}
use native.Mathlib.Omega.{arith}
use mathlib.Core.Path.{◌≡◌, refl, ap₂, ◌∙◌}
use mathlib.Core.Bool.{Bool, true, ◌&&◌}
use mathlib.Core.List.{List}
use lib.ListN.{length}
use Rattle.forest.proofs.Bools.{and_left}
use Rattle.words.specs.Trees.{word_of}
use Rattle.lexemes.specs.Lists.{Items, inside, is_symbol, item, name_of}
use Rattle.lexemes.specs.code.Table.{next_at, row_width as lexemeWidth}
use Rattle.lexemes.specs.code.Standing.{Between, ItemAt}
use Rattle.lexemes.proofs.Listed.{item_ahead, item_room, list_room}
use Rattle.shapes.specs.Shapes.{header_shape, is_list_of, pair_shape, sort_shape}
use Rattle.term_nodes.specs.Rules.{item_past}
use Rattle.written_sorts.specs.code.Places.{AllBetween}
use Rattle.written_sorts.specs.code.Headers.{HeaderAt}
use Rattle.written_sorts.specs.Written.{header_place}
use Rattle.written_sorts.specs.declared.Fault.TheVariants.{TooWide}
use Rattle.written_sorts.proofs.HeaderSorts.{header_arguments}
use Rattle.written_sorts.proofs.PairParts.{list_between}
use Rattle.written_sorts.proofs.Walked.{Come, come_behind, come_first, item_come, symbol_word}
use Rattle.names.specs.code.Lookup.{bytes_at, source_of}
use Rattle.names.specs.code.Table.{longest, words_told}
use Rattle.names.specs.declared.Scope.{Scope}
use Rattle.names.proofs.NewNameTested.{SymbolAt, symbol_at}
use Rattle.forest.specs.Limits.{allowed, most_arguments}
use Rattle.headers.specs.code.Heads.{HeadAt, HeadLimited}

-- The name of a command with a header is a symbol.
name_symbol : (c : Items) → header_shape c ≡ true → is_symbol (item 1 c) ≡ true
name_symbol c e =
    let name = is_symbol (item 1 c) in
    let arguments = is_list_of pair_shape (item 2 c) (inside 2 c) in
    and_left name arguments (and_left (name && arguments) (sort_shape (item 3 c) (inside 3 c)) e)

module _ {lexemes : List ℕ} {at : ℕ} where
  module _ (p : HeaderAt lexemes at) {arguments : ℕ} (ea : arguments ≡ next_at lexemes (at + 2)) where
    -- the list of arguments stands within the table of lexemes
    pub arguments_room : lexemeWidth * arguments < length lexemes
    arguments_room = item_room (header_arguments p ea).here

    module _ {result : ℕ} (er : result ≡ next_at lexemes arguments) where
      -- and ends behind its bracket
      pub arguments_ahead : arguments < result
      arguments_ahead = item_ahead (header_arguments p ea).here er

      -- the arguments are pairs
      abbrev pub arguments_between : AllBetween pair_shape lexemes (arguments + 1) (result - 1)
      arguments_between = list_between (header_arguments p ea) er

  module _ {arguments : ℕ} (ea : arguments ≡ next_at lexemes (at + 2)) {result : ℕ} (er : result ≡ next_at lexemes arguments) where
    -- they stand between the brackets of their list
    abbrev pub items_between : HeaderAt lexemes at → Between lexemes (arguments + 1) (result - 1)
    items_between p = (arguments_between p ea er).between

    -- the word past a limit
    pub head_limited : (nowhere : ℕ) {ninth : ℕ} → ((b : Between lexemes (arguments + 1) (result - 1)) → ninth ≡ item_past nowhere most_arguments b.items)
        → {wide : ℕ} → ((q : HeaderAt lexemes at) → wide ≡ header_place TooWide nowhere q.here.operands)
        → {r : ℕ} → r ≡ min ninth wide → (p : HeaderAt lexemes at) → HeadLimited p allowed nowhere r
    head_limited nowhere by-items by-sorts e p = e ∙ ap₂ min (by-items (items_between p)) (by-sorts p)

module _ {text lexemes names : List ℕ} {scope : Scope} {synthesized : Bool} {at : ℕ}
    (p : HeadAt text lexemes names scope synthesized at) where
  -- a command with a header stands there
  abbrev pub header_here : HeaderAt lexemes at
  header_here = record {
    here = record {
      source = source_of text lexemes;
      same = refl;
      close = p.close;
      operands = p.command;
      more = p.more;
      end = p.end;
      stands = p.stands;
    };
    named = p.named;
    long = p.long;
    shaped = p.shaped;
  }

  -- within the table of lexemes
  pub head_room : lexemeWidth * at < length lexemes
  head_room = list_room header_here.here

  -- its name stands two words on
  abbrev pub name_item : ItemAt lexemes (at + 2)
  name_item =
      let x = header_here.here in
      let come : Come x 1 (at + 2) = come_behind x (come_first x) (omega (arith, p.long)) (symbol_word (item 0 p.command) p.named) (omega arith) in
      item_come x come (omega (arith, p.long))

  -- and is a symbol
  pub a_symbol : is_symbol (item 1 p.command) ≡ true
  a_symbol = name_symbol p.command p.shaped

  -- told by its code and its bytes
  symbol_here : SymbolAt text lexemes (at + 2) (item 1 p.command)
  symbol_here = symbol_at name_item.stands a_symbol

  -- not too long for a row
  pub name_fits : length (name_of (item 1 p.command)) ≤ longest
  name_fits = rw (← symbol_here.spelled) (p.short (at + 2) (omega (arith, symbol_here.coded)))

  -- at the word that is its own
  pub name_placed : word_of (item 1 p.command) ≡ at + 2
  name_placed = symbol_here.is_placed

  -- which a row tells
  pub word_fits : at + 2 < words_told
  word_fits = p.low_words (at + 2) (omega (arith, symbol_here.coded))

  module _ {bytes : List ℕ} (eb : bytes ≡ bytes_at text lexemes (at + 2)) where
    -- the bytes of its word are the name
    pub bytes_are : bytes ≡ name_of (item 1 p.command)
    bytes_are = eb ∙ symbol_here.spelled

    -- and fit a row
    pub bytes_fit : length bytes ≤ longest
    bytes_fit = rw bytes_are name_fits
