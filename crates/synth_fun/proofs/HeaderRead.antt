-- What a `synth-fun` declares: where it stands, how many arguments and non-terminals there are, and the sort of its result.
use Prim.Native.Nat.{ℕ, ◌+◌, ◌-◌, ◌*◌, ◌<◌}
use mathlib.Core.Path.{◌≡◌}
use mathlib.Core.List.{List}
use lib.ListN.{length}
use Rattle.forest.specs.Forest.{count}
use Rattle.lexemes.specs.code.Standing.{Between}
use Rattle.lexemes.specs.code.Table.{next_at, row_width as lexemeWidth}
use Rattle.lexemes.proofs.Listed.{item_ahead, item_room}
use Rattle.written_sorts.specs.code.Places.{SortAt}
use Rattle.written_sorts.specs.code.Headers.{SynthFunAt}
use Rattle.written_sorts.specs.Written.{sort_of}
use Rattle.written_sorts.proofs.HeaderSorts.{grammar_pairs, header, header_sort}
use Rattle.written_sorts.proofs.PairParts.{list_between}
use Rattle.headers.proofs.HeadParts.{arguments_ahead, arguments_room, items_between}
use Rattle.synth_fun.specs.code.Synthesizing.{HeaderOf}

module _ {lexemes : List ℕ} {at : ℕ} {arguments : ℕ} (ea : arguments ≡ next_at lexemes (at + 2)) where
  -- The arguments stand within the table of lexemes.
  pub first_room : SynthFunAt lexemes at → lexemeWidth * arguments < length lexemes
  first_room p = arguments_room (header p) ea

  module _ {result : ℕ} (er : result ≡ next_at lexemes arguments) where
    -- They end behind their bracket.
    pub first_ahead : SynthFunAt lexemes at → arguments < result
    first_ahead p = arguments_ahead (header p) ea er

    -- They stand in their list.
    abbrev pub first_between : SynthFunAt lexemes at → Between lexemes (arguments + 1) (result - 1)
    first_between p = items_between ea er (header p)

    -- The sort of the result stands behind them.
    abbrev pub sort_here : SynthFunAt lexemes at → SortAt lexemes result
    sort_here p = header_sort (header p) ea er

    module _ {declared : ℕ} (ed : declared ≡ next_at lexemes result) where
      -- The non-terminals stand within the table of lexemes.
      pub declared_room : SynthFunAt lexemes at → lexemeWidth * declared < length lexemes
      declared_room p = item_room (grammar_pairs ea er ed p).here

      module _ {next : ℕ} (en : next ≡ next_at lexemes declared) where
        -- They end behind their bracket.
        pub declared_ahead : SynthFunAt lexemes at → declared < next
        declared_ahead p = item_ahead (grammar_pairs ea er ed p).here en

        -- They stand in their list.
        abbrev pub declared_between : SynthFunAt lexemes at → Between lexemes (declared + 1) (next - 1)
        declared_between p = (list_between (grammar_pairs ea er ed p) en).between

        -- All of it is counted.
        pub header_counted : {counted : ℕ} → ((b : Between lexemes (arguments + 1) (result - 1)) → counted ≡ count b.items)
            → {listed : ℕ} → ((b : Between lexemes (declared + 1) (next - 1)) → listed ≡ count b.items)
            → {sort : ℕ} → ((q : SortAt lexemes result) → sort ≡ sort_of q.here.label q.here.operands)
            → (p : SynthFunAt lexemes at) → HeaderOf p.here.operands (record { arguments = counted; listed = listed; result = sort })
        header_counted by_first by-listed by-sort p =
            record { arguments_are = by_first (first_between p); listed_are = by-listed (declared_between p); result_is = by-sort (sort_here p) }
