-- The names of a head, tested and put into their rows.
use Prim.Native.Nat.{ℕ, ◌+◌, ◌-◌, ◌*◌, ◌≤◌, ◌<◌, min}
use native.Mathlib.Omega.{arith}
use mathlib.Core.Path.{◌≡◌, sym, ap, ap₂, ◌∙◌, subst}
use mathlib.Core.Bool.{Bool}
use mathlib.Core.List.{List, ◌∷◌}
use lib.Seq.{sets}
use Rattle.operators.specs.Sorts.{max_width}
use Rattle.words.specs.Trees.{word_of}
use Rattle.lexemes.specs.Lists.{inside, item, name_of}
use Rattle.lexemes.specs.code.Table.{next_at}
use Rattle.written_sorts.specs.code.Places.{SortAt}
use Rattle.written_sorts.specs.code.Headers.{HeaderAt}
use Rattle.written_sorts.specs.Written.{header_place, sort_of}
use Rattle.written_sorts.specs.declared.Fault.TheVariants.{Unknown}
use Rattle.written_sorts.proofs.HeaderSorts.{header_sort}
use Rattle.names.specs.code.Lookup.{bytes_at}
use Rattle.names.specs.code.Table.{declared_from, name_row, names_from, row_count, row_width}
use Rattle.names.proofs.NamePut.{Put, put-row}
use Rattle.names.specs.code.New.{Few, NameTested, NewName, NewPairs, PairsNamed, names_in}
use Rattle.names.specs.declared.Scope.{Scope}
use Rattle.names.proofs.Members.{SameNames, same_members}
use Rattle.headers.specs.code.Heads.{HeadAt, HeadNamed, OwnNamed, first_row, grown_by, own_row}
use Rattle.headers.proofs.HeadParts.{a_symbol, arguments_between, bytes_are, header_here, name_fits, name_item, name_placed, word_fits}
use Rattle.headers.proofs.Grown.{Rows, few_grown, rows, same_names}

module _ {text lexemes names : List ℕ} {scope : Scope} {synthesized : Bool} {at : ℕ} where
  -- The rows of the name and of the arguments.
  pub own_rows : HeadAt text lexemes names scope synthesized at → Rows synthesized scope
  own_rows p = rows p.few synthesized p.one_more

  module _ (p : HeadAt text lexemes names scope synthesized at) {arguments : ℕ} (ea : arguments ≡ next_at lexemes (at + 2))
      {result : ℕ} (er : result ≡ next_at lexemes arguments) where
    -- the sort of the result stands behind the arguments
    abbrev pub result-sort : SortAt lexemes result
    result-sort = header_sort (header_here p) ea er

    -- and is not too wide
    pub sort_small : {sort : ℕ} → ((q : SortAt lexemes result) → sort ≡ sort_of q.here.label q.here.operands) → sort ≤ max_width
    sort_small es = omega (arith, es result-sort, p.result)

  module _ {row : ℕ} (eo : row ≡ own_row synthesized scope) where
    -- the row of its own name is one of the table
    pub own_fits : HeadAt text lexemes names scope synthesized at → row < row_count
    own_fits p = omega (arith, own_rows p)

    -- its name is a new one
    abbrev pub name_here : HeadAt text lexemes names scope synthesized at → NewName text lexemes names scope row 0 (at + 2)
    name_here p = record {
      label = (name_item p).label;
      operands = (name_item p).operands;
      more = (name_item p).more;
      end = (name_item p).end;
      stands = (name_item p).stands;
      a_symbol = a_symbol p;
      table = p.table;
      few = p.few;
      fits = omega (arith, own_fits p);
    }

    -- it is tested and put into its row
    pub own_named : {arguments : ℕ} → arguments ≡ next_at lexemes (at + 2) → {result : ℕ} → result ≡ next_at lexemes arguments
        → {sort : ℕ} → ((q : SortAt lexemes result) → sort ≡ sort_of q.here.label q.here.operands)
        → (nowhere : ℕ) {place : ℕ} → ((q : NewName text lexemes names scope row 0 (at + 2)) → NameTested q nowhere place)
        → {bytes : List ℕ} → bytes ≡ bytes_at text lexemes (at + 2) → {after : List ℕ} → after ≡ sets names (row_width * row) (name_row sort (at + 2) bytes)
        → (p : HeadAt text lexemes names scope synthesized at) → OwnNamed p nowhere after place
    unfolding names_from
    own_named ea er es nowhere tested eb e p = record {
      place_is = tested (name_here p);
      is_put = rw (← eo, ← es (result-sort p ea er), ← bytes_are p eb, name_placed p) e;
    }

  -- The own name stands in its row, and the other rows are what they were.
  pub put_own : (p : HeadAt text lexemes names scope synthesized at) {nowhere place : ℕ} {between : List ℕ} → OwnNamed p nowhere between place
      → let name = item 1 p.command in
      Put names (own_row synthesized scope) (sort_of (item 3 p.command) (inside 3 p.command)) (word_of name) (name_of name) between
  put_own p o = put-row p.table (omega (arith, own_rows p)) _ _ _ (name_fits p) p.result (rw (name_placed p) (word_fits p)) o.is_put

  module _ {arguments : ℕ} (ea : arguments ≡ next_at lexemes (at + 2)) {result : ℕ} (er : result ≡ next_at lexemes arguments)
      {later : Scope} (el : later ≡ grown_by synthesized scope) {first : ℕ} (ef : first ≡ first_row synthesized scope)
      (nowhere : ℕ) {own : ℕ} {between : List ℕ}
      (known : (q : HeadAt text lexemes names scope synthesized at) → OwnNamed q nowhere between own) where
    -- its arguments are new names
    abbrev pub pairs_here : HeadAt text lexemes names scope synthesized at
        → NewPairs text lexemes between later first (arguments + 1) (result - 1)
    pairs_here p =
        let pairs = arguments_between (header_here p) ea er in
        record {
          items = inside 2 p.command;
          stands = pairs.between.stands;
          shaped = pairs.shaped;
          narrow = p.narrow;
          short = p.short;
          low_words = p.low_words;
          table = (put_own p (known p)).table;
          few = subst (λ (s : Scope). Few s) (sym el) (few_grown p.few synthesized p.one_more);
          low = omega (arith, own_rows p);
          apart = λ k h. absurd (omega (arith, ap (λ (s : Scope). s.arguments) el, p.no_arguments));
          fits = omega (arith, own_rows p, p.few_arguments);
        }

    -- all of the names are tested and put into their rows
    pub head_named : {within : ℕ} {after : List ℕ}
        → ((q : NewPairs text lexemes between later first (arguments + 1) (result - 1)) → PairsNamed q nowhere after within)
        → {sorts : ℕ} → ((q : HeaderAt lexemes at) → sorts ≡ header_place Unknown nowhere q.here.operands)
        → {lesser : ℕ} → lesser ≡ min within sorts → {r : ℕ} → r ≡ min own lesser
        → (p : HeadAt text lexemes names scope synthesized at) → HeadNamed p nowhere after r
    unfolding declared_from names_from
    head_named {after = after} named by-sorts one_less less p =
        let o = known p in
        let put = put_own p o in
        let n = named (pairs_here p) in
        let same : SameNames (names_in between later) (name_of (item 1 p.command) ∷ names_in names scope) =
        subst (λ (s : Scope). SameNames (names_in between s) (name_of (item 1 p.command) ∷ names_in names scope)) (sym el)
        (same_names p.few p.no_arguments synthesized p.one_more put.kept put.name) in
        let members = same_members nowhere _ _ same (inside 2 p.command) in
        let own-kept = n.kept.rows_before (own_row synthesized scope) 1 (omega (arith, own_rows p)) in
        record {
          place_is = less ∙ ap₂ min o.place_is (one_less ∙ ap₂ min (n.place_is ∙ members) (by-sorts (header_here p)));
          table = n.table;
          name_is = cc (own-kept.names, put.name);
          names_are = rw (← ef) n.names_are;
          sorts_are = rw (← ef) n.sorts_are;
          own_declared = own-kept.declared ∙ rw (put.name, put.word_is);
          declared_are = rw (← ef) n.declared_are;
          between = between;
          kept_name = put.kept;
          kept_arguments = rw (← ef) n.kept;
        }
