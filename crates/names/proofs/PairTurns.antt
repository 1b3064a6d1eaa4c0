-- The loop that tests the names of pairs and puts them into their rows.
use Prim.Native.Nat.{ℕ, zero, suc, ◌+◌, ◌≤◌, ◌<◌, min}
use native.Mathlib.Omega.{arith}
use mathlib.Core.Path.{◌≡◌, refl, sym, ap, ap₂, ◌∙◌, subst}
use mathlib.Core.Bool.{true}
use mathlib.Core.List.{List, [], ◌∷◌, ◌++◌, append_assoc, append-nil}
use lib.ListN.{length}
use Rattle.forest.specs.Forest.{count, tree}
use Rattle.forest.proofs.Bools.{and_left, and_right}
use Rattle.words.specs.Trees.{word_of}
use Rattle.lexemes.specs.Lists.{Items, inside, item, name_of}
use Rattle.lexemes.specs.code.Standing.{Between, ItemAt, Source, Stands}
use Rattle.lexemes.specs.code.Table.{next_at}
use Rattle.lexemes.proofs.Along.{Along, along_end, along_here, along_start, along_turn, item-of}
use Rattle.shapes.specs.Shapes.{all, pair_shape}
use Rattle.written_sorts.specs.Written.{sort_of}
use Rattle.names.specs.Scopes.{names_of, named_sorts}
use Rattle.names.specs.code.Lookup.{Kept, Names, source_of}
use Rattle.names.specs.Earlier.{Declared, declared_names}
use Rattle.names.specs.code.Table.{declared_from, defined_row, function_row, name_in, names_from, row_count, sorts_from, variable_row, word_in}
use Rattle.names.proofs.NamePut.{Put, kept_more, kept_none, last_row, put-row}
use Rattle.names.specs.New.{named_by, new_name, new_pairs}
use Rattle.names.specs.code.New.{AllNarrow, NameTested, NewName, NewPairs, PairAt, PairPut, PairsNamed, names_in}
use Rattle.names.specs.declared.Scope.{Scope}
use Rattle.names.proofs.Members.{name_between, pairs_below, same_members}
use Rattle.names.proofs.Pair.{name_fits, name_here, word_fits}

-- Rows that stand behind those that are changed, or are none, are kept.
behind_kept : {names after : List ℕ} {row n : ℕ} (first m : ℕ) → Kept names row n after → ((k : ℕ) → k < m → row + n ≤ first + k)
    → names_from after first m ≡ names_from names first m
unfolding names_from
behind_kept first zero kept apart = refl
behind_kept first (suc m) kept apart = (kept.rows_behind first (suc m) (omega (arith, apart 0 (omega arith)))).names

module _ {text lexemes names₀ : List ℕ} {scope : Scope} {row first close : ℕ} where
  -- where the pairs stand
  abbrev pub pairs_between : NewPairs text lexemes names₀ scope row first close → Between lexemes first close
  pairs_between p = record { source = source_of text lexemes; same = refl; items = p.items; stands = p.stands }

  -- the names in scope are kept
  scope_kept : (p : NewPairs text lexemes names₀ scope row first close) {done : ℕ} {names : List ℕ} → Kept names₀ row done names
      → done ≤ count p.items → names_in names scope ≡ names_in names₀ scope
  scope_kept p kept h =
      let l = p.low in
      let v = p.few.variables in
      let d = p.few.defined in
      let f = p.few.functions in
      ap₂ ◌++◌
      (ap₂ ◌++◌
      (ap₂ ◌++◌
      (behind_kept scope.first scope.arguments kept (λ k s. omega (arith, p.apart k s)))
      (kept.rows_before variable_row scope.variables (omega arith)).names)
      (kept.rows_before defined_row scope.defined (omega arith)).names)
      (kept.rows_before function_row scope.functions (omega arith)).names

  -- So many pairs are put into their rows, their least place at fault is found, and others are left.
  pub record PairsLeft (nowhere : ℕ) (names : List ℕ) (place done : ℕ) (p : NewPairs text lexemes names₀ scope row first close) (left : Items)
      : Type 0 where
    pub shaped : all pair_shape left ≡ true
    pub narrow : AllNarrow left
    pub counted : done + count left ≡ count p.items
    pub within : place ≤ nowhere
    pub least : min place (new_pairs nowhere (names_from names row done ++ names_in names₀ scope) left) ≡ new_pairs nowhere (names_in names₀ scope) p.items
    pub table : Names names
    pub kept : Kept names₀ row done names
    pub names_are : names_from names row done ++ names_of (named_by left) ≡ names_of (named_by p.items)
    pub sorts_are : sorts_from names row done ++ named_sorts (named_by left) ≡ named_sorts (named_by p.items)
    pub declared_are : declared_from names row done ++ declared_names (named_by left) ≡ declared_names (named_by p.items)

-- Of the pairs from one word to another the loop has come to word `at`.
abbrev pub Going : (text lexemes names₀ : List ℕ) (scope : Scope) (row first close nowhere : ℕ) (names : List ℕ) (place at done : ℕ) → Type 0
Going text lexemes names₀ scope row first close nowhere names place at done =
    Along (λ (p : NewPairs text lexemes names₀ scope row first close). pairs_between p) at (PairsLeft nowhere names place done)

module _ {text lexemes names₀ : List ℕ} {scope : Scope} {row first close nowhere : ℕ} where
  -- before the first pair
  pub go_start : NewPairs text lexemes names₀ scope row first close
      → Going text lexemes names₀ scope row first close nowhere names₀ nowhere first 0
  unfolding declared_from names_from sorts_from
  go_start given = along_start (λ p. pairs_between p) given (λ p. record {
    shaped = p.shaped;
    narrow = p.narrow;
    counted = omega arith;
    within = omega arith;
    least = omega (arith, pairs_below nowhere (names_in names₀ scope) p.items);
    table = p.table;
    kept = kept_none names₀ row;
    names_are = refl;
    sorts_are = refl;
    declared_are = refl;
  })

  module _ {names : List ℕ} {place done : ℕ} where
    -- a pair that is left, where it stands
    module _ (p : NewPairs text lexemes names₀ scope row first close) {at : ℕ} (x : ItemAt lexemes at)
        (source : x.source ≡ source_of text lexemes)
        (k : PairsLeft nowhere names place done p (tree x.label x.operands x.more)) where
      -- there is a row for it
      pub pair_fits : row + done < row_count
      unfolding count
      pair_fits = omega (arith, k.counted, p.fits)

      pub pair_shaped : pair_shape x.label x.operands ≡ true
      unfolding all
      pair_shaped = and_left (pair_shape x.label x.operands) (all pair_shape x.more) k.shaped

      pub pair_narrow : sort_of (item 1 x.operands) (inside 1 x.operands) ≤ 64
      unfolding AllNarrow
      pair_narrow = k.narrow.0

      -- it stands there
      abbrev pub pair_left : PairAt text lexemes names (row + done) at
      pair_left = record {
        label = x.label;
        operands = x.operands;
        more = x.more;
        end = x.end;
        stands = subst (λ (s : Source). Stands s at (tree x.label x.operands x.more) x.end) source x.stands;
        shaped = pair_shaped;
        narrow = pair_narrow;
        short = p.short;
        low_words = p.low_words;
        table = k.table;
        fits = pair_fits;
      }

      -- and so does its name
      abbrev pub name_left : NewName text lexemes names scope row done (at + 1)
      name_left = name_here pair_left p.few (omega (arith, pair_fits))

      -- its name is tested, and it is put into its row
      module _ {tested : ℕ} (known : (q : NewName text lexemes names scope row done (at + 1)) → NameTested q nowhere tested)
          {after : List ℕ} (put : (q : PairAt text lexemes names (row + done) at) → PairPut q after) where
        -- its row
        row_put : let name = item 0 x.operands in
            Put names (row + done) (sort_of (item 1 x.operands) (inside 1 x.operands)) (word_of name) (name_of name) after
        row_put = put-row k.table pair_fits _ _ _ (name_fits pair_left) pair_left.narrow (word_fits pair_left) (put pair_left)

        -- the names with its own
        names_put : names_from after row (done + 1) ≡ names_from names row done ++ name_of (item 0 x.operands) ∷ []
        names_put =
            (last_row after row done).name
            ∙ ap₂ (λ (l : List (List ℕ)) (n : List ℕ). l ++ n ∷ []) (row_put.kept.rows_before row done (omega arith)).names row_put.name

        -- the sorts with its own
        sorts_put : sorts_from after row (done + 1) ≡ sorts_from names row done ++ sort_of (item 1 x.operands) (inside 1 x.operands) ∷ []
        sorts_put =
            (last_row after row done).sort
            ∙ ap₂ (λ (l : List ℕ) (n : ℕ). l ++ n ∷ []) (row_put.kept.rows_before row done (omega arith)).sorts row_put.sort_is

        -- its name and the word of it
        abbrev declared : Declared
        declared = record { name = name_of (item 0 x.operands); at = word_of (item 0 x.operands) }

        -- the declared names with it
        declared_put : declared_from after row (done + 1) ≡ declared_from names row done ++ declared ∷ []
        declared_put =
            let itself : ◌≡◌ {A = Declared} (record { name = name_in after (row + done); at = word_in after (row + done) }) declared =
            rw (row_put.name, row_put.word_is) in
            (last_row after row done).declared
            ∙ ap₂ (λ (l : List Declared) (d : Declared). l ++ d ∷ []) (row_put.kept.rows_before row done (omega arith)).declared itself

        -- the place of its name
        tested_is : tested ≡ new_name nowhere (names_from names row done ++ names_in names₀ scope) (item 0 x.operands)
        unfolding count
        tested_is =
            known name_left
            ∙ ap (λ (l : List (List ℕ)). new_name nowhere (names_from names row done ++ l) (item 0 x.operands))
            (scope_kept p k.kept (omega (arith, k.counted)))

        -- the places of the names that are left
        rest_is : new_pairs nowhere (name_of (item 0 x.operands) ∷ (names_from names row done ++ names_in names₀ scope)) x.more
            ≡ new_pairs nowhere (names_from after row (done + 1) ++ names_in names₀ scope) x.more
        rest_is =
            let n = name_of (item 0 x.operands) in
            let before = names_from names row done in
            let others = names_in names₀ scope in
            rw names_put (same_members nowhere (n ∷ (before ++ others)) (before ++ n ∷ [] ++ others) (name_between before others n) x.more)

        -- one pair more is put
        pairs_put : {lesser : ℕ} → lesser ≡ min place tested → PairsLeft nowhere after lesser (done + 1) p x.more
        unfolding AllNarrow all count named_by new_pairs
        pairs_put e = record {
          shaped = and_right (pair_shape x.label x.operands) (all pair_shape x.more) k.shaped;
          narrow = k.narrow.1;
          counted = omega (arith, k.counted);
          within = omega (arith, k.within);
          least = omega (arith, k.least, tested_is, rest_is);
          table = row_put.table;
          kept = kept_more k.kept row_put.kept;
          names_are = rw names_put (append_assoc (names_from names row done) _ _ ∙ k.names_are);
          sorts_are = rw sorts_put (append_assoc (sorts_from names row done) _ _ ∙ k.sorts_are);
          declared_are = rw declared_put (append_assoc (declared_from names row done) _ _ ∙ k.declared_are);
        }

    module _ {at : ℕ} (s : Going text lexemes names₀ scope row first close nowhere names place at done) where
      -- all pairs are put
      pub go_end : close ≤ at → (p : NewPairs text lexemes names₀ scope row first close) → PairsNamed p nowhere names place
      unfolding count named_by new_pairs
      go_end h p =
          let k = along_end s h p in
          let all_done : done ≡ count p.items = omega (arith, k.counted) in
          record {
            place_is = omega (arith, k.least, k.within);
            table = k.table;
            names_are = rw (← all_done) (sym (append-nil (names_from names row done)) ∙ k.names_are);
            sorts_are = rw (← all_done) (sym (append-nil (sorts_from names row done)) ∙ k.sorts_are);
            declared_are = rw (← all_done) (sym (append-nil (declared_from names row done)) ∙ k.declared_are);
            kept = rw (← all_done) k.kept;
          }

      -- the table is as long as it was
      pub go_long : length names ≡ length names₀
      go_long = let g = s.given in (s.left g).known.table.sized ∙ sym g.table.sized

      module _ (h : at < close) where
        -- there is a row for the next pair
        pub go_room : row + done < row_count
        go_room = pair_fits s.given (item-of s h s.given) refl (along_here s h s.given)

        -- the name of the next pair
        pub go_name : NewName text lexemes names scope row done (at + 1)
        go_name = name_left s.given (item-of s h s.given) refl (along_here s h s.given)

        -- the next pair
        pub go_pair : PairAt text lexemes names (row + done) at
        go_pair = pair_left s.given (item-of s h s.given) refl (along_here s h s.given)

        -- a turn
        pub go_turn : {tested : ℕ} → ((q : NewName text lexemes names scope row done (at + 1)) → NameTested q nowhere tested)
            → {lesser : ℕ} → lesser ≡ min place tested
            → {after : List ℕ} → ((q : PairAt text lexemes names (row + done) at) → PairPut q after)
            → {next : ℕ} → next ≡ next_at lexemes at
            → Going text lexemes names₀ scope row first close nowhere after lesser next (done + 1)
        go_turn known e put n = along_turn s h n (λ p x source k. pairs_put p x source k known put e)
