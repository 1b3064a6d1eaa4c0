-- The loop over the groups of a grammar: what it has found before each of them.
use Prim.Native.Nat.{ℕ, suc, ◌+◌, ◌-◌, ◌≤◌, ◌<◌, min}
use native.Mathlib.Nat.{min-eq_right}
use native.Mathlib.Omega.{arith}
use mathlib.Core.Path.{◌≡◌, refl, sym, ap, ◌∙◌, subst}
use mathlib.Core.Bool.{true}
use mathlib.Core.List.{List, [], ◌∷◌}
use Rattle.forest.specs.Forest.{tree}
use Rattle.forest.proofs.Bools.{and_left, and_right}
use Rattle.words.specs.Trees.{Lexeme, word_of}
use Rattle.lexemes.specs.Lists.{Items, item}
use Rattle.lexemes.specs.code.Table.{next_at}
use Rattle.lexemes.specs.code.Standing.{Between, ItemAt, ListAt, Source, Stands, bracketed, ends, word}
use Rattle.lexemes.proofs.Along.{Along, along_end, along_here, along_start, along_turn, item-of}
use Rattle.lexemes.proofs.Standing.{forward}
use Rattle.shapes.specs.Shapes.{all, group_shape}
use Rattle.written_sorts.proofs.PairParts.{group_parts}
use Rattle.names.specs.Scopes.{Named, names_of, named_sorts}
use Rattle.names.specs.code.Lookup.{source_of}
use Rattle.names.specs.code.Table.{name_in, names_from, non_terminal_row, sort_in, sorts_from}
use Rattle.grammars.specs.Listing.{listing_misfit}
use Rattle.grammars.specs.code.Listed.{GroupAt, GroupsAt, group_misfit}
use Rattle.grammars.proofs.Empty.{before_next, close_is, within}
use Rattle.grammars.proofs.Start.{name_placed}

-- So many rows from a row on hold the non-terminals.
pub record Rows (names : List ℕ) (row n : ℕ) (declared : List Named) : Type 0 where
  pub names_are : names_from names row n ≡ names_of declared
  pub sorts_are : sorts_from names row n ≡ named_sorts declared

-- The first of them is in the first row.
record FirstRow (names : List ℕ) (row n : ℕ) (declared : List Named) : Type 0 where
  pub first : Named
  pub more : List Named
  pub is : declared ≡ first ∷ more
  pub name_is : first.name ≡ name_in names row
  pub sort_is : first.sort ≡ sort_in names row
  pub rows : Rows names (row + 1) n more

module _ {names : List ℕ} {row n : ℕ} where
  -- rows of which there is one more have a first
  first-row : (declared : List Named) → Rows names row (suc n) declared → FirstRow names row n declared
  unfolding names_from sorts_from
  first-row [] r = let e = r.names_are in let z : ◌≡◌ {A = ℕ} 0 1 = cc in absurd (omega arith)
  first-row (d ∷ more) r =
      let e = r.names_are in
      let f = r.sorts_are in
      record { first = d; more = more; is = refl; name_is = cc; sort_is = cc; rows = record { names_are = cc; sorts_are = cc } }

-- no rows hold no non-terminal
no_rows : {names : List ℕ} {row : ℕ} (declared : List Named) → Rows names row 0 declared → declared ≡ []
unfolding names_from
no_rows [] r = refl
no_rows (d ∷ more) r = let e = r.names_are in let z : ◌≡◌ {A = ℕ} 0 1 = cc in absurd (omega arith)

-- a group, and those behind it
listed_first : (nowhere close : ℕ) {names : List ℕ} {row n : ℕ} {declared : List Named} (f : FirstRow names row n declared) (l : Lexeme) (ops groups : Items)
    → listing_misfit nowhere close declared (tree l ops groups) ≡ min (group_misfit nowhere names row ops) (listing_misfit nowhere close f.more groups)
unfolding listing_misfit
listed_first nowhere close f l ops groups = rw (f.is, f.name_is, f.sort_is) (omega arith)

module _ {s : Source} where
  -- the first of some items stands before their end
  first_below : {i e : ℕ} {F : Items} → Stands s i F e → word_of (item 0 F) ≤ e
  unfolding item
  first_below ends = omega arith
  first_below (word w rest) = omega (arith, w.placed, forward rest)
  first_below (bracketed b inner rest) = omega (arith, forward inner, forward rest)

  -- no word at fault is past the greatest of numbers
  listing_below : (nowhere close most : ℕ) → nowhere ≤ most → close ≤ most → (declared : List Named) {i e : ℕ} {F : Items} → e ≤ most
      → Stands s i F e → listing_misfit nowhere close declared F ≤ most
  unfolding item listing_misfit
  listing_below nowhere close most h k [] m ends = h
  listing_below nowhere close most h k (d ∷ more) m ends = k
  listing_below nowhere close most h k [] m (word w rest) = omega arith
  listing_below nowhere close most h k [] m (bracketed b inner rest) = omega (arith, first_below inner, forward rest)
  listing_below nowhere close most h k (d ∷ more) m (word w rest) = omega (arith, listing_below nowhere close most h k more m rest)
  listing_below nowhere close most h k (d ∷ more) m (bracketed b inner rest) = omega (arith, listing_below nowhere close most h k more m rest)

module _ {text lexemes names : List ℕ} {at listed : ℕ} where
  -- the list of groups
  abbrev pub groups_list : GroupsAt text lexemes names at listed → ListAt lexemes at
  groups_list p = record {
    source = source_of text lexemes;
    same = refl;
    close = p.close;
    operands = p.groups;
    more = p.more;
    end = p.end;
    stands = p.stands;
  }

  -- the groups, between its brackets
  abbrev pub groups_between : (close : ℕ) → next_at lexemes at ≡ close + 1 → GroupsAt text lexemes names at listed → Between lexemes (at + 1) close
  groups_between close e p = record {
    source = source_of text lexemes;
    same = refl;
    items = p.groups;
    stands = subst (λ (c : ℕ). Stands (source_of text lexemes) (at + 1) p.groups c) (close_is close e (groups_list p)) (within p.stands);
  }

  -- The rows from a row on hold the non-terminals that are still to be listed by the groups that are left; of all words at fault the least is that which was
  -- found or the least in those.
  pub record StillListed (nowhere place row : ℕ) (p : GroupsAt text lexemes names at listed) (left : Items) : Type 0 where
    pub shaped : all group_shape left ≡ true
    pub declared : List Named
    pub rows : Rows names row (non_terminal_row + listed - row) declared
    pub least : min place (listing_misfit nowhere p.close declared left) ≡ listing_misfit nowhere p.close p.declared p.groups

-- The loop has come to the group at a word and to the row of the non-terminal that it is to list.
pub record Listing (text lexemes names : List ℕ) (at listed close nowhere place group row : ℕ) : Type 0 where
  pub followed : next_at lexemes at ≡ close + 1
  pub along : Along (λ (p : GroupsAt text lexemes names at listed). groups_between close followed p) group (StillListed nowhere place row)

module _ {text lexemes names : List ℕ} {at listed : ℕ} where
  -- before the first group
  pub listing_start : GroupsAt text lexemes names at listed → {next : ℕ} → next ≡ next_at lexemes at → {nowhere most : ℕ} → nowhere ≤ most → next ≤ most
      → Listing text lexemes names at listed (next - 1) nowhere most (at + 1) non_terminal_row
  listing_start given {next} e {nowhere} {most} h k = let followed = before_next (groups_list given) e in record {
    followed = followed;
    along =
        along_start (λ p. groups_between (next - 1) followed p) given
        (λ p.
        let c = close_is (next - 1) followed (groups_list p) in
        let all : non_terminal_row + listed - non_terminal_row ≡ listed = omega arith in
        record {
          shaped = p.shaped;
          declared = p.declared;
          rows = record { names_are = rw all p.names_are; sorts_are = rw all p.sorts_are };
          least = min-eq_right (listing_below nowhere p.close most h (omega arith) p.declared (omega arith) (within p.stands));
        });
  }

  module _ {close nowhere place group row : ℕ} (g : Listing text lexemes names at listed close nowhere place group row) where
    -- past the last group
    module _ (h : close ≤ group) where
      -- a non-terminal is not listed
      pub listing_short : row < non_terminal_row + listed → {r : ℕ} → r ≡ min place close
          → (p : GroupsAt text lexemes names at listed) → r ≡ listing_misfit nowhere p.close p.declared p.groups
      unfolding listing_misfit
      listing_short k e p =
          let x = along_end g.along h p in
          let more : non_terminal_row + listed - row ≡ suc (non_terminal_row + listed - (row + 1)) = omega arith in
          let f = first-row x.declared (subst (λ (n : ℕ). Rows names row n x.declared) more x.rows) in
          e ∙ ap (min place) (sym (close_is close g.followed (groups_list p))) ∙ (rw f.is at x.least)

      -- all are listed
      pub listing_whole : non_terminal_row + listed ≤ row → {r : ℕ} → r ≡ min place nowhere
          → (p : GroupsAt text lexemes names at listed) → r ≡ listing_misfit nowhere p.close p.declared p.groups
      unfolding listing_misfit
      listing_whole k e p =
          let x = along_end g.along h p in
          let none : non_terminal_row + listed - row ≡ 0 = omega arith in
          e ∙ (rw (no_rows x.declared (subst (λ (n : ℕ). Rows names row n x.declared) none x.rows)) at x.least)

    module _ (h : group < close) where
      -- a group is one too many
      pub listing_long : non_terminal_row + listed ≤ row → {r : ℕ} → r ≡ min place (group + 1)
          → (p : GroupsAt text lexemes names at listed) → r ≡ listing_misfit nowhere p.close p.declared p.groups
      unfolding all listing_misfit
      listing_long k e p =
          let y = item-of g.along h p in
          let x = along_here g.along h p in
          let shaped = and_left (group_shape y.label y.operands) (all group_shape y.more) x.shaped in
          let none : non_terminal_row + listed - row ≡ 0 = omega arith in
          let gone = no_rows x.declared (subst (λ (n : ℕ). Rows names row n x.declared) none x.rows) in
          e
          ∙ ap (min place) (sym (name_placed y (group_parts y.label y.operands shaped).sorted (omega arith)))
          ∙ (rw gone at x.least)

      module _ (k : row < non_terminal_row + listed) where
        -- a group that lists the non-terminal in the row
        group_here : (p : GroupsAt text lexemes names at listed) (x : ItemAt lexemes group) → x.source ≡ source_of text lexemes
            → all group_shape (tree x.label x.operands x.more) ≡ true → GroupAt text lexemes names group row
        unfolding all
        group_here p x source shaped = record {
          here = x;
          read = source;
          shaped = and_left (group_shape x.label x.operands) (all group_shape x.more) shaped;
          table = p.table;
          within = omega (arith, p.few);
        }

        -- it stands where the loop has come to
        pub listing_group : GroupAt text lexemes names group row
        listing_group =
            let p = g.along.given in
            group_here p (item-of g.along h p) refl (along_here g.along h p).shaped

        -- a turn
        pub listing_turn : {found : ℕ} → ((p : GroupAt text lexemes names group row) → found ≡ group_misfit nowhere names row p.here.operands)
            → {lesser : ℕ} → lesser ≡ min place found → {next : ℕ} → next ≡ next_at lexemes group
            → Listing text lexemes names at listed close nowhere lesser next (row + 1)
        unfolding all group_here
        listing_turn {found} known {lesser} e n = record {
          followed = g.followed;
          along =
              along_turn g.along h n
              (λ p x source here.
              let more : non_terminal_row + listed - row ≡ suc (non_terminal_row + listed - (row + 1)) = omega arith in
              let f = first-row here.declared (subst (λ (n : ℕ). Rows names row n here.declared) more here.rows) in
              let one = listed_first nowhere p.close f x.label x.operands x.more in
              let Here-found = known (group_here p x source here.shaped) in
              let all-least = here.least in
              record {
                shaped = and_right (group_shape x.label x.operands) (all group_shape x.more) here.shaped;
                declared = f.more;
                rows = f.rows;
                least = omega arith;
              });
        }
