-- What a grammar declares and lists, with the start.
use Prim.Native.Nat.{ℕ, min}
use mathlib.Core.Path.{◌≡◌, ap₂, ◌∙◌}
use mathlib.Core.List.{List}
use Rattle.shapes.specs.Shapes.{group_shape, pair_shape}
use Rattle.written_sorts.specs.code.Places.{SortAt}
use Rattle.written_sorts.specs.code.Headers.{SynthFunAt}
use Rattle.written_sorts.specs.Written.{sort_of}
use Rattle.grammars.specs.code.Listed.{GroupsAt, ListingTested, PairsAt, StartTested}
use Rattle.grammars.specs.code.Read.{Declared, ListsTested}
use Rattle.grammars.specs.code.Parts.{groups_word, non_terminals_word, result_word}
use Rattle.grammars.proofs.SynthFunParts.{as_list, closes, command_at, groups, items_shaped, pairs, result-sort}

module _ {text lexemes names : List ℕ} {at listed : ℕ} (p : Declared text lexemes names at listed) where
  -- the command
  abbrev pub command_of : SynthFunAt lexemes at
  command_of = command_at p.stands p.named p.shaped

  -- its sort
  abbrev pub sort-of : {result : ℕ} → result ≡ result_word lexemes at → SortAt lexemes result
  sort-of er = result-sort command_of er

  -- the list that declares its non-terminals
  abbrev pub pairs_of : {list : ℕ} → list ≡ non_terminals_word lexemes at → PairsAt lexemes list
  pairs_of el = record { here = as_list pair_shape (pairs command_of el); shaped = items_shaped pair_shape (pairs command_of el) }

  -- the list that has them again
  abbrev pub groups_of : {list : ℕ} → list ≡ groups_word lexemes at → GroupsAt text lexemes names list listed
  groups_of el =
      let x = as_list group_shape (groups command_of el) in
      record {
        close = x.close;
        groups = x.operands;
        more = x.more;
        end = x.end;
        stands = x.stands;
        shaped = items_shaped group_shape (groups command_of el);
        table = p.table;
        declared = p.view.non_terminals;
        names_are = p.names_are;
        sorts_are = p.sorts_are;
        few = p.few;
      }

-- the word is found
pub lists_tested : {text lexemes names : List ℕ} {at listed : ℕ} {non_terminals : ℕ} → non_terminals ≡ non_terminals_word lexemes at
    → {list : ℕ} → list ≡ groups_word lexemes at → {result : ℕ} → result ≡ result_word lexemes at
    → {sort : ℕ} → ((q : SortAt lexemes result) → sort ≡ sort_of q.here.label q.here.operands)
    → (nowhere : ℕ) {start : ℕ} → ((q : PairsAt lexemes non_terminals) → StartTested q sort nowhere start)
    → {again : ℕ} → ((q : GroupsAt text lexemes names list listed) → ListingTested q nowhere again)
    → {r : ℕ} → r ≡ min start again → (p : Declared text lexemes names at listed) → ListsTested p nowhere r
lists_tested en el er by-sort nowhere by-start by-groups e p =
    rw (closes pair_shape (pairs (command_of p) en), closes group_shape (groups (command_of p) el), ← by-sort (sort-of p er))
    (e ∙ ap₂ min (by-start (pairs_of p en)) (by-groups (groups_of p el)))
