-- The head of a command that is not past a limit: its sorts are at most 64 wide, and it has at most 8 arguments.
use Prim.Native.Nat.{ℕ, zero, suc, ◌≤◌, ◌<◌}
use native.Mathlib.Omega.{arith}
use mathlib.Core.Bool.{Bool, true, false, cond}
use mathlib.Core.Path.{◌≡◌, refl}
use lib.Dec.{leb}
use lib.ListN.{get_or}
use borrow.Author.Tests.{leb-true}
use Rattle.forest.specs.Forest.{count, none, tree}
use Rattle.operators.specs.Sorts.{max_width}
use Rattle.words.specs.Trees.{word_of}
use Rattle.lexemes.specs.Lists.{Items, inside, item}
use Rattle.written_sorts.specs.Written.{least_in, pair_place, sort_of}
use Rattle.written_sorts.specs.declared.Fault.TheVariants.{TooWide}
use Rattle.term_nodes.specs.Rules.{item_past}
use Rattle.names.specs.New.{named_by}
use Rattle.names.specs.Scopes.{named_sorts}
use Rattle.names.specs.code.New.{AllNarrow}
use Rattle.headers.specs.Heads.{header_past}
use Rattle.forest.specs.Limits.{allowed}
use Rattle.script.proofs.WordsBelow.{Below, inside_below, item_below, sort_narrow}

-- Items are at most so many, where none is past the limit.
few_items : (nowhere most : ℕ) (F : Items) → word_of (item most F) < nowhere → nowhere ≤ item_past nowhere most F → count F ≤ most
few_items nowhere most F below h = go (leb (count F) most) refl h
  where
    go : (b : Bool) → leb (count F) most ≡ b → nowhere ≤ cond b nowhere (word_of (item most F)) → count F ≤ most
    go true e h = leb-true (count F) most e
    go false e h = absurd (omega arith)

-- The sorts of pairs are at most 64 wide, where none is past the limit.
pub pairs_narrow : (nowhere : ℕ) → 0 < nowhere → (F : Items) → Below nowhere F → nowhere ≤ least_in nowhere (pair_place TooWide nowhere) F → AllNarrow F
unfolding AllNarrow Below least_in
pairs_narrow nowhere some none below h = tt
pairs_narrow nowhere some (tree l ops more) below h =
    let held = inside_below nowhere 1 ops below.1 in (
      sort_narrow nowhere (item 1 ops) (inside 1 ops) (item_below some 2 (inside 1 ops) held).first (omega arith),
      pairs_narrow nowhere some more below.2 (omega arith),
    )

-- The sort of one of such pairs.
pub narrow_sort : (F : Items) (j : ℕ) → AllNarrow F → get_or (named_sorts (named_by F)) j 0 ≤ max_width
unfolding AllNarrow named_by
narrow_sort none j narrow = omega arith
narrow_sort (tree l ops more) zero narrow = narrow.0
narrow_sort (tree l ops more) (suc j) narrow = narrow_sort more j narrow.1

-- What a head that is not past a limit keeps to.
pub record Narrow (c : Items) : Type 0 where
  pub arguments : AllNarrow (inside 2 c)
  pub result : sort_of (item 3 c) (inside 3 c) ≤ max_width
  pub few : count (inside 2 c) ≤ 8

-- A head that is not past a limit keeps to it.
pub head_narrow : (nowhere : ℕ) → 0 < nowhere → (c : Items) → Below nowhere c → nowhere ≤ header_past allowed nowhere c → Narrow c
head_narrow nowhere some c below h =
    let pairs = inside_below nowhere 2 c below in
    record {
      arguments = pairs_narrow nowhere some (inside 2 c) pairs (omega arith);
      result = sort_narrow nowhere (item 3 c) (inside 3 c) (item_below some 2 (inside 3 c) (inside_below nowhere 3 c below)).first (omega arith);
      few = few_items nowhere 8 (inside 2 c) (item_below some 8 (inside 2 c) pairs).first (omega arith);
    }
