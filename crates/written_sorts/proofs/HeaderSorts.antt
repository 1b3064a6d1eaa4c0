-- The sorts of a function's header and of its grammar, where they stand in the command.
use Prim.Native.Nat.{ℕ, ◌+◌, min}
use native.Mathlib.Omega.{arith}
use mathlib.Core.Path.{◌≡◌, ap₂, ◌∙◌}
use mathlib.Core.Bool.{true, ◌&&◌}
use mathlib.Core.List.{List}
use lib.Dec.{eqb}
use borrow.Author.Tests.{eqb-true}
use Rattle.forest.specs.Forest.{count}
use Rattle.forest.proofs.Bools.{and_left, and_right}
use Rattle.lexemes.specs.Lists.{Items, inside, is_symbol, item}
use Rattle.lexemes.specs.code.Table.{next_at}
use Rattle.shapes.specs.Shapes.{group_shape, header_shape, is_list_of, pair_shape, sort_shape, synth_fun_shape}
use Rattle.written_sorts.specs.code.Places.{ShapedAt, SortAt}
use Rattle.written_sorts.specs.code.Headers.{HeaderAt, SynthFunAt}
use Rattle.written_sorts.specs.Written.{grammar_sorts, group_place, header_place, least_in, pair_place, sort_place}
use Rattle.written_sorts.specs.declared.Fault.{Fault}
use Rattle.written_sorts.proofs.Walked.{Come, come_behind, come_first, come_next, symbol_word}
use Rattle.written_sorts.proofs.PairParts.{shaped_come}

-- A function's arguments and sort.
pub record HeaderParts (c : Items) : Type 0 where
  pub arguments : is_list_of pair_shape (item 2 c) (inside 2 c) ≡ true
  pub sort : sort_shape (item 3 c) (inside 3 c) ≡ true

pub header_parts : (c : Items) → header_shape c ≡ true → HeaderParts c
header_parts c e =
    let name = is_symbol (item 1 c) in
    let arguments = is_list_of pair_shape (item 2 c) (inside 2 c) in
    let sort = sort_shape (item 3 c) (inside 3 c) in
    record { arguments = and_right name arguments (and_left (name && arguments) sort e); sort = and_right (name && arguments) sort e }

-- A function's header and its grammar.
pub record SynthFunParts (c : Items) : Type 0 where
  pub six : count c ≡ 6
  pub header : header_shape c ≡ true
  pub non-terminals : is_list_of pair_shape (item 4 c) (inside 4 c) ≡ true
  pub groups : is_list_of group_shape (item 5 c) (inside 5 c) ≡ true

pub synth_fun_parts : (c : Items) → synth_fun_shape c ≡ true → SynthFunParts c
synth_fun_parts c e =
    let six = eqb (count c) 6 in
    let non-terminals = is_list_of pair_shape (item 4 c) (inside 4 c) in
    let groups = is_list_of group_shape (item 5 c) (inside 5 c) in
    let front = and_left (six && header_shape c && non-terminals) groups e in
    let start = and_left (six && header_shape c) non-terminals front in
    record {
      six = eqb-true (count c) 6 (and_left six (header_shape c) start);
      header = and_right six (header_shape c) start;
      non-terminals = and_right (six && header_shape c) non-terminals front;
      groups = and_right (six && header_shape c && non-terminals) groups e;
    }

module _ {lexemes : List ℕ} {at : ℕ} where
  module _ (p : HeaderAt lexemes at) {arguments : ℕ} (ea : arguments ≡ next_at lexemes (at + 2)) where
    pub come_arguments : Come p.here 2 arguments
    come_arguments =
        let x = p.here in
        let come : Come x 1 (at + 2) = come_behind x (come_first x) (omega (arith, p.long)) (symbol_word (item 0 x.operands) p.named) (omega arith) in
        come_next x come (omega (arith, p.long)) ea

    -- the arguments
    abbrev pub header_arguments : ShapedAt (is_list_of pair_shape) lexemes arguments
    header_arguments = shaped_come p.here come_arguments (omega (arith, p.long)) (header_parts p.here.operands p.shaped).arguments

    module _ {result : ℕ} (er : result ≡ next_at lexemes arguments) where
      pub come_result : Come p.here 3 result
      come_result = come_next p.here come_arguments (omega (arith, p.long)) er

      -- the function's own sort
      abbrev pub header_sort : SortAt lexemes result
      header_sort = shaped_come p.here come_result p.long (header_parts p.here.operands p.shaped).sort

  -- a `synth-fun` has a header
  abbrev pub header : SynthFunAt lexemes at → HeaderAt lexemes at
  header p =
      let parts = synth_fun_parts p.here.operands p.shaped in
      record { here = p.here; named = p.named; long = omega (arith, parts.six); shaped = parts.header }

  module _ {arguments : ℕ} (ea : arguments ≡ next_at lexemes (at + 2)) {result : ℕ} (er : result ≡ next_at lexemes arguments) where
    pub header-place : (fault : Fault) (nowhere : ℕ)
        → {within : ℕ} → ((q : ShapedAt (is_list_of pair_shape) lexemes arguments) → within ≡ least_in nowhere (pair_place fault nowhere) q.here.operands)
        → {sort : ℕ} → ((q : SortAt lexemes result) → sort ≡ sort_place fault nowhere q.here.label q.here.operands)
        → {r : ℕ} → r ≡ min within sort → (p : HeaderAt lexemes at) → r ≡ header_place fault nowhere p.here.operands
    header-place fault nowhere by-pairs by-sort e p = e ∙ ap₂ min (by-pairs (header_arguments p ea)) (by-sort (header_sort p ea er))

    module _ {declared : ℕ} (ed : declared ≡ next_at lexemes result) where
      pub come_declared : (p : SynthFunAt lexemes at) → Come p.here 4 declared
      come_declared p = come_next p.here (come_result (header p) ea er) (omega (arith, (header p).long)) ed

      -- the non-terminals
      abbrev pub grammar_pairs : SynthFunAt lexemes at → ShapedAt (is_list_of pair_shape) lexemes declared
      grammar_pairs p =
          let parts = synth_fun_parts p.here.operands p.shaped in
          shaped_come p.here (come_declared p) (omega (arith, parts.six)) parts.non-terminals

      module _ {groups : ℕ} (eg : groups ≡ next_at lexemes declared) where
        -- what is listed of each
        abbrev pub grammar_groups : SynthFunAt lexemes at → ShapedAt (is_list_of group_shape) lexemes groups
        grammar_groups p =
            let parts = synth_fun_parts p.here.operands p.shaped in
            shaped_come p.here (come_next p.here (come_declared p) (omega (arith, parts.six)) eg) (omega (arith, parts.six)) parts.groups

        pub grammar-place : (fault : Fault) (nowhere : ℕ)
            → {one : ℕ} → ((q : ShapedAt (is_list_of pair_shape) lexemes declared) → one ≡ least_in nowhere (pair_place fault nowhere) q.here.operands)
            → {other : ℕ} → ((q : ShapedAt (is_list_of group_shape) lexemes groups) → other ≡ least_in nowhere (group_place fault nowhere) q.here.operands)
            → {r : ℕ} → r ≡ min one other → (p : SynthFunAt lexemes at) → r ≡ grammar_sorts fault nowhere p.here.operands
        grammar-place fault nowhere by-pairs by-groups e p = e ∙ ap₂ min (by-pairs (grammar_pairs p)) (by-groups (grammar_groups p))
