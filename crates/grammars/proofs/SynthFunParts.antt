-- The parts of a `synth-fun`: where they stand and what their shapes are.
use Prim.Native.Nat.{ℕ, ◌+◌, ◌-◌, ◌≤◌}
use native.Mathlib.Omega.{arith}
use mathlib.Core.Path.{◌≡◌, refl, ap, subst}
use mathlib.Core.Bool.{Bool, true}
use mathlib.Core.List.{List}
use Rattle.forest.proofs.Bools.{and_left, and_right}
use Rattle.forest.specs.Forest.{tree}
use Rattle.words.specs.Trees.{Lexeme, list}
use Rattle.lexemes.specs.Lists.{Items, close_of, is_list, is_symbol, item}
use Rattle.lexemes.specs.code.Standing.{Between, ListAt, Source, Stands}
use Rattle.lexemes.specs.code.Table.{next_at}
use Rattle.lexemes.proofs.Listed.{at_item, held, list_from}
use Rattle.lexemes.proofs.Standing.{forward}
use Rattle.shapes.specs.Shapes.{all, group_shape, is_list_of, pair_shape, synth_fun_shape}
use Rattle.written_sorts.specs.code.Places.{ShapedAt, SortAt}
use Rattle.written_sorts.specs.code.Headers.{SynthFunAt}
use Rattle.written_sorts.proofs.HeaderSorts.{come_declared, grammar_groups, grammar_pairs, header, header_sort, synth_fun_parts}
use Rattle.written_sorts.proofs.Walked.{come_next, item_come}
use Rattle.grammars.specs.code.Parts.{groups_word, non_terminals_word, result_word}
use Rattle.grammars.proofs.Within.{amid}

module _ (shape : Lexeme → Items → Bool) {lexemes : List ℕ} {at : ℕ} (p : ShapedAt (is_list_of shape) lexemes at) where
  -- a list of items of a shape is a list
  pub is-list : is_list p.here.label ≡ true
  is-list = and_left (is_list p.here.label) (all shape p.here.operands) p.shaped

  -- as such
  abbrev pub as_list : ListAt lexemes at
  as_list = list_from p.here is-list

  -- its items are of the shape
  pub items_shaped : all shape p.here.operands ≡ true
  items_shaped = and_right (is_list p.here.label) (all shape p.here.operands) p.shaped

  -- the bracket that closes it
  pub closes : close_of p.here.label ≡ as_list.close
  closes = ap close_of ((at_item p.here).a_list is-list).label

-- a list has a bracket that closes it
pub list_closes : {lexemes : List ℕ} {at : ℕ} → ListAt lexemes at → {next : ℕ} → next ≡ next_at lexemes at → 1 ≤ next
list_closes x e = omega (arith, (held x).next)

-- its items stand before that bracket
abbrev pub items_between : {lexemes : List ℕ} {at : ℕ} → ListAt lexemes at → {close : ℕ} → close ≡ next_at lexemes at - 1 → Between lexemes (at + 1) close
items_between {lexemes} {at} x {close} e =
    let h = held x in
    let closed : h.close ≡ close = omega (arith, h.next) in
    record {
      source = x.source;
      same = x.same;
      items = x.operands;
      stands = subst (λ (n : ℕ). Stands x.source (at + 1) x.operands n) closed h.stands;
    }

-- a `synth-fun` that stands in a text
abbrev pub command_at : {s : Source} {at close end : ℕ} {c more : Items} → Stands s at (tree (list at close) c more) end → is_symbol (item 0 c) ≡ true
    → synth_fun_shape c ≡ true → SynthFunAt s.lexemes at
command_at {s} {at} {close} {end} {c} {more} stands named shaped = record {
  here = record { source = s; same = refl; close = close; operands = c; more = more; end = end; stands = stands };
  named = named;
  shaped = shaped;
}

module _ {lexemes : List ℕ} {at : ℕ} (p : SynthFunAt lexemes at) where
  -- the function's sort
  abbrev pub result-sort : {result : ℕ} → result ≡ result_word lexemes at → SortAt lexemes result
  result-sort er = header_sort (header p) refl er

  -- the non-terminals
  abbrev pub pairs : {list : ℕ} → list ≡ non_terminals_word lexemes at → ShapedAt (is_list_of pair_shape) lexemes list
  pairs el = grammar_pairs refl refl el p

  -- which stand in their list
  abbrev pub pairs_between : {list : ℕ} → list ≡ non_terminals_word lexemes at → {close : ℕ} → close ≡ next_at lexemes list - 1 → Between lexemes (list + 1) close
  pairs_between el ec = items_between (as_list pair_shape (pairs el)) ec

  module _ {list : ℕ} (el : list ≡ groups_word lexemes at) where
    -- what is listed of each
    abbrev pub groups : ShapedAt (is_list_of group_shape) lexemes list
    groups = grammar_groups refl refl refl el p

    -- which ends before the command does
    pub groups_within : (at ≤ list) × (next_at lexemes list ≤ next_at lexemes at)
    groups_within =
        let six = (synth_fun_parts p.here.operands p.shaped).six in
        let x = p.here in
        let come = come_next x (come_declared refl refl refl p) (omega (arith, six)) el in
        let a = amid 5 (held x).stands come.stands (omega (arith, six)) in
        (omega (arith, a.begins), omega (arith, (held x).next, a.ends_there, forward (at_item (item_come x come (omega (arith, six)))).rest))
