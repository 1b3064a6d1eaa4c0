-- The parts of pairs, of rules and of what a grammar lists of a non-terminal: where they stand and what their shapes are.
use Prim.Native.Nat.{ℕ, ◌+◌, ◌-◌, ◌≤◌, ◌<◌, min}
use native.Mathlib.Omega.{arith}
use mathlib.Core.Path.{◌≡◌, refl, sym, ap₂, ◌∙◌}
use mathlib.Core.Bool.{Bool, true, false, ◌&&◌, and_assoc}
use mathlib.Core.List.{List, [], ◌∷◌}
use lib.Dec.{eqb}
use borrow.Author.Tests.{eqb-true}
use Rattle.forest.specs.Forest.{count}
use Rattle.forest.proofs.Bools.{and_left, and_right}
use Rattle.forest.specs.Lists.{same_bytes}
use Rattle.lexemes.specs.Reserved.{is_one_of}
use Rattle.words.specs.Trees.{Lexeme}
use Rattle.lexemes.specs.Lists.{Items, inside, is_among, is_list, is_symbol, item}
use Rattle.lexemes.specs.code.Table.{next_at}
use Rattle.lexemes.specs.code.Standing.{ItemAt, ListAt}
use Rattle.lexemes.proofs.Listed.{between, list_from}
use Rattle.shapes.specs.Shapes.{all, group_shape, is_pattern, is_list_of, pair_shape, rule_shape, sort_shape}
use Rattle.written_sorts.specs.code.Places.{AllBetween, ShapedAt, SortAt}
use Rattle.written_sorts.specs.Written.{group_place, least_in, pair_place, rule_place, sort_place}
use Rattle.written_sorts.specs.declared.Fault.{Fault}
use Rattle.written_sorts.proofs.Walked.{Come, come_behind, come_first, come_next, item_come, named_word, symbol_word}

-- A list of so many items or more, the first a word and the second a sort.
pub record Sorted (l : Lexeme) (ops : Items) (n : ℕ) : Type 0 where
  pub a_list : is_list l ≡ true
  pub a_word : is_list (item 0 ops) ≡ false
  pub long : n ≤ count ops
  pub sort : sort_shape (item 1 ops) (inside 1 ops) ≡ true

-- a list of so many items, a symbol and a sort among them
pub sorted : (l : Lexeme) (ops : Items) (n : ℕ) → is_list l && eqb (count ops) n && is_symbol (item 0 ops) && sort_shape (item 1 ops) (inside 1 ops) ≡ true
    → Sorted l ops n
sorted l ops n e =
    let front = is_list l && eqb (count ops) n in
    let named = and_left (front && is_symbol (item 0 ops)) (sort_shape (item 1 ops) (inside 1 ops)) e in
    let counted = and_left front (is_symbol (item 0 ops)) named in
    record {
      a_list = and_left (is_list l) (eqb (count ops) n) counted;
      a_word = symbol_word (item 0 ops) (and_right front (is_symbol (item 0 ops)) named);
      long = omega (arith, eqb-true (count ops) n (and_right (is_list l) (eqb (count ops) n) counted));
      sort = and_right (front && is_symbol (item 0 ops)) (sort_shape (item 1 ops) (inside 1 ops)) e;
    }

-- a rule that is no term
pub pattern_parts : (l : Lexeme) (ops : Items) → is_pattern l ops ≡ true → rule_shape l ops ≡ true → Sorted l ops 2
unfolding is_one_of same_bytes
pattern_parts l ops pattern e =
    let names = is_among ("Constant" ∷ "Variable" ∷ []) (item 0 ops) in
    let sort = sort_shape (item 1 ops) (inside 1 ops) in
    let pair : eqb (count ops) 2 && sort ≡ true = rw pattern at e in
    record {
      a_list = and_left (is_list l) names pattern;
      a_word = named_word (is_one_of ("Constant" ∷ "Variable" ∷ [])) refl (item 0 ops) (and_right (is_list l) names pattern);
      long = omega (arith, eqb-true (count ops) 2 (and_left (eqb (count ops) 2) sort pair));
      sort = and_right (eqb (count ops) 2) sort pair;
    }

-- What a grammar lists of a non-terminal: its name, its sort and its rules.
pub record Grouped (l : Lexeme) (ops : Items) : Type 0 where
  pub sorted : Sorted l ops 3
  pub rules : is_list_of rule_shape (item 2 ops) (inside 2 ops) ≡ true

pub group_parts : (l : Lexeme) (ops : Items) → group_shape l ops ≡ true → Grouped l ops
group_parts l ops e =
    let named = is_list l && eqb (count ops) 3 && is_symbol (item 0 ops) && sort_shape (item 1 ops) (inside 1 ops) in
    let rules = is_list_of rule_shape (item 2 ops) (inside 2 ops) in
    let both : named && rules ≡ true = sym (and_assoc named (is_list (item 2 ops)) (all rule_shape (inside 2 ops))) ∙ e in
    record { sorted = sorted l ops 3 (and_left named rules both); rules = and_right named rules both }

-- item n of a list has a shape
abbrev pub shaped_come : {shape : Lexeme → Items → Bool} {lexemes : List ℕ} {at : ℕ} (x : ListAt lexemes at) {n j : ℕ} → Come x n j → n < count x.operands
    → shape (item n x.operands) (inside n x.operands) ≡ true → ShapedAt shape lexemes j
shaped_come x c more e = record { here = item_come x c more; shaped = e }

module _ {lexemes : List ℕ} {at : ℕ} where
  -- the sort stands two words on
  module _ (x : ItemAt lexemes at) {n : ℕ} (s : Sorted x.label x.operands n) (h : 2 ≤ n) where
    pub come_sort : Come (list_from x s.a_list) 1 (at + 2)
    come_sort = let list = list_from x s.a_list in come_behind list (come_first list) (omega (arith, s.long)) s.a_word (omega arith)

    abbrev pub sort-in : SortAt lexemes (at + 2)
    sort-in = shaped_come (list_from x s.a_list) come_sort (omega (arith, s.long)) s.sort

  -- a pair's sort
  abbrev pub pair_sort : ShapedAt pair_shape lexemes at → SortAt lexemes (at + 2)
  pair_sort p = sort-in p.here (sorted p.here.label p.here.operands 2 p.shaped) (omega arith)

  pub pair_place_lem : (fault : Fault) (nowhere : ℕ) {r : ℕ}
      → ((q : SortAt lexemes (at + 2)) → r ≡ sort_place fault nowhere q.here.label q.here.operands)
      → (p : ShapedAt pair_shape lexemes at) → r ≡ pair_place fault nowhere p.here.label p.here.operands
  pair_place_lem fault nowhere known p = known (pair_sort p)

  -- a rule that is no term has a sort
  module _ {pattern : Bool} (told : (x : ItemAt lexemes at) → pattern ≡ is_pattern x.label x.operands) where
    abbrev pub rule-sort : pattern ≡ true → ShapedAt rule_shape lexemes at → SortAt lexemes (at + 2)
    rule-sort t p = sort-in p.here (pattern_parts p.here.label p.here.operands (sym (told p.here) ∙ t) p.shaped) (omega arith)

    module _ (fault : Fault) (nowhere : ℕ) where
      pub rule-place : pattern ≡ true → {r : ℕ} → ((q : SortAt lexemes (at + 2)) → r ≡ sort_place fault nowhere q.here.label q.here.operands)
          → (p : ShapedAt rule_shape lexemes at) → r ≡ rule_place fault nowhere p.here.label p.here.operands
      rule-place t known p = rw (← told p.here, t) (known (rule-sort t p))

      pub no_rule_place : pattern ≡ false → (p : ShapedAt rule_shape lexemes at) → nowhere ≡ rule_place fault nowhere p.here.label p.here.operands
      no_rule_place t p = rw (← told p.here, t)

module _ {shape : Lexeme → Items → Bool} {lexemes : List ℕ} {at : ℕ} where
  -- the items of a list of items of a shape stand between its brackets
  abbrev pub list_between : ShapedAt (is_list_of shape) lexemes at → {next : ℕ} → next ≡ next_at lexemes at → AllBetween shape lexemes (at + 1) (next - 1)
  list_between p e =
      let l = is_list p.here.label in
      let each = all shape p.here.operands in
      record { between = between (list_from p.here (and_left l each p.shaped)) e; shaped = and_right l each p.shaped }

  -- the least of the places that its items have
  pub list_least : {next : ℕ} → next ≡ next_at lexemes at → (nowhere : ℕ) (place_of : Lexeme → Items → ℕ) {r : ℕ}
      → ((q : AllBetween shape lexemes (at + 1) (next - 1)) → r ≡ least_in nowhere place_of q.between.items)
      → (p : ShapedAt (is_list_of shape) lexemes at) → r ≡ least_in nowhere place_of p.here.operands
  list_least e nowhere place_of known p = known (list_between p e)

module _ {lexemes : List ℕ} {at : ℕ} where
  module _ (p : ShapedAt group_shape lexemes at) where
    -- the sort of a non-terminal
    abbrev pub group_sort : SortAt lexemes (at + 2)
    group_sort = sort-in p.here (group_parts p.here.label p.here.operands p.shaped).sorted (omega arith)

    -- its rules
    abbrev pub group_rules : {rules : ℕ} → rules ≡ next_at lexemes (at + 2) → ShapedAt (is_list_of rule_shape) lexemes rules
    group_rules er =
        let g = group_parts p.here.label p.here.operands p.shaped in
        let s = g.sorted in
        let list = list_from p.here s.a_list in
        shaped_come list (come_next list (come_sort p.here s (omega arith)) (omega (arith, s.long)) er) s.long g.rules

  pub group-place : {rules : ℕ} → rules ≡ next_at lexemes (at + 2) → (fault : Fault) (nowhere : ℕ)
      → {within : ℕ} → ((q : ShapedAt (is_list_of rule_shape) lexemes rules) → within ≡ least_in nowhere (rule_place fault nowhere) q.here.operands)
      → {sort : ℕ} → ((q : SortAt lexemes (at + 2)) → sort ≡ sort_place fault nowhere q.here.label q.here.operands)
      → {r : ℕ} → r ≡ min sort within → (p : ShapedAt group_shape lexemes at) → r ≡ group_place fault nowhere p.here.label p.here.operands
  group-place er fault nowhere by-rules by-sort e p = e ∙ ap₂ min (by-sort (group_sort p)) (by-rules (group_rules p er))
