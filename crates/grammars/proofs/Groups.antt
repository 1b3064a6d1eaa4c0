-- A group, held to the row of the non-terminal that it lists.
use Prim.Native.Nat.{ℕ, ◌+◌, min}
use native.Mathlib.Omega.{arith}
use mathlib.Core.Path.{◌≡◌, refl, sym, ap, ap₂, ◌∙◌}
use mathlib.Core.Bool.{Bool, true, false, cond, ◌&&◌}
use mathlib.Core.List.{List, [], ◌∷◌}
use lib.Dec.{eqb}
use borrow.Author.Tests.{eq-eqb, eqb-false, eqb-true, ne_eqb}
use Rattle.forest.specs.Forest.{count}
use Rattle.forest.specs.Lists.{same_bytes}
use Rattle.forest.proofs.Bools.{and_left, and_right}
use Rattle.words.specs.Trees.{Lexeme, keyword, list, literal, numeral, symbol}
use Rattle.lexemes.specs.Lists.{Items, close_of, inside, is_list, is_symbol, item, name_of}
use Rattle.lexemes.specs.code.Table.{next_at}
use Rattle.lexemes.specs.code.Standing.{ListAt, Source, WordIs, spelt}
use Rattle.lexemes.proofs.Listed.{at_item, list_from}
use Rattle.shapes.specs.Shapes.{all, group_shape, rule_shape, sort_shape}
use Rattle.written_sorts.specs.code.Places.{ShapedAt, SortAt}
use Rattle.written_sorts.specs.Written.{sort_of}
use Rattle.written_sorts.proofs.Walked.{come_first, item_come, word_is}
use Rattle.written_sorts.proofs.PairParts.{Sorted, group_parts, group_rules, group_sort}
use Rattle.forest.specs.Search.{place_in}
use Rattle.names.specs.code.Lookup.{bytes_at}
use Rattle.names.specs.code.Table.{name_in, names_from, sort_in}
use Rattle.grammars.specs.code.Listed.{GroupAt, group_misfit, name_misfit, rules_misfit}
use Rattle.grammars.proofs.Start.{name_placed}

-- numbers are equal either way round
same_turned : (m n : ℕ) → eqb m n ≡ eqb n m
same_turned m n = go (eqb m n) refl
  where
    go : (b : Bool) → eqb m n ≡ b → b ≡ eqb n m
    go true e = sym (eq-eqb n m (sym (eqb-true m n e)))
    go false e = sym (ne_eqb n m (λ q. eqb-false m n e (sym q)))

-- and so are bytes
bytes_turned : (u v : List ℕ) → same_bytes u v ≡ same_bytes v u
unfolding same_bytes
bytes_turned [] [] = refl
bytes_turned [] (b ∷ v) = refl
bytes_turned (a ∷ u) [] = refl
bytes_turned (a ∷ u) (b ∷ v) = ap₂ ◌&&◌ (same_turned a b) (bytes_turned u v)

-- a word is found first in one row just when it is the name there
first_found : (names word : List ℕ) (row : ℕ) {found : ℕ} → found ≡ place_in (names_from names row 1) 0 word → eqb found 0 ≡ same_bytes (name_in names row) word
unfolding names_from place_in
first_found names word row e = rw e (go (same_bytes (name_in names row) word))
  where
    go : (b : Bool) → eqb (cond b 0 1) 0 ≡ b
    go true = refl
    go false = refl

-- the bytes of a symbol
symbol_spelt : {s : Source} {i : ℕ} (l : Lexeme) → is_symbol l ≡ true → WordIs s i l → spelt s i ≡ name_of l
symbol_spelt (symbol at name) t w = w.written refl
symbol_spelt (list at close) t w = let z : ◌≡◌ {A = Bool} false true = t in cc
symbol_spelt (numeral at v) t w = let z : ◌≡◌ {A = Bool} false true = t in cc
symbol_spelt (keyword at name) t w = let z : ◌≡◌ {A = Bool} false true = t in cc
symbol_spelt (literal at width v written) t w = let z : ◌≡◌ {A = Bool} false true = t in cc

-- the name of a group is a symbol
group_symbol : (l : Lexeme) (ops : Items) → group_shape l ops ≡ true → is_symbol (item 0 ops) ≡ true
group_symbol l ops e =
    let front = is_list l && eqb (count ops) 3 in
    let name = is_symbol (item 0 ops) in
    let sort = sort_shape (item 1 ops) (inside 1 ops) in
    let rules = is_list (item 2 ops) in
    and_right front name
    (and_left (front && name) sort (and_left (front && name && sort) rules (and_left (front && name && sort && rules) (all rule_shape (inside 2 ops)) e)))

module _ {text lexemes names : List ℕ} {group row : ℕ} where
  -- a group has its shape
  abbrev pub shaped_group : GroupAt text lexemes names group row → ShapedAt group_shape lexemes group
  shaped_group p = record { here = p.here; shaped = p.shaped }

  -- the sort of a group
  abbrev pub listed_sort : GroupAt text lexemes names group row → SortAt lexemes (group + 2)
  listed_sort p = group_sort (shaped_group p)

  -- its rules
  abbrev pub listed_rules : {rules : ℕ} → rules ≡ next_at lexemes (group + 2) → GroupAt text lexemes names group row → ListAt lexemes rules
  listed_rules e p =
      let r = group_rules (shaped_group p) e in
      list_from r.here (and_left (is_list r.here.label) (all rule_shape r.here.operands) r.shaped)

  -- it is a list of a name and a sort, with a third item
  named_of : (p : GroupAt text lexemes names group row) → Sorted p.here.label p.here.operands 3
  named_of p = (group_parts p.here.label p.here.operands p.shaped).sorted

  -- the bytes of its name
  name_spelt : (p : GroupAt text lexemes names group row) → bytes_at text lexemes (group + 1) ≡ name_of (item 0 p.here.operands)
  name_spelt p =
      let s = named_of p in
      let list = list_from p.here s.a_list in
      let name = item 0 p.here.operands in
      let is = word_is (item_come list (come_first list) (omega (arith, s.long))).stands s.a_word in
      ap (λ (x : Source). spelt x (group + 1)) (sym p.read) ∙ symbol_spelt name (group_symbol p.here.label p.here.operands p.shaped) is

  module _ {bytes : List ℕ} (eb : bytes ≡ bytes_at text lexemes (group + 1)) {found : ℕ} (ef : found ≡ place_in (names_from names row 1) 0 bytes)
      {sort : ℕ} (es : (q : SortAt lexemes (group + 2)) → sort ≡ sort_of q.here.label q.here.operands)
      {own : ℕ} (eo : own ≡ sort_in names row) (nowhere : ℕ) where
    -- what is tested of name and sort
    tested : (p : GroupAt text lexemes names group row)
        → (eqb found 0 && eqb sort own)
        ≡ (same_bytes (name_of (item 0 p.here.operands)) (name_in names row)
        && eqb (sort_of (item 1 p.here.operands) (inside 1 p.here.operands)) (sort_in names row))
    tested p =
        let name = name_of (item 0 p.here.operands) in
        let same : eqb found 0 ≡ same_bytes name (name_in names row) =
        first_found names bytes row ef ∙ ap (same_bytes (name_in names row)) (eb ∙ name_spelt p) ∙ bytes_turned (name_in names row) name in
        ap₂ ◌&&◌ same (ap₂ eqb (es (listed_sort p)) eo)

    -- they are those in the row
    pub name_fits : eqb found 0 && eqb sort own ≡ true → (p : GroupAt text lexemes names group row)
        → nowhere ≡ name_misfit nowhere names row p.here.operands
    name_fits t p = rw (sym (tested p) ∙ t)

    -- they are not
    pub name_differs : eqb found 0 && eqb sort own ≡ false → (p : GroupAt text lexemes names group row)
        → group + 1 ≡ name_misfit nowhere names row p.here.operands
    name_differs t p = rw (sym (tested p) ∙ t) (sym (name_placed p.here (named_of p) (omega arith)))

  -- the least word at fault in a group
  pub group_least : (nowhere : ℕ)
      → {own : ℕ} → ((p : GroupAt text lexemes names group row) → own ≡ name_misfit nowhere names row p.here.operands)
      → {rules : ℕ} → rules ≡ next_at lexemes (group + 2)
      → {other : ℕ} → ((x : ListAt lexemes rules) → other ≡ rules_misfit nowhere x.close x.operands)
      → {r : ℕ} → r ≡ min own other → (p : GroupAt text lexemes names group row) → r ≡ group_misfit nowhere names row p.here.operands
  group_least nowhere by_name er by-rules e p =
      let ops = p.here.operands in
      let x = listed_rules er p in
      let r = group_rules (shaped_group p) er in
      let h = (at_item r.here).a_list (and_left (is_list (item 2 ops)) (all rule_shape (inside 2 ops)) r.shaped) in
      let close : x.close ≡ close_of (item 2 ops) = sym (ap close_of h.label) in
      e ∙ ap₂ min (by_name p) (by-rules x ∙ ap (λ (c : ℕ). rules_misfit nowhere c (inside 2 ops)) close)
