-- What the parts of a list say of its shape.
use Prim.Native.Nat.{ℕ, ◌+◌, ◌-◌}
use mathlib.Core.Path.{◌≡◌, sym, ap₂, ◌∙◌}
use mathlib.Core.Bool.{Bool, true, false, ◌&&◌, and_assoc, not}
use mathlib.Core.List.{List, [], ◌∷◌}
use lib.Dec.{eqb}
use borrow.Author.Tests.{not-false, not-true}
use Rattle.forest.specs.Forest.{count}
use Rattle.forest.proofs.Bools.{and_left}
use Rattle.words.specs.Trees.{Lexeme}
use Rattle.lexemes.specs.Lists.{Items, inside, is_among, is_list, is_symbol, item}
use Rattle.lexemes.specs.code.Table.{code_at, next_at, open_code}
use Rattle.lexemes.specs.code.Standing.{Between, ItemAt, ListAt}
use Rattle.lexemes.proofs.Listed.{as_list, between, is-list, list_from}
use Rattle.shapes.specs.Shapes.{all, constraint_shape, declare_var_shape, define_fun_shape, group_shape, header_shape, is_pattern, is_list_of, pair_shape, rule_shape}
use Rattle.shapes.specs.Shapes.{set_logic_shape, sort_shape, synth_fun_shape, term_rule_shape, term_shape}
use Rattle.shapes.specs.code.Lists.{ItemOf}
use Rattle.shapes.proofs.ListItems.{not_so_many, part, so_many}

-- a test says of an item whether it is of a shape
abbrev Tells : (lexemes : List ℕ) → (at : ℕ) → (shape : Lexeme → Items → Bool) → Bool → Type 0
Tells lexemes at shape t = (y : ItemAt lexemes at) → t ≡ shape y.label y.operands

-- a test says of a list whether its items are so
abbrev Says : (lexemes : List ℕ) → (at : ℕ) → (test : Items → Bool) → Bool → Type 0
Says lexemes at test t = (x : ListAt lexemes at) → t ≡ test x.operands

-- a test says whether item n of a list is a symbol
abbrev Named : (lexemes : List ℕ) → (at n : ℕ) → Bool → Type 0
Named lexemes at n s = (x : ListAt lexemes at) → s ≡ is_symbol (item n x.operands)

-- so many items were counted
abbrev Counts : (lexemes : List ℕ) → (at n : ℕ) → Type 0
Counts lexemes at n = (x : ListAt lexemes at) → n ≡ count x.operands

-- item n of the list at a word stands at another
abbrev Finds : (lexemes : List ℕ) → (at n r : ℕ) → Type 0
Finds lexemes at n r = (x : ListAt lexemes at) → ItemOf x n r

module _ {lexemes : List ℕ} {at : ℕ} where
  pub header_made : {s : Bool} → Named lexemes at 1 s → {i : ℕ} → Finds lexemes at 2 i → {t : Bool} → Tells lexemes i (is_list_of pair_shape) t
      → {j : ℕ} → Finds lexemes at 3 j → {u : Bool} → Tells lexemes j sort_shape u → Says lexemes at header_shape (s && t && u)
  header_made symbol arguments pairs result sort x = ap₂ ◌&&◌ (ap₂ ◌&&◌ (symbol x) (part arguments (is_list_of pair_shape) pairs x)) (part result sort_shape sort x)

  module _ {n : ℕ} (counts : Counts lexemes at n) where
    pub set_logic_made : n ≡ 2 → {s : Bool} → Named lexemes at 1 s → Says lexemes at set_logic_shape s
    set_logic_made e symbol x = rw (so_many counts e x) (symbol x)

    pub declare_var_made : n ≡ 3 → {s : Bool} → Named lexemes at 1 s → {i : ℕ} → Finds lexemes at 2 i → {t : Bool}
        → Tells lexemes i sort_shape t → Says lexemes at declare_var_shape (s && t)
    declare_var_made e symbol found sort x = rw (so_many counts e x) (ap₂ ◌&&◌ (symbol x) (part found sort_shape sort x))

    pub define_fun_made : n ≡ 5 → {h : Bool} → Says lexemes at header_shape h → {i : ℕ} → Finds lexemes at 4 i → {t : Bool} → Tells lexemes i term_shape t
        → Says lexemes at define_fun_shape (h && t)
    define_fun_made e header found term x = rw (so_many counts e x) (ap₂ ◌&&◌ (header x) (part found term_shape term x))

    pub synth_fun_made : n ≡ 6 → {h : Bool} → Says lexemes at header_shape h → {i : ℕ} → Finds lexemes at 4 i → {t : Bool}
        → Tells lexemes i (is_list_of pair_shape) t → {j : ℕ} → Finds lexemes at 5 j → {u : Bool} → Tells lexemes j (is_list_of group_shape) u
        → Says lexemes at synth_fun_shape (h && t && u)
    synth_fun_made e header found pairs rest groups x =
        rw (so_many counts e x) (ap₂ ◌&&◌ (ap₂ ◌&&◌ (header x) (part found (is_list_of pair_shape) pairs x)) (part rest (is_list_of group_shape) groups x))

    pub constraint_made : n ≡ 2 → {i : ℕ} → Finds lexemes at 1 i → {t : Bool} → Tells lexemes i term_shape t → Says lexemes at constraint_shape t
    constraint_made e found term x = rw (so_many counts e x) (part found term_shape term x)

  -- an item that is a list of items of a shape
  pub held_made : {code : ℕ} → code ≡ code_at lexemes at → code ≡ open_code → {next : ℕ} → next ≡ next_at lexemes at
      → (shape : Lexeme → Items → Bool) {t : Bool} → ((b : Between lexemes (at + 1) (next - 1)) → t ≡ all shape b.items)
      → Tells lexemes at (is_list_of shape) t
  held_made ec opens e shape known y = rw (is-list ec opens y) (known (between (as_list ec opens y) e))

  -- an item that is a list of k items
  module _ {code : ℕ} (ec : code ≡ code_at lexemes at) (opens : code ≡ open_code) {n : ℕ} (counts : Counts lexemes at n) where
    listed : {k : ℕ} → n ≡ k → (y : ItemAt lexemes at) → (is_list y.label && eqb (count y.operands) k) ≡ true
    listed e y = rw (is-list ec opens y) (so_many counts e (as_list ec opens y))

    pub not_listed : {k : ℕ} → (n ≡ k → ⊥) → (y : ItemAt lexemes at) → (is_list y.label && eqb (count y.operands) k) ≡ false
    not_listed other y = rw (is-list ec opens y) (not_so_many counts other (as_list ec opens y))

    pub pair_made : n ≡ 2 → {s : Bool} → Named lexemes at 0 s → {i : ℕ} → Finds lexemes at 1 i → {t : Bool} → Tells lexemes i sort_shape t
        → Tells lexemes at pair_shape (s && t)
    pair_made e symbol found sort y =
        let x = as_list ec opens y in
        rw (listed e y) (ap₂ ◌&&◌ (symbol x) (part found sort_shape sort x))

    pub group_made : n ≡ 3 → {s : Bool} → Named lexemes at 0 s → {i : ℕ} → Finds lexemes at 1 i → {t : Bool} → Tells lexemes i sort_shape t
        → {j : ℕ} → Finds lexemes at 2 j → {u : Bool} → Tells lexemes j (is_list_of rule_shape) u → Tells lexemes at group_shape (s && t && u)
    group_made e symbol found sort rest rules y =
        let x = as_list ec opens y in
        let F = y.operands in
        rw (listed e y)
        (ap₂ ◌&&◌ (ap₂ ◌&&◌ (symbol x) (part found sort_shape sort x)) (part rest (is_list_of rule_shape) rules x)
        ∙ sym (and_assoc (is_symbol (item 0 F) && sort_shape (item 1 F) (inside 1 F)) (is_list (item 2 F)) (all rule_shape (inside 2 F))))

  -- a rule that is one of the two that are no terms, and another
  module _ {r : Bool} (pattern : Tells lexemes at is_pattern r) where
    pub term_made : not r ≡ true → {t : Bool} → Tells lexemes at term_rule_shape t → Tells lexemes at rule_shape t
    term_made other term y = rw (sym (pattern y) ∙ not-true r other) (term y)

    module _ (t : not r ≡ false) where
      is-pattern : (y : ItemAt lexemes at) → is_pattern y.label y.operands ≡ true
      is-pattern y = sym (pattern y) ∙ not-false r t

      pub pattern_list : ItemAt lexemes at → ListAt lexemes at
      pattern_list y = list_from y (and_left (is_list y.label) (is_among ("Constant" ∷ "Variable" ∷ []) (item 0 y.operands)) (is-pattern y))

      module _ {n : ℕ} (counts : Counts lexemes at n) where
        pub pattern_miss : (n ≡ 2 → ⊥) → Tells lexemes at rule_shape false
        unfolding pattern_list
        pattern_miss other y = rw (is-pattern y, not_so_many counts other (pattern_list y))

        pub pattern_made : n ≡ 2 → {i : ℕ} → Finds lexemes at 1 i → {u : Bool} → Tells lexemes i sort_shape u → Tells lexemes at rule_shape u
        unfolding pattern_list
        pattern_made e found sort y = rw (is-pattern y, so_many counts e (pattern_list y)) (part found sort_shape sort (pattern_list y))
