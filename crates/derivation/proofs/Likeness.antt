-- Items of a rule and labels of the body that are alike, and the test of their numbers.
use mathlib.Core.Path.{◌≡◌, refl, sym, ap, ◌∙◌, subst}
use mathlib.Core.Logic.{⊎_elim}
use Prim.Native.Nat.{ℕ, ◌<◌, ◌≤◌}
use native.Mathlib.Omega.{arith}
use mathlib.Core.Bool.{Bool, true, cond, ◌&&◌, ◌||◌, or-true as or_yes}
use mathlib.Core.List.{List}
use borrow.Author.Tests.{eq-eqb, eqb-true}
use lib.Dec.{eqb, lit<, lit≤}
use Rattle.forest.specs.Forest.{Forest, count, join, none, tree}
use Rattle.terms.specs.Labels.{Label, Terms, defined, function, literal, name, operator}
use Rattle.terms.specs.code.Codes.{any_argument_kind, any_literal_kind, code_with, head_of, kind_count, kind_of, literal_kind, name_kind, non_terminal_kind}
use Rattle.terms.specs.code.Nodes.{Plain, code_at, code_of, operands_at, value_at, value_of}
use Rattle.terms.proofs.CodeParts.{head_with, kind_with}
use Rattle.terms.proofs.Bodies.{Says, label-of, label_of}
use Rattle.derivation.specs.Derivation.{AnyLeaf, Item, SameLabel, any_argument, any_literal, constant, non_terminal, the, variable}
use Rattle.derivation.specs.code.Tables.{item_code, item_value}
use Rattle.derivation.specs.code.Admitted.{LeafFits, Proper}
use Rattle.derivation.specs.code.Matching.{alike, argument_fits, leaf_fits, literal_fits}
use Rattle.derivation.proofs.PassedTests.{and_both, and-true, both_equal, equal_both, or-true}
use Rattle.derivation.proofs.Same.{same_numbers, same_told}
use Rattle.derivation.proofs.Reading.{ItemSays}

-- an item of a rule of a function with these arguments derives a label
pub data Alike (arguments : List ℕ) : Item → Label → Type 0 where
  labels : {l m : Label} → SameLabel l m → Alike arguments (the l) m
  any : {i : Item} {l : Label} → AnyLeaf arguments i l → Alike arguments i l

-- the item is no non-terminal
abbrev pub NotHole : Item → Type 0
NotHole i = (A : ℕ) → i ≡ non_terminal A → ⊥

-- an item that is no label has no operands
unfoldable pub Bare : Item → Forest Item → Type 0
Bare (the l) ps = Unit {0}
Bare (non_terminal A) ps = ps ≡ none
Bare (any_literal s) ps = ps ≡ none
Bare (any_argument s) ps = ps ≡ none

pub any_bare : {arguments : List ℕ} {i : Item} {l : Label} {ps : Forest Item} → AnyLeaf arguments i l → Bare i ps → ps ≡ none
unfolding Bare
any_bare (constant f) b = b
any_bare (variable f) b = b

-- and it is no non-terminal, nor a label
pub any_not_hole : {arguments : List ℕ} {i : Item} {l : Label} → AnyLeaf arguments i l → NotHole i
any_not_hole (constant f) A e = let z : ◌≡◌ {A = ℕ} 0 1 = cc in omega arith
any_not_hole (variable f) A e = let z : ◌≡◌ {A = ℕ} 0 1 = cc in omega arith

pub any_not_label : {arguments : List ℕ} {i : Item} {l : Label} → AnyLeaf arguments i l → (m : Label) → i ≡ the m → ⊥
any_not_label (constant f) m e = let z : ◌≡◌ {A = ℕ} 0 1 = cc in omega arith
any_not_label (variable f) m e = let z : ◌≡◌ {A = ℕ} 0 1 = cc in omega arith

-- what a proper form says of its first node
pub proper_bare : (k : ℕ) (i : Item) (ps qs : Forest Item) → Proper k (tree i ps qs) → Bare i ps
unfolding Proper Bare
proper_bare k (the l) ps qs p = tt
proper_bare k (non_terminal A) ps qs p = p.1
proper_bare k (any_literal s) ps qs p = p.0
proper_bare k (any_argument s) ps qs p = p.0

proper_join : (k : ℕ) (ps qs : Forest Item) → Proper k ps → Proper k qs → Proper k (join ps qs)
unfolding Proper join
proper_join k none qs a b = b
proper_join k (tree (the l) xs ys) qs a b = (a.0, a.1, proper_join k ys qs a.2 b)
proper_join k (tree (non_terminal A) xs ys) qs a b = (a.0, a.1, proper_join k ys qs a.2 b)
proper_join k (tree (any_literal s) xs ys) qs a b = (a.0, proper_join k ys qs a.1 b)
proper_join k (tree (any_argument s) xs ys) qs a b = (a.0, proper_join k ys qs a.1 b)

-- and of what follows the first node
pub proper_on : (k : ℕ) (i : Item) (ps qs : Forest Item) → Proper k (tree i ps qs) → Proper k (join ps qs)
unfolding Proper join
proper_on k (the l) ps qs p = proper_join k ps qs p.1 p.2
proper_on k (non_terminal A) ps qs p = rw p.1 p.2
proper_on k (any_literal s) ps qs p = rw p.0 p.1
proper_on k (any_argument s) ps qs p = rw p.0 p.1

-- the kind of a label is none of those of the other items
pub label_kind : (l : Label) → kind_of (code_of l) < non_terminal_kind
label_kind (literal s v) = omega arith
label_kind (name s k) = omega arith
label_kind (operator o i j) = omega arith
label_kind (defined k) = omega arith
label_kind (function k) = omega arith

-- the same code and value
same_alike : {arguments : List ℕ} (k : ℕ) (i : Item) (ps qs : Forest Item) (m : Label) → NotHole i → Proper k (tree i ps qs) → Plain m
    → item_code i ≡ code_of m → item_value i ≡ value_of m → Alike arguments i m
unfolding Proper
same_alike k (the l) ps qs m n p q c v = labels (same_told l m p.0 q c v)
same_alike k (non_terminal A) ps qs m n p q c v = absurd (n A refl)
same_alike k (any_literal s) ps qs m n p q c v = absurd (omega (arith, label_kind m, c))
same_alike k (any_argument s) ps qs m n p q c v = absurd (omega (arith, label_kind m, c))

-- the item, no label, of a code and a value
abbrev item_of : (code value : ℕ) → Item
item_of code value =
    cond (eqb (kind_of code) any_literal_kind) (any_literal (head_of code))
    (cond (eqb (kind_of code) any_argument_kind) (any_argument (head_of code)) (non_terminal value))

item-of : (i : Item) → non_terminal_kind ≤ kind_of (item_code i) → item_of (item_code i) (item_value i) ≡ i
item-of (the l) h = absurd (omega (arith, label_kind l))
item-of (non_terminal A) h = refl
item-of (any_literal s) h = rw (kind_with any_literal_kind s (lit< tt), head_with any_literal_kind s (lit< tt))
item-of (any_argument s) h = rw (kind_with any_argument_kind s (lit< tt), head_with any_argument_kind s (lit< tt))

-- the code of a non-terminal
pub hole_item : (i : Item) → item_code i ≡ non_terminal_kind → i ≡ non_terminal (item_value i)
hole_item i k = sym (item-of i (omega arith)) ∙ ap (λ (code : ℕ). item_of code (item_value i)) k

-- an item and a label that are told to be any leaf and a leaf of its sort
leaf_alike : {arguments : List ℕ} {i j : Item} {m l : Label} → i ≡ j → m ≡ l → (LeafFits arguments l → AnyLeaf arguments j l) → LeafFits arguments m
    → Alike arguments i m
leaf_alike {arguments} {j = j} {m = m} item label leaf f =
    subst (λ (x : Item). Alike arguments x m) (sym item) (subst (Alike arguments j) (sym label) (any (leaf (subst (LeafFits arguments) label f))))

-- what the test of such codes tells: the item is the one of that kind and sort, and so is the label
record LeafTold (whole leaf : ℕ) (i : Item) (m : Label) : Type 0 where
  item : i ≡ item_of (code_with whole (head_of (code_of m))) (item_value i)
  label : m ≡ label_of (code_with leaf (head_of (code_of m))) (value_of m)

leaf_told : (whole leaf : ℕ) (i : Item) (m : Label) → non_terminal_kind ≤ whole → Plain m → leaf_fits whole leaf (item_code i) (code_of m) ≡ true
    → LeafTold whole leaf i m
unfolding leaf_fits
leaf_told whole leaf i m high plain w =
    let t = and-true _ _ w in
    let kinds : (kind_of (item_code i) ≡ whole) × (kind_of (code_of m) ≡ leaf) = both_equal _ _ _ _ t.0 in
    let sorts : head_of (item_code i) ≡ head_of (code_of m) = eqb-true _ _ t.1 in
    let one : item_code i ≡ code_with whole (head_of (code_of m)) = omega arith in
    let two : code_of m ≡ code_with leaf (head_of (code_of m)) = omega arith in
    record {
      item = sym (item-of i (omega arith)) ∙ ap (λ (code : ℕ). item_of code (item_value i)) one;
      label = sym (label-of m plain) ∙ ap (λ (code : ℕ). label_of code (value_of m)) two;
    }

-- `(Constant σ)`, held against a literal
literal_alike : {arguments : List ℕ} (i : Item) (m : Label) → Plain m → LeafFits arguments m → literal_fits (item_code i) (code_of m) ≡ true → Alike arguments i m
literal_alike i m plain f w =
    let t = leaf_told any_literal_kind literal_kind i m (lit≤ tt) plain w in
    let s = head_of (code_of m) in
    let item : i ≡ any_literal s = t.item ∙ rw (kind_with any_literal_kind s (lit< tt), head_with any_literal_kind s (lit< tt)) in
    let label : m ≡ literal s (value_of m) = t.label ∙ rw (kind_with literal_kind s (lit< tt), head_with literal_kind s (lit< tt)) in
    leaf_alike item label constant f

-- `(Variable σ)`, held against a name
argument_alike : {arguments : List ℕ} (i : Item) (m : Label) → Plain m → LeafFits arguments m → argument_fits (item_code i) (code_of m) ≡ true
    → Alike arguments i m
argument_alike i m plain f w =
    let t = leaf_told any_argument_kind name_kind i m (lit≤ tt) plain w in
    let s = head_of (code_of m) in
    let item : i ≡ any_argument s = t.item ∙ rw (kind_with any_argument_kind s (lit< tt), head_with any_argument_kind s (lit< tt)) in
    let label : m ≡ name s (value_of m) = t.label ∙ rw (kind_with name_kind s (lit< tt), head_with name_kind s (lit< tt)) in
    leaf_alike item label variable f

-- the test of the codes of an item and a label that are alike
leaf_passes : (whole leaf s : ℕ) → whole < kind_count → leaf < kind_count → leaf_fits whole leaf (code_with whole s) (code_with leaf s) ≡ true
unfolding leaf_fits
leaf_passes whole leaf s a b =
    and_both (equal_both _ _ _ _ (kind_with whole s a) (kind_with leaf s b)) (eq-eqb _ _ (head_with whole s a ∙ sym (head_with leaf s b)))

alike_numbers : {arguments : List ℕ} (i : Item) (m : Label) → Plain m → Alike arguments i m
    → eqb (item_code i) (code_of m) && eqb (item_value i) (value_of m) || literal_fits (item_code i) (code_of m) || argument_fits (item_code i) (code_of m) ≡ true
alike_numbers i m q (labels {l} e) = let n = same_numbers l m e in rw (equal_both (code_of l) (code_of m) (value_of l) (value_of m) n.0 n.1)
alike_numbers i m q (any (constant {s} {v} f)) = rw (leaf_passes any_literal_kind literal_kind s (lit< tt) (lit< tt), or_yes)
alike_numbers i m q (any (variable {s} {k} f)) = rw (leaf_passes any_argument_kind name_kind s (lit< tt) (lit< tt), or_yes)

module _ {forms : List ℕ} {p : ℕ} {i : Item} {ps : Forest Item} (x : ItemSays forms p i ps) {body : List ℕ} {j : ℕ} {m : Label} {ts : Terms}
    (y : Says body j m ts) (plain : Plain m) where
  abbrev same : Bool
  same = eqb (code_at forms p) (code_at body j) && eqb (value_at forms p) (value_at body j)

  abbrev literal? : Bool
  literal? = literal_fits (code_at forms p) (code_at body j)

  abbrev argument? : Bool
  argument? = argument_fits (code_at forms p) (code_at body j)

  abbrev operands? : Bool
  operands? = eqb (operands_at forms p) (operands_at body j)

  -- the test passes only for nodes that are alike
  pub alike_sound : {arguments : List ℕ} → LeafFits arguments m → (k : ℕ) (qs : Forest Item) → NotHole i → Proper k (tree i ps qs)
      → alike forms p body j ≡ true → Alike arguments i m × (count ts ≡ count ps)
  unfolding alike
  alike_sound f k qs n pr w =
      let t = and-true operands? (same || literal? || argument?) w in
      let counts : operands_at forms p ≡ operands_at body j = eqb-true _ _ t.0 in (
        ⊎_elim
            (λ e. ⊎_elim
            (λ s.
            let both : (code_at forms p ≡ code_at body j) × (value_at forms p ≡ value_at body j) = both_equal _ _ _ _ s in
            same_alike k i ps qs m n pr plain (sym x.code ∙ both.0 ∙ y.code) (sym x.value ∙ both.1 ∙ y.value))
            (λ s. literal_alike i m plain f (rw (x.code, y.code) at s))
            (or-true same literal? e))
            (λ e. argument_alike i m plain f (rw (x.code, y.code) at e))
            (or-true (same || literal?) argument? t.1),
        sym y.operands ∙ sym counts ∙ x.operands,
      )

  -- and it passes for each of them
  pub alike_complete : {arguments : List ℕ} → Alike arguments i m → count ts ≡ count ps → alike forms p body j ≡ true
  unfolding alike
  alike_complete a c = and_both (eq-eqb _ _ (x.operands ∙ sym c ∙ sym y.operands)) (rw (x.code, x.value, y.code, y.value) (alike_numbers i m plain a))
