-- From the rules of a grammar, one by one, to the rules of all of its groups.
use Prim.Native.Nat.{ℕ, zero, suc, ◌+◌, ◌≤◌}
use native.Mathlib.Omega.{arith}
use mathlib.Core.Path.{◌≡◌, refl, sym, ap, ◌∙◌}
use mathlib.Core.Bool.{Bool, true, false, ◌&&◌}
use mathlib.Core.List.{List, [], ◌∷◌, ◌++◌}
use lib.Dec.{eqb}
use Rattle.forest.specs.Forest.{count, none, tree}
use Rattle.forest.specs.Lists.{same_bytes}
use Rattle.forest.proofs.Bools.{and_left, and_right, apart}
use Rattle.words.specs.Trees.{Lexeme, keyword, list, literal, numeral, symbol, word_of}
use Rattle.lexemes.specs.Lists.{Items, inside, is_key, is_list, is_symbol, item}
use Rattle.lexemes.specs.code.Codes.{weight_code}
use Rattle.lexemes.specs.code.Table.{close_code, code_at}
use Rattle.lexemes.specs.code.Standing.{Source, Stands, bracketed, ends, word}
use Rattle.lexemes.proofs.ByCode.{weight-code}
use Rattle.lexemes.proofs.Standing.{by_itself, forward, here}
use Rattle.shapes.specs.Shapes.{all, group_shape, rule_shape, sort_shape, term_shapes}
use Rattle.term_nodes.specs.Terms.{raw_rule}
use Rattle.term_nodes.specs.Rules.{Ruled, attributes_in, rules_in, rules_of}

-- The rule of the non-terminal A that an item is.
abbrev pub rule_of : (A : ℕ) → Lexeme → Items → Ruled
rule_of A l ops = record { head = A; first = word_of l; side = raw_rule l ops; attributes = attributes_in l ops }

-- Word i is no `:weight`.
abbrev pub Unweighted : (s : Source) → (i : ℕ) → Type 0
Unweighted s i = eqb (code_at s.lexemes i) weight_code ≡ false

-- What holds of rules that stand from one word to before another: of none, of one more at the front, and from an earlier word on.
pub record Gathers (s : Source) (P : (i e : ℕ) → List Ruled → Type 0) : Type 0 where
  pub nothing : (i e : ℕ) → P i e []
  pub one_more : {i m e : ℕ} {l : Lexeme} {ops : Items} {rules : List Ruled} (A : ℕ) → Stands s i (tree l ops none) m → rule_shape l ops ≡ true → Unweighted s m
      → m ≤ e → P m e rules → P i e (rule_of A l ops ∷ rules)
  pub earlier : {i j e : ℕ} {rules : List Ruled} → i ≤ j → P j e rules → P i e rules

-- What a group must be but for its rules.
abbrev named : Items → Bool
named ops = eqb (count ops) 3 && is_symbol (item 0 ops) && sort_shape (item 1 ops) (inside 1 ops) && is_list (item 2 ops)

-- Items stand somewhere between word i and word e, and a bracket closes them.
record Amid (s : Source) (i e : ℕ) (F : Items) : Type 0 where
  first : ℕ
  last : ℕ
  stands : Stands s first F last
  closed : code_at s.lexemes last ≡ close_code
  begins : i ≤ first
  ends_by : last ≤ e

module _ {s : Source} where
  -- what item n holds, which is a list, stands amid the items
  amid : (n : ℕ) {i e : ℕ} {F : Items} → Stands s i F e → is_list (item n F) ≡ true → Amid s i e (inside n F)
  unfolding inside item
  amid n ends l = apart l
  amid zero (word w rest) l = apart (sym w.no_list ∙ l)
  amid zero {i} (bracketed {c = c} b inner rest) l =
      record { first = i + 1; last = c; stands = inner; closed = b.closed; begins = omega arith; ends_by = omega (arith, forward rest) }
  amid (suc n) (word w rest) l =
      let a = amid n rest l in
      record { first = a.first; last = a.last; stands = a.stands; closed = a.closed; begins = omega (arith, a.begins); ends_by = a.ends_by }
  amid (suc n) (bracketed b inner rest) l =
      let a = amid n rest l in
      record {
        first = a.first;
        last = a.last;
        stands = a.stands;
        closed = a.closed;
        begins = omega (arith, a.begins, forward inner);
        ends_by = a.ends_by;
      }

  -- no rule is a keyword
  unweighted : {i m : ℕ} {F : Items} → Stands s i F m → all rule_shape F ≡ true → code_at s.lexemes m ≡ close_code → Unweighted s i
  unfolding all count inside item same_bytes term_shapes
  unweighted ends shape closed = ap (λ (k : ℕ). eqb k weight_code) closed
  unweighted (word {l = l} {more = more} w rest) shape closed =
      ap (λ (k : ℕ). eqb k weight_code) w.coded ∙ sym (weight-code l) ∙ no_key l w.no_list (and_left (rule_shape l none) (all rule_shape more) shape)
    where
      no_key : (l : Lexeme) → is_list l ≡ false → rule_shape l none ≡ true → is_key ":weight" l ≡ false
      no_key (symbol at name) e shape = refl
      no_key (numeral at v) e shape = refl
      no_key (literal at width v written) e shape = refl
      no_key (list at close) e shape = apart (sym e)
      no_key (keyword at name) e shape = apart shape
  unweighted (bracketed b inner rest) shape closed = ap (λ (k : ℕ). eqb k weight_code) b.opened

  module _ {P : (i e : ℕ) → List Ruled → Type 0} (gathers : Gathers s P) where
    -- it holds of the rules of a group and of those behind them
    rules_hold : (A : ℕ) {F : Items} {i m e : ℕ} {later : List Ruled} → Stands s i F m → all rule_shape F ≡ true → code_at s.lexemes m ≡ close_code → m ≤ e
        → P m e later → P i e (rules_of A F ++ later)
    unfolding all rules_of
    rules_hold A {F = none} ends shape closed h held = held
    rules_hold A {F = tree l ops more} stands shape closed h held =
        let rest = (here refl stands).rest in
        let others = and_right (rule_shape l ops) (all rule_shape more) shape in
        gathers.one_more A (by_itself refl stands) (and_left (rule_shape l ops) (all rule_shape more) shape) (unweighted rest others closed)
        (omega (arith, forward rest)) (rules_hold A {F = more} rest others closed h held)

    -- it holds of the rules of all groups
    pub groups_hold : {i e : ℕ} {F : Items} → Stands s i F e → all group_shape F ≡ true → (A : ℕ) → P i e (rules_in A F)
    unfolding all inside rules_in rules_of
    groups_hold {i} {e} ends shape A = gathers.nothing i e
    groups_hold (word {l = l} {more = more} w rest) shape A =
        gathers.earlier (omega arith) (groups_hold rest (and_right (group_shape l none) (all group_shape more) shape) (A + 1))
    groups_hold (bracketed {i = i} {c = c} {ops = ops} {more = more} b inner rest) shape A =
        let group = and_left (group_shape (list i c) ops) (all group_shape more) shape in
        let front = eqb (count ops) 3 && is_symbol (item 0 ops) && sort_shape (item 1 ops) (inside 1 ops) in
        let a = amid 2 inner (and_right front (is_list (item 2 ops)) (and_left (named ops) (all rule_shape (inside 2 ops)) group)) in
        let later = groups_hold rest (and_right (group_shape (list i c) ops) (all group_shape more) shape) (A + 1) in
        gathers.earlier (omega (arith, a.begins))
        (rules_hold A a.stands (and_right (named ops) (all rule_shape (inside 2 ops)) group) a.closed (omega (arith, a.ends_by, forward rest))
        (gathers.earlier (omega (arith, a.ends_by)) later))

  module _ {Q : List Ruled → Type 0} (nothing : Q [])
      (one_more : (A i e : ℕ) (l : Lexeme) (ops : Items) (rules : List Ruled) → Stands s i (tree l ops none) e → rule_shape l ops ≡ true
      → Unweighted s e → Q rules → Q (rule_of A l ops ∷ rules)) where
    -- what holds of rules wherever they stand holds of the rules of all groups
    pub groups_keep : {i e : ℕ} {F : Items} → Stands s i F e → all group_shape F ≡ true → (A : ℕ) → Q (rules_in A F)
    groups_keep stands shape A = groups_hold anywhere stands shape A
      where
        anywhere : Gathers s (λ (i e : ℕ) (rules : List Ruled). Q rules)
        anywhere = record { nothing = λ i e. nothing; one_more = λ A one shape behind h held. one_more A _ _ _ _ _ one shape behind held; earlier = λ h held. held }
