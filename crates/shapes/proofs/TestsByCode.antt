-- The tests of an item or a list by the codes of its words.
use Prim.Native.Nat.{ℕ, ◌+◌, ◌≤◌, ◌<◌}
use native.Mathlib.Omega.{arith}
use mathlib.Core.Path.{◌≡◌, refl, sym, ap, ap₂, ◌∙◌}
use mathlib.Core.Bool.{Bool, true, false, ◌&&◌, ◌||◌, not, and-false, and-true}
use mathlib.Core.List.{List, [], ◌∷◌}
use lib.Dec.{eqb, leb}
use borrow.Author.Tests.{le-leb, lt-leb}
use Rattle.forest.specs.Forest.{count}
use Rattle.lexemes.specs.code.Table.{open_code, code_at, code_of}
use Rattle.lexemes.specs.code.Codes.{constant_code, false_code, first_code, true_code, underscore_code, variable_code}
use Rattle.lexemes.specs.Lists.{after, indexed, inside, is, is_among, is_constant, is_list, item}
use Rattle.lexemes.specs.code.Standing.{ItemAt, ListAt}
use Rattle.lexemes.proofs.ByCode.{code_for, front_words, list_code, symbol-code, word_code, words_code}
use Rattle.lexemes.proofs.Standing.{front}
use Rattle.lexemes.proofs.Listed.{at_item}
use Rattle.shapes.specs.Shapes.{application_shape, head_shape, indexed_shape, is_pattern, sort_shape}
use Rattle.shapes.specs.code.Lists.{ItemOf}
use Rattle.shapes.proofs.ListItems.{the_item}

module _ {lexemes : List ℕ} {at : ℕ} where
  -- a term that is a list begun by `_`
  pub indexed_test : {r q : Bool} → ((x : ItemAt lexemes at) → r ≡ (is_list x.label && indexed "extract" 2 x.operands))
      → ((x : ItemAt lexemes at) → q ≡ (is_list x.label && is_constant x.operands))
      → (x : ItemAt lexemes at) → r || q ≡ is_list x.label && indexed_shape x.operands
  indexed_test extract constant x = ap₂ ◌||◌ (extract x) (constant x) ∙ go (is_list x.label) (indexed "extract" 2 x.operands) (is_constant x.operands)
    where
      go : (l a b : Bool) → l && a || l && b ≡ l && (a || b)
      go true a b = refl
      go false a b = refl

  module _ {code : ℕ} (ec : code ≡ code_at lexemes at) where
    code-of : (x : ItemAt lexemes at) → code ≡ code_of x.label
    code-of x = ec ∙ (at_item x).code

    pub sort_test : {r : Bool} → ((x : ItemAt lexemes at) → r ≡ (is_list x.label && indexed "BitVec" 1 x.operands))
        → (x : ItemAt lexemes at) → leb first_code code || r ≡ sort_shape x.label x.operands
    sort_test known x = ap₂ ◌||◌ (ap (leb first_code) (code-of x) ∙ sym (symbol-code x.label)) (known x)

    pub head_test : {r : Bool} → ((x : ItemAt lexemes at) → r ≡ (is_list x.label && indexed "extract" 2 x.operands))
        → (x : ItemAt lexemes at)
        → leb first_code code && not (eqb code true_code || eqb code false_code || eqb code constant_code || eqb code variable_code) || r ≡ head_shape x.label x.operands
    unfolding code_for
    head_test known x =
        let names = words_code ("true" ∷ "false" ∷ "Constant" ∷ "Variable" ∷ []) refl x.label in
        rw (code-of x, known x, symbol-code x.label, names)

    pub pattern_test : {head : ℕ} → head ≡ code_at lexemes (at + 1)
        → (x : ItemAt lexemes at) → eqb code open_code && (eqb head constant_code || eqb head variable_code) ≡ is_pattern x.label x.operands
    unfolding after code_for
    pattern_test {head} eh x = rw (code-of x, ← list_code x.label) (go (is_list x.label) refl)
      where
        go : (b : Bool) → is_list x.label ≡ b
            → b && (eqb head constant_code || eqb head variable_code) ≡ b && is_among ("Constant" ∷ "Variable" ∷ []) (item 0 x.operands)
        go true e =
            let h = (at_item x).a_list e in
            rw (eh, front x.same h.stands h.closes, front_words ("Constant" ∷ "Variable" ∷ []) refl 0 x.operands)
        go false e = refl

-- a head and operands
module _ {lexemes : List ℕ} {at n : ℕ} (counts : (x : ListAt lexemes at) → n ≡ count x.operands) where
  pub short_test : n < 2 → (x : ListAt lexemes at) → false ≡ not (is "_" (item 0 x.operands)) && application_shape x.operands
  short_test few x =
      let F = x.operands in
      let short : leb 2 (count F) ≡ false = lt-leb 2 (count F) (omega (arith, counts x)) in
      sym (rw (short, and-false (head_shape (item 0 F) (inside 0 F)), and-false (not (is "_" (item 0 F)))))

  pub application_test : 2 ≤ n → {head : ℕ} (found : (x : ListAt lexemes at) → ItemOf x 0 head) {code : ℕ} → code ≡ code_at lexemes head
      → {r : Bool} → ((y : ItemAt lexemes head) → r ≡ head_shape y.label y.operands)
      → (x : ListAt lexemes at) → not (eqb code underscore_code) && r ≡ not (is "_" (item 0 x.operands)) && application_shape x.operands
  unfolding code_for
  application_test enough found ec known x =
      let F = x.operands in
      let long : leb 2 (count F) ≡ true = le-leb 2 (count F) (omega (arith, counts x)) in
      let y = the_item found x in
      rw (long, and-true (head_shape (item 0 F) (inside 0 F)), ec, (at_item y).code, known y, word_code "_" refl (item 0 F))
