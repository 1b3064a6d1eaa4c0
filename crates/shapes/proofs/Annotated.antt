-- Rules that have attributes.
use Prim.Native.Nat.{ℕ, ◌+◌, ◌-◌, ◌≤◌, ◌<◌}
use native.Mathlib.Omega.{arith}
use mathlib.Core.Path.{◌≡◌, refl, sym, ap, ap₂, ◌∙◌}
use mathlib.Core.Bool.{Bool, true, false, ◌&&◌, ◌||◌, cond, not, or-false}
use mathlib.Core.List.{List}
use lib.Dec.{eqb}
use borrow.Author.Tests.{le-leb, lt-leb, not-false, not-true}
use Rattle.forest.specs.Forest.{count, tree}
use Rattle.forest.proofs.Bools.{and_left}
use Rattle.lexemes.specs.Lists.{Items, after, is, is_key, is_numeral, is_list, item}
use Rattle.lexemes.specs.code.Codes.{bang_code, weight_code}
use Rattle.lexemes.specs.code.Table.{code_at, code_of, next_at, numeral_code, open_code}
use Rattle.lexemes.specs.code.Standing.{Between, ItemAt, ListAt, Reached}
use Rattle.lexemes.proofs.Along.{AlongAny, along_end, along_here, along_less, along_start, along_turn, item-of}
use Rattle.lexemes.proofs.ByCode.{code_for, front_word, list_code, numeral-code, weight-code}
use Rattle.lexemes.proofs.Listed.{at_item, between, list_from}
use Rattle.lexemes.proofs.Standing.{front}
use Rattle.shapes.specs.Shapes.{annotated_shape, attributes_shape, is_annotated, term_rule_shape, term_shape}
use Rattle.shapes.specs.code.Lists.{ItemOf}
use Rattle.shapes.proofs.ListItems.{part}

-- whether a code is that which is wanted behind an attribute's keyword, or elsewhere
abbrev pub wanted : (named : Bool) → (code : ℕ) → Bool
wanted named code = named && eqb code numeral_code || not named && eqb code weight_code

-- the items are attributes just when those that are left are
abbrev pub Attributes : {lexemes : List ℕ} {first close : ℕ} → (named : Bool) → Between lexemes first close → (left : Items) → Type 0
Attributes named b left = attributes_shape named left ≡ attributes_shape false b.items

module _ {lexemes : List ℕ} {first close : ℕ} where
  pub attributes_start : Between lexemes first close → AlongAny lexemes first close first (Attributes false)
  attributes_start given = along_start (λ b. b) given (λ b. refl)

  module _ {at : ℕ} (named : Bool) (a : AlongAny lexemes first close at (Attributes named)) where
    pub attributes_end : close ≤ at → (b : Between lexemes first close) → not named ≡ attributes_shape false b.items
    unfolding attributes_shape
    attributes_end h b = along_end a h b

    module _ (h : at < close) where
      pub attributes_less : {next : ℕ} → next ≡ next_at lexemes at → close - next < close - at
      attributes_less e = along_less a h e

      module _ {code : ℕ} (ec : code ≡ code_at lexemes at) where
        -- what an item is by its code
        told : (x : ItemAt lexemes at) → wanted named code ≡ cond named (is_numeral x.label) (is_key ":weight" x.label)
        told x = go named
          where
            of_label : code ≡ code_of x.label
            of_label = ec ∙ (at_item x).code

            go : (n : Bool) → wanted n code ≡ cond n (is_numeral x.label) (is_key ":weight" x.label)
            go true = or-false (eqb code numeral_code) ∙ ap (λ (k : ℕ). eqb k numeral_code) of_label ∙ sym (numeral-code x.label)
            go false = ap (λ (k : ℕ). eqb k weight_code) of_label ∙ sym (weight-code x.label)

        pub attributes_turn : not (wanted named code) ≡ false → {next : ℕ} → next ≡ next_at lexemes at
            → AlongAny lexemes first close next (Attributes (not named))
        unfolding attributes_shape
        attributes_turn t e = along_turn a h e (λ b x source known. go b x named (sym (told x) ∙ not-false _ t) known)
          where
            go : (b : Between lexemes first close) (x : ItemAt lexemes at) (n : Bool) → cond n (is_numeral x.label) (is_key ":weight" x.label) ≡ true
                → Attributes n b (tree x.label x.operands x.more) → Attributes (not n) b x.more
            go b x true t known = rw t at known
            go b x false t known = rw t at known

        pub attributes_miss : not (wanted named code) ≡ true → (b : Between lexemes first close) → false ≡ attributes_shape false b.items
        unfolding attributes_shape
        attributes_miss t b = let x = item-of a h b in go x named (sym (told x) ∙ not-true _ t) (along_here a h b)
          where
            go : (x : ItemAt lexemes at) (n : Bool) → cond n (is_numeral x.label) (is_key ":weight" x.label) ≡ false
                → Attributes n b (tree x.label x.operands x.more) → false ≡ attributes_shape false b.items
            go x true t known = rw t at known
            go x false t known = rw t at known

module _ {lexemes : List ℕ} {at : ℕ} where
  -- a list begun by `!`
  pub annotated_test : {code : ℕ} → code ≡ code_at lexemes at → {head : ℕ} → head ≡ code_at lexemes (at + 1)
      → (x : ItemAt lexemes at) → eqb code open_code && eqb head bang_code ≡ is_annotated x.label x.operands
  unfolding after code_for
  annotated_test ec {head} eh x = rw (ec, (at_item x).code, ← list_code x.label) (go (is_list x.label) refl)
    where
      go : (b : Bool) → is_list x.label ≡ b → b && eqb head bang_code ≡ b && is "!" (item 0 x.operands)
      go true e =
          let h = (at_item x).a_list e in
          rw (eh, front x.same h.stands h.closes, front_word "!" refl 0 x.operands)
      go false e = refl

  -- the attributes stand behind the term
  abbrev pub attributes_there : {next : ℕ} (en : next ≡ next_at lexemes at) {first : ℕ}
      → ((b : Between lexemes (at + 1) (next - 1)) → Reached lexemes (at + 1) (next - 1) 2 b first) → ListAt lexemes at → Between lexemes first (next - 1)
  attributes_there en reached x =
      record { source = x.source; same = x.same; items = after 2 x.operands; stands = (reached (between x en)).stands }

  module _ {n : ℕ} (counts : (x : ListAt lexemes at) → n ≡ count x.operands) where
    pub annotated_short : n < 4 → (x : ListAt lexemes at) → false ≡ annotated_shape x.operands
    annotated_short h x = rw (lt-leb 4 (count x.operands) (omega (arith, counts x)))

    pub annotated_made : 4 ≤ n → {next : ℕ} (en : next ≡ next_at lexemes at) {first : ℕ}
        → ((b : Between lexemes (at + 1) (next - 1)) → Reached lexemes (at + 1) (next - 1) 2 b first)
        → {i : ℕ} → ((x : ListAt lexemes at) → ItemOf x 1 i) → {t : Bool} → ((y : ItemAt lexemes i) → t ≡ term_shape y.label y.operands)
        → {r : Bool} → ((b : Between lexemes first (next - 1)) → r ≡ attributes_shape false b.items)
        → (x : ListAt lexemes at) → t && r ≡ annotated_shape x.operands
    annotated_made h en reached found term attributes x =
        rw (le-leb 4 (count x.operands) (omega (arith, counts x))) (ap₂ ◌&&◌ (part found term_shape term x) (attributes (attributes_there en reached x)))

  -- a rule that is a term
  module _ {a : Bool} (annotated : (x : ItemAt lexemes at) → a ≡ is_annotated x.label x.operands) where
    module _ (t : a ≡ true) where
      abbrev pub annotated_list : ItemAt lexemes at → ListAt lexemes at
      annotated_list x = list_from x (and_left (is_list x.label) (is "!" (item 0 x.operands)) (sym (annotated x) ∙ t))

      pub rule_annotated : {s : Bool} → ((x : ListAt lexemes at) → s ≡ annotated_shape x.operands)
          → (x : ItemAt lexemes at) → s ≡ term_rule_shape x.label x.operands
      rule_annotated known x = rw (← annotated x, t) (known (annotated_list x))

    pub rule_plain : a ≡ false → {t : Bool} → ((x : ItemAt lexemes at) → t ≡ term_shape x.label x.operands)
        → (x : ItemAt lexemes at) → t ≡ term_rule_shape x.label x.operands
    rule_plain t known x = rw (← annotated x, t) (known x)
