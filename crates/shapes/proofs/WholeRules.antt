-- What is not carried where whole rules may be begun by `!`: the last of a list's items, and those before it.
use Prim.Native.Nat.{ℕ, zero, suc, ◌+◌, ◌-◌, ◌<◌}
use native.Mathlib.Omega.{arith}
use mathlib.Core.Path.{◌≡◌, refl, sym, ap, ap₂, ◌∙◌, subst}
use mathlib.Core.Bool.{Bool, true, false, ◌&&◌, ◌||◌, not}
use mathlib.Core.List.{List}
use lib.Dec.{eqb}
use borrow.Author.Tests.{eqb-true, not-false, not-true}
use Rattle.forest.specs.Forest.{count, none, tree}
use Rattle.forest.proofs.Bools.{and_left, and_right}
use Rattle.words.specs.Trees.{Lexeme, word_of}
use Rattle.lexemes.specs.Lists.{Items, after, inside, is, is_list, item}
use Rattle.lexemes.specs.code.Codes.{synth_fun_code}
use Rattle.lexemes.specs.code.Table.{code_at, next_at, open_code}
use Rattle.lexemes.specs.code.Standing.{Between, ItemAt, ListAt, Reached, Source, Stands, bracketed, ends, word}
use Rattle.lexemes.proofs.ByCode.{code_for, front_word, list_code}
use Rattle.lexemes.proofs.Listed.{alone, as_list, at_item, between, first_code_lem, from_item, is-list, list_from, no_list}
use Rattle.shapes.specs.Carried.{any_of, any_uncarried, before, command_uncarried, ends_in_list, group_uncarried, last_by, rule_uncarried, uncarried_start}
use Rattle.shapes.specs.Shapes.{is_annotated}
use Rattle.shapes.specs.code.Lists.{EndsInList, ItemOf}
use Rattle.shapes.proofs.Annotated.{annotated_list}
use Rattle.shapes.proofs.ListItems.{not_so_many, so_many, the_item}

-- ---- the items before one of them

module _ {s : Source} where
  -- where an item stands
  place : {i e : ℕ} {l : Lexeme} {ops more : Items} → Stands s i (tree l ops more) e → word_of l ≡ i
  place (word w rest) = w.placed
  place (bracketed b inner rest) = refl

  -- the items before item n stand to before the word at which it stands
  pub stands_before : {i j e : ℕ} (n : ℕ) {F : Items} → Stands s i F e → n < count F → Stands s j (after n F) e → Stands s i (before n F) j
  unfolding after before count
  stands_before n ends h st = absurd (omega arith)
  stands_before {i} {j} zero (word w rest) h st = let e : i ≡ j = sym w.placed ∙ place st in subst (λ (k : ℕ). Stands s i none k) e ends
  stands_before {i} {j} zero (bracketed b inner rest) h st = let e : i ≡ j = place st in subst (λ (k : ℕ). Stands s i none k) e ends
  stands_before (suc n) (word w rest) h st = word w (stands_before n rest (omega arith) st)
  stands_before (suc n) (bracketed b inner rest) h st = bracketed b inner (stands_before n rest (omega arith) st)

-- ---- a list that ends in a list

module _ {lexemes : List ℕ} {at n : ℕ} (given : EndsInList lexemes at n) {next : ℕ} (en : next ≡ next_at lexemes at) {last : ℕ}
    (found : (b : Between lexemes (at + 1) (next - 1)) → Reached lexemes (at + 1) (next - 1) n b last) where
  pub counted : (x : ListAt lexemes at) → count x.operands ≡ suc n
  counted x = eqb-true _ _ (and_left (eqb (count x.operands) (suc n)) (is_list (item n x.operands)) (given.ending x))

  pub reached : (x : ListAt lexemes at) → Stands x.source last (after n x.operands) (next - 1)
  reached x = (found (between x en)).stands

  -- its last item
  abbrev pub last_item : ListAt lexemes at → ItemAt lexemes last
  last_item x = record {
    source = x.source;
    same = x.same;
    label = item n x.operands;
    operands = inside n x.operands;
    more = after (suc n) x.operands;
    end = next - 1;
    stands = subst (λ (F : Items). Stands x.source last F (next - 1)) (from_item n x.operands (omega (arith, counted x))) (reached x);
  }

  abbrev pub last_list : ListAt lexemes at → ListAt lexemes last
  last_list x =
      list_from (last_item x) (and_right (eqb (count x.operands) (suc n)) (is_list (item n x.operands)) (given.ending x))

  -- the items before it
  abbrev pub before_last : ListAt lexemes at → Between lexemes (at + 1) last
  before_last x = record {
    source = x.source;
    same = x.same;
    items = before n x.operands;
    stands = stands_before n (between x en).stands (omega (arith, counted x)) (reached x);
  }

  pub last_made : (test : Lexeme → Items → Bool) {a : Bool} → ((b : Between lexemes (at + 1) last) → a ≡ any_uncarried b.items)
      → {t : Bool} → ((x : ListAt lexemes last) → t ≡ uncarried_start x.operands) → {behind : ℕ} → (eb : behind ≡ next_at lexemes last)
      → {r : Bool} → ((b : Between lexemes (last + 1) (behind - 1)) → r ≡ any_of test b.items)
      → (x : ListAt lexemes at) → a || t || r ≡ last_by n test x.operands
  last_made test before start eb held x =
      ap₂ ◌||◌ (ap₂ ◌||◌ (before (before_last x)) (start (last_list x))) (held (between (last_list x) eb))

module _ {lexemes : List ℕ} {at : ℕ} where
  -- whether a list ends in a list
  module _ {m : ℕ} (counts : (x : ListAt lexemes at) → m ≡ count x.operands) (n : ℕ) where
    pub ends_not : (m ≡ n + 1 → ⊥) → (x : ListAt lexemes at) → false ≡ ends_in_list n x.operands
    ends_not other x = let e : n + 1 ≡ suc n = omega arith in rw (not_so_many counts {k = suc n} (λ q. other (q ∙ sym e)) x)

    pub ends_made : m ≡ n + 1 → {last : ℕ} (found : (x : ListAt lexemes at) → ItemOf x n last) {code : ℕ} → code ≡ code_at lexemes last
        → (x : ListAt lexemes at) → eqb code open_code ≡ ends_in_list n x.operands
    ends_made e found ec x =
        let many : m ≡ suc n = omega arith in
        rw (so_many counts many x, ec, (at_item (the_item found x)).code) (sym (list_code (item n x.operands)))

  -- a list that was found to end in a list
  abbrev pub ends_given : ListAt lexemes at → {n : ℕ} {e : Bool} → ((x : ListAt lexemes at) → e ≡ ends_in_list n x.operands) → not e ≡ false
      → EndsInList lexemes at n
  ends_given here {e = e} known t = record { here = here; ending = λ x. sym (known x) ∙ not-false e t }

  -- what a list holds, and an item
  pub held_made : {next : ℕ} → next ≡ next_at lexemes at → {r : Bool} → ((b : Between lexemes (at + 1) (next - 1)) → r ≡ any_uncarried b.items)
      → (x : ListAt lexemes at) → r ≡ any_uncarried x.operands
  held_made e known x = known (between x e)

  pub item_made : {next : ℕ} → next ≡ next_at lexemes at → {r : Bool} → ((b : Between lexemes at next) → r ≡ any_uncarried b.items)
      → (x : ItemAt lexemes at) → r ≡ any_uncarried (tree x.label x.operands none)
  item_made e known x = known (alone x e)

  -- a whole rule
  module _ {a : Bool} (annotated : (x : ItemAt lexemes at) → a ≡ is_annotated x.label x.operands) where
    pub rule_held : a ≡ true → {r : Bool} → ((x : ListAt lexemes at) → r ≡ any_uncarried x.operands)
        → (x : ItemAt lexemes at) → r ≡ rule_uncarried x.label x.operands
    rule_held t known x = rw (← annotated x, t) (known (annotated_list annotated t x))

    pub rule_tested : a ≡ false → {r : Bool} → ((x : ItemAt lexemes at) → r ≡ any_uncarried (tree x.label x.operands none))
        → (x : ItemAt lexemes at) → r ≡ rule_uncarried x.label x.operands
    rule_tested t known x = rw (← annotated x, t) (known x)

  -- what a grammar lists of a non-terminal
  module _ {code : ℕ} (ec : code ≡ code_at lexemes at) where
    pub group_word : (code ≡ open_code → ⊥) → {r : Bool} → ((x : ItemAt lexemes at) → r ≡ any_uncarried (tree x.label x.operands none))
        → (x : ItemAt lexemes at) → r ≡ group_uncarried x.label x.operands
    group_word other known x = rw (no_list ec other x) (known x)

    module _ (opens : code ≡ open_code) {e : Bool} (ending : (x : ListAt lexemes at) → e ≡ ends_in_list 2 x.operands) where
      told : (x : ItemAt lexemes at) → is_list x.label && ends_in_list 2 x.operands ≡ e
      told x = rw (is-list ec opens x) (sym (ending (as_list ec opens x)))

      pub group_other : not e ≡ true → {r : Bool} → ((x : ItemAt lexemes at) → r ≡ any_uncarried (tree x.label x.operands none))
          → (x : ItemAt lexemes at) → r ≡ group_uncarried x.label x.operands
      group_other t known x = rw (told x, not-true e t) (known x)

      pub group_made : not e ≡ false → {u : Bool} → ((x : ListAt lexemes at) → u ≡ uncarried_start x.operands)
          → {r : Bool} → ((x : ListAt lexemes at) → r ≡ last_by 2 rule_uncarried x.operands)
          → (x : ItemAt lexemes at) → u || r ≡ group_uncarried x.label x.operands
      group_made t start known x = let y = as_list ec opens x in rw (told x, not-false e t) (ap₂ ◌||◌ (start y) (known y))

  -- a command
  module _ {code : ℕ} (ec : code ≡ code_at lexemes (at + 1)) (weights : Bool) where
    functions : (x : ListAt lexemes at) → weights && is "synth-fun" (item 0 x.operands) ≡ weights && eqb code synth_fun_code
    unfolding after code_for
    functions x = ap (λ (t : Bool). weights && t) (front_word "synth-fun" refl 0 x.operands ∙ ap (λ (c : ℕ). eqb c synth_fun_code) (sym (first_code_lem x) ∙ sym ec))

    pub command_other : not (weights && eqb code synth_fun_code) ≡ true → {r : Bool} → ((x : ListAt lexemes at) → r ≡ any_uncarried x.operands)
        → (x : ListAt lexemes at) → r ≡ command_uncarried weights x.operands
    unfolding command_uncarried
    command_other t known x = rw (functions x, not-true (weights && eqb code synth_fun_code) t) (known x)

    module _ (f : not (weights && eqb code synth_fun_code) ≡ false) {e : Bool} (ending : (x : ListAt lexemes at) → e ≡ ends_in_list 5 x.operands) where
      pub command_short : not e ≡ true → {r : Bool} → ((x : ListAt lexemes at) → r ≡ any_uncarried x.operands)
          → (x : ListAt lexemes at) → r ≡ command_uncarried weights x.operands
      unfolding command_uncarried
      command_short t known x = rw (functions x, not-false (weights && eqb code synth_fun_code) f, sym (ending x) ∙ not-true e t) (known x)

      pub command_made : not e ≡ false → {r : Bool} → ((x : ListAt lexemes at) → r ≡ last_by 5 group_uncarried x.operands)
          → (x : ListAt lexemes at) → r ≡ command_uncarried weights x.operands
      unfolding command_uncarried
      command_made t known x = rw (functions x, not-false (weights && eqb code synth_fun_code) f, sym (ending x) ∙ not-false e t) (known x)
