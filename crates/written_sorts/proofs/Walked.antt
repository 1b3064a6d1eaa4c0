-- The items of a list, come to one after the other.
use Prim.Native.Nat.{ℕ, suc, ◌+◌, ◌<◌}
use mathlib.Core.Path.{◌≡◌, refl, sym, ◌∙◌, subst}
use mathlib.Core.Bool.{Bool, true, false}
use mathlib.Core.List.{List, []}
use Rattle.forest.specs.Forest.{count, tree}
use Rattle.forest.proofs.Bools.{apart}
use Rattle.words.specs.Trees.{Lexeme, keyword, list, literal, numeral, symbol, word_of}
use Rattle.lexemes.specs.Lists.{Items, after, inside, is_list, is_symbol, item, name_of}
use Rattle.lexemes.specs.code.Table.{next_at}
use Rattle.lexemes.specs.code.Standing.{ItemAt, ListAt, Source, Stands, WordIs, bracketed, word}
use Rattle.lexemes.proofs.Listed.{at_item, from_item, held}

-- a symbol is no list
pub symbol_word : (l : Lexeme) → is_symbol l ≡ true → is_list l ≡ false
symbol_word (symbol at name) e = refl
symbol_word (list at close) e = sym e
symbol_word (numeral at v) e = refl
symbol_word (keyword at name) e = refl
symbol_word (literal at width v written) e = refl

-- what has a name of its own is no list
pub named_word : (test : List ℕ → Bool) → test [] ≡ false → (l : Lexeme) → test (name_of l) ≡ true → is_list l ≡ false
named_word test unnamed (symbol at name) e = refl
named_word test unnamed (list at close) e = apart (sym unnamed ∙ e)
named_word test unnamed (numeral at v) e = refl
named_word test unnamed (keyword at name) e = refl
named_word test unnamed (literal at width v written) e = refl

module _ {s : Source} where
  -- an item is told by its first word
  pub placed : {i e : ℕ} {l : Lexeme} {ops more : Items} → Stands s i (tree l ops more) e → word_of l ≡ i
  placed (word w rest) = w.placed
  placed (bracketed b inner rest) = refl

  -- what is no list is a word
  pub word_is : {i e : ℕ} {l : Lexeme} {ops more : Items} → Stands s i (tree l ops more) e → is_list l ≡ false → WordIs s i l
  word_is (word w rest) h = w
  word_is (bracketed b inner rest) h = apart (sym h)

-- Item n of a list, and those behind it, stand from word j on.
pub record Come {lexemes : List ℕ} {at : ℕ} (x : ListAt lexemes at) (n j : ℕ) : Type 0 where
  pub end : ℕ
  pub stands : Stands x.source j (after n x.operands) end

module _ {lexemes : List ℕ} {at : ℕ} (x : ListAt lexemes at) where
  -- the first stands behind the bracket
  pub come_first : Come x 0 (at + 1)
  unfolding after
  come_first = let h = held x in record { end = h.close; stands = h.stands }

  module _ {n j : ℕ} (c : Come x n j) (more : n < count x.operands) where
    abbrev pub item_come : ItemAt lexemes j
    item_come = record {
      source = x.source;
      same = x.same;
      label = item n x.operands;
      operands = inside n x.operands;
      more = after (suc n) x.operands;
      end = c.end;
      stands = subst (λ (F : Items). Stands x.source j F c.end) (from_item n x.operands more) c.stands;
    }

    pub come_next : {next : ℕ} → next ≡ next_at lexemes j → Come x (suc n) next
    come_next e = record { end = c.end; stands = rw e (at_item item_come).rest }

    -- a word is followed by the next
    pub come_behind : is_list (item n x.operands) ≡ false → {next : ℕ} → next ≡ j + 1 → Come x (suc n) next
    come_behind h e = come_next (e ∙ sym ((at_item item_come).a_word h).0)
