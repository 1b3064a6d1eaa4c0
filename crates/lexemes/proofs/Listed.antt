-- Items and lists that stand at a word of the table: what the passes of the reader know of them.
use Prim.Native.Nat.{ℕ, zero, suc, ◌+◌, ◌-◌, ◌*◌, ◌<◌}
use native.Mathlib.Omega.{arith}
use mathlib.Core.Path.{◌≡◌, refl, sym, ◌∙◌, subst}
use mathlib.Core.Bool.{true, false}
use mathlib.Core.List.{List}
use lib.ListN.{length}
use borrow.Author.Tests.{eq-eqb, ne_eqb}
use Rattle.forest.specs.Forest.{count, none, tree}
use Rattle.words.specs.Trees.{Lexeme, list}
use Rattle.lexemes.specs.Lists.{Items, after, inside, is_list, item}
use Rattle.lexemes.specs.code.Table.{code_at, next_at, open_code, row_width}
use Rattle.lexemes.specs.code.Standing.{Between, ItemAt, ListAt, Stands}
use Rattle.lexemes.proofs.ByCode.{front_code, list_code}
use Rattle.lexemes.proofs.Standing.{Here, Holds, by_itself, front, here}

-- item n and what stands behind it
pub from_item : (n : ℕ) (F : Items) → n < count F → after n F ≡ tree (item n F) (inside n F) (after (suc n) F)
unfolding after count inside item
from_item n none h = absurd (omega arith)
from_item zero (tree l ops more) h = refl
from_item (suc n) (tree l ops more) h = from_item n more (omega arith)

module _ {lexemes : List ℕ} {at : ℕ} where
  pub at_item : (x : ItemAt lexemes at) → Here x.source lexemes at x.label x.operands x.more x.end
  at_item x = here x.same x.stands

  -- a list is an item
  abbrev pub as_item : ListAt lexemes at → ItemAt lexemes at
  as_item x = record {
    source = x.source;
    same = x.same;
    label = list at x.close;
    operands = x.operands;
    more = x.more;
    end = x.end;
    stands = x.stands;
  }

  pub held : (x : ListAt lexemes at) → Holds x.source lexemes at (list at x.close) x.operands
  held x = (at_item (as_item x)).a_list refl

  pub item_room : ItemAt lexemes at → row_width * at < length lexemes
  item_room x = (at_item x).room

  pub list_room : ListAt lexemes at → row_width * at < length lexemes
  list_room x = item_room (as_item x)

  -- the word past an item is past its first
  pub item_ahead : ItemAt lexemes at → {next : ℕ} → next ≡ next_at lexemes at → at < next
  item_ahead x e = omega (arith, (at_item x).ahead)

  -- the items of a list stand between its brackets
  abbrev pub between : ListAt lexemes at → {next : ℕ} → next ≡ next_at lexemes at → Between lexemes (at + 1) (next - 1)
  between x {next} e =
      let h = held x in
      let close : h.close ≡ next - 1 = omega (arith, h.next) in
      record {
        source = x.source;
        same = x.same;
        items = x.operands;
        stands = subst (λ (n : ℕ). Stands x.source (at + 1) x.operands n) close h.stands;
      }

  -- the word behind a list's bracket
  pub first_code_lem : (x : ListAt lexemes at) → code_at lexemes (at + 1) ≡ front_code x.operands
  first_code_lem x = let h = held x in front x.same h.stands h.closes

  -- an item by itself
  abbrev pub alone : ItemAt lexemes at → {next : ℕ} → next ≡ next_at lexemes at → Between lexemes at next
  alone x {next} e = record {
    source = x.source;
    same = x.same;
    items = tree x.label x.operands none;
    stands = subst (λ (n : ℕ). Stands x.source at (tree x.label x.operands none) n) (sym e) (by_itself x.same x.stands);
  }

  -- an item that is a list
  abbrev pub list_from : (x : ItemAt lexemes at) → is_list x.label ≡ true → ListAt lexemes at
  list_from x t =
      let h = (at_item x).a_list t in
      record {
        source = x.source;
        same = x.same;
        close = h.close;
        operands = x.operands;
        more = x.more;
        end = x.end;
        stands = subst (λ (l : Lexeme). Stands x.source at (tree l x.operands x.more) x.end) h.label x.stands;
      }

  module _ {code : ℕ} (e : code ≡ code_at lexemes at) where
    pub is-list : code ≡ open_code → (x : ItemAt lexemes at) → is_list x.label ≡ true
    is-list o x = list_code x.label ∙ eq-eqb _ _ (sym (at_item x).code ∙ sym e ∙ o)

    pub no_list : (code ≡ open_code → ⊥) → (x : ItemAt lexemes at) → is_list x.label ≡ false
    no_list other x = list_code x.label ∙ ne_eqb _ _ (λ o. other (e ∙ (at_item x).code ∙ o))

    -- an item that a bracket opens is a list
    abbrev pub as_list : code ≡ open_code → ItemAt lexemes at → ListAt lexemes at
    as_list o x = list_from x (is-list o x)
