-- The items of a list by their number: how many there are, where each stands, and what is known of it.
use Prim.Native.Nat.{ℕ, suc, ◌+◌, ◌-◌, ◌*◌, ◌≤◌, ◌<◌}
use native.Mathlib.Omega.{arith}
use mathlib.Core.Path.{◌≡◌, sym, ◌∙◌, subst}
use mathlib.Core.Bool.{Bool, true, false}
use mathlib.Core.List.{List}
use lib.Dec.{eqb, leb}
use borrow.Author.Tests.{eq-eqb, ne_eqb}
use lib.ListN.{length}
use Rattle.forest.specs.Forest.{count}
use Rattle.words.specs.Trees.{Lexeme}
use Rattle.lexemes.specs.Lists.{Items, after, inside, is_symbol, item}
use Rattle.lexemes.specs.code.Table.{code_at, next_at, row_width as lexemeWidth}
use Rattle.lexemes.specs.code.Standing.{Between, ItemAt, ListAt, Reached, Stands}
use Rattle.lexemes.proofs.ByCode.{symbol-code}
use Rattle.lexemes.proofs.Listed.{at_item, between, from_item, list_room}
use Rattle.lexemes.specs.code.Codes.{first_code}
use Rattle.shapes.specs.code.Lists.{ItemOf, Long}

module _ {lexemes : List ℕ} {list : ℕ} where
  -- a list has as many items as were counted
  pub long : ListAt lexemes list → {counted : ℕ} → ((x : ListAt lexemes list) → counted ≡ count x.operands) → {n : ℕ} → n ≤ counted
      → Long lexemes list n
  long here counts h = record { here = here; enough = λ x. omega (arith, counts x) }

  pub shorter : {n : ℕ} → Long lexemes list n → {m : ℕ} → m ≤ n → Long lexemes list m
  shorter l h = record { here = l.here; enough = λ x. omega (arith, l.enough x) }

  pub room_of : {n : ℕ} → Long lexemes list n → lexemeWidth * list < length lexemes
  room_of l = list_room l.here

  module _ {n : ℕ} (counts : (x : ListAt lexemes list) → n ≡ count x.operands) {k : ℕ} where
    -- a list of k items, and one of another number
    pub so_many : n ≡ k → (x : ListAt lexemes list) → eqb (count x.operands) k ≡ true
    so_many e x = eq-eqb (count x.operands) k (sym (counts x) ∙ e)

    pub not_so_many : (n ≡ k → ⊥) → (x : ListAt lexemes list) → eqb (count x.operands) k ≡ false
    not_so_many other x = ne_eqb (count x.operands) k (λ e. other (counts x ∙ e))

  -- how many items stand between the brackets
  pub counted : {next : ℕ} → next ≡ next_at lexemes list → {r : ℕ} → ((b : Between lexemes (list + 1) (next - 1)) → r ≡ count b.items)
      → (x : ListAt lexemes list) → r ≡ count x.operands
  counted e known x = known (between x e)

  -- where item n stands
  pub item_found : {next : ℕ} → next ≡ next_at lexemes list → {n r : ℕ} → Long lexemes list (n + 1)
      → ((b : Between lexemes (list + 1) (next - 1)) → Reached lexemes (list + 1) (next - 1) n b r) → (x : ListAt lexemes list) → ItemOf x n r
  item_found {next} e {n} {r} l known x =
      let F = x.operands in
      record {
        more = after (suc n) F;
        end = next - 1;
        stands = subst (λ (G : Items). Stands x.source r G (next - 1)) (from_item n F (omega (arith, l.enough x))) (known (between x e)).stands;
      }

  module _ {n r : ℕ} (found : (x : ListAt lexemes list) → ItemOf x n r) where
    -- the item, by itself
    abbrev pub the_item : ListAt lexemes list → ItemAt lexemes r
    the_item x = record {
      source = x.source;
      same = x.same;
      label = item n x.operands;
      operands = inside n x.operands;
      more = (found x).more;
      end = (found x).end;
      stands = (found x).stands;
    }

    -- what a test says of it
    pub part : (shape : Lexeme → Items → Bool) {q : Bool} → ((y : ItemAt lexemes r) → q ≡ shape y.label y.operands)
        → (x : ListAt lexemes list) → q ≡ shape (item n x.operands) (inside n x.operands)
    part shape known x = known (the_item x)

    pub part_symbol : {code : ℕ} → code ≡ code_at lexemes r → (x : ListAt lexemes list) → leb first_code code ≡ is_symbol (item n x.operands)
    part_symbol e x = rw (e, (at_item (the_item x)).code) (sym (symbol-code (item n x.operands)))
