-- Laws of items that stand in the tables of a text.
use Prim.Native.Nat.{ℕ, ◌+◌, ◌*◌, ◌≤◌, ◌<◌}
use native.Mathlib.Omega.{arith}
use mathlib.Core.Path.{◌≡◌, refl, sym, ◌∙◌, subst}
use mathlib.Core.Bool.{Bool, true, false}
use mathlib.Core.List.{List}
use lib.ListN.{length}
use Rattle.forest.specs.Forest.{none, tree}
use Rattle.forest.proofs.Bools.{apart}
use Rattle.forest.proofs.Laws.{Tree}
use Rattle.forest.proofs.Rows.{past}
use lib.Dec.{ltb}
use borrow.Author.Tests.{ltb-false, ltb-true}
use Rattle.words.specs.Trees.{Lexeme, list}
use Rattle.lexemes.specs.Lists.{Items, is_list}
use Rattle.lexemes.specs.code.Table.{close_code, code_at, code_of, next_at, open_code, row_width}
use Rattle.lexemes.specs.code.Standing.{Source, Stands, bracketed, ends, word}
use Rattle.lexemes.proofs.ByCode.{code_pos, front_code}

-- The list at word i holds the items: they stand from the next word to the bracket that closes it.
pub record Holds (s : Source) (lexemes : List ℕ) (i : ℕ) (l : Lexeme) (ops : Items) : Type 0 where
  pub close : ℕ
  pub label : l ≡ list i close
  pub opens : code_at lexemes i ≡ open_code
  pub closes : code_at lexemes close ≡ close_code
  pub next : next_at lexemes i ≡ close + 1
  pub stands : Stands s (i + 1) ops close

-- What is known at word i, where an item stands and others behind it.
pub record Here (s : Source) (lexemes : List ℕ) (i : ℕ) (l : Lexeme) (ops more : Items) (e : ℕ) : Type 0 where
  pub code : code_at lexemes i ≡ code_of l
  pub ahead : i < next_at lexemes i
  pub rest : Stands s (next_at lexemes i) more e
  pub room : row_width * i < length lexemes
  pub a_word : is_list l ≡ false → (next_at lexemes i ≡ i + 1) × (ops ≡ none)
  pub a_list : is_list l ≡ true → Holds s lexemes i l ops

module _ {s : Source} where
  pub forward : {i e : ℕ} {F : Items} → Stands s i F e → i ≤ e
  forward ends = omega arith
  forward (word w rest) = omega (arith, forward rest)
  forward (bracketed l inner rest) = omega (arith, forward inner, forward rest)

  -- at their end there are no items left
  pub none_left : {i e : ℕ} {F : Items} → Stands s i F e → e ≤ i → F ≡ none
  none_left ends h = refl
  none_left (word w rest) h = absurd (omega (arith, forward rest))
  none_left (bracketed l inner rest) h = absurd (omega (arith, forward inner, forward rest))

  -- and before it there are
  pub some_left : {i e : ℕ} {F : Items} → Stands s i F e → i < e → Tree F
  some_left ends h = absurd (omega arith)
  some_left (word {l = l} {more = more} w rest) h = record { l = l; ops = none; rest = more; is = refl }
  some_left (bracketed {i = i} {c = c} {ops = ops} {more = more} l inner rest) h = record { l = list i c; ops = ops; rest = more; is = refl }

-- a word that has a code is within the table
pub coded : (lexemes : List ℕ) (i : ℕ) → 0 < code_at lexemes i → row_width * i < length lexemes
coded lexemes i h = go (ltb (row_width * i) (length lexemes)) refl
  where
    go : (b : Bool) → ltb (row_width * i) (length lexemes) ≡ b → row_width * i < length lexemes
    go true e = ltb-true _ _ e
    go false e = absurd (omega (arith, past row_width lexemes i 0 (omega (arith, ltb-false (row_width * i) (length lexemes) e))))

module _ {s : Source} {lexemes : List ℕ} (same : s.lexemes ≡ lexemes) where
  pub here : {i e : ℕ} {l : Lexeme} {ops more : Items} → Stands s i (tree l ops more) e → Here s lexemes i l ops more e
  here {i} (word {l = l} {more = more} w rest) =
      let next : next_at lexemes i ≡ i + 1 = rw (← same) w.followed in
      let code : code_at lexemes i ≡ code_of l = rw (← same) w.coded in
      record {
        code = code;
        ahead = omega arith;
        rest = rw next rest;
        room = coded lexemes i (omega (arith, code_pos l));
        a_word = λ _. (next, refl);
        a_list = λ e. apart (sym w.no_list ∙ e);
      }
  here {i} (bracketed {c = c} b inner rest) =
      let next : next_at lexemes i ≡ c + 1 = rw (← same) b.followed in
      let code : code_at lexemes i ≡ open_code = rw (← same) b.opened in
      record {
        code = code;
        ahead = omega (arith, forward inner);
        rest = rw next rest;
        room = coded lexemes i (omega arith);
        a_word = λ e. apart (sym e);
        a_list = λ _. record { close = c; label = refl; opens = code; closes = rw (← same) b.closed; next = next; stands = inner };
      }

  pub here_as : {i e : ℕ} {F : Items} {l : Lexeme} {ops more : Items} → F ≡ tree l ops more → Stands s i F e → Here s lexemes i l ops more e
  here_as {i} {e} is stands = here (subst (λ (F : Items). Stands s i F e) is stands)

  -- an item by itself stands to before the word behind it
  pub by_itself : {i e : ℕ} {l : Lexeme} {ops more : Items} → Stands s i (tree l ops more) e → Stands s i (tree l ops none) (next_at lexemes i)
  by_itself {i} (word w rest) = let next : next_at lexemes i ≡ i + 1 = rw (← same) w.followed in rw next (word w ends)
  by_itself {i} (bracketed {c = c} b inner rest) =
      let next : next_at lexemes i ≡ c + 1 = rw (← same) b.followed in
      rw next (bracketed b inner ends)

  -- the code of the word at which items stand that a bracket closes
  pub front : {i c : ℕ} {F : Items} → Stands s i F c → code_at lexemes c ≡ close_code → code_at lexemes i ≡ front_code F
  front {F = none} ends closed = closed
  front {F = tree l ops more} stands closed = (here stands).code
