-- The parts of a `define-fun`: where its body stands, and how many nodes it has.
use Prim.Native.Nat.{ℕ, zero, suc, ◌+◌, ◌≤◌, ◌<◌}
use native.Mathlib.Omega.{arith}
use mathlib.Core.Path.{◌≡◌, refl}
use mathlib.Core.Bool.{Bool, true, false, ◌&&◌}
use mathlib.Core.List.{List}
use lib.Dec.{eqb}
use Rattle.forest.specs.Forest.{count, none, tree}
use Rattle.forest.specs.code.Cursors.{size}
use Rattle.forest.specs.Lists.{same_bytes}
use Rattle.forest.proofs.Bools.{and_right, apart}
use Rattle.words.specs.Trees.{Lexeme, keyword, list, literal, numeral, symbol, word_of}
use Rattle.lexemes.specs.Lists.{Items, inside, is, is_list, is_symbol, item}
use Rattle.lexemes.specs.code.Standing.{ItemAt, ListAt}
use Rattle.lexemes.specs.code.Table.{code_at, next_at}
use Rattle.lexemes.proofs.ByCode.{code_pos}
use Rattle.lexemes.proofs.Listed.{at_item, held}
use Rattle.shapes.specs.Shapes.{define_fun_shape, header_shape, term_shape}
use Rattle.written_sorts.specs.code.Headers.{HeaderAt}
use Rattle.written_sorts.proofs.HeaderSorts.{come_result}
use Rattle.written_sorts.proofs.Walked.{Come, come_next, item_come, placed}
use Rattle.term_nodes.specs.Terms.{raw_term, raw_terms}
use Rattle.bodies.proofs.Fewer.{nodes_fewer}
use Rattle.headers.proofs.HeaderHeld.{define-fun}
use Rattle.response.specs.code.Outlines.{body_at}

-- A command's word is a symbol.
pub command_symbol : (l : Lexeme) → is "define-fun" l ≡ true → is_symbol l ≡ true
unfolding same_bytes
command_symbol (symbol at name) e = refl
command_symbol (list at close) e = apart e
command_symbol (numeral at v) e = apart e
command_symbol (keyword at name) e = apart e
command_symbol (literal at width v written) e = apart e

-- One of several terms has no more nodes than all.
term_fewer : (n : ℕ) (F : Items) → n < count F → size (raw_term (item n F) (inside n F)) ≤ size (raw_terms false F)
unfolding count inside item raw_terms size
term_fewer n none h = absurd (omega arith)
term_fewer zero (tree l ops more) h = omega arith
term_fewer (suc n) (tree l ops more) h = omega (arith, term_fewer n more (omega arith))

-- The word past an item is no further than the number of words.
pub next_within : {lexemes : List ℕ} {i nowhere : ℕ} → ((w : ℕ) → 0 < code_at lexemes w → w < nowhere) → ItemAt lexemes i → next_at lexemes i ≤ nowhere
next_within {lexemes} {i} {nowhere} below x = go (is_list x.label) refl
  where
    go : (b : Bool) → is_list x.label ≡ b → next_at lexemes i ≤ nowhere
    go true e = let h = (at_item x).a_list e in omega (arith, h.next, below h.close (omega (arith, h.closes)))
    go false e = omega (arith, ((at_item x).a_word e).0, below i (omega (arith, (at_item x).code, code_pos x.label)))

module _ {lexemes : List ℕ} {at : ℕ} (x : ListAt lexemes at) (by : is "define-fun" (item 0 x.operands) ≡ true)
    (shaped : define_fun_shape x.operands ≡ true) where
  -- It has a header.
  abbrev pub head_of : HeaderAt lexemes at
  head_of =
      let known = define-fun x.operands shaped in
      record { here = x; named = command_symbol (item 0 x.operands) by; long = omega (arith, known.five); shaped = known.header }

  -- Its body is its fifth item.
  pub come_body : Come x 4 (body_at lexemes at)
  come_body = come_next x (come_result head_of refl refl) (omega (arith, (define-fun x.operands shaped).five)) refl

  -- The body, where it stands.
  abbrev pub body_item : ItemAt lexemes (body_at lexemes at)
  body_item = item_come x come_body (omega (arith, (define-fun x.operands shaped).five))

  -- It is told by its first word.
  pub body_first : word_of (item 4 x.operands) ≡ body_at lexemes at
  body_first = placed body_item.stands

  -- It is a term.
  pub body_shaped : term_shape (item 4 x.operands) (inside 4 x.operands) ≡ true
  body_shaped = and_right (eqb (count x.operands) 5 && header_shape x.operands) (term_shape (item 4 x.operands) (inside 4 x.operands)) shaped

  -- It has no more nodes than the command has words.
  pub rows_within : at + size (raw_term (item 4 x.operands) (inside 4 x.operands)) ≤ next_at lexemes at
  rows_within =
      let h = held x in
      let five = (define-fun x.operands shaped).five in
      omega (arith, h.next, nodes_fewer false h.stands, term_fewer 4 x.operands (omega arith))
