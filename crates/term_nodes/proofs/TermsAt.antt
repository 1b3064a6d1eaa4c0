-- What the words at which a term stands say of it: the word that says what its node is, its operands, and where the walk goes on.
use Prim.Native.Nat.{ℕ, suc, ◌+◌, ◌-◌, ◌*◌, ◌≤◌, ◌<◌}
use native.Mathlib.Omega.{arith}
use mathlib.Core.Path.{◌≡◌, refl, sym, ap, ◌∙◌}
use mathlib.Core.Bool.{true, false, cond}
use mathlib.Core.List.{List}
use borrow.Author.Tests.{eq-eqb, le-ltb, lt-ltb, ne_eqb}
use lib.Dec.{eqb, ltb}
use lib.ListN.{length}
use Rattle.forest.specs.Forest.{count, none, tree}
use Rattle.forest.proofs.Bools.{and_left, and_right, apart}
use Rattle.forest.proofs.Laws.{Tree}
use Rattle.words.specs.Trees.{Lexeme, keyword, list, literal, numeral, symbol, word_of}
use Rattle.forest.specs.Lists.{same_bytes}
use Rattle.lexemes.specs.Lists.{Items, after, inside, is, is_list, item}
use Rattle.lexemes.specs.code.Standing.{Between, ItemAt, Source, Stands}
use Rattle.lexemes.specs.code.Table.{close_code, code_at, code_of, next_at, open_code, row_width as lexemeWidth}
use Rattle.lexemes.specs.code.Codes.{other_code, underscore_code}
use Rattle.lexemes.proofs.ByCode.{code_for, front_word, front_code}
use Rattle.lexemes.proofs.Listed.{at_item, is-list, item_room, no_list}
use Rattle.lexemes.proofs.Standing.{front, here_as}
use Rattle.shapes.specs.Shapes.{application_shape, term_shapes}
use Rattle.term_nodes.specs.code.Gather.{Onward, TermAt}
use Rattle.term_nodes.specs.Terms.{headed_by, raw_of, raw_terms}
use Rattle.term_nodes.specs.code.Table.{head_word, operands_of}
use Rattle.term_nodes.proofs.TermWords.{ListTerm, by_cut, by_symbol, cut_alone, decimal_alone, first_of, list-term, list_shape}

-- whether items begin with `_`, by the code of their first word
score_front : (F : Items) → is "_" (item 0 F) ≡ eqb (front_code F) underscore_code
unfolding after code_for
score_front F = front_word "_" refl 0 F

-- the word that says what a node is, for a word
word_head : (l : Lexeme) (ops : Items) → is_list l ≡ false → head_word (raw_of l ops) ≡ word_of l
word_head (symbol at name) ops free = refl
word_head (numeral at v) ops free = refl
word_head (keyword at name) ops free = refl
word_head (literal at width v written) ops free = refl
word_head (list at close) ops free = apart (sym free)

-- the same for a list, by the code of its first word
list_head : {s : Source} {at : ℕ} {ops : Items} → ListTerm s at ops
    → head_word (headed_by at (item 0 ops) (inside 0 ops) ops)
    ≡ cond (eqb (front_code ops) underscore_code) (cond (ltb other_code (code_at s.lexemes (at + 2))) (at + 2) (at + 3))
    (cond (eqb (front_code ops) open_code) (at + 4) (at + 1))
unfolding item inside
list_head {at = at} (decimal_alone {a = a} {name = name} {more = more} e w c) =
    let begun : eqb (code_of (symbol a name)) underscore_code ≡ true = sym (score_front (tree (symbol a name) none more)) ∙ e in
    let place : at + 1 + 1 ≡ at + 2 = omega arith in
    rw (e, begun, c.is, ← place, c.told) c.placed
list_head {at = at} (cut_alone {a = a} {name = name} {more = more} e w c) =
    let begun : eqb (code_of (symbol a name)) underscore_code ≡ true = sym (score_front (tree (symbol a name) none more)) ∙ e in
    let place : at + 1 + 2 ≡ at + 3 = omega arith in
    let second : at + 1 + 1 ≡ at + 2 = omega arith in
    rw (e, begun, c.none, ← second, c.told) (c.placed ∙ place)
list_head {at = at} (by_symbol {a = a} {name = name} {more = more} e w) =
    let begun : eqb (code_of (symbol a name)) underscore_code ≡ false = sym (score_front (tree (symbol a name) none more)) ∙ e in
    let no-bracket : eqb (code_of (symbol a name)) open_code ≡ false = ne_eqb (code_of (symbol a name)) open_code (λ q. omega arith) in
    rw (e, begun, no-bracket) w.placed
list_head {at = at} (by_cut b c) = let place : at + 2 + 2 ≡ at + 4 = omega arith in c.placed ∙ place

count_terms : (F : Items) → count (raw_terms false F) ≡ count F
unfolding count raw_terms
count_terms none = refl
count_terms (tree l ops more) = ap suc (count_terms more)

tree_of_term : {s : Source} {at : ℕ} {ops : Items} → ListTerm s at ops → Tree ops
tree_of_term (decimal_alone {a = a} {name = name} {more = more} e w c) = record { l = symbol a name; ops = none; rest = more; is = refl }
tree_of_term (cut_alone {a = a} {name = name} {more = more} e w c) = record { l = symbol a name; ops = none; rest = more; is = refl }
tree_of_term (by_symbol {a = a} {name = name} {more = more} e w) = record { l = symbol a name; ops = none; rest = more; is = refl }
tree_of_term {at = at} (by_cut {c = d} {held = held} {more = more} b c) = record { l = list (at + 1) d; ops = held; rest = more; is = refl }

list-shape : (l : Lexeme) (ops more : Items) → is_list l ≡ true → term_shapes false (tree l ops more) ≡ true → list_shape ops ≡ true
unfolding list_shape term_shapes
list-shape l ops more e shape = let parts = rw e at shape in and_left (list_shape ops) (term_shapes false more) parts

-- what a list that is a term is, by its words
pub record Opened {lexemes : List ℕ} {at : ℕ} (x : TermAt lexemes at) : Type 0 where
  pub close : ℕ
  pub label : x.label ≡ list at close
  pub closes : code_at lexemes close ≡ close_code
  pub next : next_at lexemes at ≡ close + 1
  pub stands : Stands x.source (at + 1) x.operands close
  pub shaped : list_shape x.operands ≡ true
  pub term : ListTerm x.source at x.operands
  pub begun : code_at lexemes (at + 1) ≡ front_code x.operands

-- a list that is a head and operands
pub record Applied {lexemes : List ℕ} {at : ℕ} (x : TermAt lexemes at) : Type 0 where
  pub opened : Opened x
  pub rest : Items
  pub stands : Stands x.source (next_at lexemes (at + 1)) rest opened.close
  pub ahead : at < next_at lexemes (at + 1)
  pub shaped : term_shapes false rest ≡ true
  pub operands : operands_of x.operands ≡ raw_terms false rest

module _ {lexemes : List ℕ} {at : ℕ} (x : TermAt lexemes at) where
  -- a term is an item
  abbrev term_item : ItemAt lexemes at
  term_item = record {
    source = x.source;
    same = x.same;
    label = x.label;
    operands = x.operands;
    more = x.more;
    end = x.end;
    stands = x.stands;
  }

  pub term_room : lexemeWidth * at < length lexemes
  term_room = item_room term_item

  pub opened : is_list x.label ≡ true → Opened x
  opened e =
      let h = (at_item term_item).a_list e in
      let shape = list-shape x.label x.operands x.more e x.shaped in
      record {
        close = h.close;
        label = h.label;
        closes = h.closes;
        next = h.next;
        stands = h.stands;
        shaped = shape;
        term = list-term at h.stands shape;
        begun = front x.same h.stands h.closes;
      }

  pub applied : is_list x.label ≡ true → is "_" (item 0 x.operands) ≡ false → Applied x
  unfolding list_shape raw_terms term_shapes
  applied e plain =
      let o = opened e in
      let t = tree_of_term o.term in
      let head = here_as x.same t.is o.stands in
      let shape : term_shapes true x.operands ≡ true = and_right (application_shape x.operands) (term_shapes true x.operands) (rw plain at o.shaped) in
      record {
        opened = o;
        rest = t.rest;
        stands = head.rest;
        ahead = omega (arith, head.ahead);
        shaped = rw t.is at shape;
        operands = rw plain (ap (raw_terms true) t.is);
      }

module _ {lexemes : List ℕ} {at code : ℕ} (ec : code ≡ code_at lexemes at) where
  module _ (other : code ≡ open_code → ⊥) (x : TermAt lexemes at) where
    a_word : is_list x.label ≡ false
    a_word = no_list ec other (term_item x)

    pub head_of_word : at ≡ head_word (raw_of x.label x.operands)
    head_of_word = sym (word_head x.label x.operands a_word ∙ first_of x.stands)

    pub operands_of_word : 0 ≡ count (operands_of x.operands)
    unfolding count item raw_terms same_bytes
    operands_of_word = sym (ap (λ (ops : Items). count (operands_of ops)) ((at_item (term_item x)).a_word a_word).1)

    pub behind_word : Onward x (at + 1)
    behind_word = rw a_word

  module _ (opens : code ≡ open_code) {first : ℕ} (ef : first ≡ code_at lexemes (at + 1)) (x : TermAt lexemes at) where
    a_list : is_list x.label ≡ true
    a_list = is-list ec opens (term_item x)

    head_by : head_word (raw_of x.label x.operands)
        ≡ cond (eqb first underscore_code) (cond (ltb other_code (code_at lexemes (at + 2))) (at + 2) (at + 3)) (cond (eqb first open_code) (at + 4) (at + 1))
    head_by = let o = opened x a_list in rw (o.label, ef, o.begun, ← x.same) (list_head o.term)

    begins_by : is "_" (item 0 x.operands) ≡ eqb first underscore_code
    begins_by = score_front x.operands ∙ ap (λ (c : ℕ). eqb c underscore_code) (sym (ef ∙ (opened x a_list).begun))

    module _ (score : first ≡ underscore_code) where
      module _ {second : ℕ} (es : second ≡ code_at lexemes (at + 2)) where
        pub head_constant : other_code < second → at + 2 ≡ head_word (raw_of x.label x.operands)
        head_constant h = sym (rw (eq-eqb first underscore_code score, ← es, lt-ltb other_code second h) at head_by)

        pub head_alone : second ≤ other_code → at + 3 ≡ head_word (raw_of x.label x.operands)
        head_alone h = sym (rw (eq-eqb first underscore_code score, ← es, le-ltb other_code second h) at head_by)

      pub operands_alone : 0 ≡ count (operands_of x.operands)
      unfolding count
      operands_alone = rw (begins_by ∙ eq-eqb first underscore_code score)

      pub behind_alone : {next : ℕ} → next ≡ next_at lexemes at → Onward x next
      behind_alone e = rw (a_list, begins_by ∙ eq-eqb first underscore_code score) e

    module _ (plain : first ≡ underscore_code → ⊥) where
      pub head_is_cut : first ≡ open_code → at + 4 ≡ head_word (raw_of x.label x.operands)
      head_is_cut o = sym (rw (ne_eqb first underscore_code plain, eq-eqb first open_code o) at head_by)

      pub head_is_symbol : (first ≡ open_code → ⊥) → at + 1 ≡ head_word (raw_of x.label x.operands)
      head_is_symbol n = sym (rw (ne_eqb first underscore_code plain, ne_eqb first open_code n) at head_by)

      application : Applied x
      application = applied x a_list (begins_by ∙ ne_eqb first underscore_code plain)

      module _ {inner : ℕ} (ei : inner ≡ next_at lexemes (at + 1)) where
        pub behind_head : Onward x inner
        behind_head = rw (a_list, begins_by ∙ ne_eqb first underscore_code plain) ei

        module _ {next : ℕ} (en : next ≡ next_at lexemes at) where
          pub close_before : 1 ≤ next
          close_before = omega (arith, application.opened.next)

          pub operands_between : Between lexemes inner (next - 1)
          operands_between =
              let a = application in
              let close : a.opened.close ≡ next - 1 = omega (arith, a.opened.next) in
              record { source = x.source; same = x.same; items = a.rest; stands = rw (ei, ← close) a.stands }

          pub operands_counted : {n : ℕ} → ((b : Between lexemes inner (next - 1)) → n ≡ count b.items) → n ≡ count (operands_of x.operands)
          unfolding operands_between
          operands_counted e = e operands_between ∙ sym (count_terms application.rest) ∙ ap count (sym application.operands)
