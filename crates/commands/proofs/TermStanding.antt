-- The term of a command, by the word at which it stands: its tests may be made, and what is written of it is the term that is known.
use Prim.Native.Nat.{ℕ, suc, ◌+◌, ◌*◌, ◌≤◌, ◌<◌}
use native.Mathlib.Omega.{arith}
use mathlib.Core.Path.{◌≡◌, refl, sym, ap, subst, ◌∙◌}
use mathlib.Core.Bool.{true, false}
use mathlib.Core.List.{List, [], ◌++◌}
use lib.ListN.{length}
use lib.Seq.{sets}
use Rattle.forest.specs.Forest.{count, tree}
use Rattle.forest.specs.Limits.{script_words}
use Rattle.forest.specs.code.Cursors.{size}
use Rattle.operators.specs.Sorts.{max_width}
use Rattle.terms.specs.code.Nodes.{row_width as nodeWidth}
use Rattle.derivation.specs.code.Tables.{form_table}
use Rattle.words.specs.Trees.{Lexeme, word_of}
use Rattle.lexemes.specs.Lists.{Items, after, inside, is_list, item}
use Rattle.lexemes.specs.code.Standing.{ListAt, Source, Stands}
use Rattle.lexemes.specs.code.Table.{next_at}
use Rattle.lexemes.proofs.Listed.{from_item}
use Rattle.lexemes.proofs.Standing.{by_itself, forward, here, here_as}
use Rattle.shapes.specs.Shapes.{term_shape}
use Rattle.written_sorts.proofs.Walked.{placed}
use Rattle.term_nodes.specs.code.Table.{row_width as rawWidth, uncounted_table}
use Rattle.term_nodes.specs.Terms.{raw_term}
use Rattle.term_nodes.proofs.Saying.{say_terms}
use Rattle.names.specs.Scopes.{View, forms_of}
use Rattle.names.specs.code.Lookup.{Sees, source_of}
use Rattle.names.specs.declared.Seen.{Seen}
use Rattle.term_faults.specs.code.Bodies.{Lawful, Signed}
use Rattle.bodies.specs.code.Bodies.{Limited, TermAt}
use Rattle.bodies.specs.declared.Body.{Body}
use Rattle.script.specs.Script.{term_of}
use Rattle.script.specs.code.Tables.{CommandAt}
use Rattle.script.proofs.OneTermMore.{Grown}
use Rattle.script.proofs.TermsOfForms.{term_plain, term_size, term_table, term_tree}
use Rattle.commands.specs.code.TermTests.{Judging}
use Rattle.commands.proofs.TermTested.{item_ends}

-- A term stands at word i of a lawful text of so many words, before word `close`.
pub record BodyAt (text lexemes : List ℕ) (i nowhere close : ℕ) (label : Lexeme) (operands : Items) : Type 0 where
  pub more : Items
  pub stands : Stands (source_of text lexemes) i (tree label operands more) close
  pub shaped : term_shape label operands ≡ true
  pub lawful : Lawful (source_of text lexemes) nowhere
  pub below : close ≤ nowhere
  pub few : nowhere ≤ script_words

-- The items behind item n stand from the word behind it on.
pub next_stands : {s : Source} {j e : ℕ} (n : ℕ) (F : Items) → n < count F → Stands s j (after n F) e → {next : ℕ} → next ≡ next_at s.lexemes j
    → Stands s next (after (suc n) F) e
next_stands n F h stands at = rw at (here_as refl (from_item n F h) stands).rest

-- Item n stands in front of those behind it.
pub item_stands : {s : Source} {j e : ℕ} (n : ℕ) (F : Items) → n < count F → Stands s j (after n F) e
    → Stands s j (tree (item n F) (inside n F) (after (suc n) F)) e
item_stands {s} {j} {e} n F h stands = subst (λ (G : Items). Stands s j G e) (from_item n F h) stands

module _ {text lexemes : List ℕ} {i nowhere : ℕ} (x : CommandAt text lexemes i nowhere) where
  -- The items behind a command's word stand from the next word on.
  pub behind_word : 0 < count x.command → is_list (item 0 x.command) ≡ false
      → Stands (source_of text lexemes) (i + 2) (after 1 x.command) x.close
  unfolding after
  behind_word some a_word =
      let list = (here refl x.stands).a_list refl in
      let same : list.close ≡ x.close = cc list.label in
      let items : Stands (source_of text lexemes) (i + 1) (after 0 x.command) x.close = rw (← same) list.stands in
      let next = (here refl (item_stands 0 x.command some items)).a_word a_word in
      next_stands 0 x.command some items (omega (arith, next.0))

  -- Its last word is one of the text.
  pub close_below : x.close ≤ nowhere
  close_below =
      let list = (here refl x.stands).a_list refl in
      let same : list.close ≡ x.close = cc list.label in
      omega (arith, x.lawful.ends list.close (omega (arith, list.closes)))

  -- A command is a list.
  abbrev pub listed : ListAt lexemes i
  listed = record {
    source = source_of text lexemes;
    same = refl;
    close = x.close;
    operands = x.command;
    more = x.more;
    end = x.end;
    stands = x.stands;
  }

module _ {text lexemes : List ℕ} {i nowhere close : ℕ} {label : Lexeme} {operands : Items}
    (b : BodyAt text lexemes i nowhere close label operands) where
  -- The term ends before that word.
  pub body_ends : next_at lexemes i ≤ close
  body_ends = forward (here refl b.stands).rest

  -- It begins within the text.
  pub body_below : word_of label < nowhere
  body_below = omega (arith, placed b.stands, (here refl b.stands).ahead, item_ends b.lawful b.stands)

  -- Its nodes may be gathered.
  abbrev pub body_term : {raw : List ℕ} → rawWidth * nowhere ≤ length raw → TermAt lexemes raw i
  body_term room = record {
    source = source_of text lexemes;
    same = refl;
    label = label;
    operands = operands;
    more = b.more;
    end = close;
    stands = b.stands;
    shaped = b.shaped;
    room = omega (arith, item_ends b.lawful b.stands);
  }

  module _ {raw : List ℕ} (room : rawWidth * nowhere ≤ length raw) {most : ℕ} {rawAfter : List ℕ} {body : Body}
      (limited : (q : TermAt lexemes raw i) → Limited q most nowhere rawAfter body) {base : ℕ} (before : base ≤ i) where
    -- Its nodes have rows before that word.
    pub body_within : base + body.rows ≤ close
    body_within = omega (arith, (limited (body_term room)).few, body_ends, (here refl b.stands).ahead)

  module _ {raw : List ℕ} (rest : List ℕ) (raw_is : raw ≡ uncounted_table (raw_term label operands) ++ rest)
      {count : ℕ} (counted : count ≡ size (raw_term label operands))
      {base : ℕ} (fits : base + count ≤ close) (nodes : List ℕ) (nodes_room : nodeWidth * nowhere ≤ length nodes) where
    -- Its names and its sort may be tested.
    abbrev pub body_judging : {names : List ℕ} {seen : Seen} {view : View} → Sees names seen view → {places : List ℕ} → Signed places view
        → {sort : ℕ} → sort ≤ max_width → {named empty : ℕ}
        → Judging text lexemes names raw places nodes
        (record { seen = seen; sort = sort; target = record { count = count; base = base; nowhere = nowhere }; named = named; empty = empty })
    body_judging {view = view} sees signed low = record {
      naming = record {
        i = i;
        end = close;
        label = label;
        operands = operands;
        more = b.more;
        stands = b.stands;
        shaped = b.shaped;
        lawful = b.lawful;
        rest = rest;
        raw_is = raw_is;
        counted = counted;
        view = view;
        sees = sees;
        room = omega (arith, b.below);
      };
      signed = signed;
      low = low;
      few = omega (arith, b.below, b.few);
    }

    -- The forms that are written are the nodes of the term.
    pub body_grown : (view : View) → view.non_terminals ≡ []
        → {nodesAfter : List ℕ} → nodesAfter ≡ sets nodes (nodeWidth * base) (form_table (forms_of view (raw_term label operands)))
        → Grown nodes base count (term_of view label operands) nodesAfter
    body_grown view closed e = record {
      plain = term_plain view closed label operands (source_of text lexemes) b.lawful (say_terms false (by_itself refl b.stands) b.shaped);
      label = _;
      operands = _;
      single = term_tree view closed label operands;
      sized = counted ∙ sym (term_size view closed label operands);
      room = omega (arith, b.below);
      is = e ∙ ap (sets nodes (nodeWidth * base)) (term_table view closed label operands);
    }
