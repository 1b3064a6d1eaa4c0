-- The names and the sort of a term, tested one after the other.
use Prim.Native.Nat.{ℕ, ◌+◌, ◌*◌, ◌≤◌, ◌<◌, min}
use native.Mathlib.Omega.{arith}
use mathlib.Core.Path.{◌≡◌, refl, sym, ap, subst, ◌∙◌}
use mathlib.Core.Bool.{false}
use mathlib.Core.List.{List, [], ◌∷◌, ◌++◌, append_assoc}
use lib.ListN.{drop, length, length-append, take}
use lib.Seq.{drop-append_seam, length-take-le, sets, sets-eq}
use borrow.Author.Tests.{le-ltb, lt-ltb}
use Rattle.forest.specs.Forest.{Forest, Node, nodes_of, none, tree}
use Rattle.forest.specs.code.Cursors.{size}
use Rattle.forest.proofs.Nodes.{length_nodes}
use Rattle.forest.proofs.Rows.{length_rows}
use Rattle.terms.specs.code.Nodes.{row_width as nodeWidth}
use Rattle.derivation.specs.code.Tables.{form_table, item_row}
use Rattle.words.specs.Trees.{Lexeme}
use Rattle.lexemes.specs.Lists.{Items}
use Rattle.lexemes.specs.code.Standing.{Source, Stands, bracketed, word}
use Rattle.lexemes.specs.code.Table.{next_at}
use Rattle.lexemes.proofs.ByCode.{code_pos}
use Rattle.lexemes.proofs.Standing.{by_itself}
use Rattle.term_nodes.specs.code.Table.{raw_row, raw_table, row_width as rawWidth, uncounted, uncounted_table}
use Rattle.term_nodes.specs.code.Says.{AllSay}
use Rattle.term_nodes.specs.Terms.{Raw, raw_term}
use Rattle.term_nodes.proofs.Saying.{say_terms}
use Rattle.names.specs.Scopes.{View, forms_of}
use Rattle.names.specs.code.Lookup.{source_of}
use Rattle.names.specs.Unknown.{unknown_in}
use Rattle.names.specs.declared.Seen.{Seen}
use Rattle.names.proofs.NamePut.{seen_narrow}
use Rattle.term_faults.specs.code.Bodies.{BodyFound, BodySought, Lawful, Rising}
use Rattle.term_faults.proofs.Rising.{rising_wider, terms_rise}
use Rattle.bodies.specs.code.Bodies.{Named, Naming, no_sorts}
use Rattle.bodies.proofs.TablePart.{sorts_long}
use Rattle.script.specs.declared.Verdict.{Verdict}
use Rattle.script.proofs.TermsOfForms.{forms_size, term_narrow}
use Rattle.script.specs.code.Answers.{name_answer, sort_answer}
use Rattle.commands.specs.code.TermTests.{Judged, Judging}
use Rattle.commands.specs.declared.TermTest.{TermTest}

-- The least word with an unknown name is at most nowhere.
pub unknown_low : (nowhere : ℕ) (view : View) (nodes : List (Node Raw)) → unknown_in nowhere view nodes ≤ nowhere
unfolding unknown_in
unknown_low nowhere view [] = omega arith
unknown_low nowhere view (n ∷ more) = omega (arith, unknown_low nowhere view more)

-- An item ends within the text.
pub item_ends : {s : Source} {nowhere i e : ℕ} {l : Lexeme} {ops more : Items} → Lawful s nowhere → Stands s i (tree l ops more) e
    → next_at s.lexemes i ≤ nowhere
item_ends {i = i} lawful (word {l = l} w rest) = omega (arith, w.followed, lawful.ends i (omega (arith, w.coded, code_pos l)))
item_ends lawful (bracketed {c = c} b inner rest) = omega (arith, b.followed, lawful.ends c (omega (arith, b.closed)))

-- There is a form for each node.
pub forms_long : (view : View) (F : Forest Raw) → length (form_table (forms_of view F)) ≡ nodeWidth * size F
unfolding form_table
forms_long view F = length_rows item_row nodeWidth (λ n. refl) (nodes_of (forms_of view F)) ∙ ap (λ (n : ℕ). nodeWidth * n) (length_nodes (forms_of view F) ∙ forms_size view F)

-- The table of nodes is as long before they are counted.
counted_long : (F : Forest Raw) (rest : List ℕ) → length (raw_table F ++ rest) ≡ length (uncounted_table F ++ rest)
unfolding raw_table uncounted_table
counted_long F rest = omega (
  arith,
  length-append (raw_table F) rest,
  length-append (uncounted_table F) rest,
  length_rows raw_row rawWidth (λ n. refl) (nodes_of F),
  length_rows uncounted rawWidth (λ n. refl) (nodes_of F),
)

-- What is written into a list stands from there on.
pub written_there : (vs l : List ℕ) (i : ℕ) → i + length vs ≤ length l → drop i (sets l i vs) ≡ vs ++ drop (i + length vs) l
written_there vs l i h =
    let front : length (take i l) ≡ i = length-take-le i l (omega arith) in
    ap (drop i) (sets-eq vs l i h ∙ append_assoc (take i l) vs (drop (i + length vs) l))
    ∙ subst (λ (n : ℕ). drop n (take i l ++ (vs ++ drop (i + length vs) l)) ≡ vs ++ drop (i + length vs) l) front
    (drop-append_seam (take i l) (vs ++ drop (i + length vs) l))

module _ {text lexemes names raw nodes : List ℕ} {seen : Seen} {count base nowhere : ℕ}
    (n : Naming text lexemes names raw nodes seen count base nowhere) where
  -- The term by itself.
  alone : Stands (source_of text lexemes) n.i (tree n.label n.operands none) (next_at lexemes n.i)
  alone = by_itself refl n.stands

  -- The words say what its nodes are.
  pub term_says : AllSay (source_of text lexemes) (raw_term n.label n.operands)
  term_says = say_terms false alone n.shaped

  -- Their first words rise.
  pub term_rises : Rising 0 nowhere (raw_term n.label n.operands)
  term_rises = rising_wider (raw_term n.label n.operands) (terms_rise alone n.shaped) (omega arith) (item_ends n.lawful n.stands)

  -- Its forms stand from row `base` on.
  pub forms_there : {nodesAfter : List ℕ} → nodesAfter ≡ sets nodes (nodeWidth * base) (form_table (forms_of n.view (raw_term n.label n.operands)))
      → drop (nodeWidth * base) nodesAfter ≡ form_table (forms_of n.view (raw_term n.label n.operands))
      ++ drop (nodeWidth * base + length (form_table (forms_of n.view (raw_term n.label n.operands)))) nodes
  forms_there e =
      let F = raw_term n.label n.operands in
      ap (drop (nodeWidth * base)) e ∙ written_there (form_table (forms_of n.view F)) nodes (nodeWidth * base)
      (omega (arith, forms_long n.view F, n.room, n.counted))

module _ {text lexemes names raw places nodes : List ℕ} {t : TermTest} {rawAfter nodesAfter : List ℕ} {unknown : ℕ}
    (known : (q : Naming text lexemes names raw nodes t.seen t.target.count t.target.base t.target.nowhere) → Named q rawAfter nodesAfter unknown)
    {name : ℕ} (en : name ≡ min t.named unknown) where
  -- The table of nodes is as long as it was.
  raw_kept : (p : Judging text lexemes names raw places nodes t) → length rawAfter ≡ length raw
  raw_kept p =
      let n = p.naming in
      ap length (known n).raw_is ∙ counted_long (raw_term n.label n.operands) n.rest ∙ sym (ap length n.raw_is)

  -- A name is at fault.
  pub name_refused : name < t.target.nowhere → {v : Verdict} → v ≡ record { number = name_answer; place = name; rows = 0 }
      → (p : Judging text lexemes names raw places nodes t)
      → Judged p rawAfter nodesAfter v
  name_refused h e p =
      let n = known p.naming in
      record { verdict_is = e ∙ rw (← n.unknown_is, ← en, lt-ltb name t.target.nowhere h); nodes_are = n.nodes_are; raw_long = raw_kept p }

  -- No name is at fault: its sort may be looked for.
  abbrev pub sort_sought : t.target.nowhere ≤ name → Judging text lexemes names raw places nodes t
      → BodySought rawAfter (drop (nodeWidth * t.target.base) nodesAfter) places no_sorts t.target.count t.sort t.target.nowhere
  sort_sought h p =
      let n = p.naming in
      let found = known n in
      record {
        sought = record {
          source = source_of text lexemes;
          lawful = n.lawful;
          F = raw_term n.label n.operands;
          rest = n.rest;
          is_raw = found.raw_is;
          counted = n.counted;
          say = term_says n;
          rising = term_rises n;
          narrow_nodes = term_narrow n.label n.operands;
          view = n.view;
          narrow_names = seen_narrow n.sees;
          known = omega (arith, found.unknown_is, unknown_low t.target.nowhere n.view (nodes_of (raw_term n.label n.operands)));
          more = drop (nodeWidth * t.target.base + length (form_table (forms_of n.view (raw_term n.label n.operands)))) nodes;
          is_forms = forms_there n found.nodes_are;
          signed = p.signed;
          room = rw sorts_long p.few;
        };
        label = n.label;
        operands = n.operands;
        is = refl;
        low = p.low;
      }

  module _ {misfit : ℕ} (found : (q : BodySought rawAfter (drop (nodeWidth * t.target.base) nodesAfter) places no_sorts t.target.count t.sort t.target.nowhere) → BodyFound q misfit)
      {fault : ℕ} (ef : fault ≡ min t.empty misfit) (passed : t.target.nowhere ≤ name) where
    -- A sort is at fault.
    pub sort_refused : fault < t.target.nowhere → {v : Verdict} → v ≡ record { number = sort_answer; place = fault; rows = 0 }
        → (p : Judging text lexemes names raw places nodes t)
        → Judged p rawAfter nodesAfter v
    sort_refused h e p =
        let n = known p.naming in
        record {
          verdict_is = e ∙ rw (← n.unknown_is, ← en, le-ltb name t.target.nowhere passed, ← found (sort_sought passed p), ← ef, lt-ltb fault t.target.nowhere h);
          nodes_are = n.nodes_are;
          raw_long = raw_kept p;
        }

    -- Nothing is at fault.
    pub body_passed : t.target.nowhere ≤ fault → {v : Verdict} → v ≡ record { number = 0; place = 0; rows = t.target.count }
        → (p : Judging text lexemes names raw places nodes t)
        → Judged p rawAfter nodesAfter v
    body_passed h e p =
        let n = known p.naming in
        record {
          verdict_is = e ∙ rw (← n.unknown_is, ← en, le-ltb name t.target.nowhere passed, ← found (sort_sought passed p), ← ef, le-ltb fault t.target.nowhere h);
          nodes_are = n.nodes_are;
          raw_long = raw_kept p;
        }
