-- The word at fault in a term that is to be of a sort.
use Prim.Native.Nat.{ℕ, ◌≤◌, ◌<◌}
use mathlib.Core.Path.{◌≡◌, refl, ap, ◌∙◌}
use mathlib.Core.List.{List}
use borrow.Author.Tests.{le-ltb, lt-ltb}
use lib.ListN.{drop, length}
use Rattle.forest.specs.Forest.{none, tree}
use Rattle.words.specs.Trees.{Lexeme}
use Rattle.lexemes.specs.Lists.{Items}
use Rattle.term_sorts.specs.code.Forms.{sort_column}
use Rattle.term_nodes.specs.Terms.{raw_of, raw_term, raw_terms}
use Rattle.term_nodes.specs.code.Table.{operands_of}
use Rattle.term_nodes.proofs.GatheringWalk.{term_first}
use Rattle.names.specs.Scopes.{forms_of}
use Rattle.term_faults.specs.Faults.{scope_of, term_fault}
use Rattle.term_faults.specs.code.Bodies.{BodyFound, BodySought, Found, Sought}
use Rattle.term_faults.specs.code.Roots.{RootAt, RootFits}
use Rattle.term_faults.proofs.Forms.{from_first}

-- It is one tree.
pub term_tree : (l : Lexeme) (ops : Items) → raw_term l ops ≡ tree (raw_of l ops) (operands_of ops) none
unfolding raw_terms
term_tree l ops = refl

module _ {raw forms signatures column : List ℕ} {count sort nowhere : ℕ} {after : List ℕ} {fault : ℕ}
    (found : (q : Sought raw forms signatures column count nowhere) → Found q after fault) where
  -- The tree of the term stands at the first node.
  abbrev pub body_root : BodySought raw forms signatures column count sort nowhere → RootAt raw after 0 sort
  body_root p = record {
    F = p.sought.F;
    rest = p.sought.rest;
    is_raw = p.sought.is_raw;
    view = p.sought.view;
    more = drop (length (sort_column (scope_of p.sought.view) (forms_of p.sought.view p.sought.F))) column;
    is_column = (found p.sought).column_is;
    root = raw_of p.label p.operands;
    operands = operands_of p.operands;
    later = none;
    here = from_first p.sought.F ∙ p.is ∙ term_tree p.label p.operands;
    low = p.low;
  }

  -- What is found is the least word at fault in the term.
  found_is : (p : BodySought raw forms signatures column count sort nowhere)
      → fault ≡ term_fault nowhere p.sought.view (raw_term p.label p.operands)
  found_is p = (found p.sought).place_is ∙ ap (term_fault nowhere p.sought.view) p.is

  -- A part is at fault.
  pub part_found : fault < nowhere → (p : BodySought raw forms signatures column count sort nowhere) → BodyFound p fault
  part_found h p = rw (← found_is p, lt-ltb fault nowhere h)

  -- No part is, and the term is held against the sort.
  pub whole_found : nowhere ≤ fault → {r : ℕ} → ((q : RootAt raw after 0 sort) → RootFits q nowhere r)
      → (p : BodySought raw forms signatures column count sort nowhere) → BodyFound p r
  whole_found h fits p =
      rw (← found_is p, le-ltb fault nowhere h, term_tree p.label p.operands, ← term_first p.label p.operands) (fits (body_root p))
