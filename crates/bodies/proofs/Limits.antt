-- The nodes of a term are gathered, and the word past the limit is that of its nodes.
use Prim.Native.Nat.{ℕ}
use native.Mathlib.Omega.{arith}
use mathlib.Core.Path.{◌≡◌, refl}
use mathlib.Core.Bool.{false}
use mathlib.Core.List.{List}
use Rattle.forest.specs.Forest.{join, nodes_of, none, tree}
use Rattle.forest.specs.code.Cursors.{size}
use Rattle.forest.specs.Tables.{rows}
use Rattle.lexemes.specs.code.Standing.{Stands}
use Rattle.lexemes.specs.code.Table.{next_at}
use Rattle.lexemes.proofs.Standing.{by_itself}
use Rattle.term_nodes.specs.code.Gather.{Gathered, Gathering}
use Rattle.term_nodes.specs.code.Limits.{TermNodes, WordPast}
use Rattle.term_nodes.specs.code.Table.{uncounted_table}
use Rattle.term_nodes.specs.Terms.{raw_term}
use Rattle.term_nodes.proofs.Saying.{say_terms}
use Rattle.bodies.specs.code.Bodies.{Limited, TermAt}
use Rattle.bodies.proofs.Fewer.{nodes_fewer}

module _ {lexemes raw : List ℕ} {at : ℕ} where
  -- the term by itself
  term_stands : (p : TermAt lexemes raw at) → Stands p.source at (tree p.label p.operands none) (next_at lexemes at)
  term_stands p = by_itself p.same p.stands

  module _ {next : ℕ} (en : next ≡ next_at lexemes at) where
    -- its nodes may be gathered from the first row on
    pub term_gathering : TermAt lexemes raw at → Gathering lexemes at next raw 0
    unfolding nodes_of rows size uncounted_table
    term_gathering p = record {
      source = p.source;
      same = p.same;
      items = tree p.label p.operands none;
      stands = rw en (term_stands p);
      shaped = p.shaped;
      rows = record { before = none; rest = raw; is = refl; counted = refl; room = omega (arith, p.room) };
    }

    module _ {rawAfter : List ℕ} {n : ℕ} (gathered : (g : Gathering lexemes at next raw 0) → Gathered g rawAfter n) where
      -- the rows hold its nodes, of which the words say what they are
      pub term_nodes : TermAt lexemes raw at → TermNodes lexemes rawAfter 0 n
      unfolding size term_gathering
      term_nodes p =
          let g = gathered (term_gathering p) in
          record {
            source = p.source;
            same = p.same;
            before = none;
            F = raw_term p.label p.operands;
            rest = g.rest;
            is = g.is;
            begins = refl;
            ends = g.counted;
            say = say_terms false (term_stands p) p.shaped;
          }

      -- and the word past the limit is that of the term
      pub term_limited : {most nowhere place : ℕ} → ((t : TermNodes lexemes rawAfter 0 n) → WordPast t most nowhere place)
          → (p : TermAt lexemes raw at) → Limited p most nowhere rawAfter (record { rows = n; place = place })
      unfolding join term_gathering term_nodes
      term_limited past p =
          let g = gathered (term_gathering p) in
          record {
            rest = g.rest;
            raw_is = g.is;
            long = g.long;
            rows_are = g.counted;
            few = omega (arith, g.counted, nodes_fewer false (term_stands p));
            place_is = past (term_nodes p);
          }
