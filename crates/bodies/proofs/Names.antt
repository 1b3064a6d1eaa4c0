-- The nodes of a term are counted, and its forms and the least word with an unknown name are those of its nodes.
use Prim.Native.Nat.{ℕ}
use mathlib.Core.Path.{refl}
use mathlib.Core.Bool.{false}
use mathlib.Core.List.{List}
use Rattle.forest.specs.Forest.{none, tree}
use Rattle.lexemes.specs.code.Standing.{Stands}
use Rattle.lexemes.specs.code.Table.{next_at}
use Rattle.lexemes.proofs.Standing.{by_itself}
use Rattle.term_nodes.specs.code.Sizes.{Counted, Counting}
use Rattle.term_nodes.specs.Terms.{raw_term}
use Rattle.term_nodes.proofs.Saying.{say_terms}
use Rattle.names.specs.code.Lookup.{source_of}
use Rattle.names.specs.code.Forms.{Resolved, Resolving}
use Rattle.names.specs.declared.Seen.{Seen}
use Rattle.bodies.specs.code.Bodies.{Named, Naming}
use Rattle.term_faults.proofs.Headed.{terms_headed}

module _ {text lexemes names raw nodes : List ℕ} {seen : Seen} {count base nowhere : ℕ} where
  -- the nodes of the term may be counted
  pub term_counting : Naming text lexemes names raw nodes seen count base nowhere → Counting raw count
  term_counting p = record { F = raw_term p.label p.operands; rest = p.rest; is = p.raw_is; counted = p.counted }

  -- the term by itself
  term_stands : (p : Naming text lexemes names raw nodes seen count base nowhere)
      → Stands (source_of text lexemes) p.i (tree p.label p.operands none) (next_at lexemes p.i)
  term_stands p = by_itself refl p.stands

  module _ {rawAfter : List ℕ} (counted : (x : Counting raw count) → Counted x rawAfter) where
    -- its names may be looked up
    pub term_resolving : Naming text lexemes names raw nodes seen count base nowhere → Resolving names text lexemes rawAfter nodes seen count base
    unfolding term_counting
    term_resolving p = record {
      F = raw_term p.label p.operands;
      rest = p.rest;
      is_raw = counted (term_counting p);
      counted = p.counted;
      say = say_terms false (term_stands p) p.shaped;
      headed = terms_headed (term_stands p) p.shaped;
      bounded = p.lawful.bounded;
      view = p.view;
      sees = p.sees;
      room = p.room;
    }

    -- and what is found is that of the term
    pub term_named : {nodesAfter : List ℕ} {r : ℕ}
        → ((x : Resolving names text lexemes rawAfter nodes seen count base) → Resolved x nowhere nodesAfter r)
        → (p : Naming text lexemes names raw nodes seen count base nowhere) → Named p rawAfter nodesAfter r
    unfolding term_counting term_resolving
    term_named resolved p =
        let found = resolved (term_resolving p) in
        record { raw_is = counted (term_counting p); nodes_are = found.forms_are; unknown_is = found.unknown_is }
