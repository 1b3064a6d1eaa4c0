-- The forms of a term stand in a part of a table, up to its end.
use Prim.Native.Nat.{ℕ, ◌-◌, ◌*◌, ◌≤◌, ◌<◌}
use native.Mathlib.Omega.{arith}
use mathlib.Core.Path.{◌≡◌, ap, ◌∙◌, subst}
use mathlib.Core.List.{List}
use lib.ListN.{drop, length, length-append, length-drop, length-replicate, take}
use lib.Seq.{take_all}
use Rattle.forest.specs.Forest.{nodes_of}
use Rattle.forest.specs.Limits.{script_words}
use Rattle.terms.specs.code.Nodes.{row_width}
use Rattle.forest.specs.Tables.{rows}
use Rattle.words.specs.Trees.{Lexeme}
use Rattle.derivation.specs.code.Tables.{form_table}
use Rattle.lexemes.specs.Lists.{Items}
use Rattle.term_nodes.specs.Terms.{raw_term, raw_terms}
use Rattle.names.specs.Scopes.{View, forms_of}
use Rattle.term_faults.specs.code.Bodies.{BodyFound, BodySought}
use Rattle.bodies.specs.code.Bodies.{no_sorts}

-- the column of sorts has an entry for each word that a script may have
pub sorts_long : length no_sorts ≡ script_words
unfolding no_sorts
sorts_long = length-replicate {A = ℕ} script_words 0

-- a term has a form
one_form : (view : View) (l : Lexeme) (ops : Items) → 0 < length (form_table (forms_of view (raw_term l ops)))
unfolding forms_of form_table nodes_of raw_terms rows
one_form view l ops = omega arith

module _ (nodes : List ℕ) (base : ℕ) where
  -- what stands in a table from row `base` on
  part_whole : take (length nodes - row_width * base) (drop (row_width * base) nodes) ≡ drop (row_width * base) nodes
  part_whole = take_all (length nodes - row_width * base) (drop (row_width * base) nodes) (omega (arith, length-drop (row_width * base) nodes))

  module _ {raw signatures : List ℕ} {count sort nowhere : ℕ} where
    -- the forms start within the table
    pub part_starts : BodySought raw (drop (row_width * base) nodes) signatures no_sorts count sort nowhere → row_width * base ≤ length nodes
    part_starts p =
        let found = p.sought in
        let some = one_form found.view p.label p.operands in
        let long = ap length found.is_forms ∙ length-append (form_table (forms_of found.view found.F)) found.more in
        omega (arith, length-drop (row_width * base) nodes, rw p.is at long)

    module _ {column : List ℕ} (blank : column ≡ no_sorts) where
      -- the sorts of the term may be looked for in it
      pub part_sought : BodySought raw (drop (row_width * base) nodes) signatures no_sorts count sort nowhere
          → BodySought raw (take (length nodes - row_width * base) (drop (row_width * base) nodes)) signatures column count sort nowhere
      part_sought p = rw (part_whole, blank) p

      -- and what is found there is that of the term
      pub part_found : {r : ℕ}
          → ((x : BodySought raw (take (length nodes - row_width * base) (drop (row_width * base) nodes)) signatures column count sort nowhere) → BodyFound x r)
          → (p : BodySought raw (drop (row_width * base) nodes) signatures no_sorts count sort nowhere) → BodyFound p r
      part_found {r} found =
          let whole = subst (λ (part : List ℕ). (x : BodySought raw part signatures column count sort nowhere) → BodyFound x r) part_whole found in
          subst (λ (sorts : List ℕ). (x : BodySought raw (drop (row_width * base) nodes) signatures sorts count sort nowhere) → BodyFound x r) blank whole
