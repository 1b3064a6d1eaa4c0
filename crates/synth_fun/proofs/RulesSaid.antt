-- The rules that a grammar says, in tables: those that were gathered, with the forms of their nodes.
use Prim.Native.Nat.{ℕ, ◌+◌, ◌*◌}
use mathlib.Core.Path.{◌≡◌, refl, ap, ◌∙◌}
use mathlib.Core.List.{List, [], ◌∷◌, map}
use lib.ListN.{length, length-map}
use Rattle.forest.specs.Forest.{Forest, join, nodes_of, none, tree}
use Rattle.forest.specs.code.Cursors.{size}
use Rattle.forest.proofs.Nodes.{length_nodes}
use Rattle.forest.proofs.Rows.{length_rows}
use Rattle.terms.specs.code.Nodes.{row_width as nodeWidth}
use Rattle.derivation.specs.Derivation.{Item, Rule, rule}
use Rattle.derivation.specs.code.Tables.{form_table, item_row, right_sides, rule_table}
use Rattle.term_nodes.specs.Terms.{Raw}
use Rattle.names.specs.Scopes.{View, forms_of}
use Rattle.term_nodes.specs.Rules.{Ruled, sides, weight_in}
use Rattle.term_nodes.specs.code.RuleGathering.{start_table}

-- How many numbers the table of forms has.
pub length_forms : (F : Forest Item) → length (form_table F) ≡ nodeWidth * size F
unfolding form_table
length_forms F = length_rows item_row nodeWidth (λ n. refl) (nodes_of F) ∙ ap (λ (n : ℕ). nodeWidth * n) (length_nodes F)

module _ (view : View) where
  -- There is a form for each node.
  pub forms_size : (F : Forest Raw) → size (forms_of view F) ≡ size F
  unfolding forms_of size
  forms_size none = refl
  forms_size (tree r ops more) = rw (forms_size ops, forms_size more)

  -- The forms of nodes, one behind the other.
  forms_join : (F G : Forest Raw) → forms_of view (join F G) ≡ join (forms_of view F) (forms_of view G)
  unfolding forms_of join
  forms_join none G = refl
  forms_join (tree r ops more) G = rw (forms_join more G)

  -- The rules with their forms.
  abbrev pub said : List Ruled → List Rule
  said rules = map (λ (r : Ruled). rule r.head (weight_in r) (forms_of view r.side)) rules

  -- Their right sides are the forms of those that were gathered.
  pub sides_said : (rules : List Ruled) → right_sides (said rules) ≡ forms_of view (sides rules)
  unfolding forms_of right_sides sides
  sides_said [] = refl
  sides_said (r ∷ more) = rw (sides_said more, forms_join r.side (sides more))

  -- They start where those do.
  pub starts_said : (start : ℕ) (rules : List Ruled) → rule_table start (said rules) ≡ start_table start rules
  unfolding rule_table start_table
  starts_said start [] = refl
  starts_said start (r ∷ more) = rw (forms_size r.side, starts_said (start + size r.side) more)

  -- They are as many.
  pub said_long : (rules : List Ruled) → length (said rules) ≡ length rules
  said_long rules = length-map rules (λ (r : Ruled). rule r.head (weight_in r) (forms_of view r.side))
