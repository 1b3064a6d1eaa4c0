-- What the evaluator is handed: node tables that hold the terms, and for each function the node at which its body begins.
use Rattle.std.specs.Prelude.{ℕ, ◌+◌, ◌≤◌, ◌<◌, cond, ◌&&◌, List, [], ◌∷◌, ◌++◌, ◌≡◌, eqb, ltb, get_or, length}
use Rattle.forest.specs.Forest.{none, tree}
use Rattle.forest.specs.code.Cursors.{from, size}
use Rattle.terms.specs.Labels.{Label, Terms, defined, function, literal, name, operator}
use Rattle.terms.specs.code.Nodes.{AllPlain, node_table}
use Rattle.terms.specs.code.Codes.{defined_kind, function_kind, kind_of}
use Rattle.terms.specs.Sorts.{Definition}
use Rattle.forest.specs.Limits.{most_defined, most_functions, most_nodes}

-- The term t begins at node i of the terms `all`.
pub record TermStands (all : Terms) (i : ℕ) (t : Terms) : Type 0 where
  pub label : Label
  pub operands : Terms
  pub rest : Terms
  pub at : from all i ≡ tree label operands rest
  pub is : t ≡ tree label operands none

-- The bodies of functions, the last first, begin at the nodes that `bodies` has from place `base` on.
unfoldable pub BodiesAt : (all : Terms) → (bodies : List ℕ) → (base : ℕ) → List Definition → Type 0
BodiesAt all bodies base [] = Unit {0}
BodiesAt all bodies base (d ∷ earlier) = TermStands all (get_or bodies (base + length earlier) 0) d.body × BodiesAt all bodies base earlier

-- A function that a label applies is one of the first `defs` and `funs`.
abbrev pub Callable : (defs funs : ℕ) → Label → Type 0
Callable defs funs (defined k) = k < defs
Callable defs funs (function k) = k < funs
Callable defs funs (literal s v) = Unit {0}
Callable defs funs (name s k) = Unit {0}
Callable defs funs (operator o i j) = Unit {0}

-- Every `define-fun` and synthesized function that the terms apply is one of the first `defs` and `funs`.
unfoldable pub CallsKnown : (defs funs : ℕ) → Terms → Type 0
CallsKnown defs funs none = Unit {0}
CallsKnown defs funs (tree l ops rest) = Callable defs funs l × CallsKnown defs funs ops × CallsKnown defs funs rest

-- The body of each `define-fun` applies only those before it.
unfoldable pub CallsEarlier : List Definition → Type 0
CallsEarlier [] = Unit {0}
CallsEarlier (d ∷ earlier) = CallsKnown (length earlier) 0 d.body × CallsEarlier earlier

-- The bodies of functions apply only the first `defs` of the `define-fun`s.
unfoldable pub CallsDefined : (defs : ℕ) → List Definition → Type 0
CallsDefined defs [] = Unit {0}
CallsDefined defs (f ∷ others) = CallsKnown defs 0 f.body × CallsDefined defs others

-- The body of each of the functions has no more nodes than a body may have.
unfoldable pub SmallBodies : List Definition → Type 0
SmallBodies [] = Unit {0}
SmallBodies (d ∷ earlier) = (size d.body ≤ most_nodes) × SmallBodies earlier

-- Tables that hold these `define-fun`s and synthesized functions, the last first.
pub record BodiesHold (nodes bodies : List ℕ) (defs funs : List Definition) : Type 0 where
  pub all : Terms
  pub rest : List ℕ
  pub nodes_are : nodes ≡ node_table all ++ rest
  pub plain : AllPlain all
  pub defined_at : BodiesAt all bodies 0 defs
  pub functions_at : BodiesAt all bodies most_defined funs
  pub small_defined : SmallBodies defs
  pub small_functions : SmallBodies funs
  pub defined_calls : CallsEarlier defs
  pub function_calls : CallsDefined (length defs) funs
  pub defined_most : length defs ≤ most_defined
  pub functions_most : length funs ≤ most_functions

-- A place that no body has.
abbrev pub no_place : ℕ
no_place = most_defined + most_functions

-- The place of the body of the function that a label applies, by the label's two numbers: a `define-fun`'s is its number, a synthesized
-- function's stands behind those; `no_place` for a label that applies none.
abbrev pub body_place : (code value : ℕ) → ℕ
body_place code value =
    cond (eqb (kind_of code) defined_kind && ltb value most_defined) value
    (cond (eqb (kind_of code) function_kind && ltb value most_functions) (most_defined + value)
    no_place)
