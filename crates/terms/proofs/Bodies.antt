-- Terms as bodies: what the node table says of them, and that they keep their sorts where more functions are known.
use Prim.Native.Nat.{ℕ, zero, suc, ◌<◌}
use native.Mathlib.Omega.{arith}
use mathlib.Core.Path.{◌≡◌, refl, sym, ap₂, ◌∙◌, subst}
use mathlib.Core.Bool.{Bool, true, false, cond}
use mathlib.Core.List.{List, [], ◌∷◌, ◌++◌}
use mathlib.Core.Option.{some}
use borrow.Author.Tests.{eqb-true, ne_eqb}
use lib.Dec.{eqb, lit<}
use lib.ListN.{get_or, length, length-append}
use Rattle.forest.proofs.Nodes.{node_at}
use Rattle.forest.proofs.Options.{never}
use Rattle.forest.proofs.Rows.{row_at}
use Rattle.forest.specs.Forest.{count, join, nodes_of, none, tree}
use Rattle.forest.specs.code.Cursors.{from, size}
use Rattle.forest.specs.code.Rows.{number_at}
use Rattle.forest.specs.Tables.{rows}
use Rattle.operators.specs.Sorts.{sort_where}
use Rattle.terms.specs.Labels.{Label, Terms, defined, function, literal, name, operator}
use Rattle.terms.specs.code.Codes.{defined_kind, head_of, high_in, kind_of, literal_kind, low_in, name_kind, operator_kind}
use Rattle.terms.specs.code.Nodes.{AllPlain, Plain, code_at, code_of, node_row, node_table, operands_at, row_width, size_at, value_at, value_of}
use Rattle.terms.specs.Sorts.{Scope, Signature, called_sort, label_sort, same_sorts, sorts_of}
use Rattle.terms.proofs.CodeParts.{head_with, high-in, kind_with, low-in}
use Rattle.terms.proofs.Sorted.{sorted, sorts_tree}

-- What a table says of node i: its label is l and its operands are ops.
pub record Says (nodes : List ℕ) (i : ℕ) (l : Label) (ops : Terms) : Type 0 where
  pub code : code_at nodes i ≡ code_of l
  pub value : value_at nodes i ≡ value_of l
  pub operands : operands_at nodes i ≡ count ops
  pub size : size_at nodes i ≡ suc (size ops)

-- A table of terms, whatever follows it, says of the node at a cursor what stands there.
pub says : (all : Terms) {nodes : List ℕ} (rest : List ℕ) (i : ℕ) (l : Label) (ops more : Terms) → nodes ≡ node_table all ++ rest → from all i ≡ tree l ops more
    → Says nodes i l ops
unfolding node_table
says all rest i l ops more t e =
    rw t (record { code = column 0 (lit< tt); value = column 1 (lit< tt); operands = column 2 (lit< tt); size = column 3 (lit< tt) })
  where
    column : (k : ℕ) → k < row_width → number_at row_width (rows node_row (nodes_of all) ++ rest) i k ≡ get_or (node_row (record { label = l; operands = ops })) k 0
    column k h = row_at node_row row_width (λ n. refl) (nodes_of all) rest i k _ _ (node_at all i l ops more e) h

-- Every label of plain terms is plain: of terms one after the other, of those left at a cursor, and of the node that stands there.
pub plain_join : (a b : Terms) → AllPlain a → AllPlain b → AllPlain (join a b)
unfolding AllPlain join
plain_join none b p q = q
plain_join (tree l ops rest) b p q = (p.0, p.1, plain_join rest b p.2 q)

pub plain_from : (all : Terms) (i : ℕ) → AllPlain all → AllPlain (from all i)
unfolding AllPlain from
plain_from all zero p = p
plain_from none (suc i) p = p
plain_from (tree l ops rest) (suc i) p = plain_from (join ops rest) i (plain_join ops rest p.1 p.2)

pub plain_at : (all : Terms) (i : ℕ) (l : Label) (ops more : Terms) → AllPlain all → from all i ≡ tree l ops more → Plain l
unfolding AllPlain
plain_at all i l ops more p e = (subst AllPlain e (plain_from all i p)).0

-- The label of a code and a value.
abbrev pub label_of : (code value : ℕ) → Label
label_of code value =
    let kind = kind_of code in
    cond (eqb kind literal_kind) (literal (head_of code) value)
    (cond (eqb kind name_kind) (name (head_of code) value)
    (cond (eqb kind operator_kind) (operator (head_of code) (high_in value) (low_in value)) (cond (eqb kind defined_kind) (defined value) (function value))))

-- A label is the one of its code and its value.
pub label-of : (l : Label) → Plain l → label_of (code_of l) (value_of l) ≡ l
label-of (literal s v) p = rw (kind_with literal_kind s (lit< tt), head_with literal_kind s (lit< tt))
label-of (name s k) p = rw (kind_with name_kind s (lit< tt), head_with name_kind s (lit< tt))
label-of (operator o i j) p = rw (kind_with operator_kind o (lit< tt), head_with operator_kind o (lit< tt), high-in i j p, low-in i j p)
label-of (defined k) p = refl
label-of (function k) p = refl

-- Labels of one code and one value are one label.
pub label_same : (l m : Label) → Plain l → Plain m → code_of l ≡ code_of m → value_of l ≡ value_of m → l ≡ m
label_same l m p q c v = sym (label-of l p) ∙ ap₂ label_of c v ∙ label-of m q

-- A function that has a sort is one of those known.
pub called_within : (fs : List Signature) (k : ℕ) (ss : List ℕ) {s : ℕ} → called_sort fs k ss ≡ some s → k < length fs
unfolding called_sort
called_within [] k ss h = never h
called_within (f ∷ earlier) k ss {s} h = by_case (eqb k (length earlier)) refl h (λ g. called_within earlier k ss {s = s} g)
  where
    by_case : (here : Bool) → eqb k (length earlier) ≡ here → cond here (sort_where (same_sorts ss f.arguments) f.result) (called_sort earlier k ss) ≡ some s
        → (called_sort earlier k ss ≡ some s → k < length earlier) → k < suc (length earlier)
    by_case true e h later = omega (arith, eqb-true k (length earlier) e)
    by_case false e h later = omega (arith, later h)

-- It has the sort where more functions are known.
called_more : (more fs : List Signature) (k : ℕ) (ss : List ℕ) {s : ℕ} → called_sort fs k ss ≡ some s → called_sort (more ++ fs) k ss ≡ some s
unfolding called_sort
called_more [] fs k ss h = h
called_more (f ∷ more) fs k ss h =
    let other = ne_eqb k (length (more ++ fs)) (λ e. omega (arith, called_within fs k ss h, length-append more fs)) in
    rw other (called_more more fs k ss h)

-- A scope with more `define-fun`s and more synthesized functions, which come last.
abbrev pub more_known : (defs funs : List Signature) → Scope → Scope
more_known defs funs scope = record { names = scope.names; defined = defs ++ scope.defined; functions = funs ++ scope.functions }

module _ (defs funs : List Signature) (scope : Scope) where
  -- A label keeps its sort in it.
  label_more : (l : Label) (ss : List ℕ) {s : ℕ} → label_sort scope l ss ≡ some s → label_sort (more_known defs funs scope) l ss ≡ some s
  unfolding label_sort
  label_more (literal s v) ss h = h
  label_more (name s k) ss h = h
  label_more (operator o i j) ss h = h
  label_more (defined k) ss h = called_more defs scope.defined k ss h
  label_more (function k) ss h = called_more funs scope.functions k ss h

  -- Terms keep their sorts in it.
  pub sorts_more : (t : Terms) {ss : List ℕ} → sorts_of scope t ≡ some ss → sorts_of (more_known defs funs scope) t ≡ some ss
  unfolding sorts_of
  sorts_more none h = h
  sorts_more (tree l ops rest) h =
      let p = sorted scope l ops rest h in
      let label = label_more l p.operands p.label in
      rw (← p.together) (sorts_tree (more_known defs funs scope) l ops rest label (sorts_more ops p.ops_have) (sorts_more rest p.rest_have))
