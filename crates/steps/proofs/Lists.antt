-- Lists of steps: of joined terms, as many as the terms have nodes, and written one after the other.
use Prim.Native.Nat.{ℕ, suc, ◌+◌, ◌*◌}
use native.Mathlib.Omega.{arith}
use mathlib.Core.Path.{◌≡◌, refl, sym, ap, ◌∙◌}
use mathlib.Core.Bool.{false, ◌||◌, or_assoc}
use mathlib.Core.List.{List, [], ◌∷◌, ◌++◌, append_assoc}
use lib.ListN.{length, length-append, set}
use lib.Seq.{sets}
use Rattle.forest.proofs.Bools.{apart, or_left, or_right}
use Rattle.forest.proofs.Nodes.{length_nodes}
use Rattle.forest.specs.Forest.{count, join, none, tree}
use Rattle.forest.specs.code.Cursors.{size}
use Rattle.terms.specs.Labels.{Label, Terms, defined, function, literal, name, operator}
use Rattle.steps.specs.Stack.{node_count}
use Rattle.steps.specs.Steps.{is_applied, step_of, steps_of, uses_defined}
use Rattle.steps.specs.code.List.{step_width}

-- The steps of joined terms.
pub steps_join : (a b : Terms) → steps_of (join a b) ≡ steps_of a ++ steps_of b
unfolding steps_of join
steps_join none b = refl
steps_join (tree l ops rest) b =
    rw (steps_join rest b) (sym (append_assoc (steps_of ops ++ step_of l (count ops)) (steps_of rest) (steps_of b)))

-- Whether joined terms apply a function of the script.
pub uses_join : (a b : Terms) → uses_defined (join a b) ≡ uses_defined a || uses_defined b
unfolding uses_defined join
uses_join none b = refl
uses_join (tree l ops rest) b =
    rw (uses_join rest b) (sym (or_assoc (is_applied l || uses_defined ops) (uses_defined rest) (uses_defined b)))

-- The step of a label that applies none has four numbers.
pub step-width : (l : Label) (n : ℕ) → is_applied l ≡ false → length (step_of l n) ≡ step_width
step-width (literal s v) n u = refl
step-width (name s k) n u = refl
step-width (operator o i j) n u = refl
step-width (defined k) n u = apart (sym u)
step-width (function k) n u = apart (sym u)

-- A tree that applies none: neither its label does, nor its operands, nor the trees that follow.
pub record NoneUsed (l : Label) (ops rest : Terms) : Type 0 where
  pub here : is_applied l ≡ false
  pub below : uses_defined ops ≡ false
  pub behind : uses_defined rest ≡ false

pub none_used : (l : Label) (ops rest : Terms) → uses_defined (tree l ops rest) ≡ false → NoneUsed l ops rest
unfolding uses_defined
none_used l ops rest u =
    let front = or_left (is_applied l || uses_defined ops) (uses_defined rest) u in
    record {
      here = or_left (is_applied l) (uses_defined ops) front;
      below = or_right (is_applied l) (uses_defined ops) front;
      behind = or_right (is_applied l || uses_defined ops) (uses_defined rest) u;
    }

-- A tree by itself applies none.
pub uses_alone : (l : Label) (ops : Terms) → is_applied l ≡ false → uses_defined ops ≡ false → uses_defined (tree l ops none) ≡ false
unfolding uses_defined
uses_alone l ops h b = rw (h, b)

-- A list has as many steps as the terms have nodes.
pub steps_length : (t : Terms) → uses_defined t ≡ false → length (steps_of t) ≡ step_width * size t
unfolding steps_of size
steps_length none u = refl
steps_length (tree l ops rest) u =
    let n = none_used l ops rest u in
    rw (length-append, length-append, steps_length ops n.below, steps_length rest n.behind, step-width l (count ops) n.here) (omega arith)

pub as_many : (t : Terms) → uses_defined t ≡ false → length (steps_of t) ≡ 4 * node_count t
as_many t u = steps_length t u ∙ ap (λ (n : ℕ). 4 * n) (sym (length_nodes t))

-- Four numbers written one after the other.
pub put_four : (l : List ℕ) (i a b c d : ℕ) → set (set (set (set l i a) (i + 1) b) (i + 2) c) (i + 3) d ≡ sets l i (a ∷ b ∷ c ∷ d ∷ [])
put_four l i a b c d =
    let one : i + 1 ≡ suc i = omega arith in
    let two : i + 2 ≡ suc (suc i) = omega arith in
    let three : i + 3 ≡ suc (suc (suc i)) = omega arith in
    rw (one, two, three)
