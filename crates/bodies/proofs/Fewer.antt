-- How many nodes terms have: no more than they have words.
use Prim.Native.Nat.{ℕ, ◌+◌, ◌≤◌}
use native.Mathlib.Omega.{arith}
use mathlib.Core.Path.{◌≡◌, refl}
use mathlib.Core.Bool.{Bool, true, false}
use Rattle.forest.specs.code.Cursors.{size}
use Rattle.forest.specs.Lists.{same_bytes}
use Rattle.lexemes.specs.Lists.{Items, is, item}
use Rattle.lexemes.specs.code.Standing.{Source, Stands, bracketed, ends, word}
use Rattle.lexemes.proofs.Standing.{forward}
use Rattle.term_nodes.specs.Terms.{raw_terms}
use Rattle.term_nodes.specs.code.Table.{operands_of}

-- the operands of a list
operands_fewer : (ops : Items) {i c : ℕ} → i ≤ c → i + size (raw_terms true ops) ≤ c → i + size (operands_of ops) ≤ c
unfolding size
operands_fewer ops {i} {c} first held = go (is "_" (item 0 ops)) refl
  where
    go : (b : Bool) → is "_" (item 0 ops) ≡ b → i + size (operands_of ops) ≤ c
    go true e = rw e (omega arith)
    go false e = rw e held

-- the nodes of terms, behind a head or not
pub nodes_fewer : {s : Source} (headed : Bool) {i e : ℕ} {F : Items} → Stands s i F e → i + size (raw_terms headed F) ≤ e
unfolding item raw_terms same_bytes size
nodes_fewer headed ends = omega arith
nodes_fewer true (word w rest) = omega (arith, nodes_fewer false rest)
nodes_fewer false (word w rest) = omega (arith, nodes_fewer false rest)
nodes_fewer true (bracketed b inner rest) = omega (arith, forward inner, nodes_fewer false rest)
nodes_fewer false (bracketed {ops = ops} b inner rest) =
    omega (arith, operands_fewer ops (forward inner) (nodes_fewer true inner), nodes_fewer false rest)
