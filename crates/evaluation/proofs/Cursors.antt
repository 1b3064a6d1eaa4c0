-- The functions that joined forests apply.
use Prim.Native.Nat.{ℕ}
use Rattle.forest.specs.Forest.{join, none, tree}
use Rattle.terms.specs.Labels.{Terms}
use Rattle.evaluation.specs.code.Tables.{CallsKnown}

-- Two forests that apply only functions that are known, joined.
pub calls_join : (defs funs : ℕ) (a b : Terms) → CallsKnown defs funs a → CallsKnown defs funs b → CallsKnown defs funs (join a b)
unfolding CallsKnown join
calls_join defs funs none b p q = q
calls_join defs funs (tree l ops rest) b p q = (p.0, p.1, calls_join defs funs rest b p.2 q)
