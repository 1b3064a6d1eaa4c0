-- The variables of a script that passes are at most 64 wide.
use Prim.Native.Nat.{ℕ, zero, suc, min, ◌≤◌, ◌<◌}
use native.Mathlib.Omega.{arith}
use mathlib.Core.Bool.{Bool, true, false, cond}
use mathlib.Core.List.{List, [], ◌∷◌, ◌++◌}
use mathlib.Core.Path.{◌≡◌}
use lib.ListN.{get_or}
use Rattle.operators.specs.Sorts.{max_width}
use Rattle.evaluation.specs.code.Points.{SortsSmall}
use Rattle.words.specs.Trees.{word_of}
use Rattle.lexemes.specs.Lists.{Items, inside, is, item, name_of}
use Rattle.written_sorts.specs.Written.{sort_of, sort_place}
use Rattle.written_sorts.specs.declared.Fault.TheVariants.{TooWide}
use Rattle.names.specs.Scopes.{Named, named_sorts}
use Rattle.forest.specs.Limits.{allowed}
use Rattle.script.specs.Script.{Known, grammar_place, known_after, limit_place, sorting_place}
use Rattle.script.proofs.WordsBelow.{Below, inside_below, item_below, sort_narrow}
use Rattle.script.specs.Outcome.{said, script_outcome}
use Rattle.script.proofs.Keeping.{script_keeps}

-- One variable more.
small_more : (vs : List Named) (v : Named) → ((i : ℕ) → get_or (named_sorts vs) i 0 ≤ max_width) → v.sort ≤ max_width → (i : ℕ) → get_or (named_sorts (vs ++ v ∷ [])) i 0 ≤ max_width
small_more [] v all h zero = h
small_more [] v all h (suc i) = omega arith
small_more (u ∷ vs) v all h zero = all 0
small_more (u ∷ vs) v all h (suc i) = small_more vs v (λ j. all (suc j)) h i

-- So it stays after a command within its limits.
small_after : (nowhere : ℕ) (k : Known) (at : ℕ) (c : Items) → at < nowhere → Below nowhere c → nowhere ≤ limit_place allowed nowhere k at c
    → nowhere ≤ sorting_place nowhere k c → nowhere ≤ grammar_place nowhere k c → SortsSmall (named_sorts k.variables) → SortsSmall (named_sorts (known_after k c).variables)
unfolding known_after limit_place
small_after nowhere k at c ahead below limited sorted ruled small = go (is "declare-var" (item 0 c)) _ _ limited
  where
    sort : ℕ
    sort = sort_of (item 2 c) (inside 2 c)

    go : (declares : Bool) (past others : ℕ) → nowhere ≤ cond declares (min past (sort_place TooWide nowhere (item 2 c) (inside 2 c))) others
        → SortsSmall (named_sorts (cond declares (k.variables ++ record { name = name_of (item 1 c); at = word_of (item 1 c); sort = sort } ∷ []) k.variables))
    go true past others h =
        let numeral = (item_below (omega (arith, ahead)) 2 (inside 2 c) (inside_below nowhere 2 c below)).first in
        record { small = small_more k.variables _ small.small (sort_narrow nowhere (item 2 c) (inside 2 c) numeral (omega arith)) }
    go false past others h = small

-- "Sorts: `Bool`, `(_ BitVec n)`, n from 1 to 64": so are those of the variables of a script that passes.
pub variables_small : (script : List ℕ) {k : Known} → script_outcome script ≡ said k → SortsSmall (named_sorts k.variables)
variables_small script e =
    script_keeps (λ (k : Known). SortsSmall (named_sorts k.variables)) small_after script e (record { small = λ i. omega arith })
