-- Non-terminals that derive a term, found from the rules alone (E9). That these are all of them, in the grammars of a script, is a theorem
-- (`outcome/specs/Alive: DeadExactly`).
use Rattle.std.specs.Prelude.{ℕ, zero, suc, Bool, true, cond, ◌&&◌, not, List, [], ◌∷◌}
use Rattle.forest.specs.Forest.{Forest, none, tree}
use Rattle.forest.specs.Lists.{among}
use Rattle.terms.specs.Labels.{Terms}
use Rattle.derivation.specs.Derivation.{Derives, Grammar, Item, Rule, any_argument, any_literal, non_terminal, rule, the}

-- Whether a node of a rule has something to stand for it, where the non-terminals of `found` derive a term: "`(Variable σ)` with no argument of that sort
-- counts for nothing"; literals are there of every sort.
abbrev pub node_yields : (arguments found : List ℕ) → Item → Bool
node_yields arguments found (the l) = true
node_yields arguments found (non_terminal A) = among A found
node_yields arguments found (any_literal s) = true
node_yields arguments found (any_argument s) = among s arguments

-- Whether each node of a rule has.
unfoldable pub form_yields : (arguments found : List ℕ) → Forest Item → Bool
form_yields arguments found none = true
form_yields arguments found (tree i ops more) = node_yields arguments found i && form_yields arguments found ops && form_yields arguments found more

-- One pass over the rules: the non-terminal of each rule that yields is found from there on.
unfoldable pub one_pass : (arguments found : List ℕ) → List Rule → List ℕ
one_pass arguments found [] = found
one_pass arguments found (rule A weight form ∷ more) =
    let grown = cond (form_yields arguments found form && not (among A found)) (A ∷ found) found in
    one_pass arguments grown more

-- So many passes after the others.
unfoldable pub passes : (n : ℕ) → (arguments found : List ℕ) → List Rule → List ℕ
passes zero arguments found rules = found
passes (suc n) arguments found rules = passes n arguments (one_pass arguments found rules) rules

-- The non-terminals of a grammar that derive a term, of which it has n: each pass finds at least one more until one finds none, so that n are enough.
abbrev pub productive : Grammar → (n : ℕ) → List ℕ
productive G n = passes n G.arguments [] G.rules

-- A non-terminal derives a term, by rules of any number.
pub record DerivesSome (G : Grammar) (A : ℕ) : Type 0 where
  pub term : Terms
  pub rules : List ℕ
  pub derivation : Derives G (tree (non_terminal A) none none) term rules
