-- What holds of a script that passes, though no sort check is run on the terms that its grammars derive: every rule has its non-terminal's sort, every body,
-- constraint and assumption its own. `label_sort` has no sort for a name that is not in its scope, so rules and bodies name only what they may see, and
-- constraints and assumptions only names of the script.
use Rattle.std.specs.Prelude.{ℕ, ◌<◌, List, [], ◌∷◌, map, ◌≡◌, get_or, length}
use Rattle.std.proofs.Math.Option.{some}
use Rattle.terms.specs.Labels.{Terms}
use Rattle.terms.specs.Sorts.{Scope, sorts_of as termSorts}
use Rattle.terms.specs.code.Sorted.{AllSorted}
use Rattle.derivation.specs.Derivation.{form_of, head_of}
use Rattle.term_sorts.specs.Forms.{form_sorts}
use Rattle.names.specs.Scopes.{Defined, Function, named_sorts}
use Rattle.term_faults.specs.Faults.{scope_of}
use Rattle.script.specs.Script.{Known, constraint_view}
use Rattle.outcome.specs.Sorted.{grammar_scope}

-- Each rule of a function's grammar has its non-terminal's sort, and the first non-terminal the function's.
pub record RulesSorted (defs : List Defined) (f : Function) : Type 0 where
  pub start : (0 < length f.non_terminals) × (get_or (named_sorts f.non_terminals) 0 0 ≡ f.result)
  pub heads : (r : ℕ) → r < length f.grammar.rules → head_of f.grammar.rules r < length f.non_terminals
  pub rules : (r : ℕ) → r < length f.grammar.rules
      → form_sorts (grammar_scope defs f) (form_of f.grammar.rules r) ≡ some (get_or (named_sorts f.non_terminals) (head_of f.grammar.rules r) 0 ∷ [])
  pub arguments : f.grammar.arguments ≡ named_sorts f.arguments

-- The same of every function.
unfoldable pub AllRulesSorted : (defs : List Defined) → List Function → Type 0
AllRulesSorted defs [] = Unit {0}
AllRulesSorted defs (f ∷ others) = RulesSorted defs f × AllRulesSorted defs others

-- Terms that are Bool.
unfoldable pub AllBool : Scope → List Terms → Type 0
AllBool scope [] = Unit {0}
AllBool scope (t ∷ more) = (termSorts scope t ≡ some (0 ∷ [])) × AllBool scope more

-- Every body, rule, constraint and assumption of a script has its sort.
pub record Sorted (k : Known) : Type 0 where
  pub bodies : AllSorted (map (λ (d : Defined). d.definition) k.defined)
  pub functions : AllRulesSorted k.defined k.functions
  pub constraints : AllBool (scope_of (constraint_view k)).terms k.constraints
  pub assumptions : AllBool (scope_of (constraint_view k)).terms k.assumptions
