-- A script that passes: its sorts, its grammars, its variables and its terms.
use Prim.Native.Nat.{ℕ, ◌≤◌, ◌<◌}
use native.Mathlib.Omega.{arith}
use mathlib.Core.Bool.{Bool, true, false}
use mathlib.Core.List.{List, [], ◌∷◌}
use mathlib.Core.Path.{◌≡◌}
use lib.ListN.{length, length-map}
use Rattle.forest.specs.Forest.{count}
use Rattle.derivation.specs.Derivation.{form_of, most_weight, weight_of}
use Rattle.derivation.specs.code.Admitted.{Admitted}
use Rattle.lexemes.specs.Lists.{Items, inside}
use Rattle.term_nodes.specs.Rules.{item_past, rule_past, rules_in}
use Rattle.written_sorts.specs.Written.{grammar_sorts}
use Rattle.written_sorts.specs.declared.Fault.TheVariants.{TooWide}
use Rattle.names.specs.Scopes.{Defined, Function, Named}
use Rattle.headers.specs.Heads.{header_past}
use Rattle.forest.specs.Limits.{allowed, most_nodes, most_non_terminals, most_rules}
use Rattle.grammars.specs.Grammars.{grammar_past}
use Rattle.script.specs.Script.{Known, known_after, limit_place, view_of}
use Rattle.script.proofs.WordsBelow.{Below, inside_below}
use Rattle.names.proofs.PairNames.{named_long}
use Rattle.script.proofs.Within.{items_few, past_neither, past_none}
use Rattle.outcome.specs.Sorted.{grammar_scope}
use Rattle.outcome.specs.code.Sorted.{AllRulesSorted, RulesSorted}
use Rattle.outcome.proofs.OneCommand.{Command, Tests, another, assuming, command, constraining, declaring, defining, synthesizing}
use Rattle.script.proofs.Rules.{groups_placed}
use Rattle.script.specs.Outcome.{said, script_outcome}
use Rattle.script.proofs.Keeping.{script_keeps}
use Rattle.outcome.proofs.Promised.{script_sorted}
use Rattle.outcome.proofs.Variables.{variables_small}
use Rattle.outcome.proofs.SmallTerms.{script_few}
use Rattle.outcome.specs.code.Assured.{AllAdmitted, Assured}
use Rattle.script.proofs.Admitted.{sorted_admitted}
use Rattle.script.proofs.Proper.{AllBounded}
use Rattle.script.proofs.Limited.{rules_few, said_bounded, said_light}
use Rattle.script.proofs.RuleWeights.{rules_light}

-- The grammar of a function is within its limits.
record Limited (f : Function) : Type 0 where
  rules : length f.grammar.rules ≤ most_rules
  non_terminals : length f.non_terminals ≤ most_non_terminals
  sides : (r : ℕ) → r < length f.grammar.rules → AllBounded (form_of f.grammar.rules r)
  weights : (r : ℕ) → r < length f.grammar.rules → weight_of f.grammar.rules r ≤ most_weight

-- The same of every function.
unfoldable AllLimited : List Function → Type 0
AllLimited [] = Unit {0}
AllLimited (f ∷ others) = Limited f × AllLimited others

-- The grammars that are known are within the limits.
record Within (k : Known) : Type 0 where
  functions : AllLimited k.functions

-- A grammar within its limits, whose rules have their sorts, is one that document 01 admits.
limited_admitted : {defs : List Defined} {f : Function} → RulesSorted defs f → Limited f → Admitted f.grammar
limited_admitted {defs} {f} s l =
    let long = length-map f.non_terminals (λ (n : Named). n.sort) in
    sorted_admitted (grammar_scope defs f) f.grammar l.rules (omega (arith, l.non_terminals)) (λ r h. omega (arith, s.heads r h)) l.sides s.rules
    l.weights

-- The same of every function.
all_admitted : (defs : List Defined) (fs : List Function) → AllRulesSorted defs fs → AllLimited fs → AllAdmitted fs
unfolding AllAdmitted AllLimited AllRulesSorted
all_admitted defs [] sorted limited = tt
all_admitted defs (f ∷ others) sorted limited = (limited_admitted sorted.0 limited.0, all_admitted defs others sorted.1 limited.1)

-- Every command within its limits keeps what is known within the limits.
module _ {nowhere : ℕ} (k : Known) (at : ℕ) (c : Items) (some_word : 0 < nowhere) (below : Below nowhere c)
    (limited : nowhere ≤ limit_place allowed nowhere k at c) (within : Within k) where
  -- After a `synth-fun`.
  after_function : Tests c false false true false false → Within (known_after k c)
  unfolding AllLimited known_after limit_place
  after_function t =
      let fits = rw (t.declares, t.defines, t.synthesizes) at limited in
      let pairs = inside 4 c in
      let groups = inside 5 c in
      let in-groups = inside_below nowhere 5 c below in
      let past = (past_none _ (header_past allowed nowhere c) (grammar_past allowed nowhere c) fits).2 in
      let parts = past_none (item_past nowhere most_non_terminals pairs) (grammar_sorts TooWide nowhere c) _ past in
      let listed = past_neither (rule_past nowhere most_rules (rules_in 0 groups)) _ parts.2 in
      let few = items_few nowhere most_non_terminals pairs some_word (inside_below nowhere 4 c below) parts.0 in
      let placed = groups_placed {most = count groups} 0 groups (omega arith) in-groups in
      rw (t.declares, t.defines, t.synthesizes, t.constrains, t.assumes)
      (record {
        functions = (
          record {
            rules = rw length-map (rules_few most_rules placed listed.0);
            non_terminals = omega (arith, named_long pairs);
            sides = said_bounded (view_of k c) (rules_in 0 groups);
            weights = said_light (view_of k c) (rules_light most_nodes placed listed.1);
          },
          within.functions,
        );
      })

  -- After another command.
  after_other : {declared defined constrained assumed : Bool} → Tests c declared defined false constrained assumed → Within (known_after k c)
  unfolding known_after
  after_other t = rw t.synthesizes (record { functions = within.functions })

  -- After any command.
  after_command : Command c → Within (known_after k c)
  after_command (declaring t) = after_other t
  after_command (synthesizing t) = after_function t
  after_command (defining t) = after_other t
  after_command (constraining t) = after_other t
  after_command (assuming t) = after_other t
  after_command (another t) = after_other t

-- A script that passes has its sorts, its grammars are those that document 01 admits, its variables are at most 64 wide, and its terms have few nodes.
pub script_assured : (text : List ℕ) {k : Known} → script_outcome text ≡ said k → Assured k
unfolding AllLimited
script_assured text {k} e =
    let within = script_keeps Within (λ nowhere k at c ahead below limited sorted ruled h. after_command k at c (omega (arith, ahead)) below limited h (command c)) text e
    (record { functions = tt }) in
    let sorted = script_sorted text e in
    record {
      sorted = sorted;
      admitted = all_admitted k.defined k.functions sorted.functions within.functions;
      small = variables_small text e;
      few = script_few text e;
    }
