-- The loop over the rules of a group.
use Prim.Native.Nat.{ℕ, ◌≤◌, ◌<◌}
use native.Mathlib.Omega.{arith}
use mathlib.Core.Path.{◌≡◌, refl}
use mathlib.Core.List.{List, ◌++◌}
use Rattle.forest.specs.Forest.{none, tree}
use Rattle.forest.proofs.Bools.{and_left}
use Rattle.lexemes.specs.code.Standing.{Between, ItemAt}
use Rattle.lexemes.specs.code.Table.{next_at}
use Rattle.lexemes.proofs.Along.{Along, along_end, along_here, along_start, along_turn, item-of}
use Rattle.lexemes.proofs.Standing.{by_itself}
use Rattle.shapes.specs.Shapes.{all, rule_shape}
use Rattle.term_nodes.specs.Rules.{Ruled, rules_of}
use Rattle.term_nodes.specs.code.RuleGathering.{GroupGathered, RuleAt, RuleGathered, RulesBetween}
use Rattle.term_nodes.specs.declared.Gathered.{Gathered}
use Rattle.term_nodes.proofs.Listing.{rules_fit}
use Rattle.term_nodes.proofs.Onward.{GatheredTo, gathered_all, gathered_on, lent_as, next_within}

-- where the rules stand
abbrev pub rules_between : {lexemes : List ℕ} {first close nowhere most nodes : ℕ} {rawLent rulesLent : List ℕ} {already : Gathered}
    → RulesBetween lexemes first close nowhere most nodes rawLent rulesLent already → Between lexemes first close
rules_between p = record { source = p.source; same = p.same; items = p.items; stands = p.stands }

-- Of the rules of the non-terminal A from one word to another the loop has come to word `at`, and those before are gathered.
abbrev pub RulesTo : (lexemes : List ℕ) (first close nowhere most nodes : ℕ) (rawLent rulesLent : List ℕ) (already : Gathered) (A : ℕ) (raw rules : List ℕ)
    (g : Gathered) (at : ℕ) → Type 0
RulesTo lexemes first close nowhere most nodes rawLent rulesLent already A raw rules g at =
    Along (λ (p : RulesBetween lexemes first close nowhere most nodes rawLent rulesLent already). rules_between p) at
    (λ p. GatheredTo rule_shape rules_of A nowhere most nodes at close rawLent rulesLent raw rules g (p.done ++ rules_of A p.items))

module _ {lexemes : List ℕ} {first close nowhere most nodes : ℕ} {rawLent rulesLent : List ℕ} {already : Gathered} {A : ℕ} where
  -- no rule is passed yet
  pub rules_start : RulesBetween lexemes first close nowhere most nodes rawLent rulesLent already
      → RulesTo lexemes first close nowhere most nodes rawLent rulesLent already A rawLent rulesLent already first
  rules_start given =
      along_start (λ p. rules_between p) given
      (λ p. record { shaped = p.shaped; done = p.done; whole_is = refl; holds = p.holds; room = p.room })

  module _ {raw rules : List ℕ} {g : Gathered} {at : ℕ} (a : RulesTo lexemes first close nowhere most nodes rawLent rulesLent already A raw rules g at) where
    -- at the end all of the rules are gathered
    pub rules_end : close ≤ at → (p : RulesBetween lexemes first close nowhere most nodes rawLent rulesLent already) → GroupGathered p A raw rules g
    unfolding rules_of
    rules_end h p = gathered_all refl (along_end a h p)

    module _ (h : at < close) where
      -- a rule of those that are left
      rule-of : {whole : List Ruled} (x : ItemAt lexemes at)
          → GatheredTo rule_shape rules_of A nowhere most nodes at close rawLent rulesLent raw rules g whole (tree x.label x.operands x.more)
          → RuleAt lexemes at nowhere most nodes raw rules g
      unfolding all
      rule-of x here = record {
        source = x.source;
        same = x.same;
        label = x.label;
        operands = x.operands;
        end = next_at lexemes at;
        stands = by_itself x.same x.stands;
        shaped = and_left (rule_shape x.label x.operands) (all rule_shape x.more) here.shaped;
        done = here.done;
        holds = lent_as refl refl here.holds;
        room = omega (arith, next_within a h, here.room, here.holds.raw_long);
      }

      -- the rule at that word
      pub rule_next : RuleAt lexemes at nowhere most nodes raw rules g
      rule_next = rule-of (item-of a h a.given) (along_here a h a.given)

      -- a turn
      pub rules_turn : {rawAfter rulesAfter : List ℕ} {found : Gathered}
          → ((q : RuleAt lexemes at nowhere most nodes raw rules g) → RuleGathered q A rawAfter rulesAfter found) → {next : ℕ} → next ≡ next_at lexemes at
          → RulesTo lexemes first close nowhere most nodes rawLent rulesLent already A rawAfter rulesAfter found next
      unfolding rule-of rules_of
      rules_turn known {next} e =
          along_turn a h e
          (λ p x source here.
          gathered_on here A (rules_of A (tree x.label x.operands none)) refl (omega (arith, rules_fit A (by_itself x.same x.stands)))
          (omega (arith, next_within a h)) (known (rule-of x here)))
