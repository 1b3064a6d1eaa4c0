-- The loop that settles the non-terminals of a node.
use mathlib.Core.Path.{◌≡◌, sym, ◌∙◌, subst, refl}
use Prim.Native.Nat.{ℕ, ◌-◌, ◌/◌, ◌<◌, zero, suc, ◌≤◌}
use native.Mathlib.Omega.{arith}
use native.Mathlib.Decide.{ℕ_discrete}
use mathlib.Core.Bool.{true≢false}
use mathlib.Core.List.{List}
use lib.ListN.{length, set, length-set, get_or, replicate, take}
use lib.Seq.{get_or-set_same, get_or-set_other}
use Rattle.derivation.specs.Derivation.{head_of}
use Rattle.searching.specs.code.Search.{Asks}
use Rattle.derivation.proofs.Count.{cnt, cnt_le}
use Rattle.derivation.proofs.Mask.{has_zero}
use Rattle.searching.proofs.Closed.{Chosen, chosen_step, grows, complete, chain_derives, closed, full, leads, rank_small}
use Rattle.derivation.proofs.RuleFirst.{rules_count, head_low, head_is}
use Rattle.searching.proofs.Uses.{live_take, prices_of}
use Rattle.derivation.specs.code.Masks.{has, Puts}
use Rattle.searching.specs.code.Masks.{mark_width}
use Rattle.derivation.specs.code.Rules.{non_terminal_at, rule_width}
use Rattle.searching.specs.code.Filling.{NodeIs, Chooses, Live, Price, PricedLive, Prices, RowPre, SettlePre, Settles, nothing}
use Rattle.searching.specs.declared.filling.Choice.{Choice}
use Rattle.searching.specs.code.Ranks.{most}
use Rattle.forest.specs.Limits.{most_non_terminals, most_rules}

-- the members of s have their choices and their ranks
pub record State (rules forms costs live row₀ chosen₀ row chosen : List ℕ) (s : ℕ) : Type 0 where
  pub pre : SettlePre rules forms costs live row₀ chosen₀
  pub seventeen : length row ≡ mark_width
  pub sixteen : length chosen ≡ most_non_terminals
  pub prices : Prices rules forms row
  pub held : Live rules forms costs (length rules / rule_width) live (length live)
  pub members : (p : SettlePre rules forms costs live row₀ chosen₀) → Chosen p.asks row (λ A. get_or chosen A 0) s

module _ {rules forms costs live row₀ chosen₀ : List ℕ} where
  pub state_start : SettlePre rules forms costs live row₀ chosen₀ → State rules forms costs live row₀ chosen₀ row₀ chosen₀ 0
  state_start p = record {
    pre = p;
    seventeen = p.room.seventeen;
    sixteen = p.room.sixteen;
    prices = prices_of p.asks p.room.small;
    held = p.held;
    members = λ q A l t. absurd (true≢false (sym t ∙ has_zero A));
  }

  -- the same, whatever else the tables hold
  abbrev other : (p : SettlePre rules forms costs live row₀ chosen₀) → Asks rules forms p.body p.masks p.i
      → SettlePre rules forms costs live row₀ chosen₀
  other p q = record { body = p.body; masks = p.masks; i = p.i; asks = q; priced = p.priced; held = p.held; room = p.room }

  module _ {row chosen : List ℕ} {s : ℕ} (v : State rules forms costs live row₀ chosen₀ row chosen s) where
    -- no rule has a price
    none_chosen : ((k : ℕ) → k < length rules / rule_width → Price rules forms costs row s k 0) → Chooses rules forms costs row s (length rules / rule_width) 0 0
    none_chosen priceless = record { is = λ nz. absurd (nz refl); all = λ k l. (0, priceless k l, nothing refl) }

    pub node_done : ((k : ℕ) → k < length rules / rule_width → Price rules forms costs row s k 0) → (p : SettlePre rules forms costs live row₀ chosen₀)
        → NodeIs rules forms p.body p.masks p.i row chosen s
    node_done priceless p = record {
      sixteen = v.sixteen;
      seventeen = v.seventeen;
      exact = λ a.
          let me = v.members (other p a) in
          record {
            sound = λ A l t. chain_derives a (me A l t).1;
            complete = λ A l d.
                complete a s (closed a p.priced me 0 (none_chosen priceless)) A d;
            ranked = λ A l t.
                let m = (me A l t).3 in
                record { ds = m.ds; least = m.least; rank = m.rank; few = omega (arith, m.few, full a s) };
          };
      chains = λ a A l t. let o = v.members (other p a) A l t in (o.0, o.1, omega (arith, o.2, cnt_le (has s) most_non_terminals));
    }

    module _ {choice : Choice} (made : (choice.rank ≡ 0 → ⊥) × Chooses rules forms costs row s (length rules / rule_width) choice.rule choice.rank) where
      abbrev r : ℕ
      r = choice.rule

      abbrev c : ℕ
      c = choice.rank

      abbrev nz : c ≡ 0 → ⊥
      nz = made.0

      abbrev ch : Chooses rules forms costs row s (length rules / rule_width) r c
      ch = made.1

      is_rule : (p : SettlePre rules forms costs live row₀ chosen₀) → r < length p.asks.given.G.rules
      is_rule p = omega (arith, (ch.is nz).0, rules_count p.asks.given)

      pub rule_small : r < most_rules
      rule_small = omega (arith, is_rule v.pre, v.pre.asks.given.admitted.few)

      module _ {x : ℕ} (ex : x ≡ non_terminal_at rules r) where
        pub member_low : x < most_non_terminals
        member_low = omega (arith, ex, head_low v.pre.asks.given r (is_rule v.pre))

        head : (p : SettlePre rules forms costs live row₀ chosen₀) → head_of p.asks.given.G.rules r ≡ x
        head p = sym (ex ∙ head_is p.asks.given r (is_rule p))

        module _ {s' : ℕ} (pu : Puts s x s') where
          put : (p : SettlePre rules forms costs live row₀ chosen₀) → Puts s (head_of p.asks.given.G.rules r) s'
          put p = rw (head p) pu

          pub more_members : most_non_terminals - cnt (has s') most_non_terminals < most_non_terminals - cnt (has s) most_non_terminals
          more_members =
              let p = v.pre in
              let l = leads p.asks p.priced (v.members p) r c (is_rule p) (ch.is nz).1 nz in
              omega (arith, grows p.asks s r s' (is_rule p) l.fresh (put p), cnt_le (has s') most_non_terminals)

          small : (A : ℕ) → Dec (A ≡ x) → get_or (set row x c) A 0 ≤ most
          small A (yes e) =
              let p = v.pre in
              let b = rank_small p.asks p.priced (v.members p) r c (is_rule p) ch nz in
              rw (e, get_or-set_same row x c 0 (omega (arith, member_low, v.seventeen))) b
          small A (no e) = rw (get_or-set_other row x A c 0 e) (v.prices.small A)

          new : (p : SettlePre rules forms costs live row₀ chosen₀) → get_or (set chosen x r) (head_of p.asks.given.G.rules r) 0 ≡ r
          new p = rw (head p) (get_or-set_same chosen x r 0 (omega (arith, member_low, v.sixteen)))

          pub state_step : State rules forms costs live row₀ chosen₀ (set row x c) (set chosen x r) s'
          state_step = record {
            pre = v.pre;
            seventeen = length-set row x c ∙ v.seventeen;
            sixteen = length-set chosen x r ∙ v.sixteen;
            prices = prices_of v.pre.asks (λ A. small A (ℕ_discrete A x));
            held = v.held;
            members = λ p.
                subst (λ (y : ℕ). Chosen p.asks (set row y c) (λ A. get_or (set chosen x r) A 0) s') (head p)
                (chosen_step p.asks p.priced (v.members p) r c (is_rule p) ch nz (put p) v.seventeen (new p)
                (λ B ne. get_or-set_other chosen x B r 0 (λ e. ne (e ∙ sym (head p)))));
          }

-- what the search at a node comes to
module _ {rules forms body masks : List ℕ} {i : ℕ} {row chosen : List ℕ} (q : Asks rules forms body masks i × RowPre row chosen) {costs live : List ℕ} {m : ℕ}
    (p : PricedLive rules forms body masks i (length rules / rule_width) costs live m) where
  abbrev pub settle_pre : SettlePre rules forms costs (take m live) row chosen
  settle_pre = record {
    body = body;
    masks = masks;
    i = i;
    asks = q.0;
    priced = p.priced;
    held = live_take p.held (omega (arith, p.long, p.within));
    room = q.1;
  }

  pub settled : {row' chosen' : List ℕ} {s : ℕ} → Settles rules forms costs (take m live) row chosen row' chosen' s
      → NodeIs rules forms body masks i row' chosen' s
  settled f = f settle_pre

zeros : (n A : ℕ) → get_or (replicate {A = ℕ} n 0) A 0 ≡ 0
zeros zero A = refl
zeros (suc n) zero = refl
zeros (suc n) (suc A) = zeros n A

-- room with nothing in it
pub blank_row : RowPre (replicate {A = ℕ} mark_width 0) (replicate {A = ℕ} most_non_terminals 0)
blank_row = record { seventeen = refl; sixteen = refl; small = λ A. omega (arith, zeros mark_width A) }
