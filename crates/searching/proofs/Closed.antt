-- A set to which no rule can add is the set of all that derive; the rule of the least price begins the least list, and the choices lead to it.
use mathlib.Core.Path.{◌≡◌, refl, ap, ◌∙◌, subst, sym}
use mathlib.Core.Logic.{inr}
use Prim.Native.Nat.{ℕ, suc, ◌-◌, ◌<◌, ◌≤◌, ◌+◌, ◌*◌, ◌/◌}
use native.Mathlib.Omega.{arith}
use native.Mathlib.Decide.{ℕ_discrete}
use mathlib.Core.Bool.{true, false, true≢false, Bool}
use mathlib.Core.List.{List, ◌∷◌, ◌++◌, append-nil}
use lib.ListN.{length, get_or, set}
use lib.Seq.{get_or-set_same, get_or-set_other}
use Rattle.forest.specs.Forest.{Forest, none, tree, count}
use Rattle.forest.proofs.Laws.{Tree, tree_at, count_zero}
use Rattle.terms.specs.Labels.{Terms}
use Rattle.derivation.specs.Derivation.{Item, head_of, form_of, Derives, Grammar, the, non_terminal, any_argument, any_literal, use-rule, done, leaf, same}
use Rattle.derivation.specs.code.Admitted.{Admitted, Proper}
use Rattle.terms.specs.code.Nodes.{value_at}
use Rattle.derivation.specs.Least.{First, Least}
use Rattle.derivation.specs.code.Forms.{NoChain, Fits, DerivesAt}
use Rattle.searching.specs.code.Search.{Asks, Chain, stop, more, Best}
use Rattle.derivation.proofs.Order.{before_more, first_cons, first_trans, light_all}
use Rattle.searching.proofs.Rank.{better_first, rank_bound, rank_cons}
use Rattle.searching.proofs.LeastParts.{best}
use Rattle.searching.proofs.Parts.{tree_ends, tree_some}
use Rattle.derivation.proofs.RuleFirst.{chain_code, chain_view, head_is, no_chain_view, rules_count, weight_is}
use Rattle.derivation.proofs.Likeness.{any_not_hole}
use Rattle.derivation.proofs.Count.{cnt, cnt_grow, cnt_le}
use Rattle.forest.specs.Limits.{most_non_terminals}
use Rattle.forest.specs.code.Cursors.{from, first, size}
use Rattle.derivation.specs.code.Masks.{has, Puts}
use Rattle.searching.specs.code.Masks.{mark_width}
use Rattle.searching.specs.code.Filling.{Applies, chain, no_chain, Chooses, Price, Priced, Worse, chained, known, not_yet, plain, dearer, later, nothing}
use Rattle.derivation.specs.code.Rules.{start_at, rule_width}
use Rattle.searching.specs.code.Ranks.{Ranked, Through, most, per_weight}
use Rattle.derivation.proofs.Meta.{empty}

-- which rules are chain rules
data Kind (P : Forest Item) : Type 0 where
  is_chain : (B : ℕ) → P ≡ tree (non_terminal B) none none → Kind P
  is_no_chain : NoChain P → Kind P

kind : (P : Forest Item) → Proper most_non_terminals P → count P ≡ 1 → Kind P
unfolding Proper count
kind none pr c = absurd (omega arith)
kind (tree (the s) ps qs) pr c = is_no_chain (λ A xs ys e. let z : ◌≡◌ {A = ℕ} 0 1 = cc in omega arith)
kind (tree (any_literal s) ps qs) pr c = is_no_chain (λ A xs ys e. let z : ◌≡◌ {A = ℕ} 0 1 = cc in omega arith)
kind (tree (any_argument s) ps qs) pr c = is_no_chain (λ A xs ys e. let z : ◌≡◌ {A = ℕ} 0 1 = cc in omega arith)
kind (tree (non_terminal B) ps qs) pr c =
    is_chain B (ap (λ (x : Forest Item). tree (non_terminal B) x qs) pr.1 ∙ ap (tree (non_terminal B) none) (count_zero qs (omega arith)))

low_proper : (B : ℕ) → Proper most_non_terminals (tree (non_terminal B) none none) → B < most_non_terminals
unfolding Proper
low_proper B p = p.0

-- where other tables have the same members and choices, they lead as far
pub chain_as : {G : Grammar} {F : Terms} {s s' : ℕ} {chosen chosen' : ℕ → ℕ} {A k : ℕ} → Admitted G
    → ((B : ℕ) → B < most_non_terminals → has s B ≡ true → (has s' B ≡ true) × (chosen' B ≡ chosen B)) → A < most_non_terminals
    → Chain G F s chosen A k → Chain G F s' chosen' A k
chain_as {G = G} {A = A} ad f l (stop y! lt hd np fi be) =
    let o = f A l y! in
    let g = o.1 in
    stop o.0 (rw g lt) (ap (head_of G.rules) g ∙ hd) (rw g np) (rw g fi) (rw g be)
chain_as {G = G} {chosen = chosen} {A = A} ad f l (more B y! lt hd is be c) =
    let o = f A l y! in
    let g = o.1 in
    let low = low_proper B (subst (Proper most_non_terminals) is (ad.proper (chosen A) lt)) in
    more B o.0 (rw g lt) (ap (head_of G.rules) g ∙ hd) (ap (form_of G.rules) g ∙ is) (rw g be) (chain_as ad f low c)

module _ {rules forms body masks : List ℕ} {i : ℕ} (q : Asks rules forms body masks i) where
  abbrev pub G : Grammar
  G = q.given.G

  abbrev pub D : Forest Item → Terms → List ℕ → Type 0
  D = Derives G

  abbrev pub T : Terms
  T = from q.given.F i

  -- every rule that applies has its non-terminal in s
  abbrev pub Closed : ℕ → Type 0
  Closed s = (r : ℕ) → r < length G.rules → Applies G T s r → has s (head_of G.rules r) ≡ true

  pub here : Tree T
  here = tree_at q.given.F i q.inside

  pub first_one : first 1 T ≡ tree here.l here.ops none
  unfolding first
  first_one = ap (first 1) here.is

  to_fits : (P : Forest Item) → count P ≡ 1 → (ds : List ℕ) → D P (tree here.l here.ops none) ds → Fits G P T
  unfolding Fits
  to_fits P c ds d = (ds, rw (c, first_one) d)

  first_fits : (P : Forest Item) → count P ≡ 1 → (ds : List ℕ) → D P (first 1 T) ds → Fits G P T
  unfolding Fits
  first_fits P c ds d = (ds, rw c d)

  pub of_fits : (P : Forest Item) → count P ≡ 1 → Fits G P T → (ds : List ℕ) × D P (tree here.l here.ops none) ds
  unfolding Fits
  of_fits P c f = rw (c, first_one) at f

  finish : (s : ℕ) → Closed s → (r : ℕ) → r < length G.rules → Kind (form_of G.rules r) → (ds : List ℕ)
      → D (form_of G.rules r) (tree here.l here.ops none) ds
      → ((B : ℕ) → form_of G.rules r ≡ tree (non_terminal B) none none → has s B ≡ true) → has s (head_of G.rules r) ≡ true
  finish s cl r h (is_chain B e) ds d rec = cl r h (chain B e (rec B e))
  finish s cl r h (is_no_chain np) ds d rec = cl r h (no_chain np (to_fits (form_of G.rules r) (q.given.admitted.single r h) ds d))

  closed_all : (s : ℕ) → Closed s → {P : Forest Item} {U : Terms} {ds : List ℕ} → D P U ds → (A : ℕ) → P ≡ tree (non_terminal A) none none
      → U ≡ tree here.l here.ops none → has s A ≡ true
  closed_all s cl done A e u = let z : ◌≡◌ {A = ℕ} 0 1 = cc in absurd (omega arith)
  closed_all s cl (use-rule {A = A'} {l = l'} {ts = ts} {ds = ds} r h eA d d2) A e u =
      let eAA : A' ≡ A = cc in
      let eu : tree l' ts none ≡ tree here.l here.ops none = cc in
      ap (has s) (sym (eA ∙ eAA))
      ∙ finish s cl r h (kind (form_of G.rules r) (q.given.admitted.proper r h) (q.given.admitted.single r h)) ds
      (subst (λ (x : Terms). D (form_of G.rules r) x ds) eu d)
      (λ B eB. closed_all s cl d B eB eu)
  closed_all s cl (leaf {i = k} a d) A e u = let q : k ≡ non_terminal A = cc in absurd (any_not_hole a A q)
  closed_all s cl (same e2 d d2) A e u = let z : ◌≡◌ {A = ℕ} 0 1 = cc in absurd (omega arith)

  at_tree : (A : ℕ) → DerivesAt G A T → (ds : List ℕ) × D (tree (non_terminal A) none none) (tree here.l here.ops none) ds
  unfolding DerivesAt
  at_tree A d = subst (DerivesAt G A) here.is d

  tree_at' : (A : ℕ) → (ds : List ℕ) × D (tree (non_terminal A) none none) (tree here.l here.ops none) ds → DerivesAt G A T
  unfolding DerivesAt
  tree_at' A d = subst (DerivesAt G A) (sym here.is) d

  pub complete : (s : ℕ) → Closed s → (A : ℕ) → DerivesAt G A T → has s A ≡ true
  complete s cl A d = closed_all s cl (at_tree A d).1 A refl refl

  chain_some : {s : ℕ} {chosen : ℕ → ℕ} {A k : ℕ} → Chain G T s chosen A k
      → (ds : List ℕ) × D (tree (non_terminal A) none none) (tree here.l here.ops none) ds
  chain_some {chosen = chosen} {A = A} (stop y! lt hd np f be) =
      let d = of_fits (form_of G.rules (chosen A)) (q.given.admitted.single (chosen A) lt) f in
      (_, use-rule (chosen A) lt hd d.1 done)
  chain_some {chosen = chosen} {A = A} (more B y! lt hd is be c) =
      let d = chain_some c in
      let d2 : D (form_of G.rules (chosen A)) (tree here.l here.ops none) d.0 = rw is d.1 in
      (_, use-rule (chosen A) lt hd d2 done)

  pub chain_derives : {s : ℕ} {chosen : ℕ → ℕ} {A k : ℕ} → Chain G T s chosen A k → DerivesAt G A T
  chain_derives {A = A} c = tree_at' A (chain_some c)

  -- a choice for a non-terminal that was not in the set leaves the others as they are
  chain_keep : {s : ℕ} {chosen chosen' : ℕ → ℕ} {A k : ℕ} (x s' : ℕ) → has s x ≡ false → Puts s x s' → ((B : ℕ) → (B ≡ x → ⊥) → chosen' B ≡ chosen B)
      → A < most_non_terminals → Chain G T s chosen A k → Chain G T s' chosen' A k
  chain_keep {s} x s' f p g = chain_as q.given.admitted
      (λ B l t. let ne : B ≡ x → ⊥ = λ e. true≢false (sym t ∙ ap (has s) e ∙ f) in (p.off B ne ∙ t, g B ne))

  -- how many rules the least list of a member may have, where s is known
  abbrev pub roomy : ℕ → ℕ
  roomy s = most_non_terminals * size (first 1 T) - most_non_terminals + cnt (has s) most_non_terminals

  -- every member of s has its choices and its rank
  abbrev pub Chosen : (row : List ℕ) (chosen : ℕ → ℕ) → ℕ → Type 0
  Chosen row chosen s = (A : ℕ) → A < most_non_terminals → has s A ≡ true
      → (k : ℕ) × Chain G T s chosen A k × (k ≤ cnt (has s) most_non_terminals) × Ranked G (tree (non_terminal A) none none) (first 1 T) (roomy s) (get_or row A 0)

  pub grows : (s r s' : ℕ) → r < length G.rules → has s (head_of G.rules r) ≡ false → Puts s (head_of G.rules r) s'
      → cnt (has s) most_non_terminals < cnt (has s') most_non_terminals
  grows s r s' h f p =
      cnt_grow (has s) (has s') most_non_terminals (head_of G.rules r) (λ j l t. p.off j (λ e. true≢false (sym t ∙ ap (has s) e ∙ f)) ∙ t)
      (q.given.admitted.low r h) f p.on

  -- what a rule with a price leads to
  pub record Leads (s r c : ℕ) : Type 0 where
    pub through : Through G (first 1 T) r (roomy s + 1) c
    pub applies : Applies G T s r
    pub fresh : has s (head_of G.rules r) ≡ false

  -- a whole list of the non-terminal of a rule
  whole : (r : ℕ) → r < length G.rules → (ds : List ℕ) → D (form_of G.rules r) (first 1 T) ds
      → D (tree (non_terminal (head_of G.rules r)) none none) (first 1 T) (r ∷ ds)
  whole r h ds d =
      let d2 : D (form_of G.rules r) (tree here.l here.ops none) ds = rw first_one at d in
      rw first_one (subst (λ (x : List ℕ). D (tree (non_terminal (head_of G.rules r)) none none) (tree here.l here.ops none) (r ∷ x)) (append-nil ds)
      (use-rule r h refl d2 done))

  -- at the end a list has at most 16 rules for each node of the tree
  pub full : (s : ℕ) → roomy s ≤ most_non_terminals * size (first 1 T)
  full s = omega (arith, tree_some q, cnt_le (has s) most_non_terminals)

  pub small_room : (s : ℕ) → roomy s ≤ 4096
  small_room s = omega (arith, tree_ends q, tree_some q, q.small, cnt_le (has s) most_non_terminals)

  module _ {costs row : List ℕ} {chosen : ℕ → ℕ} {s : ℕ} (pr : Priced rules forms body masks i (length rules / rule_width) costs)
      (me : Chosen row chosen s) where
    pub leads : (r c : ℕ) → r < length G.rules → Price rules forms costs row s r c → (c ≡ 0 → ⊥) → Leads s r c
    leads r c h (known t e) nz = absurd (nz e)
    leads r c h (not_yet f k n e) nz = absurd (nz e)
    leads r c h (plain f k e) nz =
        let np = no_chain_view q.given r h k in
        let m = pr.each r (omega (arith, rules_count q.given)) k in
        let t = m.sound (record { asks = q; is_rule = h; no_chain = np }) (λ z. nz (e ∙ z)) in
        let fi : Fits G (form_of G.rules r) T = first_fits (form_of G.rules r) (q.given.admitted.single r h) t.ds t.least.derivation in
        record {
          through = record { ds = t.ds; least = t.least; rank = e ∙ t.rank; few = omega (arith, t.few, tree_some q) };
          applies = no_chain np fi;
          fresh = ap (has s) (sym (head_is q.given r h)) ∙ f;
        }
    leads r c h (chained f k y! e) nz =
        let v = chain_view q.given r h k in
        let hb : has s v.B ≡ true = ap (has s) (sym v.value) ∙ y! in
        let o = (me v.B v.low hb).3 in
        let er : get_or row (value_at forms (start_at rules r)) 0 ≡ get_or row v.B 0 = ap (λ (x : ℕ). get_or row x 0) v.value in
        record {
          through = record {
            ds = o.ds;
            least = subst (λ (x : Forest Item). Least G x (first 1 T) o.ds) (sym v.is) o.least;
            rank = omega (arith, e, er, o.rank, rank_cons G r o.ds, weight_is q.given r h);
            few = omega (arith, o.few);
          };
          applies = chain v.B v.is hb;
          fresh = ap (has s) (sym (head_is q.given r h)) ∙ f;
        }

    -- a rule that can be used has a price
    pub offers : (r c : ℕ) → r < length G.rules → Price rules forms costs row s r c → has s (head_of G.rules r) ≡ false → Applies G T s r → c ≡ 0 → ⊥
    offers r c h (known t e) fr ap! z = true≢false (sym t ∙ ap (has s) (head_is q.given r h) ∙ fr)
    offers r c h (plain f k e) fr (chain B is y!) z = k (chain_code q.given r h B is)
    offers r c h (plain f k e) fr (no_chain np fi) z =
        (pr.each r (omega (arith, rules_count q.given)) k).complete (record { asks = q; is_rule = h; no_chain = np }) (sym e ∙ z) fi
    offers r c h (not_yet f k n e) fr (chain B is y!) z =
        let v = chain_view q.given r h k in
        let eB : v.B ≡ B = cc v.is in
        true≢false (sym y! ∙ ap (has s) (sym eB ∙ sym v.value) ∙ n)
    offers r c h (not_yet f k n e) fr (no_chain np fi) z = let v = chain_view q.given r h k in np v.B none none v.is
    offers r c h (chained f k y! e) fr ap! z = omega arith

    -- with no price left nothing can be added
    pub closed : (r : ℕ) → Chooses rules forms costs row s (length rules / rule_width) r 0 → Closed s
    closed r ch k h a = go (has s (head_of G.rules k)) refl
      where
        go : (b : Bool) → has s (head_of G.rules k) ≡ b → has s (head_of G.rules k) ≡ true
        go true e = e
        go false e =
            let o = ch.all k (omega (arith, rules_count q.given)) in
            absurd (offers k o.0 h o.1 e a (zero_of o.2))
          where
            zero_of : {x : ℕ} → Worse 0 r x k → x ≡ 0
            zero_of (nothing z) = z
            zero_of (dearer n l) = absurd (n refl)
            zero_of (later n z l) = absurd (n refl)

    module _ (r c : ℕ) (h : r < length G.rules) (ch : Chooses rules forms costs row s (length rules / rule_width) r c) (nz : c ≡ 0 → ⊥) where
      abbrev led : Leads s r c
      led = leads r c h (ch.is nz).1 nz

      -- the list that the chosen rule leads to goes before what any rule that can be used leads to
      offered : (k : ℕ) → k < length G.rules → has s (head_of G.rules k) ≡ false → Applies G T s k → (ds : List ℕ)
          → D (form_of G.rules k) (first 1 T) ds → First G (r ∷ led.through.ds) (k ∷ ds)
      offered k hk fr a ds d =
          let o = ch.all k (omega (arith, rules_count q.given)) in
          let nx = offers k o.0 hk o.1 fr a in
          let l = leads k o.0 hk o.1 nx in
          let small : roomy s + 1 < per_weight = omega (arith, small_room s) in
          first_trans G (better_first G led.through l.through small small nx o.2) (first_cons G k (l.through.least.least ds d))

      -- and before all lists of non-terminals that are not known
      below : {P : Forest Item} {U : Terms} {ds : List ℕ} → D P U ds → (A : ℕ) → P ≡ tree (non_terminal A) none none
          → U ≡ tree here.l here.ops none → has s A ≡ false → First G (r ∷ led.through.ds) ds
      below done A e u fr = let z : ◌≡◌ {A = ℕ} 0 1 = cc in absurd (omega arith)
      below (use-rule {A = A'} {ps = ps} {l = l'} {ts = ts} {us = us} {ds = ds} {es = es} k hk eA d d2) A e u fr =
          let eAA : A' ≡ A = cc in
          let eP : ps ≡ none = cc in
          let eU : us ≡ none = cc in
          let eu : tree l' ts none ≡ tree here.l here.ops none = cc in
          let d3 : D none none es = subst (λ (x : Terms). D none x es) eU (subst (λ (x : Forest Item). D x us es) eP d2) in
          let z : ds ++ es ≡ ds = ap (λ (x : List ℕ). ds ++ x) (empty G d3) ∙ append-nil ds in
          let dk : D (form_of G.rules k) (tree here.l here.ops none) ds = subst (λ (x : Terms). D (form_of G.rules k) x ds) eu d in
          subst (λ (x : List ℕ). First G (r ∷ led.through.ds) (k ∷ x)) (sym z)
          (go k hk (ap (has s) (eA ∙ eAA) ∙ fr) ds dk (kind (form_of G.rules k) (q.given.admitted.proper k hk) (q.given.admitted.single k hk))
          (λ B eB fB. below d B eB eu fB))
        where
          go : (k : ℕ) → k < length G.rules → has s (head_of G.rules k) ≡ false → (ds : List ℕ)
              → D (form_of G.rules k) (tree here.l here.ops none) ds → Kind (form_of G.rules k)
              → ((B : ℕ) → form_of G.rules k ≡ tree (non_terminal B) none none → has s B ≡ false → First G (r ∷ led.through.ds) ds)
              → First G (r ∷ led.through.ds) (k ∷ ds)
          go k hk fk ds dk (is_no_chain np) rec =
              offered k hk fk (no_chain np (to_fits (form_of G.rules k) (q.given.admitted.single k hk) ds dk)) ds (rw first_one dk)
          go k hk fk ds dk (is_chain B eB) rec = pick (has s B) refl
            where
              pick : (b : Bool) → has s B ≡ b → First G (r ∷ led.through.ds) (k ∷ ds)
              pick true t = offered k hk fk (chain B eB t) ds (rw first_one dk)
              pick false t = first_trans G (rec B eB t) (inr (before_more G k ds))
      below (leaf {i = o} a d) A e u fr = let z : o ≡ non_terminal A = cc in absurd (any_not_hole a A z)
      below (same e2 d d2) A e u fr = let z : ◌≡◌ {A = ℕ} 0 1 = cc in absurd (omega arith)

      -- so it is the least of its non-terminal
      pub chosen_least : Least G (tree (non_terminal (head_of G.rules r)) none none) (first 1 T) (r ∷ led.through.ds)
      chosen_least = record {
        derivation = whole r h led.through.ds led.through.least.derivation;
        least = λ es d. below d (head_of G.rules r) refl first_one led.fresh;
      }

      pub rank_small : c ≤ most
      rank_small =
          omega (arith, led.through.rank, led.through.few, small_room s, rank_bound G (light_all q.given.admitted) (r ∷ led.through.ds))

      module _ {s' : ℕ} (p : Puts s (head_of G.rules r) s') (lr : length row ≡ mark_width) {chosen' : ℕ → ℕ} (g : chosen' (head_of G.rules r) ≡ r)
          (others : (B : ℕ) → (B ≡ head_of G.rules r → ⊥) → chosen' B ≡ chosen B) where
        abbrev head : ℕ
        head = head_of G.rules r

        abbrev row' : List ℕ
        row' = set row (head_of G.rules r) c

        new_chain : Applies G T s r → (k : ℕ) × Chain G T s' chosen' head k × (k ≤ cnt (has s') most_non_terminals)
        new_chain a = go a
          where
            low_of : (B : ℕ) → form_of G.rules r ≡ tree (non_terminal B) none none → B < most_non_terminals
            low_of B is = low_proper B (subst (Proper most_non_terminals) is (q.given.admitted.proper r h))

            be : Best G T head r
            be = best G T head r led.through.ds led.through.least chosen_least

            go : Applies G T s r → (k : ℕ) × Chain G T s' chosen' head k × (k ≤ cnt (has s') most_non_terminals)
            go (chain B is y!) =
                let b = me B (low_of B is) y! in (
                  suc b.0,
                  more B p.on (rw g h) (ap (head_of G.rules) g) (ap (form_of G.rules) g ∙ is) (rw g be)
                      (chain_keep head s' led.fresh p others (low_of B is) b.1),
                  omega (arith, b.2, grows s r s' h led.fresh p),
                )
            go (no_chain np fi) =
                (1, stop p.on (rw g h) (ap (head_of G.rules) g) (rw g np) (rw g fi) (rw g be), omega (arith, grows s r s' h led.fresh p))

        new_rank : Ranked G (tree (non_terminal head) none none) (first 1 T) (roomy s') (get_or row' head 0)
        new_rank = record {
          ds = r ∷ led.through.ds;
          least = chosen_least;
          rank = get_or-set_same row head c 0 (omega (arith, lr, q.given.admitted.low r h)) ∙ led.through.rank;
          few = omega (arith, led.through.few, grows s r s' h led.fresh p);
        }

        pub chosen_step : Chosen row' chosen' s'
        chosen_step A l t = go (ℕ_discrete A head)
          where
            go : Dec (A ≡ head)
                → (k : ℕ) × Chain G T s' chosen' A k × (k ≤ cnt (has s') most_non_terminals)
                × Ranked G (tree (non_terminal A) none none) (first 1 T) (roomy s') (get_or row' A 0)
            go (yes e) = let n = new_chain led.applies in rw e (n.0, n.1, n.2, new_rank)
            go (no e) =
                let o = me A l (sym (p.off A e) ∙ t) in
                let m = o.3 in
                let gr = grows s r s' h led.fresh p in (
                  o.0,
                  chain_keep head s' led.fresh p others l o.1,
                  omega (arith, o.2, gr),
                  record { ds = m.ds; least = m.least; rank = get_or-set_other row head A c 0 e ∙ m.rank; few = omega (arith, m.few, gr) },
                )
