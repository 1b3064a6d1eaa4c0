-- Which rules can be used at a node: the prices of the rules, and the search for the least.
use mathlib.Core.Path.{◌≡◌, sym, ap, ◌∙◌, subst, refl}
use mathlib.Core.Logic.{◌⊎◌, inl, inr}
use Prim.Native.Nat.{ℕ, ◌+◌, ◌*◌, ◌/◌, ◌<◌, ◌≤◌}
use native.Mathlib.Omega.{arith}
use native.Mathlib.Decide.{ℕ_discrete, dec_lt}
use mathlib.Core.Bool.{Bool, true, false, true≢false, not, ◌&&◌, ◌||◌}
use mathlib.Core.List.{List}
use lib.Dec.{eqb, ltb}
use borrow.Author.Tests.{eq-eqb, eqb-true, lt-ltb, ltb-true, not-false, not-true}
use lib.ListN.{length, get_or, set, take, length-set}
use lib.Seq.{get_or-set_same, get_or-set_other, get_or-take, length-take-le}
use Rattle.terms.specs.code.Nodes.{code_at, value_at}
use Rattle.derivation.proofs.PassedTests.{and_both, and-true, or_first, or_second, or-true}
use Rattle.derivation.specs.Derivation.{most_weight}
use Rattle.terms.specs.code.Codes.{non_terminal_kind}
use Rattle.searching.specs.code.Search.{Asks}
use Rattle.derivation.proofs.RuleFirst.{chain_view, head_low, no_chain_view, rules_count, weight_is}
use Rattle.forest.specs.Limits.{most_non_terminals, most_rules}
use Rattle.derivation.specs.code.Masks.{has}
use Rattle.derivation.specs.code.Rules.{non_terminal_at, rule_width, start_at, weight_at}
use Rattle.searching.specs.code.Filling.{Chooses, IsChain, Live, Price, Priced, Prices, Worse, chained, known, not_yet, plain, dearer, later, nothing}
use Rattle.searching.specs.code.Matching.{AsksNoChain, Matched}
use Rattle.searching.specs.code.Ranks.{most, per_weight}

module _ {rules forms body masks : List ℕ} {i : ℕ} where
  pub asks_no_chain : (q : Asks rules forms body masks i) (r : ℕ) → r < length q.given.G.rules → (IsChain rules forms r → ⊥)
      → AsksNoChain rules forms body masks i r
  asks_no_chain q r h k = record { asks = q; is_rule = h; no_chain = no_chain_view q.given r h k }

  -- what prices are made of
  pub prices_of : Asks rules forms body masks i → {row : List ℕ} → ((A : ℕ) → get_or row A 0 ≤ most) → Prices rules forms row
  prices_of q {row} f = record {
    heads = λ r l. head_low q.given r (is_rule r l);
    ends = λ r l k. let v = chain_view q.given r (is_rule r l) k in omega (arith, v.low, v.value);
    light = λ r l. omega (arith, weight_is q.given r (is_rule r l), q.given.admitted.light r (is_rule r l));
    small = f;
  }
    where
      is_rule : (r : ℕ) → r < length rules / rule_width → r < length q.given.G.rules
      is_rule r l = omega (arith, rules_count q.given)

-- the rules that can add something: one more, one that adds nothing, and the front of the table as a list of its own

module _ {rules forms costs : List ℕ} {n : ℕ} {live : List ℕ} {m : ℕ} (v : Live rules forms costs n live m) where
  live_costs : {costs' : List ℕ} → ((k : ℕ) → k < n → get_or costs' k 0 ≡ get_or costs k 0) → Live rules forms costs' n live m
  live_costs {costs'} f = record { few = v.few; below = v.below; rising = v.rising; rest = λ r l. go r l (v.rest r l) }
    where
      go : (r : ℕ) → r < n → ((k : ℕ) × (k < m) × (get_or live k 0 ≡ r)) ⊎ ((IsChain rules forms r → ⊥) × (get_or costs r 0 ≡ 0))
          → ((k : ℕ) × (k < m) × (get_or live k 0 ≡ r)) ⊎ ((IsChain rules forms r → ⊥) × (get_or costs' r 0 ≡ 0))
      go r l (inl w) = inl w
      go r l (inr w) = inr (w.0, f r l ∙ w.1)

  live_put : m < length live → Live rules forms costs (n + 1) (set live m n) (m + 1)
  live_put h = record {
    few = omega (arith, v.few);
    below = λ k l. below k l (ℕ_discrete k m);
    rising = λ j k o l. rising j k o l (ℕ_discrete k m);
    rest = λ r l. rest r l (ℕ_discrete r n);
  }
    where
      here : get_or (set live m n) m 0 ≡ n
      here = get_or-set_same live m n 0 h

      there : (k : ℕ) → (k ≡ m → ⊥) → get_or (set live m n) k 0 ≡ get_or live k 0
      there k ne = get_or-set_other live m k n 0 ne

      below : (k : ℕ) → k < m + 1 → Dec (k ≡ m) → get_or (set live m n) k 0 < n + 1
      below k l (yes e) = rw (e, here) (omega arith)
      below k l (no e) = omega (arith, there k e, v.below k (omega arith))

      rising : (j k : ℕ) → j < k → k < m + 1 → Dec (k ≡ m) → get_or (set live m n) j 0 < get_or (set live m n) k 0
      rising j k o l (yes e) = rw (e, here) (omega (arith, there j (λ z. omega arith), v.below j (omega arith)))
      rising j k o l (no e) = omega (arith, there j (λ z. omega arith), there k e, v.rising j k o (omega arith))

      rest : (r : ℕ) → r < n + 1 → Dec (r ≡ n)
          → ((k : ℕ) × (k < m + 1) × (get_or (set live m n) k 0 ≡ r)) ⊎ ((IsChain rules forms r → ⊥) × (get_or costs r 0 ≡ 0))
      rest r l (yes e) = inl (m, omega arith, here ∙ sym e)
      rest r l (no e) = go (v.rest r (omega arith))
        where
          go : ((k : ℕ) × (k < m) × (get_or live k 0 ≡ r)) ⊎ ((IsChain rules forms r → ⊥) × (get_or costs r 0 ≡ 0))
              → ((k : ℕ) × (k < m + 1) × (get_or (set live m n) k 0 ≡ r)) ⊎ ((IsChain rules forms r → ⊥) × (get_or costs r 0 ≡ 0))
          go (inl w) = inl (w.0, omega (arith, w.1), there w.0 (λ z. omega (arith, w.1)) ∙ w.2)
          go (inr w) = inr w

  live_leave : (IsChain rules forms n → ⊥) → get_or costs n 0 ≡ 0 → Live rules forms costs (n + 1) live m
  live_leave ne z = record {
    few = omega (arith, v.few);
    below = λ k l. omega (arith, v.below k l);
    rising = v.rising;
    rest = λ r l. go r l (ℕ_discrete r n);
  }
    where
      go : (r : ℕ) → r < n + 1 → Dec (r ≡ n) → ((k : ℕ) × (k < m) × (get_or live k 0 ≡ r)) ⊎ ((IsChain rules forms r → ⊥) × (get_or costs r 0 ≡ 0))
      go r l (yes e) = rw e (inr (ne, z))
      go r l (no e) = v.rest r (omega arith)

  pub live_take : m ≤ length live → Live rules forms costs n (take m live) (length (take m live))
  live_take h = subst (Live rules forms costs n (take m live)) (sym (length-take-le m live h)) (record {
    few = v.few;
    below = λ k l. rw (same k l) (v.below k l);
    rising = λ j k o l. rw (same j (omega arith), same k l) (v.rising j k o l);
    rest = λ r l. go r (v.rest r l);
  })
    where
      same : (k : ℕ) → k < m → get_or (take m live) k 0 ≡ get_or live k 0
      same k l = get_or-take m live k 0 l

      go : (r : ℕ) → ((k : ℕ) × (k < m) × (get_or live k 0 ≡ r)) ⊎ ((IsChain rules forms r → ⊥) × (get_or costs r 0 ≡ 0))
          → ((k : ℕ) × (k < m) × (get_or (take m live) k 0 ≡ r)) ⊎ ((IsChain rules forms r → ⊥) × (get_or costs r 0 ≡ 0))
      go r (inl w) = inl (w.0, w.1, same w.0 w.1 ∙ w.2)
      go r (inr w) = inr w

-- the pricing of the rules
pub record Inv (rules forms body masks : List ℕ) (i n : ℕ) (costs live : List ℕ) (m r : ℕ) : Type 0 where
  pub asks : Asks rules forms body masks i
  pub all : n ≡ length rules / rule_width
  pub bound : r ≤ n
  pub few : n ≤ most_rules
  pub long : length costs ≡ most_rules
  pub roomy : length live ≡ most_rules
  pub behind : m ≤ r
  pub priced : Priced rules forms body masks i r costs
  pub held : Live rules forms costs r live m

module _ {rules forms body masks : List ℕ} {i : ℕ} where
  pub price_start : {costs live : List ℕ} → Asks rules forms body masks i × (length costs ≡ most_rules) × (length live ≡ most_rules) → {n : ℕ}
      → n ≡ length rules / rule_width → Inv rules forms body masks i n costs live 0 0
  price_start q e = record {
    asks = q.0;
    all = e;
    bound = omega arith;
    few = omega (arith, e, rules_count q.0.given, q.0.given.admitted.few);
    long = q.1;
    roomy = q.2;
    behind = omega arith;
    priced = record { long = q.1; each = λ r l. absurd (omega arith) };
    held = record {
      few = omega arith;
      below = λ k l. absurd (omega arith);
      rising = λ j k o l. absurd (omega arith);
      rest = λ r l. absurd (omega arith);
    };
  }

  module _ {n : ℕ} {costs live : List ℕ} {m r : ℕ} (v : Inv rules forms body masks i n costs live m r) where
    module _ (h : r < n) {start code : ℕ} (es : start ≡ start_at rules r) (ec : code ≡ code_at forms start) where
      code_is : code ≡ code_at forms (start_at rules r)
      code_is = ec ∙ ap (code_at forms) es

      next : (costs' live' : List ℕ) (m' : ℕ) → length costs' ≡ most_rules → length live' ≡ most_rules → m' ≤ r + 1
          → ((k : ℕ) → k < r → get_or costs' k 0 ≡ get_or costs k 0)
          → ((IsChain rules forms r → ⊥) → Matched rules forms body masks i r (get_or costs' r 0)) → Live rules forms costs' (r + 1) live' m'
          → Inv rules forms body masks i n costs' live' m' (r + 1)
      next costs' live' m' l l2 b f g w = record {
        asks = v.asks;
        all = v.all;
        bound = omega arith;
        few = v.few;
        long = l;
        roomy = l2;
        behind = b;
        priced = record { long = l; each = λ k o ne. go k o ne (ℕ_discrete k r) };
        held = w;
      }
        where
          go : (k : ℕ) → k < r + 1 → (IsChain rules forms k → ⊥) → Dec (k ≡ r) → Matched rules forms body masks i k (get_or costs' k 0)
          go k o ne (yes e) = subst (λ (x : ℕ). Matched rules forms body masks i x (get_or costs' x 0)) (sym e) (g (λ c. ne (rw e c)))
          go k o ne (no e) = let l2 : k < r = omega arith in rw (f k l2) (v.priced.each k l2 ne)

      space : m < length live
      space = omega (arith, v.behind, v.few, v.roomy)

      pub price_chain : code ≡ non_terminal_kind → Inv rules forms body masks i n costs (set live m r) (m + 1) (r + 1)
      price_chain k =
          next costs (set live m r) (m + 1) v.long (length-set live m r ∙ v.roomy) (omega (arith, v.behind)) (λ o l. refl)
          (λ ne. absurd (ne (sym code_is ∙ k))) (live_put v.held space)

      module _ (k : code ≡ non_terminal_kind → ⊥) where
        pub price_asks : AsksNoChain rules forms body masks i r
        price_asks = asks_no_chain v.asks r (omega (arith, v.all, rules_count v.asks.given)) (λ e. k (code_is ∙ e))

        module _ {c : ℕ} (t : Matched rules forms body masks i r c) where
          here : get_or (set costs r c) r 0 ≡ c
          here = get_or-set_same costs r c 0 (omega (arith, v.long, v.few))

          there : (o : ℕ) → o < r → get_or (set costs r c) o 0 ≡ get_or costs o 0
          there o l = get_or-set_other costs r o c 0 (λ e. omega arith)

          plain_next : (live' : List ℕ) (m' : ℕ) → length live' ≡ most_rules → m' ≤ r + 1 → Live rules forms (set costs r c) (r + 1) live' m'
              → Inv rules forms body masks i n (set costs r c) live' m' (r + 1)
          plain_next live' m' l b w = next (set costs r c) live' m' (length-set costs r c ∙ v.long) l b there (λ ne. rw here t) w

          pub price_plain : Inv rules forms body masks i n (set costs r c) (set live m r) (m + 1) (r + 1)
          price_plain =
              plain_next (set live m r) (m + 1) (length-set live m r ∙ v.roomy) (omega (arith, v.behind)) (live_put (live_costs v.held there) space)

          pub price_nothing : c ≡ 0 → Inv rules forms body masks i n (set costs r c) live m (r + 1)
          price_nothing z =
              plain_next live m v.roomy (omega (arith, v.behind))
              (live_leave (live_costs v.held there) (λ e. k (code_is ∙ e)) (here ∙ z))

-- the search for the least price

better_yes : (x c : ℕ) → (not (eqb x 0) && (eqb c 0 || ltb x c)) ≡ true → (x ≡ 0 → ⊥) × ((c ≡ 0) ⊎ (x < c))
better_yes x c e =
    let p = and-true (not (eqb x 0)) (eqb c 0 || ltb x c) e in
    ((λ z. true≢false (sym p.0 ∙ ap not (eq-eqb x 0 z))), go (or-true (eqb c 0) (ltb x c) p.1))
  where
    go : (eqb c 0 ≡ true) ⊎ (ltb x c ≡ true) → (c ≡ 0) ⊎ (x < c)
    go (inl t) = inl (eqb-true c 0 t)
    go (inr t) = inr (ltb-true x c t)

better_no : (x c : ℕ) → (not (eqb x 0) && (eqb c 0 || ltb x c)) ≡ false → (x ≡ 0 → ⊥) → (c ≡ 0 → ⊥) × (c ≤ x)
better_no x c e nx = ((λ z. not_this (or_first (eqb c 0) (ltb x c) (eq-eqb c 0 z))), go (dec_lt x c))
  where
    some : not (eqb x 0) ≡ true
    some = go2 (eqb x 0) (λ t. nx (eqb-true x 0 t))
      where
        go2 : (b : Bool) → (b ≡ true → ⊥) → not b ≡ true
        go2 true f = absurd (f refl)
        go2 false f = refl

    not_this : eqb c 0 || ltb x c ≡ true → ⊥
    not_this t = true≢false (sym (and_both some t) ∙ e)

    go : Dec (x < c) → c ≤ x
    go (yes l) = absurd (not_this (or_second (eqb c 0) (ltb x c) (lt-ltb x c l)))
    go (no l) = omega arith

-- a rule that is no chain rule and has no price adds nothing
no_price : {rules forms costs row : List ℕ} {s : ℕ} (r : ℕ) → (IsChain rules forms r → ⊥) → get_or costs r 0 ≡ 0 → Price rules forms costs row s r 0
no_price {rules} {forms} {costs} {row} {s} r ne z = go (has s (non_terminal_at rules r)) refl
  where
    go : (b : Bool) → has s (non_terminal_at rules r) ≡ b → Price rules forms costs row s r 0
    go true e = known e refl
    go false e = plain e ne (sym z)

-- the first i rules of the list have been looked at: the best yet is before those that follow
pub record Search (rules forms costs live row : List ℕ) (s best least i : ℕ) : Type 0 where
  pub prices : Prices rules forms row
  pub held : Live rules forms costs (length rules / rule_width) live (length live)
  pub bound : i ≤ length live
  pub is : (least ≡ 0 → ⊥) → (best < length rules / rule_width) × Price rules forms costs row s best least
  pub all : (k : ℕ) → k < i → (x : ℕ) × Price rules forms costs row s (get_or live k 0) x × Worse least best x (get_or live k 0)
  pub before : (least ≡ 0 → ⊥) → (k : ℕ) → i ≤ k → k < length live → best < get_or live k 0

module _ {rules forms costs live row : List ℕ} {s : ℕ} where
  module _ {best least i : ℕ} (v : Search rules forms costs live row s best least i) where
    pub search_end : length live ≤ i → Chooses rules forms costs row s (length rules / rule_width) best least
    search_end h = record { is = v.is; all = λ r l. go r (v.held.rest r l) }
      where
        go : (r : ℕ) → ((k : ℕ) × (k < length live) × (get_or live k 0 ≡ r)) ⊎ ((IsChain rules forms r → ⊥) × (get_or costs r 0 ≡ 0))
            → (x : ℕ) × Price rules forms costs row s r x × Worse least best x r
        go r (inl w) =
            subst (λ (y : ℕ). (x : ℕ) × Price rules forms costs row s y x × Worse least best x y) w.2 (v.all w.0 (omega (arith, w.1)))
        go r (inr w) = (0, no_price r w.0 w.1, nothing refl)

    -- none has a price
    pub search_none : length live ≤ i → least ≡ 0 → (k : ℕ) → k < length rules / rule_width → Price rules forms costs row s k 0
    search_none h z k l = let o = (search_end h).all k l in rw (priceless o.2) at o.1
      where
        priceless : {x : ℕ} → Worse least best x k → x ≡ 0
        priceless (nothing e) = e
        priceless (dearer nc o) = absurd (nc z)
        priceless (later nc e o) = absurd (nc z)

    module _ (h : i < length live) where
      pub search_rule : get_or live i 0 < length rules / rule_width
      search_rule = v.held.below i h

      module _ {x : ℕ} (px : Price rules forms costs row s (get_or live i 0) x) {b : Bool} (eb : b ≡ (not (eqb x 0) && (eqb least 0 || ltb x least))) where
        pub search_better : b ≡ true → Search rules forms costs live row s (get_or live i 0) x (i + 1)
        search_better y = record {
          prices = v.prices;
          held = v.held;
          bound = omega arith;
          is = λ z. (search_rule, px);
          all = λ k l. go k l (ℕ_discrete k i);
          before = λ z k l l2. v.held.rising i k (omega arith) l2;
        }
          where
            t : (x ≡ 0 → ⊥) × ((least ≡ 0) ⊎ (x < least))
            t = better_yes x least (sym eb ∙ y)

            worse : (k z : ℕ) → ((least ≡ 0) ⊎ (x < least)) → Worse least best z k → Worse x (get_or live i 0) z k
            worse k z w (nothing e) = nothing e
            worse k z (inl e) (dearer nc l) = absurd (nc e)
            worse k z (inr o) (dearer nc l) = dearer t.0 (omega arith)
            worse k z (inl e) (later nc q l) = absurd (nc e)
            worse k z (inr o) (later nc q l) = dearer t.0 (omega arith)

            go : (k : ℕ) → k < i + 1 → Dec (k ≡ i) → (z : ℕ) × Price rules forms costs row s (get_or live k 0) z × Worse x (get_or live i 0) z (get_or live k 0)
            go k l (yes e) = rw e (x, px, later t.0 refl (omega arith))
            go k l (no e) = let o = v.all k (omega arith) in (o.0, o.1, worse (get_or live k 0) o.0 t.1 o.2)

        pub search_not : b ≡ false → Search rules forms costs live row s best least (i + 1)
        search_not y = record {
          prices = v.prices;
          held = v.held;
          bound = omega arith;
          is = v.is;
          all = λ k l. go k l (ℕ_discrete k i);
          before = λ z k l l2. v.before z k (omega arith) l2;
        }
          where
            t : (x ≡ 0 → ⊥) → (least ≡ 0 → ⊥) × (least ≤ x)
            t = better_no x least (sym eb ∙ y)

            here : Dec (x ≡ 0) → Dec (least ≡ x) → Worse least best x (get_or live i 0)
            here (yes e) d = nothing e
            here (no e) (yes d) = later (t e).0 d (omega (arith, v.before (t e).0 i (omega arith) h))
            here (no e) (no d) = dearer (t e).0 (omega (arith, (t e).1))

            go : (k : ℕ) → k < i + 1 → Dec (k ≡ i) → (z : ℕ) × Price rules forms costs row s (get_or live k 0) z × Worse least best z (get_or live k 0)
            go k l (yes e) = rw e (x, px, here (ℕ_discrete x 0) (ℕ_discrete least x))
            go k l (no e) = v.all k (omega arith)

-- what the code of `price` comes to

module _ {rules forms row : List ℕ} {r : ℕ} (p : Prices rules forms row × (r < length rules / rule_width)) where
  pub price_low : {a : ℕ} → a ≡ non_terminal_at rules r → a < most_non_terminals
  price_low ea = omega (arith, ea, p.0.heads r p.1)

  pub price_light : {w : ℕ} → w ≡ weight_at rules r → w ≤ most_weight
  price_light ew = omega (arith, ew, p.0.light r p.1)

  pub price_small : (x : ℕ) → {v : ℕ} → v ≡ get_or row x 0 → v ≤ most
  price_small x ev = omega (arith, ev, p.0.small x)

  pub price_end_low : {start code : ℕ} → start ≡ start_at rules r → code ≡ code_at forms start → code ≡ non_terminal_kind → {x : ℕ} → x ≡ value_at forms start
      → x < most_non_terminals
  price_end_low es ec k ex =
      omega (arith, ex ∙ ap (value_at forms) es, p.0.ends r p.1 (ap (code_at forms) (sym es) ∙ sym ec ∙ k))

module _ {rules forms costs row : List ℕ} {s r a : ℕ} (ea : a ≡ non_terminal_at rules r) {b : Bool} (eb : b ≡ has s a) where
  pub price_known : b ≡ true → Price rules forms costs row s r 0
  price_known y = known (ap (has s) (sym ea) ∙ sym eb ∙ y) refl

  module _ (n : b ≡ false) {start code : ℕ} (es : start ≡ start_at rules r) (ec : code ≡ code_at forms start) where
    pub price_of_plain : (code ≡ non_terminal_kind → ⊥) → {c : ℕ} → c ≡ get_or costs r 0 → Price rules forms costs row s r c
    price_of_plain k e = plain (ap (has s) (sym ea) ∙ sym eb ∙ n) (λ z. k (ec ∙ ap (code_at forms) es ∙ z)) e

    module _ (k : code ≡ non_terminal_kind) {x : ℕ} (ex : x ≡ value_at forms start) {d : Bool} (ed : d ≡ has s x) where
      pub price_not_yet : not d ≡ true → Price rules forms costs row s r 0
      price_not_yet y =
          not_yet (ap (has s) (sym ea) ∙ sym eb ∙ n) (ap (code_at forms) (sym es) ∙ sym ec ∙ k)
          (ap (has s) (sym (ex ∙ ap (value_at forms) es)) ∙ sym ed ∙ not-true d y) refl

      pub price_sum : not d ≡ false → {w : ℕ} → w ≡ weight_at rules r → {v : ℕ} → v ≡ get_or row x 0 → Price rules forms costs row s r (per_weight * w + 1 + v)
      price_sum y ew ev =
          chained (ap (has s) (sym ea) ∙ sym eb ∙ n) (ap (code_at forms) (sym es) ∙ sym ec ∙ k)
          (ap (has s) (sym (ex ∙ ap (value_at forms) es)) ∙ sym ed ∙ not-false d y)
          (omega (arith, ew, ev, ap (λ (o : ℕ). get_or row o 0) (ex ∙ ap (value_at forms) es)))
