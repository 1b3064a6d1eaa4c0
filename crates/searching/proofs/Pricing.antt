-- What a rule that is no chain rule costs at a node: the loop that adds up the ranks of its non-terminals.
use mathlib.Core.Path.{◌≡◌, refl, sym, ap, ◌∙◌, subst}
use Prim.Native.Nat.{ℕ, ◌+◌, ◌*◌, ◌<◌, ◌≤◌}
use native.Mathlib.Omega.{arith}
use mathlib.Core.Bool.{Bool, true, false, not}
use mathlib.Core.List.{List, [], ◌∷◌, ◌++◌}
use lib.ListN.{length}
use borrow.Author.Tests.{not-true, not-false}
use Rattle.forest.specs.Forest.{none, tree}
use Rattle.terms.specs.code.Nodes.{code_at, size_at, value_at}
use Rattle.derivation.specs.Derivation.{non_terminal, weight_of, most_weight}
use Rattle.terms.specs.code.Codes.{non_terminal_kind}
use Rattle.derivation.proofs.Order.{light_all}
use Rattle.derivation.proofs.RuleRows.{rule-at}
use Rattle.searching.proofs.Rank.{rank_append, rank_bound, rank_cons, rank_none}
use Rattle.searching.proofs.RuleWalk.{end, end_is, fail_hole, fail_node, hole_late, hole_low, in_body, node_alike, room}
use Rattle.searching.proofs.Parts.{Parts, parts_end, parts_few, parts_hole, parts_node, parts_short, parts_start}
use Rattle.forest.specs.code.Cursors.{size, from, first}
use Rattle.derivation.specs.code.Rules.{start_at, weight_at}
use Rattle.derivation.specs.code.Masks.{has}
use Rattle.searching.specs.code.Masks.{mask_at, rank_at}
use Rattle.derivation.specs.code.Matching.{alike}
use Rattle.searching.specs.code.Matching.{AsksNoChain, Matched}
use Rattle.searching.specs.code.Ranks.{Ranked, most, rank_of, per_weight}
use Rattle.forest.specs.Limits.{most_non_terminals}

-- the ranks so far make the sum
pub record Walked {rules forms body masks : List ℕ} {i r : ℕ} (q : AsksNoChain rules forms body masks i r) (p j sum : ℕ) : Type 0 where
  pub ws : List ℕ
  pub parts : Parts q p j ws
  pub rank : sum ≡ rank_of q.asks.given.G (r ∷ ws)

-- the walk's invariant
pub record Inv (rules forms body masks : List ℕ) (i r stop p j sum : ℕ) : Type 0 where
  pub pre : AsksNoChain rules forms body masks i r
  pub stops : (q : AsksNoChain rules forms body masks i r) → stop ≡ end q
  pub known : (q : AsksNoChain rules forms body masks i r) → Walked q p j sum
  pub small : sum ≤ most

module _ {rules forms body masks : List ℕ} {i r : ℕ} where
  rank_small : (q : AsksNoChain rules forms body masks i r) {p j sum : ℕ} → Walked q p j sum → sum ≤ most
  rank_small q w =
      omega (arith, w.rank, rank_bound q.asks.given.G (light_all q.asks.given.admitted) (r ∷ w.ws), parts_short q w.parts)

  weight_here : (q : AsksNoChain rules forms body masks i r) → weight_at rules r ≡ weight_of q.asks.given.G.rules r
  weight_here q = (rule-at q.asks.given.G.rules q.asks.given.holds.is_rules r q.is_rule).weight

  pub weight_light : AsksNoChain rules forms body masks i r → {x : ℕ} → x ≡ weight_at rules r → x ≤ most_weight
  weight_light q e = omega (arith, e, weight_here q, light_all q.asks.given.admitted r)

  pub inv_start : AsksNoChain rules forms body masks i r → (p n : ℕ) → p ≡ start_at rules r → n ≡ size_at forms p → {x : ℕ} → x ≡ weight_at rules r
      → Inv rules forms body masks i r (p + n) p i (per_weight * x + 1)
  inv_start q p n ep en {x} ex =
      let walked : (q2 : AsksNoChain rules forms body masks i r) → Walked q2 p i (per_weight * x + 1) = λ q2. record {
        ws = [];
        parts = subst (λ (y : ℕ). Parts q2 y i []) (sym ep) (parts_start q2);
        rank = omega (arith, ex, weight_here q2, rank_cons q2.asks.given.G r [], rank_none q2.asks.given.G);
      } in
      record {
        pre = q;
        stops = λ q2. omega (arith, end_is q2, en ∙ ap (size_at forms) ep);
        known = walked;
        small = rank_small q (walked q);
      }

  module _ {stop p j sum : ℕ} (v : Inv rules forms body masks i r stop p j sum) (h : p < stop) where
    within : (q : AsksNoChain rules forms body masks i r) → p < end q
    within q = omega (arith, v.stops q)

    pub turn_here : j + 1 ≤ length body
    turn_here = omega (arith, (room v.pre p j (v.known v.pre).parts.here (within v.pre)).in_body)

    pub turn_over : {n : ℕ} → n ≡ size_at body j → j + n ≤ length body
    turn_over en = omega (arith, en, (room v.pre p j (v.known v.pre).parts.here (within v.pre)).over)

    next : (n c : ℕ) → ((q : AsksNoChain rules forms body masks i r) → Walked q (p + 1) (j + n) (sum + c))
        → Inv rules forms body masks i r stop (p + 1) (j + n) (sum + c)
    next n c k = record { pre = v.pre; stops = v.stops; known = k; small = rank_small v.pre (k v.pre) }

    module _ {code : ℕ} (ec : code ≡ code_at forms p) where
      module _ (k : code ≡ non_terminal_kind) {x : ℕ} (ex : x ≡ value_at forms p) where
        pub turn_low : x < most_non_terminals
        turn_low = omega (arith, ex, hole_low v.pre p j (v.known v.pre).parts.here (within v.pre) (sym ec ∙ k))

        module _ {m : ℕ} (em : m ≡ mask_at masks j) {b : Bool} (eb : b ≡ has m x) where
          pub miss_hole : not b ≡ true → Matched rules forms body masks i r 0
          miss_hole y = record {
            sound = λ q e. absurd (e refl);
            complete = λ q e. fail_hole q p j (v.known q).parts.here (within q) (sym ec ∙ k) (cc (not-true b y));
            bound = omega arith;
          }

          module _ (y : not b ≡ false) where
            member : has (mask_at masks j) (value_at forms p) ≡ true
            member = cc (not-false b y)

            low_here : value_at forms p < most_non_terminals
            low_here = omega (arith, ex, turn_low)

            ranked : (q : AsksNoChain rules forms body masks i r)
                → Ranked q.asks.given.G (tree (non_terminal (value_at forms p)) none none) (first 1 (from q.asks.given.F j))
                (most_non_terminals * size (first 1 (from q.asks.given.F j))) (rank_at masks j (value_at forms p))
            ranked q =
                (q.asks.exact j (hole_late q p j (v.known q).parts.here (within q) (sym ec ∙ k)) (in_body q p j (v.known q).parts.here (within q))
                ).ranked (value_at forms p) low_here member

            walked_hole : (q : AsksNoChain rules forms body masks i r) → Walked q (p + 1) (j + size_at body j) (sum + rank_at masks j (value_at forms p))
            walked_hole q =
                let w = v.known q in
                let o = ranked q in
                record {
                  ws = w.ws ++ o.ds;
                  parts = parts_hole q w.parts (within q) (sym ec ∙ k) member o.ds o.least o.few;
                  rank = omega (
                    arith,
                    w.rank,
                    o.rank,
                    rank_cons q.asks.given.G r w.ws,
                    rank_cons q.asks.given.G r (w.ws ++ o.ds),
                    rank_append q.asks.given.G w.ws o.ds,
                  );
                }

            module _ {c : ℕ} (e2 : c ≡ rank_at masks j x) where
              rank_is : c ≡ rank_at masks j (value_at forms p)
              rank_is = e2 ∙ ap (rank_at masks j) ex

              pub turn_sum : sum + c ≤ most
              turn_sum = omega (arith, rank_is, rank_small v.pre (walked_hole v.pre))

              pub turn_hole : {n : ℕ} → n ≡ size_at body j → Inv rules forms body masks i r stop (p + 1) (j + n) (sum + c)
              turn_hole {n} en =
                  next n c
                  (λ q.
                  subst (λ (o : ℕ). Walked q (p + 1) (j + o) (sum + c)) (sym en)
                  (subst (λ (o : ℕ). Walked q (p + 1) (j + size_at body j) (sum + o)) (sym rank_is) (walked_hole q)))

      module _ (k : code ≡ non_terminal_kind → ⊥) {b : Bool} (eb : b ≡ alike forms p body j) where
        pub turn_node : not b ≡ false → Inv rules forms body masks i r stop (p + 1) (j + 1) sum
        turn_node y = record {
          pre = v.pre;
          stops = v.stops;
          known = λ q.
              let w = v.known q in
              let z = node_alike q p j w.parts.here (within q) (λ e. k (ec ∙ e)) (sym eb ∙ not-false b y) in
              record {
                ws = w.ws;
                parts =
                    parts_node q w.parts (within q) z.l z.ps z.qs z.m z.ts z.us z.is z.at z.not_hole z.alike z.counts;
                rank = w.rank;
              };
          small = v.small;
        }

        pub miss_node : not b ≡ true → Matched rules forms body masks i r 0
        miss_node y = record {
          sound = λ q e. absurd (e refl);
          complete = λ q e. fail_node q p j (v.known q).parts.here (within q) (λ e2. k (ec ∙ e2)) (sym eb ∙ not-true b y);
          bound = omega arith;
        }

  pub turn_end : {stop p j sum : ℕ} → Inv rules forms body masks i r stop p j sum → stop ≤ p → Matched rules forms body masks i r sum
  turn_end {p = p} v h = record {
    sound = λ q e.
        let w = v.known q in
        let l : end q ≤ p = omega (arith, v.stops q) in
        record { ds = w.ws; least = parts_end q w.parts l; rank = w.rank; few = omega (arith, parts_few q w.parts l) };
    complete = λ q e. absurd (omega (arith, (v.known q).rank));
    bound = v.small;
  }
