-- The walk of a rule over the body with the least lists of the non-terminals that it has passed.
use mathlib.Core.Path.{◌≡◌, ap, ◌∙◌, subst}
use Prim.Native.Nat.{ℕ, suc, ◌+◌, ◌-◌, ◌*◌, ◌<◌, ◌≤◌}
use native.Mathlib.Nat.{add-zero}
use native.Mathlib.Omega.{arith}
use mathlib.Core.Bool.{true}
use mathlib.Core.List.{List, [], ◌++◌, append_assoc, append-nil}
use lib.ListN.{length, length-append}
use Rattle.forest.specs.Forest.{Forest, none, tree, count, join}
use Rattle.terms.specs.Labels.{Label, Terms}
use Rattle.terms.specs.code.Nodes.{code_at, size_at, value_at}
use Rattle.forest.proofs.Laws.{count_join, first_join, from_one, from_over, size_from, size_join, size_tree, size_zero, tree_at}
use Rattle.derivation.specs.Derivation.{Item, non_terminal, form_of, Grammar}
use Rattle.derivation.specs.Least.{Least}
use Rattle.terms.specs.code.Codes.{non_terminal_kind}
use Rattle.searching.specs.code.Search.{Asks}
use Rattle.searching.proofs.LeastParts.{least_hole, least_node, least_none}
use Rattle.derivation.proofs.Likeness.{Alike, NotHole, proper_bare}
use Rattle.searching.proofs.RuleWalk.{At, end, at_start, step_hole, step_alike, hole_view, hole_late, body_tree, node_says}
use Rattle.forest.specs.code.Cursors.{size, from, first}
use Rattle.derivation.specs.code.Admitted.{Proper}
use Rattle.derivation.specs.code.Rules.{start_at}
use Rattle.derivation.specs.code.Masks.{has}
use Rattle.searching.specs.code.Masks.{mask_at}
use Rattle.searching.specs.code.Matching.{AsksNoChain}
use Rattle.forest.specs.Limits.{most_non_terminals}

pub size_first : {l : Item} {x qs : Forest Item} {s : Label} {ts us : Terms} (P : Forest Item) (B : Terms) → P ≡ tree l x qs → B ≡ tree s ts us
    → size (first (count P) B) ≡ suc (size ts + size (first (count qs) us))
unfolding first count size
size_first P B eP eF = rw (eP, eF)

pub size_one : {s : Label} {ts us : Terms} (B : Terms) → B ≡ tree s ts us → size (first 1 B) ≡ suc (size ts)
unfolding first size
size_one {ts = ts} B eF = ap (λ (x : Terms). size (first 1 x)) eF ∙ ap suc (add-zero (size ts))

module _ {rules forms body masks : List ℕ} {i : ℕ} (q : Asks rules forms body masks i) where
  -- the tree at node i ends within the body
  pub tree_ends : i + size (first 1 (from q.given.F i)) ≤ size q.given.F
  tree_ends =
      let t = tree_at q.given.F i q.inside in
      omega (arith, size_one (from q.given.F i) t.is, size_tree t, size_from q.given.F i, q.inside)

  -- and is no empty one
  pub tree_some : 1 ≤ size (first 1 (from q.given.F i))
  tree_some = let t = tree_at q.given.F i q.inside in omega (arith, size_one (from q.given.F i) t.is)

module _ {rules forms body masks : List ℕ} {i r : ℕ} (q : AsksNoChain rules forms body masks i r) where
  abbrev pub G : Grammar
  G = q.asks.given.G

  abbrev pub F : Terms
  F = q.asks.given.F

  abbrev pub P : Forest Item
  P = form_of G.rules r

  -- the least lists so far are ws: with the least list of what is left of the rule they make the rule's
  pub record Parts (p j : ℕ) (ws : List ℕ) : Type 0 where
    pub here : At q p j
    pub few : length ws + most_non_terminals ≤ most_non_terminals * (j - i) + most_non_terminals * (1 - (j - i))
    pub span : j + size (first (count here.left) (from F j)) ≡ i + size (first 1 (from F i))
    pub least : (es : List ℕ) → Least G here.left (first (count here.left) (from F j)) es → Least G P (first 1 (from F i)) (ws ++ es)

  unfoldable pub parts_start : Parts (start_at rules r) i []
  unfolding at_start
  parts_start = record {
    here = at_start q;
    few = omega arith;
    span = ap (λ (x : ℕ). i + size (first x (from F i))) (q.asks.given.admitted.single r q.is_rule);
    least = λ es d. rw (q.asks.given.admitted.single r q.is_rule) at d;
  }

  module _ {p j : ℕ} {ws : List ℕ} (t : Parts p j ws) where
    pub parts_end : end q ≤ p → Least G P (first 1 (from F i)) ws
    unfolding first count
    parts_end h =
        let e0 : t.here.left ≡ none = size_zero t.here.left (omega (arith, t.here.ends)) in
        let d : Least G P (first 1 (from F i)) (ws ++ []) = t.least [] (rw e0 (least_none G)) in
        rw append-nil at d

    pub parts_few : end q ≤ p → length ws + most_non_terminals ≤ most_non_terminals * size (first 1 (from F i))
    unfolding first count size
    parts_few h =
        let e0 : t.here.left ≡ none = size_zero t.here.left (omega (arith, t.here.ends)) in
        let z : size (first (count t.here.left) (from F j)) ≡ 0 = rw e0 in
        omega (arith, t.few, t.span, z, tree_some q.asks)

    -- there are at most 4,095 rules in them
    pub parts_short : length ws + 1 ≤ 4096
    parts_short = omega (arith, t.few, t.span, tree_ends q.asks, q.asks.small)

    module _ (h : p < end q) where
      unfoldable pub parts_hole : (k : code_at forms p ≡ non_terminal_kind) → has (mask_at masks j) (value_at forms p) ≡ true → (ds : List ℕ)
          → Least G (tree (non_terminal (value_at forms p)) none none) (first 1 (from F j)) ds → length ds ≤ most_non_terminals * size (first 1 (from F j))
          → Parts (p + 1) (j + size_at body j) (ws ++ ds)
      unfolding join first step_hole
      parts_hole k y ds m few =
          let v = hole_view q p j t.here h k in
          let b = body_tree q p j t.here h in
          let size-b : size_at body j ≡ suc (size b.ops) = (node_says q p j t.here h b.l b.ops b.rest b.is).size in
          let eF : from F (j + size_at body j) ≡ b.rest = ap (λ (n : ℕ). from F (j + n)) size-b ∙ from_over F j b.l b.ops b.rest b.is in
          let d1 : Least G (tree (non_terminal v.A) none none) (tree b.l b.ops none) ds = rw (v.value, b.is) at m in
          let s1 = size_first t.here.left (from F j) v.is b.is in
          let s2 = size_one (from F j) b.is in
          record {
            here = step_hole q p j t.here h k y;
            few = omega (arith, t.few, few, size-b, s2, hole_late q p j t.here h k, length-append ws ds);
            span = rw eF (omega (arith, t.span, s1, size-b));
            least = λ es d.
                let d2 : Least G v.qs (first (count v.qs) b.rest) es = rw eF at d in
                let d3 = least_hole G v.A v.qs b.l b.ops b.rest ds es d1 d2 in
                rw append_assoc (t.least (ds ++ es) (rw (v.is, b.is) d3));
          }

      -- a node that is no non-terminal adds nothing
      unfoldable pub parts_node : (l : Item) (ps qs : Forest Item) (m : Label) (ts us : Terms) → t.here.left ≡ tree l ps qs → from F j ≡ tree m ts us
          → NotHole l → Alike G.arguments l m → count ts ≡ count ps → Parts (p + 1) (j + 1) ws
      unfolding step_alike
      parts_node l ps qs m ts us eP eF n al ec =
          let eF1 = from_one F j m ts us eF in
          let s1 = size_first t.here.left (from F j) eP eF in
          let s2 : size (first (count (join ps qs)) (join ts us)) ≡ size ts + size (first (count qs) us) =
          rw (count_join, ← ec, first_join) (size_join ts (first (count qs) us)) in
          let bare = proper_bare most_non_terminals l ps qs (subst (Proper most_non_terminals) eP t.here.prop) in
          record {
            here = step_alike q p j t.here h l ps qs m ts us eP eF n al ec;
            few = omega (arith, t.few, t.here.past);
            span = rw eF1 (omega (arith, t.span, s1, s2));
            least = λ es d. t.least es (rw (eP, eF) (least_node G l m ps qs ts us es n al bare ec (rw eF1 at d)));
          }
