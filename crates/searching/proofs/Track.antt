-- The writing of what the non-terminals of a rule derive: the walk of the rule over the body once more, with the list that is written.
use mathlib.Core.Path.{◌≡◌, refl, sym, ap, ◌∙◌, subst}
use Prim.Native.Nat.{ℕ, suc, ◌+◌, ◌<◌, ◌≤◌}
use native.Mathlib.Nat.{add-zero}
use native.Mathlib.Omega.{arith}
use mathlib.Core.Bool.{true}
use mathlib.Core.List.{List, [], ◌++◌, append_assoc, append-nil}
use lib.ListN.{length, length-append}
use lib.Seq.{sets, length-sets}
use Rattle.forest.specs.Forest.{Forest, none, tree, count, join}
use Rattle.terms.specs.Labels.{Terms}
use Rattle.terms.specs.code.Nodes.{code_at, size_at, value_at}
use Rattle.forest.proofs.Laws.{Tree, from_one, from_over, size_zero}
use Rattle.derivation.specs.Derivation.{Item, non_terminal, form_of, Simple, s_done, Grammar}
use Rattle.terms.specs.code.Codes.{non_terminal_kind}
use Rattle.derivation.specs.code.Forms.{Fits, DerivesAt}
use Rattle.searching.specs.code.Search.{Asks}
use Rattle.derivation.proofs.Meta.{fits_hole_to, fits_node_to}
use Rattle.derivation.proofs.Simple.{simples, walk_hole}
use Rattle.derivation.proofs.Splits.{over_first}
use Rattle.derivation.proofs.Likeness.{proper_bare}
use Rattle.searching.proofs.RuleWalk.{end, end_is, at_start, step_hole, step_alike, HoleAt, hole_view, hole_late, hole_low, not_hole, rule_tree, body_tree}
use Rattle.searching.proofs.RuleWalk.{in_body, node_says, Room, room}
use Rattle.searching.proofs.Parts.{Parts, parts_end, parts_few, parts_hole, parts_node, parts_start, size_first, size_one}
use Rattle.forest.specs.code.Cursors.{size, from, first}
use Rattle.derivation.specs.code.Admitted.{Proper}
use Rattle.derivation.specs.code.Masks.{has}
use Rattle.searching.specs.code.Masks.{mask_at}
use Rattle.derivation.specs.code.Rules.{start_at}
use Rattle.searching.specs.code.Showing.{EmitPre, EmitPost, SpreadPre, SpreadPost}
use Rattle.searching.specs.code.Matching.{AsksNoChain}
use Rattle.forest.proofs.Rows.{sets_append}
use Rattle.forest.specs.Limits.{most_non_terminals}

module _ {rules forms body choices : List ℕ} {i r : ℕ} {shown₀ : List ℕ} {at₀ : ℕ} (e : SpreadPre rules forms body choices i r shown₀ at₀) where
  abbrev pub q : AsksNoChain rules forms body e.masks i r
  q = e.rule_asks

  abbrev pub G : Grammar
  G = q.asks.given.G

  abbrev pub F : Terms
  F = q.asks.given.F

  abbrev pub P : Forest Item
  P = form_of G.rules r

  abbrev pub D : Forest Item → Terms → List ℕ → Type 0
  D = Simple G []

  pub record Track (shown : List ℕ) (p j w : ℕ) : Type 0 where
    pub ws : List ℕ
    pub parts : Parts q p j ws
    pub wrote : shown ≡ sets shown₀ at₀ ws
    pub next : w ≡ at₀ + length ws
    pub back : (es : List ℕ) → D parts.here.left (first (count parts.here.left) (from F j)) es → D P (first 1 (from F i)) (ws ++ es)

  pub track_start : Track shown₀ (start_at rules r) i at₀
  unfolding parts_start at_start
  track_start = record {
    ws = [];
    parts = parts_start q;
    wrote = refl;
    next = sym (add-zero at₀);
    back = λ es d. rw (q.asks.given.admitted.single r q.is_rule) at d;
  }

  pub track_end : {shown : List ℕ} {p j w : ℕ} → Track shown p j w → end q ≤ p → SpreadPost rules forms body choices i r shown₀ at₀ e shown w
  unfolding first count
  track_end t h =
      let e0 : t.parts.here.left ≡ none = size_zero t.parts.here.left (omega (arith, t.parts.here.ends)) in
      let d : D P (first 1 (from F i)) (t.ws ++ []) = t.back [] (rw e0 s_done) in
      record {
        ds = t.ws;
        derivation = rw append-nil at d;
        least = parts_end q t.parts h;
        wrote = t.wrote;
        next = t.next;
        few = parts_few q t.parts h;
      }

  module _ {shown : List ℕ} {p j w : ℕ} (t : Track shown p j w) (h : p < end q) where
    pub same_length : length shown ≡ length shown₀
    same_length = ap length t.wrote ∙ length-sets shown₀ at₀ t.ws

    fit : Fits G t.parts.here.left (from F j)
    fit = t.parts.here.to e.fits

    abbrev tree_here : Tree (from F j)
    tree_here = body_tree q p j t.parts.here h

    abbrev view : code_at forms p ≡ non_terminal_kind → HoleAt q p j t.parts.here h
    view k = hole_view q p j t.parts.here h k

    pub hole_after : code_at forms p ≡ non_terminal_kind → i < j
    hole_after k = hole_late q p j t.parts.here h k

    derived : (k : code_at forms p ≡ non_terminal_kind) → DerivesAt G (view k).A (from F j)
    derived k = let v = view k in fits_hole_to G v.A v.qs (from F j) (rw v.is at fit)

    -- what a call for a non-terminal asks
    abbrev pub hole_asks : code_at forms p ≡ non_terminal_kind → Asks rules forms body e.masks j
    hole_asks k = record {
      given = q.asks.given;
      inside = in_body q p j t.parts.here h;
      small = q.asks.small;
      long = q.asks.long;
      exact = λ n l l2. q.asks.exact n (omega (arith, t.parts.here.past)) l2;
    }

    pub hole_pre : code_at forms p ≡ non_terminal_kind → EmitPre rules forms body choices j (value_at forms p) shown w
    hole_pre k =
        let v = view k in
        let s1 = size_first t.parts.here.left (from F j) v.is tree_here.is in
        let s2 = size_one (from F j) tree_here.is in
        record {
          masks = e.masks;
          asks = hole_asks k;
          all = e.all;
          held = e.held;
          low = hole_low q p j t.parts.here h k;
          derives = rw v.value (derived k);
          room = omega (arith, e.room, t.parts.few, t.parts.span, t.next, same_length, hole_after k);
        }

    pub track_hole : (k : code_at forms p ≡ non_terminal_kind) (shown' : List ℕ) (w' : ℕ)
        → EmitPost rules forms body choices j (value_at forms p) shown w (hole_pre k) shown' w' → Track shown' (p + 1) (j + size_at body j) w'
    unfolding join hole_pre first parts_hole step_hole
    track_hole k shown' w' x =
        let v = view k in
        let b = tree_here in
        let size-b : size_at body j ≡ suc (size b.ops) = (node_says q p j t.parts.here h b.l b.ops b.rest b.is).size in
        let eF : from F (j + size_at body j) ≡ b.rest = ap (λ (n : ℕ). from F (j + n)) size-b ∙ from_over F j b.l b.ops b.rest b.is in
        let y : has (mask_at e.masks j) (value_at forms p) ≡ true =
        ap (has (mask_at e.masks j)) v.value
        ∙ (q.asks.exact j (hole_after k) (in_body q p j t.parts.here h)).complete v.A v.low (derived k) in
        let d1 : D (tree (non_terminal v.A) none none) (tree b.l b.ops none) x.ds = rw (v.value, b.is) at x.derivation in
        record {
          ws = t.ws ++ x.ds;
          parts = parts_hole q t.parts h k y x.ds x.least x.few;
          wrote =
              x.wrote
              ∙ ap (λ (l : List ℕ). sets l w x.ds) t.wrote
              ∙ ap (λ (n : ℕ). sets (sets shown₀ at₀ t.ws) n x.ds) t.next
              ∙ sym (sets_append shown₀ at₀ t.ws x.ds);
          next = omega (arith, x.next, t.next, length-append t.ws x.ds);
          back = λ es d.
              let d2 : D v.qs (first (count v.qs) b.rest) es = rw eF at d in
              let d3 = walk_hole G v.A v.qs b.l b.ops b.rest x.ds es d1 d2 in
              rw append_assoc (t.back (x.ds ++ es) (rw (v.is, b.is) d3));
        }

    -- a node that is no non-terminal: nothing is written
    pub track_node : (code_at forms p ≡ non_terminal_kind → ⊥) → Track shown (p + 1) (j + 1) w
    unfolding parts_node step_alike
    track_node k =
        let l = rule_tree q p j t.parts.here h in
        let b = tree_here in
        let n = not_hole q p j t.parts.here h k in
        let f = fits_node_to G l.l l.ops l.rest b.l b.ops b.rest n (rw (l.is, b.is) at fit) in
        let eF1 = from_one F j b.l b.ops b.rest b.is in
        let bare = proper_bare most_non_terminals l.l l.ops l.rest (subst (Proper most_non_terminals) l.is t.parts.here.prop) in
        record {
          ws = t.ws;
          parts = parts_node q t.parts h l.l l.ops l.rest b.l b.ops b.rest l.is b.is n f.0 f.1;
          wrote = t.wrote;
          next = t.next;
          back = λ es d.
              t.back es
              (rw (l.is, b.is) (over_first (simples G) l.l b.l l.ops l.rest b.ops b.rest es f.0 bare f.1 (rw eF1 at d)));
        }

-- the loop's invariant
pub record Inv (rules forms body choices : List ℕ) (i r : ℕ) (shown₀ : List ℕ) (at₀ stop : ℕ) (shown : List ℕ) (p j w : ℕ) : Type 0 where
  pub pre : SpreadPre rules forms body choices i r shown₀ at₀
  pub stops : (e : SpreadPre rules forms body choices i r shown₀ at₀) → stop ≡ end e.rule_asks
  pub track : (e : SpreadPre rules forms body choices i r shown₀ at₀) → Track e shown p j w
  pub same_long : length shown ≡ length shown₀

module _ {rules forms body choices : List ℕ} {i r : ℕ} {shown₀ : List ℕ} {at₀ : ℕ} where
  pub spread_start : SpreadPre rules forms body choices i r shown₀ at₀ → (p n : ℕ) → p ≡ start_at rules r → n ≡ size_at forms p
      → Inv rules forms body choices i r shown₀ at₀ (p + n) shown₀ p i at₀
  spread_start e p n ep en = record {
    pre = e;
    stops = λ e2. omega (arith, end_is e2.rule_asks, en ∙ ap (size_at forms) ep);
    track = λ e2. subst (λ (x : ℕ). Track e2 shown₀ x i at₀) (sym ep) (track_start e2);
    same_long = refl;
  }

  module _ {stop : ℕ} {shown : List ℕ} {p j w : ℕ} (v : Inv rules forms body choices i r shown₀ at₀ stop shown p j w) where
    pub spread_end : stop ≤ p → (e : SpreadPre rules forms body choices i r shown₀ at₀) → SpreadPost rules forms body choices i r shown₀ at₀ e shown w
    spread_end h e = track_end e (v.track e) (omega (arith, v.stops e))

    module _ (h : p < stop) where
      pub within : (e : SpreadPre rules forms body choices i r shown₀ at₀) → p < end e.rule_asks
      within e = omega (arith, v.stops e)

      space : Room v.pre.rule_asks p j (v.track v.pre).parts.here (within v.pre)
      space = room v.pre.rule_asks p j (v.track v.pre).parts.here (within v.pre)

      pub spread_here : j + 1 ≤ length body
      spread_here = omega (arith, space.in_body)

      pub spread_over : {n : ℕ} → n ≡ size_at body j → j + n ≤ length body
      spread_over en = omega (arith, en, space.over)

      module _ {code : ℕ} (ec : code ≡ code_at forms p) where
        pub spread_node : (code ≡ non_terminal_kind → ⊥) → Inv rules forms body choices i r shown₀ at₀ stop shown (p + 1) (j + 1) w
        spread_node k =
            record { pre = v.pre; stops = v.stops; track = λ e. track_node e (v.track e) (within e) (λ x. k (ec ∙ x)); same_long = v.same_long }

        module _ (k : code ≡ non_terminal_kind) where
          pub spread_after : (i < j) × (j < length body)
          spread_after = (hole_after v.pre (v.track v.pre) (within v.pre) (sym ec ∙ k), omega (arith, space.in_body))

          module _ {x : ℕ} (ex : x ≡ value_at forms p) where
            asked : (e : SpreadPre rules forms body choices i r shown₀ at₀) → EmitPre rules forms body choices j (value_at forms p) shown w
            asked e = hole_pre e (v.track e) (within e) (sym ec ∙ k)

            pub spread_asks : EmitPre rules forms body choices j x shown w
            spread_asks = rw ex (asked v.pre)

            Gives : (shown' : List ℕ) (w' x : ℕ) → Type 0
            Gives shown' w' x = (e : EmitPre rules forms body choices j x shown w) → EmitPost rules forms body choices j x shown w e shown' w'

            pub spread_hole : {shown' : List ℕ} {w' : ℕ}
                → ((e : EmitPre rules forms body choices j x shown w) → EmitPost rules forms body choices j x shown w e shown' w') → {n : ℕ}
                → n ≡ size_at body j → length shown' ≡ length shown
                → Inv rules forms body choices i r shown₀ at₀ stop shown' (p + 1) (j + n) w'
            unfolding Gives asked
            spread_hole {shown'} {w'} post {n} en len =
                let g : Gives shown' w' (value_at forms p) = subst (Gives shown' w') ex post in
                record {
                  pre = v.pre;
                  stops = v.stops;
                  track = λ e.
                      subst (λ (y : ℕ). Track e shown' (p + 1) (j + y) w') (sym en)
                      (track_hole e (v.track e) (within e) (sym ec ∙ k) shown' w' (g (asked e)));
                  same_long = len ∙ v.same_long;
                }
