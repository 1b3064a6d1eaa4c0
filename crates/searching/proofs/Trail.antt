-- Following the choices at a place: what has been written, and what is left.
use Rattle.forest.specs.Limits.{most_non_terminals, most_rules}
use Rattle.forest.proofs.Rows.{sets_append}
use mathlib.Core.Path.{◌≡◌, refl, ap, ◌∙◌, subst}
use Prim.Native.Nat.{ℕ, suc, ◌+◌, ◌*◌, ◌<◌, ◌≤◌}
use native.Mathlib.Nat.{add-zero}
use native.Mathlib.Omega.{arith}
use mathlib.Core.List.{List, [], ◌∷◌, ◌++◌, append_assoc}
use lib.ListN.{length, set, length-append, length-set}
use lib.Seq.{sets, length-sets}
use Rattle.forest.specs.Forest.{Forest, none, tree}
use Rattle.forest.specs.code.Cursors.{from, first}
use Rattle.terms.specs.Labels.{Terms}
use Rattle.terms.specs.code.Nodes.{code_at, value_at}
use Rattle.derivation.specs.Derivation.{Item, non_terminal, head_of, form_of, Fresh, Simple, Grammar}
use Rattle.derivation.specs.Least.{Least}
use Rattle.terms.specs.code.Codes.{non_terminal_kind}
use Rattle.derivation.specs.code.Forms.{Fits}
use Rattle.searching.specs.code.Search.{Chain, stop, more, Best, choice_at}
use Rattle.derivation.proofs.Simple.{use_one, no_chain_any}
use Rattle.derivation.proofs.RuleFirst.{chain_view, no_chain_view}
use Rattle.searching.proofs.Closed.{here, first_one}
use Rattle.derivation.specs.code.Rules.{start_at}
use Rattle.searching.specs.code.Showing.{FollowPre, FollowPost}
use mathlib.Core.Path as path

module _ {rules forms choices : List ℕ} {i a : ℕ} {shown₀ : List ℕ} {at : ℕ} (f : FollowPre rules forms choices i a shown₀ at) where
  abbrev pub G : Grammar
  G = f.asks.given.G

  abbrev pub T : Terms
  T = from f.asks.given.F i

  abbrev pub Follows : ℕ → ℕ → Type 0
  Follows = Chain G T f.s (choice_at choices i)

  abbrev pub T1 : Terms
  T1 = first 1 T

  abbrev pub D : Forest Item → Terms → List ℕ → Type 0
  D = Simple G []

  -- each of the list has more rules to go than k
  pub data Above (k : ℕ) : List ℕ → Type 0 where
    no_one : Above k []
    and_one : {x : ℕ} {xs : List ℕ} (n : ℕ) → Follows x n → k < n → Above k xs → Above k (x ∷ xs)

  above_less : (k j : ℕ) → j < k → {xs : List ℕ} → Above k xs → Above j xs
  above_less k j l no_one = no_one
  above_less k j l (and_one n c h r) = and_one n c (omega arith) (above_less k j l r)

  chain_one : {x n k : ℕ} → Follows x n → Follows x k → n ≡ k
  chain_one (stop y! lt hd np fi be) (stop y2 lt2 hd2 np2 fi2 be2) = refl
  chain_one (stop y! lt hd np fi be) (more B y2 lt2 hd2 is2 be2 c2) = absurd (np B none none is2)
  chain_one (more B y! lt hd is be c) (stop y2 lt2 hd2 np2 fi2 be2) = absurd (np2 B none none is)
  chain_one (more {k = n} B y! lt hd is be c) (more {k = k} B2 y2 lt2 hd2 is2 be2 c2) =
      let e : B2 ≡ B = cc in
      ap suc (chain_one c (subst (λ (x : ℕ). Follows x k) e c2))

  fresh : {b k : ℕ} → Follows b k → {xs : List ℕ} → Above k xs → Fresh b xs
  unfolding Fresh
  fresh c no_one = tt
  fresh {b} {k} c (and_one {x = x} n c2 h r) =
      ((λ e. let q : k ≡ n = chain_one c (subst (λ (z : ℕ). Follows z n) (path.sym e) c2) in omega arith), fresh c r)

  pub record Trail (shown : List ℕ) (b w : ℕ) : Type 0 where
    pub ws : List ℕ
    pub k : ℕ
    pub wrote : shown ≡ sets shown₀ at ws
    pub next : w ≡ at + length ws
    pub low : b < most_non_terminals
    pub chain : Follows b k
    pub left : length ws + k ≤ f.k
    pub seen : List ℕ
    pub above : Above k seen
    pub least : (es : List ℕ) → Least G (tree (non_terminal b) none none) T1 es → Least G (tree (non_terminal a) none none) T1 (ws ++ es)
    pub back : (es : List ℕ) → Simple G seen (tree (non_terminal b) none none) T1 es → D (tree (non_terminal a) none none) T1 (ws ++ es)

  pub trail_start : Trail shown₀ a at
  trail_start = record {
    ws = [];
    k = f.k;
    wrote = refl;
    next = path.sym (add-zero at);
    low = f.low;
    chain = f.chain;
    left = omega arith;
    seen = [];
    above = no_one;
    least = λ es d. d;
    back = λ es d. d;
  }

  -- the rule chosen for a member
  chosen_rule : {b k : ℕ} → Follows b k → choice_at choices i b < length G.rules
  chosen_rule (stop y! lt hd np fi be) = lt
  chosen_rule (more B y! lt hd is be c) = lt

  chosen_head : {b k : ℕ} → Follows b k → head_of G.rules (choice_at choices i b) ≡ b
  chosen_head (stop y! lt hd np fi be) = hd
  chosen_head (more B y! lt hd is be c) = hd

  chosen_pos : {b k : ℕ} → Follows b k → 0 < k
  chosen_pos (stop y! lt hd np fi be) = omega arith
  chosen_pos (more B y! lt hd is be c) = omega arith

  chosen_best : {b k : ℕ} → Follows b k → Best G T b (choice_at choices i b)
  chosen_best (stop y! lt hd np fi be) = be
  chosen_best (more B y! lt hd is be c) = be

  pub trail_room : {shown : List ℕ} {b w : ℕ} → Trail shown b w → w < length shown
  trail_room t = omega (arith, f.room, t.left, t.next, ap length t.wrote, length-sets shown₀ at t.ws, chosen_pos t.chain)

  pub trail_few : {shown : List ℕ} {b w : ℕ} → Trail shown b w → choice_at choices i b < most_rules
  trail_few t = omega (arith, chosen_rule t.chain, f.asks.given.admitted.few)

  -- one rule more in front of what derives its right side
  one_more : {b k : ℕ} → Follows b k → (seen : List ℕ) → Above k seen → (es : List ℕ)
      → Simple G (b ∷ seen) (form_of G.rules (choice_at choices i b)) T1 es → Simple G seen (tree (non_terminal b) none none) T1 (choice_at choices i b ∷ es)
  one_more {b} c seen ab es d =
      let h = here f.asks in
      let e = first_one f.asks in
      let r = choice_at choices i b in
      let S = Simple G in
      let d2 : S (b ∷ seen) (form_of G.rules r) (tree h.l h.ops none) es = rw e at d in
      let hd = chosen_head c in
      let d3 : S (head_of G.rules r ∷ seen) (form_of G.rules r) (tree h.l h.ops none) es =
      subst (λ (x : ℕ). S (x ∷ seen) (form_of G.rules r) (tree h.l h.ops none) es) (path.sym hd) d2 in
      let fr : Fresh (head_of G.rules r) seen = subst (λ (x : ℕ). Fresh x seen) (path.sym hd) (fresh c ab) in
      let u = use_one G seen r h.l h.ops es (chosen_rule c) fr d3 in
      rw e (subst (λ (x : ℕ). S seen (tree (non_terminal x) none none) (tree h.l h.ops none) (r ∷ es)) hd u)

  back_more : (shown : List ℕ) (b w : ℕ) (t : Trail shown b w) (es : List ℕ) → Simple G (b ∷ t.seen) (form_of G.rules (choice_at choices i b)) T1 es
      → D (tree (non_terminal a) none none) T1 ((t.ws ++ (choice_at choices i b ∷ [])) ++ es)
  back_more shown b w t es d = rw append_assoc (t.back (choice_at choices i b ∷ es) (one_more t.chain t.seen t.above es d))

  least_more : (shown : List ℕ) (b w : ℕ) (t : Trail shown b w) (es : List ℕ) → Least G (form_of G.rules (choice_at choices i b)) T1 es
      → Least G (tree (non_terminal a) none none) T1 ((t.ws ++ (choice_at choices i b ∷ [])) ++ es)
  least_more shown b w t es d = rw append_assoc (t.least (choice_at choices i b ∷ es) (chosen_best t.chain es d))

  wrote_more : (shown : List ℕ) (b w : ℕ) (t : Trail shown b w) → set shown w (choice_at choices i b) ≡ sets shown₀ at (t.ws ++ (choice_at choices i b ∷ []))
  wrote_more shown b w t =
      ap (λ (x : List ℕ). set x w (choice_at choices i b)) t.wrote
      ∙ ap (λ (x : ℕ). set (sets shown₀ at t.ws) x (choice_at choices i b)) t.next
      ∙ path.sym (sets_append shown₀ at t.ws (choice_at choices i b ∷ []))

  pub trail_more : (shown : List ℕ) (b w : ℕ) → Trail shown b w → code_at forms (start_at rules (choice_at choices i b)) ≡ non_terminal_kind
      → Trail (set shown w (choice_at choices i b)) (value_at forms (start_at rules (choice_at choices i b))) (w + 1)
  trail_more shown b w t k1 = go t.k t.chain t.left t.above
    where
      r : ℕ
      r = choice_at choices i b

      go : (k : ℕ) → Follows b k → length t.ws + k ≤ f.k → Above k t.seen
          → Trail (set shown w (choice_at choices i b)) (value_at forms (start_at rules (choice_at choices i b))) (w + 1)
      go k (stop y! lt hd np fi be) l ab = let v = chain_view f.asks.given (choice_at choices i b) lt k1 in absurd (np v.B none none v.is)
      go (suc k) (more B y! lt hd is be c) l ab =
          let v = chain_view f.asks.given (choice_at choices i b) lt k1 in
          let eB : B ≡ v.B = cc v.is in
          let eb : B ≡ value_at forms (start_at rules (choice_at choices i b)) = eB ∙ path.sym v.value in
          record {
            ws = t.ws ++ (choice_at choices i b ∷ []);
            k = k;
            wrote = wrote_more shown b w t;
            next = omega (arith, t.next, length-append t.ws (choice_at choices i b ∷ []));
            low = omega (arith, v.low, v.value);
            chain = subst (λ (x : ℕ). Follows x k) eb c;
            left = omega (arith, l, length-append t.ws (choice_at choices i b ∷ []));
            seen = b ∷ t.seen;
            above = and_one (suc k) (more B y! lt hd is be c) (omega arith) (above_less (suc k) k (omega arith) ab);
            least = λ es d.
                least_more shown b w t es
                (subst (λ (x : Forest Item). Least G x T1 es) (ap (λ (x : ℕ). tree (non_terminal x) none none) (path.sym eb) ∙ path.sym is) d);
            back = λ es d.
                back_more shown b w t es
                (subst (λ (x : Forest Item). Simple G (b ∷ t.seen) x T1 es)
                (ap (λ (x : ℕ). tree (non_terminal x) none none) (path.sym eb) ∙ path.sym is) d);
          }

  pub trail_end : (shown : List ℕ) (b w : ℕ) → Trail shown b w → (code_at forms (start_at rules (choice_at choices i b)) ≡ non_terminal_kind → ⊥)
      → FollowPost rules forms choices i a shown₀ at f (set shown w (choice_at choices i b)) (w + 1) (choice_at choices i b)
  trail_end shown b w t k1 = record {
    ws = t.ws ++ (choice_at choices i b ∷ []);
    wrote = wrote_more shown b w t;
    next = omega (arith, t.next, length-append t.ws (choice_at choices i b ∷ []));
    few = omega (arith, t.left, chosen_pos t.chain, length-append t.ws (choice_at choices i b ∷ []));
    is_rule = chosen_rule t.chain;
    no_chain = no_chain_view f.asks.given (choice_at choices i b) (chosen_rule t.chain) k1;
    fits = fits_end t.chain;
    least = λ es d. least_more shown b w t es d;
    back = λ es d.
        back_more shown b w t es (no_chain_any G (b ∷ t.seen) (no_chain_view f.asks.given (choice_at choices i b) (chosen_rule t.chain) k1) d);
  }
    where
      fits_end : {k : ℕ} → Follows b k → Fits G (form_of G.rules (choice_at choices i b)) T
      fits_end (stop y! lt hd np fi be) = fi
      fits_end (more B y! lt hd is be c) = absurd (no_chain_view f.asks.given (choice_at choices i b) lt k1 B none none is)

-- the loop's invariant, with what the indices need as plain numbers
pub record Inv (rules forms choices : List ℕ) (i a : ℕ) (shown₀ : List ℕ) (at : ℕ) (shown : List ℕ) (b w : ℕ) : Type 0 where
  pub pre : FollowPre rules forms choices i a shown₀ at
  pub trail : (f : FollowPre rules forms choices i a shown₀ at) → Trail f shown b w
  pub same_length : length shown ≡ length shown₀
  pub held : most_non_terminals * i + most_non_terminals ≤ length choices
  pub low : b < most_non_terminals
  pub room : w < length shown
  pub few : choice_at choices i b < most_rules

module _ {rules forms choices : List ℕ} {i a : ℕ} {shown₀ : List ℕ} {at : ℕ} where
  inv_of : {shown : List ℕ} {b w : ℕ} → FollowPre rules forms choices i a shown₀ at
      → ((f : FollowPre rules forms choices i a shown₀ at) → Trail f shown b w) → length shown ≡ length shown₀
      → Inv rules forms choices i a shown₀ at shown b w
  inv_of p t l = record { pre = p; trail = t; same_length = l; held = p.held; low = (t p).low; room = trail_room p (t p); few = trail_few p (t p) }

  pub inv_start : FollowPre rules forms choices i a shown₀ at → Inv rules forms choices i a shown₀ at shown₀ a at
  inv_start p = inv_of p (λ f. trail_start f) refl

  module _ {shown : List ℕ} {b w : ℕ} (v : Inv rules forms choices i a shown₀ at shown b w) {start code : ℕ}
      (es : start ≡ start_at rules (choice_at choices i b)) (ec : code ≡ code_at forms start) where
    code_is : code ≡ code_at forms (start_at rules (choice_at choices i b))
    code_is = ec ∙ ap (code_at forms) es

    pub turn_more : code ≡ non_terminal_kind → {x : ℕ} → x ≡ value_at forms start
        → Inv rules forms choices i a shown₀ at (set shown w (choice_at choices i b)) x (w + 1)
    turn_more k {x} ex =
        inv_of v.pre
        (λ f.
        subst (λ (y : ℕ). Trail f (set shown w (choice_at choices i b)) y (w + 1)) (path.sym (ex ∙ ap (value_at forms) es))
        (trail_more f shown b w (v.trail f) (path.sym code_is ∙ k)))
        (length-set shown w (choice_at choices i b) ∙ v.same_length)

    pub turn_end : (code ≡ non_terminal_kind → ⊥) → (f : FollowPre rules forms choices i a shown₀ at)
        → FollowPost rules forms choices i a shown₀ at f (set shown w (choice_at choices i b)) (w + 1) (choice_at choices i b)
    turn_end k f = trail_end f shown b w (v.trail f) (λ e. k (code_is ∙ e))
