-- Following the chain rules of a list: what a list derives before and after a rule.
use mathlib.Core.Path.{◌≡◌, refl, sym, ap, ◌∙◌, subst}
use Prim.Native.Nat.{ℕ, suc, ◌+◌, ◌<◌, ◌≤◌}
use native.Mathlib.Decide.{dec_lt}
use native.Mathlib.Omega.{arith}
use mathlib.Core.Bool.{Bool, true, false, not, true≢false}
use mathlib.Core.List.{List, [], ◌∷◌}
use lib.ListN.{get_or-eq_default, drop, get_or, length}
use lib.Seq.{drop-cons}
use native.Mathlib.Numerals.{add-one}
use borrow.Author.Tests.{not-true, not-false}
use Rattle.std.specs.Prelude.{None, Some}
use Rattle.forest.specs.Forest.{Forest, none, tree}
use Rattle.forest.proofs.Lists.{within}
use Rattle.terms.specs.Labels.{Label, Terms}
use Rattle.terms.specs.code.Nodes.{code_at, value_at}
use Rattle.derivation.specs.Derivation.{Fresh, Grammar, Item, form_of, non_terminal}
use Rattle.terms.specs.code.Codes.{non_terminal_kind}
use Rattle.derivation.specs.code.Masks.{has, Puts}
use Rattle.derivation.specs.code.Rules.{start_at}
use Rattle.derivation.specs.code.Forms.{NoChain}
use Rattle.derivation.proofs.Mask.{has_zero}
use Rattle.derivation.proofs.Simple.{no_chain_any}
use Rattle.derivation.proofs.RuleFirst.{chain_view, no_chain_view}
use Rattle.following.specs.code.Steps.{ChainFound, ChainPost, ChainPre, NoneRead, Reads, usable}
use Rattle.following.proofs.Prefix.{begin, begins}
use Rattle.following.proofs.Rules.{Usable, rule_usable, usable_rule}
use Rattle.forest.specs.Limits.{most_non_terminals, unused}

-- what was used at the place says nothing of a form that begins with no non-terminal
reads_change : {G : Grammar} (seen seen' : List ℕ) {P : Forest Item} {T : Terms} {list rest : List ℕ} → NoChain P → Reads G seen P T list rest
    → Reads G seen' P T list rest
reads_change {G} seen seen' n x = record { ds = x.ds; is = x.is; derivation = no_chain_any G seen' n x.derivation }

-- the set of a mask is that of a list
pub record SetIs (used : ℕ) (seen : List ℕ) : Type 0 where
  pub out : (B : ℕ) → has used B ≡ false → Fresh B seen
  pub held : (B : ℕ) → has used B ≡ true → Fresh B seen → ⊥

set_none : SetIs 0 []
unfolding Fresh
set_none = record { out = λ B e. tt; held = λ B e f. true≢false (sym e ∙ has_zero B) }

set_more : {used used' b : ℕ} {seen : List ℕ} → SetIs used seen → Puts used b used' → SetIs used' (b ∷ seen)
unfolding Fresh
set_more {used} {used'} {b} {seen} s p = record {
  out = λ B e.
      let ne : B ≡ b → ⊥ = λ q. true≢false (sym p.on ∙ ap (has used') (sym q) ∙ e) in
      (ne, s.out B (sym (p.off B ne) ∙ e));
  held = λ B e f. s.held B (sym (p.off B f.0) ∙ e) f.1;
}

module _ {rules forms list : List ℕ} {a at : ℕ} (p : ChainPre rules forms list a at) where
  abbrev G : Grammar
  G = p.given.G

  abbrev one : ℕ → Forest Item
  one A = tree (non_terminal A) none none

  pub record Trail (b used w : ℕ) : Type 0 where
    pub seen : List ℕ
    pub set : SetIs used seen
    pub low : b < most_non_terminals
    pub after : at ≤ w
    pub within : w ≤ length list
    pub back : (l : Label) (ts : Terms) (rest : List ℕ) → Reads G seen (one b) (tree l ts none) (drop w list) rest
        → Reads G [] (one a) (tree l ts none) (drop at list) rest
    pub to : (l : Label) (ts : Terms) (rest : List ℕ) → Reads G [] (one a) (tree l ts none) (drop at list) rest
        → Reads G seen (one b) (tree l ts none) (drop w list) rest

  pub trail_start : Trail a 0 at
  trail_start =
      record { seen = []; set = set_none; low = p.low; after = omega arith; within = p.room; back = λ l ts rest x. x; to = λ l ts rest x. x }

  module _ {b used w r : ℕ} (t : Trail b used w) (er : r ≡ get_or list w unused) where
    -- a rule that is in the list is within it
    in_list : r < length G.rules → w < length list
    in_list h = go (dec_lt w (length list))
      where
        go : Dec (w < length list) → w < length list
        go (yes l) = l
        go (no l) = absurd (omega (arith, er, get_or-eq_default list unused {n = w} (omega arith), p.given.admitted.few))

    stands : w < length list → drop w list ≡ r ∷ drop (w + 1) list
    stands h = rw (er, add-one) (drop-cons list w unused h)

    pub trail_no : usable rules r b used ≡ false → NoneRead G a (drop at list)
    trail_no e l ts rest x =
        let y = begins G (t.to l ts rest x) in
        let q : r ≡ y.r = er ∙ first_is y.r y.more y.is in
        true≢false (sym (rule_usable p.given (record {
          is_rule =
              rw q y.is_rule;
          head = rw q y.head;
          not_used = not_used y.fresh (has used b) refl;
        })) ∙ e)
      where
        first_is : (x : ℕ) (more : List ℕ) → drop w list ≡ x ∷ more → get_or list w unused ≡ x
        first_is x more q =
            let z : get_or list w unused ∷ drop (suc w) list ≡ x ∷ more = sym (drop-cons list w unused (within list w x more q)) ∙ q in
            cc

        not_used : Fresh b t.seen → (v : Bool) → has used b ≡ v → has used b ≡ false
        not_used f true q = absurd (t.set.held b q f)
        not_used f false q = q

    module _ (u : Usable p.given r b used) where
      -- one rule on
      back_on : (l : Label) (ts : Terms) (rest : List ℕ) → Reads G (b ∷ t.seen) (form_of G.rules r) (tree l ts none) (drop (w + 1) list) rest
          → Reads G [] (one a) (tree l ts none) (drop at list) rest
      back_on l ts rest x =
          t.back l ts rest (rw (stands (in_list u.is_rule)) (begin G r u.is_rule u.head (t.set.out b u.not_used) x))

      to_on : (l : Label) (ts : Terms) (rest : List ℕ) → Reads G [] (one a) (tree l ts none) (drop at list) rest
          → Reads G (b ∷ t.seen) (form_of G.rules r) (tree l ts none) (drop (w + 1) list) rest
      to_on l ts rest x =
          let y = begins G (t.to l ts rest x) in
          let e : r ∷ drop (w + 1) list ≡ y.r ∷ y.more = sym (stands (in_list u.is_rule)) ∙ y.is in
          let e1 : y.r ≡ r = cc in
          let e2 : y.more ≡ drop (w + 1) list = cc in
          rw (e1, e2) at y.reads

      pub trail_end : (code_at forms (start_at rules r) ≡ non_terminal_kind → ⊥) → ChainFound G list a at (w + 1) r
      trail_end k =
          let n = no_chain_view p.given r u.is_rule k in
          let h = in_list u.is_rule in
          record {
            after = omega (arith, t.after);
            within = omega arith;
            is_rule = u.is_rule;
            no_chain = n;
            back = λ l ts rest x. back_on l ts rest (reads_change [] (b ∷ t.seen) n x);
            to = λ l ts rest x. reads_change (b ∷ t.seen) [] n (to_on l ts rest x);
          }

      pub trail_more : code_at forms (start_at rules r) ≡ non_terminal_kind → {used' : ℕ} → Puts used b used'
          → Trail (value_at forms (start_at rules r)) used' (w + 1)
      trail_more k q =
          let v = chain_view p.given r u.is_rule k in
          let h = in_list u.is_rule in
          let e : form_of G.rules r ≡ one (value_at forms (start_at rules r)) = v.is ∙ ap one (sym v.value) in
          record {
            seen = b ∷ t.seen;
            set = set_more t.set q;
            low = omega (arith, v.low, v.value);
            after = omega (arith, t.after);
            within = omega arith;
            back = λ l ts rest x. back_on l ts rest (rw e x);
            to = λ l ts rest x. rw e at (to_on l ts rest x);
          }

-- the loop's invariant, with what the indices need as plain numbers
pub record Inv (rules forms list : List ℕ) (a at b used w : ℕ) : Type 0 where
  pub pre : ChainPre rules forms list a at
  pub trail : (p : ChainPre rules forms list a at) → Trail p b used w
  pub low : b < most_non_terminals
  pub room : w ≤ length list

module _ {rules forms list : List ℕ} {a at : ℕ} where
  inv_of : {b used w : ℕ} → ChainPre rules forms list a at → ((p : ChainPre rules forms list a at) → Trail p b used w) → Inv rules forms list a at b used w
  inv_of p t = record { pre = p; trail = t; low = (t p).low; room = (t p).within }

  pub inv_start : ChainPre rules forms list a at → Inv rules forms list a at a 0 at
  inv_start p = inv_of p (λ q. trail_start q)

  module _ {b used w : ℕ} (v : Inv rules forms list a at b used w) {r : ℕ} (er : r ≡ get_or list w unused) {u : Bool} (eu : u ≡ usable rules r b used) where
    pub turn_no : not u ≡ true → (p : ChainPre rules forms list a at) → ChainPost rules forms list a at p None
    turn_no h p = trail_no p (v.trail p) er (sym eu ∙ not-true u h)

    module _ (h : not u ≡ false) where
      can : (p : ChainPre rules forms list a at) → Usable p.given r b used
      can p = usable_rule p.given (sym eu ∙ not-false u h)

      pub turn_room : w < length list
      turn_room = in_list v.pre (v.trail v.pre) er (can v.pre).is_rule

      module _ {start : ℕ} (es : start ≡ start_at rules r) {code : ℕ} (ec : code ≡ code_at forms start) where
        code_is : code ≡ code_at forms (start_at rules r)
        code_is = ec ∙ ap (code_at forms) es

        pub turn_end : (code ≡ non_terminal_kind → ⊥) → (p : ChainPre rules forms list a at)
            → ChainPost rules forms list a at p (Some (record { rule = r; at = w + 1 }))
        turn_end k p = trail_end p (v.trail p) er (can p) (λ q. k (code_is ∙ q))

        pub turn_more : code ≡ non_terminal_kind → {used' : ℕ} → Puts used b used' → {x : ℕ} → x ≡ value_at forms start
            → Inv rules forms list a at x used' (w + 1)
        turn_more k {used'} q {x} ex =
            inv_of v.pre
            (λ p.
            subst (λ (y : ℕ). Trail p y used' (w + 1)) (sym (ex ∙ ap (value_at forms) es))
            (trail_more p (v.trail p) er (can p) (sym code_is ∙ k) q))
