-- The check of a whole body.
use mathlib.Core.Path.{◌≡◌, refl, sym, ap, ◌∙◌, subst}
use Prim.Native.Nat.{ℕ, zero, suc, ◌-◌, ◌*◌, ◌/◌, ◌<◌, ◌≤◌}
use native.Mathlib.Nat.{zero-add}
use native.Mathlib.Omega.{arith}
use borrow.Author.Tests.{not-true, not-false}
use mathlib.Core.Bool.{Bool, true, false, not, true≢false}
use mathlib.Core.List.{List, [], ◌++◌}
use lib.ListN.{length, replicate, take, drop, length-replicate, length-take}
use lib.Seq.{sets, sets-eq}
use Rattle.std.specs.Prelude.{None, Some}
use Rattle.forest.specs.Forest.{none, tree, count}
use Rattle.forest.specs.code.Cursors.{size, from, first}
use Rattle.forest.proofs.Laws.{count_size, first_all, count_zero}
use Rattle.terms.specs.Labels.{Terms}
use Rattle.derivation.specs.Derivation.{non_terminal, Derives, Simple, Grammar}
use Rattle.derivation.specs.Least.{Least}
use Rattle.derivation.specs.code.Forms.{DerivesAt}
use Rattle.searching.specs.code.Search.{ExactAt, Asks}
use Rattle.derivation.specs.Answer.{start, list_of}
use Rattle.forest.specs.Limits.{list_size, most_nodes, most_non_terminals, unused}
use Rattle.derivation.proofs.Order.{least_unique}
use Rattle.searching.proofs.Sweep.{body_size}
use Rattle.derivation.specs.code.Masks.{has}
use Rattle.searching.specs.code.Masks.{mask_at, rank_at, mark_width}
use Rattle.searching.specs.code.Showing.{EmitPre, EmitPost, ShowPre, ShowPost, Shows}
use Rattle.searching.specs.code.Filling.{AllExact}
use Rattle.searching.specs.code.Derive.{DerivePre, DerivePost}
use Rattle.searching.specs.code.Ranks.{Ranked, rank_of, per_weight}
use Rattle.terms.specs.code.Nodes.{row_width}

-- for one tree, to derive the first tree is to derive it
to_at : (G : Grammar) (A : ℕ) (F : Terms) → count F ≡ 1 → (ds : List ℕ) → Derives G (tree (non_terminal A) none none) F ds → DerivesAt G A F
unfolding DerivesAt count
to_at G A none c ds d = absurd (omega arith)
to_at G A (tree s ts us) c ds d = (ds, subst (λ (x : Terms). Derives G (tree (non_terminal A) none none) (tree s ts x) ds) (count_zero us (omega arith)) d)

first_whole : (F : Terms) → count F ≡ 1 → first 1 F ≡ F
first_whole F c = ap (λ (k : ℕ). first k F) (sym c) ∙ first_all F

module _ {rules forms body masks₀ choices₀ masks choices shown : List ℕ} (len : length masks ≡ length masks₀) (long : length choices ≡ length choices₀)
    (ex : AllExact rules forms body masks choices) {m : ℕ} (em : m ≡ mask_at masks 0) {b : Bool} (eb : b ≡ has m 0) where
  abbrev pub some : (p : ShowPre rules forms body masks₀ choices₀ shown) → 0 < size p.given.F
  some p = omega (arith, p.one, count_size p.given.F)

  first_mask : (p : ShowPre rules forms body masks₀ choices₀ shown) → ExactAt p.given.G p.given.F m (rank_at masks 0)
  unfolding from
  first_mask p = subst (λ (x : ℕ). ExactAt p.given.G p.given.F x (rank_at masks 0)) (sym em) (ex.exact p.given 0 (some p))

  pub show_no : not b ≡ true → (p : ShowPre rules forms body masks₀ choices₀ shown) → ShowPost rules forms body masks₀ choices₀ shown p shown None
  show_no n p = record {
    none_derives = λ ds d. true≢false (sym ((first_mask p).complete 0 (omega arith) (to_at p.given.G 0 p.given.F p.one ds d)) ∙ sym eb ∙ not-true b n);
    unchanged = refl;
  }

  module _ (y : not b ≡ false) where
    abbrev pub emit_asks : ShowPre rules forms body masks₀ choices₀ shown → Asks rules forms body masks 0
    emit_asks p = record { given = p.given; inside = some p; small = p.small; long = len ∙ p.long; exact = λ j l h. ex.exact p.given j h }

    pub emit_pre : ShowPre rules forms body masks₀ choices₀ shown → EmitPre rules forms body choices 0 0 shown 0
    unfolding from
    emit_pre p = record {
      masks = masks;
      asks = emit_asks p;
      all = ex;
      held = omega (arith, p.roomy, long);
      low = omega arith;
      derives = (first_mask p).sound 0 (omega arith) (sym eb ∙ not-false b y);
      room = omega (arith, p.room, ap size (first_whole p.given.F p.one));
    }

    -- the rank of the start at the whole body
    top : (p : ShowPre rules forms body masks₀ choices₀ shown)
        → Ranked p.given.G start (first 1 p.given.F) (most_non_terminals * size (first 1 p.given.F)) (rank_at masks 0 0)
    top p = (first_mask p).ranked 0 (omega arith) (sym eb ∙ not-false b y)

    pub show_yes : {shown' : List ℕ} {w : ℕ}
        → ((e : EmitPre rules forms body choices 0 0 shown 0) → EmitPost rules forms body choices 0 0 shown 0 e shown' w) → {c : ℕ} → c ≡ rank_at masks 0 0
        → (p : ShowPre rules forms body masks₀ choices₀ shown) → ShowPost rules forms body masks₀ choices₀ shown p shown' (Some c)
    unfolding from emit_pre
    show_yes post {c} ec p =
        let x = post (emit_pre p) in
        let whole = first_whole p.given.F p.one in
        let o = top p in
        let u : o.ds ≡ x.ds = least_unique p.given.G o.least x.least in
        record {
          ds = x.ds;
          derivation = subst (λ (F : Terms). Simple p.given.G [] start F x.ds) whole x.derivation;
          least = subst (λ (F : Terms). Least p.given.G start F x.ds) whole x.least;
          wrote = x.wrote;
          few = subst (λ (F : Terms). length x.ds ≤ most_non_terminals * size F) whole x.few;
          rank = ec ∙ o.rank ∙ ap (rank_of p.given.G) u;
        }

drop_replicate : (k n v : ℕ) → drop k (replicate n v) ≡ replicate (n - k) v
drop_replicate zero n v = let e : n ≡ n - 0 = omega arith in ap (λ (x : ℕ). replicate x v) e
drop_replicate (suc k) zero v = let e : 0 ≡ 0 - suc k = omega arith in ap (λ (x : ℕ). replicate x v) e
drop_replicate (suc k) (suc n) v = let e : n - k ≡ suc n - suc k = omega arith in drop_replicate k n v ∙ ap (λ (x : ℕ). replicate x v) e

sets_unused : (ds : List ℕ) (n : ℕ) → length ds ≤ n → sets (replicate n unused) 0 ds ≡ ds ++ replicate (n - length ds) unused
sets_unused ds n h =
    sets-eq ds (replicate n unused) 0 (omega (arith, length-replicate {A = ℕ} n unused))
    ∙ ap (λ (k : ℕ). ds ++ drop k (replicate n unused)) (zero-add (length ds))
    ∙ ap (λ (x : List ℕ). ds ++ x) (drop_replicate (length ds) n unused)

module _ {rules forms body area : List ℕ} {k n : ℕ} (en : n ≡ length body / row_width * mark_width) where
  pub masks_fit : DerivePre rules forms body k area → n ≤ most_nodes * mark_width
  masks_fit p = omega (arith, en, body_size p.given, p.fits)

  module _ (ms : List ℕ) (lm : length ms ≡ most_nodes * mark_width) {cs : List ℕ} (lc : length cs ≡ most_nodes * most_non_terminals) {blank : List ℕ}
      (bl : blank ≡ replicate list_size unused) where
    abbrev pub show_pre : DerivePre rules forms body k area → ShowPre rules forms body (take n ms) cs blank
    show_pre p = record {
      given = p.given;
      one = p.one;
      small = p.fits;
      long = omega (arith, length-take n ms, lm, en, body_size p.given, p.fits);
      roomy = omega (arith, lc, p.fits);
      room = omega (arith, ap length bl, length-replicate {A = ℕ} list_size unused, p.fits);
    }

    module _ {list : List ℕ} where
      -- there is none, and the area is as it was
      pub derive_no : Shows rules forms body (take n ms) cs blank list None → (p : DerivePre rules forms body k area)
          → DerivePost rules forms body k area p area None
      derive_no post p = record { none_derives = (post (show_pre p)).none_derives; unchanged = refl }

      -- there is one, and the list was copied to its place
      pub derive_yes : {c : ℕ} → Shows rules forms body (take n ms) cs blank list (Some c) → {area' : List ℕ} → area' ≡ sets area (list_size * k) list
          → (p : DerivePre rules forms body k area) → DerivePost rules forms body k area p area' (Some (c / per_weight))
      derive_yes post w p =
          let x = post (show_pre p) in
          let few : length x.ds ≤ list_size = omega (arith, x.few, p.fits) in
          let is : list ≡ list_of x.ds = x.wrote ∙ ap (λ (l : List ℕ). sets l 0 x.ds) bl ∙ sets_unused x.ds list_size few in
          record {
            ds = x.ds;
            derivation = x.derivation;
            least = x.least;
            weighs = omega (arith, x.rank, few);
            few = few;
            shown = w ∙ ap (sets area (list_size * k)) is;
          }
