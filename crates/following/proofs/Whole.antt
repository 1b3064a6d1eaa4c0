-- From the chain and the walk of its last rule to a non-terminal, and from the start to the whole list.
use mathlib.Core.Path.{◌≡◌, refl, sym, ap, ◌∙◌, subst}
use Prim.Native.Nat.{ℕ, ◌<◌, ◌≤◌}
use native.Mathlib.Omega.{arith}
use mathlib.Core.Bool.{Bool, true, false, true≢false}
use mathlib.Core.List.{List, [], ◌++◌, append-nil}
use lib.Dec.{eqb}
use Rattle.std.specs.Prelude.{MatchOption, Option, None, Some}
use lib.ListN.{drop, length, length-drop, drop_of_length-le}
use borrow.Author.Tests.{eqb-true, eq-eqb}
use Rattle.forest.specs.code.Cursors.{first, from}
use Rattle.forest.specs.Forest.{none, tree}
use Rattle.forest.proofs.Laws.{Tree, count_size, first_all, tree_at}
use Rattle.terms.specs.Labels.{Terms}
use Rattle.derivation.specs.Derivation.{Simple, form_of, non_terminal}
use Rattle.derivation.specs.Answer.{start}
use Rattle.following.specs.code.Steps.{ChainFound, ChainPre, Chained, FitPre, Fitted, Reads, UsePre, Uses, one_at}
use Rattle.following.specs.declared.Last.{Last}
use Rattle.following.specs.code.Follows.{FollowsPost, FollowsPre}
use Rattle.following.proofs.Prefix.{same_rest}

module _ {rules forms body list : List ℕ} {i a at : ℕ} where
  abbrev pub use_asks : UsePre rules forms body list i a at → ChainPre rules forms list a at
  use_asks u = record { body = body; given = u.given; low = u.low; room = u.room }

  -- the tree at the node
  here : (u : UsePre rules forms body list i a at) → Tree (from u.given.F i)
  here u = tree_at u.given.F i u.inside

  one_is : (u : UsePre rules forms body list i a at) → one_at u.given.F i ≡ tree (here u).l (here u).ops none
  unfolding first
  one_is u = ap (first 1) (here u).is

  pub use_fails : Chained rules forms list a at None → Uses rules forms body list i a at None
  use_fails c u rest x =
      c (use_asks u) (here u).l (here u).ops rest
      (subst (λ (y : Terms). Reads u.given.G [] (tree (non_terminal a) none none) y (drop at list) rest) (one_is u) x)

  module _ {last : Last} (c : Chained rules forms list a at (Some last)) where
    abbrev found : (u : UsePre rules forms body list i a at) → ChainFound u.given.G list a at last.at last.rule
    found u = c (use_asks u)

    pub use_on : UsePre rules forms body list i a at → (at < last.at) × (last.at ≤ length list)
    use_on u = ((found u).after, (found u).within)

    abbrev pub use_fits : UsePre rules forms body list i a at → FitPre rules forms body list last.rule i last.at
    use_fits u = record { given = u.given; inside = u.inside; is_rule = (found u).is_rule; room = (found u).within }

    module _ (u : UsePre rules forms body list i a at) where
      use_as : (b : ℕ) {T T' : Terms} {l rest : List ℕ} → T ≡ T' → Reads u.given.G [] (tree (non_terminal b) none none) T l rest
          → Reads u.given.G [] (tree (non_terminal b) none none) T' l rest
      use_as b e x = rw e at x

      fit_as : {T T' : Terms} {l rest : List ℕ} → T ≡ T' → Reads u.given.G [] (form_of u.given.G.rules last.rule) T l rest
          → Reads u.given.G [] (form_of u.given.G.rules last.rule) T' l rest
      fit_as e x = rw e at x

    pub use_gives : (done : Option ℕ) → Fitted rules forms body list last.rule i last.at done → Uses rules forms body list i a at done
    use_gives None f = λ u rest x.
        f (use_fits u) rest (fit_as u (sym (one_is u)) ((found u).to (here u).l (here u).ops rest (use_as u a (one_is u) x)))
    use_gives (Some w) f = λ u.
        let y = f (use_fits u) in
        record {
          after = omega (arith, (found u).after, y.after);
          within = y.within;
          reads = use_as u a (sym (one_is u)) ((found u).back (here u).l (here u).ops (drop w list) (fit_as u (one_is u) y.reads));
        }

-- the tree at the first node is the body
module _ {rules forms body : List ℕ} where
  whole_is : (p : FollowsPre rules forms body) → one_at p.given.F 0 ≡ p.given.F
  unfolding from
  whole_is p = ap (λ (n : ℕ). first n p.given.F) (sym p.one) ∙ first_all p.given.F

-- the whole list
module _ {rules forms body list : List ℕ} where
  pub top_asks : FollowsPre rules forms body → UsePre rules forms body list 0 0 0
  top_asks p = record { given = p.given; inside = omega (arith, p.one, count_size p.given.F); low = omega arith; room = omega arith }

  reads_whole : (p : FollowsPre rules forms body) → Simple p.given.G [] start p.given.F list
      → Reads p.given.G [] start (one_at p.given.F 0) list []
  reads_whole p d = record { ds = list; is = sym (append-nil list); derivation = rw (whole_is p) d }

  -- the rules of the list lead past its front, or nowhere
  pub top_fails : Uses rules forms body list 0 0 0 None → (p : FollowsPre rules forms body) → FollowsPost rules forms body list p false
  unfolding top_asks
  top_fails u p = record { yes! = λ e. absurd (true≢false (sym e)); no! = λ e d. u (top_asks p) [] (reads_whole p d) }

  pub top_gives : {w : ℕ} → Uses rules forms body list 0 0 0 (Some w) → (p : FollowsPre rules forms body)
      → FollowsPost rules forms body list p (eqb w (length list))
  unfolding top_asks
  top_gives {w} u p =
      let f = u (top_asks p) in
      record {
        yes! = λ e.
            let z : drop w list ≡ [] = drop_of_length-le list {i = w} (omega (arith, eqb-true w (length list) e)) in
            let y : list ≡ f.reads.ds = f.reads.is ∙ ap (λ (k : List ℕ). f.reads.ds ++ k) z ∙ append-nil f.reads.ds in
            subst (λ (k : List ℕ). Simple p.given.G [] start p.given.F k) (sym y) (rw (whole_is p) at f.reads.derivation);
        no! = λ e d.
            let z : drop w list ≡ [] = same_rest p.given.G f.reads (reads_whole p d) in
            true≢false (sym (eq-eqb w (length list) (omega (arith, f.within, ap length z, length-drop w list))) ∙ e);
      }

  pub top_told : (found : Option ℕ) → Uses rules forms body list 0 0 0 found → {answer : Bool}
      → MatchOption found (answer ≡ false) (λ w. answer ≡ eqb w (length list)) → (p : FollowsPre rules forms body) → FollowsPost rules forms body list p answer
  top_told None u e p = rw e (top_fails u p)
  top_told (Some w) u e p = rw e (top_gives u p)

-- a list that derives the body is accepted: what `searching::derive` shows, among others
pub accepts : {rules forms body list : List ℕ} {p : FollowsPre rules forms body} {answer : Bool} → FollowsPost rules forms body list p answer
    → Simple p.given.G [] start p.given.F list → answer ≡ true
accepts {answer = true} f d = refl
accepts {answer = false} f d = absurd (f.no! refl d)
