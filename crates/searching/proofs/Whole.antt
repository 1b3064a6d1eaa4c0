-- A derivation at a node: the choices, then the places of the plain rule.
use mathlib.Core.Path.{◌≡◌, sym, ap, ◌∙◌}
use Prim.Native.Nat.{ℕ, ◌≤◌}
use native.Mathlib.Omega.{arith}
use mathlib.Core.Bool.{true}
use mathlib.Core.List.{List, ◌++◌}
use lib.ListN.{length, length-append}
use lib.Seq.{sets, length-sets}
use Rattle.searching.specs.code.Search.{Chain, choice_at}
use Rattle.searching.proofs.Parts.{tree_some}
use Rattle.forest.specs.code.Cursors.{from}
use Rattle.derivation.specs.code.Masks.{has}
use Rattle.searching.specs.code.Masks.{mask_at}
use Rattle.searching.specs.code.Showing.{FollowPre, FollowPost, EmitPre, EmitPost, SpreadPre, SpreadPost}
use Rattle.forest.proofs.Rows.{sets_append}
use Rattle.forest.specs.Limits.{most_non_terminals}

module _ {rules forms body choices : List ℕ} {i a : ℕ} {shown : List ℕ} {at : ℕ} (e : EmitPre rules forms body choices i a shown at) where
  pub member : has (mask_at e.masks i) a ≡ true
  member = (e.all.exact e.asks.given i e.asks.inside).complete a e.low e.derives

  abbrev pub steps : (k : ℕ) × Chain e.asks.given.G (from e.asks.given.F i) (mask_at e.masks i) (choice_at choices i) a k × (k ≤ most_non_terminals)
  steps = e.all.chains e.asks.given i e.asks.inside a e.low member

  abbrev pub follow_pre : FollowPre rules forms choices i a shown at
  follow_pre = record {
    body = body;
    masks = e.masks;
    asks = e.asks;
    low = e.low;
    held = omega (arith, e.held, e.asks.inside);
    s = mask_at e.masks i;
    k = steps.0;
    chain = steps.1;
    room = omega (arith, e.room, tree_some e.asks, steps.2);
  }

  module _ {shown' : List ℕ} {at' r : ℕ} (fp : FollowPost rules forms choices i a shown at follow_pre shown' at' r) where
    abbrev pub spread_pre : SpreadPre rules forms body choices i r shown' at'
    spread_pre = record {
      masks = e.masks;
      rule_asks = record { asks = e.asks; is_rule = fp.is_rule; no_chain = fp.no_chain };
      all = e.all;
      held = e.held;
      fits = fp.fits;
      room = omega (arith, e.room, fp.next, fp.few, steps.2, ap length fp.wrote, length-sets shown at fp.ws);
    }

    pub emit_post : {shown'' : List ℕ} {at'' : ℕ} → SpreadPost rules forms body choices i r shown' at' spread_pre shown'' at''
        → EmitPost rules forms body choices i a shown at e shown'' at''
    emit_post sp = record {
      ds = fp.ws ++ sp.ds;
      derivation = fp.back sp.ds sp.derivation;
      least = fp.least sp.ds sp.least;
      wrote =
          sp.wrote
          ∙ ap (λ (l : List ℕ). sets l at' sp.ds) fp.wrote
          ∙ ap (λ (n : ℕ). sets (sets shown at fp.ws) n sp.ds) fp.next
          ∙ sym (sets_append shown at fp.ws sp.ds);
      next = omega (arith, sp.next, fp.next, length-append fp.ws sp.ds);
      few = omega (arith, sp.few, fp.few, steps.2, length-append fp.ws sp.ds);
    }
