-- The tables of the Ring case hold its rules and its body: what `derive` requires can be met.
use mathlib.Core.Path.{◌≡◌, refl}
use Prim.Native.Nat.{ℕ, zero, suc, ◌<◌, ◌≤◌}
use native.Mathlib.Omega.{arith}
use mathlib.Core.List.{List, [], ◌∷◌}
use lib.ListN.{length}
use Rattle.forest.specs.Forest.{count, join, nodes_of}
use Rattle.forest.specs.code.Cursors.{size}
use Rattle.forest.specs.Tables.{rows}
use Rattle.terms.specs.code.Nodes.{AllPlain, node_table}
use Rattle.derivation.specs.Derivation.{form_of, head_of, weight_of}
use Rattle.derivation.specs.code.Admitted.{LeavesFit, Proper}
use Rattle.derivation.specs.code.Tables.{Given, form_table, right_sides, rule_table}
use Rattle.searching.specs.code.Derive.{DerivePre}
use Rattle.forest.specs.Limits.{area_size}
use Rattle.following.specs.code.Follows.{FollowsPre}
use Rattle.derivation.proofs.Bench.{ring, ring_body}

low : (r : ℕ) → r < 3 → head_of ring.rules r < 16
unfolding head_of
low zero h = omega arith
low (suc zero) h = omega arith
low (suc (suc zero)) h = omega arith
low (suc (suc (suc r))) h = absurd (omega arith)

proper : (r : ℕ) → r < 3 → Proper 16 (form_of ring.rules r)
unfolding form_of Proper
proper zero h = (omega arith, refl, tt)
proper (suc zero) h = (omega arith, refl, tt)
proper (suc (suc zero)) h = (tt, tt, tt)
proper (suc (suc (suc r))) h = absurd (omega arith)

single : (r : ℕ) → r < 3 → count (form_of ring.rules r) ≡ 1
unfolding form_of count
single zero h = refl
single (suc zero) h = refl
single (suc (suc zero)) h = refl
single (suc (suc (suc r))) h = absurd (omega arith)

light : (r : ℕ) → r < 3 → weight_of ring.rules r ≤ 65535
unfolding weight_of
light zero h = omega arith
light (suc zero) h = omega arith
light (suc (suc zero)) h = omega arith
light (suc (suc (suc r))) h = absurd (omega arith)

held : Given (0 ∷ 0 ∷ 0 ∷ 1 ∷ 1 ∷ 0 ∷ 2 ∷ 1 ∷ 0 ∷ []) (5 ∷ 1 ∷ 0 ∷ 1 ∷ 5 ∷ 0 ∷ 0 ∷ 1 ∷ 513 ∷ 0 ∷ 0 ∷ 1 ∷ []) (513 ∷ 0 ∷ 0 ∷ 1 ∷ [])
unfolding AllPlain LeavesFit form_table count join node_table nodes_of right_sides rows rule_table size
held = record {
  G = ring;
  F = ring_body;
  holds = record {
    is_rules = refl;
    is_forms = refl;
    is_body = refl;
    plain = (tt, tt, tt);
    leaves = (record { declared = omega arith; sort = refl }, tt, tt);
  };
  admitted = record { few = omega arith; low = low; proper = proper; single = single; light = light };
}

pub ring_pre : {k : ℕ} {area : List ℕ} → k < 8 → length area ≡ area_size
    → DerivePre (0 ∷ 0 ∷ 0 ∷ 1 ∷ 1 ∷ 0 ∷ 2 ∷ 1 ∷ 0 ∷ []) (5 ∷ 1 ∷ 0 ∷ 1 ∷ 5 ∷ 0 ∷ 0 ∷ 1 ∷ 513 ∷ 0 ∷ 0 ∷ 1 ∷ []) (513 ∷ 0 ∷ 0 ∷ 1 ∷ []) k area
unfolding count held size
ring_pre k sized = record { given = held; one = refl; fits = omega arith; sized = sized; function = k }

-- and so can what `follows` requires
pub followed_pre : FollowsPre (0 ∷ 0 ∷ 0 ∷ 1 ∷ 1 ∷ 0 ∷ 2 ∷ 1 ∷ 0 ∷ []) (5 ∷ 1 ∷ 0 ∷ 1 ∷ 5 ∷ 0 ∷ 0 ∷ 1 ∷ 513 ∷ 0 ∷ 0 ∷ 1 ∷ []) (513 ∷ 0 ∷ 0 ∷ 1 ∷ [])
unfolding count held
followed_pre = record { given = held; one = refl }
