-- The answer on the bodies, from the search for their derivations.
use Prim.Native.Nat.{ℕ, ◌<◌}
use native.Mathlib.Omega.{arith}
use mathlib.Core.Path.{◌≡◌, ap, refl, subst, ◌∙◌}
use mathlib.Core.List.{List}
use lib.ListN.{length}
use Rattle.script.specs.code.Places.{offset_in}
use Rattle.script.specs.declared.Progress.{Progress}
use Rattle.script.specs.code.Answers.{underived_answer}
use Rattle.response.proofs.Picked.{order_length}
use Rattle.forest.specs.Limits.{most_functions}
use Rattle.outcome.specs.Checked.{unshown}
use Rattle.outcome.specs.Derived.{no_totals}
use Rattle.outcome.specs.declared.Weighed.{Weighed}
use Rattle.outcome.proofs.Areas.{blank_long, unshown_blank}
use Rattle.outcome.proofs.Deriving.{underived_within}
use Rattle.verdicts.specs.code.Derive.{Derivable, Judged}
use Rattle.outcome.specs.code.Texts.{response_text}
use Rattle.accepting.specs.code.Bodies.{BodiesDerived, Sought}

module _ {places nodes forms area weights : List ℕ} {p : Progress} {areaAfter weightsAfter : List ℕ} {r : ℕ} (none_yet : weights ≡ no_totals)
    (given : (q : Derivable places nodes forms p area weights) → Judged q areaAfter weightsAfter r) where
  -- what the search gives, where the totals are 0 before it
  searched : (q : Derivable places nodes forms p area no_totals) → Judged q areaAfter weightsAfter r
  searched = subst (λ (w : List ℕ). (q : Derivable places nodes forms p area w) → Judged q areaAfter weightsAfter r) none_yet given

  -- 0: every body is derived
  pub every_derived : {o : Weighed} → r ≡ p.functions → o.outcome.number ≡ 0 → o.totals ≡ weightsAfter → BodiesDerived places nodes forms p area o areaAfter
  every_derived all zero e q = record { all! = λ h. rw e ((searched q).all! all); one! = λ other. absurd (other zero) }

  module _ (q : Derivable places nodes forms p area no_totals) (other : r ≡ p.functions → ⊥) where
    -- the function whose body has no derivation is one of those that there may be
    pub function_low : r < most_functions
    function_low =
        let held = q.held in
        omega (
          arith,
          underived_within ((searched q).one! other).first,
          order_length q.known.functions,
          held.counted.functions_are,
          held.counted.few_functions,
        )

    -- 13: its grammar derives the body by no list of rules
    pub one_underived : {after : List ℕ} {place : ℕ} → after ≡ unshown areaAfter → place ≡ offset_in places r
        → Sought q
        (record {
          outcome = record { number = underived_answer; text = response_text; place = place; second = r; units = 0 };
          totals = no_totals;
        }) after
    one_underived e f =
        let one = (searched q).one! other in
        let at = f ∙ one.offset in
        let sized = (searched q).long ∙ ap length q.blank ∙ blank_long in
        record {
          all! = λ zero. absurd (omega arith);
          one! = λ h. record { j = r; body = one.body; first = one.first; answer = rw at refl; blanked = e ∙ unshown_blank areaAfter sized; unweighed = refl };
        }
