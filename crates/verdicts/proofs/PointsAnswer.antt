-- The answer that the points give, by what was found.
use Rattle.std.specs.Prelude.{Result, Ok}
use Prim.Native.Nat.{ℕ, ◌-◌, ◌≤◌}
use mathlib.Core.Path.{◌≡◌, ap, sym, ◌∙◌}
use mathlib.Core.List.{List}
use lib.ListN.{length}
use Rattle.evaluation.specs.Points.{points_of}
use Rattle.evaluation.specs.Running.{left_of}
use Rattle.evaluation.specs.code.Points.{SortsSmall}
use Rattle.evaluation.specs.declared.Ran.{Ran}
use Rattle.evaluation.specs.declared.Ran.TheVariants.{Passed, False, Ended}
use Rattle.evaluation.specs.declared.Run.{Run}
use Rattle.names.specs.Scopes.{named_sorts}
use Rattle.names.specs.code.Table.{sorts_from, variable_row}
use Rattle.script.specs.declared.Progress.{Progress}
use Rattle.script.specs.Script.{definitions_of}
use Rattle.script.proofs.Signed.{length_sorts}
use Rattle.outcome.specs.Derived.{terms_of}
use Rattle.outcome.specs.Evaluated.{functions_with, ran_outcome, run_outcome}
use Rattle.outcome.specs.declared.Outcome.{Outcome}
use Rattle.verdicts.specs.code.Evaluate.{Constrained, Evaluable, StatedRan, points_give, points_outcome}
use Rattle.evaluation.proofs.Left.{points_left}

-- An answer with so many units.
abbrev pub with_units : (units : ℕ) → Outcome → Outcome
with_units units o = record { number = o.number; text = o.text; place = o.place; second = o.second; units = units }

-- The answer of a run, by what the run found and what it left.
pub outcome_found : (budget held : ℕ) {ran : Ran} (found : Ran) {left : ℕ} → left ≡ left_of ran → ran ≡ found
    → with_units (budget - left) (ran_outcome budget held found) ≡ ran_outcome budget held ran
outcome_found budget held (Passed l) e is = rw (e, is)
outcome_found budget held (False point constraint l) e is = rw (e, is)
outcome_found budget held (Ended point term l) e is = rw (e, is)

module _ {names places nodes : List ℕ} {p : Progress} (q : Evaluable names places nodes p)
    {sorts : List ℕ} (read : sorts ≡ sorts_from names variable_row p.variables) where
  -- There is a sort for each variable.
  pub sorts_long : p.variables ≡ length sorts
  sorts_long = sym (ap length read ∙ length_sorts names variable_row p.variables)

  -- The sorts are those of the script's variables.
  pub sorts_read : sorts ≡ named_sorts q.known.variables
  sorts_read =
      let named = q.held.names_hold.variable-sorts in
      read ∙ ap (sorts_from names variable_row) q.held.counted.variables_are ∙ named

  -- They are small.
  pub sorts_small : SortsSmall sorts
  sorts_small = rw sorts_read q.held.script.small

  module _ (points : List ℕ) {list : Result ℕ ℕ} (tested : list ≡ points_of sorts points) where
    -- What the points give, by what their tests found.
    pub outcome_by : {found : Result ℕ ℕ} → list ≡ found → (budget : ℕ)
        → points_outcome q.known (terms_of q.bodies) points budget found ≡ points_give q.known (terms_of q.bodies) points budget
    outcome_by is budget =
        ap (points_outcome q.known (terms_of q.bodies) points budget) (sym is ∙ tested ∙ ap (λ (ss : List ℕ). points_of ss points) sorts_read)

    module _ {n : ℕ} (good : list ≡ Ok n) where
      -- The constraints and the assumptions can be run over them.
      abbrev pub constrained : Constrained places nodes p sorts points
      constrained = record { names = names; tables = q; sorts_are = sorts_read; count = n; good = sym tested ∙ good }

      module _ (budget : ℕ) {run : Run} (got : StatedRan places nodes p sorts points budget run) where
        -- The run leaves no more than the budget.
        pub budget_left : left_of run.ran ≤ budget
        budget_left =
            let k = q.known in
            let funs = functions_with k (terms_of q.bodies) in
            rw (got constrained) (points_left (definitions_of k.defined) funs (named_sorts k.variables) points k.assumptions k.constraints n 0 0 budget)

        -- Its answer is what the points give.
        pub run_evaluated : {r : Outcome} → r ≡ run_outcome budget run → r ≡ points_give q.known (terms_of q.bodies) points budget
        run_evaluated is = is ∙ ap (run_outcome budget) (got constrained) ∙ outcome_by good budget
