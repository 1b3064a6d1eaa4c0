-- Evaluation of a script with terms for its functions, and its answers.
use Rattle.std.specs.Prelude.{ℕ, ◌-◌, List, [], ◌∷◌}
use Rattle.terms.specs.Labels.{Terms}
use Rattle.terms.specs.Sorts.{Definition}
use Rattle.evaluation.specs.Running.{run_points}
use Rattle.evaluation.specs.declared.Ran.{Ran}
use Rattle.evaluation.specs.declared.Ran.TheVariants.{Passed, False, Ended}
use Rattle.evaluation.specs.declared.Run.{Run}
use Rattle.names.specs.Scopes.{Function, signature_of, named_sorts}
use Rattle.script.specs.Script.{Known, definitions_of}
use Rattle.script.specs.Response.{in_script_order}
use Rattle.outcome.specs.declared.Outcome.{Outcome}

-- Functions in script order with terms for their bodies, as definitions, the last first; those of `earlier` come before them in the script.
unfoldable pub completed : List Function → List Terms → (earlier : List Definition) → List Definition
completed [] ts earlier = earlier
completed (f ∷ fs) [] earlier = earlier
completed (f ∷ fs) (t ∷ ts) earlier = completed fs ts (record { signature = signature_of f; body = t } ∷ earlier)

-- The synthesized functions of a script with terms for their bodies, the last first.
abbrev pub functions_with : Known → List Terms → List Definition
functions_with k ts = completed (in_script_order k.functions) ts []

-- What the run over n points finds, where the functions have these terms for bodies.
abbrev pub ran_with : Known → List Terms → (points : List ℕ) → (n budget : ℕ) → Run
ran_with k ts points n budget =
    run_points (definitions_of k.defined) (functions_with k ts) (named_sorts k.variables) points k.assumptions k.constraints n 0 0 budget

-- 0: "accepted", and its "second number now counts the points whose assumptions all held" (E1); 14: "constraint false" and 15: "budget ended", each with its
-- "point; constraint", and "15 numbers assumptions from 64" (E1). "the units spent: the summed cost of evaluations done, a false one included"; "Units include
-- them" (E1).
abbrev pub ran_outcome : (budget held : ℕ) → Ran → Outcome
ran_outcome budget held (Passed left) = record { number = 0; text = 3; place = 0; second = held; units = budget - left }
ran_outcome budget held (False point constraint left) = record { number = 14; text = 2; place = point; second = constraint; units = budget - left }
ran_outcome budget held (Ended point term left) = record { number = 15; text = 2; place = point; second = term; units = budget - left }

-- The answer of a run.
abbrev pub run_outcome : (budget : ℕ) → Run → Outcome
run_outcome budget r = ran_outcome budget r.held r.ran
