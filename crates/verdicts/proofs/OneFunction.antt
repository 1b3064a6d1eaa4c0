-- One function: what the search for its derivation is handed, and what it answers.
use Prim.Native.Nat.{ℕ, ◌<◌}
use mathlib.Core.Path.{◌≡◌}
use mathlib.Core.List.{List}
use Rattle.std.specs.Prelude.{None, Option, Some}
use Rattle.forest.specs.Limits.{most_functions}
use Rattle.terms.specs.code.Nodes.{size_at}
use Rattle.searching.specs.code.Derive.{Decides, DerivePre}
use Rattle.script.specs.code.Places.{body_in, form_rows_in, forms_in, rules_of}
use Rattle.one_function.specs.code.OneFunction.{rows_from}
use Rattle.one_function.proofs.OneFunction.{one_body, one_given}
use Rattle.verdicts.specs.code.Derive.{OneDerivable, OneJudged}

module _ {places nodes forms area : List ℕ} {j : ℕ} (q : OneDerivable places nodes forms j area)
    {rules sides body : List ℕ} (rules_here : rules ≡ rules_of places j)
    {first many : ℕ} (first_is : first ≡ forms_in places j) (many_is : many ≡ form_rows_in places j) (sides-here : sides ≡ rows_from forms first many)
    {node size : ℕ} (node-is : node ≡ body_in places j) (size_is : size ≡ size_at nodes node) (body_here : body ≡ rows_from nodes node size) where
  -- A derivation may be sought, for a list k of the area.
  abbrev pub sought : {k : ℕ} → k < most_functions → DerivePre rules sides body k area
  sought low = record {
    given = one_given q.held rules_here first_is many_is sides-here node-is size_is body_here;
    one = one_body q.held;
    fits = q.held.few;
    sized = q.sized;
    function = low;
  }

  -- What the search answers is what is asked of the function.
  pub one_judged : (areaAfter : List ℕ) (found : Option ℕ) → Decides rules sides body j area areaAfter found → OneJudged q areaAfter found
  one_judged areaAfter None decides = decides (sought q.held.low)
  one_judged areaAfter (Some total) decides = decides (sought q.held.low)
