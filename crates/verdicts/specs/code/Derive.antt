-- What the search for derivations of all bodies asks and gives.
use Rattle.std.specs.Prelude.{ℕ, List, MatchOption, Option, ◌≡◌, length}
use Rattle.forest.specs.Limits.{area_size}
use Rattle.searching.specs.code.Derive.{NotDerived, Shown as ShownIn}
use Rattle.script.specs.Script.{Known}
use Rattle.script.specs.code.Places.{offset_in}
use Rattle.script.specs.declared.Progress.{Progress}
use Rattle.script.specs.Outcome.{offset_of}
use Rattle.script.specs.Response.{Body, in_script_order}
use Rattle.outcome.specs.code.Held.{Held}
use Rattle.outcome.specs.Derived.{FirstUnderived, ListsShown, blank_area, no_totals, shown_area, terms_of, totals}
use Rattle.one_function.specs.code.OneFunction.{OneHeld}

-- The tables hold a script and a response that pass, the area shows nothing, and the totals are 0.
pub record Derivable (places nodes forms : List ℕ) (p : Progress) (area weights : List ℕ) : Type 0 where
  pub text : List ℕ
  pub names : List ℕ
  pub known : Known
  pub bodies : List Body
  pub held : Held text names places nodes forms p known bodies
  pub blank : area ≡ blank_area
  pub unweighed : weights ≡ no_totals

-- Every body is derived, the area shows how, and the totals say what each list weighs.
pub record AllShown {places nodes forms area weights : List ℕ} {p : Progress} (q : Derivable places nodes forms p area weights)
    (areaAfter weightsAfter : List ℕ) : Type 0 where
  pub lists : List (List ℕ)
  pub shown : ListsShown (in_script_order q.known.functions) (terms_of q.bodies) lists
  pub area_is : areaAfter ≡ shown_area lists
  pub weigh : weightsAfter ≡ totals (in_script_order q.known.functions) lists

-- Function j is the first without a derivation; the offset of its body's first word stands in the table.
pub record OneUnderived {places nodes forms area weights : List ℕ} {p : Progress} (q : Derivable places nodes forms p area weights) (j : ℕ) : Type 0 where
  pub body : Body
  pub first : FirstUnderived (in_script_order q.known.functions) q.bodies j body
  pub offset : offset_in places j ≡ offset_of q.text body.first

-- The one or the other, by the number that is returned.
pub record Judged {places nodes forms area weights : List ℕ} {p : Progress} (q : Derivable places nodes forms p area weights)
    (areaAfter weightsAfter : List ℕ) (r : ℕ) : Type 0 where
  pub all! : r ≡ p.functions → AllShown q areaAfter weightsAfter
  pub one! : (r ≡ p.functions → ⊥) → OneUnderived q r
  pub long : length areaAfter ≡ length area
  pub as_many : length weightsAfter ≡ length weights

-- The same, for whatever the tables hold.
abbrev pub Judges : (places nodes forms : List ℕ) → Progress → (area weights areaAfter weightsAfter : List ℕ) → (r : ℕ) → Type 0
Judges places nodes forms p area weights areaAfter weightsAfter r =
    (q : Derivable places nodes forms p area weights) → Judged q areaAfter weightsAfter r

-- The tables hold function j, and the area has its size.
pub record OneDerivable (places nodes forms : List ℕ) (j : ℕ) (area : List ℕ) : Type 0 where
  pub held : OneHeld places nodes forms j
  pub sized : length area ≡ area_size

-- The function's rules derive the body, its list in the area shows the least derivation, and the total is what it weighs; or no list of rules does,
-- and the area is as it was.
abbrev pub OneJudged : {places nodes forms area : List ℕ} {j : ℕ} → OneDerivable places nodes forms j area → (areaAfter : List ℕ) → Option ℕ → Type 0
OneJudged {area = area} {j = j} q areaAfter found =
    MatchOption found (NotDerived q.held.function.grammar q.held.body area areaAfter) (ShownIn q.held.function.grammar q.held.body j area areaAfter)

-- The same, for whatever the tables hold.
abbrev pub JudgesOne : (places nodes forms : List ℕ) → (j : ℕ) → (area areaAfter : List ℕ) → Option ℕ → Type 0
JudgesOne places nodes forms j area areaAfter found = (q : OneDerivable places nodes forms j area) → OneJudged q areaAfter found
