-- What the check of the lists of a file asks and gives.
use Rattle.std.specs.Prelude.{ℕ, ◌≤◌, ◌<◌, Bool, true, false, List, [], ◌≡◌, MatchOption, Option}
use Rattle.std.proofs.Math.Option.{none as nothing}
use Rattle.terms.specs.Labels.{Terms}
use Rattle.derivation.specs.Answer.{start}
use Rattle.derivation.specs.Derivation.{Grammar, Simple}
use Rattle.script.specs.Script.{Known}
use Rattle.script.specs.declared.Progress.{Progress}
use Rattle.script.specs.Response.{Body, in_script_order}
use Rattle.outcome.specs.Derived.{terms_of}
use Rattle.outcome.specs.code.Held.{Held}
use Rattle.one_function.specs.code.OneFunction.{OneHeld}
use Rattle.blocks.specs.Layout.{file_fault, list_in, lists_in}
use Rattle.evidence.specs.Evidence.{FirstUnfollowed, Followed}

-- The answer is yes where the list derives the term without a non-terminal twice at one place, and no where it does not.
pub record OneFollowed (G : Grammar) (t : Terms) (list : List ℕ) (answer : Bool) : Type 0 where
  pub yes! : answer ≡ true → Simple G [] start t list
  pub no! : answer ≡ false → Simple G [] start t list → ⊥

-- The same of function j, for whatever the tables hold.
abbrev pub FollowsList : (places nodes forms : List ℕ) → (j : ℕ) → (list : List ℕ) → Bool → Type 0
FollowsList places nodes forms j list answer = (q : OneHeld places nodes forms j) → OneFollowed q.function.grammar q.body list answer

-- The file has no fault, and the tables hold function j.
pub record InFile (file places nodes forms : List ℕ) (j : ℕ) : Type 0 where
  pub right : file_fault file ≡ nothing
  pub one : OneHeld places nodes forms j

-- The same of the list that the file holds for it.
abbrev pub FollowsIn : (file places nodes forms : List ℕ) → (j : ℕ) → Bool → Type 0
FollowsIn file places nodes forms j answer = FollowsList places nodes forms j (list_in file j) answer

-- The file has no fault, and the tables hold a script and a response that pass.
pub record FileHeld (file places nodes forms : List ℕ) (p : Progress) : Type 0 where
  pub right : file_fault file ≡ nothing
  pub text : List ℕ
  pub names : List ℕ
  pub known : Known
  pub bodies : List Body
  pub held : Held text names places nodes forms p known bodies

-- Of function j: where the script has it, whether its list derives its body; where it lacks it, whether the list is empty.
pub record ListTold (file places nodes forms : List ℕ) (p : Progress) (j : ℕ) (answer : Bool) : Type 0 where
  pub there! : j < p.functions → FollowsIn file places nodes forms j answer
  pub none! : p.functions ≤ j → answer ≡ true → list_in file j ≡ []
  pub some! : p.functions ≤ j → answer ≡ false → list_in file j ≡ [] → ⊥

-- The same, for whatever the tables hold.
abbrev pub ListPasses : (file places nodes forms : List ℕ) → Progress → (j : ℕ) → Bool → Type 0
ListPasses file places nodes forms p j answer = FileHeld file places nodes forms p → ListTold file places nodes forms p j answer

-- Function r is the first whose list is not as it must be, or there is none, whatever the tables hold.
abbrev pub AllFollowed : (file places nodes forms : List ℕ) → Progress → (r : Option ℕ) → Type 0
AllFollowed file places nodes forms p r = (q : FileHeld file places nodes forms p)
    → MatchOption r (Followed (in_script_order q.known.functions) (terms_of q.bodies) (lists_in file))
    (λ j. FirstUnfollowed (in_script_order q.known.functions) (terms_of q.bodies) (lists_in file) j)
