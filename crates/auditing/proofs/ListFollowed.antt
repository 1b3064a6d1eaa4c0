-- The list that a file holds for one function: what the check of it answers.
use Prim.Native.Nat.{ℕ, ◌+◌, ◌*◌, ◌≤◌, ◌<◌}
use native.Mathlib.Omega.{arith}
use mathlib.Core.Path.{◌≡◌, refl, sym, ap, ap₂, ◌∙◌}
use mathlib.Core.Bool.{Bool, false, true≢false}
use mathlib.Core.List.{List, [], ◌∷◌, ◌++◌}
use mathlib.Core.Option.{none as nothing}
use lib.Dec.{eqb}
use lib.ListN.{drop, length, length-append, take}
use lib.Seq.{length-take-le, take_at}
use borrow.Author.Tests.{eqb-false, eqb-true}
use Rattle.forest.specs.Limits.{list_size, most_functions}
use Rattle.terms.specs.code.Nodes.{size_at}
use Rattle.script.specs.declared.Progress.{Progress}
use Rattle.script.specs.code.Places.{body_in, form_rows_in, forms_in, rules_of}
use Rattle.following.specs.code.Follows.{Follows, FollowsPre}
use Rattle.one_function.specs.code.OneFunction.{OneHeld, rows_from}
use Rattle.one_function.proofs.OneFunction.{one_body, one_given}
use Rattle.blocks.specs.Blocks.{payload_in}
use Rattle.blocks.specs.Layout.{file_fault, list_at, list_in, list_length_in, pairs}
use Rattle.blocks.specs.code.Below.{Below}
use Rattle.blocks.proofs.Parts.{list_end, list_length, needed_within}
use Rattle.evidence.proofs.Storing.{simple_bounded}
use Rattle.auditing.specs.code.Lists.{FollowsIn, FollowsList, ListTold, OneFollowed}

module _ {places nodes forms : List ℕ} {j : ℕ} (q : OneHeld places nodes forms j)
    {rules sides body : List ℕ} (rules_here : rules ≡ rules_of places j)
    {first many : ℕ} (first_is : first ≡ forms_in places j) (many_is : many ≡ form_rows_in places j) (sides-here : sides ≡ rows_from forms first many)
    {node size : ℕ} (node-is : node ≡ body_in places j) (size_is : size ≡ size_at nodes node) (body_here : body ≡ rows_from nodes node size) where
  -- A list may be followed in the three parts.
  abbrev pub followable : FollowsPre rules sides body
  followable = record { given = one_given q rules_here first_is many_is sides-here node-is size_is body_here; one = one_body q }

  -- What the check of a list in them answers is what is asked of the function.
  pub list_followed : {list : List ℕ} {answer : Bool} → Follows rules sides body list answer → OneFollowed q.function.grammar q.body list answer
  list_followed follows = let found = follows followable in record { yes! = found.yes!; no! = found.no! }

module _ (file : List ℕ) (right : file_fault file ≡ nothing) {j : ℕ} (low : j < most_functions) {r : ℕ} (told : Below (list_length_in file j) 65536 r) where
  -- The list is as long as the file says.
  told_length : length (list_in file j) ≡ r
  told_length = list_length file right j low ∙ sym told.is

  -- A list that is longer than one can be derives nothing.
  pub long_fails : {places nodes forms : List ℕ} → list_size < r → FollowsIn file places nodes forms j false
  long_fails long q = record {
    yes! = λ e. absurd (true≢false (sym e));
    no! = λ e d. absurd (omega (arith, told_length, (simple_bounded q.admitted q.few d).short));
  }

  -- A function that the script lacks passes where the list is empty.
  pub absent_told : {places nodes forms : List ℕ} {p : Progress} → p.functions ≤ j → ListTold file places nodes forms p j (eqb r 0)
  absent_told past = record {
    there! = λ more. absurd (omega arith);
    none! = λ h e. no_rules (list_in file j) (told_length ∙ eqb-true r 0 e);
    some! = λ h e empty. eqb-false r 0 e (sym told_length ∙ ap length empty);
  }
    where
      no_rules : (list : List ℕ) → length list ≡ 0 → list ≡ []
      no_rules [] e = refl
      no_rules (d ∷ list) e = absurd (omega arith)

  module _ (room : List ℕ) (sized : length room ≡ list_size) (fits : r ≤ list_size) where
    -- The front of the room is as long as the list.
    pub front_long : length (take r room) ≡ r
    front_long = length-take-le r room (omega arith)

    module _ {at : ℕ} (begins : at ≡ list_at file j) where
      -- The list stands within the payload.
      pub list_within : at + 2 * length (take r room) ≤ length (payload_in file)
      list_within = omega (arith, told.is, front_long, list_end file j low, needed_within file right)

      module _ {list : List ℕ} (copied : list ≡ pairs (take (2 * length (take r room)) (drop at (payload_in file)))) where
        -- What is copied from where it begins is the list.
        list_copied : list ≡ list_in file j
        unfolding list_in
        list_copied = copied ∙ ap₂ (λ (n m : ℕ). pairs (take (2 * n) (drop m (payload_in file)))) (front_long ∙ told.is) begins

        -- It stands at the front.
        pub front_within : (more : List ℕ) → r ≤ length (list ++ more)
        front_within more = omega (arith, length-append list more, ap length list_copied, told_length)

        -- What is followed at the front is the list.
        pub front_followed : (more : List ℕ) {places nodes forms : List ℕ} {answer : Bool} → FollowsList places nodes forms j (take r (list ++ more)) answer
            → FollowsIn file places nodes forms j answer
        front_followed more follows = rw (take_at list more r (ap length list_copied ∙ told_length), list_copied) at follows

-- A function that the script has passes where its list derives its body.
pub there_told : {file places nodes forms : List ℕ} {p : Progress} {j : ℕ} {answer : Bool} → j < p.functions → FollowsIn file places nodes forms j answer
    → ListTold file places nodes forms p j answer
there_told more follows = record {
  there! = λ h. follows;
  none! = λ h. absurd (omega arith);
  some! = λ h. absurd (omega arith);
}
