-- The loop over functions: the lists of those before function j are as they must be.
use Prim.Native.Nat.{ℕ, suc, ◌+◌, ◌-◌, ◌≤◌, ◌<◌}
use native.Mathlib.Nat.{add-zero, zero-add}
use native.Mathlib.Decide.{dec_lt}
use native.Mathlib.Omega.{arith}
use mathlib.Core.Path.{◌≡◌, refl, ap, ◌∙◌}
use mathlib.Core.Bool.{Bool, true, false}
use mathlib.Core.List.{List, [], ◌∷◌}
use lib.ListN.{drop, drop_of_length-le}
use Rattle.forest.specs.Limits.{most_functions}
use Rattle.names.specs.Scopes.{Function}
use Rattle.script.specs.declared.Progress.{Progress}
use Rattle.script.specs.Response.{in_script_order}
use Rattle.outcome.specs.Derived.{terms_of}
use Rattle.one_function.proofs.FunctionAndBody.{Both}
use Rattle.one_function.proofs.NextFunction.{bodies_many, functions_many, next, one_held}
use Rattle.blocks.specs.Layout.{list_in, lists_from, lists_in}
use Rattle.evidence.specs.Evidence.{FirstUnfollowed, Followed}
use Rattle.evidence.specs.Evidence.FirstUnfollowed.{absent_here, absent_later, here, later}
use Rattle.evidence.specs.Evidence.Followed.{absent, also, no_more}
use Rattle.auditing.specs.code.Lists.{FileHeld, ListTold}

-- The lists from function j on are its own and those of the functions behind it.
lists_next : (file : List ℕ) (j : ℕ) → j < most_functions
    → lists_from file j (most_functions - j) ≡ list_in file j ∷ lists_from file (j + 1) (most_functions - (j + 1))
unfolding lists_from
lists_next file j low =
    let one_on : suc j ≡ j + 1 = omega arith in
    let left : most_functions - j ≡ suc (most_functions - (j + 1)) = omega arith in
    ap (lists_from file j) left ∙ ap (λ (n : ℕ). list_in file j ∷ lists_from file n (most_functions - (j + 1))) one_on

-- A list that is not empty is the first that an absent function must not have.
absent_first : {lists : List (List ℕ)} (list : List ℕ) → (list ≡ [] → ⊥) → FirstUnfollowed [] [] (list ∷ lists) 0
absent_first [] some = absurd (some refl)
absent_first (d ∷ list) some = absent_here

module _ {file places nodes forms : List ℕ} {p : Progress} (q : FileHeld file places nodes forms p) where
  -- The functions, in script order.
  abbrev pub ordered : List Function
  ordered = in_script_order q.known.functions

  -- The lists of the functions before function j are as they must be: where the others are too, all are, and what comes first of the others comes first of all.
  pub record Going (j : ℕ) : Type 0 where
    pub low : j ≤ most_functions
    pub followed_all : Followed (drop j ordered) (terms_of (drop j q.bodies)) (lists_from file j (most_functions - j))
        → Followed ordered (terms_of q.bodies) (lists_in file)
    pub first_all : (n : ℕ) → FirstUnfollowed (drop j ordered) (terms_of (drop j q.bodies)) (lists_from file j (most_functions - j)) n
        → FirstUnfollowed ordered (terms_of q.bodies) (lists_in file) (j + n)

  -- Before the first function nothing is asked.
  pub going_start : Going 0
  going_start = record { low = omega arith; followed_all = λ all. all; first_all = λ n first. rw (zero-add n) first }

  -- Past the last function there is none.
  no_function : {j : ℕ} → p.functions ≤ j → drop j ordered ≡ []
  no_function {j} past = drop_of_length-le ordered {i = j} (omega (arith, functions_many q.held))

  -- Nor a body.
  no_body : {j : ℕ} → p.functions ≤ j → drop j q.bodies ≡ []
  no_body {j} past = drop_of_length-le q.bodies {i = j} (omega (arith, bodies_many q.held))

  -- Past the last list all are as they must be.
  pub going_done : {j : ℕ} → Going j → most_functions ≤ j → Followed ordered (terms_of q.bodies) (lists_in file)
  unfolding lists_from
  going_done {j} g past =
      let last : j ≡ most_functions = omega (arith, g.low) in
      let few : p.functions ≤ j = omega (arith, q.held.counted.few_functions) in
      let none_left : most_functions - j ≡ 0 = omega arith in
      g.followed_all (rw (no_function few, no_body few, none_left) no_more)

  module _ {j : ℕ} (g : Going j) (more : j < most_functions) {answer : Bool} (told : ListTold file places nodes forms p j answer) where
    module _ (there : j < p.functions) where
      -- Function j and its body.
      abbrev this : Both q.known.defined ordered q.bodies j
      this = next q.held there

      -- A list that does not derive the body is the first.
      there_fails : answer ≡ false → FirstUnfollowed ordered (terms_of q.bodies) (lists_in file) j
      there_fails fails =
          let found = told.there! there (one_held q.held there) in
          rw add-zero at (g.first_all 0 (rw (this.function_is, this.body_is, lists_next file j more) (here (found.no! fails))))

      -- One that does has those of the functions behind it left.
      there_turn : answer ≡ true → Going (j + 1)
      there_turn passes =
          let d = (told.there! there (one_held q.held there)).yes! passes in
          record {
            low = omega arith;
            followed_all = λ rest. g.followed_all (rw (this.function_is, this.body_is, lists_next file j more) (also d rest));
            first_all = λ n first.
                let one_on : j + 1 + n ≡ j + suc n = omega arith in
                rw one_on (g.first_all (suc n) (rw (this.function_is, this.body_is, lists_next file j more) (later d first)));
          }

    module _ (past : p.functions ≤ j) where
      -- A list of an absent function is the first.
      absent_fails : answer ≡ false → FirstUnfollowed ordered (terms_of q.bodies) (lists_in file) j
      absent_fails fails =
          rw add-zero at (g.first_all 0 (rw (no_function past, no_body past, lists_next file j more) (absent_first (list_in file j) (told.some! past fails))))

      -- None has those of the functions behind it left.
      absent_turn : answer ≡ true → Going (j + 1)
      absent_turn passes =
          let later_past : p.functions ≤ j + 1 = omega arith in
          let empty = told.none! past passes in
          record {
            low = omega arith;
            followed_all = λ rest. g.followed_all
                (rw (no_function past, no_body past, lists_next file j more, empty) (absent (rw (no_function later_past, no_body later_past) at rest)));
            first_all = λ n first.
                let one_on : j + 1 + n ≡ j + suc n = omega arith in
                rw one_on (g.first_all (suc n)
                (rw (no_function past, no_body past, lists_next file j more, empty) (absent_later (rw (no_function later_past, no_body later_past) at first))));
          }

    -- A list that is not as it must be is the first.
    pub going_fails : answer ≡ false → FirstUnfollowed ordered (terms_of q.bodies) (lists_in file) j
    going_fails fails = pick (dec_lt j p.functions)
      where
        pick : Dec (j < p.functions) → FirstUnfollowed ordered (terms_of q.bodies) (lists_in file) j
        pick (yes h) = there_fails h fails
        pick (no h) = absent_fails (omega arith) fails

    -- After one that is, the next function's is looked at.
    pub going_turn : answer ≡ true → Going (j + 1)
    going_turn passes = pick (dec_lt j p.functions)
      where
        pick : Dec (j < p.functions) → Going (j + 1)
        pick (yes h) = there_turn h passes
        pick (no h) = absent_turn (omega arith) passes
