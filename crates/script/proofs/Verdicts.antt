-- The verdict on a command, by the first of its tests that finds a word at fault.
use Prim.Native.Nat.{ℕ, ◌≤◌, ◌<◌}
use mathlib.Core.Path.{◌≡◌, refl}
use borrow.Author.Tests.{le-ltb, lt-ltb}
use Rattle.lexemes.specs.Lists.{Items}
use Rattle.forest.specs.Limits.{Counts}
use Rattle.script.specs.Script.{Known, grammar_place, limit_place, name_place, sorting_place, tested}
use Rattle.script.specs.code.Tables.{Says}
use Rattle.script.specs.declared.Verdict.{Verdict}
use Rattle.script.specs.code.Answers.{grammar_answer, limit_answer, name_answer, sort_answer}

-- The verdict is a refusal by the number and the word, which is one of the text.
pub record Refuses (nowhere number place : ℕ) (v : Verdict) : Type 0 where
  pub number_is : v.number ≡ number
  pub place_is : v.place ≡ place
  pub found : v.place < nowhere

module _ (counts : Counts) (nowhere : ℕ) (k : Known) (at : ℕ) (c : Items) (said : Known) (v : Verdict) where
  -- Past a limit.
  pub says_limit : Refuses nowhere limit_answer (limit_place counts nowhere k at c) v → Says v (tested counts nowhere k at c said)
  unfolding tested
  says_limit r = rw (← r.place_is, lt-ltb _ _ r.found) (r.number_is, refl)

  module _ (limited : nowhere ≤ limit_place counts nowhere k at c) where
    -- A name at fault.
    pub says_name : Refuses nowhere name_answer (name_place nowhere k c) v → Says v (tested counts nowhere k at c said)
    unfolding tested
    says_name r = rw (le-ltb _ _ limited, ← r.place_is, lt-ltb _ _ r.found) (r.number_is, refl)

    module _ (named : nowhere ≤ name_place nowhere k c) where
      -- A sort at fault.
      pub says_sorting : Refuses nowhere sort_answer (sorting_place nowhere k c) v → Says v (tested counts nowhere k at c said)
      unfolding tested
      says_sorting r = rw (le-ltb _ _ limited, le-ltb _ _ named, ← r.place_is, lt-ltb _ _ r.found) (r.number_is, refl)

      module _ (sorted : nowhere ≤ sorting_place nowhere k c) where
        -- A rule at fault.
        pub says_grammar : Refuses nowhere grammar_answer (grammar_place nowhere k c) v → Says v (tested counts nowhere k at c said)
        unfolding tested
        says_grammar r = rw (le-ltb _ _ limited, le-ltb _ _ named, le-ltb _ _ sorted, ← r.place_is, lt-ltb _ _ r.found) (r.number_is, refl)

        -- Nothing is at fault.
        pub says_passed : nowhere ≤ grammar_place nowhere k c → v.number ≡ 0 → Says v (tested counts nowhere k at c said)
        unfolding tested
        says_passed ruled e = rw (le-ltb _ _ limited, le-ltb _ _ named, le-ltb _ _ sorted, le-ltb _ _ ruled) e
