-- The texts' own answer, from the call that reads them.
use Prim.Native.Nat.{ℕ}
use mathlib.Core.Path.{◌≡◌, refl, subst}
use mathlib.Core.List.{List}
use mathlib.Core.Option.{none as nothing}
use lib.ListN.{length}
use Rattle.words.specs.Limits.{response_limits}
use Rattle.words.specs.declared.Limits.{Limits}
use Rattle.script.specs.Outcome.{given, response_within}
use Rattle.outcome.specs.Checked.{TextsRefused, TextsTold, both_pass, length_answer, refusal, refused, too_long}
use Rattle.outcome.specs.code.Texts.{no_text}
use Rattle.outcome.specs.declared.Outcome.{Outcome}
use Rattle.both_texts.specs.code.Both.{TextsRead}
use Rattle.both_texts.specs.declared.Told.{Told}
use Rattle.both_texts.specs.code.Lengths.{LengthsTold}

-- the texts' own answer, where one is too long
pub texts_long : {script response : List ℕ} {t : Outcome} → LengthsTold (length script) (length response) t → (t.number ≡ 0 → ⊥) → TextsTold script response t
texts_long lengths long = too_long (lengths.refused long (record { script_is = refl; response_is = refl }))

-- and where neither is
pub texts_short : (script response : List ℕ) {t : Outcome} → LengthsTold (length script) (length response) t → t.number ≡ 0
    → length_answer script response ≡ nothing
texts_short script response lengths zero = lengths.passes zero (record { script_is = refl; response_is = refl })

module _ {limits : Limits} {script response names places nodes forms : List ℕ} {r : Told} (e : limits ≡ response_limits)
    (short : length_answer script response ≡ nothing) (read : TextsRead limits script response names places nodes forms r) where
  -- where one is refused
  pub one_told : (r.outcome.number ≡ 0 → ⊥) → TextsTold script response r.outcome
  one_told other = refused short (subst (λ (l : Limits). TextsRefused l script response r.outcome) e (read.one! other))

  -- and where both pass
  pub both_told : {o : Outcome} → r.outcome.number ≡ 0 → o ≡ refusal 0 no_text 0 → TextsTold script response o
  both_told zero is =
      let both = read.both! zero in
      let gives = subst (λ (l : Limits). response_within l both.known response ≡ given both.bodies) e both.passing.gives in
      rw is (both_pass short both.passing.says gives)
