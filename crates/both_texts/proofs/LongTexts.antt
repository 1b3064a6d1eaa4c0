-- The lengths of two texts.
use Prim.Native.Nat.{ℕ, ◌≤◌, ◌<◌}
use native.Mathlib.Omega.{arith}
use mathlib.Core.Path.{◌≡◌, refl}
use borrow.Author.Tests.{le-ltb, lt-ltb}
use Rattle.forest.specs.Limits.{response_bytes, script_bytes}
use Rattle.script.specs.code.Answers.{long_answer}
use Rattle.outcome.specs.Checked.{length_answer, refusal}
use Rattle.outcome.specs.code.Texts.{script_text, response_text, no_text}
use Rattle.outcome.specs.declared.Outcome.{Outcome}
use Rattle.both_texts.specs.code.Lengths.{LengthsTold}

module _ {script response : ℕ} {r : Outcome} where
  -- a script that is too long
  pub script_long : r ≡ refusal long_answer script_text script → script_bytes < script → LengthsTold script response r
  unfolding length_answer
  script_long e h =
      rw e
      (record {
        refused = λ other s. rw (s.script_is, lt-ltb script_bytes script h);
        passes = λ zero. absurd (omega arith);
        short = λ zero. absurd (omega arith);
      })

  module _ (script-fits : script ≤ script_bytes) where
    -- a response that is too long
    pub response_long : r ≡ refusal long_answer response_text response → response_bytes < response → LengthsTold script response r
    unfolding length_answer
    response_long e h =
        rw e
        (record {
          refused = λ other s. rw (s.script_is, s.response_is, le-ltb script_bytes script script-fits, lt-ltb response_bytes response h);
          passes = λ zero. absurd (omega arith);
          short = λ zero. absurd (omega arith);
        })

    -- two texts that are not
    pub both_short : response ≤ response_bytes → r ≡ refusal 0 no_text 0 → LengthsTold script response r
    unfolding length_answer
    both_short h e =
        rw e
        (record {
          refused = λ other. absurd (other refl);
          passes = λ zero s. rw (s.script_is, s.response_is, le-ltb script_bytes script script-fits, le-ltb response_bytes response h);
          short = λ zero. (script-fits, h);
        })
