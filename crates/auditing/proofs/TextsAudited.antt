-- The answer on the texts of a file without a fault, from the calls that read them and follow the lists.
use Prim.Native.Nat.{ℕ}
use Rattle.std.proofs.Common.{None, Some}
use mathlib.Core.List.{List}
use mathlib.Core.Option.{none as nothing}
use mathlib.Core.Path.{◌≡◌, subst, subst₂}
use Rattle.words.specs.Limits.{response_limits}
use Rattle.words.specs.declared.Limits.{Limits}
use Rattle.outcome.specs.Accepted.{TextsPass}
use Rattle.outcome.specs.Checked.{TextsRefused, TextsTold, length_answer, refusal, refused}
use Rattle.outcome.specs.code.Texts.{no_text}
use Rattle.outcome.specs.declared.Outcome.{Outcome}
use Rattle.both_texts.specs.code.Both.{TextsRead}
use Rattle.both_texts.specs.declared.Told.{Told}
use Rattle.evidence.specs.Evidence.{Audited, FilePasses, accepted, not_followed, texts_refused}
use Rattle.auditing.specs.code.Files.{FileTexts}
use Rattle.auditing.specs.code.Lists.{AllFollowed, FileHeld}

module _ {limits : Limits} {file script response names places nodes forms : List ℕ} {r : Told} (e : limits ≡ response_limits)
    (texts : FileTexts file script response) (read : TextsRead limits script response names places nodes forms r) where
  -- a text is refused
  pub text_refused : (r.outcome.number ≡ 0 → ⊥) → Audited file r.outcome
  text_refused other =
      let told : TextsTold script response r.outcome =
      refused texts.short (subst (λ (l : Limits). TextsRefused l script response r.outcome) e (read.one! other)) in
      texts_refused texts.right (subst₂ (λ (a b : List ℕ). TextsTold a b r.outcome) texts.script_is texts.response_is told) other

  module _ (zero : r.outcome.number ≡ 0) where
    -- the tables hold both texts where they pass
    abbrev pub file_held : FileHeld file places nodes forms r.progress
    file_held =
        record {
          right = texts.right;
          text = response;
          names = names;
          known = (read.both! zero).known;
          bodies = (read.both! zero).bodies;
          held = (read.both! zero).held;
        }

    -- and the file passes but for its lists
    passes : FilePasses file file_held.known file_held.bodies
    passes =
        let own : TextsPass response_limits script response file_held.known file_held.bodies =
        subst (λ (l : Limits). TextsPass l script response file_held.known file_held.bodies) e (read.both! zero).passing in
        record {
          right = texts.right;
          short = subst₂ (λ (a b : List ℕ). length_answer a b ≡ nothing) texts.script_is texts.response_is texts.short;
          passing = subst₂ (λ (a b : List ℕ). TextsPass response_limits a b file_held.known file_held.bodies) texts.script_is texts.response_is own;
        }

    -- a list is not as it must be
    pub one_unfollowed : {j : ℕ} → AllFollowed file places nodes forms r.progress (Some j) → {o : Outcome} → o ≡ refusal 22 no_text j → Audited file o
    one_unfollowed first is = rw is (not_followed passes (first file_held))

    -- each is
    pub all_followed : AllFollowed file places nodes forms r.progress None → {o : Outcome} → o ≡ refusal 0 no_text 0 → Audited file o
    all_followed all is = rw is (accepted passes (all file_held))
