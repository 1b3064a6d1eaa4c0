-- "Whatever our writer makes is accepted".
use Prim.Native.Nat.{ℕ, ◌≤◌}
use native.Mathlib.Omega.{arith}
use mathlib.Core.List.{List}
use mathlib.Core.Path.{◌≡◌, refl}
use lib.ListN.{drop, length, length-append, length-drop, take}
use lib.Seq.{drop-append_seam, take-append_seam}
use Rattle.words.specs.declared.Limits.{Limits}
use Rattle.script.specs.Script.{Known}
use Rattle.script.specs.Response.{Body}
use Rattle.outcome.specs.Accepted.{Declined}
use Rattle.outcome.specs.Checked.{refusal}
use Rattle.outcome.specs.declared.Answer.{Answer}
use Rattle.outcome.specs.declared.Outcome.{Outcome}
use Rattle.outcome.proofs.Stages.{refused_number}
use Rattle.outcome.proofs.Texts.{long_number}
use Rattle.blocks.specs.Blocks.{file_of}
use Rattle.evidence.specs.Evidence.{Audited, Fileable, Filed, eight_lists}
use Rattle.evidence.proofs.Exact.{exact_to}
use Rattle.evidence.proofs.Storing.{eight_followed, eight_long}

-- The answers 2 to 13 are not 0.
declined_some : {limits : Limits} {script response : List ℕ} {o : Outcome} → Declined limits script response o → 1 ≤ o.number
declined_some (Declined.texts_refused t) = (refused_number t).least
declined_some (Declined.underived p u) = omega arith

-- What the writer makes: the file of two texts that pass through 13, and of the lists that are shown for their bodies.
pub record Made (script response : List ℕ) (size : ℕ) (after : List ℕ) : Type 0 where
  pub k : Known
  pub bs : List Body
  pub lists : List (List ℕ)
  pub given : Fileable script response k bs lists
  pub size_is : size ≡ length (file_of script response (eight_lists lists))
  pub file_is : take size after ≡ file_of script response (eight_lists lists)

module _ {script response area : List ℕ} where
  -- It makes nothing else.
  pub made : {answer : Answer} {size : ℕ} {after : List ℕ} → Filed script response area answer size after → answer.outcome.number ≡ 0
      → Made script response size after
  made (Filed.too_long e) z = absurd (omega (arith, long_number script response e))
  made (Filed.declined n d) z = absurd (omega (arith, declined_some d))
  made (Filed.area_short f l) z = absurd (omega arith)
  made (Filed.filed {k = k} {bs} {lists} f l) z = record {
    k = k;
    bs = bs;
    lists = lists;
    given = f;
    size_is = refl;
    file_is = take-append_seam (file_of script response (eight_lists lists)) (drop (length (file_of script response (eight_lists lists))) area);
  }

  -- "Whatever our writer makes is accepted"
  pub written_accepted : {answer : Answer} {size : ℕ} {after : List ℕ} → Filed script response area answer size after → answer.outcome.number ≡ 0
      → Audited (take size after) (refusal 0 3 0)
  written_accepted f z =
      let m = made f z in
      exact_to (record {
        script = script;
        response = response;
        lists = eight_lists m.lists;
        k = m.k;
        bs = m.bs;
        file_is = m.file_is;
        eight = eight_long m.given;
        short = m.given.short;
        passing = m.given.accepted.passing;
        followed = eight_followed m.given;
      })

  -- "a refusal leaves it unchanged": it makes no file then.
  pub area_kept : {answer : Answer} {size : ℕ} {after : List ℕ} → Filed script response area answer size after → (answer.outcome.number ≡ 0 → ⊥)
      → (size ≡ 0) × (after ≡ area)
  area_kept (Filed.too_long e) other = (refl, refl)
  area_kept (Filed.declined n d) other = (refl, refl)
  area_kept (Filed.area_short f l) other = (refl, refl)
  area_kept (Filed.filed f l) other = absurd (other refl)

  -- "past the file it stays as lent", and is as long as it was.
  pub rest_kept : {answer : Answer} {size : ℕ} {after : List ℕ} → Filed script response area answer size after
      → (drop size after ≡ drop size area) × (length after ≡ length area)
  rest_kept (Filed.too_long e) = (refl, refl)
  rest_kept (Filed.declined n d) = (refl, refl)
  rest_kept (Filed.area_short f l) = (refl, refl)
  rest_kept (Filed.filed {lists = lists} f l) =
      let file = file_of script response (eight_lists lists) in (
        drop-append_seam file (drop (length file) area),
        omega (arith, length-append file (drop (length file) area), length-drop (length file) area),
      )
