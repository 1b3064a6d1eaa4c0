-- No evidence file that is written or accepted is longer than `most_file`.
use Prim.Native.Nat.{ℕ, ◌≤◌}
use native.Mathlib.Omega.{arith}
use mathlib.Core.List.{List}
use mathlib.Core.Option.{none as nothing}
use mathlib.Core.Path.{◌≡◌, sym, subst}
use lib.ListN.{length}
use Rattle.forest.specs.Limits.{most_functions}
use Rattle.words.specs.declared.Limits.{Limits}
use Rattle.script.specs.Script.{Known}
use Rattle.script.specs.Response.{Body, in_script_order}
use Rattle.outcome.specs.Accepted.{Declined, TextsPass}
use Rattle.outcome.specs.Checked.{length_answer}
use Rattle.outcome.specs.Derived.{terms_of}
use Rattle.outcome.specs.declared.Answer.{Answer}
use Rattle.outcome.specs.declared.Outcome.{Outcome}
use Rattle.outcome.proofs.Stages.{refused_number}
use Rattle.outcome.proofs.Texts.{long_number, short_texts}
use Rattle.blocks.specs.Blocks.{file_of}
use Rattle.blocks.proofs.Laid.{file-length}
use Rattle.evidence.specs.Evidence.{Audited, Bytes, Filed, Followed, most_file}
use Rattle.evidence.proofs.Exact.{exact_from}
use Rattle.evidence.proofs.Storing.{eight_followed, eight_long, lists_bounded, rules_most}

-- The file of two texts that pass and of eight lists that derive the bodies.
file_sized : {limits : Limits} {script response : List ℕ} {k : Known} {bs : List Body} {lists : List (List ℕ)} → length_answer script response ≡ nothing
    → TextsPass limits script response k bs → Followed (in_script_order k.functions) (terms_of bs) lists → length lists ≡ most_functions
    → length (file_of script response lists) ≤ most_file
file_sized {script = script} {response} {lists = lists} short passing q eight =
    let both = short_texts script response short in
    omega (arith, both.0, both.1, eight, rules_most lists (lists_bounded passing q), file-length script response lists eight)

-- Whatever is written is no longer.
pub written_sized : {script response area : List ℕ} {answer : Answer} {size : ℕ} {after : List ℕ} → Filed script response area answer size after
    → size ≤ most_file
written_sized (Filed.too_long e) = omega arith
written_sized (Filed.declined n d) = omega arith
written_sized (Filed.area_short f l) = omega arith
written_sized (Filed.filed f l) = file_sized f.short f.accepted.passing (eight_followed f) (eight_long f)

-- An area of so many bytes is not too short for any.
pub area_enough : {script response area : List ℕ} {answer : Answer} {size : ℕ} {after : List ℕ} → Filed script response area answer size after
    → most_file ≤ length area → answer.outcome.number ≡ 17 → ⊥
area_enough {script} {response} (Filed.too_long e) room z = omega (arith, long_number script response e)
area_enough (Filed.declined n (Declined.texts_refused t)) room z = omega (arith, (refused_number t).most)
area_enough (Filed.declined n (Declined.underived p u)) room z = omega arith
area_enough (Filed.area_short f l) room z = omega (arith, file_sized f.short f.accepted.passing (eight_followed f) (eight_long f))
area_enough (Filed.filed f l) room z = omega arith

-- A file of bytes that is accepted is no longer.
pub accepted_sized : (file : List ℕ) → Bytes file → {o : Outcome} → Audited file o → o.number ≡ 0 → length file ≤ most_file
accepted_sized file bytes a z =
    let r = exact_from file bytes a z in
    subst (λ (f : List ℕ). length f ≤ most_file) (sym r.file_is) (file_sized r.short r.passing r.followed r.eight)
