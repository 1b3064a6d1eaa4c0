-- "any one changed byte makes its block refused"
use Prim.Native.Nat.{ℕ, ◌/◌, ◌<◌}
use native.Mathlib.Omega.{arith}
use mathlib.Core.List.{List}
use mathlib.Core.Option.{none as nothing}
use mathlib.Core.Path.{◌≡◌, refl, ap, sym, subst, ◌∙◌}
use lib.ListN.{get_or, length, set, take}
use lib.Seq.{get_or-take, take-set-lt}
use Rattle.outcome.specs.Checked.{refusal}
use Rattle.outcome.specs.declared.Answer.{Answer}
use Rattle.outcome.specs.declared.Outcome.{Outcome}
use Rattle.blocks.specs.Layout.{file_fault}
use Rattle.blocks.proofs.Parts.{changed_refused}
use Rattle.evidence.specs.Evidence.{Audited, Bytes, Filed, eight_lists}
use Rattle.evidence.proofs.Bytes.{file_bytes}
use Rattle.evidence.proofs.Written.{made, written_accepted}

-- A file of which no block is refused has no fault.
no_fault : {file : List ℕ} {o : Outcome} → Audited file o → (o.number ≡ 21 → ⊥) → file_fault file ≡ nothing
no_fault (Audited.wrong_block e) other = absurd (other refl)
no_fault (Audited.texts_refused n t z) other = n
no_fault (Audited.not_followed p u) other = p.right
no_fault (Audited.accepted p f) other = p.right

-- "any one changed byte makes its block refused": in a file of bytes that is accepted, or refused for its texts or its lists alone.
pub changed : (file : List ℕ) → Bytes file → {o : Outcome} → Audited file o → (o.number ≡ 21 → ⊥) → (i b : ℕ) → i < length file
    → b < 256 → (b ≡ get_or file i 0 → ⊥) → Audited (set file i b) (refusal 21 3 (i / 512))
changed file bytes audited other i b inside byte another = Audited.wrong_block (changed_refused file (no_fault audited other) bytes i b inside byte another)

-- "Whatever our writer makes is accepted, and any one changed byte makes its block refused": of texts of bytes, in the area afterwards.
pub written_changed : {script response area : List ℕ} {answer : Answer} {size : ℕ} {after : List ℕ} → Bytes script → Bytes response
    → Filed script response area answer size after → answer.outcome.number ≡ 0 → (i b : ℕ) → i < size → b < 256 → (b ≡ get_or after i 0 → ⊥)
    → Audited (take size (set after i b)) (refusal 21 3 (i / 512))
written_changed {script} {response} {size = size} {after} in-script in-response f zero i b inside byte other =
    let m = made f zero in
    let bytes = subst Bytes (sym m.file_is) (file_bytes script response (eight_lists m.lists) in-script in-response) in
    let long : i < length (take size after) = omega (arith, ap length m.file_is, m.size_is) in
    subst (λ (file : List ℕ). Audited file (refusal 21 3 (i / 512))) (sym (take-set-lt size after i b inside))
    (changed (take size after) bytes (written_accepted f zero) (λ e. absurd (omega arith)) i b long byte (λ e. other (e ∙ get_or-take size after i 0 inside)))
