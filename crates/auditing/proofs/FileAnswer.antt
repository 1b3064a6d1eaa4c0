-- The answer on a file with what it carries, from its blocks, its lengths and its texts.
use Prim.Native.Nat.{ℕ, ◌+◌, ◌≤◌}
use native.Mathlib.Omega.{arith}
use mathlib.Core.List.{List}
use mathlib.Core.Option.{none as nothing, some}
use mathlib.Core.Path.{◌≡◌, refl, sym, ap, subst₂, ◌∙◌}
use lib.ListN.{drop, length, take}
use Rattle.outcome.specs.Checked.{length_answer, refusal, too_long}
use Rattle.outcome.specs.Derived.{no_totals}
use Rattle.outcome.specs.Located.{located, unlocated}
use Rattle.outcome.specs.code.Texts.{no_text}
use Rattle.outcome.specs.declared.Answer.{Answer}
use Rattle.outcome.specs.declared.Location.{Location}
use Rattle.outcome.specs.declared.Outcome.{Outcome}
use Rattle.outcome.proofs.Texts.{long_number}
use Rattle.blocks.specs.Blocks.{payload_in}
use Rattle.blocks.specs.Layout.{file_fault, response_in, response_length_in, script_in, script_length_in}
use Rattle.blocks.specs.code.Below.{Below}
use Rattle.blocks.proofs.Parts.{needed_within, response-size, script-size}
use Rattle.both_texts.specs.code.Lengths.{LengthsTold, Sized}
use Rattle.evidence.specs.Evidence.{AuditGiven, Audited, texts_refused, wrong_block}
use Rattle.auditing.specs.code.Files.{FileTexts, TextRooms}

-- The texts of a file are answered with what the answer carries of them.
pub texts_given : {file script response : List ℕ} {o : Outcome} {l : Location} {w : List ℕ} → FileTexts file script response → Audited file o
    → l ≡ located script response o → w ≡ no_totals → AuditGiven file (record { outcome = o; location = l; totals = w })
texts_given {o = o} {l = l} texts audited is none =
    record {
      audited = audited;
      carried = subst₂ (λ (a b : List ℕ). l ≡ located a b o) texts.script_is texts.response_is is;
      unweighed = none;
    }

module _ {file script response : List ℕ} (rooms : TextRooms file script response) where
  -- The payload has the bytes of the script.
  pub script_within : 24 + length script ≤ length (payload_in file)
  script_within = omega (arith, needed_within file rooms.right, rooms.script_long)

  module _ {n : ℕ} (en : n ≡ length script) where
    -- And those of the response behind them.
    pub response-within : 24 + n + length response ≤ length (payload_in file)
    response-within = omega (arith, needed_within file rooms.right, rooms.script_long, rooms.response_long)

    -- What is copied are the texts of the file.
    pub texts_copied : {a b : List ℕ} → a ≡ take (length script) (drop 24 (payload_in file)) → b ≡ take (length response) (drop (24 + n) (payload_in file))
        → FileTexts file a b
    unfolding script_in response_in
    texts_copied {a} {b} ea eb =
        let one : a ≡ script_in file = ea ∙ ap (λ (m : ℕ). take m (drop 24 (payload_in file))) rooms.script_long in
        let two : b ≡ response_in file =
        eb
        ∙ ap (λ (m : ℕ). take m (drop (24 + n) (payload_in file))) rooms.response_long
        ∙ ap (λ (m : ℕ). take (response_length_in file) (drop (24 + m) (payload_in file))) (en ∙ rooms.script_long) in
        record {
          right = rooms.right;
          script_is = one;
          response_is = two;
          short = subst₂ (λ (x y : List ℕ). length_answer x y ≡ nothing) (sym one) (sym two) rooms.short;
        }

module _ (file : List ℕ) where
  -- A block is at fault.
  pub block_told : {w : ℕ} → file_fault file ≡ some w → {o : Outcome} {answer : Answer} → o ≡ refusal 21 no_text w → answer ≡ unlocated o
      → AuditGiven file answer
  unfolding located
  block_told fault eo is = rw (is, eo) (record { audited = wrong_block fault; carried = refl; unweighed = refl })

  module _ (right : file_fault file ≡ nothing) {s r bound : ℕ} (es : Below (script_length_in file) bound s) (er : Below (response_length_in file) bound r) {o : Outcome}
      (lengths : LengthsTold s r o) where
    -- The texts of a file without a fault are as long as it says.
    sized : Sized s r (script_in file) (response_in file)
    sized =
        record {
          script_is = script-size file right ∙ sym es.is;
          response_is = response-size file right ∙ sym er.is;
        }

    -- A text is too long.
    pub long_told : (o.number ≡ 0 → ⊥) → {answer : Answer} → answer ≡ unlocated o → AuditGiven file answer
    unfolding located
    long_told other is =
        let e : length_answer (script_in file) (response_in file) ≡ some o = lengths.refused other sized in
        let number : o.number ≡ 1 = long_number (script_in file) (response_in file) e in
        rw is (record { audited = texts_refused right (too_long e) other; carried = rw number refl; unweighed = refl })

    -- Neither is, and what is lent has room for them.
    pub rooms_right : o.number ≡ 0 → {script response : List ℕ} → length script ≡ s → length response ≡ r → TextRooms file script response
    rooms_right zero ls lr =
        record {
          right = right;
          short = lengths.passes zero sized;
          script_long = ls ∙ es.is;
          response_long = lr ∙ er.is;
        }
