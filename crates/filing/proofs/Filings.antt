-- The answer of the writing of a file, from the derivations that are found and from the file that is written.
use Prim.Native.Nat.{ℕ, ◌*◌, ◌+◌, ◌^◌, ◌≤◌, ◌<◌}
use native.Mathlib.Omega.{arith}
use mathlib.Core.List.{List}
use mathlib.Core.Path.{◌≡◌, refl, sym, ap, subst, ◌∙◌}
use lib.ListN.{length}
use Rattle.forest.specs.Limits.{area_size}
use Rattle.forest.specs.Tables.{over}
use Rattle.words.specs.Limits.{response_limits}
use Rattle.words.specs.declared.Limits.{Limits}
use Rattle.outcome.specs.Checked.{refusal}
use Rattle.outcome.specs.Derived.{blank_area}
use Rattle.outcome.specs.Located.{located, no_location, unlocated}
use Rattle.outcome.specs.declared.Answer.{Answer}
use Rattle.outcome.specs.declared.Location.{Location}
use Rattle.outcome.specs.declared.Outcome.{Outcome}
use Rattle.outcome.specs.declared.Weighed.{Weighed}
use Rattle.both_texts.specs.code.Lengths.{LengthsTold}
use Rattle.blocks.specs.Blocks.{file_of}
use Rattle.blocks.specs.code.Lists.{file_length, rules_in}
use Rattle.blocks.specs.code.Shown.{lists_shown}
use Rattle.accepting.specs.code.Bodies.{TextsAnswered}
use Rattle.accepting.specs.declared.TextsWeighed.{TextsWeighed}
use Rattle.evidence.specs.Evidence.{Filed, eight_lists}
use Rattle.filing.specs.code.Filing.{AllFound, Derivable, ListsFound}
use Rattle.filing.specs.declared.Written.{Written}
use Rattle.filing.proofs.Showing.{area_long, length_is, length_small, shown_again}

-- What the answer on two texts and their bodies finds.
pub found_in : {limits : Limits} {script response names places nodes forms lent shown : List ℕ} {r : TextsWeighed} → limits ≡ response_limits
    → Derivable script response lent → TextsAnswered limits script response names places nodes forms r shown → ListsFound script response r.weighed shown
found_in {script = script} {response = response} {names} {places} {nodes} {forms} {shown = shown} {r = r} e given told =
    let answered = subst (λ (l : Limits). TextsAnswered l script response names places nodes forms r shown) e told in
    record {
      short = given.short;
      all! = λ zero.
          let all = answered.all! zero in
          record {
            k = all.both.known;
            bs = all.both.bodies;
            lists = all.lists;
            fileable = record { short = given.short; accepted = all.accepted };
            shown_is = all.area_is;
            weigh = all.weigh;
          };
      declined! = answered.declined!;
      unweighed! = answered.unweighed!;
    }

module _ {script response : List ℕ} {long : Outcome} (told : LengthsTold (length script) (length response) long) where
  -- A text that is too long.
  pub long_filed : {area : List ℕ} {answer : Answer} {w : Written} → (long.number ≡ 0 → ⊥) → answer ≡ unlocated long
      → w ≡ record { answer = answer; length = 0 } → Filed script response area w.answer w.length area
  long_filed other ea e = rw (e, ea) (Filed.too_long (told.refused other (record { script_is = refl; response_is = refl })))

  -- What the search for derivations asks of two that are not.
  pub to_derive : {shown : List ℕ} → long.number ≡ 0 → shown ≡ blank_area → Derivable script response shown
  to_derive zero blank = record { short = told.passes zero (record { script_is = refl; response_is = refl }); blank = blank }

module _ {script response shown : List ℕ} {found : Weighed} (given : ListsFound script response found shown) where
  -- Texts that are declined.
  pub declined_filed : {area : List ℕ} {l : Location} {w : Written} → (found.outcome.number ≡ 0 → ⊥) → l ≡ located script response found.outcome
      → w ≡ record { answer = record { outcome = found.outcome; location = l; totals = found.totals }; length = 0 }
      → Filed script response area w.answer w.length area
  declined_filed other el e = rw (e, el, given.unweighed! other) (Filed.declined given.short (given.declined! other))

  module _ (zero : found.outcome.number ≡ 0) where
    abbrev all : AllFound script response found.totals shown
    all = given.all! zero

    -- The area shows the eight lists of the file.
    eight_shown : lists_shown shown ≡ eight_lists all.lists
    eight_shown = ap lists_shown all.shown_is ∙ shown_again all.fileable

    -- It has its size.
    pub area_sized : length shown ≡ area_size
    area_sized = ap length all.shown_is ∙ area_long all.fileable

    -- The length of the file is a number.
    pub length_fits : {rules : ℕ} → rules ≡ rules_in (lists_shown shown) → length script + length response + 2 * rules < 2 ^ 62
    length_fits e = rw (e, eight_shown) (length_small all.fileable)

    module _ {rules size : ℕ} (er : rules ≡ rules_in (lists_shown shown)) (es : size ≡ file_length (length script) (length response) rules) where
      size_is : size ≡ length (file_of script response (eight_lists all.lists))
      size_is = es ∙ ap (file_length (length script) (length response)) (er ∙ ap rules_in eight_shown) ∙ sym (length_is all.fileable)

      -- An area that is too short.
      pub short_filed : {area : List ℕ} {o : Outcome} {answer : Answer} {w : Written} → length area < size → o ≡ refusal 17 3 (length area)
          → answer ≡ unlocated o → w ≡ record { answer = answer; length = 0 } → Filed script response area w.answer w.length area
      short_filed low eo ea e = rw (e, ea, eo) (Filed.area_short all.fileable (omega (arith, size_is, low)))

      -- There is room for the file.
      pub file_fits : {room : ℕ} → size ≤ room → length (file_of script response (lists_shown shown)) ≤ room
      file_fits h = rw eight_shown (omega (arith, size_is, h))

      -- The file is written.
      pub is_filed : {area : List ℕ} {o : Outcome} {n : ℕ} {after : List ℕ} → size ≤ length area → n ≡ length (file_of script response (lists_shown shown))
          → after ≡ over (file_of script response (lists_shown shown)) area → o ≡ refusal 0 3 0
          → Filed script response area (record { outcome = o; location = no_location; totals = found.totals }) n after
      is_filed {area} h en ea eo =
          let room : length (file_of script response (eight_lists all.lists)) ≤ length area = omega (arith, size_is, h) in
          rw (en, ea, eo, all.weigh, eight_shown) (Filed.filed all.fileable room)
