-- The two texts, from the calls that read them.
use Prim.Native.Nat.{ℕ, ◌+◌, ◌*◌}
use native.Mathlib.Omega.{arith}
use mathlib.Core.Path.{◌≡◌, refl, sym, ap, ◌∙◌}
use mathlib.Core.List.{List}
use lib.ListN.{get_or-replicate, length, length-replicate, replicate}
use Rattle.words.specs.Limits.{response_limits}
use Rattle.words.specs.declared.Limits.{Limits}
use Rattle.names.specs.code.Lookup.{Names}
use Rattle.names.specs.code.Table.{row_count, row_width as nameWidth}
use Rattle.script.specs.Script.{Known}
use Rattle.script.specs.code.Places.{places_length}
use Rattle.script.specs.declared.Progress.{Progress}
use Rattle.script.specs.declared.Verdict.{Verdict}
use Rattle.script_reader.specs.declared.Step.{Step}
use Rattle.script.specs.Outcome.{ResponseOutcome, ScriptOutcome, given, response_within, said, script_outcome}
use Rattle.texts.specs.code.Responses.{Ready, ResponseRead, ResponseTold}
use Rattle.texts.specs.code.Scripts.{Lent as ScriptLent, ScriptRead, ScriptTold}
use Rattle.script.proofs.Numbers.{Numbered, in_response, in_script, response_numbered, script_numbered}
use Rattle.outcome.specs.code.Texts.{script_text, response_text}
use Rattle.outcome.proofs.Script.{script_assured}
use Rattle.outcome.specs.Checked.{refusal, refusal_with, response_refused, script_refused}
use Rattle.outcome.specs.declared.Outcome.{Outcome}
use Rattle.both_texts.specs.code.Both.{Lent, Rooms, TextsRead}
use Rattle.both_texts.proofs.BothTables.{held}

-- the tables that are lent, within the limits of a response
pub lent : {limits : Limits} {script response names places nodes forms : List ℕ} → limits ≡ response_limits → Names names → length places ≡ places_length
    → Rooms response_limits script response nodes forms → Lent limits script response names places nodes forms
lent e table long rooms = rw e (record { few_words = omega arith; table = table; long = long; rooms = rooms })

-- what the reading of a script asks
pub to_read : {limits : Limits} {script response names places nodes forms : List ℕ} → Lent limits script response names places nodes forms
    → ScriptLent script names places nodes forms
to_read lent =
    record {
      table = lent.table;
      long = lent.long;
      nodes_room = record { room = λ n few short. omega (arith, lent.rooms.nodes_room n 0 few short (omega arith) (omega arith)) };
      forms_room = lent.rooms.forms_room;
    }

-- a table of zeros is one of names
pub blank_names : Names (replicate (nameWidth * row_count) 0)
blank_names =
    record {
      sized = length-replicate {A = ℕ} (nameWidth * row_count) 0;
      short = λ r h. rw (get_or-replicate {A = ℕ} (nameWidth * row_count) (nameWidth * r + 3) 0 0 (omega arith)) (omega arith);
      narrow = λ r h. rw (get_or-replicate {A = ℕ} (nameWidth * row_count) (nameWidth * r) 0 0 (omega arith)) (omega arith);
    }

module _ {script names places nodes forms : List ℕ} {s : Step} (read : ScriptRead script names places nodes forms s) where
  -- a script that is refused
  pub script_declined : {limits : Limits} {response : List ℕ} {o : Outcome} {p : Progress} → o ≡ refusal_with s.number script_text s.place s.second
      → (s.number ≡ 0 → ⊥) → TextsRead limits script response names places nodes forms (record { outcome = o; progress = p })
  script_declined {limits} {response} {o} {p} e some = go (script_outcome script) refl read.told
    where
      go : (t : ScriptOutcome) → script_outcome script ≡ t → ScriptTold t script names places nodes forms s
          → TextsRead limits script response names places nodes forms (record { outcome = o; progress = p })
      go (ScriptOutcome.faulty number offset second) is (n, at, also) =
          record {
            both! = λ zero. absurd (some (sym (ap (λ (x : Outcome). x.number) e) ∙ zero));
            one! = λ other. rw (e, n, at, also) (script_refused is);
          }
      go (said k) is (n, holds, few, short) = absurd (some n)

  module _ (none : s.number ≡ 0) where
    -- what a script that passes says
    pub record Passed : Type 0 where
      pub known : Known
      pub is : script_outcome script ≡ said known
      pub told : ScriptTold (said known) script names places nodes forms s

    -- a script without a number passes
    abbrev pub script_passed : Passed
    script_passed = go (script_outcome script) refl read.told
      where
        go : (o : ScriptOutcome) → script_outcome script ≡ o → ScriptTold o script names places nodes forms s → Passed
        go (ScriptOutcome.faulty number offset second) e (f, g, also) =
            let h : Numbered in_script (ScriptOutcome.faulty number offset second) = rw e at (script_numbered script) in
            absurd (omega (arith, h.some))
        go (said k) e told = record { known = k; is = e; told = told }

    module _ {limits : Limits} {response namesBefore placesBefore nodesBefore formsBefore : List ℕ}
        (lent : Lent limits script response namesBefore placesBefore nodesBefore formsBefore) (same : length nodes ≡ length nodesBefore) where
      -- the tables are ready for a response
      abbrev pub ready : Ready limits response names places nodes s.progress
      ready =
          record {
            known = script_passed.known;
            forms = forms;
            tables = script_passed.told.1;
            few_words = lent.few_words;
            nodes_room = λ n few short. rw same (lent.rooms.nodes_room s.progress.nodes n script_passed.told.2 script_passed.told.3 few short);
          }

      -- a response to a script that passes
      pub response_read : {placesAfter nodesAfter : List ℕ} {v : Verdict} {o : Outcome}
          → ((q : Ready limits response names places nodes s.progress) → ResponseRead q placesAfter nodesAfter v)
          → o ≡ refusal v.number response_text v.place
          → TextsRead limits script response names placesAfter nodesAfter forms (record { outcome = o; progress = s.progress })
      response_read {placesAfter} {nodesAfter} {v} {o} answers e =
          go (response_within limits script_passed.known response) refl (answers ready).told
        where
          go : (t : ResponseOutcome) → response_within limits script_passed.known response ≡ t
              → ResponseTold t script_passed.known response placesAfter nodesAfter forms s.progress v
              → TextsRead limits script response names placesAfter nodesAfter forms (record { outcome = o; progress = s.progress })
          go (ResponseOutcome.faulty number offset) is (n, at) =
              let h : Numbered in_response (ResponseOutcome.faulty number offset) = rw is at (response_numbered limits script_passed.known response) in
              record {
                both! = λ zero. absurd (omega (arith, h.some, ap (λ (x : Outcome). x.number) e));
                one! = λ other. rw (e, n, at) (response_refused script_passed.is is);
              }
          go (given bs) is told =
              record {
                both! = λ zero.
                    record {
                      known = script_passed.known;
                      bodies = bs;
                      passing = record { says = script_passed.is; gives = is };
                      held = held limits response v (script_assured script script_passed.is) script_passed.told.1 is told;
                    };
                one! = λ other. absurd (other (ap (λ (x : Outcome). x.number) e ∙ told.0));
              }
