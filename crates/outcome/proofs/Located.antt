-- An answer that carries the end, the line and the column of its place speaks of texts whose sizes are right.
use Prim.Native.Nat.{ℕ, ◌≤◌}
use mathlib.Core.Bool.{true}
use mathlib.Core.List.{List}
use mathlib.Core.Path.{◌≡◌, ap, sym, ◌∙◌}
use lib.ListN.{length}
use Rattle.forest.proofs.Bools.{apart}
use Rattle.forest.specs.Limits.{response_bytes, script_bytes}
use Rattle.outcome.specs.Checked.{Checked, TextsTold, both_pass, judged, missized, refused, texts_refused, too_long}
use Rattle.outcome.specs.Located.{carries}
use Rattle.outcome.specs.declared.Outcome.{Outcome}
use Rattle.outcome.proofs.Stages.{missized_one, sized_texts}
use Rattle.outcome.proofs.Texts.{long_number, short_texts}

-- Answer 1 carries nothing, and every other comes after all sizes were right.
pub carrying_sized : {script response points : List ℕ} {budget : ℕ} {area : List ℕ} {o : Outcome} {a w : List ℕ}
    → Checked script response points budget area o a w
    → carries o.number ≡ true → (length script ≤ script_bytes) × (length response ≤ response_bytes)
carrying_sized {script} {response} {points} {area = area} (missized e) t = apart (ap carries (sym (missized_one script response points area e).number) ∙ t)
carrying_sized {script} {response} {points} {area = area} (texts_refused z u) t = sized_texts script response points area z
carrying_sized {script} {response} {points} {area = area} (judged p v) t = sized_texts script response points area p.sized

-- So it is of the texts' own answer.
pub telling_sized : {script response : List ℕ} {o : Outcome} → TextsTold script response o → carries o.number ≡ true
    → (length script ≤ script_bytes) × (length response ≤ response_bytes)
telling_sized {script} {response} (too_long e) t = apart (ap carries (sym (long_number script response e)) ∙ t)
telling_sized {script} {response} (refused n u) t = short_texts script response n
telling_sized (both_pass n s g) t = apart t
