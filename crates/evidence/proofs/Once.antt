-- No second outcome satisfies the contract of the check of an evidence file, nor that of its writing.
use Prim.Native.Nat.{ℕ, suc, ◌<◌, ◌≤◌}
use native.Mathlib.Omega.{arith}
use mathlib.Core.List.{List}
use mathlib.Core.Path.{◌≡◌, refl, sym, ap, ap₂, subst₂, ◌∙◌}
use lib.ListN.{length}
use Rattle.forest.proofs.Options.{never}
use Rattle.forest.specs.Tables.{over}
use Rattle.terms.specs.Labels.{Terms}
use Rattle.names.specs.Scopes.{Function}
use Rattle.script.specs.Script.{Known}
use Rattle.script.specs.Response.{Body, in_script_order}
use Rattle.outcome.specs.Checked.{TextsTold, refusal}
use Rattle.outcome.specs.Derived.{ListsShown, terms_of, totals}
use Rattle.outcome.specs.Located.{answer_numbers, located, no_location, unlocated}
use Rattle.outcome.specs.declared.Answer.{Answer}
use Rattle.outcome.specs.declared.Outcome.{Outcome}
use Rattle.outcome.proofs.Declined.{not_accepted, one_only}
use Rattle.outcome.proofs.Deriving.{lists_only}
use Rattle.outcome.proofs.Stages.{one-pass}
use Rattle.outcome.proofs.Texts.{one_told, told_small}
use Rattle.outcome.proofs.Unique.{answer_same}
use Rattle.blocks.specs.Blocks.{file_of}
use Rattle.blocks.specs.Layout.{lists_in, response_in, script_in}
use Rattle.evidence.specs.Evidence.{AuditForC, AuditGiven, Audited, FilePasses, Fileable, Filed, FiledForC, FirstUnfollowed, Followed, eight_lists}

-- Where each list derives its body so, and no absent function has one, there is no first that does not.
pub not_unfollowed : {fs : List Function} {ts : List Terms} {lists : List (List ℕ)} {j : ℕ} → Followed fs ts lists → FirstUnfollowed fs ts lists j → ⊥
not_unfollowed Followed.no_more u = elim u [ ]
not_unfollowed (Followed.absent more) (FirstUnfollowed.absent_later u) = not_unfollowed more u
not_unfollowed (Followed.also s more) (FirstUnfollowed.here n) = n s
not_unfollowed (Followed.also s more) (FirstUnfollowed.later t u) = not_unfollowed more u

-- "22 (function ..)": there is one first that does not.
pub one_unfollowed : {fs : List Function} {ts : List Terms} {lists : List (List ℕ)} {j i : ℕ} → FirstUnfollowed fs ts lists j → FirstUnfollowed fs ts lists i
    → j ≡ i
one_unfollowed (FirstUnfollowed.here n) (FirstUnfollowed.here m) = refl
one_unfollowed (FirstUnfollowed.here n) (FirstUnfollowed.later s u) = absurd (n s)
one_unfollowed FirstUnfollowed.absent_here FirstUnfollowed.absent_here = refl
one_unfollowed (FirstUnfollowed.later s u) (FirstUnfollowed.here n) = absurd (n s)
one_unfollowed (FirstUnfollowed.later s u) (FirstUnfollowed.later t v) = ap suc (one_unfollowed u v)
one_unfollowed (FirstUnfollowed.absent_later u) (FirstUnfollowed.absent_later v) = ap suc (one_unfollowed u v)

module _ {file : List ℕ} where
  -- Texts that pass through answer 12 have the answer 0.
  pass_told : {k : Known} {bs : List Body} → FilePasses file k bs → TextsTold (script_in file) (response_in file) (refusal 0 3 0)
  pass_told p = TextsTold.both_pass p.short p.passing.says p.passing.gives

  -- They are not refused.
  not_refused : {A : Type 0} {k : Known} {bs : List Body} {o : Outcome} → FilePasses file k bs → TextsTold (script_in file) (response_in file) o
      → (o.number ≡ 0 → ⊥) → A
  not_refused p t n = absurd (n (ap (λ (o : Outcome). o.number) (one_told t (pass_told p))))

  -- They say one thing, so the first list that does not derive its body is the same.
  moved : {k m : Known} {bs cs : List Body} {j : ℕ} → FilePasses file k bs → FilePasses file m cs
      → FirstUnfollowed (in_script_order k.functions) (terms_of bs) (lists_in file) j
      → FirstUnfollowed (in_script_order m.functions) (terms_of cs) (lists_in file) j
  moved {j = j} p q u =
      let same = one-pass p.passing q.passing in
      subst₂ (λ (k : Known) (bs : List Body). FirstUnfollowed (in_script_order k.functions) (terms_of bs) (lists_in file) j) same.0 same.1 u

  -- "Every public call has a stated outcome for every input ..; show that no second outcome would satisfy it": of the check of a file.
  pub one_audit : {o other : Outcome} → Audited file o → Audited file other → o ≡ other
  one_audit (Audited.wrong_block e) (Audited.wrong_block h) = cc
  one_audit (Audited.wrong_block e) (Audited.texts_refused n t z) = never (sym n ∙ e)
  one_audit (Audited.wrong_block e) (Audited.not_followed p u) = never (sym p.right ∙ e)
  one_audit (Audited.wrong_block e) (Audited.accepted p f) = never (sym p.right ∙ e)
  one_audit (Audited.texts_refused n t z) (Audited.wrong_block e) = never (sym n ∙ e)
  one_audit (Audited.texts_refused n t z) (Audited.texts_refused m u w) = one_told t u
  one_audit (Audited.texts_refused n t z) (Audited.not_followed p u) = not_refused p t z
  one_audit (Audited.texts_refused n t z) (Audited.accepted p f) = not_refused p t z
  one_audit (Audited.not_followed p u) (Audited.wrong_block e) = never (sym p.right ∙ e)
  one_audit (Audited.not_followed p u) (Audited.texts_refused n t z) = not_refused p t z
  one_audit (Audited.not_followed p u) (Audited.not_followed q v) = ap (refusal 22 3) (one_unfollowed (moved p q u) v)
  one_audit (Audited.not_followed p u) (Audited.accepted q f) = absurd (not_unfollowed f (moved p q u))
  one_audit (Audited.accepted p f) (Audited.wrong_block e) = never (sym p.right ∙ e)
  one_audit (Audited.accepted p f) (Audited.texts_refused n t z) = not_refused p t z
  one_audit (Audited.accepted p f) (Audited.not_followed q u) = absurd (not_unfollowed f (moved q p u))
  one_audit (Audited.accepted p f) (Audited.accepted q g) = refl

  -- The same of the answer with what it carries.
  pub audit_given : {answer other : Answer} → AuditGiven file answer → AuditGiven file other → answer ≡ other
  audit_given c d =
      let same = one_audit c.audited d.audited in
      let location = c.carried ∙ ap (located (script_in file) (response_in file)) same ∙ sym d.carried in
      answer_same same location (c.unweighed ∙ sym d.unweighed)

  -- The same of what C is given.
  pub audited_for_c : {number another : ℕ} {numbers others : List ℕ} → AuditForC file number numbers → AuditForC file another others
      → (number ≡ another) × (numbers ≡ others)
  audited_for_c c d =
      let same = audit_given c.given d.given in (
        c.number_is ∙ ap (λ (x : Answer). x.outcome.number) same ∙ sym d.number_is,
        c.numbers_are ∙ ap answer_numbers same ∙ sym d.numbers_are,
      )

-- The answers of the check of a file: "21 is tested first, then the texts' own answers, then 22".
pub data AuditNumber : ℕ → Type 0 where
  of_texts : {n : ℕ} → n ≤ 12 → AuditNumber n
  of_block : AuditNumber 21
  of_function : AuditNumber 22

-- There are no others.
pub audit_number : {file : List ℕ} {o : Outcome} → Audited file o → AuditNumber o.number
audit_number (Audited.wrong_block e) = of_block
audit_number (Audited.texts_refused n t z) = of_texts (told_small t)
audit_number (Audited.not_followed p u) = of_function
audit_number (Audited.accepted p f) = of_texts {n = 0} (omega arith)

-- They are small.
pub small_number : {n : ℕ} → AuditNumber n → n ≤ 22
small_number (of_texts h) = omega arith
small_number of_block = omega arith
small_number of_function = omega arith

module _ {script response : List ℕ} where
  module _ {k m : Known} {bs cs : List Body} {lists others : List (List ℕ)} (a : Fileable script response k bs lists) (b : Fileable script response m cs others)
    where
      -- What the script says is one thing.
      one_script : k ≡ m
      one_script = (one-pass a.accepted.passing b.accepted.passing).0

      -- "This ends the exception in document 01: the shown list is unique." (E13)
      one_lists : lists ≡ others
      one_lists =
          let same = one-pass a.accepted.passing b.accepted.passing in
          lists_only
          (subst₂ (λ (x : Known) (ys : List Body). ListsShown (in_script_order x.functions) (terms_of ys) lists) same.0 same.1 a.accepted.shown)
          b.accepted.shown

      -- So there is one file.
      one_file : file_of script response (eight_lists lists) ≡ file_of script response (eight_lists others)
      one_file = ap (λ (ls : List (List ℕ)). file_of script response (eight_lists ls)) one_lists

      -- And one list of totals.
      one_totals : totals (in_script_order k.functions) lists ≡ totals (in_script_order m.functions) others
      one_totals = ap₂ (λ (x : Known) (ls : List (List ℕ)). totals (in_script_order x.functions) ls) one_script one_lists

      -- An area is long enough for it or is not.
      not_short : {A : Type 0} {n : ℕ} → n < length (file_of script response (eight_lists lists)) → length (file_of script response (eight_lists others)) ≤ n → A
      not_short l h = let e = ap length one_file in absurd (omega arith)

  module _ {area : List ℕ} where
    -- "Every public call has a stated outcome for every input ..; show that no second outcome would satisfy it": of the writing of a file.
    pub one_filed : {answer other : Answer} {size sizeOther : ℕ} {after afterOther : List ℕ} → Filed script response area answer size after
        → Filed script response area other sizeOther afterOther → (answer ≡ other) × (size ≡ sizeOther) × (after ≡ afterOther)
    one_filed (Filed.too_long {answer = o} e) (Filed.too_long {answer = p} h) = let same : o ≡ p = cc in (ap unlocated same, refl, refl)
    one_filed (Filed.too_long e) (Filed.declined n d) = never (sym n ∙ e)
    one_filed (Filed.too_long e) (Filed.area_short f l) = never (sym f.short ∙ e)
    one_filed (Filed.too_long e) (Filed.filed f l) = never (sym f.short ∙ e)
    one_filed (Filed.declined n d) (Filed.too_long e) = never (sym n ∙ e)
    one_filed (Filed.declined n d) (Filed.declined m g) =
        let same = one_only d g in (answer_same same (ap (located script response) same) refl, refl, refl)
    one_filed (Filed.declined n d) (Filed.area_short f l) = absurd (not_accepted d f.accepted)
    one_filed (Filed.declined n d) (Filed.filed f l) = absurd (not_accepted d f.accepted)
    one_filed (Filed.area_short f l) (Filed.too_long e) = never (sym f.short ∙ e)
    one_filed (Filed.area_short f l) (Filed.declined n d) = absurd (not_accepted d f.accepted)
    one_filed (Filed.area_short f l) (Filed.area_short g h) = (refl, refl, refl)
    one_filed (Filed.area_short f l) (Filed.filed g h) = not_short f g l h
    one_filed (Filed.filed f l) (Filed.too_long e) = never (sym f.short ∙ e)
    one_filed (Filed.filed f l) (Filed.declined n d) = absurd (not_accepted d f.accepted)
    one_filed (Filed.filed f l) (Filed.area_short g h) = not_short g f h l
    one_filed (Filed.filed f l) (Filed.filed g h) =
        let same = one_file f g in
        (answer_same {l = no_location} refl refl (one_totals f g), ap length same, ap (λ (file : List ℕ). over file area) same)

    -- The same of what C is given.
    pub filed_for_c : {number another size sizeOther : ℕ} {numbers others after afterOther : List ℕ}
        → FiledForC script response area number numbers size after → FiledForC script response area another others sizeOther afterOther
        → (number ≡ another) × (numbers ≡ others) × (size ≡ sizeOther) × (after ≡ afterOther)
    filed_for_c c d =
        let same = one_filed c.given d.given in (
          c.number_is ∙ ap (λ (x : Answer). x.outcome.number) same.0 ∙ sym d.number_is,
          c.numbers_are ∙ ap answer_numbers same.0 ∙ sym d.numbers_are,
          same.1,
          same.2,
        )
