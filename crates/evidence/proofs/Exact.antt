-- "A separate checker accepts it exactly when blocks, lengths and zero filling are right, no block is spare, script and response pass through answer 12, and
-- each list derives its body without using a non-terminal twice at one place."
use Prim.Native.Nat.{ℕ, zero, suc}
use native.Mathlib.Omega.{arith}
use mathlib.Core.List.{List}
use mathlib.Core.Option.{none as nothing}
use mathlib.Core.Path.{◌≡◌, refl, sym, ap, subst, subst₂}
use lib.ListN.{length}
use Rattle.words.specs.Limits.{response_limits}
use Rattle.script.specs.Response.{in_script_order}
use Rattle.outcome.specs.Accepted.{TextsPass}
use Rattle.outcome.specs.Checked.{length_answer, refusal}
use Rattle.outcome.specs.Derived.{terms_of}
use Rattle.outcome.specs.declared.Outcome.{Outcome}
use Rattle.blocks.specs.Blocks.{file_of}
use Rattle.blocks.specs.Layout.{Storable, lists_from, lists_in}
use Rattle.blocks.proofs.Stored.{lists_again, response_again, script_again, stored_right}
use Rattle.blocks.proofs.Whole.{whole_file}
use Rattle.evidence.specs.Evidence.{Audited, Bytes, FilePasses, Followed, RightFile}
use Rattle.evidence.proofs.Storing.{followed_storable}

-- A file holds so many lists.
lists_long : (file : List ℕ) (j n : ℕ) → length (lists_from file j n) ≡ n
unfolding lists_from
lists_long file j zero = refl
lists_long file j (suc n) = ap suc (lists_long file (suc j) n)

-- "accepts it exactly when ..": a file of bytes that is accepted is such a file, of the texts and lists that it says.
pub exact_from : (file : List ℕ) → Bytes file → {o : Outcome} → Audited file o → o.number ≡ 0 → RightFile file
exact_from file bytes (Audited.wrong_block e) z = absurd (omega arith)
exact_from file bytes (Audited.texts_refused n t no_zero) z = absurd (no_zero z)
exact_from file bytes (Audited.not_followed p u) z = absurd (omega arith)
exact_from file bytes (Audited.accepted p f) z = record {
  script = _;
  response = _;
  lists = lists_in file;
  k = _;
  bs = _;
  file_is = sym (whole_file file bytes p.right);
  eight = lists_long file 0 8;
  short = p.short;
  passing = p.passing;
  followed = f;
}

module _ {file : List ℕ} (r : RightFile file) where
  -- What such a file is made of can be stored.
  storable : Storable r.script r.response r.lists
  storable = followed_storable r.short r.passing r.followed r.eight

  -- It has no fault, and its texts pass.
  passes : FilePasses (file_of r.script r.response r.lists) r.k r.bs
  passes =
      let script_is = sym (script_again r.script r.response r.lists storable) in
      let response_is = sym (response_again r.script r.response r.lists storable) in
      record {
        right = stored_right r.script r.response r.lists storable;
        short = subst₂ (λ (script response : List ℕ). length_answer script response ≡ nothing) script_is response_is r.short;
        passing = subst₂ (λ (script response : List ℕ). TextsPass response_limits script response r.k r.bs) script_is response_is r.passing;
      }

  -- "accepts it exactly when ..": such a file is accepted.
  pub exact_to : Audited file (refusal 0 3 0)
  exact_to =
      let lists_are = sym (lists_again r.script r.response r.lists storable) in
      subst (λ (f : List ℕ). Audited f (refusal 0 3 0)) (sym r.file_is)
      (Audited.accepted passes (subst (Followed (in_script_order r.k.functions) (terms_of r.bs)) lists_are r.followed))
