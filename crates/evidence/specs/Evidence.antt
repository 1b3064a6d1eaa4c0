-- The evidence file (E12): which answer the check of a file gives, which one the writing of a file, and what stands in the lent area afterwards.
use Rattle.std.specs.Prelude.{ℕ, zero, suc, ◌-◌, ◌<◌, ◌≤◌, List, [], ◌∷◌, ◌++◌, ◌≡◌, get_or, length, replicate}
use Rattle.std.proofs.Math.Option.{none as nothing, some}
use Rattle.forest.specs.Limits.{most_functions}
use Rattle.forest.specs.Tables.{over}
use Rattle.words.specs.Limits.{response_limits}
use Rattle.terms.specs.Labels.{Terms}
use Rattle.derivation.specs.Answer.{start}
use Rattle.derivation.specs.Derivation.{Simple}
use Rattle.names.specs.Scopes.{Function}
use Rattle.script.specs.Script.{Known}
use Rattle.script.specs.Response.{Body, in_script_order}
use Rattle.outcome.specs.Accepted.{Accepted, Declined, TextsPass}
use Rattle.outcome.specs.Checked.{TextsTold, length_answer, refusal}
use Rattle.outcome.specs.Derived.{no_totals, terms_of, totals}
use Rattle.outcome.specs.Located.{Carrying, answer_numbers, located, no_location, unlocated}
use Rattle.outcome.specs.declared.Answer.{Answer}
use Rattle.outcome.specs.declared.Outcome.{Outcome}
use Rattle.blocks.specs.Blocks.{file_of}
use Rattle.blocks.specs.Layout.{file_fault, lists_in, response_in, script_in}

-- A list of numbers is one of bytes; past its end 0 is read.
abbrev pub Bytes : List ℕ → Type 0
Bytes bytes = (k : ℕ) → get_or bytes k 0 < 256

-- "each list derives its body without using a non-terminal twice at one place", functions, bodies and lists in script order; the list of an absent function is
-- empty.
pub data Followed : List Function → List Terms → (lists : List (List ℕ)) → Type 0 where
  no_more : Followed [] [] []
  absent : {lists : List (List ℕ)} → Followed [] [] lists → Followed [] [] ([] ∷ lists)
  also : {f : Function} {t : Terms} {fs : List Function} {ts : List Terms} {ds : List ℕ} {lists : List (List ℕ)} → Simple f.grammar [] start t ds
      → Followed fs ts lists → Followed (f ∷ fs) (t ∷ ts) (ds ∷ lists)

-- "22 (function, also an absent one with a list)": function j is the first whose list does not derive its body so, or that is absent and has a list.
pub data FirstUnfollowed : List Function → List Terms → (lists : List (List ℕ)) → (j : ℕ) → Type 0 where
  here : {f : Function} {t : Terms} {fs : List Function} {ts : List Terms} {ds : List ℕ} {lists : List (List ℕ)}
      → (Simple f.grammar [] start t ds → ⊥) → FirstUnfollowed (f ∷ fs) (t ∷ ts) (ds ∷ lists) zero
  absent_here : {d : ℕ} {ds : List ℕ} {lists : List (List ℕ)} → FirstUnfollowed [] [] ((d ∷ ds) ∷ lists) zero
  later : {f : Function} {t : Terms} {fs : List Function} {ts : List Terms} {ds : List ℕ} {lists : List (List ℕ)} {j : ℕ}
      → Simple f.grammar [] start t ds → FirstUnfollowed fs ts lists j → FirstUnfollowed (f ∷ fs) (t ∷ ts) (ds ∷ lists) (suc j)
  absent_later : {lists : List (List ℕ)} {j : ℕ} → FirstUnfollowed [] [] lists j → FirstUnfollowed [] [] ([] ∷ lists) (suc j)

-- "blocks, lengths and zero filling are right, no block is spare, script and response pass through answer 12": the texts are those that the file holds.
pub record FilePasses (file : List ℕ) (k : Known) (bs : List Body) : Type 0 where
  pub right : file_fault file ≡ nothing
  pub short : length_answer (script_in file) (response_in file) ≡ nothing
  pub passing : TextsPass response_limits (script_in file) (response_in file) k bs

-- The check of a file. "Answers 21 (block number ..) and 22 (function ..) are new; 21 is tested first, then the texts' own answers, then 22." "No evaluation is
-- done here."
pub data Audited (file : List ℕ) : Outcome → Type 0 where
  wrong_block : {block : ℕ} → file_fault file ≡ some block → Audited file (refusal 21 3 block)
  texts_refused : {answer : Outcome} → file_fault file ≡ nothing → TextsTold (script_in file) (response_in file) answer → (answer.number ≡ 0 → ⊥)
      → Audited file answer
  not_followed : {k : Known} {bs : List Body} {j : ℕ} → FilePasses file k bs
      → FirstUnfollowed (in_script_order k.functions) (terms_of bs) (lists_in file) j → Audited file (refusal 22 3 j)
  accepted : {k : Known} {bs : List Body} → FilePasses file k bs → Followed (in_script_order k.functions) (terms_of bs) (lists_in file)
      → Audited file (refusal 0 3 0)

-- The answer with what it carries of its place in the text that the file holds; no list is shown.
pub record AuditGiven (file : List ℕ) (answer : Answer) : Type 0 where
  pub audited : Audited file answer.outcome
  pub carried : Carrying (script_in file) (response_in file) answer
  pub unweighed : answer.totals ≡ no_totals

-- What C is given: the answer's number, and the sixteen numbers.
pub record AuditForC (file : List ℕ) (number : ℕ) (numbers : List ℕ) : Type 0 where
  pub answer : Answer
  pub given : AuditGiven file answer
  pub number_is : number ≡ answer.outcome.number
  pub numbers_are : numbers ≡ answer_numbers answer

-- The lists of eight functions, "0 for absent functions": theirs are empty.
unfoldable pub eight_lists : (lists : List (List ℕ)) → List (List ℕ)
eight_lists lists = lists ++ replicate (most_functions - length lists) []

-- Two texts that pass through 13, with the lists that are shown for their bodies.
pub record Fileable (script response : List ℕ) (k : Known) (bs : List Body) (lists : List (List ℕ)) : Type 0 where
  pub short : length_answer script response ≡ nothing
  pub accepted : Accepted response_limits script response k bs lists

-- The writing of a file: the answer, the file's length and the area afterwards. "The writer tests the texts through 13, then its area (too short: 17); a
-- refusal leaves it unchanged, and past the file it stays as lent. No evaluation is done here."
pub data Filed (script response area : List ℕ) : Answer → (size : ℕ) → (areaAfter : List ℕ) → Type 0 where
  too_long : {answer : Outcome} → length_answer script response ≡ some answer → Filed script response area (unlocated answer) 0 area
  declined : {answer : Outcome} → length_answer script response ≡ nothing → Declined response_limits script response answer
      → Filed script response area (record { outcome = answer; location = located script response answer; totals = no_totals }) 0 area
  area_short : {k : Known} {bs : List Body} {lists : List (List ℕ)} → Fileable script response k bs lists
      → length area < length (file_of script response (eight_lists lists)) → Filed script response area (unlocated (refusal 17 3 (length area))) 0 area
  filed : {k : Known} {bs : List Body} {lists : List (List ℕ)} → Fileable script response k bs lists
      → length (file_of script response (eight_lists lists)) ≤ length area
      → Filed script response area (record { outcome = refusal 0 3 0; location = no_location; totals = totals (in_script_order k.functions) lists })
      (length (file_of script response (eight_lists lists))) (over (file_of script response (eight_lists lists)) area)

-- What C is given: the answer's number, the sixteen numbers, the file's length, and the area afterwards.
pub record FiledForC (script response area : List ℕ) (number : ℕ) (numbers : List ℕ) (size : ℕ) (areaAfter : List ℕ) : Type 0 where
  pub answer : Answer
  pub given : Filed script response area answer size areaAfter
  pub number_is : number ≡ answer.outcome.number
  pub numbers_are : numbers ≡ answer_numbers answer

-- "A separate checker accepts it exactly when ..": a file of a script and a response that pass through 12, and of eight lists that derive the bodies so.
pub record RightFile (file : List ℕ) : Type 0 where
  pub script : List ℕ
  pub response : List ℕ
  pub lists : List (List ℕ)
  pub k : Known
  pub bs : List Body
  pub file_is : file ≡ file_of script response lists
  pub eight : length lists ≡ most_functions
  pub short : length_answer script response ≡ nothing
  pub passing : TextsPass response_limits script response k bs
  pub followed : Followed (in_script_order k.functions) (terms_of bs) lists

-- No file that is written or accepted has more bytes: 24 of lengths, 65,536 of a script, 8,192 of a response and 2 for each of 8 · 4,096 rules take 274
-- blocks.
abbrev pub most_file : ℕ
most_file = 140288
