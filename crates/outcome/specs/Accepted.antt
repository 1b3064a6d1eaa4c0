-- What two texts that are not too long give by themselves, without points: the answers 2 to 13, or the derivations of all bodies. The response is read within
-- limits that are named.
use Rattle.std.specs.Prelude.{ℕ, List, ◌≡◌}
use Rattle.words.specs.declared.Limits.{Limits}
use Rattle.script.specs.Script.{Known}
use Rattle.script.specs.Response.{Body, in_script_order}
use Rattle.script.specs.Outcome.{given, offset_of, response_within, said, script_outcome}
use Rattle.outcome.specs.Checked.{TextsRefused}
use Rattle.outcome.specs.Derived.{FirstUnderived, ListsShown, terms_of}
use Rattle.outcome.specs.declared.Outcome.{Outcome}

-- Both texts pass: what the script says, and the bodies that the response gives. "Order: .. script words ..; commands ..; response words likewise; ..; the
-- response's commands likewise ..; then 13": none of these refuses them.
pub record TextsPass (limits : Limits) (script response : List ℕ) (k : Known) (bs : List Body) : Type 0 where
  pub says : script_outcome script ≡ said k
  pub gives : response_within limits k response ≡ given bs

-- The answers 2 to 13, of texts that are not too long (one past its bytes is refused by 1): "script words ..; commands ..; response words likewise; 10 and
-- 11 ..; the response's commands likewise ..; then 13 (first such function)".
pub data Declined (limits : Limits) (script response : List ℕ) : Outcome → Type 0 where
  texts_refused : {answer : Outcome} → TextsRefused limits script response answer → Declined limits script response answer
  underived : {k : Known} {bs : List Body} {j : ℕ} {b : Body} → TextsPass limits script response k bs → FirstUnderived (in_script_order k.functions) bs j b
      → Declined limits script response (record { number = 13; text = 1; place = offset_of response b.first; second = j; units = 0 })

-- None of them: both texts pass, and each body has a derivation, by a list of rules that is shown; "then .. 16 (length first), and evaluation" are not asked.
pub record Accepted (limits : Limits) (script response : List ℕ) (k : Known) (bs : List Body) (lists : List (List ℕ)) : Type 0 where
  pub passing : TextsPass limits script response k bs
  pub shown : ListsShown (in_script_order k.functions) (terms_of bs) lists
