-- The tables that fit two texts, and what a function gives that is lent an area and two tables.
use Rattle.std.specs.Prelude.{ℕ, List, ◌≡◌, ◌+◌, ◌*◌, ◌&&◌, cond, leb, length}
use Rattle.std.proofs.Common.{MutBor}
use Rattle.forest.specs.Limits.{response_words, script_words}
use Rattle.terms.specs.code.Nodes.{row_width}
use Rattle.words.specs.Limits.{response_limits}
use Rattle.texts.specs.code.Texts.{middle_script, short_response, short_script}
use Rattle.both_texts.specs.code.Both.{Rooms}

-- A number by the lengths of a script and of a response: one for short texts, one for a script of middle length with any response, one for any other texts.
abbrev pub by_lengths : (script response short middle any : ℕ) → ℕ
by_lengths script response short middle any =
    cond (leb script short_script && leb response short_response) short (cond (leb script middle_script) middle any)

-- A row of nodes for each word that texts of such lengths can have, and a row of forms for each that the script can have; no more rows than that.
pub record Fitting (script response nodes forms : List ℕ) : Type 0 where
  pub rooms : Rooms response_limits script response nodes forms
  pub nodes_long : length nodes
      ≡ by_lengths (length script) (length response) (short_script + short_response) (middle_script + response_words) (script_words + response_words) * row_width
  pub forms_long : length forms ≡ by_lengths (length script) (length response) short_script middle_script script_words * row_width

-- It was called with the area as it was and with tables of which something is known, and gave its result and the area.
abbrev pub Gave : {A R : Type 0} → (Room : (nodes forms : List ℕ) → Type 0)
    → (post : MutBor (List A) → MutBor (List ℕ) → MutBor (List ℕ) → R → MutBor (List A) → MutBor (List ℕ) → MutBor (List ℕ) → Type 0)
    → (before : List A) → R → (after : List A) → Type 0
Gave {A} Room post before r after =
    (a : MutBor (List A)) × (nodes : MutBor (List ℕ)) × (forms : MutBor (List ℕ)) × (a' : MutBor (List A)) × (nodes' : MutBor (List ℕ)) × (forms' : MutBor (List ℕ))
    × (a.now ≡ before) × Room nodes.now forms.now × (after ≡ a'.now) × post a nodes forms r a' nodes' forms'
