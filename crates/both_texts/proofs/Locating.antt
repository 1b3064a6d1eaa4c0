-- What an answer carries: the end, the line and the column of its place.
use Prim.Native.Nat.{ℕ}
use mathlib.Core.Bool.{Bool, true, false}
use mathlib.Core.List.{List}
use mathlib.Core.Path.{◌≡◌, sym, ◌∙◌}
use borrow.Author.Tests.{eq-eqb, ne_eqb}
use Rattle.words.specs.Positions.{Positioned, end_of}
use Rattle.words.specs.declared.Position.{Position}
use Rattle.words.proofs.Lines.{column_given, line_given}
use Rattle.outcome.specs.Located.{carries, located, location_in, no_location, unlocated}
use Rattle.outcome.specs.Derived.{no_totals}
use Rattle.outcome.specs.declared.Answer.{Answer}
use Rattle.outcome.specs.declared.Location.{Location}
use Rattle.outcome.specs.declared.Outcome.{Outcome}
use Rattle.both_texts.specs.code.Located.{Short}

-- The end, the line and the column of a place of a short text.
pub location_found : (text : List ℕ) (place : ℕ) {p : Position} {end : ℕ} → Short text → Positioned text place p → end ≡ end_of text place
    → ◌≡◌ {A = Location} (record { end = end; line = p.line; column = p.column }) (location_in text place)
location_found text place short h e =
    let line = line_given h short in
    let column = column_given h short in
    cc

module _ (script response : List ℕ) (o : Outcome) {r : Bool} (e : r ≡ carries o.number) where
  -- An answer that carries nothing.
  pub none_located : r ≡ false → no_location ≡ located script response o
  unfolding located
  none_located t = rw (sym e ∙ t)

  module _ (t : r ≡ true) {l : Location} where
    -- An answer whose place stands in the script.
    pub script_located : o.text ≡ 0 → l ≡ location_in script o.place → l ≡ located script response o
    unfolding located
    script_located h is = rw (sym e ∙ t, eq-eqb o.text 0 h) is

    -- An answer whose place stands in the response.
    pub response_located : (o.text ≡ 0 → ⊥) → l ≡ location_in response o.place → l ≡ located script response o
    unfolding located
    response_located h is = rw (sym e ∙ t, ne_eqb o.text 0 h) is

-- An answer that carries nothing, and after which no list is shown.
pub unlocated_is : {o : Outcome} {weights : List ℕ} → weights ≡ no_totals
    → ◌≡◌ {A = Answer} (record { outcome = o; location = no_location; totals = weights }) (unlocated o)
unlocated_is none = rw none
