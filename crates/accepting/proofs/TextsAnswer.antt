-- The answer on two texts and their bodies, from the reading of the texts and the answer on the bodies.
use Prim.Native.Nat.{ℕ}
use mathlib.Core.Path.{◌≡◌, refl}
use mathlib.Core.List.{List}
use Rattle.words.specs.declared.Limits.{Limits}
use Rattle.script.specs.declared.Progress.{Progress}
use Rattle.outcome.specs.Accepted.{Declined}
use Rattle.outcome.specs.Derived.{blank_area, no_totals}
use Rattle.outcome.specs.declared.Weighed.{Weighed}
use Rattle.both_texts.specs.code.Both.{BothHeld, TextsRead}
use Rattle.both_texts.specs.declared.Told.{Told}
use Rattle.verdicts.specs.code.Derive.{Derivable}
use Rattle.accepting.specs.code.Bodies.{BodiesDerived, TextsAnswered}

module _ {limits : Limits} {script response names places nodes forms area : List ℕ} (blank : area ≡ blank_area) where
  -- a text that is refused
  pub text_declined : {r : Told} → TextsRead limits script response names places nodes forms r → (r.outcome.number ≡ 0 → ⊥)
      → TextsAnswered limits script response names places nodes forms
      (record { weighed = record { outcome = r.outcome; totals = no_totals }; progress = r.progress }) area
  text_declined read other =
      record {
        all! = λ zero. absurd (other zero);
        declined! = λ h. Declined.texts_refused (read.one! other);
        blanked! = λ h. blank;
        unweighed! = λ h. refl;
      }

  module _ {p : Progress} (both : BothHeld limits script response names places nodes forms p) where
    -- what the search for derivations asks
    abbrev pub to_derive : Derivable places nodes forms p area no_totals
    to_derive =
        record { text = response; names = names; known = both.known; bodies = both.bodies; held = both.held; blank = blank; unweighed = refl }

    -- two texts that pass, and their bodies
    pub bodies_answered : {r : Weighed} {after : List ℕ} → BodiesDerived places nodes forms p area r after
        → TextsAnswered limits script response names places nodes forms (record { weighed = r; progress = p }) after
    bodies_answered sought =
        record {
          all! = λ zero.
              let all = (sought to_derive).all! zero in
              record {
                both = both;
                lists = all.lists;
                accepted = record { passing = both.passing; shown = all.shown };
                area_is = all.area_is;
                weigh = all.weigh;
              };
          declined! = λ other. let one = (sought to_derive).one! other in rw one.answer (Declined.underived both.passing one.first);
          blanked! = λ other. ((sought to_derive).one! other).blanked;
          unweighed! = λ other. ((sought to_derive).one! other).unweighed;
        }
