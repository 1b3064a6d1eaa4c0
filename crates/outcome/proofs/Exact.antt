-- 13 is answered exactly when some body has no derivation, 0, 14, 15 or 16 exactly when all have one, and derivations are shown exactly after 0, 14 and 15.
use Rattle.std.specs.Prelude.{Ok}
use Prim.Native.Nat.{ℕ}
use native.Mathlib.Omega.{arith}
use mathlib.Core.List.{List}
use mathlib.Core.Path.{◌≡◌, refl, sym}
use Rattle.evaluation.specs.Points.{points_of}
use Rattle.evaluation.specs.declared.Ran.{Ran}
use Rattle.evaluation.specs.declared.Ran.TheVariants.{Passed, False, Ended}
use Rattle.names.specs.Scopes.{named_sorts}
use Rattle.script.specs.Script.{Known}
use Rattle.script.specs.Response.{Body, in_script_order}
use Rattle.outcome.specs.Checked.{Checked, Judgement, Passing, evaluated, judged, missized, points_refused, texts_refused, underived}
use Rattle.outcome.specs.Demands.{AreaStated, BodiesDerived, DerivationsShown, Exact, GrammarPassed, NoDerivation, Showing, bad_points, showing, shows}
use Rattle.outcome.specs.Demands.{shows_none}
use Rattle.outcome.specs.Derived.{Derived, terms_of}
use Rattle.outcome.specs.Evaluated.{ran_outcome, ran_with}
use Rattle.outcome.specs.declared.Outcome.{Outcome}
use Rattle.outcome.proofs.Deriving.{not_derived, shown_derived}
use Rattle.outcome.proofs.Stages.{missized_one, not_showing, of_passing, refused_number, run_showing, sized_area}

-- A run does not end in 13.
ran_other : (budget held : ℕ) (ran : Ran) → (ran_outcome budget held ran).number ≡ 13 → ⊥
ran_other budget held (Passed left) = omega arith
ran_other budget held (False point constraint left) = omega arith
ran_other budget held (Ended point term left) = omega arith

-- The bodies that a verdict is on: either each has a derivation, and the verdict passes the grammar check; or not each has one, and it is 13.
pub data Split (k : Known) (bs : List Body) (o : Outcome) : Type 0 where
  derived : Derived (in_script_order k.functions) (terms_of bs) → GrammarPassed o.number → Split k bs o
  not_all : (Derived (in_script_order k.functions) (terms_of bs) → ⊥) → o.number ≡ 13 → Split k bs o

-- Every verdict is one of the two.
pub split : {response : List ℕ} {k : Known} {bs : List Body} {points : List ℕ} {budget : ℕ} {o : Outcome} {a w : List ℕ}
    → Judgement response k bs points budget o a w → Split k bs o
split (underived u) = not_all (not_derived u) refl
split (points_refused s e) = derived (shown_derived s) bad_points
split {k = k} {bs} {points} {budget} (evaluated {n = n} s e) =
    derived (shown_derived s) (showing (run_showing budget (ran_with k (terms_of bs) points n budget)))

-- Where each body has a derivation, the verdict passes the grammar check.
passes : {k : Known} {bs : List Body} {o : Outcome} → Split k bs o → Derived (in_script_order k.functions) (terms_of bs) → GrammarPassed o.number
passes (derived d passed) e = passed
passes (not_all no_derivation is) e = absurd (no_derivation e)

-- A number that is none of the four does not pass it.
not_passed : {n : ℕ} → (n ≡ 0 → ⊥) × (n ≡ 14 → ⊥) × (n ≡ 15 → ⊥) × (n ≡ 16 → ⊥) → GrammarPassed n → ⊥
not_passed h (showing s) = not_showing (h.0, h.1, h.2) s
not_passed h bad_points = h.3 refl

-- Where it passes, each body has a derivation.
pub verdict_derived : {k : Known} {bs : List Body} {o : Outcome} → Split k bs o → GrammarPassed o.number
    → Derived (in_script_order k.functions) (terms_of bs)
verdict_derived (derived d passed) h = d
verdict_derived (not_all no_derivation is) h = absurd (not_passed (omega arith) h)

-- No answer of another stage passes it.
bodies_derived : {script response points : List ℕ} {budget : ℕ} {area : List ℕ} {o : Outcome} {a w : List ℕ}
    → Checked script response points budget area o a w → GrammarPassed o.number → BodiesDerived script response points area
bodies_derived {script} {response} {points} {area = area} (missized e) h =
    let one = missized_one script response points area e in
    absurd (not_passed (omega arith) h)
bodies_derived (texts_refused n t) h = let few = refused_number t in absurd (not_passed (omega arith) h)
bodies_derived (judged {k = k} {bs = bs} p v) h = record { k = k; bs = bs; passing = p; derived = verdict_derived (split v) h }

-- Where not each has one, it is 13.
thirteen : {k : Known} {bs : List Body} {o : Outcome} → Split k bs o → (Derived (in_script_order k.functions) (terms_of bs) → ⊥) → o.number ≡ 13
thirteen (derived d other) e = absurd (e d)
thirteen (not_all no_derivation is) e = is

-- 13 names the first body that has none; no other verdict is 13.
named_judged : {script response points : List ℕ} {budget : ℕ} {area : List ℕ} {k : Known} {bs : List Body} {o : Outcome} {a w : List ℕ}
    → Passing script response points area k bs → Judgement response k bs points budget o a w → o.number ≡ 13 → NoDerivation script response points area o
named_judged {k = k} {bs} p (underived {b = b} u) is =
    record { k = k; bs = bs; b = b; passing = p; first = u; place = refl; none_derived = not_derived u }
named_judged p (points_refused s e) is = absurd (omega arith)
named_judged {points = points} {budget} {k = k} {bs} p (evaluated {n = n} s e) is =
    let r = ran_with k (terms_of bs) points n budget in
    absurd (ran_other budget r.held r.ran is)

-- No other stage answers it.
named : {script response points : List ℕ} {budget : ℕ} {area : List ℕ} {o : Outcome} {a w : List ℕ}
    → Checked script response points budget area o a w → o.number ≡ 13 → NoDerivation script response points area o
named {script} {response} {points} {area = area} (missized e) is = let h = missized_one script response points area e in absurd (omega arith)
named (texts_refused n t) is = let h = refused_number t in absurd (omega arith)
named (judged p v) is = named_judged p v is

-- "Within the stated limits, a well-sorted response passes the grammar check exactly when each body has a derivation from its function's grammar .. "No
-- derivation" is said only when none of any length exists."
pub exact : {script response points : List ℕ} {budget : ℕ} {area : List ℕ} {o : Outcome} {a w : List ℕ}
    → Checked script response points budget area o a w → Exact script response points area o
exact c =
    record {
      derived_passes = λ p. passes (split (of_passing p c));
      passed_derived = bodies_derived c;
      underived_refused = λ p. thirteen (split (of_passing p c));
      refused_underived = named c;
    }

-- What stands in the lent areas after a verdict.
judged_derives : {script response points : List ℕ} {budget : ℕ} {area : List ℕ} {k : Known} {bs : List Body} {o : Outcome} {a w : List ℕ}
    → Passing script response points area k bs → Judgement response k bs points budget o a w → AreaStated script response points area o a w
judged_derives {script} {response} {points} {area = area} p (underived u) =
    shows_none (not_showing (omega arith)) (sym (sized_area script response points area p.sized)) refl
judged_derives {script} {response} {points} {area = area} p (points_refused s e) =
    shows_none (not_showing (omega arith)) (sym (sized_area script response points area p.sized)) refl
judged_derives {points = points} {budget} {k = k} {bs} p (evaluated {lists = lists} {n = n} s e) =
    shows (run_showing budget (ran_with k (terms_of bs) points n budget))
    (record { k = k; bs = bs; lists = lists; passing = p; shown = s; is = refl; weigh = refl })

-- "what stands in the lent areas afterwards is fixed", and so are the totals.
pub shown_derives : {script response points : List ℕ} {budget : ℕ} {area : List ℕ} {o : Outcome} {a w : List ℕ}
    → Checked script response points budget area o a w → AreaStated script response points area o a w
shown_derives {script} {response} {points} {area = area} (missized e) =
    let h = missized_one script response points area e in
    shows_none (not_showing (omega arith)) refl refl
shown_derives {script} {response} {points} {area = area} (texts_refused n t) =
    let h = refused_number t in
    shows_none (not_showing (omega arith)) (sym (sized_area script response points area n)) refl
shown_derives (judged p v) = judged_derives p v

-- Of derived bodies and points that pass the answer is 0, 14 or 15.
pub verdict_showing : {response : List ℕ} {k : Known} {bs : List Body} {points : List ℕ} {budget n : ℕ} {o : Outcome} {a w : List ℕ}
    → Derived (in_script_order k.functions) (terms_of bs) → points_of (named_sorts k.variables) points ≡ Ok n
    → Judgement response k bs points budget o a w → Showing o.number
verdict_showing d good (underived u) = absurd (not_derived u d)
verdict_showing d good (points_refused s e) = let z : ◌≡◌ {A = ℕ} 0 1 = cc in absurd (omega arith)
verdict_showing {k = k} {bs} {points} {budget} d good (evaluated {n = n} s e) = run_showing budget (ran_with k (terms_of bs) points n budget)

-- The derivations that an area shows, after one of the three.
shown_there : {script response points area : List ℕ} {o : Outcome} {a w : List ℕ} → Showing o.number → AreaStated script response points area o a w
    → DerivationsShown script response points area a w
shown_there s (shows n d) = d
shown_there s (shows_none no-show e z) = absurd (no-show s)

-- "and a derivation is shown once the points pass too".
pub shown_once : {script response points : List ℕ} {budget : ℕ} {area : List ℕ} {k : Known} {bs : List Body} {n : ℕ} {o : Outcome} {a w : List ℕ}
    → Passing script response points area k bs → Derived (in_script_order k.functions) (terms_of bs)
    → points_of (named_sorts k.variables) points ≡ Ok n → Checked script response points budget area o a w
    → Showing o.number × DerivationsShown script response points area a w
shown_once passing d good c =
    let there = verdict_showing d good (of_passing passing c) in
    (there, shown_there there (shown_derives c))
