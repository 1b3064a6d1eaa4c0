-- The rules of a `synth-fun`, gathered in their part of the table of places: what was known before it stands, and the rules stand there.
use Prim.Native.Nat.{ℕ, ◌+◌, ◌-◌, ◌*◌, ◌≤◌, ◌<◌}
use native.Mathlib.Nat.{add-zero}
use native.Mathlib.Omega.{arith}
use mathlib.Core.Path.{◌≡◌, refl, sym, ap, ◌∙◌}
use mathlib.Core.List.{List, ◌++◌, append_assoc}
use lib.ListN.{drop, length, take}
use lib.Seq.{drop-drop, get_or-drop, length-sets, sets, sets-eq}
use Rattle.forest.specs.Limits.{most_functions}
use Rattle.script.proofs.Written.{before_written}
use Rattle.script.specs.code.Places.{function_width, functions_place, own_rules, rules_place, rules_width}
use Rattle.script.specs.declared.Progress.{Progress}
use Rattle.script.specs.declared.Verdict.{Verdict}
use Rattle.synth_fun.specs.code.Synthesizing.{Synthesized, Synthesizing}
use Rattle.synth_fun.proofs.TablesKept.{Same, grammars_kept, part_before, places_kept}
use Rattle.synth_fun.proofs.SortsSought.{written_there}

-- The part of the table of places for rules that begin at a place.
abbrev pub rules_part : (first : ℕ) → (places : List ℕ) → List ℕ
rules_part first places = take (first + rules_width - first) (drop first places)

-- The table with rules in that part.
abbrev pub with_rules : (first : ℕ) → (places rules : List ℕ) → List ℕ
with_rules first places rules = take first places ++ (rules ++ drop (first + rules_width - first) (drop first places))

module _ {text lexemes names raw places forms : List ℕ} {p : Progress} {i nowhere : ℕ}
    (d : Synthesizing text lexemes names raw places forms p i nowhere) (one_more : p.functions < most_functions)
    {first : ℕ} (first_is : first ≡ own_rules p.functions) where
  -- There is room for its rules.
  pub own_room : first + rules_width ≤ length places
  own_room = omega (arith, d.places_hold.long)

  module _ (rules : List ℕ) (long : length rules ≡ rules_width) where
    -- They are written there.
    pub written : with_rules first places rules ≡ sets places first rules
    written =
        let end : first + rules_width - first ≡ length rules = omega arith in
        rw (end, drop-drop (length rules) first places)
        (sym (append_assoc (take first places) rules (drop (first + length rules) places))
        ∙ sym (sets-eq rules places first (omega (arith, own_room))))

    -- And stand there.
    pub rules_stand : drop first (with_rules first places rules) ≡ rules ++ drop (first + length rules) places
    rules_stand = ap (drop first) written ∙ written_there places first rules (omega (arith, own_room))

    -- The tables have what they had of the functions before it.
    pub same_before : Same (drop functions_place places) (drop functions_place (with_rules first places rules)) forms forms p.functions p.forms
    same_before = record {
      number = λ j m low few.
          get_or-drop functions_place (with_rules first places rules) (function_width * j + m) 0
          ∙ rw written (before_written places first rules (functions_place + (function_width * j + m)) (omega arith))
          ∙ sym (get_or-drop functions_place places (function_width * j + m) 0);
      rules = λ j n low few.
          ap (take n) (drop-drop (rules_place j) functions_place (with_rules first places rules))
          ∙ rw written (part_before n (functions_place + rules_place j) places first rules (omega arith))
          ∙ ap (take n) (sym (drop-drop (rules_place j) functions_place places));
      part = λ first n low. refl;
    }

    -- What is known before the command is in the tables still.
    abbrev pub still : Synthesizing text lexemes names raw (with_rules first places rules) forms p i nowhere
    still = record {
      of = d.of;
      names_hold = d.names_hold;
      nodes = d.nodes;
      places_hold = places_kept d.of.counted d.places_hold (ap length written ∙ length-sets places first rules)
          (λ j low. rw written (before_written places first rules j (omega arith)));
      grammars_hold = rw add-zero at (grammars_kept same_before 0 d.of.known.functions (omega (arith, d.of.counted.functions_are)) d.grammars_hold);
      raw_room = d.raw_room;
      forms_room = d.forms_room;
      within = d.within;
    }

    -- So what is found of the command from there on is found of it.
    pub found_still : {namesAfter rawAfter placesAfter formsAfter : List ℕ} {v : Verdict} → Synthesized still namesAfter rawAfter placesAfter formsAfter v
        → Synthesized d namesAfter rawAfter placesAfter formsAfter v
    found_still f = record {
      verdict_is = f.verdict_is;
      names_hold = f.names_hold;
      taken = f.taken;
      places_hold = f.places_hold;
      grammars_hold = f.grammars_hold;
      within = f.within;
      raw_long = f.raw_long;
      forms_long = f.forms_long;
    }
