-- The tests of a command one after the other.
use Prim.Native.Nat.{ℕ, ◌≤◌, ◌<◌, min}
use native.Mathlib.Nat.{min-le_left}
use native.Mathlib.Omega.{arith}
use mathlib.Core.Bool.{Bool, true, false, cond, ◌||◌, not}
use mathlib.Core.List.{List}
use mathlib.Core.Path.{◌≡◌, refl, sym, ap, ◌∙◌}
use lib.Dec.{eqb, ltb}
use borrow.Author.Tests.{le-ltb, ltb-false, ltb-true}
use Rattle.lexemes.specs.Lists.{Items}
use Rattle.lexemes.specs.code.Codes.{assume_code, constraint_code, declare_var_code, define_fun_code, synth_fun_code}
use Rattle.shapes.specs.Carried.{is_not_carried}
use Rattle.shapes.specs.Shapes.{command_shape}
use Rattle.forest.specs.Limits.{Counts}
use Rattle.script.specs.Limits.{command_past}
use Rattle.script.specs.Script.{Known, Read, earlier_place, grammar_place, judged, limit_place, name_place, out_of_place, passed, refused, sorting_place, tested}
use Rattle.script.specs.code.Tables.{Says, TablesHold}
use Rattle.script.specs.declared.Verdict.{Verdict}
use Rattle.script.specs.code.Answers.{limit_answer, shape_answer, uncarried_answer, name_answer, sort_answer, grammar_answer}
use Rattle.script_reader.specs.code.Commands.{Reads}
use Rattle.script_reader.specs.declared.Step.{Step}
use Rattle.script.proofs.CommandByCode.{Chosen}

-- A refusal has a number, which is not 0.
abbrev pub Numbered : Read → Type 0
Numbered (refused number place second) = 0 < number
Numbered (passed k) = Unit {0}

module _ (counts : Counts) (nowhere : ℕ) (k : Known) (at : ℕ) (c : Items) (said : Known) where
  -- 6.
  pub judged_uncarried : is_not_carried k.weights c ≡ true → judged counts nowhere k at c said ≡ refused uncarried_answer at 0
  unfolding judged
  judged_uncarried e = rw e

  module _ (carried : is_not_carried k.weights c ≡ false) where
    -- 5, where it is carried.
    pub judged_misplaced : not (command_shape c) || out_of_place k c ≡ true → judged counts nowhere k at c said ≡ refused shape_answer at 0
    unfolding judged
    judged_misplaced e = rw (carried, e)

    -- Its own tests, where its shape and its place are right.
    pub judged_placed : not (command_shape c) || out_of_place k c ≡ false → judged counts nowhere k at c said ≡ tested counts nowhere k at c said
    unfolding judged
    judged_placed e = rw (carried, e)

  -- Each refusal has its number.
  pub judged_numbered : Numbered (judged counts nowhere k at c said)
  unfolding judged tested
  judged_numbered =
      go
      (is_not_carried k.weights c)
      (not (command_shape c) || out_of_place k c)
      (ltb (limit_place counts nowhere k at c) nowhere)
      (ltb (name_place nowhere k c) nowhere)
      (ltb (sorting_place nowhere k c) nowhere)
      (ltb (grammar_place nowhere k c) nowhere)
      _
      _
      _
      _
      _
    where
      go : (t u v w x y : Bool) (l n e s g : ℕ)
          → let fit = cond x (refused sort_answer s 0) (cond y (refused grammar_answer g 0) (passed said)) in
          let found = cond v (refused limit_answer l 0) (cond w (refused name_answer n e) fit) in
          Numbered (cond t (refused uncarried_answer at 0) (cond u (refused shape_answer at 0) found))
      go true u v w x y l n e s g = omega arith
      go false true v w x y l n e s g = omega arith
      go false false true w x y l n e s g = omega arith
      go false false false true x y l n e s g = omega arith
      go false false false false true y l n e s g = omega arith
      go false false false false false true l n e s g = omega arith
      go false false false false false false l n e s g = tt

  -- A command that passes is within the limits.
  pub within_limits : (v : Verdict) → Says v (tested counts nowhere k at c said) → v.number ≡ 0 → nowhere ≤ limit_place counts nowhere k at c
  unfolding tested
  within_limits v says z = go (ltb (limit_place counts nowhere k at c) nowhere) _ _ refl says
    where
      go : (b : Bool) (place : ℕ) (more : Read) → ltb place nowhere ≡ b → Says v (cond b (refused limit_answer place 0) more) → nowhere ≤ place
      go true place more e s = absurd (omega (arith, s.0))
      go false place more e s = ltb-false place nowhere e

  -- A step that goes by the verdict of the tests reads what they say.
  pub reads_by : (v : Verdict) (s : Step) (names places nodes forms : List ℕ) → Says v (tested counts nowhere k at c said)
      → s.number ≡ v.number → s.place ≡ v.place → ((v.number ≡ name_answer → ⊥) → s.second ≡ 0)
      → (v.number ≡ name_answer → s.second ≡ earlier_place k c v.place) → (v.number ≡ 0 → TablesHold names places nodes forms s.progress said)
      → Reads (tested counts nowhere k at c said) names places nodes forms s
  unfolding tested
  reads_by v s names places nodes forms says number place none taken tables =
      go
      (ltb (limit_place counts nowhere k at c) nowhere)
      (ltb (name_place nowhere k c) nowhere)
      (ltb (sorting_place nowhere k c) nowhere)
      (ltb (grammar_place nowhere k c) nowhere)
      _
      _
      _
      _
      says
    where
      other : (number : ℕ) → v.number ≡ number → (number ≡ name_answer → ⊥) → s.second ≡ 0
      other number e ne = none (λ z. ne (sym e ∙ z))

      go : (w x y z : Bool) (l n m g : ℕ)
          → let fit = cond y (refused sort_answer m 0) (cond z (refused grammar_answer g 0) (passed said)) in
          let found = cond w (refused limit_answer l 0) (cond x (refused name_answer n (earlier_place k c n)) fit) in
          Says v found → Reads found names places nodes forms s
      go true x y z l n m g h = (number ∙ h.0, place ∙ h.1, other limit_answer h.0 (λ z. omega arith))
      go false true y z l n m g h = (number ∙ h.0, place ∙ h.1, taken h.0 ∙ ap (earlier_place k c) h.1)
      go false false true z l n m g h = (number ∙ h.0, place ∙ h.1, other sort_answer h.0 (λ z. omega arith))
      go false false false true l n m g h = (number ∙ h.0, place ∙ h.1, other grammar_answer h.0 (λ z. omega arith))
      go false false false false l n m g h = (number ∙ h, tables h)

  module _ {code : ℕ} (t : Chosen c code) where
    -- Commands that say nothing but themselves pass.
    pub others_pass : eqb code declare_var_code ≡ false → eqb code define_fun_code ≡ false → eqb code synth_fun_code ≡ false
        → eqb code constraint_code ≡ false → eqb code assume_code ≡ false → tested counts nowhere k at c said ≡ passed said
    unfolding tested limit_place name_place sorting_place grammar_place
    others_pass e9 e10 e11 e12 e14 =
        let d9 = t.declares ∙ e9 in
        let d10 = t.defines ∙ e10 in
        let d11 = t.synthesizes ∙ e11 in
        let d12 = t.constrains ∙ e12 in
        let d14 = t.assumes ∙ e14 in
        rw (d9, d10, d11, d12, d14, le-ltb nowhere nowhere (omega arith))

-- Where a command is not past its limit, there are fewer of its kind before it.
pub fewer : (nowhere most before at others : ℕ) → at < nowhere → nowhere ≤ min (command_past nowhere most before at) others → before < most
fewer nowhere most before at others ahead h = go (ltb before most) refl h
  where
    go : (b : Bool) → ltb before most ≡ b → nowhere ≤ min (cond b nowhere at) others → before < most
    go true e h = ltb-true before most e
    go false e h = absurd (omega (arith, min-le_left at others))
