-- A response that is no list.
use Prim.Native.Nat.{ℕ, ◌<◌}
use native.Mathlib.Omega.{arith}
use mathlib.Core.Path.{◌≡◌, refl, sym, ap, ◌∙◌, subst}
use mathlib.Core.Bool.{Bool, true, false, ◌&&◌, cond}
use mathlib.Core.List.{List}
use lib.Dec.{eqb, ltb}
use borrow.Author.Tests.{eq-eqb, ltb-false, ltb-true, ne_eqb}
use Rattle.forest.specs.Forest.{count, tree}
use Rattle.words.specs.Trees.{Lexeme, word_of}
use Rattle.lexemes.specs.Lists.{Items, is, is_list}
use Rattle.lexemes.specs.code.Standing.{Source, Stands}
use Rattle.lexemes.specs.code.Table.{code_at, code_of, next_at, open_code}
use Rattle.lexemes.specs.code.Codes.{fail_code, infeasible_code}
use Rattle.lexemes.proofs.ByCode.{code_for, word_code}
use Rattle.lexemes.proofs.Listed.{at_item, no_list}
use Rattle.lexemes.proofs.Standing.{none_left, some_left}
use Rattle.written_sorts.proofs.Walked.{placed}
use Rattle.names.specs.Scopes.{Defined, Function}
use Rattle.forest.specs.Limits.{allowed}
use Rattle.script.specs.declared.Progress.{Progress}
use Rattle.script.specs.Response.{Answered, answered, in_script_order, is_alone, refused}
use Rattle.script.specs.code.Answers.{shape_answer, fail_answer, infeasible_answer}
use Rattle.response.specs.code.Answers.{Answers, Responded, Responding}
use Rattle.response.proofs.ListRead.{first_item}

-- What a word of that code gives, alone or not.
abbrev word_gives : (code : ℕ) → (alone : Bool) → Answered
word_gives code alone = cond (eqb code fail_code && alone) (refused fail_answer 0) (cond (eqb code infeasible_code && alone) (refused infeasible_answer 0) (refused shape_answer 0))

-- A response that begins with a word.
answered_word : (nowhere : ℕ) (defs : List Defined) (fs : List Function) (l : Lexeme) (c more : Items) (alone : Bool) → is_list l ≡ false → word_of l ≡ 0
    → is_alone (tree l c more) ≡ alone → answered allowed nowhere defs fs (tree l c more) ≡ word_gives (code_of l) alone
unfolding answered code_for
answered_word nowhere defs fs l c more alone no_list first e =
    let fail = word_code "fail" refl l in
    let infeasible = word_code "infeasible" refl l in
    rw (e, fail, infeasible, no_list, first)

-- The word is alone just when there is no other.
alone_by : {s : Source} {nowhere : ℕ} (l : Lexeme) (c : Items) {more : Items} → 0 < nowhere → Stands s 1 more nowhere
    → is_alone (tree l c more) ≡ eqb nowhere 1
unfolding count
alone_by {nowhere = nowhere} l c {more} some stands = go (ltb 1 nowhere) refl
  where
    go : (b : Bool) → ltb 1 nowhere ≡ b → is_alone (tree l c more) ≡ eqb nowhere 1
    go true e =
        let t = some_left stands (ltb-true 1 nowhere e) in
        let is = t.is in
        rw is (ne_eqb (count (tree l c (tree t.l t.ops t.rest))) 1 (λ z. omega arith) ∙ sym (ne_eqb nowhere 1 (λ z. omega
        (arith, ltb-true 1 nowhere e))))
    go false e =
        let h = ltb-false 1 nowhere e in
        let is = none_left stands h in
        rw is (sym (eq-eqb nowhere 1 (omega arith)))

module _ {text lexemes names raw places nodes : List ℕ} {p : Progress} {nowhere : ℕ} where
  -- A response that is refused at once.
  refused_whole : (q : Responding text lexemes names raw places nodes p nowhere) {number place : ℕ}
      → answered allowed nowhere q.known.defined (in_script_order q.known.functions) q.items ≡ refused number place
      → Responded q places nodes (record { number = number; place = place; rows = 0 })
  refused_whole q {number} {place} is = record {
    answers = subst (λ (x : Answered). Answers x text places nodes p.nodes q.known (record { number = number; place = place; rows = 0 })) (sym is)
        (refl, refl);
    grammars_hold = q.tables.grammars_hold;
    long = refl;
  }

  -- There is no word.
  pub nothing_said : nowhere ≡ 0 → (q : Responding text lexemes names raw places nodes p nowhere)
      → Responded q places nodes (record { number = shape_answer; place = nowhere; rows = 0 })
  unfolding answered
  nothing_said e q = let is = none_left q.stands (omega arith) in refused_whole q (rw is)

  module _ (some : nowhere ≡ 0 → ⊥) {code : ℕ} (ec : code ≡ code_at lexemes 0) (other : code ≡ open_code → ⊥) where
    -- A word gives what its code says.
    word_said : (q : Responding text lexemes names raw places nodes p nowhere)
        → answered allowed nowhere q.known.defined (in_script_order q.known.functions) q.items ≡ word_gives code (eqb nowhere 1)
    word_said q =
        let first : 0 < nowhere = omega arith in
        let t = some_left q.stands first in
        let x = first_item q t in
        let h = at_item x in
        let free = no_list ec other x in
        let next : next_at lexemes 0 ≡ 1 = (h.a_word free).0 in
        let rest = rw next at h.rest in
        ap (answered allowed nowhere q.known.defined (in_script_order q.known.functions)) t.is
        ∙ answered_word nowhere q.known.defined (in_script_order q.known.functions) t.l t.ops t.rest (eqb nowhere 1) free (placed x.stands)
        (alone_by t.l t.ops first rest)
        ∙ ap (λ (n : ℕ). word_gives n (eqb nowhere 1)) (sym h.code ∙ sym ec)

    -- The one word `fail`.
    pub fail_said : eqb code fail_code && eqb nowhere 1 ≡ true → (q : Responding text lexemes names raw places nodes p nowhere)
        → Responded q places nodes (record { number = fail_answer; place = 0; rows = 0 })
    fail_said t q = refused_whole q (word_said q ∙ rw t)

    module _ (nf : eqb code fail_code && eqb nowhere 1 ≡ false) where
      -- The one word `infeasible`.
      pub infeasible_said : eqb code infeasible_code && eqb nowhere 1 ≡ true → (q : Responding text lexemes names raw places nodes p nowhere)
          → Responded q places nodes (record { number = infeasible_answer; place = 0; rows = 0 })
      infeasible_said t q = refused_whole q (word_said q ∙ rw (nf, t))

      -- Anything else.
      pub other_said : eqb code infeasible_code && eqb nowhere 1 ≡ false → (q : Responding text lexemes names raw places nodes p nowhere)
          → Responded q places nodes (record { number = shape_answer; place = 0; rows = 0 })
      other_said t q = refused_whole q (word_said q ∙ rw (nf, t))
