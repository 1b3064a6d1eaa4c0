-- A response that passes: its bodies fit the script's functions.
use Prim.Native.Nat.{ℕ, ◌≤◌, ◌<◌, min}
use native.Mathlib.Omega.{arith}
use mathlib.Core.Bool.{Bool, true, false, cond, not, ◌&&◌}
use mathlib.Core.List.{List, [], ◌∷◌}
use mathlib.Core.Path.{◌≡◌, refl, subst}
use lib.Dec.{ltb}
use borrow.Author.Tests.{ltb-false}
use Rattle.forest.specs.Forest.{none, tree}
use Rattle.words.specs.Reading.{reading_of}
use Rattle.words.specs.Trees.{word_of}
use Rattle.words.specs.declared.Limits.{Limits}
use Rattle.words.specs.Answers.{Reading}
use Rattle.std.specs.Prelude.{Ok, Err}
use Rattle.lexemes.specs.Lists.{Items, close_of, inside, is, is_list, item, items_of}
use Rattle.lexemes.proofs.WholeText.{text_stands}
use Rattle.shapes.specs.Carried.{any_uncarried}
use Rattle.shapes.specs.Shapes.{define_fun_shape}
use Rattle.names.specs.Scopes.{Defined, Function}
use Rattle.headers.specs.Heads.{header_past}
use Rattle.forest.specs.Limits.{allowed, most_nodes}
use Rattle.headers.specs.Tokens.{differing, header_of, header_tokens, words_in}
use Rattle.term_faults.specs.Faults.{body_fault, scope_of}
use Rattle.script.specs.Limits.{node_past}
use Rattle.script.specs.Naming.{term_names}
use Rattle.script.specs.Script.{Known}
use Rattle.script.proofs.WordsBelow.{Below, inside_below, item_below, stands_below}
use Rattle.outcome.proofs.BodiesPromised.{body_sorted}
use Rattle.script.specs.Response.{Answered, Body, answered, bodies, nothing_behind, in_script_order, is_alone, judged_all, judged_body, judged_extra, refused}
use Rattle.script.specs.Response.{response_view, with_body}
use Rattle.response.specs.code.Functions.{body_of}
use Rattle.script.specs.Outcome.{ResponseOutcome, by_answers, by_response, given, response_within}
use Rattle.script.specs.code.Answers.{fail_answer, header_answer, infeasible_answer, shape_answer}
use Rattle.outcome.specs.code.Assured.{BodiesFit}
use Rattle.outcome.proofs.Nodes.{few_nodes}

-- A refusal gives no bodies.
never_bodies : {A : Type 0} (number place : ℕ) {bs : List Body} → refused number place ≡ bodies bs → A
never_bodies number place h = let z : ◌≡◌ {A = ℕ} 0 1 = cc in absurd (omega arith)

-- A test that does not end the reading has failed, and what follows gives the bodies.
not_refused : (test : Bool) (number place : ℕ) {later : Answered} {bs : List Body} → cond test (refused number place) later ≡ bodies bs
    → (test ≡ false) × (later ≡ bodies bs)
not_refused true number place h = never_bodies number place h
not_refused false number place h = (refl, h)

-- Where a refusal is the other case, it is not what was read.
only_bodies : (test : Bool) (number place : ℕ) {read : Answered} {bs : List Body} → cond test read (refused number place) ≡ bodies bs → read ≡ bodies bs
only_bodies true number place h = h
only_bodies false number place h = never_bodies number place h

-- The bodies of which one is in front.
followed : (b : Body) (later : Answered) {bs : List Body} → with_body b later ≡ bodies bs → (others : List Body) × (later ≡ bodies others) × (b ∷ others ≡ bs)
followed b (refused number place) h = never_bodies number place h
followed b (bodies others) h = (others, refl, cc)

-- Behind the outer list nothing stands.
nothing-behind : (items : Items) {bs : List Body} → nothing_behind items ≡ bodies bs → bs ≡ []
nothing-behind none h = cc
nothing-behind (tree l c more) h = never_bodies shape_answer (word_of l) h

-- A `define-fun` past the last function gives no bodies.
none_extra : (nowhere at : ℕ) (c : Items) {bs : List Body} → judged_extra allowed nowhere at c ≡ bodies bs → ⊥
unfolding judged_extra
none_extra nowhere at c h =
    let command = not_refused (not (is "define-fun" (item 0 c))) _ _ h in
    let carried = not_refused (any_uncarried c) _ _ command.1 in
    let shaped = not_refused (not (define_fun_shape c)) _ _ carried.1 in
    never_bodies _ _ (not_refused (ltb (min (header_past allowed nowhere c) (node_past allowed nowhere (item 4 c) (inside 4 c))) nowhere) _ _ shaped.1).1

-- A `define-fun` that passes has no node past the limit and no fault in its sorts, and its body is in front.
record NoFault (nowhere : ℕ) (defs : List Defined) (f : Function) (c : Items) (later : Answered) (bs : List Body) : Type 0 where
  few : nowhere ≤ node_past allowed nowhere (item 4 c) (inside 4 c)
  sorts : nowhere ≤ body_fault nowhere (response_view defs f) f.result (item 4 c) (inside 4 c)
  is_first : with_body (body_of defs f c) later ≡ bodies bs

module _ (nowhere : ℕ) (defs : List Defined) where
  -- Such is every `define-fun` that passes.
  no_faults : (f : Function) (at : ℕ) (c : Items) (later : Answered) {bs : List Body} → judged_body allowed nowhere defs f at c later ≡ bodies bs
      → NoFault nowhere defs f c later bs
  unfolding judged_body
  no_faults f at c later h =
      let past = node_past allowed nowhere (item 4 c) (inside 4 c) in
      let limit = min (header_past allowed nowhere c) past in
      let header = differing nowhere (words_in (header_of c)) (header_tokens f) in
      let name = term_names nowhere (response_view defs f) (item 4 c) (inside 4 c) in
      let sort = body_fault nowhere (response_view defs f) f.result (item 4 c) (inside 4 c) in
      let command = not_refused (not (is "define-fun" (item 0 c))) _ _ h in
      let carried = not_refused (any_uncarried c) _ _ command.1 in
      let shaped = not_refused (not (define_fun_shape c)) _ _ carried.1 in
      let limited = not_refused (ltb limit nowhere) _ _ shaped.1 in
      let headed = not_refused (ltb header nowhere) _ _ limited.1 in
      let named = not_refused (ltb name nowhere) _ _ headed.1 in
      let sorted = not_refused (ltb sort nowhere) _ _ named.1 in
      let low = ltb-false limit nowhere limited.0 in
      record { few = omega arith; sorts = ltb-false sort nowhere sorted.0; is_first = sorted.1 }

  -- The bodies that the commands give fit the functions, where nothing stands behind them.
  judged_fit : (close : ℕ) (fs : List Function) (items : Items) (after : Answered) (bs : List Body) → Below nowhere items
      → ((cs : List Body) → after ≡ bodies cs → cs ≡ []) → judged_all allowed nowhere defs close fs items after ≡ bodies bs → BodiesFit defs fs bs
  unfolding Below BodiesFit judged_all
  judged_fit close [] none after bs below last h = rw (last bs h) tt
  judged_fit close (f ∷ fs) none after bs below last h = never_bodies header_answer close h
  judged_fit close [] (tree l c more) after bs below last h = absurd (none_extra nowhere (word_of l) c (only_bodies (is_list l) shape_answer (word_of l) h))
  judged_fit close (f ∷ fs) (tree l c more) after bs below last h =
      let view = response_view defs f in
      let later = judged_all allowed nowhere defs close fs more after in
      let fine = no_faults f (word_of l) c later (only_bodies (is_list l) shape_answer (word_of l) h) in
      let next = followed (body_of defs f c) later fine.is_first in
      let some_word : 0 < nowhere = omega (arith, below.0.first) in
      let first = item_below some_word 4 c below.1 in
      let sorts = body_sorted view f.result (item 4 c) (inside 4 c) first refl fine.sorts in
      let few = few_nodes view (scope_of view).terms most_nodes (item 4 c) (inside 4 c) first (inside_below nowhere 4 c below.1) refl sorts fine.few in
      subst (BodiesFit defs (f ∷ fs)) next.2 (sorts, few, judged_fit close fs more after next.0 below.2 last next.1)

  -- So do those that the response's items give.
  answered_fit : (fs : List Function) (items : Items) (bs : List Body) → Below nowhere items → answered allowed nowhere defs fs items ≡ bodies bs
      → BodiesFit defs fs bs
  unfolding Below answered
  answered_fit fs none bs below h = never_bodies shape_answer nowhere h
  answered_fit fs (tree l c more) bs below h =
      let alone = is_alone (tree l c more) in
      let some-answer = not_refused (is "fail" l && alone) fail_answer 0 h in
      let feasible = not_refused (is "infeasible" l && alone) infeasible_answer 0 some-answer.1 in
      let listed = only_bodies (is_list l) shape_answer (word_of l) feasible.1 in
      judged_fit (close_of l) fs c (nothing_behind more) bs below.1 (λ cs e. nothing-behind more e) listed

-- A refusal gives nothing.
not_given : {A : Type 0} {number offset : ℕ} {bs : List Body} → ResponseOutcome.faulty number offset ≡ given bs → A
not_given e = let z : ◌≡◌ {A = ℕ} 0 1 = cc in absurd (omega arith)

-- What the commands give is what was read.
by-answers : (text : List ℕ) (read : Answered) {bs : List Body} → by_answers text read ≡ given bs → read ≡ bodies bs
by-answers text (refused number place) e = not_given e
by-answers text (bodies bs) e = cc

-- The bodies of a response that passes fit the functions of the script.
pub response_fits : (limits : Limits) (k : Known) (text : List ℕ) {bs : List Body} → response_within limits k text ≡ given bs
    → BodiesFit k.defined (in_script_order k.functions) bs
unfolding response_within
response_fits limits k text {bs} e = go (reading_of limits text) refl e
  where
    go : (reading : Reading) → reading_of limits text ≡ reading → by_response k text reading ≡ given bs
        → BodiesFit k.defined (in_script_order k.functions) bs
    go (Err refusal) whole h = not_given h
    go (Ok n) whole h =
        let stands = text_stands limits text n whole in
        let read = by-answers text (answered allowed n k.defined (in_script_order k.functions) (items_of text)) h in
        answered_fit n k.defined (in_script_order k.functions) (items_of text) bs (stands_below n stands (omega arith)) read
