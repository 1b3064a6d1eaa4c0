-- A script that passes is sorted, and so is what its grammars derive (demand 3).
use Prim.Native.Nat.{ℕ, ◌≤◌, ◌<◌}
use native.Mathlib.Omega.{arith}
use mathlib.Core.Bool.{Bool, true, false, cond, not, ◌||◌}
use mathlib.Core.List.{List, [], ◌∷◌, Memᴰ}
use mathlib.Core.Option.{some}
use mathlib.Core.Path.{◌≡◌, refl, sym, ◌∙◌, subst}
use lib.Dec.{ltb}
use lib.ListN.{length, length-map}
use borrow.Author.Tests.{lt-ltb, ltb-false, not-false}
use Rattle.forest.specs.Forest.{none, tree}
use Rattle.forest.proofs.Bools.{or_left}
use Rattle.terms.specs.Labels.{Terms}
use Rattle.terms.specs.Sorts.{sort_over, sorts_of as termSorts, with_sort}
use Rattle.terms.specs.code.Sorted.{AllSorted}
use Rattle.derivation.specs.Derivation.{Derives, non_terminal}
use Rattle.derivation.specs.Sorts.{form_sorts, item_sort}
use Rattle.derivation.proofs.Sorts.{derived_sorts}
use Rattle.words.specs.Trees.{word_of}
use Rattle.lexemes.specs.Lists.{Items, is_list}
use Rattle.lexemes.specs.code.Standing.{Source, Stands}
use Rattle.names.specs.Scopes.{Defined, Function, Named}
use Rattle.shapes.specs.Carried.{is_not_carried}
use Rattle.shapes.specs.Shapes.{command_shape}
use Rattle.forest.specs.Limits.{Counts}
use Rattle.script.specs.Script.{Known, Read, and_then, grammar_place, judged, tested, known_after, limit_place, name_place, out_of_place, passed, read_all, refused}
use Rattle.script.specs.Script.{sorting_place, nothing_known}
use Rattle.outcome.specs.Sorted.{grammar_scope}
use Rattle.outcome.specs.code.Sorted.{AllBool, AllRulesSorted, RulesSorted, Sorted}
use Rattle.outcome.proofs.AfterCommand.{after_command}
use Rattle.outcome.proofs.OneCommand.{command}
use Rattle.outcome.proofs.Growing.{AllBefore, Sound}
use Rattle.script.proofs.WordsBelow.{Below, stands_below}

-- A refusal is not what passes.
pub never_passed : {A : Type 0} (number place second : ℕ) {k : Known} → refused number place second ≡ passed k → A
never_passed number place second h = let z : ◌≡◌ {A = ℕ} 0 1 = cc in absurd (omega arith)

-- A test that does not end the reading has failed, and what follows passes.
not_refused : (test : Bool) (number place second : ℕ) {later : Read} {k : Known} → cond test (refused number place second) later ≡ passed k
    → (test ≡ false) × (later ≡ passed k)
not_refused true number place second h = never_passed number place second h
not_refused false number place second h = (refl, h)

-- Where a refusal is the other case, it is not what was read.
pub only_passed : (test : Bool) (number place second : ℕ) {read : Read} {k : Known} → cond test read (refused number place second) ≡ passed k → read ≡ passed k
only_passed true number place second h = h
only_passed false number place second h = never_passed number place second h

-- What follows a command that passes.
pub followed : (read : Read) (next : Known → Read) {k : Known} → and_then read next ≡ passed k
    → (later : Known) × (read ≡ passed later) × (next later ≡ passed k)
followed (refused number place second) next h = never_passed number place second h
followed (passed later) next h = (later, refl, h)

-- A command that passes has its shape and no fault in its names, its sorts and its grammar, and what it says is known.
pub record NoFault (nowhere : ℕ) (k : Known) (c : Items) (said later : Known) : Type 0 where
  pub shape : command_shape c ≡ true
  pub names : nowhere ≤ name_place nowhere k c
  pub sorts : nowhere ≤ sorting_place nowhere k c
  pub rules : nowhere ≤ grammar_place nowhere k c
  pub is : said ≡ later

-- Such is every command that passes.
pub no_faults : (counts : Counts) (nowhere : ℕ) (k : Known) (at : ℕ) (c : Items) (said : Known) {later : Known}
    → judged counts nowhere k at c said ≡ passed later → NoFault nowhere k c said later
unfolding judged tested
no_faults counts nowhere k at c said h =
    let carried = not_refused (is_not_carried k.weights c) _ _ _ h in
    let shaped = not_refused (not (command_shape c) || out_of_place k c) _ _ _ carried.1 in
    let limited = not_refused (ltb (limit_place counts nowhere k at c) nowhere) _ _ _ shaped.1 in
    let named = not_refused (ltb (name_place nowhere k c) nowhere) _ _ _ limited.1 in
    let sorted = not_refused (ltb (sorting_place nowhere k c) nowhere) _ _ _ named.1 in
    let ruled = not_refused (ltb (grammar_place nowhere k c) nowhere) _ _ _ sorted.1 in
    record {
      shape = not-false (command_shape c) (or_left (not (command_shape c)) (out_of_place k c) shaped.0);
      names = ltb-false _ _ named.0;
      sorts = ltb-false _ _ sorted.0;
      rules = ltb-false _ _ ruled.0;
      is = cc ruled.1;
    }

module _ (counts : Counts) (nowhere : ℕ) where
  -- What is known after commands that pass is sound, where it was before.
  passed_sound : (items : Items) {k later : Known} → Below nowhere items → Sound k → read_all counts nowhere k items ≡ passed later → Sound later
  unfolding Below read_all
  passed_sound none {k} {later} below sound h = let same : k ≡ later = cc (only_passed k.ended _ _ _ h) in subst Sound same sound
  passed_sound (tree l c more) {k} below sound h =
      let read = judged counts nowhere k (word_of l) c (known_after k c) in
      let next = followed read (λ (later : Known). read_all counts nowhere later more) (only_passed (is_list l) _ _ _ h) in
      let fine = no_faults counts nowhere k (word_of l) c (known_after k c) next.1 in
      let some_word : 0 < nowhere = omega (arith, below.0.first) in
      let after = after_command k c some_word below.1 sound fine.sorts fine.rules (command c) in
      passed_sound more below.2 (subst Sound fine.is after) next.2

  -- Every rule, body, constraint and assumption of a script that passes has its sort, where its items stand before word `nowhere`.
  pub passed_sorted : {s : Source} {i : ℕ} (items : Items) {k : Known} → Stands s i items nowhere
      → read_all counts nowhere nothing_known items ≡ passed k → Sorted k
  unfolding AllBefore AllBool AllRulesSorted AllSorted
  passed_sorted items stands h =
      let first : Sound nothing_known = record { sorted = record { bodies = tt; functions = tt; constraints = tt; assumptions = tt }; before = tt } in
      (passed_sound items (stands_below nowhere stands (omega arith)) first h).sorted

-- The rules of each of the functions are sorted.
of_function : {defs : List Defined} (fs : List Function) {f : Function} → AllRulesSorted defs fs → Memᴰ f fs → RulesSorted defs f
unfolding AllRulesSorted
of_function [] all m = elim m [ ]
of_function {defs} (g ∷ others) all (Memᴰ.head e) = subst (RulesSorted defs) (sym e) all.0
of_function (g ∷ others) all (Memᴰ.tail m) = of_function others all.1 m

-- What a grammar with sorted rules derives has the function's sort.
pub rules_derive : {defs : List Defined} {f : Function} {T : Terms} {ds : List ℕ} → RulesSorted defs f
    → Derives f.grammar (tree (non_terminal 0) none none) T ds → termSorts (grammar_scope defs f).terms T ≡ some (f.result ∷ [])
unfolding form_sorts item_sort sort_over with_sort
rules_derive {defs} {f} s d =
    let scope = grammar_scope defs f in
    let long = length-map f.non_terminals (λ (n : Named). n.sort) in
    let sorts = derived_sorts f.grammar scope (sym s.arguments) (λ r h. omega (arith, s.heads r h)) s.rules d in
    sorts ∙ rw (lt-ltb 0 (length scope.non_terminals) (omega (arith, s.start.0)), s.start.1)

-- "Every term that a function's grammar derives .. has that function's sort, though no sort check was run on the term".
pub derived_sorted : {k : Known} {f : Function} {T : Terms} {ds : List ℕ} → Sorted k → Memᴰ f k.functions
    → Derives f.grammar (tree (non_terminal 0) none none) T ds → termSorts (grammar_scope k.defined f).terms T ≡ some (f.result ∷ [])
derived_sorted {k} sorted member d = rules_derive (of_function k.functions sorted.functions member) d
