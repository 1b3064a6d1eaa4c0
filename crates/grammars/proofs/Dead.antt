-- The first of the declared non-terminals that is not found, and its name.
use Prim.Native.Nat.{ℕ, zero, suc, ◌+◌, ◌-◌, ◌*◌, ◌≤◌, ◌<◌}
use native.Mathlib.Nat.{add-zero, zero-add}
use native.Mathlib.Omega.{arith}
use mathlib.Core.Bool.{true, false}
use mathlib.Core.List.{List}
use mathlib.Core.Path.{◌≡◌, refl, sym, ◌∙◌, subst}
use lib.ListN.{length}
use borrow.Author.Tests.{le-ltb, lt-ltb}
use native.Mathlib.Decide.{dec_lt}
use Rattle.forest.specs.Forest.{count, none, tree}
use Rattle.forest.specs.Lists.{among}
use Rattle.derivation.specs.code.Productive.{FirstOut}
use Rattle.words.specs.Trees.{word_of}
use Rattle.lexemes.specs.Lists.{Items, after, inside, item}
use Rattle.lexemes.specs.code.Standing.{Between, ItemAt, ListAt, Reached, Stands}
use Rattle.lexemes.specs.code.Table.{next_at, row_width}
use Rattle.lexemes.proofs.Listed.{from_item, item_room}
use Rattle.shapes.specs.Shapes.{pair_shape}
use Rattle.written_sorts.proofs.PairParts.{sorted}
use Rattle.names.specs.Scopes.{View}
use Rattle.grammars.specs.Grammars.{dead_place, grammar_misfit, listed_misfit}
use Rattle.grammars.specs.Listing.{dead_misfit}
use Rattle.grammars.specs.code.Parts.{non_terminals_word}
use Rattle.grammars.specs.code.Read.{DeclaredAt, NamesDead}
use Rattle.grammars.proofs.Start.{item_shaped, name_placed}
use Rattle.grammars.proofs.SynthFunParts.{as_list, items_shaped, pairs, pairs_between}

module _ (nowhere : ℕ) (found : List ℕ) where
  -- each of them is found
  all_from : (A : ℕ) (F : Items) → ((B : ℕ) → B < count F → among (A + B) found ≡ true) → dead_misfit nowhere found A F ≡ nowhere
  unfolding count dead_misfit
  all_from A none h = refl
  all_from A (tree l ops more) h =
      rw (rw add-zero at (h 0 (omega arith)))
      (all_from (suc A) more (λ B low. let next : A + suc B ≡ suc A + B = omega arith in rw next at (h (suc B) (omega arith))))

  -- those before one of them are, and that one is not
  dead_from : (A d : ℕ) (F : Items) → d < count F → ((B : ℕ) → B < d → among (A + B) found ≡ true) → among (A + d) found ≡ false
      → dead_misfit nowhere found A F ≡ word_of (item 0 (inside d F))
  unfolding count dead_misfit inside
  dead_from A d none low h n = absurd (omega arith)
  dead_from A zero (tree l ops more) low h n = rw (rw add-zero at n)
  dead_from A (suc d) (tree l ops more) low h n =
      let next : A + suc d ≡ suc A + d = omega arith in
      rw (rw add-zero at (h 0 (omega arith)))
      (dead_from (suc A) d more (omega arith)
      (λ B l2. let then : A + suc B ≡ suc A + B = omega arith in rw then at (h (suc B) (omega arith))) (rw next at n))

  module _ {n d : ℕ} (F : Items) (counted : n ≡ count F) (first : FirstOut found n d) where
    -- none is named
    pub none_dead : n ≤ d → dead_misfit nowhere found 0 F ≡ nowhere
    none_dead h = all_from 0 F (λ B low. rw (zero-add B) (first.before B (omega arith)))

    -- the first is
    pub dead_named : d < n → dead_misfit nowhere found 0 F ≡ word_of (item 0 (inside d F))
    dead_named h =
        dead_from 0 d F (omega arith) (λ B low. rw (zero-add B) (first.before B low)) (rw (zero-add d) (first.here h))

-- ---- where it stands

-- the list that declares them
abbrev pub pairs_list : {lexemes : List ℕ} {at listed : ℕ} → DeclaredAt lexemes at listed → {list : ℕ} → list ≡ non_terminals_word lexemes at → ListAt lexemes list
pairs_list p el = as_list pair_shape (pairs p.command el)

module _ {lexemes : List ℕ} {at listed : ℕ} (p : DeclaredAt lexemes at listed) {dead : ℕ} (h : dead < listed)
    {list : ℕ} (el : list ≡ non_terminals_word lexemes at) {close : ℕ} (ec : close ≡ next_at lexemes list - 1) {word : ℕ}
    (reached : (b : Between lexemes (list + 1) close) → Reached lexemes (list + 1) close dead b word) where
  -- the pair
  abbrev pub pair-at : ItemAt lexemes word
  pair-at =
      let b = pairs_between p.command el ec in
      let F = inside 4 p.command.here.operands in
      record {
        source = b.source;
        same = b.same;
        label = item dead F;
        operands = inside dead F;
        more = after (suc dead) F;
        end = close;
        stands = subst (λ (G : Items). Stands b.source word G close) (from_item dead F (omega (arith, p.listed_are))) (reached b).stands;
      }

  -- its word and the next are words of the table
  pub pair_room : row_width * word < length lexemes
  pair_room = item_room pair-at

  -- its name is behind its bracket
  pub dead_placed : (nowhere : ℕ) → NamesDead p dead nowhere (word + 1)
  dead_placed nowhere found first =
      let F = inside 4 p.command.here.operands in
      let shaped = item_shaped pair_shape F (items_shaped pair_shape (pairs p.command el)) dead (omega (arith, p.listed_are)) in
      sym (name_placed pair-at (sorted (item dead F) (inside dead F) 2 shaped) (omega arith)) ∙ sym (dead_named nowhere found F p.listed_are first h)

-- there is none
pub no_dead : {lexemes : List ℕ} {at listed dead : ℕ} (p : DeclaredAt lexemes at listed) → listed ≤ dead → (nowhere : ℕ) → NamesDead p dead nowhere nowhere
no_dead p h nowhere found first = sym (none_dead nowhere found (inside 4 p.command.here.operands) p.listed_are first h)

-- ---- after the other causes

module _ {nowhere : ℕ} (view : View) (c : Items) where
  -- another cause of 9 comes first
  pub misfit_listed : listed_misfit nowhere view c < nowhere → grammar_misfit nowhere view c ≡ listed_misfit nowhere view c
  misfit_listed h = rw (lt-ltb (listed_misfit nowhere view c) nowhere h)

  -- where there is none it is the first that is not found
  pub misfit_dead : nowhere ≤ listed_misfit nowhere view c → grammar_misfit nowhere view c ≡ dead_place nowhere view c
  misfit_dead h = rw (le-ltb (listed_misfit nowhere view c) nowhere h)

  -- a grammar without a misfit has neither
  pub misfit_none : nowhere ≤ grammar_misfit nowhere view c → (nowhere ≤ listed_misfit nowhere view c) × (nowhere ≤ dead_place nowhere view c)
  misfit_none h = go (dec_lt (listed_misfit nowhere view c) nowhere)
    where
      go : Dec (listed_misfit nowhere view c < nowhere) → (nowhere ≤ listed_misfit nowhere view c) × (nowhere ≤ dead_place nowhere view c)
      go (yes l) = absurd (omega (arith, rw (misfit_listed l) at h))
      go (no l) = let passed : nowhere ≤ listed_misfit nowhere view c = omega arith in (passed, rw (misfit_dead passed) at h)
