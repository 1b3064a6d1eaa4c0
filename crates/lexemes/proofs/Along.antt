-- A walk along items, from each to the one behind it.
use Prim.Native.Nat.{ℕ, zero, suc, ◌+◌, ◌-◌, ◌*◌, ◌≤◌, ◌<◌}
use native.Mathlib.Numerals.{add-one}
use native.Mathlib.Omega.{arith}
use mathlib.Core.Path.{◌≡◌, refl, sym, ◌∙◌, subst}
use mathlib.Core.List.{List}
use lib.ListN.{length}
use Rattle.forest.specs.Forest.{count, none, tree}
use Rattle.words.specs.Trees.{Lexeme}
use Rattle.lexemes.specs.Lists.{Items, after}
use Rattle.lexemes.specs.code.Table.{next_at, row_width}
use Rattle.lexemes.specs.code.Standing.{Between, ItemAt, Reached, Stands}
use Rattle.lexemes.proofs.Standing.{here, none_left, some_left}

-- Of the items from one word to another the walk has come to those from word `at` on, and something holds of what is left.
pub record Left {lexemes : List ℕ} {first close : ℕ} (b : Between lexemes first close) (at : ℕ) (holds : (left : Items) → Type 0) : Type 0 where
  pub items : Items
  pub stands : Stands b.source at items close
  pub known : holds items

module _ {lexemes : List ℕ} {first close : ℕ} {G : Type 0} where
  -- The same for each thing g that may be given and says where items stand.
  pub record Along (items_of : G → Between lexemes first close) (at : ℕ) (holds : G → (left : Items) → Type 0) : Type 0 where
    pub given : G
    pub left : (g : G) → Left (items_of g) at (holds g)

  pub along_start : (items_of : G → Between lexemes first close) {holds : G → (left : Items) → Type 0} → G → ((g : G) → holds g (items_of g).items)
      → Along items_of first holds
  along_start items_of given start =
      record { given = given; left = λ g. record { items = (items_of g).items; stands = (items_of g).stands; known = start g } }

  module _ {items_of : G → Between lexemes first close} {at : ℕ} {holds : G → (left : Items) → Type 0} (a : Along items_of at holds) where
    -- at the end nothing is left
    pub along_end : close ≤ at → (g : G) → holds g none
    along_end h g = let x = a.left g in subst (holds g) (none_left x.stands h) x.known

    module _ (h : at < close) where
      -- before the end an item stands
      abbrev pub item-of : G → ItemAt lexemes at
      item-of g =
          let x = a.left g in
          let t = some_left x.stands h in
          record {
            source = (items_of g).source;
            same = (items_of g).same;
            label = t.l;
            operands = t.ops;
            more = t.rest;
            end = close;
            stands = subst (λ (F : Items). Stands (items_of g).source at F close) t.is x.stands;
          }

      pub along_here : (g : G) → let x = item-of g in holds g (tree x.label x.operands x.more)
      along_here g = subst (holds g) (some_left (a.left g).stands h).is (a.left g).known

      pub along_room : row_width * at < length lexemes
      along_room = let x = item-of a.given in (here x.same x.stands).room

      module _ {next : ℕ} (e : next ≡ next_at lexemes at) where
        pub along_ahead : at < next
        along_ahead = let x = item-of a.given in omega (arith, (here x.same x.stands).ahead)

        pub along_less : close - next < close - at
        along_less = omega (arith, along_ahead)

        -- a turn
        pub along_turn : {later : G → (left : Items) → Type 0}
            → ((g : G) (x : ItemAt lexemes at) → x.source ≡ (items_of g).source → holds g (tree x.label x.operands x.more) → later g x.more)
            → Along items_of next later
        along_turn step = record {
          given = a.given;
          left = λ g.
              let x = item-of g in
              record { items = x.more; stands = rw e (here x.same x.stands).rest; known = step g x refl (along_here g) };
        }

-- so many items were passed, and the others are left
abbrev pub Counted : {lexemes : List ℕ} {first close : ℕ} → (found : ℕ) → Between lexemes first close → (left : Items) → Type 0
Counted found b left = found + count left ≡ count b.items

-- the items from item n on are left
abbrev pub Passed : {lexemes : List ℕ} {first close : ℕ} → (n : ℕ) → Between lexemes first close → (left : Items) → Type 0
Passed n b left = left ≡ after n b.items

-- a walk along whatever items stand from one word to another
abbrev pub AlongAny : (lexemes : List ℕ) (first close at : ℕ) → (Between lexemes first close → (left : Items) → Type 0) → Type 0
AlongAny lexemes first close at holds = Along (λ (b : Between lexemes first close). b) at holds

pub after_more : (n : ℕ) (F : Items) {l : Lexeme} {ops more : Items} → tree l ops more ≡ after n F → more ≡ after (n + 1) F
unfolding after
after_more n F e = rw add-one (go n F e)
  where
    go : (n : ℕ) (F : Items) {l : Lexeme} {ops more : Items} → tree l ops more ≡ after n F → more ≡ after (suc n) F
    go zero none e = let z : ◌≡◌ {A = ℕ} 0 1 = cc in absurd (omega arith)
    go (suc n) none e = let z : ◌≡◌ {A = ℕ} 0 1 = cc in absurd (omega arith)
    go zero (tree l ops more) e = cc
    go (suc n) (tree l ops more) e = go n more e

pub after_past : (n m : ℕ) (F : Items) → n ≤ m → none ≡ after n F → after m F ≡ none
unfolding after
after_past zero m F h e = rw (← e) (go m)
  where
    go : (m : ℕ) → after m none ≡ none
    go zero = refl
    go (suc m) = refl
after_past (suc n) zero F h e = absurd (omega arith)
after_past (suc n) (suc m) none h e = refl
after_past (suc n) (suc m) (tree l ops more) h e = after_past n m more (omega arith) e

module _ {lexemes : List ℕ} {first close : ℕ} where
  pub count_start : Between lexemes first close → AlongAny lexemes first close first (Counted 0)
  count_start given = along_start (λ b. b) given (λ b. omega arith)

  pub passed_start : Between lexemes first close → AlongAny lexemes first close first (Passed 0)
  unfolding after
  passed_start given = along_start (λ b. b) given (λ b. refl)

  module _ {at : ℕ} where
    pub count_turn : (found : ℕ) → AlongAny lexemes first close at (Counted found) → at < close → {next : ℕ} → next ≡ next_at lexemes at
        → AlongAny lexemes first close next (Counted (found + 1))
    unfolding count
    count_turn found a h e = along_turn a h e (λ b x source known. omega arith)

    pub count_end : (found : ℕ) → AlongAny lexemes first close at (Counted found) → close ≤ at → (b : Between lexemes first close) → found ≡ count b.items
    unfolding count
    count_end found a h b = omega (arith, along_end a h b)

    module _ (passed n : ℕ) (a : AlongAny lexemes first close at (Passed passed)) where
      pub passed_turn : at < close → {next : ℕ} → next ≡ next_at lexemes at → AlongAny lexemes first close next (Passed (passed + 1))
      passed_turn h e = along_turn a h e (λ b x source known. after_more passed b.items known)

      -- n items were passed
      pub passed_all : passed ≡ n → (b : Between lexemes first close) → Reached lexemes first close n b at
      passed_all same b = let x = a.left b in record { stands = rw (← same, ← x.known) x.stands }

      -- there are no more than n
      pub passed_out : passed ≤ n → close ≤ at → (b : Between lexemes first close) → Reached lexemes first close n b at
      passed_out h over b =
          let x = a.left b in
          let done = none_left x.stands over in
          record { stands = rw (after_past passed n b.items h (sym done ∙ x.known), ← done) x.stands }
