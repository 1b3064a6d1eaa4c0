-- New names that are not at fault, and the earlier declaration of one that is taken.
use Prim.Native.Nat.{ℕ, ◌≤◌, ◌<◌, max}
use native.Mathlib.Omega.{arith}
use mathlib.Core.Bool.{Bool, true, false, cond, ◌&&◌}
use mathlib.Core.List.{List, [], ◌∷◌, Memᴰ}
use mathlib.Core.Path.{◌≡◌, refl, ◌∙◌}
use borrow.Author.Tests.{eqb-true, lt-ltb, ltb-false, ltb-true}
use lib.Dec.{eqb, ltb}
use Rattle.forest.specs.Forest.{tree}
use Rattle.forest.specs.Lists.{same_bytes}
use Rattle.forest.proofs.Bools.{and_left, and_right}
use Rattle.words.specs.Trees.{Lexeme, word_of}
use Rattle.lexemes.specs.Lists.{Items, item, name_of}
use Rattle.names.specs.Earlier.{Declared, earlier, last_before}
use Rattle.names.specs.New.{new_name, new_pairs}
use Rattle.names.specs.Scopes.{is_taken}

-- A new name before the first word at fault is neither reserved nor in scope.
pub name_free : {w : ℕ} (nowhere : ℕ) (scope : List (List ℕ)) (l : Lexeme) → word_of l < w → w ≤ new_name nowhere scope l → is_taken scope (name_of l) ≡ false
name_free {w} nowhere scope l below h = go (is_taken scope (name_of l)) h
  where
    go : (taken : Bool) → w ≤ cond taken (word_of l) nowhere → taken ≡ false
    go true h = absurd (omega arith)
    go false h = refl

-- The name of the first of pairs is tested, and in scope for the others.
pub pairs_free : {w : ℕ} (nowhere : ℕ) (scope : List (List ℕ)) (l : Lexeme) (ops more : Items) → w ≤ new_pairs nowhere scope (tree l ops more)
    → (w ≤ new_name nowhere scope (item 0 ops)) × (w ≤ new_pairs nowhere (name_of (item 0 ops) ∷ scope) more)
unfolding new_pairs
pairs_free nowhere scope l ops more h = (omega arith, omega arith)

-- A name that is spelt n and declared before word w, at a place.
pub record Earlier (ds : List Declared) (w : ℕ) (n : List ℕ) (place : ℕ) : Type 0 where
  pub declared : Declared
  pub known : Memᴰ declared ds
  pub spelt : same_bytes declared.name n ≡ true
  pub before : declared.at < w
  pub is : declared.at ≡ place

-- It is one of more names too.
among_more : {ds : List Declared} {w : ℕ} {n : List ℕ} {place found : ℕ} (d : Declared) → found ≡ place → Earlier ds w n found → Earlier (d ∷ ds) w n place
among_more d same e =
    record { declared = e.declared; known = Memᴰ.tail e.known; spelt = e.spelt; before = e.before; is = e.is ∙ same }

-- The last of the names that is spelt n and declared before word w is such a one, where there is one.
pub last_found : (ds : List Declared) (w : ℕ) (n : List ℕ) → 0 < last_before ds w n → Earlier ds w n (last_before ds w n)
unfolding last_before
last_found [] w n h = absurd (omega arith)
last_found (d ∷ more) w n h =
    go (same_bytes d.name n && ltb d.at w) refl (ltb d.at (last_before more w n)) refl h (last_found more w n)
  where
    last : ℕ
    last = last_before more w n

    go : (t : Bool) → same_bytes d.name n && ltb d.at w ≡ t → (later : Bool) → ltb d.at last ≡ later → 0 < max (cond t d.at 0) last
        → (0 < last → Earlier more w n last) → Earlier (d ∷ more) w n (max (cond t d.at 0) last)
    go true e true f h rest = let l = ltb-true d.at last f in among_more d (omega arith) (rest (omega arith))
    go true e false f h rest = record {
      declared = d;
      known = Memᴰ.head refl;
      spelt = and_left (same_bytes d.name n) (ltb d.at w) e;
      before = ltb-true d.at w (and_right (same_bytes d.name n) (ltb d.at w) e);
      is = omega (arith, ltb-false d.at last f);
    }
    go false e later f h rest = among_more d (omega arith) (rest (omega arith))

-- And no other such is later.
pub none_later : (ds : List Declared) (w : ℕ) (n : List ℕ) {d : Declared} → Memᴰ d ds → same_bytes d.name n ≡ true → d.at < w
    → d.at ≤ last_before ds w n
unfolding last_before
none_later [] w n m same h = elim m [ ]
none_later (e ∷ more) w n {d} (Memᴰ.head q) same h = rw (← q, same, lt-ltb d.at w h) (omega arith)
none_later (e ∷ more) w n {d} (Memᴰ.tail m) same h = omega (arith, none_later more w n m same h)

-- The new name at word w that has an earlier declaration.
pub record Taken (all new : List Declared) (w place : ℕ) : Type 0 where
  pub taken : Declared
  pub among_new : Memᴰ taken new
  pub at_word : taken.at ≡ w
  pub declaration : Earlier all w taken.name place

-- Where a second number speaks of a word, it is the place of such a declaration.
pub earlier_found : (all new : List Declared) (w : ℕ) → 0 < earlier all new w → Taken all new w (earlier all new w)
unfolding earlier
earlier_found all [] w h = absurd (omega arith)
earlier_found all (d ∷ more) w h = go (eqb d.at w) refl h (earlier_found all more w)
  where
    go : (t : Bool) → eqb d.at w ≡ t → 0 < cond t (last_before all w d.name) (earlier all more w)
        → (0 < earlier all more w → Taken all more w (earlier all more w))
        → Taken all (d ∷ more) w (cond t (last_before all w d.name) (earlier all more w))
    go true e h rest = record { taken = d; among_new = Memᴰ.head refl; at_word = eqb-true d.at w e; declaration = last_found all w d.name h }
    go false e h rest =
        let t = rest h in
        record { taken = t.taken; among_new = Memᴰ.tail t.among_new; at_word = t.at_word; declaration = t.declaration }
