-- Declared names with distinct spellings, none of them reserved: one more among them, and the one of them that a new name takes.
use Prim.Native.Nat.{ℕ, ◌≤◌, ◌<◌, max}
use native.Mathlib.Omega.{arith}
use mathlib.Core.Bool.{Bool, true, false, cond, ◌&&◌, ◌||◌, and-false}
use mathlib.Core.List.{List, [], ◌∷◌, ◌++◌, Memᴰ, append_assoc, append-nil}
use mathlib.Core.Path.{◌≡◌, refl, ap, sym, ◌∙◌, subst}
use borrow.Author.Tests.{lt-ltb, ltb-true}
use lib.Dec.{ltb}
use Rattle.forest.specs.Forest.{none, tree}
use Rattle.forest.specs.Lists.{same_bytes}
use Rattle.forest.proofs.Bools.{apart, or_left, or_right}
use Rattle.forest.proofs.Searching.{same_bytes_lem}
use Rattle.words.specs.Trees.{Lexeme, word_of}
use Rattle.lexemes.specs.Lists.{Items, item, name_of}
use Rattle.lexemes.specs.Reserved.{is_reserved}
use Rattle.names.specs.Earlier.{Declared, declared_names, last_before, spellings}
use Rattle.names.specs.New.{named_by, new_name, new_pairs}
use Rattle.names.specs.Scopes.{is_named}
use Rattle.names.proofs.Taken.{name_free, pairs_free}
use Rattle.script.proofs.WordsBelow.{Below, item_below}
use Rattle.outcome.specs.Scoped.{AllBefore, Apart, declared_before}

-- Whether two names are the same is asked in either order.
turned : (u v : List ℕ) → same_bytes u v ≡ false → same_bytes v u ≡ false
turned u v h = go (same_bytes v u) refl
  where
    go : (same : Bool) → same_bytes v u ≡ same → same ≡ false
    go true e = let q = same_bytes_lem v u e in apart (let z : ◌≡◌ {A = Bool} false true = cc in z)
    go false e = refl

-- A declared name that is neither reserved nor one of the names.
pub record Untaken (ds : List Declared) (d : Declared) : Type 0 where
  pub unreserved : is_reserved d.name ≡ false
  pub unnamed : is_named (spellings ds) d.name ≡ false

-- ---- one name more

-- It makes no difference where a name stands among others.
pub named_among : (front back : List Declared) (d : Declared) (n : List ℕ)
    → is_named (spellings (front ++ d ∷ back)) n ≡ same_bytes d.name n || is_named (spellings (front ++ back)) n
unfolding is_named
named_among [] back d n = refl
named_among (e ∷ front) back d n =
    ap (◌||◌ (same_bytes e.name n)) (named_among front back d n)
    ∙ turn (same_bytes e.name n) (same_bytes d.name n) (is_named (spellings (front ++ back)) n)
  where
    turn : (a b c : Bool) → a || (b || c) ≡ b || (a || c)
    turn true true c = refl
    turn true false c = refl
    turn false b c = refl

-- One that is not taken leaves them apart.
pub apart_among : (front back : List Declared) (d : Declared) → Untaken (front ++ back) d → Apart (spellings (front ++ back))
    → Apart (spellings (front ++ d ∷ back))
unfolding Apart is_named
apart_among [] back d new apart = (new.unreserved, new.unnamed, apart)
apart_among (e ∷ front) back d new apart =
    let other = turned e.name d.name (or_left (same_bytes e.name d.name) _ new.unnamed) in
    let left = or_right (same_bytes e.name d.name) (is_named (spellings (front ++ back)) d.name) new.unnamed in (
      apart.0,
      named_among front back d e.name ∙ rw (other) apart.1,
      apart_among front back d (record { unreserved = new.unreserved; unnamed = left }) apart.2,
    )

-- One of them is not taken by the others, which are apart.
pub apart_without : (front back : List Declared) (d : Declared) → Apart (spellings (front ++ d ∷ back))
    → Untaken (front ++ back) d × Apart (spellings (front ++ back))
unfolding Apart is_named
apart_without [] back d apart = (record { unreserved = apart.0; unnamed = apart.1 }, apart.2)
apart_without (e ∷ front) back d apart =
    let rest = apart_without front back d apart.2 in
    let named = sym (named_among front back d e.name) ∙ apart.1 in
    let other = turned d.name e.name (or_left (same_bytes d.name e.name) _ named) in (
      record { unreserved = rest.0.unreserved; unnamed = rw other rest.0.unnamed },
      (apart.0, or_right (same_bytes d.name e.name) _ named, rest.1),
    )

-- ---- new names before a word that is not past the first at fault

-- Of two lists.
pub before_append : (w : ℕ) (front back : List Declared) → declared_before w (front ++ back) ≡ declared_before w front ++ declared_before w back
unfolding declared_before
before_append w [] back = refl
before_append w (d ∷ front) back = go (ltb d.at w) (before_append w front back)
  where
    go : (t : Bool) → declared_before w (front ++ back) ≡ declared_before w front ++ declared_before w back
        → cond t (d ∷ declared_before w (front ++ back)) (declared_before w (front ++ back))
        ≡ cond t (d ∷ declared_before w front) (declared_before w front) ++ declared_before w back
    go true e = ap (◌∷◌ d) e
    go false e = e

-- They are all, where all are declared before it.
pub before_all : (w : ℕ) (ds : List Declared) → AllBefore w ds → declared_before w ds ≡ ds
unfolding AllBefore declared_before
before_all w [] all = refl
before_all w (d ∷ more) all = rw (lt-ltb d.at w all.0) (ap (◌∷◌ d) (before_all w more all.1))

-- A scope has the names of the declarations.
abbrev pub Covers : (scope : List (List ℕ)) → List Declared → Type 0
Covers scope ds = (n : List ℕ) → is_named scope n ≡ false → is_named (spellings ds) n ≡ false

-- With further names it has those of them that are declared before a word.
pub covers_more : (w : ℕ) (scope : List (List ℕ)) (ds es : List Declared) → Covers scope ds → Covers (spellings es ++ scope) (ds ++ declared_before w es)
unfolding declared_before is_named
covers_more w scope ds [] covers n h = ap (λ (all : List Declared). is_named (spellings all) n) (append-nil ds) ∙ covers n h
covers_more w scope ds (e ∷ es) covers n h =
    go (ltb e.at w) (covers_more w scope ds es covers n (or_right (same_bytes e.name n) (is_named (spellings es ++ scope) n) h))
  where
    go : (t : Bool) → is_named (spellings (ds ++ declared_before w es)) n ≡ false
        → is_named (spellings (ds ++ cond t (e ∷ declared_before w es) (declared_before w es))) n ≡ false
    go true later = named_among ds (declared_before w es) e n ∙ rw (or_left (same_bytes e.name n) (is_named (spellings es ++ scope) n) h) later
    go false later = later

module _ (w nowhere : ℕ) where
  -- A new name is not taken, where its word is before the first at fault.
  pub new-name : (scope : List (List ℕ)) (ds : List Declared) → Covers scope ds → (l : Lexeme) → word_of l < w → w ≤ new_name nowhere scope l
      → Untaken ds (record { name = name_of l; at = word_of l })
  new-name scope ds covers l below h =
      let free = name_free nowhere scope l below h in
      record { unreserved = or_left _ _ free; unnamed = covers (name_of l) (or_right (is_reserved (name_of l)) _ free) }

  -- It leaves the names before that word apart.
  pub apart_new : (scope : List (List ℕ)) (ds : List Declared) → Covers scope ds → (l : Lexeme) → w ≤ new_name nowhere scope l → Apart (spellings ds)
      → Apart (spellings (ds ++ declared_before w (record { name = name_of l; at = word_of l } ∷ [])))
  unfolding declared_before
  apart_new scope ds covers l h apart = go (ltb (word_of l) w) refl
    where
      d : Declared
      d = record { name = name_of l; at = word_of l }

      go : (t : Bool) → ltb (word_of l) w ≡ t → Apart (spellings (ds ++ cond t (d ∷ []) []))
      go true e =
          apart_among ds [] d (subst (λ (es : List Declared). Untaken es d) (sym (append-nil ds)) (new-name scope ds covers l (ltb-true (word_of l) w e) h))
          (subst (λ (es : List Declared). Apart (spellings es)) (sym (append-nil ds)) apart)
      go false e = subst (λ (es : List Declared). Apart (spellings es)) (sym (append-nil ds)) apart

  -- So do the names of pairs.
  pub apart_pairs : (scope : List (List ℕ)) (ds : List Declared) → Covers scope ds → (pairs : Items) → w ≤ new_pairs nowhere scope pairs → Apart (spellings ds)
      → Apart (spellings (ds ++ declared_before w (declared_names (named_by pairs))))
  unfolding declared_before named_by
  apart_pairs scope ds covers none h apart = subst (λ (es : List Declared). Apart (spellings es)) (sym (append-nil ds)) apart
  apart_pairs scope ds covers (tree l ops more) h apart =
      let d : Declared = record { name = name_of (item 0 ops); at = word_of (item 0 ops) } in
      let first = declared_before w (d ∷ []) in
      let free = pairs_free nowhere scope l ops more h in
      let one = apart_new scope ds covers (item 0 ops) free.0 apart in
      let rest = apart_pairs (d.name ∷ scope) (ds ++ first) (covers_more w scope ds (d ∷ []) covers) more free.1 one in
      subst (λ (es : List Declared). Apart (spellings es))
      (append_assoc ds first _ ∙ ap (◌++◌ ds) (sym (before_append w (d ∷ []) (declared_names (named_by more))))) rest

-- ---- places

-- What is declared before a word is declared before a later one.
pub before_later : (ds : List Declared) {at next : ℕ} → at ≤ next → AllBefore at ds → AllBefore next ds
unfolding AllBefore
before_later [] h before = tt
before_later (d ∷ more) h before = (omega (arith, before.0), before_later more h before.1)

-- One more among names that are declared before a word.
pub before_among : (front back : List Declared) (d : Declared) {w : ℕ} → d.at < w → AllBefore w (front ++ back) → AllBefore w (front ++ d ∷ back)
unfolding AllBefore
before_among [] back d h before = (h, before)
before_among (e ∷ front) back d h before = (before.0, before_among front back d h before.1)

-- One of them, and the others.
pub before_without : (w : ℕ) (front back : List Declared) (d : Declared) → AllBefore w (front ++ d ∷ back) → (d.at < w) × AllBefore w (front ++ back)
unfolding AllBefore
before_without w [] back d before = before
before_without w (e ∷ front) back d before =
    let rest = before_without w front back d before.1 in
    (rest.0, (before.0, rest.1))

-- Two lists of names that are declared before a word.
pub before_both : (w : ℕ) (front back : List Declared) → AllBefore w front → AllBefore w back → AllBefore w (front ++ back)
unfolding AllBefore
before_both w [] back one other = other
before_both w (d ∷ front) back one other = (one.0, before_both w front back one.1 other)

-- The names of pairs are declared before a word that the pairs stand before.
pub pairs_before : {w : ℕ} → 0 < w → (pairs : Items) → Below w pairs → AllBefore w (declared_names (named_by pairs))
unfolding AllBefore Below named_by
pairs_before some none below = tt
pairs_before some (tree l ops more) below = ((item_below some 0 ops below.1).first, pairs_before some more below.2)

-- ---- the one that a new name takes

-- A name that is none of these has no earlier declaration among them.
none_spelt : (ds : List Declared) (w : ℕ) (n : List ℕ) → is_named (spellings ds) n ≡ false → last_before ds w n ≡ 0
unfolding is_named last_before
none_spelt [] w n h = refl
none_spelt (d ∷ more) w n h =
    rw (or_left (same_bytes d.name n) _ h, none_spelt more w n (or_right (same_bytes d.name n) (is_named (spellings more) n) h)) refl

-- Names that are not declared before the word make no difference.
pub last_kept : (front ds : List Declared) (w : ℕ) (n : List ℕ) → last_before (front ++ ds) w n ≡ last_before (front ++ declared_before w ds) w n
unfolding declared_before last_before
last_kept (e ∷ front) ds w n = ap (max (cond (same_bytes e.name n && ltb e.at w) e.at 0)) (last_kept front ds w n)
last_kept [] [] w n = refl
last_kept [] (d ∷ ds) w n = go (ltb d.at w) refl (last_kept [] ds w n)
  where
    go : (t : Bool) → ltb d.at w ≡ t → last_before ds w n ≡ last_before (declared_before w ds) w n
        → max (cond (same_bytes d.name n && t) d.at 0) (last_before ds w n)
        ≡ last_before (cond t (d ∷ declared_before w ds) (declared_before w ds)) w n
    go true e same = rw (e, same) refl
    go false e same = rw (and-false (same_bytes d.name n)) (omega (arith, same))

-- A reserved word is none of the names.
reserved_unnamed : (ds : List Declared) (n : List ℕ) → Apart (spellings ds) → is_reserved n ≡ true → is_named (spellings ds) n ≡ false
unfolding Apart is_named
reserved_unnamed [] n all h = refl
reserved_unnamed (d ∷ more) n all h = go (same_bytes d.name n) refl (reserved_unnamed more n all.2 h)
  where
    go : (same : Bool) → same_bytes d.name n ≡ same → is_named (spellings more) n ≡ false → same || is_named (spellings more) n ≡ false
    go true e rest = let q = same_bytes_lem d.name n e in apart (sym all.0 ∙ ap is_reserved q ∙ h)
    go false e rest = rest

-- "0 for .. reserved" (E8).
pub reserved_none : (ds : List Declared) (w : ℕ) (n : List ℕ) → Apart (spellings ds) → is_reserved n ≡ true → last_before ds w n ≡ 0
reserved_none ds w n all h = none_spelt ds w n (reserved_unnamed ds n all h)

-- A name is one of those that it is a member of.
member_named : (ds : List Declared) (n : List ℕ) {d : Declared} → Memᴰ d ds → same_bytes d.name n ≡ true → is_named (spellings ds) n ≡ true
unfolding is_named
member_named [] n m same = elim m [ ]
member_named (e ∷ more) n (Memᴰ.head q) same = rw (← q, same) refl
member_named (e ∷ more) n (Memᴰ.tail m) same = rw (member_named more n m same) (or_yes (same_bytes e.name n))
  where
    or_yes : (b : Bool) → b || true ≡ true
    or_yes true = refl
    or_yes false = refl

-- "the place of its declaration" (E8): of names that are apart, the one that is spelt so and declared before the word.
pub earlier_only : (ds : List Declared) (w : ℕ) (n : List ℕ) {d : Declared} → Apart (spellings ds) → Memᴰ d ds → same_bytes d.name n ≡ true
    → d.at < w → last_before ds w n ≡ d.at
unfolding Apart last_before
earlier_only [] w n all m same h = elim m [ ]
earlier_only (e ∷ more) w n {d} all (Memᴰ.head q) same h =
    let is : d.name ≡ n = same_bytes_lem d.name n same in
    let others : is_named (spellings more) n ≡ false = rw (← is, q) all.1 in
    rw (← q, same, lt-ltb d.at w h, none_spelt more w n others) (omega arith)
earlier_only (e ∷ more) w n {d} all (Memᴰ.tail m) same h =
    rw (differ (same_bytes e.name n) refl, earlier_only more w n all.2 m same h) (omega arith)
  where
    differ : (b : Bool) → same_bytes e.name n ≡ b → b ≡ false
    differ true s = let q = same_bytes_lem e.name n s in apart (sym all.1 ∙ ap (is_named (spellings more)) q ∙ member_named more n m same)
    differ false s = refl
