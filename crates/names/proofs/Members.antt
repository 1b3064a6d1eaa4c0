-- Whether new names are taken, by which names are in scope and not by their order.
use Prim.Native.Nat.{ℕ, zero, suc, ◌+◌, ◌≤◌, min}
use native.Mathlib.Omega.{arith}
use mathlib.Core.Path.{◌≡◌, refl, sym, ap, ap₂, ◌∙◌}
use mathlib.Core.Bool.{Bool, true, false, cond, ◌||◌, or_assoc, or_comm, or-false}
use mathlib.Core.List.{List, [], ◌∷◌, ◌++◌}
use lib.Dec.{ltb}
use borrow.Author.Tests.{le-ltb, lt-ltb}
use Rattle.forest.specs.Forest.{none, tree}
use Rattle.forest.specs.Lists.{same_bytes}
use Rattle.lexemes.specs.Reserved.{is_reserved}
use Rattle.words.specs.Trees.{Lexeme, word_of}
use Rattle.lexemes.specs.Lists.{Items, item, name_of}
use Rattle.forest.specs.Search.{place_in}
use Rattle.names.specs.Scopes.{is_named}
use Rattle.names.specs.code.Table.{name_in, names_from}
use Rattle.names.specs.New.{new_name, new_pairs}

-- Two scopes have the same names.
abbrev pub SameNames : (one other : List (List ℕ)) → Type 0
SameNames one other = (n : List ℕ) → is_named one n ≡ is_named other n

-- A new name is at fault in the one just when it is in the other.
pub same_name : (nowhere : ℕ) (one other : List (List ℕ)) → SameNames one other → (l : Lexeme) → new_name nowhere one l ≡ new_name nowhere other l
same_name nowhere one other same l = ap (λ (b : Bool). cond (is_reserved (name_of l) || b) (word_of l) nowhere) (same (name_of l))

-- And so are the new names of pairs.
pub same_members : (nowhere : ℕ) (one other : List (List ℕ)) → SameNames one other → (P : Items) → new_pairs nowhere one P ≡ new_pairs nowhere other P
unfolding is_named new_pairs
same_members nowhere one other same none = refl
same_members nowhere one other same (tree l ops more) =
    let n = name_of (item 0 ops) in
    ap₂ min
    (same_name nowhere one other same (item 0 ops))
    (same_members nowhere (n ∷ one) (n ∷ other) (λ m. ap (◌||◌ (same_bytes n m)) (same m)) more)

-- No place is past nowhere.
pub pairs_below : (nowhere : ℕ) (scope : List (List ℕ)) (P : Items) → new_pairs nowhere scope P ≤ nowhere
unfolding new_pairs
pairs_below nowhere scope none = omega arith
pairs_below nowhere scope (tree l ops more) = omega (arith, pairs_below nowhere (name_of (item 0 ops) ∷ scope) more)

-- A name is one of two lists of names just when it is one of the one or of the other.
pub named_both : (names others : List (List ℕ)) (n : List ℕ) → is_named (names ++ others) n ≡ is_named names n || is_named others n
unfolding is_named
named_both [] others n = refl
named_both (m ∷ more) others n = rw (named_both more others n) (sym (or_assoc (same_bytes m n) (is_named more n) (is_named others n)))

-- It makes no difference whether a name stands in front of others or between them.
pub name_between : (names others : List (List ℕ)) (m : List ℕ) → SameNames (m ∷ (names ++ others)) (names ++ m ∷ [] ++ others)
unfolding is_named
name_between names others m n = sym (named_both (names ++ m ∷ []) others n ∙ ap (λ (b : Bool). b || is_named others n) front ∙ behind)
  where
    front : is_named (names ++ m ∷ []) n ≡ same_bytes m n || is_named names n
    front = named_both names (m ∷ []) n ∙ rw (or-false (same_bytes m n)) (or_comm (is_named names n) (same_bytes m n))

    behind : same_bytes m n || is_named names n || is_named others n ≡ same_bytes m n || is_named (names ++ others) n
    behind = or_assoc (same_bytes m n) (is_named names n) (is_named others n) ∙ ap (◌||◌ (same_bytes m n)) (sym (named_both names others n))

-- A name is in rows of the table just when its place is before their end.
pub named_in_rows : (names : List ℕ) (r n k : ℕ) (word : List ℕ) → is_named (names_from names r n) word ≡ ltb (place_in (names_from names r n) k word) (k + n)
unfolding is_named names_from place_in
named_in_rows names r zero k word = sym (le-ltb k (k + 0) (omega arith))
named_in_rows names r (suc n) k word = go (same_bytes (name_in names r) word) (named_in_rows names (r + 1) n (k + 1) word)
  where
    go : (here : Bool) → is_named (names_from names (r + 1) n) word ≡ ltb (place_in (names_from names (r + 1) n) (k + 1) word) (k + 1 + n)
        → here || is_named (names_from names (r + 1) n) word ≡ ltb (cond here k (place_in (names_from names (r + 1) n) (k + 1) word)) (k + suc n)
    go true e = sym (lt-ltb k (k + suc n) (omega arith))
    go false e = let z : k + 1 + n ≡ k + suc n = omega arith in rw z at e
