-- 9, "grammar fault", in what a grammar lists: the least word at fault; nowhere, a number past every word, where there is none.
use Rattle.std.specs.Prelude.{ℕ, suc, min, cond, ◌&&◌, List, [], ◌∷◌, eqb}
use Rattle.forest.specs.Forest.{count, none, tree}
use Rattle.forest.specs.Lists.{among, same_bytes}
use Rattle.words.specs.Trees.{word_of}
use Rattle.lexemes.specs.Lists.{Items, close_of, inside, item, name_of}
use Rattle.names.specs.Scopes.{Named}
use Rattle.written_sorts.specs.Written.{sort_of}

-- "then lists each again, same order and sort, with one or more rules (else answer 9)": the non-terminals that are still to be listed, and the groups;
-- `close` is the bracket that closes the listing. A non-terminal that is another one, or of another sort, or one too many, is at fault at its listed name; a
-- list without rules and a listing that ends before all are listed are so at "the bracket that closes a list too early".
unfoldable pub listing_misfit : (nowhere close : ℕ) → List Named → (groups : Items) → ℕ
listing_misfit nowhere close [] none = nowhere
listing_misfit nowhere close (n ∷ more) none = close
listing_misfit nowhere close [] (tree l ops groups) = word_of (item 0 ops)
listing_misfit nowhere close (n ∷ more) (tree l ops groups) =
    let same = same_bytes (name_of (item 0 ops)) n.name && eqb (sort_of (item 1 ops) (inside 1 ops)) n.sort in
    min (cond same nowhere (word_of (item 0 ops)))
    (min (cond (eqb (count (inside 2 ops)) 0) (close_of (item 2 ops)) nowhere) (listing_misfit nowhere close more groups))

-- "The first is the start and has the function's sort", "predeclared for the start's sort"; a grammar without a non-terminal closes its predeclaration, whose
-- pairs stand before the bracket `close`, too early.
abbrev pub start_misfit : (nowhere result close : ℕ) → (pairs : Items) → ℕ
start_misfit nowhere result close pairs =
    cond (eqb (count pairs) 0) close
    (cond (eqb (sort_of (item 1 (inside 0 pairs)) (inside 1 (inside 0 pairs))) result) nowhere (word_of (item 0 (inside 0 pairs))))

-- "answer 9 at the first of them where predeclared" (E9): the name of the first of the pairs, which are those of the non-terminals from A on, that is not
-- found.
unfoldable pub dead_misfit : (nowhere : ℕ) → (found : List ℕ) → (A : ℕ) → (pairs : Items) → ℕ
dead_misfit nowhere found A none = nowhere
dead_misfit nowhere found A (tree l ops more) = cond (among A found) (dead_misfit nowhere found (suc A) more) (word_of (item 0 ops))
