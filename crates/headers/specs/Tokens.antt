-- 12, "header differs": the words of a function's name, arguments and sort in a response, held to those that were declared.
use Rattle.std.specs.Prelude.{ℕ, Bool, true, false, cond, List, [], ◌∷◌, ◌++◌, eqb}
use Rattle.forest.specs.Forest.{none, tree}
use Rattle.forest.specs.Lists.{same_bytes, spelling}
use Rattle.words.specs.Trees.{keyword, list, literal, numeral, symbol}
use Rattle.lexemes.specs.Lists.{Items, inside, item}
use Rattle.names.specs.Scopes.{Function, Named}

-- The words of a header.
pub data Token : Type 0 where
  opening : Token
  closing : Token
  named : (name : List ℕ) → Token
  numbered : (value : ℕ) → Token

-- A word of the response and its index.
pub record Placed : Type 0 where
  pub at : ℕ
  pub token : Token

-- The words of items, brackets too.
unfoldable pub words_in : Items → List Placed
words_in none = []
words_in (tree (list at close) ops more) = record { at = at; token = opening } ∷ (words_in ops ++ record { at = close; token = closing } ∷ words_in more)
words_in (tree (symbol at name) ops more) = record { at = at; token = named name } ∷ words_in more
words_in (tree (numeral at v) ops more) = record { at = at; token = numbered v } ∷ words_in more
words_in (tree (keyword at name) ops more) = record { at = at; token = named name } ∷ words_in more
words_in (tree (literal at width v bytes) ops more) = record { at = at; token = named bytes } ∷ words_in more

-- The words of a sort.
abbrev pub sort_tokens : (sort : ℕ) → List Token
sort_tokens s = cond (eqb s 0) (named (spelling "Bool") ∷ []) (opening ∷ named (spelling "_") ∷ named (spelling "BitVec") ∷ numbered s ∷ closing ∷ [])

-- The words of arguments.
unfoldable pub argument_tokens : List Named → List Token
argument_tokens [] = []
argument_tokens (a ∷ more) = opening ∷ named a.name ∷ (sort_tokens a.sort ++ closing ∷ argument_tokens more)

-- The words of a function's name, arguments and sort, as declared.
abbrev pub header_tokens : Function → List Token
header_tokens f = named f.name ∷ opening ∷ (argument_tokens f.arguments ++ closing ∷ sort_tokens f.result)

-- Whether two words are the same.
abbrev pub same_token : Token → Token → Bool
same_token opening opening = true
same_token opening closing = false
same_token opening (named n) = false
same_token opening (numbered v) = false
same_token closing opening = false
same_token closing closing = true
same_token closing (named n) = false
same_token closing (numbered v) = false
same_token (named m) opening = false
same_token (named m) closing = false
same_token (named m) (named n) = same_bytes m n
same_token (named m) (numbered v) = false
same_token (numbered u) opening = false
same_token (numbered u) closing = false
same_token (numbered u) (named n) = false
same_token (numbered u) (numbered v) = eqb u v

-- "its first word differing"
unfoldable pub differing : (nowhere : ℕ) → List Placed → List Token → ℕ
differing nowhere ws [] = nowhere
differing nowhere [] (t ∷ ts) = nowhere
differing nowhere (w ∷ ws) (t ∷ ts) =
    let later = differing nowhere ws ts in
    cond (same_token w.token t) later w.at

-- The name, arguments and sort of a `define-fun`.
abbrev pub header_of : Items → Items
header_of c = tree (item 1 c) (inside 1 c) (tree (item 2 c) (inside 2 c) (tree (item 3 c) (inside 3 c) none))
