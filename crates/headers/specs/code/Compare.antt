-- What the comparison of a header with the declared one asks and gives.
use Rattle.std.specs.Prelude.{ℕ, ◌+◌, ◌≤◌, ◌<◌, true, false, List, [], ◌∷◌, ◌++◌, ◌≡◌, Option, None, Some}
use Rattle.forest.specs.Forest.{none, tree}
use Rattle.forest.specs.Limits.{most_arguments, most_functions}
use Rattle.words.specs.Trees.{Lexeme, list}
use Rattle.lexemes.specs.Lists.{Items, is_symbol, item}
use Rattle.lexemes.specs.code.Standing.{Stands}
use Rattle.shapes.specs.Shapes.{all, define_fun_shape, pair_shape}
use Rattle.names.specs.Scopes.{Function, Named, names_of, named_sorts}
use Rattle.names.specs.code.Lookup.{Names, source_of}
use Rattle.names.specs.code.Table.{function_row, name_in, names_from, own_argument_row, row_count, sort_in, sorts_from, word_in}
use Rattle.headers.specs.Tokens.{Placed, Token, argument_tokens, closing, differing, header_of, header_tokens, same_token, words_in}

-- A `define-fun` stands at word i, and the table has the name and the arguments of synthesized function j, so many of these.
pub record Compared (text lexemes names : List ℕ) (i j arguments result : ℕ) : Type 0 where
  pub close : ℕ
  pub command : Items
  pub more : Items
  pub end : ℕ
  pub stands : Stands (source_of text lexemes) i (tree (list i close) command more) end
  pub named : is_symbol (item 0 command) ≡ true
  pub shaped : define_fun_shape command ≡ true
  pub table : Names names
  pub function : Function
  pub low : j < most_functions
  pub few : arguments ≤ most_arguments
  pub name_is : name_in names (function_row + j) ≡ function.name
  pub names_are : names_from names (own_argument_row j) arguments ≡ names_of function.arguments
  pub sorts_are : sorts_from names (own_argument_row j) arguments ≡ named_sorts function.arguments
  pub result_is : result ≡ function.result

-- The first word that differs is found.
abbrev pub Differs : {text lexemes names : List ℕ} {i j arguments result : ℕ} → Compared text lexemes names i j arguments result
    → (nowhere r : ℕ) → Type 0
Differs p nowhere r = r ≡ differing nowhere (words_in (header_of p.command)) (header_tokens p.function)

-- Words held to those that were declared: the first that differs, before the end of either.
pub data Held : List Placed → List Token → (r : Option ℕ) → Type 0 where
  ended : Held [] [] None
  same : {at : ℕ} {r : Option ℕ} {u t : Token} {ws : List Placed} {ts : List Token} → same_token u t ≡ true → Held ws ts r
      → Held (record { at = at; token = u } ∷ ws) (t ∷ ts) r
  other : {at : ℕ} {u t : Token} {ws : List Placed} {ts : List Token} → same_token u t ≡ false
      → Held (record { at = at; token = u } ∷ ws) (t ∷ ts) (Some at)

-- A pair of a name and a sort stands at word i, and the table has a row.
pub record PairAt (text lexemes names : List ℕ) (i row : ℕ) : Type 0 where
  pub label : Lexeme
  pub operands : Items
  pub more : Items
  pub end : ℕ
  pub stands : Stands (source_of text lexemes) i (tree label operands more) end
  pub shaped : pair_shape label operands ≡ true
  pub table : Names names
  pub low : row < row_count

-- The pair is held to the argument in the row.
abbrev pub PairHeld : {text lexemes names : List ℕ} {i row : ℕ} → PairAt text lexemes names i row → (r : Option ℕ) → Type 0
PairHeld {names = names} {row = row} p r =
    Held (words_in (tree p.label p.operands none)) (argument_tokens (record { name = name_in names row; at = word_in names row; sort = sort_in names row } ∷ [])) r

-- Pairs stand from word i to the bracket that closes their list, and the table has so many arguments from a row on.
pub record PairsAt (text lexemes names : List ℕ) (i close row arguments : ℕ) : Type 0 where
  pub items : Items
  pub stands : Stands (source_of text lexemes) i items close
  pub shaped : all pair_shape items ≡ true
  pub table : Names names
  pub fits : row + arguments ≤ row_count
  pub declared : List Named
  pub names_are : names_from names row arguments ≡ names_of declared
  pub sorts_are : sorts_from names row arguments ≡ named_sorts declared

-- The pairs and the bracket are held to the arguments.
abbrev pub PairsHeld : {text lexemes names : List ℕ} {i close row arguments : ℕ} → PairsAt text lexemes names i close row arguments
    → (r : Option ℕ) → Type 0
PairsHeld {close = close} p r = Held (words_in p.items ++ record { at = close; token = closing } ∷ []) (argument_tokens p.declared ++ closing ∷ []) r
