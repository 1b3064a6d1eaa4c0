-- Sorts as they are written. "Sorts: `Bool`, `(_ BitVec n)`, n from 1 to 64 (0 is answer 8, above 64 answer 4); another symbol as a sort is 7."
use Rattle.std.specs.Prelude.{ℕ, min, cond, ◌&&◌, not, eqb, ltb}
use Rattle.forest.specs.Forest.{none, tree}
use Rattle.words.specs.Trees.{Lexeme, word_of}
use Rattle.lexemes.specs.Lists.{Items, inside, is, is_list, is_symbol, item, numeral_of}
use Rattle.shapes.specs.Shapes.{is_pattern}
use Rattle.written_sorts.specs.declared.Fault.{Fault}
use Rattle.written_sorts.specs.declared.Fault.TheVariants.{TooWide, Unknown, Empty}
use Rattle.operators.specs.Sorts.{max_width}

-- The sort that an item says: 0 for `Bool`, n for `(_ BitVec n)`. Another symbol is answer 7 before the sort is used. A width of 0 is answer 8 at its own
-- word, which stands before every word whose sort is told by it, so that what it would make of these is never the least.
abbrev pub sort_of : Lexeme → Items → ℕ
sort_of l ops = cond (is_list l) (numeral_of (item 2 ops)) 0

-- The word at fault in a sort, by the fault that is looked for: the numeral of a width above 64, a symbol other than `Bool`, or the first word of a sort
-- of width 0; nowhere, a number past every word, where there is none.
abbrev pub sort_place : Fault → (nowhere : ℕ) → Lexeme → Items → ℕ
sort_place TooWide nowhere l ops = cond (is_list l && ltb max_width (numeral_of (item 2 ops))) (word_of (item 2 ops)) nowhere
sort_place Unknown nowhere l ops = cond (is_symbol l && not (is "Bool" l)) (word_of l) nowhere
sort_place Empty nowhere l ops = cond (is_list l && eqb (numeral_of (item 2 ops)) 0) (word_of l) nowhere

-- The least of the places that the items have.
unfoldable pub least_in : (nowhere : ℕ) → (Lexeme → Items → ℕ) → Items → ℕ
least_in nowhere place none = nowhere
least_in nowhere place (tree l ops more) = min (place l ops) (least_in nowhere place more)

-- In a pair of a symbol and a sort.
abbrev pub pair_place : Fault → (nowhere : ℕ) → Lexeme → Items → ℕ
pair_place fault nowhere l ops = sort_place fault nowhere (item 1 ops) (inside 1 ops)

-- In the sorts of a function's arguments and its own, in the command's items.
abbrev pub header_place : Fault → (nowhere : ℕ) → Items → ℕ
header_place fault nowhere c = min (least_in nowhere (pair_place fault nowhere) (inside 2 c)) (sort_place fault nowhere (item 3 c) (inside 3 c))

-- In a rule: the σ of `(Constant σ)` or `(Variable σ)`.
abbrev pub rule_place : Fault → (nowhere : ℕ) → Lexeme → Items → ℕ
rule_place fault nowhere l ops = cond (is_pattern l ops) (sort_place fault nowhere (item 1 ops) (inside 1 ops)) nowhere

-- In what a grammar lists of a non-terminal: its sort, and its rules.
abbrev pub group_place : Fault → (nowhere : ℕ) → Lexeme → Items → ℕ
group_place fault nowhere l ops = min (sort_place fault nowhere (item 1 ops) (inside 1 ops)) (least_in nowhere (rule_place fault nowhere) (inside 2 ops))

-- In a grammar: its non-terminals, and what it lists of each.
abbrev pub grammar_sorts : Fault → (nowhere : ℕ) → Items → ℕ
grammar_sorts fault nowhere c = min (least_in nowhere (pair_place fault nowhere) (inside 4 c)) (least_in nowhere (group_place fault nowhere) (inside 5 c))
