-- Names in scope, and what they stand for.
use Rattle.forest.specs.Search.{place_in}
use Rattle.std.specs.Prelude.{ℕ, ◌^◌, Bool, false, cond, ◌&&◌, ◌||◌, List, [], ◌∷◌, ◌++◌, map, leb, ltb, get_or}
use Rattle.std.proofs.Math.Option.{Option, none as nothing, some}
use Rattle.forest.specs.Forest.{Forest, none, tree}
use Rattle.forest.specs.Lists.{same_bytes, spelling}
use Rattle.word_kinds.specs.Decimals.{decimal_value}
use Rattle.operators.specs.Operators.{operator_count, operator_of}
use Rattle.operators.specs.Sorts.{max_width}
use Rattle.terms.specs.Labels.{defined, function, literal, name, operator}
use Rattle.terms.specs.Sorts.{Definition, Signature}
use Rattle.derivation.specs.Derivation.{Grammar, Item, any_argument, any_literal, non_terminal, the}
use Rattle.lexemes.specs.Reserved.{is_reserved, is_word}
use Rattle.term_nodes.specs.Terms.{Raw, constant, cut, decimal, number, pattern, word}
use Rattle.written_sorts.specs.Written.{sort_of}

-- A variable, an argument or a non-terminal: its name, the word at which it is declared, and its sort. "Each declared name's record must hold the place of its
-- declaration" (E8).
pub record Named : Type 0 where
  pub name : List ℕ
  pub at : ℕ
  pub sort : ℕ

-- A `define-fun` that was read: its name, the word of its name, its signature and body.
pub record Defined : Type 0 where
  pub name : List ℕ
  pub at : ℕ
  pub definition : Definition

-- A `synth-fun` that was read: its name, the word of its name, its arguments, its sort, its non-terminals, its grammar, and how many `define-fun`s stand before
-- it.
pub record Function : Type 0 where
  pub name : List ℕ
  pub at : ℕ
  pub arguments : List Named
  pub result : ℕ
  pub non_terminals : List Named
  pub grammar : Grammar
  pub before : ℕ

-- What a term sees: arguments, or in a constraint the variables, in their order; `define-fun`s and functions, the last first, with their names and signatures;
-- non-terminals in their order.
pub record View : Type 0 where
  pub names : List Named
  pub defined : List Defined
  pub functions : List Function
  pub non_terminals : List Named

-- The names of things.
abbrev pub names_of : List Named → List (List ℕ)
names_of ns = map (λ (n : Named). n.name) ns

-- The names of `define-fun`s.
abbrev pub defined_names : List Defined → List (List ℕ)
defined_names ds = map (λ (d : Defined). d.name) ds

-- The names of functions.
abbrev pub function_names : List Function → List (List ℕ)
function_names fs = map (λ (f : Function). f.name) fs

-- Whether a name is one of the names.
unfoldable pub is_named : (names : List (List ℕ)) → (n : List ℕ) → Bool
is_named [] n = false
is_named (m ∷ more) n = same_bytes m n || is_named more n

-- "A new name, argument or non-terminal may not equal a reserved word or a name then in scope."
abbrev pub is_taken : (scope : List (List ℕ)) → (n : List ℕ) → Bool
is_taken scope n = is_reserved n || is_named scope n

-- Names that stand the last first, in script order.
unfoldable pub in_order : List (List ℕ) → List (List ℕ)
in_order [] = []
in_order (n ∷ earlier) = in_order earlier ++ n ∷ []

-- The sorts of things.
abbrev pub named_sorts : List Named → List ℕ
named_sorts ns = map (λ (n : Named). n.sort) ns

-- The signature of a function.
abbrev pub signature_of : Function → Signature
signature_of f = record { arguments = named_sorts f.arguments; result = f.result }

-- Whether a name is seen.
abbrev pub is_seen : View → (n : List ℕ) → Bool
is_seen view n =
    is_named (names_of view.names) n
    || is_named (defined_names view.defined) n
    || is_named (function_names view.functions) n
    || is_named (names_of view.non_terminals) n

-- Whether a term may name it: a literal, an operator, or a name that is seen. "in a term an operator or function without its operands .. is answer 8, another
-- reserved word 7": every operator is known, `extract` too.
unfoldable pub is_known : View → (n : List ℕ) → Bool
is_known view n = is_word "true" n || is_word "false" n || ltb (operator_of n) operator_count || is_seen view n

-- What a symbol stands for in a term: a literal, an operator, or a name that is seen; nothing for any other, and for `extract` without its numbers.
unfoldable pub symbol_means : View → (n : List ℕ) → Option Item
symbol_means view n =
    cond (is_word "true" n) (some (the (literal 0 1)))
    (cond (is_word "false" n) (some (the (literal 0 0)))
    (cond (ltb (operator_of n) operator_count) (cond (is_word "extract" n) nothing (some (the (operator (operator_of n) 0 0))))
    (cond (is_named (names_of view.names) n) (some (the (name (get_or (named_sorts view.names) k 0) k)))
    (cond (is_named (defined_names view.defined) n) (some (the (defined (place_in (in_order (defined_names view.defined)) 0 n))))
    (cond (is_named (function_names view.functions) n) (some (the (function (place_in (in_order (function_names view.functions)) 0 n))))
    (cond (is_named (names_of view.non_terminals) n) (some (non_terminal (place_in (names_of view.non_terminals) 0 n)))
    nothing))))))
  where
    k : ℕ
    k = place_in (names_of view.names) 0 n

-- What a node stands for; a numeral stands for nothing ("a numeral as a term is 8"), and so does `(_ extract i j)` where not j ≤ i < 64: "where j ≤ i < n (else
-- 8)", of which n, the operand's width, is the sort rule's; and a constant `(_ bvN n)` beyond its width: "a numeral .. below 2^n, else answer 8, and n keeps a
-- sort's range (0 is answer 8, above 64 answer 4)" (E3).
abbrev pub means : View → Raw → Option Item
means view (word at head n) = symbol_means view n
means view (number at v) = nothing
means view (constant at width v) = some (the (literal width v))
means view (decimal at head n width) =
    cond (leb 1 width && leb width max_width && ltb (decimal_value n) (2 ^ width)) (some (the (literal width (decimal_value n)))) nothing
means view (cut at head i j) = cond (leb j i && ltb i max_width) (some (the (operator (operator_of (spelling "extract")) i j))) nothing
means view (pattern at c s held) = some (cond c (any_literal (sort_of s held)) (any_argument (sort_of s held)))

-- What a node stands for, and for one that stands for nothing an operator that there is none of: it has no sort.
abbrev pub item_or : Option Item → Item
item_or nothing = the (operator operator_count 0 0)
item_or (some i) = i

-- The forms that terms say.
unfoldable pub forms_of : View → Forest Raw → Forest Item
forms_of view none = none
forms_of view (tree r ops more) = tree (item_or (means view r)) (forms_of view ops) (forms_of view more)
