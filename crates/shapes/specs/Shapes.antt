-- 5, "shape unknown": "any misfit with document 000's forms that has no number here".
use Rattle.std.specs.Prelude.{Bool, true, false, cond, ◌&&◌, ◌||◌, not, [], ◌∷◌, eqb, leb}
use Rattle.forest.specs.Forest.{count, none, tree}
use Rattle.words.specs.Trees.{Lexeme}
use Rattle.lexemes.specs.Lists.{Items, after, indexed, inside, is, is_among, is_constant, is_key, is_keyword, is_list, is_numeral, is_symbol, item}

-- A sort is a symbol or `(_ BitVec n)`.
abbrev pub sort_shape : Lexeme → Items → Bool
sort_shape l ops = is_symbol l || is_list l && indexed "BitVec" 1 ops

-- What may head a term, once the lists that are not carried (6) are refused: a symbol other than a literal's, `Constant` and `Variable`; or `(_ extract i j)`.
-- "a term `(_ BitVec n)` or headed by a literal, a numeral, another list or (unless a whole rule) `Constant` or `Variable` are 5"
abbrev pub head_shape : Lexeme → Items → Bool
head_shape l ops = is_symbol l && not (is_among ("true" ∷ "false" ∷ "Constant" ∷ "Variable" ∷ []) l) || is_list l && indexed "extract" 2 ops

-- A list of a head and operands, at least one: "`(c)` with no operand is answer 5".
abbrev pub application_shape : Items → Bool
application_shape ops = head_shape (item 0 ops) (inside 0 ops) && leb 2 (count ops)

-- A term that is a list begun by `_`: `(_ extract i j)`, or a constant `(_ bvN n)` (E3).
abbrev pub indexed_shape : Items → Bool
indexed_shape ops = indexed "extract" 2 ops || is_constant ops

-- Terms, one after the other, behind a head or not: words that are no brackets and no keywords; lists begun by `_`; or lists of a head and terms.
unfoldable pub term_shapes : (headed : Bool) → Items → Bool
term_shapes headed none = true
term_shapes headed (tree l ops more) =
    (headed
    || not (is_list l || is_keyword l)
    || cond (is "_" (item 0 ops)) (indexed_shape ops) (application_shape ops && term_shapes true ops))
    && term_shapes false more

-- The item is a term.
abbrev pub term_shape : Lexeme → Items → Bool
term_shape l ops = term_shapes false (tree l ops none)

-- A pair of a symbol and a sort: an argument, or a non-terminal of a predeclaration.
abbrev pub pair_shape : Lexeme → Items → Bool
pair_shape l ops = is_list l && eqb (count ops) 2 && is_symbol (item 0 ops) && sort_shape (item 1 ops) (inside 1 ops)

-- Whether a rule is one of the two that are no terms.
abbrev pub is_pattern : Lexeme → Items → Bool
is_pattern l ops = is_list l && is_among ("Constant" ∷ "Variable" ∷ []) (item 0 ops)

-- Whether a rule is one that has attributes: a list begun by `!`.
abbrev pub is_annotated : Lexeme → Items → Bool
is_annotated l ops = is_list l && is "!" (item 0 ops)

-- The attributes of such a rule, which follow its term.
abbrev pub attributes_of : Items → Items
attributes_of ops = after 2 ops

-- Attributes, one after the other, behind an attribute's keyword or not: each is `:weight` and a numeral.
unfoldable pub attributes_shape : (named : Bool) → Items → Bool
attributes_shape named none = not named
attributes_shape true (tree l ops more) = is_numeral l && attributes_shape false more
attributes_shape false (tree l ops more) = is_key ":weight" l && attributes_shape true more

-- "rules written `(! t :weight k)`" (E13): in document 000 a term with one attribute or more; here each attribute is a weight.
abbrev pub annotated_shape : Items → Bool
annotated_shape ops = leb 4 (count ops) && term_shape (item 1 ops) (inside 1 ops) && attributes_shape false (attributes_of ops)

-- A rule that is a term, with attributes or without.
abbrev pub term_rule_shape : Lexeme → Items → Bool
term_rule_shape l ops = cond (is_annotated l ops) (annotated_shape ops) (term_shape l ops)

-- "A rule is `(Constant σ)`, `(Variable σ)` or a binder-free term", or such a term with weights (E13).
abbrev pub rule_shape : Lexeme → Items → Bool
rule_shape l ops = cond (is_pattern l ops) (eqb (count ops) 2 && sort_shape (item 1 ops) (inside 1 ops)) (term_rule_shape l ops)

-- Whether all of the items are of a shape.
unfoldable pub all : (Lexeme → Items → Bool) → Items → Bool
all shape none = true
all shape (tree l ops more) = shape l ops && all shape more

-- What a grammar lists of a non-terminal: its name, its sort and a list of rules.
abbrev pub group_shape : Lexeme → Items → Bool
group_shape l ops =
    is_list l && eqb (count ops) 3 && is_symbol (item 0 ops) && sort_shape (item 1 ops) (inside 1 ops) && is_list (item 2 ops) && all rule_shape (inside 2 ops)

-- A list of items of a shape.
abbrev pub is_list_of : (Lexeme → Items → Bool) → Lexeme → Items → Bool
is_list_of shape l ops = is_list l && all shape ops

-- A function's name, arguments and sort, in a command's items after its word.
abbrev pub header_shape : Items → Bool
header_shape c = is_symbol (item 1 c) && is_list_of pair_shape (item 2 c) (inside 2 c) && sort_shape (item 3 c) (inside 3 c)

-- "(set-logic <Symbol>)"
abbrev pub set_logic_shape : Items → Bool
set_logic_shape c = eqb (count c) 2 && is_symbol (item 1 c)

-- "(declare-var <Symbol> <Sort>)"
abbrev pub declare_var_shape : Items → Bool
declare_var_shape c = eqb (count c) 3 && is_symbol (item 1 c) && sort_shape (item 2 c) (inside 2 c)

-- "(define-fun <Symbol> (<SortedVar>*) <Sort> <Term>)"
abbrev pub define_fun_shape : Items → Bool
define_fun_shape c = eqb (count c) 5 && header_shape c && term_shape (item 4 c) (inside 4 c)

-- "(synth-fun <Symbol> (<SortedVar>*) <Sort> <GrammarDef>)": the grammar is a list of non-terminals and a list of groups.
abbrev pub synth_fun_shape : Items → Bool
synth_fun_shape c = eqb (count c) 6 && header_shape c && is_list_of pair_shape (item 4 c) (inside 4 c) && is_list_of group_shape (item 5 c) (inside 5 c)

-- "(constraint <Term>)", "(assume <Term>)"
abbrev pub constraint_shape : Items → Bool
constraint_shape c = eqb (count c) 2 && term_shape (item 1 c) (inside 1 c)

-- "(check-synth)"
abbrev pub check_synth_shape : Items → Bool
check_synth_shape c = eqb (count c) 1

-- "(set-feature <Feature> <BoolConst>)": any keyword is a feature; which of them is carried, and how it is set, is a matter of 6.
abbrev pub set_feature_shape : Items → Bool
set_feature_shape c = eqb (count c) 3 && is_keyword (item 1 c) && is_among ("true" ∷ "false" ∷ []) (item 2 c)

-- Whether a command, by its word, has its shape; an unknown command has none.
unfoldable pub command_shape : Items → Bool
command_shape c =
    cond (is "set-logic" (item 0 c)) (set_logic_shape c)
    (cond (is "declare-var" (item 0 c)) (declare_var_shape c)
    (cond (is "define-fun" (item 0 c)) (define_fun_shape c)
    (cond (is "synth-fun" (item 0 c)) (synth_fun_shape c)
    (cond (is "constraint" (item 0 c)) (constraint_shape c)
    (cond (is "check-synth" (item 0 c)) (check_synth_shape c)
    (cond (is "assume" (item 0 c)) (constraint_shape c)
    (cond (is "set-feature" (item 0 c)) (set_feature_shape c)
    false)))))))
