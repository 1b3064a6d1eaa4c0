-- Faults of a grammar, in a `synth-fun` whose shape is right: the least word at fault, of 9 but for a non-terminal that derives no term, which comes last (E9);
-- nowhere, a number past every word, where there is none. And the rules that a grammar says.
use Rattle.std.specs.Prelude.{ℕ, min, cond, List, map, ltb}
use Rattle.forest.specs.Forest.{count, nodes_of}
use Rattle.derivation.specs.Derivation.{Grammar, Rule, rule}
use Rattle.derivation.specs.Productive.{productive}
use Rattle.lexemes.specs.Lists.{Items, close_of, inside, item}
use Rattle.names.specs.New.{new_pairs}
use Rattle.names.specs.Scopes.{View, forms_of, named_sorts}
use Rattle.names.specs.Unknown.{unknown_in}
use Rattle.term_faults.specs.Faults.{rule_misfit, term_fault}
use Rattle.forest.specs.Limits.{Counts}
use Rattle.grammars.specs.Listing.{dead_misfit, listing_misfit, start_misfit}
use Rattle.term_nodes.specs.Rules.{Ruled, item_past, nodes_past, rule_past, rules_in, sides, weight_in}
use Rattle.written_sorts.specs.Written.{grammar_sorts, sort_of}
use Rattle.written_sorts.specs.declared.Fault.TheVariants.{Empty, TooWide, Unknown}

-- 4, "past a limit".
abbrev pub grammar_past : Counts → (nowhere : ℕ) → Items → ℕ
grammar_past counts nowhere c =
    let rules = rules_in 0 (inside 5 c) in
    min (item_past nowhere counts.non_terminals (inside 4 c))
    (min (grammar_sorts TooWide nowhere c)
    (min (rule_past nowhere counts.rules rules) (nodes_past nowhere counts.nodes rules)))

-- 7, "name unknown, taken or reserved": its new names, its sorts and its rules; the name that is listed again is compared with the predeclared one (9) and not
-- looked up. `scope` has all names in scope before the non-terminals.
abbrev pub grammar_names : (nowhere : ℕ) → (scope : List (List ℕ)) → View → Items → ℕ
grammar_names nowhere scope view c =
    min (new_pairs nowhere scope (inside 4 c))
    (min (grammar_sorts Unknown nowhere c) (unknown_in nowhere view (nodes_of (sides (rules_in 0 (inside 5 c))))))

-- 8, "sort fault", where the names are known: in its sorts and its rules.
abbrev pub grammar_fault : (nowhere : ℕ) → View → Items → ℕ
grammar_fault nowhere view c = min (grammar_sorts Empty nowhere c) (term_fault nowhere view (sides (rules_in 0 (inside 5 c))))

-- 9, "grammar fault", in what the grammar declares and lists, where the names and sorts are right.
abbrev pub list_misfit : (nowhere : ℕ) → View → Items → ℕ
list_misfit nowhere view c =
    min (start_misfit nowhere (sort_of (item 3 c) (inside 3 c)) (close_of (item 4 c)) (inside 4 c))
    (listing_misfit nowhere (close_of (item 5 c)) view.non_terminals (inside 5 c))

-- The same with its rules: the other causes of 9.
abbrev pub listed_misfit : (nowhere : ℕ) → View → Items → ℕ
listed_misfit nowhere view c = min (list_misfit nowhere view c) (rule_misfit nowhere view (rules_in 0 (inside 5 c)))

-- The rules that a grammar says.
abbrev pub grammar_of : View → (groups : Items) → List Rule
grammar_of view groups = map (λ (r : Ruled). rule r.head (weight_in r) (forms_of view r.side)) (rules_in 0 groups)

-- The grammar that the command says: the sorts of the function's arguments, and the rules.
abbrev pub grammar_in : View → Items → Grammar
grammar_in view c = record { arguments = named_sorts view.names; rules = grammar_of view (inside 5 c) }

-- "Refuse such a grammar with answer 9 at the first of them where predeclared" (E9): a non-terminal that derives no term.
unfoldable pub dead_place : (nowhere : ℕ) → View → Items → ℕ
dead_place nowhere view c = dead_misfit nowhere (productive (grammar_in view c) (count (inside 4 c))) 0 (inside 4 c)

-- 9 in a grammar: "after the other causes of 9" (E9).
abbrev pub grammar_misfit : (nowhere : ℕ) → View → Items → ℕ
grammar_misfit nowhere view c = cond (ltb (listed_misfit nowhere view c) nowhere) (listed_misfit nowhere view c) (dead_place nowhere view c)
