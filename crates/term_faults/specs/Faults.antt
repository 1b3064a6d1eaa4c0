-- 8, "sort fault", in terms whose names are known, and 9 in rules: the least word at fault; nowhere, a number past every word, where there is none.
use Rattle.std.specs.Prelude.{ℕ, min, Bool, false, cond, List, [], ◌∷◌, map, eqb, ltb, get_or}
use Rattle.std.proofs.Math.Option.{Option, none as nothing, some}
use Rattle.forest.specs.Forest.{Forest, none, tree}
use Rattle.term_sorts.specs.Forms.{FormScope, form_sorts, sorted}
use Rattle.words.specs.Trees.{Lexeme, word_of}
use Rattle.lexemes.specs.Lists.{Items}
use Rattle.names.specs.Scopes.{Defined, View, forms_of, signature_of, named_sorts}
use Rattle.term_nodes.specs.Terms.{Raw, first_word, raw_term}
use Rattle.term_nodes.specs.Rules.{Ruled}

-- The scope of a view.
abbrev pub scope_of : View → FormScope
scope_of view = record {
  terms = record {
    names = named_sorts view.names;
    defined = map (λ (d : Defined). d.definition.signature) view.defined;
    functions = map signature_of view.functions;
  };
  non_terminals = named_sorts view.non_terminals;
}

-- The sorts of terms; none where one has a fault.
abbrev pub raw_sorts : View → Forest Raw → Option (List ℕ)
raw_sorts view F = form_sorts (scope_of view) (forms_of view F)

-- "first word .. of a faulty term whose operands have none". The code finds the node by its number (`term_sorts/specs/code/Forms: fault_from`, the same by
-- nodes).
unfoldable pub term_fault : (nowhere : ℕ) → View → Forest Raw → ℕ
term_fault nowhere view none = nowhere
term_fault nowhere view (tree r ops more) =
    let within = term_fault nowhere view ops in
    let here = cond (sorted (raw_sorts view (tree r ops none))) nowhere (first_word r) in
    min (cond (ltb within nowhere) within here) (term_fault nowhere view more)

-- Whether s is the one sort of a term.
abbrev pub one_sort : Option (List ℕ) → (s : ℕ) → Bool
one_sort nothing s = false
one_sort (some []) s = false
one_sort (some (t ∷ [])) s = eqb t s
one_sort (some (t ∷ u ∷ more)) s = false

-- A term that is to be of the sort s: "A body not of its sort or a constraint not Bool is 8 at its first word."
abbrev pub body_fault : (nowhere : ℕ) → View → (s : ℕ) → Lexeme → Items → ℕ
body_fault nowhere view s l ops =
    cond (ltb (term_fault nowhere view (raw_term l ops)) nowhere) (term_fault nowhere view (raw_term l ops))
    (cond (one_sort (raw_sorts view (raw_term l ops)) s) nowhere (word_of l))

-- "each has its non-terminal's sort, else 9": "first word of the rule". A group too many has no non-terminal; its listed name is at fault and stands before its
-- rules.
unfoldable pub rule_misfit : (nowhere : ℕ) → View → List Ruled → ℕ
rule_misfit nowhere view [] = nowhere
rule_misfit nowhere view (r ∷ more) =
    let same = one_sort (raw_sorts view r.side) (get_or (named_sorts view.non_terminals) r.head 0) in
    min (cond same nowhere r.first) (rule_misfit nowhere view more)
