-- The names of a grammar: its non-terminals put in their rows, and its rules looked up.
use Prim.Native.Nat.{ℕ, ◌+◌, ◌-◌, min}
use native.Mathlib.Omega.{arith}
use mathlib.Core.Path.{◌≡◌, refl, ap₂, ◌∙◌}
use mathlib.Core.List.{List}
use Rattle.forest.specs.Forest.{count}
use Rattle.lexemes.specs.Lists.{inside}
use Rattle.lexemes.specs.code.Standing.{Between}
use Rattle.lexemes.specs.code.Table.{next_at}
use Rattle.shapes.specs.Shapes.{group_shape, pair_shape}
use Rattle.written_sorts.specs.code.Headers.{SynthFunAt}
use Rattle.written_sorts.specs.Written.{grammar_sorts}
use Rattle.written_sorts.specs.declared.Fault.TheVariants.{Unknown}
use Rattle.term_nodes.specs.code.Sizes.{Counted, Counting}
use Rattle.names.specs.Scopes.{in_order}
use Rattle.names.specs.code.Lookup.{Sees}
use Rattle.names.specs.code.Forms.{Resolved, Resolving}
use Rattle.names.specs.code.Table.{defined_row, names_from, non_terminal_row}
use Rattle.names.specs.declared.Seen.{Seen}
use Rattle.names.specs.code.New.{NewPairs, PairsNamed}
use Rattle.names.specs.declared.Scope.{Scope}
use Rattle.term_nodes.specs.Rules.{rules_in, sides}
use Rattle.term_faults.proofs.Headed.{rules_headed}
use Rattle.term_faults.proofs.Said.{rules_say}
use Rattle.grammars.specs.code.Read.{GrammarNamed, Naming, view_in}
use Rattle.grammars.specs.code.Parts.{non_terminals_word}
use Rattle.grammars.proofs.SynthFunParts.{as_list, command_at, groups, items_between, items_shaped, pairs, pairs_between}

-- What the rules of a grammar see, by the rows of the table of names.
abbrev pub seen_in : Scope → (listed : ℕ) → Seen
seen_in scope listed =
    record { first = scope.first; names = scope.arguments; defined = scope.defined; functions = 0; non_terminals = listed }

module _ {text lexemes names raw forms : List ℕ} {scope : Scope} {at nodes base nowhere : ℕ}
    (p : Naming text lexemes names raw forms scope at nodes base nowhere) where
  -- the command
  abbrev pub command_of : SynthFunAt lexemes at
  command_of = command_at p.stands p.named p.shaped

  -- its rules, not counted yet
  abbrev pub nodes-of : Counting raw nodes
  nodes-of = record { F = sides (rules_in 0 (inside 5 p.command)); rest = p.rest; is = p.raw_is; counted = p.counted }

  module _ {list : ℕ} (el : list ≡ non_terminals_word lexemes at) {close : ℕ} (ec : close ≡ next_at lexemes list - 1) where
    -- its non-terminals stand in their list
    abbrev pub pairs-in : Between lexemes (list + 1) close
    pairs-in = pairs_between command_of el ec

    -- and are new names
    abbrev pub new_in : NewPairs text lexemes names scope non_terminal_row (list + 1) close
    new_in = record {
      items = inside 4 p.command;
      stands = pairs-in.stands;
      shaped = items_shaped pair_shape (pairs command_of el);
      narrow = p.narrow;
      short = p.lawful.short;
      low_words = λ i h. omega (arith, p.lawful.ends i h, p.few_words);
      table = p.table;
      few = p.few;
      low = omega arith;
      apart = λ k h. omega (arith, p.few_listed, p.behind);
      fits = omega (arith, p.few_listed);
    }

    module _ {listed : ℕ} (known : (b : Between lexemes (list + 1) close) → listed ≡ count b.items)
        {namesAfter : List ℕ} {new : ℕ}
        (by-new : (q : NewPairs text lexemes names scope non_terminal_row (list + 1) close) → PairsNamed q nowhere namesAfter new) where
      -- the rows hold what its rules see
      pub sees : Sees namesAfter (seen_in scope listed) (view_in p)
      unfolding in_order names_from
      sees =
          let after = by-new new_in in
          let few = p.few_listed in
          let kept = after.kept in
          record {
            table = after.table;
            names_are = (kept.rows_behind scope.first scope.arguments (omega (arith, few, p.behind))).names ∙ p.arguments_are;
            sorts_are = (kept.rows_behind scope.first scope.arguments (omega (arith, few, p.behind))).sorts ∙ p.sorts_are;
            defined_are = (kept.rows_before defined_row scope.defined (omega (arith, p.few.defined))).names ∙ p.defined_are;
            functions_are = refl;
            non_terminals_are = rw (known pairs-in) after.names_are;
            names_fit = p.few.arguments;
            few_defined = p.few.defined;
            few_functions = omega arith;
            few_non_terminals = omega (arith, few, known pairs-in);
          }

      module _ {rawAfter : List ℕ} (by-nodes : (q : Counting raw nodes) → Counted q rawAfter) where
        -- its rules are to be looked up
        abbrev pub rules-of : Resolving namesAfter text lexemes rawAfter forms (seen_in scope listed) nodes base
        rules-of =
            let shaped = groups command_of refl in
            let b = items_between (as_list group_shape shaped) refl in
            record {
              F = nodes-of.F;
              rest = p.rest;
              is_raw = by-nodes nodes-of;
              counted = p.counted;
              say = rules_say b.stands (items_shaped group_shape shaped) 0;
              headed = rules_headed b.stands (items_shaped group_shape shaped) 0;
              bounded = p.lawful.bounded;
              view = view_in p;
              sees = sees;
              room = p.room;
            }

        -- the names are known and the word is found
        pub grammar_named : {sorts : ℕ} → ((q : SynthFunAt lexemes at) → sorts ≡ grammar_sorts Unknown nowhere q.here.operands)
            → {formsAfter : List ℕ} {unknown : ℕ}
            → ((q : Resolving namesAfter text lexemes rawAfter forms (seen_in scope listed) nodes base) → Resolved q nowhere formsAfter unknown)
            → {later : ℕ} → later ≡ min sorts unknown → {r : ℕ} → r ≡ min new later → GrammarNamed p namesAfter rawAfter formsAfter r
        grammar_named by-sorts by-forms e-later e =
            let after = by-new new_in in
            let resolved = by-forms rules-of in
            record {
              table = after.table;
              kept = after.kept;
              names_are = after.names_are;
              sorts_are = after.sorts_are;
              declared_are = after.declared_are;
              raw_is = by-nodes nodes-of;
              forms_are = resolved.forms_are;
              place_is = e ∙ ap₂ min after.place_is (e-later ∙ ap₂ min (by-sorts command_of) resolved.unknown_is);
            }
