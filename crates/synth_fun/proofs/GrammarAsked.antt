-- The grammar of a `synth-fun` without a fault in its sorts and in what it lists, in the tables: which of its non-terminals derive a term may be asked.
use Prim.Native.Nat.{ℕ, ◌+◌, ◌-◌, ◌*◌, ◌≤◌}
use native.Mathlib.Omega.{arith}
use mathlib.Core.List.{List}
use mathlib.Core.Path.{◌≡◌, sym, ap, ◌∙◌, subst}
use lib.ListN.{drop, take}
use Rattle.derivation.specs.Productive.{productive}
use Rattle.derivation.specs.code.Admitted.{Admitted}
use Rattle.derivation.specs.code.Productive.{AsksDead, FindsDead}
use Rattle.terms.specs.code.Nodes.{row_width as nodeWidth}
use Rattle.lexemes.specs.Lists.{inside}
use Rattle.names.proofs.PairNames.{named_long}
use Rattle.term_nodes.specs.declared.Gathered.{Gathered}
use Rattle.grammars.specs.Grammars.{dead_place, grammar_in, listed_misfit}
use Rattle.grammars.specs.Listing.{dead_misfit}
use Rattle.script.specs.Script.{view_of}
use Rattle.script.specs.code.Signatures.{Listed}
use Rattle.script.specs.declared.Progress.{Progress}
use Rattle.script.proofs.Admitted.{grammar_admitted}
use Rattle.script.proofs.TableParts.{part_whole}
use Rattle.script.proofs.WordsBelow.{command_below, command_word}
use Rattle.synth_fun.specs.code.Rows.{Put}
use Rattle.synth_fun.specs.code.SortTests.{Deriving, Unsorted}
use Rattle.synth_fun.specs.declared.Header.{Header}
use Rattle.synth_fun.proofs.FunctionHeld.{arguments_counted, forms_grammar, places_long, rules_counted, rules_grammar, sorts_grammar}
use Rattle.synth_fun.proofs.SortsSought.{forms_room, limits}
use Rattle.synth_fun.proofs.SynthFunParts.{rules_within, synth_at}

-- ---- slices that are parts of the tables

module _ {rules forms arguments rules_part formsPart argumentsPart : List ℕ} (er : rules ≡ rules_part) (ef : forms ≡ formsPart)
    (ea : arguments ≡ argumentsPart) {n : ℕ} where
  -- what is asked of the parts is asked of them
  pub asks_parts : AsksDead rules_part formsPart argumentsPart n → AsksDead rules forms arguments n
  asks_parts q =
      subst (λ (x : List ℕ). AsksDead x forms arguments n) (sym er)
      (subst (λ (x : List ℕ). AsksDead rules_part x arguments n) (sym ef) (subst (λ (x : List ℕ). AsksDead rules_part formsPart x n) (sym ea) q))

  -- what is found of them is found of the parts
  pub finds_parts : {A : ℕ} → FindsDead rules forms arguments n A → FindsDead rules_part formsPart argumentsPart n A
  finds_parts {A} f =
      subst (λ (x : List ℕ). FindsDead rules_part formsPart x n A) ea
      (subst (λ (x : List ℕ). FindsDead rules_part x arguments n A) ef (subst (λ (x : List ℕ). FindsDead x forms arguments n A) er f))

-- so many rows of the forms
pub rows_part : (forms : List ℕ) (first rows : ℕ)
    → take (nodeWidth * first + nodeWidth * rows - nodeWidth * first) (drop (nodeWidth * first) forms) ≡ take (nodeWidth * rows) (drop (nodeWidth * first) forms)
rows_part forms first rows = part_whole (nodeWidth * first) (nodeWidth * rows) forms

-- ---- the grammar

module _ {text lexemes names raw places forms : List ℕ} {p : Progress} {g : Gathered} {h : Header} {i nowhere : ℕ}
    (s : Unsorted text lexemes names raw places forms p g h i nowhere)
    (fits : nowhere ≤ listed_misfit nowhere (view_of s.given.of.known s.given.of.here.command) s.given.of.here.command) where
  -- it is admitted
  pub admitted_here : Admitted (grammar_in (view_of s.given.of.known s.given.of.here.command) s.given.of.here.command)
  admitted_here =
      let c = s.given.of.here.command in
      let first = command_word s.given.of.here in
      grammar_admitted (view_of s.given.of.known c) c (omega arith) (command_below s.given.of.here) fits (omega (arith, s.counted, s.few))
      (rules_within s.given.of s.limited) (omega (arith, named_long (inside 4 c), (limits s).few_listed))

  module _ {placesBetween : List ℕ} (listed : Listed names places h.listed placesBetween)
      {placesAfter : List ℕ} (put : Put names placesBetween p g h placesAfter) where
    -- it stands in the tables
    abbrev pub deriving_here : Deriving lexemes placesAfter forms p g h i
    deriving_here = record {
      declared = record { command = synth_at s.given.of; listed_are = s.header.listed_are };
      asks = record {
        tabled = record {
          G = grammar_in (view_of s.given.of.known s.given.of.here.command) s.given.of.here.command;
          is_rules = rules_grammar s listed put;
          is_forms = forms_grammar s listed put;
          are_arguments = sorts_grammar s listed put;
          admitted = admitted_here;
        };
        few = omega (arith, s.header.listed_are, (limits s).few_listed);
      };
      one_more = omega (arith, (limits s).one_more);
      long = places_long s listed put;
      few_rules = omega (arith, rules_counted s listed put, s.few);
      few_arguments = omega (arith, arguments_counted s listed put, s.header.arguments_are, (limits s).few_arguments);
      room = forms_room s;
    }

    -- the name of the first that derives none
    pub dead_is : {r : ℕ}
        → ((q : Deriving lexemes placesAfter forms p g h i)
        → r ≡ dead_misfit nowhere (productive q.asks.tabled.G h.listed) 0 (inside 4 q.declared.command.here.operands))
        → r ≡ dead_place nowhere (view_of s.given.of.known s.given.of.here.command) s.given.of.here.command
    unfolding dead_place
    dead_is found =
        let c = s.given.of.here.command in
        let G = grammar_in (view_of s.given.of.known c) c in
        found deriving_here ∙ ap (λ (n : ℕ). dead_misfit nowhere (productive G n) 0 (inside 4 c)) s.header.listed_are
