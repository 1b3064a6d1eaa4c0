-- The tests of a `synth-fun` in their order: what each asks of those before it, and the verdict on its limits and its names.
use Prim.Native.Nat.{ℕ, ◌+◌, ◌-◌, ◌*◌, ◌≤◌, ◌<◌, min}
use native.Mathlib.Omega.{arith}
use mathlib.Core.Path.{◌≡◌, refl, sym, ap, ◌∙◌}
use mathlib.Core.List.{List, ◌++◌, append_assoc}
use lib.ListN.{drop, length, length-append, length-drop}
use lib.Seq.{length-sets, length-take-le}
use borrow.Author.Tests.{lt-ltb}
use Rattle.forest.specs.Forest.{Forest, nodes_of}
use Rattle.forest.proofs.Rows.{length_rows}
use Rattle.terms.specs.code.Nodes.{row_width as nodeWidth}
use Rattle.term_nodes.specs.code.Table.{raw_row, raw_table, row_width as rawWidth, uncounted, uncounted_table}
use Rattle.term_nodes.specs.Terms.{Raw}
use Rattle.written_sorts.specs.code.Headers.{HeaderAt}
use Rattle.written_sorts.proofs.HeaderSorts.{header}
use Rattle.forest.specs.Limits.{allowed, most_functions, most_rules}
use Rattle.headers.specs.code.Heads.{HeadLimited}
use Rattle.grammars.specs.code.Read.{GrammarAt, Limited}
use Rattle.term_nodes.specs.Rules.{sides}
use Rattle.term_nodes.specs.code.RuleGathering.{start_table}
use Rattle.term_nodes.specs.declared.Gathered.{Gathered}
use Rattle.script.specs.Script.{limit_place}
use Rattle.script.specs.code.Places.{own_rules, rules_width}
use Rattle.script.specs.code.Tables.{After}
use Rattle.script.specs.declared.Progress.{Progress}
use Rattle.script.specs.declared.Verdict.{Verdict}
use Rattle.script.proofs.WordsBelow.{command_word}
use Rattle.script.proofs.Verdicts.{says_limit, says_name}
use Rattle.script.specs.code.Answers.{limit_answer, name_answer}
use Rattle.synth_fun.specs.code.Synthesizing.{Synthesized, Synthesizing, forms_said, ruled_by}
use Rattle.synth_fun.specs.code.SortTests.{Unsorted}
use Rattle.synth_fun.specs.code.NameTests.{Gathering, NamesFound, ReadsHeader, Unnamed}
use Rattle.synth_fun.specs.declared.Header.{Header}
use Rattle.synth_fun.proofs.SynthFunParts.{closes_next, closes_within, limit_is, nodes_within, small, synth_at}
use Rattle.synth_fun.proofs.PastLimits.{command_first}
use Rattle.synth_fun.proofs.RulesGathered.{found_still, own_room, rules_stand, rules_part, still, with_rules}
use Rattle.synth_fun.proofs.SortVerdicts.{refused_so}

-- The table of nodes is as long before they are counted.
tables_long : (F : Forest Raw) → length (raw_table F) ≡ length (uncounted_table F)
unfolding raw_table uncounted_table
tables_long F = length_rows raw_row rawWidth (λ n. refl) (nodes_of F) ∙ sym (length_rows uncounted rawWidth (λ n. refl) (nodes_of F))

module _ {text lexemes names raw places forms : List ℕ} {p : Progress} {i nowhere : ℕ}
    (d : Synthesizing text lexemes names raw places forms p i nowhere) where
  -- There are as many functions before the command as there may be.
  pub full_refused : most_functions ≤ p.functions → Synthesized d names raw places forms (record { number = limit_answer; place = i; rows = 0 })
  full_refused full =
      refused_so d (omega arith) (λ e. absurd (omega arith))
      (says_limit allowed nowhere d.of.known i d.of.here.command (After d.of) (record { number = limit_answer; place = i; rows = 0 })
      (record { number_is = refl; place_is = command_first d.of full; found = command_word d.of.here })) refl refl

  -- There are fewer.
  module _ (one_more : p.functions < most_functions) {first : ℕ} (first_is : first ≡ own_rules p.functions) where
    -- The part of the table of places for its rules has room for as many as there may be.
    pub own_long : length (rules_part first places) ≡ rules_width
    own_long =
        let own = drop first places in
        length-take-le (first + rules_width - first) own (omega (arith, length-drop first places, own_room d one_more first_is)) ∙ omega arith

    -- The rules of the command may be gathered there.
    abbrev pub grammar_at : GrammarAt lexemes raw (rules_part first places) i
    grammar_at = record {
      command = synth_at d.of;
      room = omega (arith, closes_next d.of, closes_within d.of, d.raw_room);
      rules_room = omega (arith, own_long);
    }

    module _ {rawAfter rules : List ℕ} {g : Gathered}
        (gathered : (q : GrammarAt lexemes raw (rules_part first places) i) → Limited q nowhere rawAfter rules g)
        {head : ℕ} (by-head : (q : HeaderAt lexemes i) → HeadLimited q allowed nowhere head) {place : ℕ} (least : place ≡ min head g.place) where
      -- What the test of the limits finds.
      limit_found : limit_place allowed nowhere d.of.known i d.of.here.command ≡ min nowhere place
      limit_found =
          limit_is d.of
          ∙ rw (
            ← d.of.counted.functions_are,
            lt-ltb p.functions most_functions one_more,
            least,
            by-head (header (synth_at d.of)),
            (gathered grammar_at).place_is,
          )

      -- Something is past a limit.
      pub limit_refused : place < nowhere → {placesAfter : List ℕ}
          → Synthesized d names rawAfter placesAfter forms (record { number = limit_answer; place = place; rows = 0 })
      limit_refused past =
          refused_so d (omega arith) (λ e. absurd (omega arith))
          (says_limit allowed nowhere d.of.known i d.of.here.command (After d.of) (record { number = limit_answer; place = place; rows = 0 })
          (record { number_is = refl; place_is = omega (arith, limit_found); found = past })) (gathered grammar_at).raw_long refl

      -- Nothing is.
      module _ (fine : nowhere ≤ place) where
        pub limits_pass : nowhere ≤ limit_place allowed nowhere d.of.known i d.of.here.command
        limits_pass = omega (arith, limit_found)

        pub rules_few : g.rule ≤ most_rules
        rules_few = omega (arith, (small d.of limits_pass).few_rules, (gathered grammar_at).counted)

        -- The rules fill their part.
        pub rules_long : length rules ≡ rules_width
        rules_long = (gathered grammar_at).rules_long ∙ own_long

        -- The names may be tested.
        abbrev pub gathering_here : Gathering text lexemes names rawAfter (with_rules first places rules) forms p g i nowhere
        gathering_here = record {
          lent = raw;
          given = still d one_more first_is rules rules_long;
          limited = limits_pass;
          raw_long = (gathered grammar_at).raw_long;
          rest = (gathered grammar_at).rest;
          raw_is = (gathered grammar_at).raw_is;
          rows_are = (gathered grammar_at).rows_are;
          within = omega (arith, (gathered grammar_at).rows_are, nodes_within d.of);
          more = (gathered grammar_at).more ++ drop (first + length rules) places;
          rules_are = ap (λ (n : ℕ). drop n (with_rules first places rules)) (sym first_is) ∙ rules_stand d one_more first_is rules rules_long
              ∙ ap (λ (l : List ℕ). l ++ drop (first + length rules) places) ((gathered grammar_at).rules_are rules_few)
              ∙ append_assoc (start_table 0 (ruled_by d.of.here.command)) (gathered grammar_at).more (drop (first + length rules) places);
          counted = (gathered grammar_at).counted;
          few = rules_few;
        }

        -- What is found of the command then is found of it.
        pub found_then : {namesAfter rawLast placesAfter formsAfter : List ℕ} {v : Verdict}
            → ((s : Gathering text lexemes names rawAfter (with_rules first places rules) forms p g i nowhere)
            → Synthesized s.given namesAfter rawLast placesAfter formsAfter v)
            → Synthesized d namesAfter rawLast placesAfter formsAfter v
        found_then found = found_still d one_more first_is rules rules_long (found gathering_here)

module _ {text lexemes names raw places forms : List ℕ} {p : Progress} {g : Gathered} {i nowhere : ℕ}
    (s : Gathering text lexemes names raw places forms p g i nowhere)
    {h : Header} (by-header : ReadsHeader lexemes i h) where
  -- The names of the command may be put.
  abbrev pub unnamed_here : Unnamed text lexemes names raw forms p h.arguments g.row i nowhere
  unnamed_here = record {
    of = s.given.of;
    names_hold = s.given.names_hold;
    limited = s.limited;
    arguments_are = (by-header (synth_at s.given.of)).arguments_are;
    rest = s.rest;
    raw_is = s.raw_is;
    rows_are = s.rows_are;
    room = omega (arith, s.within, s.given.within, s.given.forms_room, closes_within s.given.of);
  }

  module _ {namesAfter rawAfter formsAfter : List ℕ} {place : ℕ}
      (found : (u : Unnamed text lexemes names raw forms p h.arguments g.row i nowhere) → NamesFound u namesAfter rawAfter formsAfter place) where
    -- The tables are as long as they were.
    pub raw_kept : length rawAfter ≡ length s.lent
    raw_kept =
        let F = sides (ruled_by s.given.of.here.command) in
        ap length (found unnamed_here).raw_is
        ∙ length-append (raw_table F) s.rest
        ∙ ap (λ (n : ℕ). n + length s.rest) (tables_long F)
        ∙ sym (length-append (uncounted_table F) s.rest)
        ∙ sym (ap length s.raw_is)
        ∙ s.raw_long

    forms_kept : length formsAfter ≡ length forms
    forms_kept =
        ap length (found unnamed_here).forms_are
        ∙ length-sets forms (nodeWidth * p.forms) (forms_said s.given.of.known s.given.of.here.command)

    -- A name is at fault.
    pub names_refused : place < nowhere → Synthesized s.given namesAfter rawAfter places formsAfter (record { number = name_answer; place = place; rows = 0 })
    names_refused fault =
        refused_so s.given (omega arith) (λ e. (found unnamed_here).taken)
        (says_name allowed nowhere s.given.of.known i s.given.of.here.command (After s.given.of) (record { number = name_answer; place = place; rows = 0 }) s.limited
        (record { number_is = refl; place_is = (found unnamed_here).place_is; found = fault })) raw_kept forms_kept

    -- None is, and the sorts may be tested.
    abbrev pub unsorted_here : nowhere ≤ place → Unsorted text lexemes namesAfter rawAfter places formsAfter p g h i nowhere
    unsorted_here fine = record {
      lent_names = names;
      lent_raw = s.lent;
      lent_forms = forms;
      given = s.given;
      limited = s.limited;
      named = rw (found unnamed_here).place_is at fine;
      raw_long = raw_kept;
      header = by-header (synth_at s.given.of);
      names_hold = (found unnamed_here).names_hold;
      listed_are = (found unnamed_here).listed_are;
      listed_sorts = (found unnamed_here).listed_sorts;
      rest = s.rest;
      raw_is = (found unnamed_here).raw_is;
      forms_are = (found unnamed_here).forms_are;
      rows_are = s.rows_are;
      within = s.within;
      more = s.more;
      rules_are = s.rules_are;
      counted = s.counted;
      few = s.few;
    }
