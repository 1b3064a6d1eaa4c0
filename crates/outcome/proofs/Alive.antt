-- "A non-terminal is refused exactly if it derives no term" (E9): of a script that is refused by 9, and of the grammars of one that passes.
use Prim.Native.Nat.{ℕ, zero, suc, ◌+◌, ◌≤◌, ◌<◌}
use native.Mathlib.Decide.{dec_lt}
use native.Mathlib.Omega.{arith}
use mathlib.Core.Bool.{Bool, true, false, true≢false}
use mathlib.Core.List.{List}
use mathlib.Core.Path.{◌≡◌, refl, ap, sym, ◌∙◌, subst}
use lib.ListN.{length}
use borrow.Author.Tests.{le-ltb, lt-ltb}
use Rattle.forest.specs.Forest.{count}
use Rattle.forest.specs.Limits.{allowed, most_non_terminals, most_rules}
use Rattle.forest.specs.Lists.{among}
use Rattle.forest.proofs.Bools.{apart}
use Rattle.words.specs.Limits.{script_limits}
use Rattle.words.specs.Reading.{reading_of}
use Rattle.words.specs.Words.{words_of}
use Rattle.std.specs.Prelude.{Ok}
use Rattle.derivation.specs.Productive.{DerivesSome, productive}
use Rattle.derivation.specs.code.Productive.{FirstOut, Productive}
use Rattle.derivation.proofs.FoundExactly.{exact}
use Rattle.lexemes.specs.Lists.{Items, inside, is, item, items_of}
use Rattle.lexemes.specs.code.Standing.{Source, Stands, bracketed, word}
use Rattle.lexemes.proofs.Standing.{forward}
use Rattle.lexemes.proofs.WholeText.{text_stands}
use Rattle.written_sorts.specs.Written.{grammar_sorts, least_in, pair_place}
use Rattle.written_sorts.specs.declared.Fault.TheVariants.{TooWide}
use Rattle.term_nodes.specs.Rules.{item_past, rule_past, rules_in}
use Rattle.names.specs.Scopes.{View}
use Rattle.names.proofs.PairNames.{named_long}
use Rattle.headers.specs.Heads.{header_past}
use Rattle.grammars.specs.Grammars.{dead_place, grammar_in, grammar_misfit, grammar_past, listed_misfit}
use Rattle.grammars.proofs.Dead.{dead_named, misfit_dead, misfit_listed, misfit_none, none_dead}
use Rattle.script.specs.Outcome.{ScriptOutcome, by_commands, by_words, offset_of, said, script_outcome, second_of}
use Rattle.script.specs.Script.{Known, grammar_place, judged, known_after, limit_place, name_place, nothing_known, read_all, refused, sorting_place, tested}
use Rattle.script.specs.Script.{view_of}
use Rattle.script.specs.code.Answers.{grammar_answer}
use Rattle.script.proofs.Admitted.{grammar_admitted, heads_declared, said_fit}
use Rattle.script.proofs.Headers.{head_narrow, narrow_sort}
use Rattle.script.proofs.Keeping.{script_keeps}
use Rattle.script.proofs.Limited.{rules_few}
use Rattle.script.proofs.Rules.{groups_placed}
use Rattle.script.proofs.RulesNarrow.{rules_narrow}
use Rattle.script.proofs.Within.{items_few, past_neither, past_none}
use Rattle.script.proofs.WordsBelow.{Below, inside_below, item_below, stands_below}
use Rattle.outcome.specs.Alive.{AllAlive, DeadRefused, FirstDead, GrammarAt, GrammarRefused, OthersPass, dead, other_cause}
use Rattle.outcome.specs.Met.{Met, MetIn, first, later}
use Rattle.outcome.proofs.Refusals.{Gives, a_grammar, another as another-number, grammar_refusal, met_in}
use Rattle.outcome.proofs.OneCommand.{Command, Tests, another, assuming, command, constraining, declaring, defining, synthesizing}

-- Of so many numbers there is a first that is not in a list, or each is.
first_out : (found : List ℕ) (n : ℕ) → (A : ℕ) × FirstOut found n A
first_out found zero = (0, record { most = omega arith; before = λ B h. absurd (omega arith); here = λ h. absurd (omega arith) })
first_out found (suc n) = go (first_out found n) (among n found) refl
  where
    go : (A : ℕ) × FirstOut found n A → (t : Bool) → among n found ≡ t → (A : ℕ) × FirstOut found (suc n) A
    go (A, f) t e = earlier (dec_lt A n) t e
      where
        past : A ≡ n → (B : ℕ) → B < n → among B found ≡ true
        past same B h = f.before B (omega arith)

        earlier : Dec (A < n) → (t : Bool) → among n found ≡ t → (A : ℕ) × FirstOut found (suc n) A
        earlier (yes l) t e = (A, record { most = omega arith; before = f.before; here = λ h. f.here l })
        earlier (no l) false e = (n, record { most = omega arith; before = past (omega (arith, f.most)); here = λ h. e })
        earlier (no l) true e = (suc n, record { most = omega arith; before = λ B h. last B h (dec_lt B n); here = λ h. absurd (omega arith) })
          where
            last : (B : ℕ) → B < suc n → Dec (B < n) → among B found ≡ true
            last B h (yes m) = past (omega (arith, f.most)) B m
            last B h (no m) = let same : B ≡ n = omega arith in rw same e

-- Of a `synth-fun` whose other tests pass: a word is found only where a non-terminal derives no term, and it is the name of the first such; where none is found,
-- each of them derives a term.
record DeadExactly (nowhere : ℕ) (view : View) (c : Items) : Type 0 where
  refused_dead : dead_place nowhere view c < nowhere → FirstDead (grammar_in view c) (inside 4 c) (dead_place nowhere view c)
  passed_alive : nowhere ≤ dead_place nowhere view c → (A : ℕ) → A < count (inside 4 c) → DerivesSome (grammar_in view c) A

module _ {nowhere : ℕ} (k : Known) (at : ℕ) (c : Items) (some_word : 0 < nowhere) (below : Below nowhere c)
    (limited : nowhere ≤ limit_place allowed nowhere k at c) (t : Tests c false false true false false)
    (fits : nowhere ≤ listed_misfit nowhere (view_of k c) c) where
  -- The non-terminals that are found are those that derive a term.
  grammar_productive : Productive (grammar_in (view_of k c) c) (count (inside 4 c))
  unfolding limit_place
  grammar_productive =
      let view = view_of k c in
      let G = grammar_in view c in
      let pairs = inside 4 c in
      let groups = inside 5 c in
      let in-groups = inside_below nowhere 5 c below in
      let past = past_none _ (header_past allowed nowhere c) (grammar_past allowed nowhere c) (rw (t.declares, t.defines, t.synthesizes) at limited) in
      let parts = past_none (item_past nowhere most_non_terminals pairs) (grammar_sorts TooWide nowhere c) _ past.2 in
      let sorts = past_neither (least_in nowhere (pair_place TooWide nowhere) pairs) _ parts.1 in
      let rules = past_neither (rule_past nowhere most_rules (rules_in 0 groups)) _ parts.2 in
      let few = rules_few most_rules (groups_placed {most = count groups} 0 groups (omega arith) in-groups) rules.0 in
      let few_listed = items_few nowhere most_non_terminals pairs some_word (inside_below nowhere 4 c below) parts.0 in
      let admitted = grammar_admitted view c some_word below fits few rules.1 (omega (arith, named_long pairs)) in
      let narrow = (head_narrow nowhere some_word c below past.1).arguments in
      exact G (count pairs) most_non_terminals (λ r h. omega (arith, named_long pairs, heads_declared view c some_word below fits r h)) admitted.proper
      admitted.single (said_fit view (λ j. narrow_sort (inside 2 c) j narrow) (rules_in 0 groups) (rules_narrow nowhere some_word 0 groups in-groups sorts.1))

  -- A word is found only where a non-terminal derives no term, and it is the name of the first; where none is found, each derives one.
  dead_exactly : DeadExactly nowhere (view_of k c) c
  unfolding dead_place
  dead_exactly = go (first_out found (count pairs))
    where
      pairs : Items
      pairs = inside 4 c

      found : List ℕ
      found = productive (grammar_in (view_of k c) c) (count pairs)

      go : (A : ℕ) × FirstOut found (count pairs) A → DeadExactly nowhere (view_of k c) c
      go (A, f) = by (dec_lt A (count pairs))
        where
          by : Dec (A < count pairs) → DeadExactly nowhere (view_of k c) c
          by (yes l) =
              let named = dead_named nowhere found pairs refl f l in
              let word = (item_below some_word 0 (inside A pairs) (inside_below nowhere A pairs (inside_below nowhere 4 c below))).first in
              record {
                refused_dead = λ h. record {
                  A = A;
                  declared = l;
                  derives_none = λ d. true≢false (sym (grammar_productive.derives_found A d) ∙ f.here l);
                  others_derive = λ B h. grammar_productive.found_derives B (f.before B h);
                  place_is = named;
                };
                passed_alive = λ h. absurd (omega (arith, named, word));
              }
          by (no l) =
              let passed = none_dead nowhere found pairs refl f (omega arith) in
              record {
                refused_dead = λ h. absurd (omega (arith, passed));
                passed_alive = λ h B low. grammar_productive.found_derives B (f.before B (omega arith));
              }

-- ---- a command

-- What synthesizes is no other command.
synth_tests : {c : Items} → is "synth-fun" (item 0 c) ≡ true → Command c → Tests c false false true false false
synth_tests h (declaring t) = apart (sym t.synthesizes ∙ h)
synth_tests h (defining t) = apart (sym t.synthesizes ∙ h)
synth_tests h (synthesizing t) = t
synth_tests h (constraining t) = apart (sym t.synthesizes ∙ h)
synth_tests h (assuming t) = apart (sym t.synthesizes ∙ h)
synth_tests h (another t) = apart (sym t.synthesizes ∙ h)

-- A command with a fault in its grammar synthesizes.
synth_faulty : {nowhere : ℕ} (k : Known) {c : Items} → grammar_place nowhere k c < nowhere → Command c → Tests c false false true false false
unfolding grammar_place
synth_faulty k h (declaring t) = let past = rw t.declares at h in absurd (omega arith)
synth_faulty k h (defining t) = let past = rw (t.declares, t.defines) at h in absurd (omega arith)
synth_faulty k h (synthesizing t) = t
synth_faulty k h (constraining t) = let past = rw (t.declares, t.defines, t.synthesizes, t.constrains) at h in absurd (omega arith)
synth_faulty k h (assuming t) = let past = rw (t.declares, t.defines, t.synthesizes, t.constrains, t.assumes) at h in absurd (omega arith)
synth_faulty k h (another t) = let past = rw (t.declares, t.defines, t.synthesizes, t.constrains, t.assumes) at h in absurd (omega arith)

-- The word at fault in the grammar of what synthesizes.
synth_misfit : (nowhere : ℕ) (k : Known) {c : Items} → Tests c false false true false false → grammar_place nowhere k c ≡ grammar_misfit nowhere (view_of k c) c
unfolding grammar_place
synth_misfit nowhere k t = rw (t.declares, t.defines, t.synthesizes) refl

module _ {nowhere : ℕ} (k : Known) (at : ℕ) (c : Items) (some_word : 0 < nowhere) (below : Below nowhere c)
    (limited : nowhere ≤ limit_place allowed nowhere k at c) (t : Tests c false false true false false) where
  -- Why a `synth-fun` within its limits is refused by 9.
  caused : grammar_misfit nowhere (view_of k c) c < nowhere → GrammarAt nowhere (view_of k c) c (grammar_misfit nowhere (view_of k c) c)
  caused h = go (dec_lt (listed_misfit nowhere (view_of k c) c) nowhere)
    where
      go : Dec (listed_misfit nowhere (view_of k c) c < nowhere) → GrammarAt nowhere (view_of k c) c (grammar_misfit nowhere (view_of k c) c)
      go (yes l) = other_cause (sym (misfit_listed (view_of k c) c l)) h
      go (no l) =
          let passed : nowhere ≤ listed_misfit nowhere (view_of k c) c = omega arith in
          let same = misfit_dead (view_of k c) c passed in
          let first_dead = (dead_exactly k at c some_word below limited t passed).refused_dead (omega (arith, same, h)) in
          dead passed (subst (FirstDead (grammar_in (view_of k c) c) (inside 4 c)) (sym same) first_dead)

  module _ (fits : nowhere ≤ listed_misfit nowhere (view_of k c) c) {A : ℕ} (declared : A < count (inside 4 c))
      (none_derived : DerivesSome (grammar_in (view_of k c) c) A → ⊥) where
    -- Where the others pass and a non-terminal derives no term, a word is found.
    found_dead : dead_place nowhere (view_of k c) c < nowhere
    found_dead = go (dec_lt (dead_place nowhere (view_of k c) c) nowhere)
      where
        go : Dec (dead_place nowhere (view_of k c) c < nowhere) → dead_place nowhere (view_of k c) c < nowhere
        go (yes l) = l
        go (no l) = absurd (none_derived ((dead_exactly k at c some_word below limited t fits).passed_alive (omega arith) A declared))

    -- It is the name of the first of them.
    first_found : FirstDead (grammar_in (view_of k c) c) (inside 4 c) (grammar_place nowhere k c)
    first_found =
        subst (FirstDead (grammar_in (view_of k c) c) (inside 4 c)) (sym (synth_misfit nowhere k t ∙ misfit_dead (view_of k c) c fits))
        ((dead_exactly k at c some_word below limited t fits).refused_dead found_dead)

    -- At which the grammar is at fault.
    grammar_faulty : grammar_place nowhere k c < nowhere
    grammar_faulty = let same = synth_misfit nowhere k t ∙ misfit_dead (view_of k c) c fits in omega (arith, same, found_dead)

-- ---- a script that is refused by 9

-- A command that is met stands in the text.
record MetStands (source : Source) (nowhere at : ℕ) (c : Items) : Type 0 where
  close : ℕ
  stands : Stands source (at + 1) c close
  ahead : close < nowhere

-- Every command that is met does.
met_stands : {source : Source} {nowhere i at : ℕ} {k known : Known} {items c : Items} → Met nowhere k items known at c → Stands source i items nowhere
    → MetStands source nowhere at c
met_stands (first l) (word w rest) = apart (sym w.no_list ∙ l)
met_stands (first l) (bracketed {c = close} b inner rest) = record { close = close; stands = inner; ahead = omega (arith, forward rest) }
met_stands (later l e m) (word w rest) = apart (sym w.no_list ∙ l)
met_stands {i = i} (later l e m) (bracketed {c = close} b inner rest) = met_stands {i = close + 1} m rest

-- What a command that is met and refused gives ends the reading.
met_read : {nowhere at number place second : ℕ} {k known : Known} {items c : Items} → Met nowhere k items known at c
    → judged allowed nowhere known at c (known_after known c) ≡ refused number place second → read_all allowed nowhere k items ≡ refused number place second
unfolding read_all
met_read (first l) h = rw (l, h) refl
met_read (later l e m) h = rw (l, e) (met_read m h)

-- What a `synth-fun` gives whose grammar alone is at fault.
judged_dead : {nowhere : ℕ} {k : Known} {at : ℕ} {c : Items} → OthersPass nowhere k at c → grammar_place nowhere k c < nowhere
    → judged allowed nowhere k at c (known_after k c) ≡ refused grammar_answer (grammar_place nowhere k c) 0
unfolding judged tested
judged_dead {nowhere} {k} {at} {c} o h =
    rw (
      o.carried,
      o.shaped,
      o.in_place,
      le-ltb (limit_place allowed nowhere k at c) nowhere o.limited,
      le-ltb (name_place nowhere k c) nowhere o.named,
      le-ltb (sorting_place nowhere k c) nowhere o.sorted,
      lt-ltb (grammar_place nowhere k c) nowhere h,
    ) refl

-- What a script gives whose commands are refused.
commands_refused : (script : List ℕ) {number place : ℕ} → reading_of script_limits script ≡ Ok (length (words_of script))
    → read_all allowed (length (words_of script)) nothing_known (items_of script) ≡ refused number place 0
    → script_outcome script ≡ ScriptOutcome.faulty number (offset_of script place) 0
unfolding script_outcome
commands_refused script words h = ap (by_words script) words ∙ ap (by_commands script) h

-- "A non-terminal is refused exactly if it derives no term": where a command is met and passes all other tests, and one of its non-terminals derives no term, the
-- script is refused by 9 at the first of these.
pub dead_refused : (script : List ℕ) {k : Known} {at : ℕ} {c : Items} → MetIn script k at c → OthersPass (length (words_of script)) k at c
    → (A : ℕ) → A < count (inside 4 c) → (DerivesSome (grammar_in (view_of k c) c) A → ⊥) → DeadRefused script k c
dead_refused script {k} {at} {c} m o A declared none_derived =
    let n = length (words_of script) in
    let s = met_stands m.met (text_stands script_limits script n m.words) in
    let below = stands_below n s.stands (omega (arith, s.ahead)) in
    let some_word : 0 < n = omega (arith, s.ahead) in
    let t = synth_tests o.synthesizes (command c) in
    record {
      word = grammar_place n k c;
      first_dead = first_found k at c some_word below o.limited t o.listed declared none_derived;
      refused = commands_refused script m.words
          (met_read m.met (judged_dead o (grammar_faulty k at c some_word below o.limited t o.listed declared none_derived)));
    }

-- What a command gives that is refused by 9.
record Caused (nowhere : ℕ) (k : Known) (c : Items) (word second : ℕ) : Type 0 where
  synthesizes : is "synth-fun" (item 0 c) ≡ true
  cause : GrammarAt nowhere (view_of k c) c word
  none_second : second ≡ 0

-- It is a `synth-fun`, and why it is refused is said.
grammar_caused : {nowhere : ℕ} (k : Known) (at : ℕ) (c : Items) {word second : ℕ} → 0 < nowhere → Below nowhere c
    → Gives nowhere k at c (refused grammar_answer word second) → Caused nowhere k c word second
grammar_caused k at c some_word below (another-number other) = absurd (other.no-grammar refl)
grammar_caused {nowhere} k at c some_word below (a_grammar limited h) =
    let t = synth_faulty k h (command c) in
    let same = synth_misfit nowhere k t in
    record {
      synthesizes = t.synthesizes;
      cause = subst (GrammarAt nowhere (view_of k c) c) (sym same) (caused k at c some_word below limited t (omega (arith, same, h)));
      none_second = refl;
    }

-- "after the other causes of 9": every script that is refused by 9 is so for another cause, or, where its command has none, for the first non-terminal that
-- derives no term.
pub grammar_refused : (script : List ℕ) {place second : ℕ} → script_outcome script ≡ ScriptOutcome.faulty 9 place second → GrammarRefused script place second
grammar_refused script e =
    let r = grammar_refusal script e in
    let n = length (words_of script) in
    let below = stands_below n r.by.stands (omega (arith, r.by.ahead)) in
    let why = grammar_caused r.by.known r.by.at r.by.command (omega (arith, r.by.ahead)) below r.by.gives in
    record {
      known = r.by.known;
      at = r.by.at;
      command = r.by.command;
      met = met_in r;
      synthesizes = why.synthesizes;
      word = r.word;
      cause = why.cause;
      place_is = r.place_is;
      second_is = r.second_is ∙ ap (second_of script) why.none_second;
    }

-- ---- a script that passes

-- Every non-terminal that is known derives a term.
record Alive (k : Known) : Type 0 where
  functions : AllAlive k.functions

module _ {nowhere : ℕ} (k : Known) (at : ℕ) (c : Items) (some_word : 0 < nowhere) (below : Below nowhere c)
    (limited : nowhere ≤ limit_place allowed nowhere k at c) (rules : nowhere ≤ grammar_place nowhere k c) (all : Alive k) where
  -- After a `synth-fun`.
  after_function : Tests c false false true false false → Alive (known_after k c)
  unfolding AllAlive grammar_place known_after
  after_function t =
      let fits = misfit_none (view_of k c) c (rw (t.declares, t.defines, t.synthesizes) at rules) in
      let alive = (dead_exactly k at c some_word below limited t fits.0).passed_alive fits.1 in
      rw (t.declares, t.defines, t.synthesizes, t.constrains, t.assumes)
      (record { functions = ((λ A low. alive A (omega (arith, named_long (inside 4 c)))), all.functions) })

  -- After another command.
  after_other : {declared defined constrained assumed : Bool} → Tests c declared defined false constrained assumed → Alive (known_after k c)
  unfolding known_after
  after_other t = rw t.synthesizes (record { functions = all.functions })

  -- After any command.
  after_command : Command c → Alive (known_after k c)
  after_command (declaring t) = after_other t
  after_command (synthesizing t) = after_function t
  after_command (defining t) = after_other t
  after_command (constraining t) = after_other t
  after_command (assuming t) = after_other t
  after_command (another t) = after_other t

-- Every non-terminal of every grammar of a script that passes derives a term.
pub alive : (script : List ℕ) {k : Known} → script_outcome script ≡ said k → AllAlive k.functions
unfolding AllAlive
alive script e =
    (script_keeps Alive (λ nowhere k at c ahead below limited sorted ruled all. after_command k at c (omega (arith, ahead)) below limited ruled all (command c)) script e
    (record { functions = tt })).functions
