-- "All names in scope have distinct spellings and a place before their use ..: the name table keeps this true" (E8): every command that passes keeps it.
use Prim.Native.Nat.{ℕ, zero, suc, ◌+◌, ◌≤◌, ◌<◌}
use native.Mathlib.Omega.{arith}
use mathlib.Core.Bool.{true, false}
use mathlib.Core.List.{List, [], ◌∷◌, ◌++◌, append_assoc, append-nil, map-append, map-map}
use mathlib.Core.Path.{◌≡◌, refl, ap, ap₂, sym, ◌∙◌, subst}
use borrow.Author.Tests.{eqb-true}
use lib.ListN.{length}
use Rattle.forest.specs.Forest.{count}
use Rattle.forest.specs.Limits.{Counts, allowed}
use Rattle.forest.specs.Lists.{same_bytes}
use Rattle.forest.proofs.Bools.{and_left, apart}
use Rattle.words.specs.Limits.{script_limits}
use Rattle.words.specs.Reading.{reading_of}
use Rattle.words.specs.Trees.{word_of}
use Rattle.words.specs.Words.{words_of}
use Rattle.words.specs.Answers.{Reading}
use Rattle.std.specs.Prelude.{Ok, Err}
use Rattle.lexemes.specs.Lists.{Items, inside, is, item, items_of, name_of}
use Rattle.lexemes.specs.code.Standing.{Source, Stands, bracketed, ends, word}
use Rattle.lexemes.proofs.Standing.{forward}
use Rattle.lexemes.proofs.WholeText.{text_stands, whole_count}
use Rattle.shapes.specs.Shapes.{command_shape, define_fun_shape, synth_fun_shape}
use Rattle.names.specs.Earlier.{Declared, declared_defined, declared_functions, declared_names, spellings}
use Rattle.names.specs.New.{named_by, new_name, new_pairs}
use Rattle.names.specs.Scopes.{Defined, Function, Named, defined_names, function_names, is_named, names_of}
use Rattle.headers.specs.Heads.{header_names}
use Rattle.script.specs.Outcome.{by_words, said, script_outcome}
use Rattle.script.specs.Script.{Known, arguments_of, declared_in, judged, known_after, name_place, new_names, nothing_known, passed, read_all, scope}
use Rattle.script.proofs.Within.{past_neither}
use Rattle.script.proofs.WordsBelow.{Below, WordsBelow, inside_below, item_below, stands_below}
use Rattle.outcome.specs.Scoped.{AllBefore, AllScoped, Apart, InScope, Scoped, declared_before}
use Rattle.outcome.proofs.Apart.{Covers, Untaken, apart_among, apart_new, apart_pairs, before_all, before_among, before_append, before_both, before_later}
use Rattle.outcome.proofs.Apart.{covers_more, new-name, pairs_before}
use Rattle.outcome.proofs.OneCommand.{Command, Tests, another, assuming, command, constraining, declaring, defining, other_word, synthesizing}
use Rattle.outcome.proofs.Promised.{by-commands, not_said}
use Rattle.outcome.proofs.Sorted.{followed, never_passed, no_faults, only_passed}

-- ---- items that stand one behind the other

-- No item stands before the word where the items begin.
pub item_from : {s : Source} {i e : ℕ} {F : Items} (n : ℕ) → n < count F → Stands s i F e → i ≤ word_of (item n F)
unfolding count item
item_from n h ends = absurd (omega arith)
item_from zero h (word w rest) = omega (arith, w.placed)
item_from (suc n) h (word w rest) = omega (arith, item_from n (omega arith) rest)
item_from zero h (bracketed b inner rest) = omega arith
item_from (suc n) h (bracketed b inner rest) = omega (arith, item_from n (omega arith) rest, forward inner)

-- The words of item m, and of what it holds, are before word w.
pub record Ahead (w m : ℕ) (F : Items) : Type 0 where
  pub itself : WordsBelow w (item m F)
  pub held : Below w (inside m F)

-- So they are before a later item.
pub item_ahead : {s : Source} {i e : ℕ} {F : Items} (m n : ℕ) → m < n → n < count F → Stands s i F e → Ahead (word_of (item n F)) m F
unfolding Below count inside item
item_ahead m n l h ends = absurd (omega arith)
item_ahead m zero l h (word w rest) = absurd (omega arith)
item_ahead m zero l h (bracketed b inner rest) = absurd (omega arith)
item_ahead zero (suc n) l h (word w rest) =
    record { itself = (stands_below _ (word w ends) (item_from n (omega arith) rest)).0; held = tt }
item_ahead zero (suc n) l h (bracketed b inner rest) =
    let from = item_from n (omega arith) rest in
    record { itself = (stands_below _ (bracketed b inner ends) from).0; held = stands_below _ inner (omega arith) }
item_ahead (suc m) (suc n) l h (word w rest) =
    let a = item_ahead m n (omega arith) (omega arith) rest in
    record { itself = a.itself; held = a.held }
item_ahead (suc m) (suc n) l h (bracketed b inner rest) =
    let a = item_ahead m n (omega arith) (omega arith) rest in
    record { itself = a.itself; held = a.held }

-- ---- names in scope

-- The names of variables, arguments or non-terminals, of `define-fun`s and of functions are those of their declarations.
spelt_names : (ns : List Named) → spellings (declared_names ns) ≡ names_of ns
spelt_names ns = map-map (λ (d : Declared). d.name) (λ (n : Named). record { name = n.name; at = n.at }) ns

spelt_defined : (ds : List Defined) → spellings (declared_defined ds) ≡ defined_names ds
spelt_defined ds = map-map (λ (d : Declared). d.name) (λ (n : Defined). record { name = n.name; at = n.at }) ds

spelt_functions : (fs : List Function) → spellings (declared_functions fs) ≡ function_names fs
spelt_functions fs = map-map (λ (d : Declared). d.name) (λ (n : Function). record { name = n.name; at = n.at }) fs

-- The names in scope are those of the declarations in scope.
spelt_scope : (k : Known) → spellings (declared_in k) ≡ scope k
spelt_scope k =
    let variables = declared_names k.variables in
    let definitions = declared_defined k.defined in
    let functions = declared_functions k.functions in
    map-append (λ (d : Declared). d.name) (variables ++ definitions) functions
    ∙ ap₂ ◌++◌
    (map-append (λ (d : Declared). d.name) variables definitions ∙ ap₂ ◌++◌ (spelt_names k.variables) (spelt_defined k.defined))
    (spelt_functions k.functions)

-- A command's own new name.
abbrev own_name : Items → Declared
own_name c = record { name = name_of (item 1 c); at = word_of (item 1 c) }

-- The names in scope with one more among them.
record Inserted (d : Declared) (ds es : List Declared) : Type 0 where
  front : List Declared
  back : List Declared
  was : ds ≡ front ++ back
  is : es ≡ front ++ d ∷ back

-- The name of a `declare-var`, a `define-fun` or a `synth-fun` is one more.
with_variable : (k : Known) (c : Items) → Tests c true false false false false → Inserted (own_name c) (declared_in k) (declared_in (known_after k c))
unfolding known_after
with_variable k c t =
    let variables = declared_names k.variables in
    let definitions = declared_defined k.defined in
    let functions = declared_functions k.functions in
    rw (t.declares, t.defines, t.synthesizes) (record {
      front = variables;
      back = definitions ++ functions;
      was = append_assoc variables definitions functions;
      is = ap (λ (ds : List Declared). ds ++ definitions ++ functions) (map-append _ k.variables _)
          ∙ append_assoc (variables ++ own_name c ∷ []) definitions functions
          ∙ append_assoc variables (own_name c ∷ []) (definitions ++ functions);
    })

with_definition : (k : Known) (c : Items) → Tests c false true false false false → Inserted (own_name c) (declared_in k) (declared_in (known_after k c))
unfolding known_after
with_definition k c t =
    let variables = declared_names k.variables in
    let definitions = declared_defined k.defined in
    let functions = declared_functions k.functions in
    rw (t.declares, t.defines, t.synthesizes) (record {
      front = variables;
      back = definitions ++ functions;
      was = append_assoc variables definitions functions;
      is = append_assoc variables (own_name c ∷ definitions) functions;
    })

with-function : (k : Known) (c : Items) → Tests c false false true false false → Inserted (own_name c) (declared_in k) (declared_in (known_after k c))
unfolding known_after
with-function k c t =
    rw (t.declares, t.defines, t.synthesizes) (record {
      front = declared_names k.variables ++ declared_defined k.defined;
      back = declared_functions k.functions;
      was = refl;
      is = refl;
    })

-- One more that is not taken, and stands before the next command, keeps them apart and before it.
more_in_scope : {k after : Known} {at next : ℕ} {d : Declared} → Inserted d (declared_in k) (declared_in after) → Untaken (declared_in k) d → d.at < next
    → at ≤ next → InScope k at → InScope after next
more_in_scope {k} {after} {next = next} {d} i new below later s =
    let untaken = subst (λ (ds : List Declared). Untaken ds d) i.was new in
    let apart = subst (λ (ds : List Declared). Apart (spellings ds)) i.was s.apart in
    let before = subst (AllBefore next) i.was (before_later (declared_in k) later s.before) in
    record {
      apart = subst (λ (ds : List Declared). Apart (spellings ds)) (sym i.is) (apart_among i.front i.back d untaken apart);
      before = subst (AllBefore next) (sym i.is) (before_among i.front i.back d below before);
    }

-- ---- one command

module _ (w nowhere : ℕ) (k : Known) (c : Items) where
  -- The names in scope are those of the declarations.
  covers : Covers (scope k) (declared_in k)
  covers n h = ap (λ (ns : List (List ℕ)). is_named ns n) (spelt_scope k) ∙ h

  -- The declarations in scope behind a command's own new name, where that stands before word w.
  abbrev with_own : List Declared
  with_own = declared_in k ++ declared_before w (own_name c ∷ [])

  -- And behind those of its arguments that do.
  abbrev with_arguments : List Declared
  with_arguments = with_own ++ declared_before w (declared_names (arguments_of c))

  module _ (apart : Apart (spellings (declared_in k))) where
    -- A new name that is not at fault before word w.
    own_apart : w ≤ new_name nowhere (scope k) (item 1 c) → Apart (spellings with_own)
    own_apart h = apart_new w nowhere (scope k) (declared_in k) covers (item 1 c) h apart

    -- A head of which no name is.
    header_apart : w ≤ header_names nowhere (scope k) c → Apart (spellings with_arguments)
    header_apart h =
        apart_pairs w nowhere (name_of (item 1 c) ∷ scope k) with_own (covers_more w (scope k) (declared_in k) (own_name c ∷ []) covers) (inside 2 c)
        (omega (arith, h)) (own_apart (omega (arith, h)))

    -- A grammar of which no name is.
    grammar_apart : w ≤ header_names nowhere (scope k) c → w ≤ new_pairs nowhere (names_of (arguments_of c) ++ name_of (item 1 c) ∷ scope k) (inside 4 c)
        → Apart (spellings (with_arguments ++ declared_before w (declared_names (named_by (inside 4 c)))))
    grammar_apart h g =
        let own = covers_more w (scope k) (declared_in k) (own_name c ∷ []) covers in
        let both = covers_more w (name_of (item 1 c) ∷ scope k) with_own (declared_names (arguments_of c)) own in
        apart_pairs w nowhere (names_of (arguments_of c) ++ name_of (item 1 c) ∷ scope k) with_arguments (rw (spelt_names (arguments_of c)) at both) (inside 4 c) g
        (header_apart h)

    -- Nothing new.
    none_apart : Apart (spellings (declared_in k ++ declared_before w []))
    unfolding declared_before
    none_apart = subst (λ (ds : List Declared). Apart (spellings ds)) (sym (append-nil (declared_in k))) apart

    -- The new names of a command before the first word at fault are apart from those before it and from each other.
    pub new_apart : w ≤ name_place nowhere k c → Command c → Apart (spellings (declared_in k ++ declared_before w (new_names c)))
    unfolding name_place new_names
    new_apart names (declaring t) =
        let h = rw t.declares at names in
        rw t.declares (own_apart (omega (arith, h)))
    new_apart names (defining t) =
        let h = rw (t.declares, t.defines) at names in
        let arguments = declared_names (arguments_of c) in
        let same = append_assoc (declared_in k) _ _ ∙ ap (◌++◌ (declared_in k)) (sym (before_append w (own_name c ∷ []) arguments)) in
        rw (t.declares, t.defines) (subst (λ (ds : List Declared). Apart (spellings ds)) same (header_apart (omega (arith, h))))
    new_apart names (synthesizing t) =
        let h = past_neither _ _ (rw (t.declares, t.defines, t.synthesizes) at names) in
        let arguments = declared_names (arguments_of c) in
        let non_terminals = declared_names (named_by (inside 4 c)) in
        let pairs = ap (◌++◌ with_own) (sym (before_append w arguments non_terminals)) in
        let all = ap (◌++◌ (declared_in k)) (sym (before_append w (own_name c ∷ []) (arguments ++ non_terminals))) in
        rw (t.declares, t.defines, t.synthesizes)
        (subst (λ (ds : List Declared). Apart (spellings ds)) (append_assoc with_own _ _ ∙ pairs ∙ append_assoc (declared_in k) _ _ ∙ all)
        (grammar_apart h.0 (past_neither _ _ h.1).0))
    new_apart names (constraining t) = rw (t.declares, t.defines, t.synthesizes) none_apart
    new_apart names (assuming t) = rw (t.declares, t.defines, t.synthesizes) none_apart
    new_apart names (another t) = rw (t.declares, t.defines, t.synthesizes) none_apart

-- The new names of a command stand before a word that its name, its arguments and, in a `synth-fun`, its non-terminals stand before.
names_before : (c : Items) (w : ℕ) → 0 < w → word_of (item 1 c) < w → Below w (inside 2 c) → (is "synth-fun" (item 0 c) ≡ true → Below w (inside 4 c))
    → Command c → AllBefore w (new_names c)
unfolding AllBefore new_names
names_before c w some own arguments non_terminals (declaring t) = rw t.declares (own, tt)
names_before c w some own arguments non_terminals (defining t) = rw (t.declares, t.defines) (own, pairs_before some (inside 2 c) arguments)
names_before c w some own arguments non_terminals (synthesizing t) =
    let pairs = pairs_before some (inside 4 c) (non_terminals t.synthesizes) in
    rw (t.declares, t.defines, t.synthesizes) (own, before_both w (declared_names (arguments_of c)) _ (pairs_before some (inside 2 c) arguments) pairs)
names_before c w some own arguments non_terminals (constraining t) = rw (t.declares, t.defines, t.synthesizes) tt
names_before c w some own arguments non_terminals (assuming t) = rw (t.declares, t.defines, t.synthesizes) tt
names_before c w some own arguments non_terminals (another t) = rw (t.declares, t.defines, t.synthesizes) tt

module _ {nowhere : ℕ} (k : Known) (c : Items) (some_word : 0 < nowhere) (below : Below nowhere c) (names : nowhere ≤ name_place nowhere k c) where
  -- The new names of a command that passes are apart from those before it and from each other.
  all_apart : Apart (spellings (declared_in k)) → Apart (spellings (declared_in k ++ new_names c))
  all_apart apart =
      let own = (item_below some_word 1 c below).first in
      let all = names_before c nowhere some_word own (inside_below nowhere 2 c below) (λ _. inside_below nowhere 4 c below) (command c) in
      subst (λ (ds : List Declared). Apart (spellings (declared_in k ++ ds))) (before_all nowhere (new_names c) all)
      (new_apart nowhere nowhere k c apart names (command c))

  module _ {at next : ℕ} (later : at ≤ next) (some : 0 < next) (before : Below next c) (s : InScope k at) where
    -- What declares nothing changes nothing.
    nothing_more : {after : Known} → declared_in after ≡ declared_in k → InScope after next
    nothing_more e = record {
      apart = subst (λ (ds : List Declared). Apart (spellings ds)) (sym e) s.apart;
      before = subst (AllBefore next) (sym e) (before_later (declared_in k) later s.before);
    }

    -- A name more, where it is not at fault.
    own_more : Inserted (own_name c) (declared_in k) (declared_in (known_after k c)) → nowhere ≤ new_name nowhere (scope k) (item 1 c)
        → InScope (known_after k c) next
    own_more i h =
        let own = (item_below some_word 1 c below).first in
        let new = new-name nowhere nowhere (scope k) (declared_in k) (covers nowhere nowhere k c) (item 1 c) own h in
        more_in_scope i new (item_below some 1 c before).first later s

    -- A command whose names are not at fault keeps the names in scope apart, and before the next command.
    pub keeps_scope : Command c → InScope (known_after k c) next
    unfolding known_after name_place
    keeps_scope (declaring t) = own_more (with_variable k c t) (past_neither _ _ (rw t.declares at names)).0
    keeps_scope (defining t) = own_more (with_definition k c t) (past_neither _ _ (past_neither _ _ (rw (t.declares, t.defines) at names)).0).0
    keeps_scope (synthesizing t) =
        own_more (with-function k c t) (past_neither _ _ (past_neither _ _ (rw (t.declares, t.defines, t.synthesizes) at names)).0).0
    keeps_scope (constraining t) = nothing_more (rw (t.declares, t.defines, t.synthesizes) refl)
    keeps_scope (assuming t) = nothing_more (rw (t.declares, t.defines, t.synthesizes) refl)
    keeps_scope (another t) = nothing_more (rw (t.declares, t.defines, t.synthesizes) refl)

module _ (c : Items) (shape : command_shape c ≡ true) where
  -- A `define-fun` has its shape.
  pub definition_shape : is "define-fun" (item 0 c) ≡ true → define_fun_shape c ≡ true
  unfolding command_shape same_bytes
  definition_shape t =
      let logic = other_word "define-fun" "set-logic" refl (name_of (item 0 c)) t in
      let variable = other_word "define-fun" "declare-var" refl (name_of (item 0 c)) t in
      rw (logic, variable, t) at shape

  -- And so has a `synth-fun`.
  pub function_shape : is "synth-fun" (item 0 c) ≡ true → synth_fun_shape c ≡ true
  unfolding command_shape same_bytes
  function_shape t =
      let logic = other_word "synth-fun" "set-logic" refl (name_of (item 0 c)) t in
      let variable = other_word "synth-fun" "declare-var" refl (name_of (item 0 c)) t in
      let definition = other_word "synth-fun" "define-fun" refl (name_of (item 0 c)) t in
      rw (logic, variable, definition, t) at shape

  module _ {source : Source} {i e : ℕ} (stands : Stands source i c e) where
    -- The new names of a `define-fun` stand before its body.
    before_body : is "define-fun" (item 0 c) ≡ true → AllBefore (word_of (item 4 c)) (new_names c)
    unfolding same_bytes
    before_body t =
        let long = eqb-true (count c) 5 (and_left _ _ (and_left _ _ (definition_shape t))) in
        let own = (item_ahead 1 4 (omega arith) (omega arith) stands).itself.first in
        let arguments = (item_ahead 2 4 (omega arith) (omega arith) stands).held in
        let other = other_word "define-fun" "synth-fun" refl (name_of (item 0 c)) t in
        names_before c (word_of (item 4 c)) (omega arith) own arguments (λ e. apart (sym other ∙ e)) (command c)

    -- Those of a `synth-fun` stand before its groups.
    before_rules : is "synth-fun" (item 0 c) ≡ true → AllBefore (word_of (item 5 c)) (new_names c)
    before_rules t =
        let long = eqb-true (count c) 6 (and_left _ _ (and_left _ _ (and_left _ _ (function_shape t)))) in
        let own = (item_ahead 1 5 (omega arith) (omega arith) stands).itself.first in
        let arguments = (item_ahead 2 5 (omega arith) (omega arith) stands).held in
        let non_terminals = (item_ahead 4 5 (omega arith) (omega arith) stands).held in
        names_before c (word_of (item 5 c)) (omega arith) own arguments (λ _. non_terminals) (command c)

-- ---- all commands

-- A command that passes is scoped, and keeps the names in scope apart and before the next command: "keeps this true".
pub command_scoped : {source : Source} {i close nowhere : ℕ} (counts : Counts) (k : Known) (c : Items) {later : Known} → Stands source (i + 1) c close
    → close < nowhere → InScope k i → judged counts nowhere k i c (known_after k c) ≡ passed later → Scoped k i c × InScope (known_after k c) (close + 1)
command_scoped {i = i} {close} {nowhere} counts k c stands h s e =
    let fine = no_faults counts nowhere k i c (known_after k c) e in
    let below = stands_below nowhere stands (omega arith) in
    let before = stands_below (close + 1) stands (omega arith) in
    let long = forward stands in (
      record {
        apart = all_apart k c (omega arith) below fine.names s.apart;
        before = s.before;
        before_body = before_body c fine.shape stands;
        before_rules = before_rules c fine.shape stands;
      },
      keeps_scope k c (omega arith) below fine.names (omega arith) (omega arith) before s (command c),
    )

-- So is every command of those that pass.
all_scoped : {source : Source} {i nowhere : ℕ} (counts : Counts) {items : Items} (k : Known) {later : Known} → Stands source i items nowhere → InScope k i
    → read_all counts nowhere k items ≡ passed later → AllScoped k items × InScope later nowhere
unfolding AllScoped read_all
all_scoped {nowhere = nowhere} counts k {later} ends s h =
    let same : k ≡ later = cc (only_passed k.ended _ _ _ h) in
    (tt, subst (λ (k : Known). InScope k nowhere) same s)
all_scoped counts k (word w rest) s h = never_passed _ _ _ (rw w.no_list at h)
all_scoped {i = i} {nowhere} counts k {later} (bracketed {ops = c} {more = more} b inner rest) s h =
    let next = followed (judged counts nowhere k i c (known_after k c)) (λ (k : Known). read_all counts nowhere k more) h in
    let here = command_scoped counts k c inner (omega (arith, forward rest)) s next.1 in
    let same = sym (no_faults counts nowhere k i c (known_after k c) next.1).is in
    let there = all_scoped counts (known_after k c) rest here.1 (subst (λ (k : Known). read_all counts nowhere k more ≡ passed later) same next.2) in
    ((here.0, there.0), there.1)

-- What a script that passes declares.
script_scoped : (script : List ℕ) {k : Known} → script_outcome script ≡ said k → AllScoped nothing_known (items_of script) × InScope k (length (words_of script))
unfolding AllBefore Apart script_outcome
script_scoped script {k} e = go (reading_of script_limits script) refl e
  where
    go : (reading : Reading) → reading_of script_limits script ≡ reading → by_words script reading ≡ said k
        → AllScoped nothing_known (items_of script) × InScope k (length (words_of script))
    go (Err refusal) whole h = not_said h
    go (Ok n) whole h =
        let stands = text_stands script_limits script n whole in
        let read = by-commands script (read_all allowed n nothing_known (items_of script)) h in
        let all = all_scoped allowed nothing_known stands (record { apart = tt; before = tt }) read in
        (all.0, subst (InScope k) (whole_count script_limits script n whole) all.1)

-- "All names in scope have distinct spellings and a place before their use" (E8), within each command of a script that passes.
pub scoped : (script : List ℕ) {k : Known} → script_outcome script ≡ said k → AllScoped nothing_known (items_of script)
scoped script e = (script_scoped script e).0

-- And behind the last of them.
pub in_scope : (script : List ℕ) {k : Known} → script_outcome script ≡ said k → InScope k (length (words_of script))
in_scope script e = (script_scoped script e).1
