-- The second number of a refusal for a name, by the code of the command.
use Prim.Native.Nat.{ℕ, ◌+◌, ◌<◌}
use Prim.Native.String.{String}
use mathlib.Core.Bool.{true}
use mathlib.Core.List.{List}
use mathlib.Core.Path.{◌≡◌, refl, sym, subst, subst⁻¹, ◌∙◌}
use borrow.Author.Tests.{ne_eqb}
use Rattle.forest.specs.Limits.{script_words}
use Rattle.lexemes.specs.Lists.{is, item}
use Rattle.lexemes.specs.code.Codes.{declare_var_code, define_fun_code, synth_fun_code}
use Rattle.lexemes.specs.code.Table.{code_at}
use Rattle.written_sorts.specs.code.Headers.{HeaderAt, SynthFunAt}
use Rattle.names.specs.Earlier.{earlier}
use Rattle.names.specs.code.Earlier.{Listing, all_rows, new_rows}
use Rattle.names.specs.code.Table.{argument_row, defined_row, function_row, own_argument_row, variable_row}
use Rattle.names.specs.declared.Scope.{Scope}
use Rattle.script.specs.Script.{earlier_place, new_names}
use Rattle.script.specs.code.Tables.{CommandOf}
use Rattle.script.specs.code.Taken.{TakenAt, scope_within}
use Rattle.script.specs.declared.Progress.{Progress}
use Rattle.script.proofs.CommandByCode.{Chosen}
use Rattle.script.proofs.TakenPlaces.{taken_place}
use Rattle.commands.proofs.DefinitionItems.{header_here}
use Rattle.synth_fun.specs.code.NameTests.{ReadsHeader}
use Rattle.synth_fun.specs.declared.Header.{Header}
use Rattle.synth_fun.proofs.SynthFunParts.{synth_at}
use Rattle.script_reader.specs.code.Taken.{CountsArguments, Refused}
use Rattle.script_reader.proofs.CommandWords.{tests, word_fits}

module _ {lexemes names : List ℕ} {p : Progress} {i nowhere : ℕ} where
  -- The word of the command has a number.
  pub word_low : Refused lexemes names p i nowhere → i + 1 < script_words
  word_low t = word_fits t.here

  -- Where the rows of the new names stand, the place is found by them.
  module _ (t : Refused lexemes names p i nowhere) {own first arguments listed : ℕ}
      (rows : TakenAt names p t.known t.here.command own first arguments listed)
      {s : Scope} (es : s ≡ scope_within p first arguments) where
    -- they may be looked through
    rows_listed : Listing names s own listed
    rows_listed = subst⁻¹ (λ (q : Scope). Listing names q own listed) es rows.listing

    -- and give the earlier declaration
    found_so : (place : ℕ) {r : ℕ} → r ≡ earlier (all_rows names s own listed) (new_rows names s own listed) place
        → r ≡ earlier_place t.known t.here.command place
    found_so place {r} e =
        taken_place t.counted t.here.command rows place
        (subst (λ (q : Scope). r ≡ earlier (all_rows names q own listed) (new_rows names q own listed) place) es e)

  module _ {code : ℕ} (coded : code ≡ code_at lexemes (i + 1)) where
    -- The tests of the command's word.
    pub command_is : (t : Refused lexemes names p i nowhere) {m : ℕ} → code ≡ m → Chosen t.here.command m
    command_is t e = subst (λ (m : ℕ). Chosen t.here.command m) e (tests t.here coded)

    -- The command, by its word.
    abbrev pub command_of : (t : Refused lexemes names p i nowhere) {word : String} → is word (item 0 t.here.command) ≡ true
        → CommandOf word t.text lexemes p i nowhere
    command_of t by = record { here = t.here; by = by; shaped = t.shaped; known = t.known; counted = t.counted }

    module _ (e : code ≡ declare_var_code) {s : Scope} (es : s ≡ scope_within p argument_row 0) where
      -- A variable.
      pub variable_listed : Refused lexemes names p i nowhere → Listing names s (variable_row + p.variables) 0
      variable_listed t = rows_listed t (t.taken.variable (sym coded ∙ e)) es

      pub variable_place : (place : ℕ) {r : ℕ}
          → r ≡ earlier (all_rows names s (variable_row + p.variables) 0) (new_rows names s (variable_row + p.variables) 0) place
          → (t : Refused lexemes names p i nowhere) → r ≡ earlier_place t.known t.here.command place
      variable_place place er t = found_so t (t.taken.variable (sym coded ∙ e)) es place er

    module _ (e : code ≡ define_fun_code) where
      -- A `define-fun` has a header.
      abbrev pub definition_header : Refused lexemes names p i nowhere → HeaderAt lexemes i
      definition_header t = header_here (command_of t (command_is t e).defines)

      module _ {arguments : ℕ} (ea : CountsArguments lexemes i arguments) {s : Scope} (es : s ≡ scope_within p argument_row arguments) where
        -- Its rows.
        definition_rows : (t : Refused lexemes names p i nowhere)
            → TakenAt names p t.known t.here.command (defined_row + p.defined) argument_row arguments 0
        definition_rows t = rw (ea (definition_header t)) (t.taken.definition (sym coded ∙ e))

        pub definition_listed : Refused lexemes names p i nowhere → Listing names s (defined_row + p.defined) 0
        definition_listed t = rows_listed t (definition_rows t) es

        pub definition_place : (place : ℕ) {r : ℕ}
            → r ≡ earlier (all_rows names s (defined_row + p.defined) 0) (new_rows names s (defined_row + p.defined) 0) place
            → (t : Refused lexemes names p i nowhere) → r ≡ earlier_place t.known t.here.command place
        definition_place place er t = found_so t (definition_rows t) es place er

    module _ (e : code ≡ synth_fun_code) where
      -- A `synth-fun` is one.
      abbrev pub function_at : Refused lexemes names p i nowhere → SynthFunAt lexemes i
      function_at t = synth_at (command_of t (command_is t e).synthesizes)

      module _ {h : Header} (by-header : ReadsHeader lexemes i h) {s : Scope} (es : s ≡ scope_within p (own_argument_row p.functions) h.arguments) where
        -- Its rows.
        function_rows : (t : Refused lexemes names p i nowhere)
            → TakenAt names p t.known t.here.command (function_row + p.functions) (own_argument_row p.functions) h.arguments h.listed
        function_rows t =
            let counts = by-header (function_at t) in
            rw (counts.arguments_are, counts.listed_are) (t.taken.function (sym coded ∙ e))

        pub function_listed : Refused lexemes names p i nowhere → Listing names s (function_row + p.functions) h.listed
        function_listed t = rows_listed t (function_rows t) es

        pub function_place : (place : ℕ) {r : ℕ}
            → r ≡ earlier (all_rows names s (function_row + p.functions) h.listed) (new_rows names s (function_row + p.functions) h.listed) place
            → (t : Refused lexemes names p i nowhere) → r ≡ earlier_place t.known t.here.command place
        function_place place er t = found_so t (function_rows t) es place er

    -- Another command has no new names.
    pub no_place : (code ≡ declare_var_code → ⊥) → (code ≡ define_fun_code → ⊥) → (code ≡ synth_fun_code → ⊥) → (place : ℕ)
        → (t : Refused lexemes names p i nowhere) → 0 ≡ earlier_place t.known t.here.command place
    unfolding earlier new_names
    no_place nv nd nf place t =
        let c = command_is t refl in
        let v = c.declares ∙ ne_eqb code declare_var_code nv in
        let d = c.defines ∙ ne_eqb code define_fun_code nd in
        let f = c.synthesizes ∙ ne_eqb code synth_fun_code nf in
        rw (v, d, f)
