-- A command that stands at a word: where it ends, and which it is by the code of its word.
use Prim.Native.Nat.{ℕ, ◌+◌, ◌<◌}
use native.Mathlib.Omega.{arith}
use mathlib.Core.List.{List}
use mathlib.Core.Path.{◌≡◌, refl, sym, ap, ◌∙◌}
use lib.Dec.{eqb}
use Rattle.forest.specs.Limits.{script_words}
use Rattle.lexemes.specs.Lists.{after, close_of}
use Rattle.lexemes.specs.code.Table.{code_at, next_at}
use Rattle.lexemes.specs.code.Standing.{ListAt}
use Rattle.lexemes.specs.code.Codes.{assume_code, check_synth_code, constraint_code, declare_var_code, define_fun_code, set_feature_code, set_logic_code, synth_fun_code}
use Rattle.lexemes.proofs.ByCode.{code_for, front_word, front_code}
use Rattle.lexemes.proofs.Listed.{first_code_lem, held}
use Rattle.lexemes.proofs.Standing.{forward}
use Rattle.names.specs.code.Lookup.{source_of}
use Rattle.script.specs.code.Tables.{CommandAt}
use Rattle.script.proofs.CommandByCode.{Chosen}

-- Where a command ends: its brackets are words of the text.
pub record Ends (lexemes : List ℕ) (i close nowhere : ℕ) : Type 0 where
  pub opens : i < close
  pub closes : close < nowhere
  pub next : next_at lexemes i ≡ close + 1

module _ {text lexemes : List ℕ} {i nowhere : ℕ} where
  -- A command is a list.
  abbrev pub listed : CommandAt text lexemes i nowhere → ListAt lexemes i
  listed h = record {
    source = source_of text lexemes;
    same = refl;
    close = h.close;
    operands = h.command;
    more = h.more;
    end = h.end;
    stands = h.stands;
  }

  -- Which command it is.
  pub tests : (h : CommandAt text lexemes i nowhere) → {code : ℕ} → code ≡ code_at lexemes (i + 1) → Chosen h.command code
  unfolding after code_for
  tests h {code} e =
      let front : front_code h.command ≡ code = sym (first_code_lem (listed h)) ∙ sym e in
      record {
        sets = front_word "set-logic" refl 0 h.command ∙ ap (λ (n : ℕ). eqb n set_logic_code) front;
        declares = front_word "declare-var" refl 0 h.command ∙ ap (λ (n : ℕ). eqb n declare_var_code) front;
        defines = front_word "define-fun" refl 0 h.command ∙ ap (λ (n : ℕ). eqb n define_fun_code) front;
        synthesizes = front_word "synth-fun" refl 0 h.command ∙ ap (λ (n : ℕ). eqb n synth_fun_code) front;
        constrains = front_word "constraint" refl 0 h.command ∙ ap (λ (n : ℕ). eqb n constraint_code) front;
        ends = front_word "check-synth" refl 0 h.command ∙ ap (λ (n : ℕ). eqb n check_synth_code) front;
        features = front_word "set-feature" refl 0 h.command ∙ ap (λ (n : ℕ). eqb n set_feature_code) front;
        assumes = front_word "assume" refl 0 h.command ∙ ap (λ (n : ℕ). eqb n assume_code) front;
      }

  -- Each command ends so.
  pub ends_in : (h : CommandAt text lexemes i nowhere) → Ends lexemes i h.close nowhere
  ends_in h =
      let x = held (listed h) in
      let same : h.close ≡ x.close = ap close_of x.label in
      record {
        opens = omega (arith, forward x.stands);
        closes = omega (arith, h.lawful.ends x.close (omega (arith, x.closes)));
        next = omega (arith, x.next);
      }

  -- A command's word has a number.
  pub word_fits : CommandAt text lexemes i nowhere → i + 1 < script_words
  word_fits h = let e = ends_in h in omega (arith, h.few)
