-- The writer's calls one after the other write the file.
use mathlib.Core.Path.{◌≡◌, refl, sym, ap, ◌∙◌}
use Prim.Native.Nat.{ℕ, ◌-◌, ◌/◌, ◌%◌, ◌<◌, ◌≤◌}
use native.Mathlib.Omega.{arith}
use mathlib.Core.List.{List, [], ◌++◌, append-nil}
use lib.ListN.{length, replicate}
use lib.Seq.{sets}
use Rattle.forest.specs.Tables.{over}
use Rattle.forest.proofs.Rows.{over_more}
use Rattle.blocks.specs.declared.Place.{Place}
use Rattle.blocks.specs.Blocks.{file_of, filled, framed, low, payload_of}
use Rattle.blocks.specs.code.Shown.{lists_shown}
use Rattle.blocks.specs.code.Lists.{lengths_of, rules_of}
use Rattle.blocks.specs.code.Places.{Fitting, Written, filled_by, written}
use Rattle.blocks.proofs.Cutting.{filled_length}
use Rattle.blocks.proofs.Cursor.{Going, all_written, filled_append, filled-by, go_end, go_fits, go_on, go_start}
use Rattle.blocks.proofs.Stored.{regroup}

-- ---- the lengths

module _ {start : Place} (a b : ℕ) {L lent : List ℕ} (o : Fitting start (low 4 a ++ low 4 b ++ L) lent) where
  pub head_first : Fitting start (low 4 a) lent
  head_first = go_fits (go_start o) (low 4 b ++ L) refl

  module _ {area₁ : List ℕ} {place₁ : Place} (w₁ : Written start (low 4 a) lent area₁ place₁) where
    g₁ : Going start (low 4 a ++ low 4 b ++ L) lent place₁ (low 4 b ++ L) area₁
    g₁ = go_on (go_start o) refl w₁

    pub head_second : Fitting place₁ (low 4 b) area₁
    head_second = go_fits g₁ L refl

    module _ {area₂ : List ℕ} {place₂ : Place} (w₂ : Written place₁ (low 4 b) area₁ area₂ place₂) where
      g₂ : Going start (low 4 a ++ low 4 b ++ L) lent place₂ L area₂
      g₂ = go_on g₁ refl w₂

      pub head_third : Fitting place₂ L area₂
      head_third = go_fits g₂ [] (sym (append-nil L))

      pub head_written : {area₃ : List ℕ} {place₃ : Place} → Written place₂ L area₂ area₃ place₃ → Written start (low 4 a ++ low 4 b ++ L) lent area₃ place₃
      head_written w₃ = go_end (go_on g₂ (sym (append-nil L)) w₃)

-- ---- the file

-- where a file begins
abbrev pub beginning : Place
beginning = record { at = 0; filled = 0; sum = 0 }

file_written : (payload : List ℕ) → written 0 0 (filled payload) ≡ framed payload
unfolding framed
file_written payload = all_written (length (filled payload) / 510) (filled payload) (filled_length payload)

module _ (script response shown lent : List ℕ) (room : length (file_of script response (lists_shown shown)) ≤ length lent) where
  abbrev payload : List ℕ
  payload = payload_of script response (lists_shown shown)

  abbrev head : List ℕ
  head = low 4 (length script) ++ low 4 (length response) ++ lengths_of (lists_shown shown)

  abbrev rules : List ℕ
  rules = rules_of (lists_shown shown)

  abbrev filling : List ℕ
  filling = replicate ((510 - length (payload_of script response (lists_shown shown)) % 510) % 510) 0

  parts : filled payload ≡ head ++ (script ++ (response ++ (rules ++ filling)))
  unfolding filled payload_of
  parts = regroup head script response rules filling

  fits : Fitting beginning (filled payload) lent
  fits = record { filled_low = omega arith; sum_low = omega arith; room = omega (arith, ap length (file_written payload)) }

  pub write_head : Fitting beginning head lent
  write_head = go_fits (go_start fits) (script ++ (response ++ (rules ++ filling))) parts

  module _ {area₁ : List ℕ} {place₁ : Place} (w₁ : Written beginning head lent area₁ place₁) where
    h₁ : Going beginning (filled payload) lent place₁ (script ++ (response ++ (rules ++ filling))) area₁
    h₁ = go_on (go_start fits) parts w₁

    pub write_script : Fitting place₁ script area₁
    write_script = go_fits h₁ (response ++ (rules ++ filling)) refl

    module _ {area₂ : List ℕ} {place₂ : Place} (w₂ : Written place₁ script area₁ area₂ place₂) where
      h₂ : Going beginning (filled payload) lent place₂ (response ++ (rules ++ filling)) area₂
      h₂ = go_on h₁ refl w₂

      pub write_response : Fitting place₂ response area₂
      write_response = go_fits h₂ (rules ++ filling) refl

      module _ {area₃ : List ℕ} {place₃ : Place} (w₃ : Written place₂ response area₂ area₃ place₃) where
        h₃ : Going beginning (filled payload) lent place₃ (rules ++ filling) area₃
        h₃ = go_on h₂ refl w₃

        pub write_rules : Fitting place₃ rules area₃
        write_rules = go_fits h₃ filling refl

        module _ {area₄ : List ℕ} {place₄ : Place} (w₄ : Written place₃ rules area₃ area₄ place₄) where
          h₄ : Going beginning (filled payload) lent place₄ filling area₄
          h₄ = go_on h₃ refl w₄

          pub place_low : place₄.filled < 510
          place_low = h₄.filled_low

          filled_is : place₄.filled ≡ length payload % 510
          unfolding payload_of
          filled_is =
              w₄.filled_is
              ∙ ap (λ (n : ℕ). filled_by n rules) w₃.filled_is
              ∙ ap (λ (n : ℕ). filled_by (filled_by n response) rules) w₂.filled_is
              ∙ ap (λ (n : ℕ). filled_by (filled_by (filled_by n script) response) rules) w₁.filled_is
              ∙ ap (λ (n : ℕ). filled_by (filled_by n response) rules) (sym (filled_append head script 0))
              ∙ ap (λ (n : ℕ). filled_by n rules) (sym (filled_append (head ++ script) response 0))
              ∙ sym (filled_append (head ++ script ++ response) rules 0)
              ∙ filled-by (head ++ script ++ response ++ rules) 0 (omega arith)
              ∙ ap (λ (n : ℕ). n % 510) (omega arith)

          rest : filling ≡ replicate ((510 - place₄.filled) % 510) 0 ++ []
          rest =
              ap (λ (n : ℕ). replicate ((510 - n) % 510) 0) (sym filled_is) ∙ sym (append-nil (replicate ((510 - place₄.filled) % 510) 0))

          pub write_zeros : Fitting place₄ (replicate ((510 - place₄.filled) % 510) 0) area₄
          write_zeros = go_fits h₄ [] rest

          module _ {area₅ : List ℕ} {place₅ : Place} (w₅ : Written place₄ (replicate ((510 - place₄.filled) % 510) 0) area₄ area₅ place₅) where
            h₅ : Going beginning (filled payload) lent place₅ [] area₅
            h₅ = go_on h₄ rest w₅

            pub length_told : place₅.at ≡ length (file_of script response (lists_shown shown))
            length_told = (go_end h₅).at_is ∙ omega (arith, ap length (file_written payload))

            pub area_told : area₅ ≡ over (file_of script response (lists_shown shown)) lent
            area_told = (go_end h₅).area_is ∙ ap (sets lent 0) (file_written payload) ∙ over_more [] (framed payload) lent (omega arith)
