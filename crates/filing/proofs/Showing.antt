-- The area that shows the lists of two texts, as a file is written from it.
use Prim.Native.Nat.{ℕ, suc, ◌*◌, ◌+◌, ◌-◌, ◌^◌, ◌≤◌, ◌<◌}
use native.Mathlib.Omega.{arith}
use mathlib.Core.List.{List, [], ◌∷◌, ◌++◌}
use mathlib.Core.Path.{◌≡◌, refl, ap, ◌∙◌}
use lib.ListN.{get_or, length, length-append, length-replicate, replicate}
use Rattle.forest.specs.Limits.{area_size, list_size, unused}
use Rattle.forest.specs.Tables.{rows}
use Rattle.derivation.specs.Answer.{list_of}
use Rattle.script.specs.Script.{Known}
use Rattle.script.specs.Response.{Body}
use Rattle.outcome.specs.Derived.{lists_of, shown_area}
use Rattle.blocks.specs.Blocks.{file_of}
use Rattle.blocks.specs.code.Lists.{file_length, rules_in}
use Rattle.blocks.specs.code.Shown.{area_of, list_with, lists_shown}
use Rattle.blocks.proofs.Laid.{file-length, lists-shown}
use Rattle.evidence.specs.Evidence.{Fileable, eight_lists}
use Rattle.outcome.proofs.Texts.{short_texts}
use Rattle.evidence.proofs.Storing.{Bounded, eight_followed, eight_long, lists_bounded, rules_most, shown_few, shown_followed}

-- Lists one behind the other, each with its unused entries.
lists_are : (lists : List (List ℕ)) → lists_of lists ≡ rows list_with lists
unfolding lists_of rows
lists_are [] = refl
lists_are (ds ∷ more) = ap (λ (l : List ℕ). list_of ds ++ l) (lists_are more)

-- The area that shows lists is the one that they are laid out in.
area_is : (lists : List (List ℕ)) → shown_area lists ≡ area_of lists
unfolding shown_area area_of
area_is lists = ap (λ (l : List ℕ). l ++ replicate (area_size - length l) unused) (lists_are lists)

-- Lists that are not too long take so much room.
lists_long : (lists : List (List ℕ)) → ((i : ℕ) → length (get_or lists i []) ≤ list_size) → length (rows list_with lists) ≡ list_size * length lists
unfolding rows
lists_long [] h = refl
lists_long (ds ∷ more) h =
    omega (
      arith,
      h 0,
      length-append (list_with ds) (rows list_with more),
      length-append ds (replicate (list_size - length ds) unused),
      length-replicate {A = ℕ} (list_size - length ds) unused,
      lists_long more (λ i. h (suc i)),
    )

module _ {script response : List ℕ} {k : Known} {bs : List Body} {lists : List (List ℕ)} (given : Fileable script response k bs lists) where
  -- Each list that is shown can be stored.
  each : (i : ℕ) → Bounded (get_or lists i [])
  each = lists_bounded given.accepted.passing (shown_followed given.accepted.shown)

  -- The area has its size.
  pub area_long : length (shown_area lists) ≡ area_size
  unfolding area_of
  area_long =
      let front = rows list_with lists in
      ap length (area_is lists)
      ∙ omega (
        arith,
        shown_few given,
        lists_long lists (λ i. (each i).short),
        length-append front (replicate (area_size - length front) unused),
        length-replicate {A = ℕ} (area_size - length front) unused,
      )

  -- It shows the eight lists of the file.
  pub shown_again : lists_shown (shown_area lists) ≡ eight_lists lists
  unfolding eight_lists
  shown_again = ap lists_shown (area_is lists) ∙ lists-shown lists (shown_few given) (λ i. (each i).short) (λ i k. omega (arith, (each i).rules k))

  -- Their rules are few,
  pub length_small : length script + length response + 2 * rules_in (eight_lists lists) < 2 ^ 62
  length_small =
      let both = short_texts script response given.short in
      let all = lists_bounded given.accepted.passing (eight_followed given) in
      omega (arith, both.0, both.1, eight_long given, rules_most (eight_lists lists) all)

  -- and so long is the file.
  pub length_is : length (file_of script response (eight_lists lists)) ≡ file_length (length script) (length response) (rules_in (eight_lists lists))
  length_is = file-length script response (eight_lists lists) (eight_long given)
