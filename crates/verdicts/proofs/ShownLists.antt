-- The area that shows lists, and one list more in it; and what lists weigh.
use Prim.Native.Nat.{ℕ, ◌+◌, ◌-◌, ◌*◌, ◌≤◌, ◌<◌}
use native.Mathlib.Omega.{arith}
use mathlib.Core.Path.{◌≡◌, refl, sym, ap, subst, ◌∙◌}
use mathlib.Core.List.{List, [], ◌∷◌, ◌++◌, append_assoc, append-nil}
use lib.ListN.{drop, set, length, length-append, length-replicate, replicate, replicate-append-replicate}
use lib.Seq.{drop-append-add, drop_at, sets, sets-eq, take_at}
use Rattle.derivation.specs.Answer.{list_of}
use Rattle.forest.specs.Limits.{area_size, list_size, most_functions, unused}
use Rattle.derivation.specs.Least.{total_of}
use Rattle.names.specs.Scopes.{Function}
use Rattle.outcome.specs.Derived.{blank_area, lists_of, no_totals, shown_area, totals, weighed}

-- A list has its size.
pub list_long : (ds : List ℕ) → length ds ≤ list_size → length (list_of ds) ≡ list_size
list_long ds few = simp (length-append, length-replicate) (omega arith)

-- Numbers written behind others, in front of as many of one number as there is room for.
written_behind : (front list : List ℕ) (n v : ℕ) → length front + length list ≤ n
    → sets (front ++ replicate (n - length front) v) (length front) list ≡ (front ++ list) ++ replicate (n - length (front ++ list)) v
written_behind front list n v room =
    let blank = replicate (n - length front) v in
    let long : length (front ++ blank) ≡ n = simp (length-append, length-replicate) (omega arith) in
    let left : n - length (front ++ list) ≡ n - length front - length list = simp length-append (omega arith) in
    let both : n - length front ≡ length list + (n - length front - length list) = omega arith in
    let past : drop (length list) blank ≡ replicate (n - length front - length list) v =
    ap (λ (m : ℕ). drop (length list) (replicate m v)) both
    ∙ ap (drop (length list)) (sym (replicate-append-replicate (length list) (n - length front - length list) v))
    ∙ drop_at (replicate (length list) v) (replicate (n - length front - length list) v) (length list) (length-replicate (length list) v) in
    sets-eq list (front ++ blank) (length front) (omega arith)
    ∙ rw (take_at front blank (length front) refl, drop-append-add front blank (length list), past, left, append_assoc)

-- One list more.
lists_last : (lists : List (List ℕ)) (ds : List ℕ) → lists_of (lists ++ ds ∷ []) ≡ lists_of lists ++ list_of ds
unfolding lists_of
lists_last [] ds = append-nil (list_of ds)
lists_last (es ∷ more) ds = ap (λ (l : List ℕ). list_of es ++ l) (lists_last more ds) ∙ sym (append_assoc (list_of es) (lists_of more) (list_of ds))

module _ (lists : List (List ℕ)) (ds : List ℕ) (j : ℕ) (long : length (lists_of lists) ≡ list_size * j) (few : length ds ≤ list_size) where
  -- The lists take so much room.
  pub lists_more : length (lists_of (lists ++ ds ∷ [])) ≡ list_size * (j + 1)
  lists_more = omega (arith, ap length (lists_last lists ds), length-append (lists_of lists) (list_of ds), list_long ds few)

  -- The list of function j, written into the area that shows those before it.
  pub area_more : j < most_functions → sets (shown_area lists) (list_size * j) (list_of ds) ≡ shown_area (lists ++ ds ∷ [])
  unfolding shown_area
  area_more low =
      rw (lists_last lists ds, ← long)
      (written_behind (lists_of lists) (list_of ds) area_size unused (omega (arith, list_long ds few)))

-- The blank area shows no list.
pub area_blank : blank_area ≡ shown_area []
unfolding blank_area lists_of shown_area
area_blank = refl

-- One list more weighs what its rules weigh, of the function at its place.
weighed_more : (fs : List Function) (lists : List (List ℕ)) (ds : List ℕ) {f : Function} {rest : List Function} → drop (length lists) fs ≡ f ∷ rest
    → weighed fs (lists ++ ds ∷ []) ≡ weighed fs lists ++ total_of f.grammar.rules ds ∷ []
unfolding weighed
weighed_more fs [] ds {f} is =
    subst (λ (l : List Function). weighed l (ds ∷ []) ≡ weighed l [] ++ total_of f.grammar.rules ds ∷ []) (sym is) refl
weighed_more [] (es ∷ more) ds is = let none : ◌≡◌ {A = ℕ} 0 1 = cc in absurd (omega arith)
weighed_more (g ∷ gs) (es ∷ more) ds is = ap (λ (l : List ℕ). total_of g.grammar.rules es ∷ l) (weighed_more gs more ds is)

module _ (fs : List Function) (lists : List (List ℕ)) (ds : List ℕ) {j : ℕ} (listed : length lists ≡ j) (long : length (weighed fs lists) ≡ j)
    {f : Function} {rest : List Function} (is : drop j fs ≡ f ∷ rest) where
  -- So many are weighed.
  weighed_here : weighed fs (lists ++ ds ∷ []) ≡ weighed fs lists ++ total_of f.grammar.rules ds ∷ []
  weighed_here = weighed_more fs lists ds (ap (λ (n : ℕ). drop n fs) listed ∙ is)

  pub weighed_long : length (weighed fs (lists ++ ds ∷ [])) ≡ j + 1
  weighed_long = omega (arith, ap length weighed_here, length-append (weighed fs lists) (total_of f.grammar.rules ds ∷ []))

  -- The total of function j, put behind those before it.
  pub totals_more : j < most_functions → set (totals fs lists) j (total_of f.grammar.rules ds) ≡ totals fs (lists ++ ds ∷ [])
  unfolding totals
  totals_more low = rw (weighed_here, ← long) (written_behind (weighed fs lists) (total_of f.grammar.rules ds ∷ []) most_functions 0 (omega arith))

-- The totals where no list is shown.
pub totals_none : (fs : List Function) → no_totals ≡ totals fs []
unfolding no_totals totals weighed
totals_none fs = refl
