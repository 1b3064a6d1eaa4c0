-- Where words start and end: one step of each recursion, and how the words from an offset on go by the first start and the word's end.
use Prim.Native.Nat.{ℕ, suc, max, ◌+◌, ◌-◌, ◌≤◌, ◌<◌}
use native.Mathlib.Nat.{add-sub_of_le, sub_self}
use native.Mathlib.Omega.{arith}
use mathlib.Core.Path.{◌≡◌, refl, sym, ◌∙◌}
use mathlib.Core.Bool.{Bool, true, false, not, ◌&&◌, ◌||◌, cond, false≢true}
use mathlib.Core.List.{List, [], ◌∷◌}
use borrow.Author.Tests.{eq-eqb, eqb-false, eqb-true, leb-false, leb-true, ltb-false, ltb-true, ne_eqb, not-true}
use lib.Dec.{eqb, leb, ltb}
use lib.ListN.{length, get_or, take, drop, drop_of_length-le, length-drop}
use lib.Seq.{drop-drop, get_or-drop}
use Rattle.forest.specs.Lists.{among}
use Rattle.forest.proofs.Bools.{and_false_left, and_left, and_right, or_left, or_other, or_right}
use Rattle.forest.proofs.Lists.{drop_next}
use Rattle.words.specs.Spans.{bracket, comment_start, delimiter, white, comment_after, in_run, starts, starts_from, word_starts, run_end, word_end}
use Rattle.words.specs.code.Spans.{first_from, first_start}
use Rattle.words.specs.Words.{bytes_at, enquired}

-- ---- one step, by index

module _ (s : List ℕ) (at i : ℕ) (comment : Bool) (inv : first_from (drop i s) i comment ≡ first_start s at) where
  first_ends : length s ≤ i → i ≡ first_start s at
  unfolding first_from
  first_ends h = sym (rw (drop_of_length-le s)) ∙ inv

  module _ (r : Bool) (h : i < length s) (e : r ≡ starts comment false (get_or s i 0)) where
    pub first_stops : r ≡ true → i ≡ first_start s at
    unfolding first_from
    first_stops t = sym (rw (drop_next s i h, sym e ∙ t)) ∙ inv

    pub first_goes : (later : Bool) → r ≡ false → later ≡ comment_after comment (get_or s i 0) → first_from (drop (i + 1) s) (i + 1) later ≡ first_start s at
    unfolding first_from
    first_goes later t p = rw p (sym (rw (drop_next s i h, sym e ∙ t)) ∙ inv)

  -- no word starts from there on
  pub first_none : length s ≤ i → (at ≤ length s → i ≤ length s) → {r : ℕ} → r ≡ max at (length s) → r ≡ first_start s at
  unfolding first_from first_start
  first_none h within {r} e = go (leb at (length s)) refl
    where
      go : (t : Bool) → leb at (length s) ≡ t → r ≡ first_start s at
      go true t =
          let inside = leb-true at (length s) t in
          let last : r ≡ i = omega (arith, within inside) in
          last ∙ first_ends h
      go false t =
          let past : length s ≤ at = omega (arith, leb-false at (length s) t) in
          let there : r ≡ at = omega (arith, leb-false at (length s) t) in
          there ∙ sym (rw (drop_of_length-le s past))

module _ (s : List ℕ) (at i : ℕ) (inv : run_end (drop i s) i ≡ run_end (drop (at + 1) s) (at + 1)) (apart : bracket (get_or s at 0) ≡ false) where
  pub run_ends : length s ≤ i → i ≡ word_end s at
  unfolding run_end word_end
  run_ends h = rw apart (sym (rw (drop_of_length-le s)) ∙ inv)

  module _ (r : Bool) (h : i < length s) (e : r ≡ delimiter (get_or s i 0)) where
    pub run_stops : r ≡ true → i ≡ word_end s at
    unfolding run_end word_end
    run_stops t = rw apart (sym (rw (drop_next s i h, sym e ∙ t)) ∙ inv)

    pub run_goes : r ≡ false → run_end (drop (i + 1) s) (i + 1) ≡ run_end (drop (at + 1) s) (at + 1)
    unfolding run_end
    run_goes t = sym (rw (drop_next s i h, sym e ∙ t)) ∙ inv

pub bracket_ends : (s : List ℕ) (at : ℕ) (r : Bool) → r ≡ bracket (get_or s at 0) → r ≡ true → at + 1 ≡ word_end s at
unfolding word_end
bracket_ends s at r e t = rw (sym e ∙ t)

-- ---- bounds

run_bounds : (u : List ℕ) (i : ℕ) → (i ≤ run_end u i) × (run_end u i ≤ i + length u)
unfolding run_end
run_bounds [] i = omega arith
run_bounds (b ∷ u) i = go (delimiter b) (run_end u (i + 1)) (run_bounds u (i + 1))
  where
    go : (t : Bool) (x : ℕ) → (i + 1 ≤ x) × (x ≤ i + 1 + length u) → (i ≤ cond t i x) × (cond t i x ≤ i + suc (length u))
    go true x r = omega arith
    go false x r = omega arith

first_bounds : (u : List ℕ) (i : ℕ) (comment : Bool) → (i ≤ first_from u i comment) × (first_from u i comment ≤ i + length u)
unfolding first_from
first_bounds [] i comment = omega arith
first_bounds (b ∷ u) i comment = go (starts comment false b) (first_from u (i + 1) (comment_after comment b)) (first_bounds u (i + 1) (comment_after comment b))
  where
    go : (t : Bool) (x : ℕ) → (i + 1 ≤ x) × (x ≤ i + 1 + length u) → (i ≤ cond t i x) × (cond t i x ≤ i + suc (length u))
    go true x r = omega arith
    go false x r = omega arith

-- ---- the words from an offset on

-- what is no delimiter is neither a bracket nor `;`
plain : (b : ℕ) → delimiter b ≡ false → (bracket b ≡ false) × (comment_start b ≡ false)
plain b e = let l = or_left (white b || bracket b) (comment_start b) e in (or_right (white b) (bracket b) l, or_right (white b || bracket b) (comment_start b) e)

-- a bracket ends a run and begins no comment
bracket_alone : (b : ℕ) → bracket b ≡ true → (comment_start b ≡ false) × (delimiter b ≡ true)
bracket_alone b t = go (eqb b 40) refl (eqb b 41) refl t
  where
    go : (x : Bool) → eqb b 40 ≡ x → (y : Bool) → eqb b 41 ≡ y → x || y ≡ true → (comment_start b ≡ false) × (delimiter b ≡ true)
    go true ex y ey t = rw (eqb-true b 40 ex) (refl, refl)
    go false ex true ey t = rw (eqb-true b 41 ey) (refl, refl)
    go false ex false ey t = absurd (false≢true t)

-- what stands from place m on, where the first stands at place i
pub drop_past : {A : Type 0} (first : A) (more : List A) (i m : ℕ) → i + 1 ≤ m → drop (m - i) (first ∷ more) ≡ drop (m - (i + 1)) more
drop_past first more i m h = let q : m - i ≡ suc (m - (i + 1)) = omega arith in rw q

-- within a run no word starts
run_starts : (u : List ℕ) (i : ℕ) → starts_from u i false true ≡ starts_from (drop (run_end u i - i) u) (run_end u i) false false
unfolding starts_from run_end
run_starts [] i = rw (sub_self i)
run_starts (b ∷ u) i = go (delimiter b) refl (run_starts u (i + 1))
  where
    go : (t : Bool) → delimiter b ≡ t → starts_from u (i + 1) false true ≡ starts_from (drop (run_end u (i + 1) - (i + 1)) u) (run_end u (i + 1)) false false
        → starts_from (b ∷ u) i false true ≡ starts_from (drop (run_end (b ∷ u) i - i) (b ∷ u)) (run_end (b ∷ u) i) false false
    go true t r = rw (t, sub_self i, t)
    go false t r =
        let p = plain b t in
        let bounds = run_bounds u (i + 1) in
        rw (t, p.0, p.1, drop_past b u i (run_end u (i + 1)) bounds.0) r

-- before the first start no word starts
skip_starts : (u : List ℕ) (i : ℕ) (comment : Bool)
    → starts_from u i comment false ≡ starts_from (drop (first_from u i comment - i) u) (first_from u i comment) false false
unfolding starts_from first_from
skip_starts [] i comment = rw (sub_self i)
skip_starts (b ∷ u) i comment = go comment (starts comment false b) refl (skip_starts u (i + 1) (comment_after comment b))
  where
    go : (c t : Bool) → starts c false b ≡ t
        → starts_from u (i + 1) (comment_after c b) false ≡
        starts_from (drop (first_from u (i + 1) (comment_after c b) - (i + 1)) u) (first_from u (i + 1) (comment_after c b)) false false
        → starts_from (b ∷ u) i c false ≡ starts_from (drop (first_from (b ∷ u) i c - i) (b ∷ u)) (first_from (b ∷ u) i c) false false
    go true true t r = let z : ◌≡◌ {A = Bool} false true = t in absurd (false≢true z)
    go false true t r = rw (t, sub_self i, t)
    go c false t r =
        let run : in_run c b ≡ false = or_right (not c && bracket b) (in_run c b) t in
        let bounds = first_bounds u (i + 1) (comment_after c b) in
        rw (t, run, drop_past b u i (first_from u (i + 1) (comment_after c b)) bounds.0) r

-- at the first start, where there is one, a word starts
first-starts : (u : List ℕ) (i : ℕ) (comment : Bool) → first_from u i comment < i + length u → starts false false (get_or u (first_from u i comment - i) 0) ≡ true
unfolding first_from
first-starts [] i comment h = absurd (omega arith)
first-starts (b ∷ u) i comment h = go comment (starts comment false b) refl (first-starts u (i + 1) (comment_after comment b)) h
  where
    go : (c t : Bool) → starts c false b ≡ t
        → (first_from u (i + 1) (comment_after c b) < i + 1 + length u → starts false false (get_or u (first_from u (i + 1) (comment_after c b) - (i + 1)) 0) ≡ true)
        → cond t i (first_from u (i + 1) (comment_after c b)) < i + suc (length u)
        → starts false false (get_or (b ∷ u) (cond t i (first_from u (i + 1) (comment_after c b)) - i) 0) ≡ true
    go true true t r h = let z : ◌≡◌ {A = Bool} false true = t in absurd (false≢true z)
    go false true t r h = rw (sub_self i) t
    go c false t r h =
        let bounds = first_bounds u (i + 1) (comment_after c b) in
        let f = first_from u (i + 1) (comment_after c b) in
        let q : f - i ≡ suc (f - (i + 1)) = omega arith in
        rw q (r (omega arith))

-- the starts of the words from offset i on, where neither a comment nor a run goes on
abbrev pub starts_at : List ℕ → ℕ → List ℕ
starts_at s i = starts_from (drop i s) i false false

-- the next word starts at offset a, or a is past the last byte
pub record Front (s : List ℕ) (a : ℕ) : Type 0 where
  pub reached : a ≤ length s
  pub begun : a < length s → starts false false (get_or s a 0) ≡ true

drop_on : (s : List ℕ) (i f : ℕ) → i ≤ f → drop (f - i) (drop i s) ≡ drop f s
drop_on s i f h = let q : i + (f - i) ≡ f = omega arith in drop-drop (f - i) i s ∙ rw q

module _ (s : List ℕ) (i a : ℕ) (within : i ≤ length s) (e : a ≡ first_start s i) where
  pub first_reached : i ≤ a
  unfolding first_start
  first_reached = rw e (first_bounds (drop i s) i false).0

  pub first_front : Front s a
  unfolding first_start
  first_front =
      let bounds = first_bounds (drop i s) i false in
      let long = length-drop i s in
      record {
        reached = omega arith;
        begun = λ h. rw e (rw (get_or-drop i s (first_start s i - i) 0, add-sub_of_le bounds.0) at (first-starts (drop i s) i false (omega arith)));
      }

  pub first_same : starts_at s i ≡ starts_at s a
  unfolding first_start
  first_same = rw (skip_starts (drop i s) i false, drop_on s i (first_from (drop i s) i false) (first_bounds (drop i s) i false).0, e)

module _ (s : List ℕ) (a e : ℕ) (ee : e ≡ word_end s a) where
  pub end_past : a < e
  unfolding word_end
  end_past = rw ee (go (bracket (get_or s a 0)))
    where
      go : (t : Bool) → a < cond t (a + 1) (run_end (drop (a + 1) s) (a + 1))
      go true = omega arith
      go false = omega (arith, (run_bounds (drop (a + 1) s) (a + 1)).0)

  module _ (h : a < length s) where
    pub end_within : e ≤ length s
    unfolding word_end
    end_within = rw ee (go (bracket (get_or s a 0)))
      where
        go : (t : Bool) → cond t (a + 1) (run_end (drop (a + 1) s) (a + 1)) ≤ length s
        go true = omega arith
        go false = omega (arith, (run_bounds (drop (a + 1) s) (a + 1)).1, length-drop (a + 1) s)

    -- past the word that starts at a there is less
    pub next_less : (next : ℕ) → next ≡ first_start s e → length s - next < length s - a
    next_less next en = omega (arith, end_past, first_reached s e next end_within en)

    -- the word that starts at a, and those after it
    pub word_first : Front s a → starts_at s a ≡ a ∷ starts_at s e
    unfolding starts_from word_end
    word_first front = rw (drop_next s a h, front.begun h, ee) (go (bracket (get_or s a 0)) refl)
      where
        go : (t : Bool) → bracket (get_or s a 0) ≡ t → a ∷ starts_from (drop (a + 1) s) (a + 1) (comment_after false (get_or s a 0)) (in_run false (get_or s a 0))
            ≡ a ∷ starts_at s (cond t (a + 1) (run_end (drop (a + 1) s) (a + 1)))
        go true t = let p = bracket_alone (get_or s a 0) t in rw (p.1, p.0)
        go false t =
            let d : delimiter (get_or s a 0) ≡ false = not-true (delimiter (get_or s a 0)) (or_other (bracket (get_or s a 0)) _ t (front.begun h)) in
            let on = drop_on s (a + 1) (run_end (drop (a + 1) s) (a + 1)) (run_bounds (drop (a + 1) s) (a + 1)).0 in
            rw (d, (plain (get_or s a 0) d).1, run_starts (drop (a + 1) s) (a + 1), on)

-- ---- the enquiry

-- no word starts before offset i among those from i on
none_before : (u : List ℕ) (i : ℕ) (comment run : Bool) (at : ℕ) → at < i → among at (starts_from u i comment run) ≡ false
unfolding starts_from
none_before [] i comment run at h = refl
none_before (b ∷ u) i comment run at h = go (starts comment run b) (none_before u (i + 1) (comment_after comment b) (in_run comment b) at (omega arith))
  where
    later : List ℕ
    later = starts_from u (i + 1) (comment_after comment b) (in_run comment b)

    go : (t : Bool) → among at later ≡ false → among at (cond t (i ∷ later) later) ≡ false
    go true r = rw (ne_eqb at i (λ e. omega arith)) r
    go false r = r

-- the words from the front on are those among which the offset is to be found
pub record Seeking (s : List ℕ) (at start : ℕ) : Type 0 where
  pub front : Front s start
  pub same : among at (starts_at s start) ≡ among at (word_starts s)

pub seek_begins : (s : List ℕ) (at start : ℕ) → start ≡ first_start s 0 → Seeking s at start
unfolding word_starts
seek_begins s at start e = record { front = first_front s 0 start (omega arith) e; same = rw (first_same s 0 start (omega arith) e) }

module _ (s : List ℕ) (at start : ℕ) (seeking : Seeking s at start) where
  module _ (t : ltb start at && ltb start (length s) ≡ true) where
    pub seek_inside : start < length s
    seek_inside = ltb-true _ _ (and_right (ltb start at) _ t)

    seek_low : start < at
    seek_low = ltb-true _ _ (and_left (ltb start at) _ t)

    module _ (end next : ℕ) (ee : end ≡ word_end s start) (en : next ≡ first_start s end) where
      pub seek_goes : Seeking s at next
      seek_goes =
          let inside = end_within s start end ee seek_inside in
          let first : among at (starts_at s start) ≡ among at (starts_at s end) =
          rw (word_first s start end ee seek_inside seeking.front, ne_eqb at start (λ e. omega (arith, seek_low))) in
          record { front = first_front s end next inside en; same = rw (← first_same s end next inside en) (sym first ∙ seeking.same) }

      pub seek_less : length s - next < length s - start
      seek_less = next_less s start end ee seek_inside next en

  module _ (t : eqb start at && ltb start (length s) ≡ true) where
    pub found_inside : start < length s
    found_inside = ltb-true _ _ (and_right (eqb start at) _ t)

    pub found_is : (end : ℕ) → end ≡ word_end s start → take (end - start) (drop start s) ≡ enquired s at
    unfolding enquired bytes_at
    found_is end ee =
        let here : start ≡ at = eqb-true _ _ (and_left (eqb start at) _ t) in
        let among-here : among at (starts_at s start) ≡ true = rw (word_first s start end ee found_inside seeking.front, eq-eqb at start (sym here)) in
        rw (sym seeking.same ∙ among-here, ← here, ee)

  pub found_none : ltb start at && ltb start (length s) ≡ false → eqb start at && ltb start (length s) ≡ false → [] ≡ enquired s at
  unfolding enquired starts_from
  found_none t u = rw (sym seeking.same ∙ go (ltb start (length s)) refl)
    where
      go : (x : Bool) → ltb start (length s) ≡ x → among at (starts_at s start) ≡ false
      go false e = rw (drop_of_length-le s (ltb-false _ _ e))
      go true e =
          let low : at ≤ start = ltb-false start at (and_false_left (ltb start at) (ltb start (length s)) e t) in
          let other : start ≡ at → ⊥ = eqb-false start at (and_false_left (eqb start at) (ltb start (length s)) e u) in
          none_before (drop start s) start false false at (omega arith)
