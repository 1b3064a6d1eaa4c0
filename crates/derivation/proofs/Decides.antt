-- A computable test of derivation, structural in the term, and that it says whether a derivation exists.
-- One round adds what a rule adds; as many rounds as there are non-terminals reach everything, for any number of them.
use mathlib.Core.Path.{◌≡◌, refl, sym, ap, ◌∙◌}
use mathlib.Core.Logic.{◌⊎◌, inl, inr, ⊎_elim}
use Prim.Native.Nat.{ℕ, zero, suc, ◌<◌, ◌≤◌}
use native.Mathlib.Omega.{arith}
use native.Mathlib.Decide.{ℕ_discrete}
use mathlib.Core.Bool.{Bool, true, false, ◌&&◌, ◌||◌, true≢false}
use mathlib.Core.List.{List, [], ◌++◌}
use lib.Dec.{eqb, leb, ltb}
use borrow.Author.Tests.{eqb-true, eq-eqb, le-leb, leb-true, lt-ltb, ltb-true}
use lib.ListN.{get_or, length}
use Rattle.operators.specs.Sorts.{Fit, max_width, values_of}
use Rattle.forest.specs.Forest.{Forest, none, tree}
use Rattle.forest.proofs.Bools.{apart}
use Rattle.terms.specs.Labels.{Label, Terms, defined, function, literal, name, operator}
use Rattle.derivation.specs.Derivation.{AnyLeaf, Argument, Item, head_of, form_of, Derives, Grammar}
use Rattle.derivation.specs.Derivation.Item.{any_argument, any_literal, non_terminal, the}
use Rattle.derivation.specs.Derivation.AnyLeaf.{constant, variable}
use Rattle.derivation.specs.Derivation.Derives.{done, use-rule, leaf, same}
use Rattle.derivation.specs.code.Forms.{DerivesAt}
use Rattle.derivation.proofs.PassedTests.{and_both, and-true, or_first, or_second, or-true}
use Rattle.derivation.proofs.Same.{same?, same_complete, same_sound}
use Rattle.derivation.proofs.Splits.{one_then}
use Rattle.derivation.proofs.Meta.{derivations}
use Rattle.derivation.proofs.Count.{cnt, cnt_grow, cnt_full}

someb : ℕ → (ℕ → Bool) → Bool
someb zero p = false
someb (suc k) p = p k || someb k p

some_intro : (n : ℕ) (p : ℕ → Bool) (r : ℕ) → r < n → p r ≡ true → someb n p ≡ true
unfolding someb
some_intro zero p r h e = absurd (omega arith)
some_intro (suc n) p r h e = go (ℕ_discrete r n) (λ l. some_intro n p r l e)
  where
    go : Dec (r ≡ n) → (r < n → someb n p ≡ true) → p n || someb n p ≡ true
    go (yes q) rec = or_first (p n) (someb n p) (ap p (sym q) ∙ e)
    go (no q) rec = or_second (p n) (someb n p) (rec (omega arith))

some_elim : (n : ℕ) (p : ℕ → Bool) → someb n p ≡ true → (r : ℕ) × (r < n) × (p r ≡ true)
unfolding someb
some_elim zero p e = apart e
some_elim (suc n) p e = ⊎_elim (λ q. (n, omega arith, q)) (λ q. let s = some_elim n p q in (s.0, omega (arith, s.1), s.2)) (or-true (p n) (someb n p) e)

-- below k, S' has no more than S
abbrev pub NoMore : (S S' : ℕ → Bool) → ℕ → Type 0
NoMore S S' k = (i : ℕ) → i < k → S' i ≡ true → S i ≡ true

-- below k, S' has one that S has not
abbrev pub New : (S S' : ℕ → Bool) → ℕ → Type 0
New S S' k = (i : ℕ) × (i < k) × (S' i ≡ true) × (S i ≡ false)

pub find_new : (S S' : ℕ → Bool) (k : ℕ) → NoMore S S' k ⊎ New S S' k
find_new S S' zero = inl (λ i l. absurd (omega arith))
find_new S S' (suc k) = go (find_new S S' k) (S' k) (S k) refl refl
  where
    ext : NoMore S S' k → (S' k ≡ true → S k ≡ true) → NoMore S S' (suc k)
    ext f h i l = pick (ℕ_discrete i k)
      where
        pick : Dec (i ≡ k) → S' i ≡ true → S i ≡ true
        pick (yes e) t = ap S e ∙ h (ap S' (sym e) ∙ t)
        pick (no e) t = f i (omega arith) t

    go : NoMore S S' k ⊎ New S S' k → (a b : Bool) → S' k ≡ a → S k ≡ b → NoMore S S' (suc k) ⊎ New S S' (suc k)
    go (inr w) a b ea eb = inr (w.0, omega (arith, w.1), w.2, w.3)
    go (inl f) a true ea eb = inl (ext f (λ t. eb))
    go (inl f) true false ea eb = inr (k, omega arith, ea, eb)
    go (inl f) false false ea eb = inl (ext f (λ t. absurd (true≢false (sym t ∙ ea))))

none? : {L : Type 0} → Forest L → Bool
none? none = true
none? (tree l ts us) = false

none_is : {L : Type 0} (F : Forest L) → none? F ≡ true → F ≡ none
unfolding none?
none_is none e = refl
none_is (tree l ts us) e = apart e

-- whether a number is a value of a sort
fit? : (s v : ℕ) → Bool
fit? s v = leb s max_width && ltb v (values_of s)

fit_sound : (s v : ℕ) → fit? s v ≡ true → Fit s v
unfolding fit?
fit_sound s v e = let p = and-true _ _ e in record { sort = leb-true s max_width p.0; value = ltb-true v (values_of s) p.1 }

fit_complete : (s v : ℕ) → Fit s v → fit? s v ≡ true
unfolding fit?
fit_complete s v f = and_both (le-leb s max_width f.sort) (lt-ltb v (values_of s) f.value)

-- whether a function has an argument of a sort
argument? : (arguments : List ℕ) (s k : ℕ) → Bool
argument? arguments s k = ltb k (length arguments) && eqb (get_or arguments k 0) s

argument_sound : (arguments : List ℕ) (s k : ℕ) → argument? arguments s k ≡ true → Argument arguments s k
unfolding argument?
argument_sound arguments s k e =
    let p = and-true _ _ e in
    record { declared = ltb-true k (length arguments) p.0; sort = eqb-true (get_or arguments k 0) s p.1 }

argument_complete : (arguments : List ℕ) (s k : ℕ) → Argument arguments s k → argument? arguments s k ≡ true
unfolding argument?
argument_complete arguments s k f = and_both (lt-ltb k (length arguments) f.declared) (eq-eqb (get_or arguments k 0) s f.sort)

-- whether a label is any literal or any argument of a sort
literal? : ℕ → Label → Bool
literal? s (literal t v) = eqb s t && fit? t v
literal? s (name t k) = false
literal? s (operator o i j) = false
literal? s (defined k) = false
literal? s (function k) = false

name? : (arguments : List ℕ) → ℕ → Label → Bool
name? arguments s (literal t v) = false
name? arguments s (name t k) = eqb s t && argument? arguments t k
name? arguments s (operator o i j) = false
name? arguments s (defined k) = false
name? arguments s (function k) = false

literal_sound : (arguments : List ℕ) (s : ℕ) (l : Label) → literal? s l ≡ true → AnyLeaf arguments (any_literal s) l
unfolding literal?
literal_sound arguments s (literal t v) e = let p = and-true _ _ e in rw (eqb-true s t p.0) (constant (fit_sound t v p.1))
literal_sound arguments s (name t k) e = apart e
literal_sound arguments s (operator o i j) e = apart e
literal_sound arguments s (defined k) e = apart e
literal_sound arguments s (function k) e = apart e

name_sound : (arguments : List ℕ) (s : ℕ) (l : Label) → name? arguments s l ≡ true → AnyLeaf arguments (any_argument s) l
unfolding name?
name_sound arguments s (literal t v) e = apart e
name_sound arguments s (name t k) e = let p = and-true _ _ e in rw (eqb-true s t p.0) (variable (argument_sound arguments t k p.1))
name_sound arguments s (operator o i j) e = apart e
name_sound arguments s (defined k) e = apart e
name_sound arguments s (function k) e = apart e

literal_complete : {s v : ℕ} → Fit s v → literal? s (literal s v) ≡ true
unfolding literal?
literal_complete {s} {v} f = and_both (eq-eqb s s refl) (fit_complete s v f)

name_complete : {arguments : List ℕ} {s k : ℕ} → Argument arguments s k → name? arguments s (name s k) ≡ true
unfolding name?
name_complete {arguments} {s} {k} f = and_both (eq-eqb s s refl) (argument_complete arguments s k f)

-- a term with the set of each of its trees

data Mark : Type 0 where
  mark : (l : Label) → (ℕ → Bool) → Mark

module _ (N : ℕ) (G : Grammar) (low : (r : ℕ) → r < length G.rules → head_of G.rules r < N) where
  D : Forest Item → Terms → List ℕ → Type 0
  D = Derives G

  at? : Item → Forest Item → Mark → Forest Mark → Bool → Bool
  at? (the k) ps (mark l S) ts b = same? k l && b
  at? (non_terminal A) ps (mark l S) ts b = none? ps && S A
  at? (any_literal s) ps (mark l S) ts b = none? ps && (literal? s l && none? ts)
  at? (any_argument s) ps (mark l S) ts b = none? ps && (name? G.arguments s l && none? ts)

  match? : Forest Item → Forest Mark → Bool
  match? none none = true
  match? none (tree m ts us) = false
  match? (tree l ps qs) none = false
  match? (tree l ps qs) (tree m ts us) = at? l ps m ts (match? ps ts) && match? qs us

  adds : Label → Forest Mark → (ℕ → Bool) → ℕ → ℕ → Bool
  adds s ts S A r = eqb (head_of G.rules r) A && match? (form_of G.rules r) (tree (mark s S) ts none)

  step : Label → Forest Mark → (ℕ → Bool) → ℕ → Bool
  step s ts S A = S A || someb (length G.rules) (adds s ts S A)

  rounds : Label → Forest Mark → ℕ → ℕ → Bool
  rounds s ts zero A = false
  rounds s ts (suc k) A = step s ts (rounds s ts k) A

  marked : Terms → Forest Mark
  marked none = none
  marked (tree s ts us) = tree (mark s (rounds s (marked ts) N)) (marked ts) (marked us)

  -- A derives the first tree of F
  pub derives? : ℕ → Terms → Bool
  derives? A none = false
  derives? A (tree s ts us) = rounds s (marked ts) N A

  -- soundness

  data Sound : Terms → Forest Mark → Type 0 where
    s_none : Sound none none
    s_tree : {l : Label} {S : ℕ → Bool} {ts us : Terms} {xs ys : Forest Mark}
        → ((A : ℕ) → S A ≡ true → (ds : List ℕ) × D (tree (non_terminal A) none none) (tree l ts none) ds)
        → Sound ts xs → Sound us ys → Sound (tree l ts us) (tree (mark l S) xs ys)

  sound_none : {F : Terms} {M : Forest Mark} → Sound F M → M ≡ none → F ≡ none
  sound_none s_none e = refl
  sound_none (s_tree h a b) e = let z : ◌≡◌ {A = ℕ} 0 1 = cc in absurd (omega arith)

  leaf_sound : (i : Item) (ps qs : Forest Item) (l : Label) (ts us : Terms) {es : List ℕ} → AnyLeaf G.arguments i l → ps ≡ none → ts ≡ none
      → Derives G qs us es
      → Derives G (tree i ps qs) (tree l ts us) es
  leaf_sound i ps qs l ts us a eP eT d = rw (eP, eT) (leaf a d)

  hole_sound : (A : ℕ) (ps qs : Forest Item) (l : Label) (ts us : Terms) {ds es : List ℕ} → ps ≡ none
      → Derives G (tree (non_terminal A) none none) (tree l ts none) ds → Derives G qs us es → Derives G (tree (non_terminal A) ps qs) (tree l ts us) (ds ++ es)
  hole_sound A ps qs l ts us {ds} {es} eP d d2 = rw eP (one_then (derivations G) (non_terminal A) none qs l ts us ds es d d2)

  match_sound : (P : Forest Item) {F : Terms} {M : Forest Mark} → Sound F M → match? P M ≡ true → (ds : List ℕ) × D P F ds
  unfolding match? at? D
  match_sound none s_none e = ([], done)
  match_sound none (s_tree h a b) e = apart e
  match_sound (tree i ps qs) s_none e = apart e
  match_sound (tree (the k) ps qs) (s_tree {l = l} {xs = xs} {ys = ys} h a b) e =
      let p = and-true (same? k l && match? ps xs) (match? qs ys) e in
      let q = and-true (same? k l) (match? ps xs) p.0 in
      let x = match_sound ps a q.1 in
      let y = match_sound qs b p.1 in
      (x.0 ++ y.0, same (same_sound k l q.0) x.1 y.1)
  match_sound (tree (non_terminal A) ps qs) (s_tree {l = l} {S = S} {ts = ts} {us = us} {ys = ys} h a b) e =
      let p = and-true (none? ps && S A) (match? qs ys) e in
      let q = and-true (none? ps) (S A) p.0 in
      let x = h A q.1 in
      let y = match_sound qs b p.1 in
      (x.0 ++ y.0, hole_sound A ps qs l ts us (none_is ps q.0) x.1 y.1)
  match_sound (tree (any_literal s) ps qs) (s_tree {l = l} {ts = ts} {us = us} {xs = xs} {ys = ys} h a b) e =
      let p = and-true (none? ps && (literal? s l && none? xs)) (match? qs ys) e in
      let q = and-true (none? ps) (literal? s l && none? xs) p.0 in
      let r = and-true (literal? s l) (none? xs) q.1 in
      let y = match_sound qs b p.1 in
      (y.0, leaf_sound (any_literal s) ps qs l ts us (literal_sound G.arguments s l r.0) (none_is ps q.0) (sound_none a (none_is xs r.1)) y.1)
  match_sound (tree (any_argument s) ps qs) (s_tree {l = l} {ts = ts} {us = us} {xs = xs} {ys = ys} h a b) e =
      let n = name? G.arguments s l in
      let p = and-true (none? ps && (n && none? xs)) (match? qs ys) e in
      let q = and-true (none? ps) (n && none? xs) p.0 in
      let r = and-true n (none? xs) q.1 in
      let y = match_sound qs b p.1 in
      (y.0, leaf_sound (any_argument s) ps qs l ts us (name_sound G.arguments s l r.0) (none_is ps q.0) (sound_none a (none_is xs r.1)) y.1)

  rounds_sound : (s : Label) {ts : Terms} {xs : Forest Mark} → Sound ts xs → (k A : ℕ) → rounds s xs k A ≡ true
      → (ds : List ℕ) × D (tree (non_terminal A) none none) (tree s ts none) ds
  unfolding rounds step adds D
  rounds_sound s a zero A e = apart e
  rounds_sound s {ts} {xs} a (suc k) A e =
      ⊎_elim (λ q. rounds_sound s a k A q)
      (λ q.
      let w = some_elim (length G.rules) (adds s xs (rounds s xs k) A) q in
      let p = and-true (eqb (head_of G.rules w.0) A) (match? (form_of G.rules w.0) (tree (mark s (rounds s xs k)) xs none)) w.2 in
      let d = match_sound (form_of G.rules w.0) (s_tree (λ B t. rounds_sound s a k B t) a s_none) p.1 in
      (_, use-rule w.0 w.1 (eqb-true (head_of G.rules w.0) A p.0) d.1 done))
      (or-true (rounds s xs k A) (someb (length G.rules) (adds s xs (rounds s xs k) A)) e)

  marked_sound : (F : Terms) → Sound F (marked F)
  unfolding marked
  marked_sound none = s_none
  marked_sound (tree s ts us) = s_tree (λ A e. rounds_sound s (marked_sound ts) N A e) (marked_sound ts) (marked_sound us)

  -- completeness

  data Complete : Terms → Forest Mark → Type 0 where
    c_none : Complete none none
    c_tree : {l : Label} {S : ℕ → Bool} {ts us : Terms} {xs ys : Forest Mark}
        → ((A : ℕ) (ds : List ℕ) → D (tree (non_terminal A) none none) (tree l ts none) ds → S A ≡ true)
        → Complete ts xs → Complete us ys → Complete (tree l ts us) (tree (mark l S) xs ys)

  match_complete : {P : Forest Item} {F : Terms} {ds : List ℕ} {M : Forest Mark} → Derives G P F ds → Complete F M → match? P M ≡ true
  unfolding match? at? D none?
  match_complete done c_none = refl
  match_complete (use-rule {A = A} r h e d d2) (c_tree f a b) = and_both (f A _ (use-rule r h e d done)) (match_complete d2 b)
  match_complete (leaf (constant h) d) (c_tree f c_none b) = and_both (and_both (literal_complete h) refl) (match_complete d b)
  match_complete (leaf (variable h) d) (c_tree f c_none b) = and_both (and_both (name_complete h) refl) (match_complete d b)
  match_complete (same {l = l} {m = m} e d d2) (c_tree f a b) = and_both (and_both (same_complete l m e) (match_complete d a)) (match_complete d2 b)

  Closed : Label → Forest Mark → (ℕ → Bool) → Type 0
  Closed s xs S = (A : ℕ) → step s xs S A ≡ true → S A ≡ true

  head_complete : {P : Forest Item} {s : Label} {ts : Terms} {ds : List ℕ} {xs : Forest Mark} (S : ℕ → Bool) → Closed s xs S → Complete ts xs
      → Derives G P (tree s ts none) ds → match? P (tree (mark s S) xs none) ≡ true
  unfolding match? at? Closed step adds none?
  head_complete {s = s} {xs = xs} S cl a (use-rule {A = A} r h e d done) =
      and_both
      (cl A
      (or_second (S A) (someb (length G.rules) (adds s xs S A))
      (some_intro (length G.rules) (adds s xs S A) r h (and_both (eq-eqb (head_of G.rules r) A e) (head_complete S cl a d)))))
      refl
  head_complete S cl c_none (leaf (constant h) done) = and_both (and_both (literal_complete h) refl) refl
  head_complete S cl c_none (leaf (variable h) done) = and_both (and_both (name_complete h) refl) refl
  head_complete S cl a (same {l = l} {m = m} e d done) = and_both (and_both (same_complete l m e) (match_complete d a)) refl

  -- as many rounds as there are non-terminals

  match_mono : (P : Forest Item) (s : Label) (xs : Forest Mark) (S S' : ℕ → Bool) → ((A : ℕ) → S A ≡ true → S' A ≡ true)
      → match? P (tree (mark s S) xs none) ≡ true → match? P (tree (mark s S') xs none) ≡ true
  unfolding match? at?
  match_mono none s xs S S' f e = e
  match_mono (tree (the t) ps qs) s xs S S' f e = e
  match_mono (tree (any_literal c) ps qs) s xs S S' f e = e
  match_mono (tree (any_argument c) ps qs) s xs S S' f e = e
  match_mono (tree (non_terminal A) ps qs) s xs S S' f e =
      let p = and-true (none? ps && S A) (match? qs none) e in
      let q = and-true (none? ps) (S A) p.0 in
      and_both (and_both q.0 (f A q.1)) p.1

  step_mono : (s : Label) (xs : Forest Mark) (S S' : ℕ → Bool) → ((A : ℕ) → S A ≡ true → S' A ≡ true) → (A : ℕ) → step s xs S A ≡ true → step s xs S' A ≡ true
  unfolding step adds
  step_mono s xs S S' f A e =
      ⊎_elim (λ q. or_first (S' A) (someb (length G.rules) (adds s xs S' A)) (f A q))
      (λ q.
      let w = some_elim (length G.rules) (adds s xs S A) q in
      let p = and-true (eqb (head_of G.rules w.0) A) (match? (form_of G.rules w.0) (tree (mark s S) xs none)) w.2 in
      or_second (S' A) (someb (length G.rules) (adds s xs S' A))
      (some_intro (length G.rules) (adds s xs S' A) w.0 w.1 (and_both p.0 (match_mono (form_of G.rules w.0) s xs S S' f p.1))))
      (or-true (S A) (someb (length G.rules) (adds s xs S A)) e)

  step_low : (s : Label) (xs : Forest Mark) (S : ℕ → Bool) (A : ℕ) → step s xs S A ≡ true → (S A ≡ true) ⊎ (A < N)
  unfolding step adds
  step_low s xs S A e =
      ⊎_elim (λ q. inl q)
      (λ q.
      let w = some_elim (length G.rules) (adds s xs S A) q in
      let p = and-true (eqb (head_of G.rules w.0) A) (match? (form_of G.rules w.0) (tree (mark s S) xs none)) w.2 in
      let eA : head_of G.rules w.0 ≡ A = eqb-true (head_of G.rules w.0) A p.0 in
      inr (omega (arith, low w.0 w.1)))
      (or-true (S A) (someb (length G.rules) (adds s xs S A)) e)

  closed_if : (s : Label) (xs : Forest Mark) (S : ℕ → Bool) → ((A : ℕ) → A < N → step s xs S A ≡ true → S A ≡ true) → Closed s xs S
  unfolding Closed
  closed_if s xs S f A e = ⊎_elim (λ q. q) (λ l. f A l e) (step_low s xs S A e)

  closed_next : (s : Label) (xs : Forest Mark) (S : ℕ → Bool) → Closed s xs S → Closed s xs (step s xs S)
  unfolding Closed
  closed_next s xs S c A e = step_mono s xs (step s xs S) S c A e

  -- either a round is closed, or it has as many members as rounds were made
  reached : (s : Label) (xs : Forest Mark) (k : ℕ) → Closed s xs (rounds s xs k) ⊎ (k ≤ cnt (rounds s xs k) N)
  unfolding rounds step
  reached s xs zero = inr (omega arith)
  reached s xs (suc k) = go (reached s xs k)
    where
      more : k ≤ cnt (rounds s xs k) N
          → NoMore (rounds s xs k) (step s xs (rounds s xs k)) N ⊎ New (rounds s xs k) (step s xs (rounds s xs k)) N
          → Closed s xs (rounds s xs (suc k)) ⊎ (suc k ≤ cnt (rounds s xs (suc k)) N)
      more h (inl f) = inl (closed_next s xs (rounds s xs k) (closed_if s xs (rounds s xs k) f))
      more h (inr w) =
          inr
          (omega (
            arith,
            h,
            cnt_grow (rounds s xs k) (rounds s xs (suc k)) N w.0
                (λ i l t. or_first (rounds s xs k i) (someb (length G.rules) (adds s xs (rounds s xs k) i)) t) w.1 w.3 w.2,
          ))

      go : Closed s xs (rounds s xs k) ⊎ (k ≤ cnt (rounds s xs k) N) → Closed s xs (rounds s xs (suc k)) ⊎ (suc k ≤ cnt (rounds s xs (suc k)) N)
      go (inl c) = inl (closed_next s xs (rounds s xs k) c)
      go (inr h) = more h (find_new (rounds s xs k) (step s xs (rounds s xs k)) N)

  enough : (s : Label) (xs : Forest Mark) → Closed s xs (rounds s xs N)
  enough s xs = ⊎_elim (λ c. c) (λ h. closed_if s xs (rounds s xs N) (λ A l e. cnt_full (rounds s xs N) N h A l)) (reached s xs N)

  marked_complete : (F : Terms) → Complete F (marked F)
  unfolding marked match? at? none? D
  marked_complete none = c_none
  marked_complete (tree s ts us) =
      c_tree
      (λ A ds d. (and-true (rounds s (marked ts) N A) true (head_complete (rounds s (marked ts) N) (enough s (marked ts)) (marked_complete ts) d)).0)
      (marked_complete ts) (marked_complete us)

  pub derives_iff : (A : ℕ) (F : Terms) → (derives? A F ≡ true → DerivesAt G A F) × (DerivesAt G A F → derives? A F ≡ true)
  unfolding derives? DerivesAt marked match? at? none? D
  derives_iff A none = ((λ e. apart e), (λ b. absurd b))
  derives_iff A (tree s ts us) = (
    (λ e. rounds_sound s (marked_sound ts) N A e),
    (λ d. (and-true (rounds s (marked ts) N A) true (head_complete (rounds s (marked ts) N) (enough s (marked ts)) (marked_complete ts) d.1)).0),
  )
