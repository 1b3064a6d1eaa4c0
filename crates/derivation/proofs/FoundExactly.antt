-- The passes over the rules find the non-terminals that derive a term, and no others.
use Prim.Native.Nat.{ℕ, zero, suc, ◌+◌, ◌^◌, ◌<◌, ◌≤◌}
use native.Mathlib.Omega.{arith}
use mathlib.Core.Bool.{Bool, true, false, cond, ◌&&◌, not}
use mathlib.Core.List.{List, [], ◌∷◌, ◌++◌}
use mathlib.Core.Logic.{◌⊎◌, inl, inr, ⊎_elim}
use mathlib.Core.Path.{◌≡◌, refl, sym, ◌∙◌, subst}
use lib.Dec.{eqb}
use lib.ListN.{length}
use lib.Pow.{pow_pos}
use borrow.Author.Tests.{eq-eqb, eqb-true}
use Rattle.forest.specs.Forest.{Forest, count, none, tree}
use Rattle.forest.specs.Lists.{among}
use Rattle.forest.proofs.Bools.{apart}
use Rattle.forest.proofs.Laws.{count_zero}
use Rattle.operators.specs.Sorts.{values_of, vector}
use Rattle.terms.specs.Labels.{Label, Terms}
use Rattle.derivation.specs.Derivation.{AnyLeaf, Argument, Derives, Grammar, Item, Rule, form_of, head_of, rule}
use Rattle.derivation.specs.Derivation.AnyLeaf.{constant, variable}
use Rattle.derivation.specs.Derivation.Derives.{done, leaf, same, use-rule}
use Rattle.derivation.specs.Derivation.Item.{any_argument, any_literal, non_terminal, the}
use Rattle.derivation.specs.Productive.{DerivesSome, form_yields, node_yields, one_pass, passes, productive}
use Rattle.derivation.specs.code.Admitted.{Proper}
use Rattle.derivation.specs.code.Productive.{ConstantsFit, Productive, grown_by}
use Rattle.derivation.proofs.Count.{cnt, cnt_full, cnt_grow}
use Rattle.derivation.proofs.Decides.{New, NoMore, find_new}
use Rattle.derivation.proofs.Likeness.{any_not_hole}
use Rattle.derivation.proofs.Meta.{der_count}
use Rattle.derivation.proofs.PassedTests.{and_both, and-true, or_first, or_second, or-true}
use Rattle.derivation.proofs.Same.{same_self}

-- One list has all that another has.
pub record Within (xs ys : List ℕ) : Type 0 where
  pub keeps : (A : ℕ) → among A xs ≡ true → among A ys ≡ true

-- Each rule that yields where those of a list are found is one of a non-terminal of the list.
abbrev pub Closed : (arguments : List ℕ) → List Rule → List ℕ → Type 0
Closed arguments rules found = (r : ℕ) → r < length rules → form_yields arguments found (form_of rules r) ≡ true → among (head_of rules r) found ≡ true

-- What forms that yield say of their first node.
parts : (arguments found : List ℕ) (i : Item) (ops more : Forest Item) → form_yields arguments found (tree i ops more) ≡ true
    → (node_yields arguments found i ≡ true) × (form_yields arguments found ops ≡ true) × (form_yields arguments found more ≡ true)
unfolding form_yields
parts arguments found i ops more e =
    let p = and-true (node_yields arguments found i && form_yields arguments found ops) (form_yields arguments found more) e in
    let q = and-true (node_yields arguments found i) (form_yields arguments found ops) p.0 in
    (q.0, q.1, p.1)

module _ (arguments : List ℕ) where
  -- What yields does so where more is found.
  node_more : {xs ys : List ℕ} → Within xs ys → (i : Item) → node_yields arguments xs i ≡ true → node_yields arguments ys i ≡ true
  node_more w (the l) e = refl
  node_more w (non_terminal A) e = w.keeps A e
  node_more w (any_literal s) e = refl
  node_more w (any_argument s) e = e

  form_more : {xs ys : List ℕ} → Within xs ys → (P : Forest Item) → form_yields arguments xs P ≡ true → form_yields arguments ys P ≡ true
  unfolding form_yields
  form_more w none e = refl
  form_more {xs = xs} w (tree i ops more) e =
      let p = parts arguments xs i ops more e in
      and_both (and_both (node_more w i p.0) (form_more w ops p.1)) (form_more w more p.2)

  -- A rule keeps what is found before it.
  grown_keeps : (found : List ℕ) (A : ℕ) (form : Forest Item) → Within found (grown_by arguments found A form)
  grown_keeps found A form = record { keeps = go (form_yields arguments found form && not (among A found)) }
    where
      go : (t : Bool) (B : ℕ) → among B found ≡ true → among B (cond t (A ∷ found) found) ≡ true
      go true B e = or_second (eqb B A) (among B found) e
      go false B e = e

  -- And a rule that yields has its non-terminal found.
  grown_has : (found : List ℕ) (A : ℕ) (form : Forest Item) → form_yields arguments found form ≡ true → among A (grown_by arguments found A form) ≡ true
  grown_has found A form e = rw e (go (among A found) refl)
    where
      go : (t : Bool) → among A found ≡ t → among A (cond (not t) (A ∷ found) found) ≡ true
      go true h = h
      go false h = or_first (eqb A A) (among A found) (eq-eqb A A refl)

  -- A pass keeps what is found before it.
  pass_keeps : (rules : List Rule) (found : List ℕ) → Within found (one_pass arguments found rules)
  unfolding one_pass
  pass_keeps [] found = record { keeps = λ B e. e }
  pass_keeps (rule A weight form ∷ more) found =
      record { keeps = λ B e. (pass_keeps more (grown_by arguments found A form)).keeps B ((grown_keeps found A form).keeps B e) }

  -- A rule that yields before a pass has its non-terminal found behind it.
  pass_has : (rules : List Rule) (found xs : List ℕ) → Within found xs → (r : ℕ) → r < length rules → form_yields arguments found (form_of rules r) ≡ true
      → among (head_of rules r) (one_pass arguments xs rules) ≡ true
  unfolding one_pass head_of form_of
  pass_has [] found xs w r h e = absurd (omega arith)
  pass_has (rule A weight form ∷ more) found xs w zero h e =
      (pass_keeps more (grown_by arguments xs A form)).keeps A (grown_has xs A form (form_more w form e))
  pass_has (rule A weight form ∷ more) found xs w (suc r) h e =
      pass_has more found (grown_by arguments xs A form) (record { keeps = λ B f. (grown_keeps xs A form).keeps B (w.keeps B f) }) r (omega arith) e

  -- The same of the list with which the pass begins.
  pass_finds : (rules : List Rule) (found : List ℕ) (r : ℕ) → r < length rules → form_yields arguments found (form_of rules r) ≡ true
      → among (head_of rules r) (one_pass arguments found rules) ≡ true
  pass_finds rules found = pass_has rules found found (record { keeps = λ B f. f })

  -- A pass that adds nothing leaves each rule that yields with a non-terminal that is found.
  pub adds_none : (n : ℕ) (rules : List Rule) → ((r : ℕ) → r < length rules → head_of rules r < n) → (found : List ℕ)
      → NoMore (λ A. among A found) (λ A. among A (one_pass arguments found rules)) n → Closed arguments rules found
  adds_none n rules low found none_new r h e = none_new (head_of rules r) (low r h) (pass_finds rules found r h e)

  -- Behind it a rule adds nothing,
  grown_same : (found : List ℕ) (A : ℕ) (form : Forest Item) → (form_yields arguments found form ≡ true → among A found ≡ true)
      → grown_by arguments found A form ≡ found
  grown_same found A form h = go (form_yields arguments found form) h
    where
      go : (t : Bool) → (t ≡ true → among A found ≡ true) → cond (t && not (among A found)) (A ∷ found) found ≡ found
      go true f = rw (f refl)
      go false f = refl

  -- nor does a pass,
  pub pass_same : (rules : List Rule) (found : List ℕ) → Closed arguments rules found → one_pass arguments found rules ≡ found
  unfolding one_pass head_of form_of
  pass_same [] found c = refl
  pass_same (rule A weight form ∷ more) found c =
      rw (grown_same found A form (λ e. c 0 (omega arith) e)) (pass_same more found (λ r h e. c (suc r) (omega arith) e))

  -- nor do passes.
  pub passes_same : (n : ℕ) (rules : List Rule) (found : List ℕ) → one_pass arguments found rules ≡ found → passes n arguments found rules ≡ found
  unfolding passes
  passes_same zero rules found e = refl
  passes_same (suc n) rules found e = rw e (passes_same n rules found e)

  -- As many passes as there are non-terminals that are not found leave nothing to add.
  closes : (n : ℕ) (rules : List Rule) → ((r : ℕ) → r < length rules → head_of rules r < n) → (k : ℕ) (found : List ℕ)
      → n ≤ k + cnt (λ A. among A found) n → Closed arguments rules (passes k arguments found rules)
  unfolding passes
  closes n rules low zero found h = λ r l e. cnt_full (λ A. among A found) n (omega arith) (head_of rules r) (low r l)
  closes n rules low (suc k) found h =
      go (λ more. closes n rules low k (one_pass arguments found rules) more)
      (find_new (λ A. among A found) (λ A. among A (one_pass arguments found rules)) n)
    where
      go : (n ≤ k + cnt (λ A. among A (one_pass arguments found rules)) n → Closed arguments rules (passes k arguments (one_pass arguments found rules) rules))
          → NoMore (λ A. among A found) (λ A. among A (one_pass arguments found rules)) n
          ⊎ New (λ A. among A found) (λ A. among A (one_pass arguments found rules)) n
          → Closed arguments rules (passes k arguments (one_pass arguments found rules) rules)
      go later (inl none_new) =
          let closed = adds_none n rules low found none_new in
          let stays = pass_same rules found closed in
          rw (stays, passes_same k rules found stays) closed
      go later (inr w) =
          later
          (omega (
            arith,
            cnt_grow (λ A. among A found) (λ A. among A (one_pass arguments found rules)) n w.0 (λ i l e. (pass_keeps rules found).keeps i e) w.1 w.3
                w.2,
          ))

-- ---- what is found derives a term

module _ (G : Grammar) where
  -- Each of a list derives a term.
  AllDerive : List ℕ → Type 0
  AllDerive found = (A : ℕ) → among A found ≡ true → DerivesSome G A

  -- Some terms are derived.
  data Some (P : Forest Item) : Type 0 where
    some : {T : Terms} {ds : List ℕ} → Derives G P T ds → Some P

  -- So are those of a label's tree,
  label_then : (l : Label) {ps qs : Forest Item} → Some ps → Some qs → Some (tree (the l) ps qs)
  label_then l (some d) (some e) = some (same (same_self l) d e)

  -- of a leaf's,
  leaf_then : {i : Item} {l : Label} {qs : Forest Item} → AnyLeaf G.arguments i l → Some qs → Some (tree i none qs)
  leaf_then a (some e) = some (leaf a e)

  -- and of a non-terminal's.
  hole_then : {A : ℕ} {t : Terms} {ds : List ℕ} {qs : Forest Item} → Derives G (tree (non_terminal A) none none) t ds → Some qs
      → Some (tree (non_terminal A) none qs)
  hole_then (use-rule r h e d done) (some x) = some (use-rule r h e d x)
  hole_then {A = A} (leaf a d) x = absurd (any_not_hole a A refl)

  -- An argument of a sort that one of them has.
  argument_of : (s : ℕ) (arguments : List ℕ) → among s arguments ≡ true → (k : ℕ) × Argument arguments s k
  argument_of s [] e = apart e
  argument_of s (t ∷ more) e =
      ⊎_elim (λ q. (0, record { declared = omega arith; sort = sym (eqb-true s t q) }))
      (λ q. let x = argument_of s more q in (suc x.0, record { declared = omega (arith, x.1.declared); sort = x.1.sort }))
      (or-true (eqb s t) (among s more) e)

  -- There is a value of every sort.
  some_value : (s : ℕ) → 0 < values_of s
  some_value s = go (vector s)
    where
      go : (t : Bool) → 0 < cond t (2 ^ s) 2
      go true = pow_pos s
      go false = omega arith

  -- Forms that yield derive terms.
  forms_derive : (k : ℕ) (found : List ℕ) → AllDerive found → (P : Forest Item) → Proper k P → ConstantsFit P
      → form_yields G.arguments found P ≡ true → Some P
  unfolding form_yields Proper ConstantsFit AllDerive
  forms_derive k found all none p f e = some done
  forms_derive k found all (tree (the l) ps qs) p f e =
      let q = parts G.arguments found (the l) ps qs e in
      label_then l (forms_derive k found all ps p.1 f.0 q.1) (forms_derive k found all qs p.2 f.1 q.2)
  forms_derive k found all (tree (non_terminal A) ps qs) p f e =
      let q = parts G.arguments found (non_terminal A) ps qs e in
      rw p.1 (hole_then (all A q.0).derivation (forms_derive k found all qs p.2 f.1 q.2))
  forms_derive k found all (tree (any_literal s) ps qs) p f e =
      let q = parts G.arguments found (any_literal s) ps qs e in
      rw p.0 (leaf_then (constant {v = 0} (record { sort = f.0; value = some_value s })) (forms_derive k found all qs p.1 f.2 q.2))
  forms_derive k found all (tree (any_argument s) ps qs) p f e =
      let q = parts G.arguments found (any_argument s) ps qs e in
      rw p.0 (leaf_then (variable (argument_of s G.arguments q.0).1) (forms_derive k found all qs p.1 f.1 q.2))

  -- A rule whose form derives a term is one of a non-terminal that does.
  by_rule : (r : ℕ) → r < length G.rules → count (form_of G.rules r) ≡ 1 → Some (form_of G.rules r) → DerivesSome G (head_of G.rules r)
  unfolding count
  by_rule r h one (some {T = T} {ds = ds} d) = go T d (sym (der_count G d) ∙ one)
    where
      go : (T : Terms) → Derives G (form_of G.rules r) T ds → count T ≡ 1 → DerivesSome G (head_of G.rules r)
      go none d c = absurd (omega arith)
      go (tree l ts us) d c =
          let alone = subst (λ (x : Terms). Derives G (form_of G.rules r) (tree l ts x) ds) (count_zero us (omega arith)) d in
          record { term = tree l ts none; rules = r ∷ (ds ++ []); derivation = use-rule r h refl alone done }

  -- Each rule that yields, where those that are found derive terms, is one of a non-terminal that does.
  Able : List Rule → Type 0
  Able rules = (r : ℕ) → r < length rules → (found : List ℕ) → AllDerive found → form_yields G.arguments found (form_of rules r) ≡ true
      → DerivesSome G (head_of rules r)

  -- So is what a pass finds,
  pass_derives : (rules : List Rule) → Able rules → (found : List ℕ) → AllDerive found → AllDerive (one_pass G.arguments found rules)
  unfolding one_pass head_of form_of AllDerive Able
  pass_derives [] able found all = all
  pass_derives (rule A weight form ∷ more) able found all =
      pass_derives more (λ r h. able (suc r) (omega arith)) (grown_by G.arguments found A form)
      (go (form_yields G.arguments found form) (among A found) refl)
    where
      go : (t u : Bool) → form_yields G.arguments found form ≡ t → AllDerive (cond (t && not u) (A ∷ found) found)
      go true false e B h =
          ⊎_elim (λ q. rw (eqb-true B A q) (able 0 (omega arith) found all e)) (λ q. all B q) (or-true (eqb B A) (among B found) h)
      go true true e B h = all B h
      go false u e B h = all B h

  -- and what passes find.
  passes_derive : (n : ℕ) → Able G.rules → (found : List ℕ) → AllDerive found → AllDerive (passes n G.arguments found G.rules)
  unfolding passes
  passes_derive zero able found all = all
  passes_derive (suc n) able found all = passes_derive n able (one_pass G.arguments found G.rules) (pass_derives G.rules able found all)

  -- ---- what derives a term is found

  -- An argument's sort is among theirs.
  argument_among : (arguments : List ℕ) {s k : ℕ} → Argument arguments s k → among s arguments ≡ true
  argument_among [] a = absurd (omega (arith, a.declared))
  argument_among (t ∷ more) {s = s} {k = zero} a = or_first (eqb s t) (among s more) (eq-eqb s t (sym a.sort))
  argument_among (t ∷ more) {s = s} {k = suc k} a =
      or_second (eqb s t) (among s more) (argument_among more {s = s} {k = k} (record { declared = omega (arith, a.declared); sort = a.sort }))

  -- Forms that derive terms yield, where nothing is left to add.
  forms_yield : (found : List ℕ) → Closed G.arguments G.rules found → {P : Forest Item} {T : Terms} {ds : List ℕ} → Derives G P T ds
      → form_yields G.arguments found P ≡ true
  unfolding form_yields
  forms_yield found closed done = refl
  forms_yield found closed (use-rule r h e d d2) =
      and_both (and_both (subst (λ (A : ℕ). among A found ≡ true) e (closed r h (forms_yield found closed d))) refl) (forms_yield found closed d2)
  forms_yield found closed (leaf (constant f) d) = forms_yield found closed d
  forms_yield found closed (leaf (variable a) d) = and_both (and_both (argument_among G.arguments a) refl) (forms_yield found closed d)
  forms_yield found closed (same e d d2) = and_both (forms_yield found closed d) (forms_yield found closed d2)

-- Nothing of no list is counted.
none_counted : (n : ℕ) → n ≤ n + cnt (λ A. among A []) n
none_counted n = omega arith

-- "A non-terminal is refused exactly if it derives no term" (E9): of a grammar whose non-terminals are n, whose forms are proper and single, and whose
-- `(Constant σ)` are of sorts that there are, those that are found are those that derive a term.
pub exact : (G : Grammar) (n k : ℕ) → ((r : ℕ) → r < length G.rules → head_of G.rules r < n)
    → ((r : ℕ) → r < length G.rules → Proper k (form_of G.rules r)) → ((r : ℕ) → r < length G.rules → count (form_of G.rules r) ≡ 1)
    → ((r : ℕ) → r < length G.rules → ConstantsFit (form_of G.rules r)) → Productive G n
unfolding form_yields AllDerive Able
exact G n k low proper single fit = record {
  found_derives = passes_derive G n
      (λ r h found all e. by_rule G r h (single r h) (forms_derive G k found all (form_of G.rules r) (proper r h) (fit r h) e)) [] (λ A e. apart e);
  derives_found = λ A d.
      (parts G.arguments (productive G n) (non_terminal A) none none
      (forms_yield G (productive G n) (closes G.arguments n G.rules low n [] (none_counted n)) d.derivation)).0;
}
