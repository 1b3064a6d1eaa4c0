-- The masks and ranks from the last node to the first.
use mathlib.Core.Path.{◌≡◌, refl, ◌∙◌, sym, ap, subst}
use Prim.Native.Nat.{ℕ, ◌-◌, ◌*◌, ◌/◌, ◌<◌, ◌≤◌, suc, ◌+◌}
use native.Mathlib.Omega.{arith}
use native.Mathlib.Decide.{ℕ_discrete}
use mathlib.Core.List.{List, [], ◌∷◌, ◌++◌, append_assoc}
use lib.ListN.{length, get_or, set, length-set, take, drop, get_or-append}
use lib.Seq.{get_or-set_same, get_or-set_other, sets, sets-eq, length-sets, length-take-le, get_or-append-add}
use Rattle.forest.specs.code.Rows.{number_at}
use Rattle.derivation.proofs.Reading.{body_length}
use Rattle.terms.specs.Labels.{Terms}
use Rattle.derivation.specs.Derivation.{Grammar}
use Rattle.derivation.specs.code.Tables.{Given}
use Rattle.derivation.specs.code.Admitted.{Admitted}
use Rattle.searching.specs.code.Search.{ExactAt, Asks, Chained, choice_at}
use Rattle.searching.proofs.Closed.{chain_as}
use Rattle.searching.specs.code.Filling.{NodeIs, MasksPre}
use Rattle.terms.specs.code.Nodes.{row_width}
use Rattle.forest.specs.code.Cursors.{from, size}
use Rattle.derivation.specs.code.Masks.{has}
use Rattle.searching.specs.code.Masks.{mask_at, rank_at, mark_width}
use Rattle.forest.specs.Limits.{most_non_terminals}

-- a number of a list that was written into another, and one past it
sets_in : (vs l : List ℕ) (i k : ℕ) → k < length vs → i + length vs ≤ length l → get_or (sets l i vs) (i + k) 0 ≡ get_or vs k 0
sets_in vs l i k h f =
    ap (λ (x : List ℕ). get_or x (i + k) 0) (sets-eq vs l i f ∙ append_assoc (take i l) vs (drop (i + length vs) l))
    ∙ ap (λ (n : ℕ). get_or (take i l ++ (vs ++ drop (i + length vs) l)) (n + k) 0) (sym (length-take-le i l (omega arith)))
    ∙ get_or-append-add (take i l) (vs ++ drop (i + length vs) l) k 0
    ∙ get_or-append vs (drop (i + length vs) l) 0 k h

sets_past : (vs l : List ℕ) (i k : ℕ) → i + length vs ≤ k → get_or (sets l i vs) k 0 ≡ get_or l k 0
sets_past [] l i k h = refl
sets_past (a ∷ vs) l i k h = sets_past vs (set l i a) (suc i) k (omega arith) ∙ get_or-set_other l i k a 0 (λ e. omega arith)

-- the same set and the same ranks
exact_as : {G : Grammar} {F : Terms} {m m' : ℕ} {rank rank' : ℕ → ℕ} → ExactAt G F m rank → m' ≡ m → ((A : ℕ) → A < most_non_terminals → rank' A ≡ rank A)
    → ExactAt G F m' rank'
exact_as x em er = record {
  sound = λ A l t. x.sound A l (ap (λ (m : ℕ). has m A) (sym em) ∙ t);
  complete = λ A l d. ap (λ (m : ℕ). has m A) em ∙ x.complete A l d;
  ranked = λ A l t.
      let y = x.ranked A l (ap (λ (m : ℕ). has m A) (sym em) ∙ t) in
      record { ds = y.ds; least = y.least; rank = er A l ∙ y.rank; few = y.few };
}

-- the same set and the same choices
chained_as : {G : Grammar} {F : Terms} {m m' : ℕ} {chosen chosen' : ℕ → ℕ} → Admitted G → Chained G F m chosen → m' ≡ m
    → ((A : ℕ) → A < most_non_terminals → chosen' A ≡ chosen A) → Chained G F m' chosen'
chained_as ad x em ec A l t =
    let o = x A l (ap (λ (m : ℕ). has m A) (sym em) ∙ t) in
    (o.0, chain_as ad (λ B b y. (ap (λ (m : ℕ). has m B) em ∙ y, ec B b)) l o.1, o.2)

-- the masks, the ranks and the choices from node i on are exact
pub record Inv (rules forms body masks₀ choices₀ masks choices : List ℕ) (i : ℕ) : Type 0 where
  pub pre : MasksPre rules forms body masks₀ choices₀
  pub same_length : length masks ≡ length masks₀
  pub same_choices : length choices ≡ length choices₀
  pub low : mark_width * i ≤ length masks₀
  pub exact : (g : Given rules forms body) (j : ℕ) → i ≤ j → j < size g.F → ExactAt g.G (from g.F j) (mask_at masks j) (rank_at masks j)
  pub chains : (g : Given rules forms body) (j : ℕ) → i ≤ j → j < size g.F → Chained g.G (from g.F j) (mask_at masks j) (choice_at choices j)

module _ {rules forms body : List ℕ} where
  pub body_size : (g : Given rules forms body) → length body ≡ row_width * size g.F
  body_size g = body_length g.F g.holds.is_body

  pub inv_start : {masks choices : List ℕ} → MasksPre rules forms body masks choices → {i : ℕ} → i ≡ length body / row_width
      → Inv rules forms body masks choices masks choices i
  inv_start p e = record {
    pre = p;
    same_length = refl;
    same_choices = refl;
    low = omega (arith, e, p.long, body_size p.given);
    exact = λ g j l h. absurd (omega (arith, e, body_size g));
    chains = λ g j l h. absurd (omega (arith, e, body_size g));
  }

  module _ {masks₀ choices₀ masks choices : List ℕ} {i : ℕ} (v : Inv rules forms body masks₀ choices₀ masks choices i) where
    module _ (h : 0 < i) where
      asks_of : (g : Given rules forms body) → Asks rules forms body masks (i - 1)
      asks_of g = record {
        given = g;
        inside = omega (arith, v.low, v.pre.long, body_size g, body_size v.pre.given);
        small = omega (arith, v.pre.small, body_size g, body_size v.pre.given);
        long = omega (arith, v.same_length, v.pre.long, body_size g, body_size v.pre.given);
        exact = λ j l h2. v.exact g j (omega arith) h2;
      }

      pub asks_here : Asks rules forms body masks (i - 1)
      asks_here = asks_of v.pre.given

      module _ {s : ℕ} {row chosen : List ℕ} (n : NodeIs rules forms body masks (i - 1) row chosen s) where
        row_long : length (set row most_non_terminals s) ≡ mark_width
        row_long = length-set row most_non_terminals s ∙ n.seventeen

        pub row_fits : mark_width * (i - 1) + length (set row most_non_terminals s) ≤ length masks
        row_fits = omega (arith, row_long, v.low, v.same_length)

        pub choices_fit : most_non_terminals * (i - 1) + length chosen ≤ length choices
        choices_fit = omega (arith, n.sixteen, v.low, v.pre.long, v.pre.roomy, v.same_choices)

        abbrev pub written : List ℕ
        written = sets masks (mark_width * (i - 1)) (set row most_non_terminals s)

        abbrev pub kept : List ℕ
        kept = sets choices (most_non_terminals * (i - 1)) chosen

        same_row : (c : ℕ) → c < mark_width → number_at mark_width written (i - 1) c ≡ get_or (set row most_non_terminals s) c 0
        unfolding number_at
        same_row c h2 = sets_in (set row most_non_terminals s) masks (mark_width * (i - 1)) c (omega (arith, row_long)) row_fits

        other_row : (j c : ℕ) → i - 1 < j → number_at mark_width written j c ≡ number_at mark_width masks j c
        unfolding number_at
        other_row j c l = sets_past (set row most_non_terminals s) masks (mark_width * (i - 1)) (mark_width * j + c) (omega (arith, row_long))

        same_mask : mask_at written (i - 1) ≡ s
        same_mask = same_row most_non_terminals (omega arith) ∙ get_or-set_same row most_non_terminals s 0 (omega (arith, n.seventeen))

        same_choice : (A : ℕ) → A < most_non_terminals → choice_at kept (i - 1) A ≡ get_or chosen A 0
        same_choice A l = sets_in chosen choices (most_non_terminals * (i - 1)) A (omega (arith, n.sixteen)) choices_fit

        other_choice : (j A : ℕ) → i - 1 < j → choice_at kept j A ≡ choice_at choices j A
        other_choice j A l = sets_past chosen choices (most_non_terminals * (i - 1)) (most_non_terminals * j + A) (omega (arith, n.sixteen))

        exact_now : (g : Given rules forms body) (j : ℕ) → i - 1 ≤ j → j < size g.F → Dec (j ≡ i - 1)
            → ExactAt g.G (from g.F j) (mask_at written j) (rank_at written j)
        unfolding asks_of
        exact_now g j l h2 (yes e) =
            rw e
            (exact_as (n.exact (asks_of g)) same_mask
            (λ A o. same_row A (omega arith) ∙ get_or-set_other row most_non_terminals A s 0 (λ z. omega arith)))
        exact_now g j l h2 (no e) =
            let o : i - 1 < j = omega arith in
            exact_as (v.exact g j (omega arith) h2) (other_row j most_non_terminals o) (λ A p. other_row j A o)

        chains_now : (g : Given rules forms body) (j : ℕ) → i - 1 ≤ j → j < size g.F → Dec (j ≡ i - 1)
            → Chained g.G (from g.F j) (mask_at written j) (choice_at kept j)
        unfolding asks_of
        chains_now g j l h2 (yes e) =
            rw e (chained_as g.admitted (n.chains (asks_of g)) same_mask same_choice)
        chains_now g j l h2 (no e) =
            let o : i - 1 < j = omega arith in
            chained_as g.admitted (v.chains g j (omega arith) h2) (other_row j most_non_terminals o) (λ A p. other_choice j A o)

        pub inv_step : {masks' : List ℕ} → masks' ≡ written → {choices' : List ℕ} → choices' ≡ kept
            → Inv rules forms body masks₀ choices₀ masks' choices' (i - 1)
        inv_step {masks'} w {choices'} k = record {
          pre = v.pre;
          same_length = ap length w ∙ length-sets masks (mark_width * (i - 1)) (set row most_non_terminals s) ∙ v.same_length;
          same_choices = ap length k ∙ length-sets choices (most_non_terminals * (i - 1)) chosen ∙ v.same_choices;
          low = omega (arith, v.low);
          exact = λ g j l h2.
              subst (λ (m : List ℕ). ExactAt g.G (from g.F j) (mask_at m j) (rank_at m j)) (sym w) (exact_now g j l h2 (ℕ_discrete j (i - 1)));
          chains = λ g j l h2.
              subst (λ (c : List ℕ). Chained g.G (from g.F j) (mask_at masks' j) (choice_at c j)) (sym k)
              (subst (λ (m : List ℕ). Chained g.G (from g.F j) (mask_at m j) (choice_at kept j)) (sym w) (chains_now g j l h2 (ℕ_discrete j (i - 1))));
        }
