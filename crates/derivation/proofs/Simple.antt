-- Derivations in which no non-terminal is used twice at one place.
use mathlib.Core.Path.{◌≡◌, refl, subst}
use Prim.Native.Nat.{ℕ, ◌<◌}
use mathlib.Core.List.{List, [], ◌∷◌, ◌++◌, append-nil}
use lib.ListN.{length}
use Rattle.forest.specs.Forest.{Forest, none, tree, count}
use Rattle.forest.specs.code.Cursors.{first}
use Rattle.terms.specs.Labels.{Label, Terms}
use Rattle.derivation.specs.Derivation.{Item, head_of, form_of, Derives, Fresh, Simple, Grammar}
use Rattle.derivation.specs.Derivation.Item.{non_terminal}
use Rattle.derivation.specs.Derivation.Derives.{done, use-rule, leaf, same}
use Rattle.derivation.specs.Derivation.Simple.{s_done, s_rule, s_leaf, s_same}
use Rattle.derivation.specs.code.Forms.{NoChain}
use Rattle.derivation.proofs.Splits.{Kind, Uncons, one_then}

module _ (G : Grammar) where
  abbrev D : Forest Item → Terms → List ℕ → Type 0
  D = Simple G []

  -- each is a derivation
  pub simple_derives : {seen : List ℕ} {P : Forest Item} {T : Terms} {ds : List ℕ} → Simple G seen P T ds → Derives G P T ds
  simple_derives s_done = done
  simple_derives (s_rule r h e f d d2) = use-rule r h e (simple_derives d) (simple_derives d2)
  simple_derives (s_leaf a d) = leaf a (simple_derives d)
  simple_derives (s_same e d d2) = same e (simple_derives d) (simple_derives d2)

  pub uncons : {i : Item} {x X : Forest Item} {l : Label} {y Y : Terms} {ds : List ℕ} → D (tree i x X) (tree l y Y) ds → Uncons D i x X l y Y ds
  uncons (s_rule {ds = ds} {es = es} r h e f d d2) = record { hs = r ∷ ds; es = es; is = refl; tail = d2; head = λ X' Y' es' q. s_rule r h e f d q }
  uncons (s_leaf {es = es} a d) = record { hs = []; es = es; is = refl; tail = d; head = λ X' Y' es' q. s_leaf a q }
  uncons (s_same {ds = ds} {es = es} e d d2) = record { hs = ds; es = es; is = refl; tail = d2; head = λ X' Y' es' q. s_same e d q }

  pub empty : {ds : List ℕ} → D none none ds → ds ≡ []
  empty s_done = refl

  abbrev pub simples : Kind G.arguments D
  simples = record { nil = s_done; empty = empty; of_leaf = s_leaf; of_same = s_same; uncons = uncons }

  -- a non-terminal at one tree, then other forms
  pub walk_hole : (A : ℕ) (ps : Forest Item) (l : Label) (ts us : Terms) (ds es : List ℕ) → D (tree (non_terminal A) none none) (tree l ts none) ds
      → D ps (first (count ps) us) es
      → D (tree (non_terminal A) none ps) (first (count (tree (non_terminal A) none ps)) (tree l ts us)) (ds ++ es)
  unfolding first count
  walk_hole A ps l ts us ds es d q = one_then simples (non_terminal A) none ps l ts (first (count ps) us) ds es d q

  -- a rule in front of what derives its right side
  pub use_one : (seen : List ℕ) (r : ℕ) (l : Label) (ts : Terms) (ds : List ℕ) → r < length G.rules → Fresh (head_of G.rules r) seen
      → Simple G (head_of G.rules r ∷ seen) (form_of G.rules r) (tree l ts none) ds
      → Simple G seen (tree (non_terminal (head_of G.rules r)) none none) (tree l ts none) (r ∷ ds)
  use_one seen r l ts ds h f d =
      subst (λ (x : List ℕ). Simple G seen (tree (non_terminal (head_of G.rules r)) none none) (tree l ts none) (r ∷ x)) (append-nil ds)
      (s_rule r h refl f d s_done)

  -- what has been seen says nothing of a form that begins with no non-terminal
  pub no_chain_any : {before : List ℕ} (seen : List ℕ) {P : Forest Item} {T : Terms} {ds : List ℕ} → NoChain P → Simple G before P T ds → Simple G seen P T ds
  no_chain_any seen n s_done = s_done
  no_chain_any seen n (s_rule {A = A} {ps = ps} r h e f d d2) = absurd (n A none ps refl)
  no_chain_any seen n (s_leaf a d) = s_leaf a d
  no_chain_any seen n (s_same e d d2) = s_same e d d2
