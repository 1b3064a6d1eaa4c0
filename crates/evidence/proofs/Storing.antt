-- What derives the bodies of texts that pass can be stored: there are at most eight lists, each has at most 4,096 rules, and each rule is one of at most 128.
use Prim.Native.Nat.{ℕ, zero, suc, ◌+◌, ◌*◌, ◌-◌, ◌≤◌, ◌<◌}
use native.Mathlib.Omega.{arith}
use mathlib.Core.Bool.{Bool, true, false, ◌||◌}
use mathlib.Core.List.{List, [], ◌∷◌, ◌++◌}
use mathlib.Core.Option.{none as nothing}
use mathlib.Core.Path.{◌≡◌, refl, sym, ap, subst}
use lib.Dec.{eqb}
use lib.ListN.{get_or, length, length-append, length-replicate, replicate}
use borrow.Author.Tests.{eq-eqb, ne_eqb}
use Rattle.forest.specs.Forest.{Forest, none, tree}
use Rattle.forest.specs.Limits.{list_size, most_functions, most_nodes, most_non_terminals, most_rules}
use Rattle.forest.specs.code.Cursors.{size}
use Rattle.words.specs.declared.Limits.{Limits}
use Rattle.terms.specs.Labels.{Terms}
use Rattle.derivation.specs.Answer.{start}
use Rattle.derivation.specs.Derivation.{Fresh, Grammar, Item, Simple}
use Rattle.derivation.specs.Derivation.Simple.{s_done, s_leaf, s_rule, s_same}
use Rattle.derivation.specs.code.Admitted.{Admitted}
use Rattle.derivation.proofs.Count.{cnt, cnt_grow, cnt_le}
use Rattle.names.specs.Scopes.{Defined, Function}
use Rattle.script.specs.Script.{Known}
use Rattle.script.specs.Response.{Body, in_script_order}
use Rattle.response.proofs.Picked.{order_length}
use Rattle.outcome.specs.Accepted.{TextsPass}
use Rattle.outcome.specs.Checked.{length_answer}
use Rattle.outcome.specs.Derived.{ListsShown, terms_of}
use Rattle.outcome.specs.code.Assured.{AllAdmitted, BodiesFit}
use Rattle.outcome.proofs.ResponseFits.{response_fits}
use Rattle.outcome.proofs.Script.{script_assured}
use Rattle.outcome.proofs.Texts.{short_texts}
use Rattle.blocks.specs.Layout.{Storable}
use Rattle.blocks.specs.code.Lists.{rules_in}
use Rattle.evidence.specs.Evidence.{Fileable, Followed, eight_lists}
use Rattle.evidence.specs.Evidence.Followed.{absent, also, no_more}
use Rattle.evidence.proofs.FewFunctions.{functions_few}

-- A list of rules that can be stored.
pub record Bounded (ds : List ℕ) : Type 0 where
  pub short : length ds ≤ list_size
  pub rules : (k : ℕ) → get_or ds k 0 < most_rules

-- ---- each rule is one of the grammar's

-- Two lists of low numbers, one behind the other.
pub both_low : {n : ℕ} (ds es : List ℕ) → ((k : ℕ) → get_or ds k 0 < n) → ((k : ℕ) → get_or es k 0 < n) → (k : ℕ) → get_or (ds ++ es) k 0 < n
both_low [] es low more k = more k
both_low (d ∷ ds) es low more zero = low 0
both_low (d ∷ ds) es low more (suc k) = both_low ds es (λ i. low (suc i)) more k

-- One low number before others.
first_low : {n d : ℕ} (ds : List ℕ) → d < n → ((k : ℕ) → get_or ds k 0 < n) → (k : ℕ) → get_or (d ∷ ds) k 0 < n
first_low ds low more zero = low
first_low ds low more (suc k) = more k

-- ---- no non-terminal is used twice at one place

-- Whether a number is one of a list.
unfoldable among : (seen : List ℕ) → ℕ → Bool
among [] i = false
among (A ∷ seen) i = eqb i A || among seen i

fresh_apart : (A : ℕ) (seen : List ℕ) → Fresh A seen → among seen A ≡ false
unfolding Fresh among
fresh_apart A [] f = refl
fresh_apart A (B ∷ seen) f = rw (ne_eqb A B f.0) (fresh_apart A seen f.1)

-- Those that were used are different non-terminals.
abbrev Distinct : (seen : List ℕ) → Type 0
Distinct seen = length seen ≤ cnt (among seen) most_non_terminals

distinct_more : (A : ℕ) (seen : List ℕ) → A < most_non_terminals → Fresh A seen → Distinct seen → Distinct (A ∷ seen)
unfolding among
distinct_more A seen low f h =
    let grows = cnt_grow (among seen) (among (A ∷ seen)) most_non_terminals A (λ i l t. or_second (eqb i A) t) low (fresh_apart A seen f)
    (rw (eq-eqb A A refl)) in
    omega (arith, grows)
  where
    or_second : (a : Bool) {b : Bool} → b ≡ true → (a || b) ≡ true
    or_second true e = refl
    or_second false e = e

-- How many were used at the place of the first tree, where there is one.
unfoldable used : Terms → (seen : List ℕ) → ℕ
used none seen = 0
used (tree l ts us) seen = length seen

module _ {G : Grammar} (admitted : Admitted G) where
  -- A derivation in which no non-terminal is used twice at one place has at most 16 rules a node.
  few_each : {seen : List ℕ} {P : Forest Item} {T : Terms} {ds : List ℕ} → Simple G seen P T ds → Distinct seen
      → length ds + used T seen ≤ most_non_terminals * size T
  unfolding used size
  few_each s_done h = omega arith
  few_each (s_rule {seen = seen} {A = A} {us = us} {ds = ds} {es = es} r low e f d d2) h =
      let head : A < most_non_terminals = omega (arith, e, admitted.low r low) in
      omega (arith, length-append ds es, few_each d (distinct_more A seen head f h), few_each d2 (omega arith))
  few_each (s_leaf {seen = seen} a d) h = omega (arith, cnt_le (among seen) most_non_terminals, few_each d (omega arith))
  few_each (s_same {seen = seen} {ds = ds} {es = es} e d d2) h =
      omega (arith, length-append ds es, cnt_le (among seen) most_non_terminals, few_each d (omega arith), few_each d2 (omega arith))

  -- Each rule of it is one of the grammar's.
  rules_low : {seen : List ℕ} {P : Forest Item} {T : Terms} {ds : List ℕ} → Simple G seen P T ds → (k : ℕ) → get_or ds k 0 < most_rules
  rules_low s_done k = omega arith
  rules_low (s_rule {ds = ds} {es = es} r low e f d d2) k =
      first_low (ds ++ es) (omega (arith, low, admitted.few)) (both_low ds es (λ i. rules_low d i) (λ i. rules_low d2 i)) k
  rules_low (s_leaf a d) k = rules_low d k
  rules_low (s_same {ds = ds} {es = es} e d d2) k = both_low ds es (λ i. rules_low d i) (λ i. rules_low d2 i) k

  -- "No non-terminal is used twice at the same place of the body, so 256 × 16 entries suffice": so has the list of a body.
  pub simple_bounded : {t : Terms} {ds : List ℕ} → size t ≤ most_nodes → Simple G [] start t ds → Bounded ds
  simple_bounded small d = record { short = omega (arith, few_each d (omega arith)); rules = rules_low d }

-- ---- all lists

-- One list more.
each_bounded : {ds : List ℕ} (lists : List (List ℕ)) → Bounded ds → ((i : ℕ) → Bounded (get_or lists i [])) → (i : ℕ) → Bounded (get_or (ds ∷ lists) i [])
each_bounded lists here later zero = here
each_bounded lists here later (suc i) = later i

-- An empty list.
none_bounded : Bounded []
none_bounded = record { short = omega arith; rules = λ k. omega arith }

-- Lists that derive bodies that fit are each such.
followed_bounded : (defs : List Defined) (fs : List Function) (bs : List Body) {ts : List Terms} {lists : List (List ℕ)} → AllAdmitted fs
    → BodiesFit defs fs bs → Followed fs ts lists → ts ≡ terms_of bs → (i : ℕ) → Bounded (get_or lists i [])
unfolding AllAdmitted BodiesFit
followed_bounded defs [] [] admitted fit no_more e = λ i. none_bounded
followed_bounded defs [] [] admitted fit (absent {lists = lists} q) e = each_bounded lists none_bounded (followed_bounded defs [] [] admitted fit q e)
followed_bounded defs [] (b ∷ bs) admitted fit q e = absurd fit
followed_bounded defs (f ∷ fs) [] admitted fit q e = absurd fit
followed_bounded defs (f ∷ fs) (b ∷ bs) admitted fit (also {t = t} {ts = ts} {lists = lists} d q) e =
    let same : t ≡ b.term = cc in
    let others : ts ≡ terms_of bs = cc in
    let small = subst (λ (x : Terms). size x ≤ most_nodes) (sym same) fit.1 in
    each_bounded lists (simple_bounded admitted.0 small d) (followed_bounded defs fs bs admitted.1 fit.2 q others)

-- They have so many rules at most.
pub rules_most : (lists : List (List ℕ)) → ((i : ℕ) → Bounded (get_or lists i [])) → rules_in lists ≤ list_size * length lists
unfolding rules_in
rules_most [] h = omega arith
rules_most (ds ∷ more) h = omega (arith, (h 0).short, rules_most more (λ i. h (suc i)))

-- The grammars in script order.
admitted_last : (fs : List Function) (f : Function) → AllAdmitted fs → Admitted f.grammar → AllAdmitted (fs ++ f ∷ [])
unfolding AllAdmitted
admitted_last [] f all one = (one, tt)
admitted_last (g ∷ fs) f all one = (all.0, admitted_last fs f all.1 one)

order_admitted : (fs : List Function) → AllAdmitted fs → AllAdmitted (in_script_order fs)
unfolding AllAdmitted in_script_order
order_admitted [] all = tt
order_admitted (f ∷ earlier) all = admitted_last (in_script_order earlier) f (order_admitted earlier all.1) all.0

module _ {limits : Limits} {script response : List ℕ} {k : Known} {bs : List Body} (passing : TextsPass limits script response k bs) where
  -- Lists that derive the bodies of texts that pass are such.
  pub lists_bounded : {lists : List (List ℕ)} → Followed (in_script_order k.functions) (terms_of bs) lists → (i : ℕ) → Bounded (get_or lists i [])
  lists_bounded q =
      followed_bounded k.defined (in_script_order k.functions) bs (order_admitted k.functions (script_assured script passing.says).admitted)
      (response_fits limits k response passing.gives) q refl

  -- There are at most eight functions.
  pub order_few : length (in_script_order k.functions) ≤ most_functions
  order_few = omega (arith, order_length k.functions, functions_few script passing.says)

-- Eight lists that derive the bodies of texts that pass can be stored with them.
pub followed_storable : {limits : Limits} {script response : List ℕ} {k : Known} {bs : List Body} {lists : List (List ℕ)}
    → length_answer script response ≡ nothing → TextsPass limits script response k bs → Followed (in_script_order k.functions) (terms_of bs) lists
    → length lists ≡ most_functions → Storable script response lists
followed_storable {script = script} {response = response} short passing q eight =
    let both = short_texts script response short in
    let each = lists_bounded passing q in
    record {
      script_short = omega (arith, both.0);
      response_short = omega (arith, both.1);
      eight = eight;
      short = λ j. omega (arith, (each j).short);
      rules = λ j k. omega (arith, (each j).rules k);
    }

-- ---- the lists that are shown

-- They derive the bodies.
pub shown_followed : {fs : List Function} {ts : List Terms} {lists : List (List ℕ)} → ListsShown fs ts lists → Followed fs ts lists
shown_followed ListsShown.no_more = no_more
shown_followed (ListsShown.also d least few more) = also d (shown_followed more)

-- Absent functions behind them have empty lists.
absent_more : (n : ℕ) → Followed [] [] (replicate n [])
absent_more zero = no_more
absent_more (suc n) = absent (absent_more n)

pub followed_more : {fs : List Function} {ts : List Terms} {lists : List (List ℕ)} (n : ℕ) → Followed fs ts lists → Followed fs ts (lists ++ replicate n [])
followed_more n no_more = absent_more n
followed_more n (absent q) = absent (followed_more n q)
followed_more n (also d q) = also d (followed_more n q)

-- There are as many as functions.
shown_count : {fs : List Function} {ts : List Terms} {lists : List (List ℕ)} → ListsShown fs ts lists → length lists ≡ length fs
shown_count ListsShown.no_more = refl
shown_count (ListsShown.also d least few more) = ap suc (shown_count more)

module _ {script response : List ℕ} {k : Known} {bs : List Body} {lists : List (List ℕ)} (given : Fileable script response k bs lists) where
  -- There are at most eight.
  pub shown_few : length lists ≤ most_functions
  shown_few = omega (arith, shown_count given.accepted.shown, order_few given.accepted.passing)

  -- With the empty lists of absent functions there are eight.
  pub eight_long : length (eight_lists lists) ≡ most_functions
  unfolding eight_lists
  eight_long =
      let missing = most_functions - length lists in
      omega (arith, shown_few, length-append lists (replicate missing []), length-replicate {A = List ℕ} missing [])

  -- All eight derive the bodies.
  pub eight_followed : Followed (in_script_order k.functions) (terms_of bs) (eight_lists lists)
  unfolding eight_lists
  eight_followed = followed_more (most_functions - length lists) (shown_followed given.accepted.shown)

  -- What is shown can be stored.
  pub eight_storable : Storable script response (eight_lists lists)
  eight_storable = followed_storable given.short given.accepted.passing eight_followed eight_long
