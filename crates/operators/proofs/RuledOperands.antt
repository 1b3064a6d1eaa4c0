-- What a sort rule that gives a sort says of the operands.
use Rattle.std.proofs.Common.{◌≡◌, ℕ, zero, suc, ◌+◌, ◌-◌, ◌^◌, ◌<◌, ◌≤◌, Bool, true, false, cond, ◌&&◌, eqb, ltb, leb, List, [], ◌∷◌, length, get_or, refl, subst, arith, ltb-true, lt-ltb, eqb-true, leb-true}
use mathlib.Core.Path.{subst⁻¹}
use mathlib.Core.Option.{some}
use Rattle.forest.proofs.Bools.{and_left, and_right, apart}
use Rattle.forest.proofs.Options.{never}
use Rattle.operators.specs.Sorts.{AllFit, Fit, SortRule, all_are, bool, choice, cutting, equality, joining, logic, max_width, order, sort_by, vector}
use Rattle.operators.specs.Sorts.{sort_where, width}
use Rattle.operators.specs.Sorts.AllFit.{no_more, also}
use Rattle.operators.specs.code.Vectors.{Joined, Width, Word}

-- A rule that gives a sort has passed its test, and the sort is the one it gives.
pub ruled : (test : Bool) {s r : ℕ} → sort_where test s ≡ some r → (test ≡ true) × (s ≡ r)
ruled true h = (refl, cc)
ruled false h = never h

-- Two tests that pass together pass each.
pub both : (a b : Bool) → (a && b) ≡ true → (a ≡ true) × (b ≡ true)
both a b h = (and_left a b h, and_right a b h)

-- A value of a vector's sort is a word of its width.
word : {s v : ℕ} → vector s ≡ true → Fit s v → Word s v
word {s} {v} h f =
    record {
      width = record { least = omega (arith, ltb-true 0 s h); most = f.sort };
      below = subst (λ (t : Bool). v < cond t (2 ^ s) 2) h f.value;
    }

-- A number below 2 ^ s is a value of the vectors of width s.
pub word_fits : {s v : ℕ} → Width s → v < 2 ^ s → Fit s v
word_fits {s} {v} w h = record { sort = w.most; value = subst⁻¹ (λ (t : Bool). v < cond t (2 ^ s) 2) (lt-ltb 0 s (omega arith)) h }

-- An operand whose sort is among sorts that are all s is a value of s.
alike : (s : ℕ) {ss vs : List ℕ} → AllFit ss vs → all_are s ss ≡ true → (k : ℕ) → k < length ss → Fit s (get_or vs k 0)
alike s no_more h k l = absurd (omega arith)
alike s (also {s = t} {ss = ss} f more) h zero l = rw (eqb-true t s (both (eqb t s) (all_are s ss) h).0) at f
alike s (also {s = t} {ss = ss} f more) h (suc k) l = alike s more (both (eqb t s) (all_are s ss) h).1 k (omega arith)

-- Whether a rule's result is Bool.
abbrev pub gives_bool : SortRule → Bool
gives_bool logic = true
gives_bool equality = true
gives_bool order = true
gives_bool choice = false
gives_bool width = false
gives_bool joining = false
gives_bool cutting = false

-- What such a rule says: the result is Bool.
pub truths : (rule : SortRule) → gives_bool rule ≡ true → (i j : ℕ) (ss : List ℕ) {r : ℕ} → sort_by rule i j ss ≡ some r → bool ≡ r
unfolding sort_by
truths logic b i j ss h = (ruled (all_are bool ss) h).1
truths equality b i j [] h = never h
truths equality b i j (s ∷ more) h = (ruled (all_are s more) h).1
truths order b i j [] h = never h
truths order b i j (s ∷ more) h = (ruled (vector s && all_are s more) h).1
truths choice b i j ss h = apart b
truths width b i j ss h = apart b
truths joining b i j ss h = apart b
truths cutting b i j ss h = apart b

-- Whether a rule asks for operands of one width.
abbrev pub asks_width : SortRule → Bool
asks_width logic = false
asks_width equality = false
asks_width order = true
asks_width choice = false
asks_width width = true
asks_width joining = false
asks_width cutting = false

-- What such a rule says: the operands are words of one width.
pub record Vectors (ss vs : List ℕ) : Type 0 where
  pub first : Word (get_or ss 0 0) (get_or vs 0 0)
  pub second : length ss ≡ 2 → Word (get_or ss 0 0) (get_or vs 1 0)

-- A vector, and operands of its width.
of_one_width : {s v : ℕ} {ss vs : List ℕ} → Fit s v → AllFit ss vs → vector s && all_are s ss ≡ true → Vectors (s ∷ ss) (v ∷ vs)
of_one_width {s} {ss = ss} f more h =
    let q = both (vector s) (all_are s ss) h in
    record { first = word q.0 f; second = λ l. word q.0 (alike s more q.1 0 (omega arith)) }

pub vectors : (rule : SortRule) → asks_width rule ≡ true → (i j : ℕ) {ss vs : List ℕ} {r : ℕ} → AllFit ss vs → sort_by rule i j ss ≡ some r → Vectors ss vs
unfolding sort_by
vectors width w i j no_more h = never h
vectors width w i j (also {s = s} {ss = ss} f more) h = of_one_width f more (ruled (vector s && all_are s ss) h).0
vectors order w i j no_more h = never h
vectors order w i j (also {s = s} {ss = ss} f more) h = of_one_width f more (ruled (vector s && all_are s ss) h).0
vectors logic w i j a h = apart w
vectors equality w i j a h = apart w
vectors choice w i j a h = apart w
vectors joining w i j a h = apart w
vectors cutting w i j a h = apart w

-- What the rule `choice` says: the second and the third of three operands are values of the result's sort.
pub record Choice (vs : List ℕ) (r : ℕ) : Type 0 where
  pub second : Fit r (get_or vs 1 0)
  pub third : Fit r (get_or vs 2 0)

pub chosen : (i j : ℕ) {ss vs : List ℕ} {r : ℕ} → AllFit ss vs → length ss ≡ 3 → sort_by choice i j ss ≡ some r → Choice vs r
unfolding sort_by
chosen i j no_more l h = never h
chosen i j (also f no_more) l h = never h
chosen i j (also {s = c} d (also {s = s} {ss = ss} f more)) l h =
    let p = ruled (eqb c bool && all_are s ss) h in
    let q = both (eqb c bool) (all_are s ss) p.0 in
    record {
      second = rw p.1 at f;
      third = rw p.1 at (alike s more q.1 0 (omega arith));
    }

-- What the rule `joining` says: the operands are words, together as wide as the result.
pub record Pair (ss vs : List ℕ) (r : ℕ) : Type 0 where
  pub result : get_or ss 0 0 + get_or ss 1 0 ≡ r
  pub operands : Joined (get_or ss 0 0) (get_or ss 1 0) (get_or vs 0 0) (get_or vs 1 0)

pub pair : (i j : ℕ) {ss vs : List ℕ} {r : ℕ} → AllFit ss vs → sort_by joining i j ss ≡ some r → Pair ss vs r
unfolding sort_by
pair i j no_more h = never h
pair i j (also f no_more) h = never h
pair i j (also {s = s} f (also {s = t} g more)) h =
    let p = ruled (vector s && vector t && leb (s + t) max_width) h in
    let q = both (vector s && vector t) (leb (s + t) max_width) p.0 in
    let u = both (vector s) (vector t) q.0 in
    let x = word u.0 f in
    record {
      result = p.1;
      operands = record { high = x; low = word u.1 g; together = record { least = omega (arith, x.width.least); most = leb-true _ _ q.1 } };
    }

-- What the rule `cutting` says: i and j are in order, and the result is i - j + 1 wide.
pub record Cut (i j r : ℕ) : Type 0 where
  pub result : i - j + 1 ≡ r
  pub order : j ≤ i
  pub most : i < max_width

pub cut : (i j : ℕ) {ss vs : List ℕ} {r : ℕ} → AllFit ss vs → sort_by cutting i j ss ≡ some r → Cut i j r
unfolding sort_by
cut i j no_more h = never h
cut i j (also {s = s} f more) h =
    let p = ruled (leb j i && ltb i s) h in
    let q = both (leb j i) (ltb i s) p.0 in
    record { result = p.1; order = leb-true _ _ q.0; most = omega (arith, ltb-true i s q.1, f.sort) }
