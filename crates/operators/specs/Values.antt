-- What the operators give, "As in SMT-LIB": on natural numbers below 2 ^ n, at any width n. A Bool is a number too: 0 is false, 1 is true.
use Rattle.std.specs.Prelude.{ℕ, ◌+◌, ◌-◌, ◌*◌, ◌/◌, ◌%◌, ◌^◌, Bool, true, cond, not, ◌&&◌, ◌||◌, List, [], ◌∷◌, ◌==◌, bit_and, bit_or, bit_xor, nat_le, nat_lt}

-- The number of a truth value: "Bool is 0 or 1".
abbrev pub truth : Bool → ℕ
truth b = cond b 1 0

-- The truth value of a number.
abbrev pub holds : ℕ → Bool
holds a = a == 1

-- `not`
abbrev pub not_value : ℕ → ℕ
not_value a = truth (not (holds a))

-- "`and or xor` group from the left" (E3): of one operand and those behind it.
unfoldable pub group_left : (ℕ → ℕ → ℕ) → (first : ℕ) → (more : List ℕ) → ℕ
group_left f a [] = a
group_left f a (b ∷ more) = group_left f (f a b) more

-- "`=>` from the right" (E3)
unfoldable pub group_right : (ℕ → ℕ → ℕ) → (first : ℕ) → (more : List ℕ) → ℕ
group_right f a [] = a
group_right f a (b ∷ more) = f a (group_right f b more)

-- "`=` chains" (E3): the test holds of each operand and the next.
unfoldable pub chained : (ℕ → ℕ → Bool) → (first : ℕ) → (more : List ℕ) → Bool
chained test a [] = true
chained test a (b ∷ more) = test a b && chained test b more

-- The test holds of a and each of the others.
unfoldable pub with_each : (ℕ → ℕ → Bool) → (a : ℕ) → (others : List ℕ) → Bool
with_each test a [] = true
with_each test a (b ∷ more) = test a b && with_each test a more

-- "`distinct` is pairwise" (E3): the test holds of each operand and each behind it.
unfoldable pub pairwise : (ℕ → ℕ → Bool) → List ℕ → Bool
pairwise test [] = true
pairwise test (a ∷ more) = with_each test a more && pairwise test more

-- Two values of one sort are not the same.
abbrev pub differ : ℕ → ℕ → Bool
differ a b = not (a == b)

-- `and`
abbrev pub and_value : ℕ → ℕ → ℕ
and_value a b = truth (holds a && holds b)

-- `or`
abbrev pub or_value : ℕ → ℕ → ℕ
or_value a b = truth (holds a || holds b)

-- `xor`: one of the two and not both.
abbrev pub xor_value : ℕ → ℕ → ℕ
xor_value a b = truth (holds a && not (holds b) || not (holds a) && holds b)

-- `=>`
abbrev pub implies_value : ℕ → ℕ → ℕ
implies_value a b = truth (not (holds a) || holds b)

-- `ite`
abbrev pub ite_value : (c a b : ℕ) → ℕ
ite_value c a b = cond (holds c) a b

-- `bvnot`: each bit turned, so that a and its complement add up to all ones.
abbrev pub bvnot_value : (n a : ℕ) → ℕ
bvnot_value n a = 2 ^ n - 1 - a

-- `bvneg`: "results modulo 2^n"
abbrev pub bvneg_value : (n a : ℕ) → ℕ
bvneg_value n a = (2 ^ n - a) % 2 ^ n

-- `bvand`, bit by bit.
abbrev pub bvand_value : (a b : ℕ) → ℕ
bvand_value a b = bit_and a b

-- `bvor`, bit by bit.
abbrev pub bvor_value : (a b : ℕ) → ℕ
bvor_value a b = bit_or a b

-- `bvxor`, bit by bit.
abbrev pub bvxor_value : (a b : ℕ) → ℕ
bvxor_value a b = bit_xor a b

-- `bvadd`: "results modulo 2^n"
abbrev pub bvadd_value : (n a b : ℕ) → ℕ
bvadd_value n a b = (a + b) % 2 ^ n

-- `bvsub`: "results modulo 2^n"
abbrev pub bvsub_value : (n a b : ℕ) → ℕ
bvsub_value n a b = (a + (2 ^ n - b)) % 2 ^ n

-- `bvmul`: "results modulo 2^n"
abbrev pub bvmul_value : (n a b : ℕ) → ℕ
bvmul_value n a b = a * b % 2 ^ n

-- `bvudiv`: "division by 0 gives all ones"
abbrev pub bvudiv_value : (n a b : ℕ) → ℕ
bvudiv_value n a b = cond (b == 0) (2 ^ n - 1) (a / b)

-- `bvurem`: "remainder by 0 the dividend"
abbrev pub bvurem_value : (a b : ℕ) → ℕ
bvurem_value a b = cond (b == 0) a (a % b)

-- `bvshl`: "a shift by n or more gives 0"
abbrev pub bvshl_value : (n a b : ℕ) → ℕ
bvshl_value n a b = cond (nat_lt b n) (a * 2 ^ b % 2 ^ n) 0

-- `bvlshr`: "a shift by n or more gives 0"
abbrev pub bvlshr_value : (n a b : ℕ) → ℕ
bvlshr_value n a b = cond (nat_lt b n) (a / 2 ^ b) 0

-- `bvult`
abbrev pub bvult_value : (a b : ℕ) → ℕ
bvult_value a b = truth (nat_lt a b)

-- `concat`, of which the second operand has width m: "`concat` puts its first operand high"
abbrev pub concat_value : (m a b : ℕ) → ℕ
concat_value m a b = a * 2 ^ m + b

-- `(_ extract i j)`: bits i down to j, "the width is i - j + 1"
abbrev pub extract_value : (i j a : ℕ) → ℕ
extract_value i j a = a / 2 ^ j % 2 ^ (i - j + 1)

-- The highest bit of a, of width n, is 1: SMT-LIB's `(= ((_ extract |m-1| |m-1|) s) #b1)` (`proofs/SignedValues: highest_bit`).
abbrev pub negative : (n a : ℕ) → Bool
negative n a = nat_le (2 ^ (n - 1)) a

-- The four cases of the highest bits of a and b, in SMT-LIB's order: both 0; 1 and 0; 0 and 1; both 1.
abbrev pub by_signs : (n a b : ℕ) → (neither first second both : ℕ) → ℕ
by_signs n a b neither first second both = cond (negative n a) (cond (negative n b) both first) (cond (negative n b) second neither)

-- SMT-LIB's `abs_s`: "(ite (= ?msb_s #b0) s (bvneg s))"
abbrev pub magnitude : (n a : ℕ) → ℕ
magnitude n a = cond (negative n a) (bvneg_value n a) a

-- The signed operators have SMT-LIB's own text (E4): what document 01 says of division by 0 and of shifts by n or more is said of `bvudiv`, `bvurem`, `bvshl`
-- and `bvlshr`, of which they are made.

-- `bvsdiv` (E4): "(bvudiv s t)", "(bvneg (bvudiv (bvneg s) t))", "(bvneg (bvudiv s (bvneg t)))", "(bvudiv (bvneg s) (bvneg t))"
abbrev pub bvsdiv_value : (n a b : ℕ) → ℕ
bvsdiv_value n a b =
    by_signs n a b (bvudiv_value n a b) (bvneg_value n (bvudiv_value n (bvneg_value n a) b)) (bvneg_value n (bvudiv_value n a (bvneg_value n b)))
    (bvudiv_value n (bvneg_value n a) (bvneg_value n b))

-- `bvsrem` (E4): "(bvurem s t)", "(bvneg (bvurem (bvneg s) t))", "(bvurem s (bvneg t))", "(bvneg (bvurem (bvneg s) (bvneg t)))"
abbrev pub bvsrem_value : (n a b : ℕ) → ℕ
bvsrem_value n a b =
    by_signs n a b (bvurem_value a b) (bvneg_value n (bvurem_value (bvneg_value n a) b)) (bvurem_value a (bvneg_value n b))
    (bvneg_value n (bvurem_value (bvneg_value n a) (bvneg_value n b)))

-- `bvsmod` (E4), where u is "(bvurem abs_s abs_t)": u where u is 0; else "u", "(bvadd (bvneg u) t)", "(bvadd u t)", "(bvneg u)"
abbrev pub bvsmod_value : (n a b : ℕ) → ℕ
bvsmod_value n a b =
    let u = bvurem_value (magnitude n a) (magnitude n b) in
    cond (u == 0) u (by_signs n a b u (bvadd_value n (bvneg_value n u) b) (bvadd_value n u b) (bvneg_value n u))

-- `bvashr` (E4): "(ite (= ((_ extract |m-1| |m-1|) s) #b0) (bvlshr s t) (bvnot (bvlshr (bvnot s) t)))"
abbrev pub bvashr_value : (n a b : ℕ) → ℕ
bvashr_value n a b = cond (negative n a) (bvnot_value n (bvlshr_value n (bvnot_value n a) b)) (bvlshr_value n a b)

-- `bvule` (E4): "(or (bvult s t) (= s t))"
abbrev pub bvule_value : (a b : ℕ) → ℕ
bvule_value a b = truth (nat_le a b)

-- `bvugt` (E4): "(bvult t s)"
abbrev pub bvugt_value : (a b : ℕ) → ℕ
bvugt_value a b = bvult_value b a

-- `bvuge` (E4): "(or (bvult t s) (= s t))"
abbrev pub bvuge_value : (a b : ℕ) → ℕ
bvuge_value a b = bvule_value b a

-- `bvslt` (E4): the highest bit of s is 1 and that of t is 0, or they are the same and "(bvult s t)".
abbrev pub bvslt_value : (n a b : ℕ) → ℕ
bvslt_value n a b = by_signs n a b (bvult_value a b) 1 0 (bvult_value a b)

-- `bvsle` (E4): the highest bit of s is 1 and that of t is 0, or they are the same and "(bvule s t)".
abbrev pub bvsle_value : (n a b : ℕ) → ℕ
bvsle_value n a b = by_signs n a b (bvule_value a b) 1 0 (bvule_value a b)

-- `bvsgt` (E4): "(bvslt t s)"
abbrev pub bvsgt_value : (n a b : ℕ) → ℕ
bvsgt_value n a b = bvslt_value n b a

-- `bvsge` (E4): "(bvsle t s)"
abbrev pub bvsge_value : (n a b : ℕ) → ℕ
bvsge_value n a b = bvsle_value n b a
