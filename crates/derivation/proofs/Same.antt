-- Labels that are the same: all that the proofs know of `SameLabel`.
use mathlib.Core.Path.{◌≡◌, refl, sym, ap, ◌∙◌}
use Prim.Native.Nat.{ℕ, zero, suc}
use mathlib.Core.Bool.{Bool, true, ◌&&◌}
use borrow.Author.Tests.{eq-eqb, eqb-true}
use lib.Dec.{eqb}
use Rattle.terms.specs.Labels.{Label, defined, function, literal, name, operator}
use Rattle.terms.specs.code.Nodes.{Plain, code_of, value_of}
use Rattle.terms.proofs.Bodies.{label_same}
use Rattle.derivation.specs.Derivation.{SameLabel}
use Rattle.derivation.proofs.PassedTests.{and_both, and-true}

-- a label is the same as itself
pub same_self : (l : Label) → SameLabel l l
same_self l = refl

-- they have the same numbers in the tables
pub same_numbers : (l m : Label) → SameLabel l m → (code_of l ≡ code_of m) × (value_of l ≡ value_of m)
same_numbers l m e = (ap code_of e, ap value_of e)

-- and the same numbers tell plain labels to be the same
pub same_told : (l m : Label) → Plain l → Plain m → code_of l ≡ code_of m → value_of l ≡ value_of m → SameLabel l m
same_told l m p q c v = label_same l m p q c v

-- a label as four numbers, which tell it
record Parts : Type 0 where
  kind : ℕ
  one : ℕ
  two : ℕ
  three : ℕ

parts : Label → Parts
parts (literal s v) = record { kind = 0; one = s; two = v; three = 0 }
parts (name s k) = record { kind = 1; one = s; two = k; three = 0 }
parts (operator o i j) = record { kind = 2; one = o; two = i; three = j }
parts (defined k) = record { kind = 3; one = k; two = 0; three = 0 }
parts (function k) = record { kind = 4; one = k; two = 0; three = 0 }

label_from : (kind one two three : ℕ) → Label
label_from zero a b c = literal a b
label_from (suc zero) a b c = name a b
label_from (suc (suc zero)) a b c = operator a b c
label_from (suc (suc (suc zero))) a b c = defined a
label_from (suc (suc (suc (suc k)))) a b c = function a

from_parts : (l : Label) → label_from (parts l).kind (parts l).one (parts l).two (parts l).three ≡ l
unfolding parts label_from
from_parts (literal s v) = refl
from_parts (name s k) = refl
from_parts (operator o i j) = refl
from_parts (defined k) = refl
from_parts (function k) = refl

-- whether two labels are the same
pub same? : Label → Label → Bool
same? l m =
    eqb (parts l).kind (parts m).kind && eqb (parts l).one (parts m).one && eqb (parts l).two (parts m).two && eqb (parts l).three (parts m).three

pub same_sound : (l m : Label) → same? l m ≡ true → SameLabel l m
unfolding same?
same_sound l m e =
    let a = and-true _ _ e in
    let b = and-true _ _ a.0 in
    let c = and-true _ _ b.0 in
    let kind : (parts l).kind ≡ (parts m).kind = eqb-true _ _ c.0 in
    let one : (parts l).one ≡ (parts m).one = eqb-true _ _ c.1 in
    let two : (parts l).two ≡ (parts m).two = eqb-true _ _ b.1 in
    let three : (parts l).three ≡ (parts m).three = eqb-true _ _ a.1 in
    sym (from_parts l) ∙ rw (kind, one, two, three) (from_parts m)

pub same_complete : (l m : Label) → SameLabel l m → same? l m ≡ true
unfolding same?
same_complete l m e =
    let at : (part : Parts → ℕ) → eqb (part (parts l)) (part (parts m)) ≡ true = λ part. eq-eqb _ _ (ap (λ (x : Label). part (parts x)) e) in
    and_both (and_both (and_both (at (λ p. p.kind)) (at (λ p. p.one))) (at (λ p. p.two))) (at (λ p. p.three))
