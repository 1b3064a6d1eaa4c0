-- Which command it is: a word is not two of the commands' words.
use Prim.Native.Nat.{ℕ}
use Prim.Native.String.{String}
use mathlib.Core.Bool.{Bool, true, false}
use mathlib.Core.List.{List}
use mathlib.Core.Path.{◌≡◌, refl, subst}
use Rattle.forest.specs.Lists.{same_bytes, spelling}
use Rattle.lexemes.specs.Reserved.{is_word}
use Rattle.lexemes.specs.Lists.{Items, is, item, name_of}
use Rattle.forest.proofs.Searching.{same_bytes_lem}

-- The tests of a command's word: whether it declares a variable, defines a function, synthesizes one, constrains, assumes.
pub record Tests (c : Items) (declared defined synthesized constrained assumed : Bool) : Type 0 where
  pub declares : is "declare-var" (item 0 c) ≡ declared
  pub defines : is "define-fun" (item 0 c) ≡ defined
  pub synthesizes : is "synth-fun" (item 0 c) ≡ synthesized
  pub constrains : is "constraint" (item 0 c) ≡ constrained
  pub assumes : is "assume" (item 0 c) ≡ assumed

-- A command is one of the five, or none of them.
pub data Command (c : Items) : Type 0 where
  declaring : Tests c true false false false false → Command c
  defining : Tests c false true false false false → Command c
  synthesizing : Tests c false false true false false → Command c
  constraining : Tests c false false false true false → Command c
  assuming : Tests c false false false false true → Command c
  another : Tests c false false false false false → Command c

-- A name that is one word is no other.
pub other_word : (one other : String) → is_word other (spelling one) ≡ false → (name : List ℕ) → is_word one name ≡ true → is_word other name ≡ false
other_word one other differ name h = subst (λ (n : List ℕ). is_word other n ≡ false) (same_bytes_lem (spelling one) name h) differ

-- Every command is one of these.
pub command : (c : Items) → Command c
unfolding same_bytes
command c =
    go (is "declare-var" (item 0 c)) (is "define-fun" (item 0 c)) (is "synth-fun" (item 0 c)) (is "constraint" (item 0 c)) (is "assume" (item 0 c))
    refl refl refl refl refl
  where
    name : List ℕ
    name = name_of (item 0 c)

    go : (declared defined synthesized constrained assumed : Bool) → is "declare-var" (item 0 c) ≡ declared → is "define-fun" (item 0 c) ≡ defined
        → is "synth-fun" (item 0 c) ≡ synthesized → is "constraint" (item 0 c) ≡ constrained → is "assume" (item 0 c) ≡ assumed → Command c
    go true f s t a d e g h i = declaring (record {
      declares = d;
      defines = other_word "declare-var" "define-fun" refl name d;
      synthesizes = other_word "declare-var" "synth-fun" refl name d;
      constrains = other_word "declare-var" "constraint" refl name d;
      assumes = other_word "declare-var" "assume" refl name d;
    })
    go false true s t a d e g h i = defining (record {
      declares = d;
      defines = e;
      synthesizes = other_word "define-fun" "synth-fun" refl name e;
      constrains = other_word "define-fun" "constraint" refl name e;
      assumes = other_word "define-fun" "assume" refl name e;
    })
    go false false true t a d e g h i = synthesizing (record {
      declares = d;
      defines = e;
      synthesizes = g;
      constrains = other_word "synth-fun" "constraint" refl name g;
      assumes = other_word "synth-fun" "assume" refl name g;
    })
    go false false false true a d e g h i =
        constraining (record { declares = d; defines = e; synthesizes = g; constrains = h; assumes = other_word "constraint" "assume" refl name h })
    go false false false false true d e g h i = assuming (record { declares = d; defines = e; synthesizes = g; constrains = h; assumes = i })
    go false false false false false d e g h i = another (record { declares = d; defines = e; synthesizes = g; constrains = h; assumes = i })
