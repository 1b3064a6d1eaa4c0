-- Places of decided readings and of other texts, computed from the definitions: the end of the word there, the line and the column, one table under one statement.
use Prim.Native.Nat.{ℕ}
use Prim.Native.String.{String}
use mathlib.Core.List.{List, [], ◌∷◌, map}
use mathlib.Core.Path.{◌≡◌, refl}
use Rattle.forest.specs.Lists.{spelling}
use Rattle.words.specs.Positions.{column_of, end_of, in_last_line, line_of, lines_ended}
use Rattle.words.specs.Spans.{run_end, starts_from, word_end, word_starts}
use Rattle.words.specs.Words.{bytes_at, enquired}

-- A place of a text, and what is carried of it: an end, a line and a column.
pub record Place : Type 0 where
  pub text : String
  pub place : ℕ
  pub numbers : List ℕ

-- One row of the table.
abbrev pub row : (text : String) → (place end line column : ℕ) → Place
row t p e l c = record { text = t; place = p; numbers = e ∷ l ∷ c ∷ [] }

-- What the definitions say of a place of a text.
abbrev pub placed : (text : List ℕ) → (place : ℕ) → List ℕ
placed text place = end_of text place ∷ line_of text place ∷ column_of text place ∷ []

-- The places.
abbrev places : List Place
places =
    row "" 0 0 1 1
    ∷ row "; (set-logic BV)\n ; )" 21 21 2 5
    ∷ row "(set-logic BV);c\r00\n(synth-fun f () Bool ((A Bool)) ((A Bool (true))))(check-synth)" 17 19 1 18
    ∷ row "(set-logic BV)\u{c}(synth-fun f () Bool ((A Bool)) ((A Bool (true))))(check-synth)" 14 15 1 15
    ∷ row "(set-logic BV)(declare-var x (_ BitVec 00))" 39 41 1 40
    ∷ row "0123456789" 0 10 1 1
    ∷ row "1234567890" 0 10 1 1
    ∷ row "1234567890a" 0 11 1 1
    ∷ row "#x" 0 2 1 1
    ∷ row "#x00000000000000000" 0 19 1 1
    ∷ row "#x0000000000000000g" 0 19 1 1
    ∷ row "#X0F" 0 4 1 1
    ∷ row "aaaaaaaaaaaaaaaaaaaaaaaaaaaaaaaaaaaaaaaaaaaaaaaaaaaaaaaaaaaaaaaa'" 0 65 1 1
    ∷ row "|aaaaaaaaaaaaaaaaaaaaaaaaaaaaaaaaaaaaaaaaaaaaaaaaaaaaaaaaaaaaaaaaaaaaaaaaaaaaaaaaaaaaaaaaaaaaaaaaaaaa" 0 101 1 1
    ∷ row "\"a b\"" 0 2 1 1
    ∷ row "a\"b\"" 0 4 1 1
    ∷ row "x#x0F" 0 5 1 1
    ∷ row ")" 0 1 1 1
    ∷ row "(set-logic 00" 11 13 1 12
    ∷ row "(((((((((((((((((((((((((((((((((((((((((((((((((((((((((((((((((a)))))))))))))))))))))))))))))))))))))))))))))))))))))))))))))))))" 64 65 1 65
    ∷ row "((((((((((((((((((((((((((((((((((((((((((((((((((((((((((((((((a))))))))))))))))))))))))))))))))))))))))))))))))))))))))))))))))" 0 1 1 1
    ∷ row "foo (set-logic BV)" 0 3 1 1
    ∷ row "(set-logic BV)()" 14 15 1 15
    ∷ row "(assume true)(set-logic BV)" 0 1 1 1
    ∷ row "(foo)(set-logic BV)" 0 1 1 1
    ∷ row "(constraint (let ((x true)) x))" 0 1 1 1
    ∷ row "(set-logic BV)(foo (let ((x true)) x))" 14 15 1 15
    ∷ row "(set-logic BV)(let ((x true)) x)" 14 15 1 15
    ∷ row "(set-logic BV)(set-logic BV)(synth-fun f () Bool ((A Bool)) ((A Bool (true))))(check-synth)" 14 15 1 15
    ∷ row "(set-logic BV)(set-logic LIA)" 14 15 1 15
    ∷ row "(set-logic LIA)" 0 1 1 1
    ∷ row "(set-logic LIA LIA)" 0 1 1 1
    ∷ row "(set-logic true)" 0 1 1 1
    ∷ row "(set-logic 5)" 0 1 1 1
    ∷ row "(set-logic BV)(check-synth)" 14 15 1 15
    ∷ row "(set-logic BV)(synth-fun f () Bool ((A Bool)) ((A Bool (true)))) " 65 65 1 66
    ∷ row "(set-logic BV)(synth-fun f () Bool ((A Bool)) ((A Bool (true))))(check-synth)(check-synth)" 77 78 1 78
    ∷ row "(set-logic BV)(synth-fun f () Bool ((A Bool)) ((A Bool (true))))(check-synth) x" 78 79 1 79
    ∷ row "(set-logic BV)(synth-fun f () Bool ((A Bool)) ((A Bool (true))))(check-synth)(assume true)" 77 78 1 78
    ∷ row "(set-logic BV)(define-fun-rec g () Bool true)" 14 15 1 15
    ∷ row "(set-logic BV)(declare-var assume Bool)(synth-fun f () Bool ((A Bool)) ((A Bool (true))))(check-synth)" 27 33 1 28
    ∷ row "(set-logic BV)(constraint (_))" 14 15 1 15
    ∷ row "(set-logic BV)(constraint (_ bv5 8))" 26 27 1 27
    ∷ row "(set-logic BV)(define-fun g ((let Bool)) Bool true)" 14 15 1 15
    ∷ row "(set-logic BV)(define-fun g ((_ Bool)) Bool true)" 14 15 1 15
    ∷ row "(set-logic BV)(define-fun g ((_ BitVec)) Bool true)" 30 31 1 31
    ∷ row "(set-logic BV)(synth-fun f () Bool ((A Bool)) ((A Bool (let))))" 14 15 1 15
    ∷ row "(set-logic BV)(declare-var let Bool)" 27 30 1 28
    ∷ row "(set-logic BV)(constraint let)" 26 29 1 27
    ∷ row "(set-logic BV)(synth-fun 5 x ())" 14 15 1 15
    ∷ row "(set-logic BV)(synth-fun f)" 14 15 1 15
    ∷ row "(set-logic BV)(synth-fun f () Bool ((A Bool (true))))" 14 15 1 15
    ∷ row "(set-logic BV)(declare-var x Int)" 29 32 1 30
    ∷ row "(set-logic BV)(declare-var x true)" 29 33 1 30
    ∷ row "(set-logic BV)(declare-var x 8)" 14 15 1 15
    ∷ row "(set-logic BV)(declare-var x (BitVec 8))" 14 15 1 15
    ∷ row "(set-logic BV)(declare-var x (List Bool))" 14 15 1 15
    ∷ row "(set-logic BV)(declare-var y (_ BitVec x))" 14 15 1 15
    ∷ row "(set-logic BV)(declare-var y (_ extract 7 0))" 14 15 1 15
    ∷ row "(set-logic BV)(declare-var y (_ BitVec 0))" 29 30 1 30
    ∷ row "(set-logic BV)(declare-var y (_ BitVec 65))" 39 41 1 40
    ∷ row "(set-logic BV)(declare-var y Bool)(declare-var y (_ BitVec 0))" 47 48 1 48
    ∷ row "(set-logic BV)(declare-var x (_ BitVec 8))(declare-var p Bool)(constraint (= x (_ BitVec 8)))" 62 63 1 63
    ∷ row "(set-logic BV)(declare-var x (_ BitVec 8))(declare-var p Bool)(constraint (= x (_ extract 7 0)))" 79 80 1 80
    ∷ row "(set-logic BV)(declare-var x (_ BitVec 8))(declare-var p Bool)(constraint (= x ((_ extract 7 0))))" 62 63 1 63
    ∷ row "(set-logic BV)(declare-var x (_ BitVec 8))(declare-var p Bool)(constraint (= x ((_ extract 7 x) x)))" 62 63 1 63
    ∷ row "(set-logic BV)(declare-var x (_ BitVec 8))(declare-var p Bool)(constraint (= x ((_ extract 3 4) x)))" 79 80 1 80
    ∷ row "(set-logic BV)(declare-var x (_ BitVec 8))(declare-var p Bool)(constraint ((_ BitVec 8) x))" 62 63 1 63
    ∷ row "(set-logic BV)(declare-var x (_ BitVec 8))(declare-var p Bool)(constraint (= x extract))" 79 86 1 80
    ∷ row "(set-logic BV)(declare-var x (_ BitVec 8))(declare-var p Bool)(constraint (= x (extract x)))" 79 80 1 80
    ∷ row "(set-logic BV)(declare-var extract Bool)(synth-fun f () Bool ((A Bool)) ((A Bool (true))))(check-synth)" 27 34 1 28
    ∷ row "(set-logic BV)(declare-var x (_ BitVec 8))(declare-var p Bool)(constraint (p))" 62 63 1 63
    ∷ row "(set-logic BV)(declare-var x (_ BitVec 8))(declare-var p Bool)(constraint (bvadd))" 62 63 1 63
    ∷ row "(set-logic BV)(declare-var x (_ BitVec 8))(declare-var p Bool)(constraint (q))" 62 63 1 63
    ∷ row "(set-logic BV)(declare-var x (_ BitVec 8))(declare-var p Bool)(constraint ())" 62 63 1 63
    ∷ row "(set-logic BV)(declare-var x (_ BitVec 8))(declare-var p Bool)(constraint (p p))" 74 75 1 75
    ∷ row "(set-logic BV)(declare-var x (_ BitVec 8))(declare-var p Bool)(constraint (= x bvadd))" 79 84 1 80
    ∷ row "(set-logic BV)(declare-var x (_ BitVec 8))(declare-var p Bool)(constraint (= x (bvadd 5)))" 86 87 1 87
    ∷ row "(set-logic BV)(declare-var x (_ BitVec 8))(declare-var p Bool)(constraint (and x 5))" 81 82 1 82
    ∷ row "(set-logic BV)(declare-var x (_ BitVec 8))(declare-var p Bool)(constraint (bvadd x (bvnot p)))" 83 84 1 84
    ∷ row "(set-logic BV)(declare-var x (_ BitVec 8))(declare-var p Bool)(constraint (true p))" 62 63 1 63
    ∷ row "(set-logic BV)(declare-var x (_ BitVec 8))(declare-var p Bool)(constraint (check-synth p))" 75 86 1 76
    ∷ row "(set-logic BV)(declare-var x (_ BitVec 8))(declare-var p Bool)(constraint (BitVec 8))" 75 81 1 76
    ∷ row "(set-logic BV)(declare-var x (_ BitVec 8))(declare-var p Bool)(constraint Constant)" 74 82 1 75
    ∷ row "(set-logic BV)(declare-var x (_ BitVec 8))(declare-var p Bool)(constraint (Constant Bool))" 62 63 1 63
    ∷ row "(set-logic BV)(declare-var x (_ BitVec 8))(declare-var p Bool)(constraint (and p p p))" 86 86 1 87
    ∷ row "(set-logic BV)(declare-var x (_ BitVec 8))(declare-var p Bool)(constraint (= x -5))" 79 81 1 80
    ∷ row "(set-logic BV)(declare-var x (_ BitVec 8))(declare-var p Bool)(constraint (= x 5.0))" 79 82 1 80
    ∷ row "(set-logic BV)(declare-var x Bool)(define-fun g ((x Bool)) Bool x)" 50 51 1 51
    ∷ row "(set-logic BV)(define-fun g ((g Bool)) Bool g)" 30 31 1 31
    ∷ row "(set-logic BV)(define-fun g ((x Bool) (x Bool)) Bool x)" 39 40 1 40
    ∷ row "(set-logic BV)(synth-fun f ((x Bool)) Bool ((x Bool)) ((x Bool (true))))" 45 46 1 46
    ∷ row "(set-logic BV)(synth-fun f () Bool ((f Bool)) ((f Bool (true))))(check-synth)" 37 38 1 38
    ∷ row "(set-logic BV)(synth-fun f () Bool ((A Bool) (A Bool)) ((A Bool (true)) (A Bool (true))))" 46 47 1 47
    ∷ row "(set-logic BV)(declare-var v Bool)(define-fun g () Bool v)" 56 57 1 57
    ∷ row "(set-logic BV)(define-fun g ((x Bool)) Bool (g x))" 45 46 1 46
    ∷ row "(set-logic BV)(synth-fun f () Bool ((A Bool)) ((A Bool (true))))(define-fun g () Bool f)" 86 87 1 87
    ∷ row "(set-logic BV)(declare-var v Bool)(synth-fun f () Bool ((A Bool)) ((A Bool (v))))" 76 77 1 77
    ∷ row "(set-logic BV)(synth-fun f () Bool ((A Bool)) ((A Bool (f))))" 56 57 1 57
    ∷ row "(set-logic BV)(synth-fun f () Bool ((A Bool)) ((A Bool (fail))))" 56 60 1 57
    ∷ row "(set-logic BV)(synth-fun f () Bool ((A Bool)) ((A Bool (true (A true)))))" 61 62 1 62
    ∷ row "(set-logic BV)(constraint f)(synth-fun f () Bool ((A Bool)) ((A Bool (true))))(check-synth)" 26 27 1 27
    ∷ row "(set-logic BV)(declare-var true Bool)" 27 31 1 28
    ∷ row "(set-logic BV)(declare-var 5 Bool)" 14 15 1 15
    ∷ row "(set-logic BV)(synth-fun f () Bool () ())(check-synth)" 36 37 1 37
    ∷ row "(set-logic BV)(synth-fun f () Bool ((A Bool) (B Bool)) ((A Bool (true))))(check-synth)" 71 72 1 72
    ∷ row "(set-logic BV)(synth-fun f () Bool ((A Bool)) ((A Bool (true)) (B Bool (true))))(check-synth)" 64 65 1 65
    ∷ row "(set-logic BV)(synth-fun f () Bool ((A Bool) (B Bool)) ((B Bool (true)) (A Bool (true))))(check-synth)" 57 58 1 58
    ∷ row "(set-logic BV)(synth-fun f () Bool ((A Bool)) ((Z Bool (true))))(check-synth)" 48 49 1 49
    ∷ row "(set-logic BV)(synth-fun f () Bool ((A Bool)) ((true Bool (true))))(check-synth)" 48 52 1 49
    ∷ row "(set-logic BV)(synth-fun f () Bool ((A Bool)) ((A (_ BitVec 8) (true))))(check-synth)" 48 49 1 49
    ∷ row "(set-logic BV)(synth-fun f () Bool ((A Bool)) ((A Int (true))))(check-synth)" 50 53 1 51
    ∷ row "(set-logic BV)(synth-fun f () Bool ((A Bool)) ((A Bool ())))(check-synth)" 56 57 1 57
    ∷ row "(set-logic BV)(synth-fun f () Bool ((A Bool)) ((A Bool)))(check-synth)" 14 15 1 15
    ∷ row "(set-logic BV)(synth-fun f () Bool ((A (_ BitVec 8))) ((A (_ BitVec 8) (#x00))))(check-synth)" 37 38 1 38
    ∷ row "(set-logic BV)(synth-fun f () Bool ((A Bool)) ((A Bool (#x00))))(check-synth)" 56 60 1 57
    ∷ row "(set-logic BV)(synth-fun f () Bool ((A Bool)) ((A Bool ((and A #x00)))))(check-synth)" 56 57 1 57
    ∷ row "(set-logic BV)(synth-fun f () Bool ((A Bool)) ((A Bool (5))))(check-synth)" 56 57 1 57
    ∷ row "(set-logic BV)(synth-fun f () Bool ((A Bool)) ((A Bool ((Constant (_ BitVec 8))))))(check-synth)" 56 57 1 57
    ∷ row "(set-logic BV)(synth-fun f () Bool ((A Bool)) ((A Bool ((Constant)))))(check-synth)" 14 15 1 15
    ∷ row "(set-logic BV)(synth-fun f () Bool ((A Bool)) ((A Bool (Constant Bool))))(check-synth)" 56 64 1 57
    ∷ row "(set-logic BV)(synth-fun f () Bool ((A Bool)) ((A Bool ((and (Constant Bool) A)))))(check-synth)" 14 15 1 15
    ∷ row "(set-logic BV)(synth-fun f () Bool ((Constant Bool)) ((Constant Bool (true))))(check-synth)" 37 45 1 38
    ∷ row "(set-logic BV)(synth-fun f () Bool ((A Bool) (B (_ BitVec 8))) ((A Bool (true B)) (B (_ BitVec 8) (#x00))))(check-synth)" 78 79 1 79
    ∷ row "(set-logic BV)(synth-fun f () Bool ((A Bool)) ((A (_ BitVec 8) (#x00))))(check-synth)" 48 49 1 49
    ∷ row "(set-logic BV)(declare-var x (_ BitVec 8))(declare-var p Bool)(constraint (and (p) (let ((q p)) q)) extra)" 62 63 1 63
    ∷ row "(set-logic BV)(define-fun g ((a (_ BitVec 65))) Bool (a))" 14 15 1 15
    ∷ row "(set-logic BV)(declare-var x (_ BitVec 8))(declare-var p Bool)(define-fun p ((a (_ BitVec 65))) Bool true)" 90 92 1 91
    ∷ row "(set-logic BV)(declare-var x (_ BitVec 8))(declare-var p Bool)(constraint (and 5 nosuch))" 81 87 1 82
    ∷ row "(set-logic BV)(synth-fun f () Bool ((A Bool)) ((A Bool (#x00 (and A 5)))))(check-synth)" 68 69 1 69
    ∷ row "(set-logic BV)(synth-fun f () Bool ((A (_ BitVec 8))) ((A (_ BitVec 65) (#x00))))(check-synth)" 68 70 1 69
    ∷ row "(set-logic BV)(synth-fun f () Bool ((A Bool)) ((A Bool (#x00))))(assume true)" 56 60 1 57
    ∷ row "; nothing\n" 10 10 2 1
    ∷ row "(fail)" 1 5 1 2
    ∷ row "fail fail" 0 4 1 1
    ∷ row "fail ((define-fun f () Bool true)(define-fun g ((x Bool)) Bool x))" 0 4 1 1
    ∷ row "()" 1 2 1 2
    ∷ row "() x" 1 2 1 2
    ∷ row "((define-fun f () Bool true)(define-fun g ((x Bool)) Bool x)) x" 62 63 1 63
    ∷ row "((define-fun f () Bool zz)(define-fun g ((x Bool)) Bool x)) x" 23 25 1 24
    ∷ row "((define-fun f () Bool true)(define-fun g ((x Bool)) Bool x)) ((define-fun h () Bool (let ((a true)) a)))" 62 63 1 63
    ∷ row "(define-fun f () Bool true)(define-fun g ((x Bool)) Bool x)" 1 11 1 2
    ∷ row "(((define-fun f () Bool true)(define-fun g ((x Bool)) Bool x)))" 1 2 1 2
    ∷ row "((assume true))" 1 2 1 2
    ∷ row "((define-fun-rec f () Bool true)(define-fun g ((x Bool)) Bool x))" 1 2 1 2
    ∷ row "((define-fun f () Bool (let ((a true)) a))(define-fun g ((x Bool)) Bool x))" 1 2 1 2
    ∷ row "((define-fun g ((x Bool)) Bool x)(define-fun f () Bool true))" 13 14 1 14
    ∷ row "((define-fun f () Bool true)) " 28 29 1 29
    ∷ row "((define-fun f () Bool true)(define-fun g ((x Bool)) Bool x)(define-fun f () Bool true))" 60 61 1 61
    ∷ row "((define-fun f () Bool true)(define-fun g ((x Bool)) Bool x)(define-fun h))" 60 61 1 61
    ∷ row "((define-fun f () Bool true)(define-fun g ((x Bool)) Bool x)(foo))" 60 61 1 61
    ∷ row "((define-fun f () Bool true)(define-fun g ((y Bool)) Bool x))" 44 45 1 45
    ∷ row "((define-fun f () Bool true)(define-fun g () Bool true))" 43 44 1 44
    ∷ row "((define-fun f ((x Bool)) Bool true)(define-fun g ((x Bool)) Bool x))" 16 17 1 17
    ∷ row "((define-fun f ((x (_ BitVec 9))) (_ BitVec 8) x))" 29 30 1 30
    ∷ row "((define-fun f () (_ BitVec 8) #x00)(define-fun g ((x Bool)) Bool x))" 18 19 1 19
    ∷ row "((define-fun f ((x (_ BitVec 0))) (_ BitVec 8) x))" 29 30 1 30
    ∷ row "((define-fun f () (_ BitVec 65) true)(define-fun g ((x Bool)) Bool x))" 28 30 1 29
    ∷ row "((define-fun f ((a Bool) (b Bool) (c Bool) (d Bool) (e Bool) (g Bool) (h Bool) (i Bool) (j Bool)) Bool true)(define-fun g ((x Bool)) Bool x))" 88 89 1 89
    ∷ row "((define-fun f () Int true)(define-fun g ((x Bool)) Bool x))" 18 21 1 19
    ∷ row "((define-fun f () Bool true)(define-fun g ((let Bool)) Bool true))" 28 29 1 29
    ∷ row "((define-fun f () Bool true)(define-fun g ((x Bool)) Bool A))" 58 59 1 59
    ∷ row "((define-fun f () Bool true)(define-fun g ((x Bool)) Bool f))" 58 59 1 59
    ∷ row "((define-fun f () Bool d))" 23 24 1 24
    ∷ row "((define-fun f () Bool v))" 23 24 1 24
    ∷ row "((define-fun f () Bool #x00)(define-fun g ((x Bool)) Bool x))" 23 27 1 24
    ∷ row "((define-fun f () Bool zz) (define-fun g ((x Bool)) Bool (let ((a x)) a)))" 23 25 1 24
    ∷ row "((define-fun f () Bool (not true)))" 34 35 1 35
    ∷ row "((define-fun f () Bool (not true)) (define-fun g ((x Bool)) Bool (and x x)))" 23 24 1 24
    ∷ row "(set-logic BV)(define-fun d () Bool true)(synth-fun f () Bool ((A Bool)) ((A Bool ((Variable Bool)))))(check-synth)" 64 65 1 65
    ∷ row "((set-logic BV))" 0 1 1 1
    ∷ row "(set-logic BV)(declare-var x (_ BitVec 8))(declare-var p Bool)(constraint (as p Bool))" 75 77 1 76
    ∷ row "(set-logic BV)(declare-var x (_ BitVec 8))(declare-var p Bool)(constraint (match p ((q q))))" 62 63 1 63
    ∷ row "(set-logic BV)(declare-var bvsdiv Bool)(synth-fun f () Bool ((A Bool)) ((A Bool (true))))(check-synth)" 27 33 1 28
    ∷ row "(set-logic BV)(declare-var x (_ BitVec 8))(declare-var p Bool)(constraint (bvsle x x))" 86 86 1 87
    ∷ row "(set-logic BV)(declare-var x (_ BitVec 8))(declare-var p Bool)(constraint (= x ((_ zero_extend 8) x)))" 62 63 1 63
    ∷ row "(set-logic BV)(declare-var x (_ BitVec 8))(declare-var p Bool)(declare-var z p)" 77 78 1 78
    ∷ row "(set-logic BV)(declare-var (_ BitVec 8) Bool)" 14 15 1 15
    ∷ row "(set-logic BV)(declare-var (_ x) Bool)" 14 15 1 15
    ∷ row "(set-logic BV)(define-fun g (x Bool) Bool x)" 14 15 1 15
    ∷ row "(set-logic BV)(define-fun g (let) Bool true)" 14 15 1 15
    ∷ row "(set-logic BV)(declare-var x (_ BitVec 8))(declare-var p Bool)(constraint (declare-var p Bool))" 75 86 1 76
    ∷ row "(set-logic BV)(declare-var x (_ BitVec 8))(declare-var p Bool)(constraint (foo bar))" 75 78 1 76
    ∷ row "(set-logic BV)(define-fun g ((x Bool)) Bool x)(constraint g)" 58 59 1 59
    ∷ row "(set-logic BV)(declare-var x (_ BitVec 8))(declare-var p Bool)(define-fun d () Bool true)(constraint (d p))" 101 102 1 102
    ∷ row "(set-logic BV)(declare-var x (_ BitVec 8))(declare-var p Bool)(define-fun d () Bool true)(constraint (d))" 89 90 1 90
    ∷ row "(set-logic BV)(declare-var x (_ BitVec 8))(declare-var p Bool)(constraint (and (bvult p p) (not x)))" 79 80 1 80
    ∷ row "(set-logic BV)(declare-var x (_ BitVec 8))(declare-var p Bool)(constraint (= x (bvadd x p)))" 79 80 1 80
    ∷ row "(set-logic BV)(declare-var a (_ BitVec 32))(declare-var b (_ BitVec 33))(constraint (= a (concat a b)))" 89 90 1 90
    ∷ row "(set-logic BV)(declare-var x (_ BitVec 8))(declare-var p Bool)(constraint (= x ((_ extract 8 0) x)))" 79 80 1 80
    ∷ row "(set-logic BV)(declare-var x (_ BitVec 8))(declare-var p Bool)(constraint (= x ((_ extract 999999999 0) x)))" 79 80 1 80
    ∷ row "(set-logic BV)(declare-var x (_ BitVec 8))(declare-var p Bool)(constraint (= x ((_ extract 7 0) x x)))" 79 80 1 80
    ∷ row "(set-logic BV)(define-fun g () Bool #x00)" 36 40 1 37
    ∷ row "(set-logic BV)(define-fun g ((a (_ BitVec 0))) Bool a)" 32 33 1 33
    ∷ row "(set-logic BV)(define-fun g ((a0 Bool) (a1 Bool) (a2 Bool) (a3 Bool) (a4 Bool) (a5 Bool) (a6 Bool) (a7 Bool) (a0 (_ BitVec 65))) Bool true)" 109 110 1 110
    ∷ row "(set-logic BV)(synth-fun f () Bool ((A Bool) (B Bool) (C Bool)) ((A Bool (true)) (C Bool (true))))(check-synth)" 82 83 1 83
    ∷ row "(set-logic BV)(synth-fun f () Bool ((A Bool)) ((A Bool (true)) (A Bool (true))))(check-synth)" 64 65 1 65
    ∷ row "(set-logic BV)(synth-fun f () Bool ((A Bool)) ((A Bool (B)) (B Bool (true))))(check-synth)" 56 57 1 57
    ∷ row "(set-logic BV)(synth-fun f () Bool () ((A Bool (true))))(check-synth)" 36 37 1 37
    ∷ row "(set-logic BV)(synth-fun f () Bool ((A Bool)) ())(check-synth)" 47 48 1 48
    ∷ row "(set-logic BV)(synth-fun f () Bool ((A Bool) (B Bool)) ((A Bool (B)) (B Bool (A))))(check-synth)" 37 38 1 38
    ∷ row "(set-logic BV)(synth-fun f () Bool ((A (_ BitVec 0))) ((A (_ BitVec 0) (true))))(check-synth)" 39 40 1 40
    ∷ row "(set-logic BV)(synth-fun f () Int ((A Bool)) ((A Bool (true))))(check-synth)" 30 33 1 31
    ∷ row "((define-fun f () Bool zz))" 23 25 1 24
    ∷ row "((define-fun f () Bool true)) ((define-fun g ((x Bool)) Bool x))" 28 29 1 29
    ∷ row "((define-fun f () Bool true)(define-fun f () Bool true))" 40 41 1 41
    ∷ row "((define-fun f () Bool true) x (define-fun g ((x Bool)) Bool x))" 29 30 1 30
    ∷ row "((define-fun h () Bool true) (define-fun))" 13 14 1 14
    ∷ row "((define-fun f () (_ BitVec 8) zz)(define-fun g ((x Bool)) Bool x))" 18 19 1 19
    ∷ row "((define-fun f () Bool (Constant Bool))(define-fun g ((x Bool)) Bool x))" 1 2 1 2
    ∷ row "((define-fun f () Bool (_ bv1 1))(define-fun g ((x Bool)) Bool x))" 23 24 1 24
    ∷ row "((define-fun f () Bool 1)(define-fun g ((x Bool)) Bool x))" 23 24 1 24
    ∷ row "((define-fun f () Bool x)(define-fun g ((x Bool)) Bool x))" 23 24 1 24
    ∷ row "((define-fun f () Bool (not true))(define-fun g ((x Bool)) Bool x))" 23 24 1 24
    ∷ row "(set-logic BV)(synth-fun f () Bool ((A Bool)) ((A Bool (_ BitVec 8))))(check-synth)" 56 57 1 57
    ∷ row "(set-info :sygus-version 2.1)(set-logic BV)(synth-fun f () Bool ((A Bool)) ((A Bool (true))))(check-synth)" 10 24 1 11
    ∷ row "(set-logic BV)(synth-fun f () Bool ((A Bool)) ((A Bool ((Constant Int)))))(check-synth)" 66 69 1 67
    ∷ row "(set-logic BV)(synth-fun f () Bool ((A Bool)) ((A Bool ((Constant (_ BitVec 0))))))(check-synth)" 66 67 1 67
    ∷ row "(set-logic BV)(declare-var v (_ BitVec #x8))" 14 15 1 15
    ∷ row "(set-logic BV)assume" 14 20 1 15
    ∷ row "(synth-fun f () Bool)" 0 1 1 1
    ∷ row "(set-logic BV)(assume)" 14 15 1 15
    ∷ row "(set-logic BV)(synth-fun f () Bool ())" 14 15 1 15
    ∷ row "(set-logic BV)(synth-fun f () Bool ((A Bool)))" 14 15 1 15
    ∷ row "(set-logic BV)(synth-fun f () Bool x)" 14 15 1 15
    ∷ row "(set-logic BV)(synth-fun f () Bool ((A Bool)) ((A Bool (true))) x)" 14 15 1 15
    ∷ row "(set-logic BV)(synth-fun)" 14 15 1 15
    ∷ row "(set-logic)" 0 1 1 1
    ∷ row "(set-logic (BV))" 0 1 1 1
    ∷ row "(set-logic (_ BV))" 0 1 1 1
    ∷ row "(set-logic BV)(synth-fun f () Bool ((A Bool)) ((A Bool (true false))))(check-synth (let))" 70 71 1 71
    ∷ row "(set-logic BV)(synth-fun f () Bool ((A Bool)) ((A Bool (true false))))(check-synth x)" 70 71 1 71
    ∷ row "(set-logic BV)(synth-fun f () Bool ((A Bool)) ((A Bool (true false))))(check-synth)(set-logic LIA)" 83 84 1 84
    ∷ row "(set-logic BV)(synth-fun f () Bool ((A Bool)) ((A Bool (true false))))(check-synth)(constraint (let ((a true)) a))" 83 84 1 84
    ∷ row "(set-logic BV)(synth-fun f () Bool ((A Bool)) ((A Bool (true false))))(check-synth)(synth-fun h () Bool)" 83 84 1 84
    ∷ row "(set-logic BV)(declare-var x (_ BitVec 8))(declare-var p Bool)(constraint (= x (_ extract 7)))" 62 63 1 63
    ∷ row "(set-logic BV)(declare-var x (_ BitVec 8))(declare-var p Bool)(constraint (= x (_ extract p x)))" 62 63 1 63
    ∷ row "(set-logic BV)(declare-var x (_ BitVec 8))(declare-var p Bool)(constraint (= x (_ BitVec 65)))" 62 63 1 63
    ∷ row "(set-logic BV)(declare-var x (_ BitVec 8))(declare-var p Bool)(constraint (((_ extract 7 0) x) x))" 62 63 1 63
    ∷ row "(set-logic BV)(declare-var x (_ BitVec 8))(declare-var p Bool)(constraint (= x (extract 7 0 x)))" 88 89 1 89
    ∷ row "(set-logic BV)(declare-var x (_ BitVec 8))(declare-var p Bool)(constraint (= x ((_ extract 0 0) p)))" 79 80 1 80
    ∷ row "(set-logic BV)(declare-var x (_ BitVec 8))(declare-var p Bool)(synth-fun f () Bool ((x Bool)) ((x Bool (true))))" 85 86 1 86
    ∷ row "(set-logic BV)(synth-fun f () Bool ((A Bool)) ((A Bool (true false))))(define-fun h ((f Bool)) Bool true)" 86 87 1 87
    ∷ row "(set-logic BV)(synth-fun f () Bool ((A Bool)) ((A Bool (true false))))(synth-fun h () Bool ((A Bool)) ((A Bool (f))))" 112 113 1 113
    ∷ row "(set-logic BV)(synth-fun f () Bool ((A Bool)) ((A Bool (true false))))(constraint A)" 82 83 1 83
    ∷ row "(set-logic BV)(define-fun h ((q Bool)) Bool q)(constraint q)" 58 59 1 59
    ∷ row "(set-logic BV)(synth-fun f () Bool ((A Bool)) (A Bool (true)))" 14 15 1 15
    ∷ row "(set-logic BV)(synth-fun f () Bool ((A Bool)) ((A Bool true)))" 14 15 1 15
    ∷ row "(set-logic BV)(synth-fun f () Bool (A Bool) ((A Bool (true))))" 14 15 1 15
    ∷ row "(set-logic BV)(synth-fun f () Bool ((A Bool)) ((A Bool (()))))" 14 15 1 15
    ∷ row "(set-logic BV)(synth-fun f () Bool ((A Bool)) (()))" 14 15 1 15
    ∷ row "(set-logic BV)(synth-fun f () Bool (()) ((A Bool (true))))" 14 15 1 15
    ∷ row "(set-logic BV)(synth-fun f ((x Bool)) Bool ((A Bool)) ((A Bool ((x)))))" 14 15 1 15
    ∷ row "(set-logic BV)(synth-fun f () Bool ((A Bool)) ((B Bool ())))" 48 49 1 49
    ∷ row "(set-logic BV)(synth-fun f () Bool ((A Bool)) ((_ BitVec (true))))" 50 56 1 51
    ∷ row "(set-logic BV)(synth-fun f () Bool ((A Bool)) ((A Bool (and))))" 56 59 1 57
    ∷ row "(set-logic BV)(synth-fun f () Bool ((A Bool)) ((A Bool ((_ BitVec 8)))))" 14 15 1 15
    ∷ row "(set-logic BV)(synth-fun f () Bool ((A Bool)) ((A Bool ((_ extract 7 0)))))" 56 57 1 57
    ∷ row "(set-logic BV)(synth-fun f () Bool ((A Bool)) ((A (_ BitVec 0) (true))))" 50 51 1 51
    ∷ row "(set-logic BV)(synth-fun f () Bool ((A Bool)) ((A Bool ((Constant (_ BitVec 65))))))" 76 78 1 77
    ∷ row "(set-logic BV)(declare-fun h () Bool)" 14 15 1 15
    ∷ row "(())" 1 2 1 2
    ∷ row "((define-fun f () Bool true)(define-fun g ((x Bool)) Bool x) x)" 61 62 1 62
    ∷ row "Fail" 0 4 1 1
    ∷ row "5" 0 1 1 1
    ∷ row "((define-fun f () Bool true)(define-fun g ((x Bool)) Bool x)(define-fun h () Bool (let ((a true)) a)))" 60 61 1 61
    ∷ row "((define-fun f () Bool true)(define-fun g ((x Bool) (y Bool)) Bool x))" 52 53 1 53
    ∷ row "((define-fun f Bool true))" 1 2 1 2
    ∷ row "((define-fun f () (_ BitVec x) true))" 1 2 1 2
    ∷ row "((define-fun 5 () Bool true))" 1 2 1 2
    ∷ row "((define-fun true () Bool true))" 13 17 1 14
    ∷ row "((define-fun h () Int true))" 13 14 1 14
    ∷ row "((define-fun f () Bool (true)))" 1 2 1 2
    ∷ row "((define-fun f () Bool let))" 23 26 1 24
    ∷ row "(set-logic BV)(declare-var x (_ BitVec 8))(declare-var p Bool)(constraint (and bvadd 5))" 79 84 1 80
    ∷ row "(set-logic BV)(declare-var x (_ BitVec 8))(declare-var p Bool)(constraint (and 5 Bool))" 81 85 1 82
    ∷ row "(set-logic BV)(declare-var x (_ BitVec 8))(declare-var p Bool)(constraint (Bool 5))" 75 79 1 76
    ∷ row "(set-logic BV)(declare-var x (_ BitVec 8))(declare-var p Bool)(constraint (and p !))" 81 82 1 82
    ∷ row "(set-logic BV)(declare-var x (_ BitVec 8))(declare-var p Bool)(constraint x)" 74 75 1 75
    ∷ row "(set-logic BV)(declare-var x (_ BitVec 8))(declare-var p Bool)(constraint (bvadd x x))" 74 75 1 75
    ∷ row "(set-logic BV)(declare-var x Bool)x" 34 35 1 35
    ∷ row "(set-logic BV)(declare-var x Bool))" 34 35 1 35
    ∷ row "(foo)(bar" 9 9 1 10
    ∷ row "(set-logic BV)(declare-var x (_ BitVec 8))(declare-var p Bool)(constraint (x (p) 5))" 62 63 1 63
    ∷ row "(set-logic BV)(declare-var x (_ BitVec 8))(declare-var p Bool)(constraint (= x (concat x x)))" 74 75 1 75
    ∷ row "(set-logic BV)(synth-fun f () Bool ((A Bool)) ((A Bool (true false))))(synth-fun f () Bool ((A Bool)) ((A Bool (true false))))" 81 82 1 82
    ∷ row "(check-synth)" 0 1 1 1
    ∷ row "(declare-var x Int)" 0 1 1 1
    ∷ row "(set-logic BV)(declare-var (let Bool))" 14 15 1 15
    ∷ row "(set-logic BV)(declare-var x)" 14 15 1 15
    ∷ row "(set-logic BV)(constraint)" 14 15 1 15
    ∷ row "(set-logic BV)(constraint true true)" 14 15 1 15
    ∷ row "(set-logic BV)(declare-var x ())" 14 15 1 15
    ∷ row "(set-logic BV)(define-fun h (()) Bool true)" 14 15 1 15
    ∷ row "(set-logic BV)(define-fun h (_ BitVec 8) Bool true)" 14 15 1 15
    ∷ row "(set-logic BV)(define-fun h ((x Bool Bool)) Bool true)" 14 15 1 15
    ∷ row "(set-logic BV)(Constant Bool)" 14 15 1 15
    ∷ row "(set-logic BV)(true)" 14 15 1 15
    ∷ row "(set-logic BV)(declare-var y (_ BitVec))" 14 15 1 15
    ∷ row "(set-logic BV)(declare-var y (_ BitVec 8 8))" 14 15 1 15
    ∷ row "(set-logic BV)(declare-var x (_ BitVec 8))(declare-var p Bool)(constraint (= x ((_ extract 7) x)))" 62 63 1 63
    ∷ row "(set-logic BV)(synth-fun f () Bool ((A Bool)) ((A Bool ((Constant Bool Bool)))))" 14 15 1 15
    ∷ row "(set-logic BV)(synth-fun f () Bool ((A Bool)) ((A Bool ((Constant 8)))))" 14 15 1 15
    ∷ row "(5)" 0 1 1 1
    ∷ row "(set-logic BV)(declare-var x (_ BitVec 8))(declare-var p Bool)(constraint (= x +))" 79 80 1 80
    ∷ row "#B1" 0 3 1 1
    ∷ row "(set-logic BV)(declare-var #x0 Bool)" 14 15 1 15
    ∷ row "(set-logic BV)\u{b}" 14 15 1 15
    ∷ row "(set-logic BV)\0" 14 15 1 15
    ∷ row "(set-logic BV)(synth-fun f () Bool ((A Bool)) ((A Bool ((Variable x)))))" 66 67 1 67
    ∷ row "(set-logic BV)(synth-fun f () Bool ((A Bool)) ((A Bool ((Constant true)))))" 66 70 1 67
    ∷ row "(set-logic BV)(synth-fun f () Bool ((A Bool)) ((A Bool ((Constant (Constant Bool))))))" 14 15 1 15
    ∷ row "(set-logic BV)(synth-fun f () Bool ((_ Bool)) ((A Bool (true))))" 14 15 1 15
    ∷ row "(set-logic BV)(declare-var x (_ BitVec 8))(declare-var p Bool)(constraint (= x (_ extract 7 0 x)))" 62 63 1 63
    ∷ row "ï»¿(set-logic BV)" 0 3 1 1
    ∷ row "(set-logic BV)(declare-var é Bool)" 27 28 1 28
    ∷ row "(set-logic BV)(declare-var y (_ BitVec 999999999))" 39 48 1 40
    ∷ row "(set-logic BV)(declare-var y (_ BitVec 1000000000))" 39 49 1 40
    ∷ row "(set-logic BV)(declare-var x (_ BitVec 8))(declare-var p Bool)(constraint (= TRUE p))" 77 81 1 78
    ∷ row "(set-logic BV)(define-fun h ((x Bool)) Bool x)(define-fun k ((h Bool)) Bool h)" 62 63 1 63
    ∷ row "(set-logic BV)(declare-var x Bool)(define-fun x () Bool true)" 46 47 1 47
    ∷ row "(set-logic BV)(synth-fun f () Bool ((A Bool)) ((A Bool (true false))))(declare-var f Bool)" 83 84 1 84
    ∷ row "(set-logic BV)(declare-var x (_ BitVec 8))(declare-var p Bool)(constraint ((let ((a p)) a) x))" 62 63 1 63
    ∷ row "(set-logic BV)(declare-var x (_ BitVec 8))(declare-var p Bool)(constraint (and _ p))" 79 80 1 80
    ∷ row "(set-logic BV)(declare-var x (_ BitVec 8))(declare-var p Bool)(constraint (exists))" 62 63 1 63
    ∷ row "(set-logic BV)(declare-var x (_ BitVec 8))(declare-var p Bool)(constraint (= x (bvand x)))" 79 80 1 80
    ∷ row "(set-logic BV)(declare-var x (_ BitVec 8))(declare-var p Bool)(constraint (= x (concat x)))" 79 80 1 80
    ∷ row "((constraint true))" 1 2 1 2
    ∷ row "((define-fun g ((x Bool)) Bool x))" 13 14 1 14
    ∷ row "((define-fun h () Bool true)(define-fun f () Bool true)(define-fun g ((x Bool)) Bool x))" 13 14 1 14
    ∷ row "(error \"x y\")" 7 9 1 8
    ∷ row "((let ((a b)) c))" 1 2 1 2
    ∷ row "((constraint (let ((a b)) c)))" 1 2 1 2
    ∷ row "((define-fun f () Bool true) x)" 29 30 1 30
    ∷ row "((define-fun f () Bool true)(define-fun g ((x Bool)) Bool x)(define-fun h () (_ BitVec 65) true))" 87 89 1 88
    ∷ row "((define-fun f () Bool true)(define-fun g ((x Bool)) Bool x)(define-fun h () Bool zz))" 60 61 1 61
    ∷ row "unknown" 0 7 1 1
    ∷ row "((define-fun f () Bool true)(define-fun g ((x Bool)) Bool x))(" 62 62 1 63
    ∷ row "((define-fun f () Bool (f)))" 1 2 1 2
    ∷ row "((define-fun f () (_ BitVec) true))" 1 2 1 2
    ∷ row "((define-fun f ((_ BitVec)) Bool true))" 16 17 1 17
    ∷ row "((define-fun f () let true))" 18 21 1 19
    ∷ row "(define-fun)" 1 11 1 2
    ∷ row "((define-fun))" 1 2 1 2
    ∷ row "((define-fun f () Bool true)(define-fun g ((x Bool)) Bool x) ())" 61 62 1 62
    ∷ row "((define-fun f () Bool true)(define-fun g (x Bool) Bool x))" 28 29 1 29
    ∷ row "((define-fun f () Bool (= #x1 #x1)))" 23 24 1 24
    ∷ row "(set-logic BV)(declare-var x (_ BitVec 8))(declare-var p Bool)(constraint (= x (_ bv5)))" 62 63 1 63
    ∷ row "(set-logic BV)(declare-var x (_ BitVec 8))(declare-var p Bool)(constraint (= x (_ bv5 x)))" 62 63 1 63
    ∷ row "(set-logic BV)(declare-var x (_ BitVec 8))(declare-var p Bool)(constraint (= x (_ bv 8)))" 62 63 1 63
    ∷ row "(set-logic BV)(declare-var x (_ BitVec 8))(declare-var p Bool)(constraint (= x (_ bv05 8)))" 62 63 1 63
    ∷ row "(set-logic BV)(declare-var x (_ BitVec 8))(declare-var p Bool)(constraint (= x (_ bv111111111111111111111 8)))" 82 105 1 83
    ∷ row "(set-logic BV)(declare-var x (_ BitVec 8))(declare-var p Bool)(constraint (= x (_ bv111111111111111111111 8))) 00" 111 113 1 112
    ∷ row "(set-logic BV)(declare-var y (_ BitVec 64))(constraint (= y (_ bv99999999999999999999 64)))" 60 61 1 61
    ∷ row "(set-logic BV)(declare-var x (_ BitVec 8))(declare-var p Bool)(constraint (= x (_ bv256 8)))" 79 80 1 80
    ∷ row "(set-logic BV)(declare-var x (_ BitVec 8))(declare-var p Bool)(constraint (= x (_ bv0 0)))" 79 80 1 80
    ∷ row "(set-logic BV)(declare-var x (_ BitVec 8))(declare-var p Bool)(constraint (= x (_ bv0 65)))" 86 88 1 87
    ∷ row "(set-logic BV)(declare-var x (_ BitVec 8))(declare-var p Bool)(constraint (= x (_ bv111111111111111111111 65)))" 82 105 1 83
    ∷ row "(set-logic BV)(declare-var x (_ BitVec 8))(declare-var p Bool)(constraint (= x ((_ bv5 8) x)))" 62 63 1 63
    ∷ row "(set-logic BV)(declare-var y (_ bv5 8))" 14 15 1 15
    ∷ row "(set-logic BV)(declare-var x (_ BitVec 8))(declare-var p Bool)(constraint (= x bv5))" 79 82 1 80
    ∷ row "(set-logic BV)(declare-var x (_ BitVec 8))(declare-var p Bool)(constraint (and p))" 74 75 1 75
    ∷ row "(set-logic BV)(declare-var x (_ BitVec 8))(declare-var p Bool)(constraint (and))" 62 63 1 63
    ∷ row "(set-logic BV)(declare-var x (_ BitVec 8))(declare-var p Bool)(constraint (= x (bvand x x x)))" 79 80 1 80
    ∷ row "(set-logic BV)(declare-var x (_ BitVec 8))(declare-var p Bool)(constraint (ite p p p p))" 74 75 1 75
    ∷ row "((define-fun f ((a Bool)) Bool (and a a a)))" 31 32 1 32
    ∷ row "((define-fun f ((a Bool)) Bool (and (and a a) a)))" 31 32 1 32
    ∷ row "(set-logic BV)(declare-var x (_ BitVec 8))(declare-var p Bool)(constraint (= x x p))" 74 75 1 75
    ∷ row "(set-logic BV)(synth-fun f () (_ BitVec 8) ((A (_ BitVec 8))) ((A (_ BitVec 8) ((_ bv256 8)))))(check-synth)" 80 81 1 81
    ∷ row "(set-logic BV)(define-fun g ((_ bv5)) Bool true)" 30 31 1 31
    ∷ row "(set-logic BV)(declare-var x (_ BitVec 8))(declare-var p Bool)(constraint (= x (_ bv111111111111111111111111111111111111111111111111111111111111111 8))) 00" 82 147 1 83
    ∷ row "(set-logic BV)(declare-var x (_ BitVec 8))(declare-var p Bool)(constraint (= (_ bv256 8) 5))" 77 78 1 78
    ∷ row "(set-logic BV)(declare-var x (_ BitVec 8))(declare-var p Bool)(constraint (= x bvsdiv))" 79 85 1 80
    ∷ row "(set-logic BV)(declare-var x (_ BitVec 8))(declare-var p Bool)(constraint (= x (bvnand x x)))" 80 86 1 81
    ∷ row "(set-logic BV)(declare-var x (_ BitVec 8))(declare-var p Bool)(constraint (bvandx x x))" 75 81 1 76
    ∷ row "(set-logic BV)(declare-var x (_ BitVec 8))(declare-var p Bool)(constraint (BVAND x x))" 75 80 1 76
    ∷ row "(assume true)(set-logic BV)(synth-fun f () Bool ((A Bool)) ((A Bool (true))))(check-synth)" 0 1 1 1
    ∷ row "(set-logic BV)(declare-var x (_ BitVec 8))(assume x)" 50 51 1 51
    ∷ row "(set-logic BV)\n" 15 15 2 1
    ∷ row "(set-logic BV)" 14 14 1 15
    ∷ row "(set-logic\rBV);\r00" 16 18 1 17
    ∷ row "\t;ÿ\r00" 4 6 1 5
    ∷ row "(set-logic BV)(foo)" 14 15 1 15
    ∷ row "00" 0 2 1 1
    ∷ row "(" 1 1 1 2
    ∷ row "( (define-fun f () Bool (not true)))" 24 25 1 25
    ∷ row "aaaaaaaaaaaaaaaaaaaaaaaaaaaaaaaaaaaaaaaaaaaaaaaaaaaaaaaaaaaaaaaaaaaaaa" 0 70 1 1
    ∷ row "(set-logic BV)(declare-var x Bool)(declare-var x Bool)" 47 48 1 48
    ∷ row "(set-logic BV)(constraint q)" 26 27 1 27
    ∷ row "(set-logic BV)(constraint v)(declare-var v Bool)" 26 27 1 27
    ∷ row "(set-logic BV)(declare-var v Bool)(declare-var w v)" 49 50 1 50
    ∷ row "(set-logic BV)(define-fun g ((g Bool)) Bool true)" 30 31 1 31
    ∷ row "(set-logic BV)(define-fun g ((a Bool) (a Bool)) Bool true)" 39 40 1 40
    ∷ row "(set-logic BV)(define-fun g ((a Bool) (a Bool) (a Bool)) Bool true)" 39 40 1 40
    ∷ row "(set-logic BV)(synth-fun f ((a Bool)) Bool ((a Bool)) ((a Bool (true))))" 45 46 1 46
    ∷ row "(set-logic BV)(synth-fun f () Bool ((A Bool) (B Bool)) ((A Bool (true)) (B Bool ((not B)))))(check-synth)" 46 47 1 47
    ∷ row "(set-logic BV)(synth-fun f ((x (_ BitVec 8))) Bool ((A Bool)) ((A Bool ((Variable Bool)))))(check-synth)" 53 54 1 54
    ∷ row "(set-logic BV)(synth-fun f () Bool ((A Bool) (B Bool)) ((A Bool (true #x00)) (B Bool ((not B)))))(check-synth)" 70 74 1 71
    ∷ row "(set-logic BV)(synth-fun f () Bool ((A Bool) (B Bool) (C Bool)) ((A Bool (true)) (B Bool (C)) (C Bool (B))))(check-synth)" 46 47 1 47
    ∷ row "(set-logic BV)(synth-fun f () Bool ((A Bool)) ((A Bool (A))))(declare-sort S 0)" 37 38 1 38
    ∷ row "(set-logic BV)(set-feature :weights true)(set-feature :weights true)(synth-fun f () Bool ((A Bool)) ((A Bool (true))))(check-synth)" 41 42 1 42
    ∷ row "(set-feature :weights true)(set-logic BV)(synth-fun f () Bool ((A Bool)) ((A Bool (true))))(check-synth)" 0 1 1 1
    ∷ row "(set-logic BV)(declare-var p Bool)(set-feature :weights true)(synth-fun f () Bool ((A Bool)) ((A Bool (true))))(check-synth)" 34 35 1 35
    ∷ row "(set-logic BV)(set-feature :weights false)(synth-fun f () Bool ((A Bool)) ((A Bool (true))))(check-synth)" 14 15 1 15
    ∷ row "(set-logic BV)(synth-fun f () Bool ((A Bool)) ((A Bool (true))))(set-feature :weights false)(check-synth)" 64 65 1 65
    ∷ row "(set-logic BV)(set-feature :weights x)(synth-fun f () Bool ((A Bool)) ((A Bool (true))))(check-synth)" 14 15 1 15
    ∷ row "(set-logic BV)(set-feature :weights 1)(synth-fun f () Bool ((A Bool)) ((A Bool (true))))(check-synth)" 14 15 1 15
    ∷ row "(set-logic BV)(set-feature :weight true)(synth-fun f () Bool ((A Bool)) ((A Bool (true))))(check-synth)" 14 15 1 15
    ∷ row "(set-logic BV)(set-feature :grammars true)(synth-fun f () Bool ((A Bool)) ((A Bool (true))))(check-synth)" 27 36 1 28
    ∷ row "(set-logic BV)(synth-fun f () Bool ((A Bool)) ((A Bool ((! true :weight 1)))))(check-synth)" 14 15 1 15
    ∷ row "(set-logic BV)(set-feature :weights true)(synth-fun f () Bool ((A Bool)) ((A Bool ((! true)))))(check-synth)" 41 42 1 42
    ∷ row "(set-logic BV)(set-feature :weights true)(synth-fun f () Bool ((A Bool)) ((A Bool ((! true :weight)))))(check-synth)" 41 42 1 42
    ∷ row "(set-logic BV)(set-feature :weights true)(synth-fun f () Bool ((A Bool)) ((A Bool ((! true :weight true)))))(check-synth)" 41 42 1 42
    ∷ row "(set-logic BV)(set-feature :weights true)(synth-fun f () Bool ((A Bool)) ((A Bool ((! true :weight 1 2)))))(check-synth)" 41 42 1 42
    ∷ row "(set-logic BV)(set-feature :weights true)(synth-fun f () Bool ((A Bool)) ((A Bool ((! :weight 1)))))(check-synth)" 41 42 1 42
    ∷ row "(set-logic BV)(set-feature :weights true)(synth-fun f () Bool ((A Bool)) ((A Bool (true (not (! A :weight 1))))))(check-synth)" 41 42 1 42
    ∷ row "(set-logic BV)(set-feature :weights true)(synth-fun f () Bool ((A Bool)) ((A Bool ((! (! true :weight 1) :weight 2)))))(check-synth)" 41 42 1 42
    ∷ row "(set-logic BV)(set-feature :weights true)(synth-fun f () Bool ((A Bool)) ((A Bool (true))))(constraint (! true :weight 1))(check-synth)" 91 92 1 92
    ∷ row "((define-fun f () Bool (! true :weight 1)))" 1 2 1 2
    ∷ row ":weight" 0 7 1 1
    ∷ row "(set-logic BV)(declare-var :weight Bool)(synth-fun f () Bool ((A Bool)) ((A Bool (true))))(check-synth)" 14 15 1 15
    ∷ row "(set-logic BV)(synth-fun f () Bool ((A Bool)) ((A Bool (true))))(constraint :weight)(check-synth)" 64 65 1 65
    ∷ row "(set-logic BV)(set-feature :weights2 true)" 27 36 1 28
    ∷ row "(set-logic BV)(set-feature :weights true)(synth-fun f () Bool ((A Bool)) ((A Bool ((! (Constant Bool) :weight 1)))))(check-synth)" 41 42 1 42
    ∷ row "(set-logic BV)(set-feature :weights true)(synth-fun f () Bool ((A Bool)) ((A Bool ((! true :weight 65536)))))(check-synth)" 99 104 1 100
    ∷ row "(set-logic BV)(set-feature :weights true)(synth-fun f () Bool ((A Bool)) ((A Bool ((! true :weight 1234567890)))))(check-synth) 00" 99 109 1 100
    ∷ row "(set-logic BV)(set-feature :weights true)(synth-fun f () Bool ((A Bool)) ((A Bool ((! true :weight 1 :weight 65536)))))(check-synth)" 109 114 1 110
    ∷ row "(set-logic BV)(set-feature :weights true)(synth-fun f () Bool ((A Bool)) ((A Bool (! true :weight 1))))(check-synth)" 41 42 1 42
    ∷ row "(set-logic BV)(set-feature :weights true)(synth-fun f () Bool ((A Bool)) ((A Bool (true (! #x00 :weight 1)))))(check-synth)" 88 89 1 89
    ∷ row "(set-logic BV)(set-feature :weights true)(synth-fun f () Bool ((A Bool)) ((A Bool (true (! (and A #x00) :weight 1)))))(check-synth)" 91 92 1 92
    ∷ row "(set-logic BV)(set-feature :weights true)(synth-fun f () Bool ((A Bool)) ((A Bool (true))))(constraint (= (_ weight f) #x00))(check-synth)" 91 92 1 92
    ∷ row "(set-logic BV)(set-feature :weights true)(declare-weight w)(synth-fun f () Bool ((A Bool)) ((A Bool (true))))(check-synth)" 41 42 1 42
    ∷ row "(set-logic BV)(synth-fun f () Bool ((A Bool)) ((A Bool ((! true :weight 1) (let ((a true)) a)))))(check-synth)" 14 15 1 15
    ∷ row "(set-feature :weights true)(synth-fun f () Bool ((A Bool)) ((A Bool (true))))(check-synth)" 0 1 1 1
    ∷ row "(set-logic BV)(set-feature :weights true)(synth-fun f () Bool ((A Bool)) ((A Bool ((! true :weight 1)) x)))(check-synth)" 41 42 1 42
    ∷ row "(set-logic BV)(set-feature :weights true)(synth-fun f () Bool ((A Bool)) ((A Bool ((! true :weight 1))) x))(check-synth)" 41 42 1 42
    ∷ row "(set-logic BV)(set-feature :weights true)(synth-fun f () Bool ((A Bool)) ((A Bool ((! true :weight :weight 3)))))(check-synth)" 41 42 1 42
    ∷ row "(set-logic BV)(set-feature :weights true)(synth-fun f () Bool ((A Bool)) ((A Bool ((! true :weights 3)))))(check-synth)" 41 42 1 42
    ∷ row "(set-logic BV) ;c" 17 17 1 18
    ∷ row "(set-logic\nBV)" 14 14 2 4
    ∷ row "(set-logic\nBV" 13 13 2 3
    ∷ row "; nothing" 9 9 1 10
    ∷ row "((define-fun f ()\n Bool true)" 29 29 2 12
    ∷ row "(set-logic BV)\n\n" 16 16 3 1
    ∷ row "(set-logic BV);c\n" 17 17 2 1
    ∷ row "\n" 1 1 2 1
    ∷ row "(set-logic\nBV\n" 14 14 3 1
    ∷ row "((define-fun f ()\n Bool true)\n" 30 30 3 1
    ∷ row "(set-logic BV)\r" 15 15 1 16
    ∷ row "(set-logic BV)\n\r" 16 16 2 2
    ∷ row "(set-logic BV)\r\n" 16 16 2 1
    ∷ row "(\r" 2 2 1 3
    ∷ row "\n00" 1 3 2 1
    ∷ row "\n\n\n00" 3 5 4 1
    ∷ row ";c\n00" 3 5 2 1
    ∷ row "(set-logic BV)\n(foo)" 15 16 2 1
    ∷ row "(\n00)" 2 4 2 1
    ∷ row "\r00" 1 3 1 2
    ∷ row "(set-logic\r\rBV)\r00" 16 18 1 17
    ∷ row ";c\r00" 3 5 1 4
    ∷ row "\r\n00" 2 4 2 1
    ∷ row "\n\r00" 2 4 2 2
    ∷ row ";c\n;d\r 00" 7 9 2 5
    ∷ row "(\r\n\r00)" 4 6 2 2
    ∷ row "\t00" 1 3 1 2
    ∷ row "\n \t\t00" 4 6 2 4
    ∷ row "(\t00)" 2 4 1 3
    ∷ row ";Ã©\r00" 4 6 1 5
    ∷ row ";ÿ\n00" 3 5 2 1
    ∷ row ";â\u{80}¨\r\t00" 6 8 1 7
    ∷ row "((define-fun f () Bool;éè\rx))" 26 27 1 27
    ∷ row ";\0\u{b}\u{c}\u{1c}\u{1d}\u{1e}\u{85}\r00" 9 11 1 10
    ∷ row "aaaaaaaaaaaaaaaaaaaaaaaaaaaaaaaaaaaaaaaaaaaaaaaaaaaaaaaaaaaaaaaaa" 0 65 1 1
    ∷ row "aaaaaaaaaaaaaaaaaaaaaaaaaaaaaaaaaaaaaaaaaaaaaaaaaaaaaaaaaaaaaaaaa\n" 0 65 1 1
    ∷ row "aaaaaaaaaaaaaaaaaaaaaaaaaaaaaaaaaaaaaaaaaaaaaaaaaaaaaaaaaaaaaaaaaaaaaa\n" 0 70 1 1
    ∷ row "1111111111" 0 10 1 1
    ∷ row "1111111111\n" 0 10 1 1
    ∷ row "#x00000000000000000\n" 0 19 1 1
    ∷ row "#b00000000000000000000000000000000000000000000000000000000000000000" 0 67 1 1
    ∷ row "#b00000000000000000000000000000000000000000000000000000000000000000\n" 0 67 1 1
    ∷ row "(set-logic BV)\n(synth-fun f () Bool\n  ((A Bool))\n  ((A Bool (true (not A)))))\n(constraint aaaaaaaaaaaaaaaaaaaaaaaaaaaaaaaaaaaaaaaaaaaaaaaaaaaaaaaaaaaaaaaaaaaaaa)\n(check-synth)\n" 90 160 5 13
    ∷ row "((define-fun f () Bool\naaaaaaaaaaaaaaaaaaaaaaaaaaaaaaaaaaaaaaaaaaaaaaaaaaaaaaaaaaaaaaaaaaaaaa))\n" 23 93 2 1
    ∷ row "1a" 0 2 1 1
    ∷ row "#" 0 1 1 1
    ∷ row "#xg" 0 3 1 1
    ∷ row "a'b" 0 3 1 1
    ∷ row "Ã©" 0 2 1 1
    ∷ row "ÿ" 0 1 1 1
    ∷ row "\0\u{b}\u{c}" 0 3 1 1
    ∷ row "\u{85}\u{a0}" 0 2 1 1
    ∷ row ":kkkkkkkkkkkkkkkkkkkkkkkkkkkkkkkkkkkkkkkkkkkkkkkkkkkkkkkkkkkkkkkkkkkkkk" 0 71 1 1
    ∷ row "|a\nb|" 0 2 1 1
    ∷ row "\"(a)\"" 0 1 1 1
    ∷ row "00\n" 0 2 1 1
    ∷ row "00\r" 0 2 1 1
    ∷ row "00\t" 0 2 1 1
    ∷ row "00 " 0 2 1 1
    ∷ row "00;c" 0 2 1 1
    ∷ row "00(" 0 2 1 1
    ∷ row "00)" 0 2 1 1
    ∷ row "00\n00" 0 2 1 1
    ∷ row "00\r00" 0 2 1 1
    ∷ row "))" 0 1 1 1
    ∷ row "(set-logic BV))" 14 15 1 15
    ∷ row "(set-logic BV)\n(synth-fun f () Bool\n  ((A Bool))\n  ((A Bool (true (not A)))))\n(constraint true))\n(check-synth)\n" 95 96 5 18
    ∷ row "())" 2 3 1 3
    ∷ row "((define-fun f () Bool true))\n)\n" 30 31 2 1
    ∷ row "((set-logic) BV)" 0 1 1 1
    ∷ row "((((((((((((((((((((((((((((((((((((((((((((((((((((((((((((((((((a))" 64 65 1 65
    ∷ row "(set-logic BV)\n(synth-fun f () Bool\n  ((A Bool))\n  ((A Bool (true (not A)))))\n  (foo (bar))\n(check-synth)\n" 80 81 5 3
    ∷ row "((foo))" 1 2 1 2
    ∷ row "(\n\t(foo)\n)\n" 3 4 2 2
    ∷ row "(set-logic BV)\n(synth-fun f () Bool\n  ((A Bool))\n  ((A Bool (true (not A)))))\n(constraint 00)\n(check-synth)\n" 90 92 5 13
    ∷ row "(set-logic BV)\n(synth-fun f () Bool\n  ((A Bool))\n  ((A Bool (true (not A)))))\n\n)\n(check-synth)\n" 79 80 6 1
    ∷ row "(set-logic BV)\n(synth-fun f () Bool\n  ((A Bool))\n  ((A Bool (true (not A)))))\n(declare-var v\n  (_ BitVec 65))\n(check-synth)\n" 105 107 6 13
    ∷ row "(set-logic BV)\n(synth-fun f () Bool\n  ((A Bool))\n  ((A Bool (true (not A)))))\n(constraint\n(= #x0 (_ bv111111111111111111111 4)))\n(check-synth)\n" 100 123 6 11
    ∷ row "(set-logic BV)\n(synth-fun f () Bool\n  ((A Bool))\n  ((A Bool (true (not A)))))\n\n foo\n(check-synth)\n" 80 83 6 2
    ∷ row "(set-logic BV)\n(synth-fun f () Bool\n  ((A Bool))\n  ((A Bool (true (not A)))))\n(constraint\n(true))\n(check-synth)\n" 78 79 5 1
    ∷ row "(set-logic BV)\n(synth-fun f () Bool\n  ((A Bool))\n  ((A Bool (true (not A)))))\n(define-sort\nB () Bool)\n(check-synth)\n" 78 79 5 1
    ∷ row "(set-logic BV)\n(synth-fun f () Bool\n  ((A Bool))\n  ((A Bool (true (not A)))))\n(constraint\n\"x\")\n(check-synth)\n" 90 93 6 1
    ∷ row "(set-logic BV)\n(synth-fun f () Bool\n  ((A Bool))\n  ((A Bool (true (not A)))))\n(constraint\n(not unknown))\n(check-synth)\n" 95 102 6 6
    ∷ row "(set-logic BV)\n(synth-fun f () Bool\n  ((A Bool))\n  ((A Bool (true (not A)))))\n(declare-var\n\tand Bool)\n(check-synth)\n" 92 95 6 2
    ∷ row "(set-logic BV)\n(synth-fun f () Bool\n  ((A Bool))\n  ((A Bool (true (not A)))))\n(constraint\n\n#x00)\n(check-synth)\n" 91 95 7 1
    ∷ row "(set-logic BV)\n(synth-fun f () Bool\n  ((A Bool))\n  ((A Bool (true (not A)))))\n(declare-var x\n (_ BitVec\n0))\n(check-synth)\n" 94 95 6 2
    ∷ row "(set-logic BV)\n(synth-fun f () Bool\n  ((A Bool))\n  ((A Bool (true (not A)))))\n(synth-fun g () Bool ((B Bool))\n((B Bool (true #x00))))\n(check-synth)\n" 125 129 6 16
    ∷ row "(set-logic BV)\n(synth-fun f () Bool\n  ((A Bool))\n  ((A Bool (true (not A)))))\n(synth-fun g () Bool ((B Bool))\n((B Bool (\n))))\n(check-synth)\n" 121 122 7 1
    ∷ row "(set-logic BV)\n(synth-fun f () Bool\n  ((A Bool))\n  ((A Bool (true (not A)))))\n(synth-fun g () Bool ((B Bool))\n(\n (C Bool (true))))\n(check-synth)\n" 114 115 7 3
    ∷ row "(\n(define-fun f () Bool\n#xg))\n" 24 27 3 1
    ∷ row "((define-fun f () Bool true))\n\n  )\n" 33 34 3 3
    ∷ row "(\n(define-fun f () Bool\n 1234567890))\n" 25 35 3 2
    ∷ row "(\n\n(foo))\n" 3 4 3 1
    ∷ row "((define-fun f () Bool true))\ntrue\n" 30 34 2 1
    ∷ row "(\n(define-fun f () Bool\n(let ((a true)) a)))\n" 2 3 2 1
    ∷ row "(error\n\"no\")\n" 7 11 2 1
    ∷ row "(\n(define-fun f () Bool\n(not other)))\n" 29 34 3 6
    ∷ row "(\n(define-fun f () Bool\n(or true\n(not #x00))))\n" 33 34 4 1
    ∷ row "(\n(define-fun f () Bool\n5))\n" 24 25 3 1
    ∷ row "((define-fun\ng () Bool true))\n" 13 14 2 1
    ∷ row "(\n(define-fun f () (_ BitVec 8)\n#x00))\n" 19 20 2 18
    ∷ row "(\n\n )\n" 4 5 3 2
    ∷ row "(\n(define-fun f () Bool true)\n\n(define-fun g () Bool true))\n" 31 32 4 1
    ∷ row "(\n(define-fun f () Bool\n  false))\n" 26 31 3 3
    ∷ row "((define-fun f () Bool\n(and true\ntrue)))\n" 23 24 2 1
    ∷ row "(\n(define-fun f () Bool true)\n(define-fun g () (_ BitVec 8)\n\n\t(_ bv1 8)))\n" 62 63 5 2
    ∷ row "(\n(define-fun f () Bool true)(define-fun g () (_ BitVec 8)\n#b00000001))\n" 59 69 3 1
    ∷ row "((define-fun f () Bool x))" 23 24 1 24
    ∷ row "(set-logic BV)(constraint x)" 26 27 1 27
    ∷ row ";\n\n00" 3 5 3 1
    ∷ []

-- The definitions say so of every one of them.
pub located : map (λ (p : Place). placed (spelling p.text) p.place) places ≡ map (λ (p : Place). p.numbers) places
unfolding bytes_at column_of end_of enquired in_last_line line_of lines_ended run_end starts_from word_end word_starts
located = refl
