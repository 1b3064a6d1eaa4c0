-- Where the words of a text start, and where each ends.
use Rattle.std.specs.Prelude.{ℕ, ◌+◌, Bool, false, cond, ◌&&◌, ◌||◌, not, List, [], ◌∷◌, drop, get_or, eqb}
use Prim.Native.Char.{code}

-- "White space is 9, 10, 13, 32."
abbrev pub white : ℕ → Bool
white b = eqb b 9 || eqb b 10 || eqb b 13 || eqb b 32

-- "A comment runs from `;` .."
abbrev pub comment_start : ℕ → Bool
comment_start b = eqb b (code ";")

-- ".. to the next 10 or 13 or the end, and may hold any byte."
abbrev pub comment_end : ℕ → Bool
comment_end b = eqb b 10 || eqb b 13

-- "A word is `(`, `)` .."
abbrev pub bracket : ℕ → Bool
bracket b = eqb b (code "(") || eqb b (code ")")

-- ".. or a longest run of bytes up to white space, a bracket, `;` or the end."
abbrev pub delimiter : ℕ → Bool
delimiter b = white b || bracket b || comment_start b

-- Whether the byte after b stands in a comment, where b itself does or does not stand in one.
-- "A comment runs from `;` to the next 10 or 13 or the end, and may hold any byte."
abbrev pub comment_after : (comment : Bool) → ℕ → Bool
comment_after comment b = comment && not (comment_end b) || not comment && comment_start b

-- Whether b belongs to a word that is no bracket: it is neither in a comment nor what ends a run.
abbrev pub in_run : (comment : Bool) → ℕ → Bool
in_run comment b = not (comment || delimiter b)

-- Whether a word starts at b, before which stands a byte of a run or not.
-- "A word is `(`, `)`, or a longest run of bytes up to white space, a bracket, `;` or the end."
abbrev pub starts : (comment run : Bool) → ℕ → Bool
starts comment run b = not comment && bracket b || not run && in_run comment b

-- The offsets at which the words of the bytes s start; the first byte of s stands at offset i, in a comment or not, after a byte of a run or not.
unfoldable pub starts_from : List ℕ → ℕ → (comment run : Bool) → List ℕ
starts_from [] i comment run = []
starts_from (b ∷ s) i comment run =
    let later = starts_from s (i + 1) (comment_after comment b) (in_run comment b) in
    cond (starts comment run b) (i ∷ later) later

-- The offsets at which the words of a text start.
unfoldable pub word_starts : List ℕ → List ℕ
word_starts text = starts_from text 0 false false

-- The offset of the first white space, bracket or `;` among the bytes s, which stand at offset i; past the last byte if there is none.
unfoldable pub run_end : List ℕ → ℕ → ℕ
run_end [] i = i
run_end (b ∷ s) i =
    let later = run_end s (i + 1) in
    cond (delimiter b) i later

-- The offset past the word that starts at offset a: a bracket is a word by itself.
unfoldable pub word_end : List ℕ → ℕ → ℕ
word_end text a = cond (bracket (get_or text a 0)) (a + 1) (run_end (drop (a + 1) text) (a + 1))
