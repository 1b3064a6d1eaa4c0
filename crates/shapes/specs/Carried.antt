-- 6, "not carried".
use Rattle.std.specs.Prelude.{ℕ, zero, suc, Bool, false, cond, ◌&&◌, ◌||◌, not, [], ◌∷◌, eqb}
use Rattle.forest.specs.Forest.{count, none, tree}
use Rattle.words.specs.Trees.{Lexeme}
use Rattle.lexemes.specs.Lists.{Items, inside, is, is_among, is_constant_word, is_key, is_list, item}
use Rattle.lexemes.specs.Reserved.{carried_commands, other_commands}
use Rattle.shapes.specs.Shapes.{is_annotated, set_feature_shape, set_logic_shape}

-- A list begun by "`let`, `exists`, `forall`, `!`, or by `_` and then neither `BitVec` nor `extract`"; "Carry `(_ bv15 8)` too .. Answer 6 gives way to
-- it" (E3): nor the word of a constant.
abbrev pub uncarried_start : Items → Bool
uncarried_start ops =
    is_among ("let" ∷ "exists" ∷ "forall" ∷ "!" ∷ []) (item 0 ops)
    || is "_" (item 0 ops) && not (is_among ("BitVec" ∷ "extract" ∷ []) (item 1 ops) || is_constant_word (item 1 ops))

-- Whether any list among the items, or within one, begins so.
unfoldable pub any_uncarried : Items → Bool
any_uncarried none = false
any_uncarried (tree l ops more) = is_list l && uncarried_start ops || any_uncarried ops || any_uncarried more

-- The items before item n.
unfoldable pub before : ℕ → Items → Items
before zero F = none
before (suc n) none = none
before (suc n) (tree l ops more) = tree l ops (before n more)

-- A whole rule: one begun by `!` is not itself tested, but what it holds is: "rules written `(! t :weight k)`" (E13).
abbrev pub rule_uncarried : Lexeme → Items → Bool
rule_uncarried l ops = cond (is_annotated l ops) (any_uncarried ops) (any_uncarried (tree l ops none))

-- Whether anything is not carried in one of the items, each by a test of its own.
unfoldable pub any_of : (Lexeme → Items → Bool) → Items → Bool
any_of test none = false
any_of test (tree l ops more) = test l ops || any_of test more

-- Whether a list has n items and one more, which is a list.
abbrev pub ends_in_list : (n : ℕ) → Items → Bool
ends_in_list n ops = eqb (count ops) (suc n) && is_list (item n ops)

-- Such a list: the items before the last are tested whole, and of the last what begins it, and each of its items by a test of its own.
abbrev pub last_by : (n : ℕ) → (Lexeme → Items → Bool) → Items → Bool
last_by n test ops = any_uncarried (before n ops) || uncarried_start (inside n ops) || any_of test (inside n ops)

-- What a grammar lists of a non-terminal, where it has three parts and the third is a list: its rules are whole ones.
abbrev pub group_uncarried : Lexeme → Items → Bool
group_uncarried l ops = cond (is_list l && ends_in_list 2 ops) (uncarried_start ops || last_by 2 rule_uncarried ops) (any_uncarried (tree l ops none))

-- Whether anything in a carried command is not carried; with the feature, whole rules of a `synth-fun` of six items may be begun by `!`.
unfoldable pub command_uncarried : (weights : Bool) → Items → Bool
command_uncarried weights c =
    cond (weights && is "synth-fun" (item 0 c) && ends_in_list 5 c) (last_by 5 group_uncarried c) (any_uncarried c)

-- "set otherwise 6" (E13): `set-feature` with another feature, or with another value.
abbrev pub other_feature : Items → Bool
other_feature c = is "set-feature" (item 0 c) && set_feature_shape c && not (is_key ":weights" (item 1 c) && is "true" (item 2 c))

-- "another logic": `set-logic` with a symbol other than `BV`.
abbrev pub other_logic : Items → Bool
other_logic c = is "set-logic" (item 0 c) && set_logic_shape c && not (is "BV" (item 1 c))

-- "a `synth-fun` without grammar": three items follow its word, whatever they are, and no more.
abbrev pub no_grammar : Items → Bool
no_grammar c = is "synth-fun" (item 0 c) && eqb (count c) 4

-- "Other 2.1 commands, another logic, a `synth-fun` without grammar, and in a carried command any list begun by .. are answer 6"; "a weighted rule without
-- the feature is answer 6" (E13).
unfoldable pub is_not_carried : (weights : Bool) → Items → Bool
is_not_carried weights c =
    is_among other_commands (item 0 c) || other_feature c || other_logic c || no_grammar c || is_among carried_commands (item 0 c) && command_uncarried weights c
