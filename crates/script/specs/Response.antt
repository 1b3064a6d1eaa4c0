-- Responses: "A response is `(`, one `define-fun` per function in script order, names and sorts as declared, `)`; another list in it is 5."
use Rattle.std.specs.Prelude.{ℕ, ◌-◌, min, Bool, cond, ◌&&◌, not, List, [], ◌∷◌, ◌++◌, eqb, ltb, drop, length}
use Rattle.forest.specs.Forest.{count, none, tree}
use Rattle.terms.specs.Labels.{Terms}
use Rattle.words.specs.Trees.{word_of}
use Rattle.headers.specs.Tokens.{differing, header_of, header_tokens, words_in}
use Rattle.shapes.specs.Carried.{any_uncarried}
use Rattle.headers.specs.Heads.{header_past}
use Rattle.forest.specs.Limits.{Counts}
use Rattle.script.specs.Limits.{node_past}
use Rattle.lexemes.specs.Lists.{Items, close_of, inside, is, is_list, item}
use Rattle.script.specs.Naming.{term_names}
use Rattle.names.specs.Scopes.{Defined, Function, View}
use Rattle.script.specs.Script.{term_of}
use Rattle.shapes.specs.Shapes.{define_fun_shape}
use Rattle.term_faults.specs.Faults.{body_fault}

-- "a response body see[s] the function's arguments and the `define-fun`s before that `synth-fun`": the script's `define-fun`s stand the last first.
abbrev pub response_view : (defs : List Defined) → Function → View
response_view defs f = record { names = f.arguments; defined = drop (length defs - f.before) defs; functions = []; non_terminals = [] }

-- A body that was read, with its first word.
pub record Body : Type 0 where
  pub first : ℕ
  pub term : Terms

-- A refusal by its number and the word at fault, past the last word for the end of the text (10 and 11 have the place 0 and no word); or the bodies, in order.
pub data Answered : Type 0 where
  refused : (number place : ℕ) → Answered
  bodies : List Body → Answered

-- One body more in front.
abbrev pub with_body : Body → Answered → Answered
with_body t (refused number place) = refused number place
with_body t (bodies ts) = bodies (t ∷ ts)

-- A `define-fun` of a response for the function f: "the response's commands likewise, each `define-fun` being shape and limits, header 12, then 7 and 8";
-- what follows where it passes is `later`.
unfoldable pub judged_body : Counts → (nowhere : ℕ) → (defs : List Defined) → Function → (at : ℕ) → Items → (later : Answered) → Answered
judged_body counts nowhere defs f at c later =
    let view = response_view defs f in
    let limit = min (header_past counts nowhere c) (node_past counts nowhere (item 4 c) (inside 4 c)) in
    let header = differing nowhere (words_in (header_of c)) (header_tokens f) in
    let name = term_names nowhere view (item 4 c) (inside 4 c) in
    let sort = body_fault nowhere view f.result (item 4 c) (inside 4 c) in
    cond (not (is "define-fun" (item 0 c))) (refused 5 at)
    (cond (any_uncarried c) (refused 6 at)
    (cond (not (define_fun_shape c)) (refused 5 at)
    (cond (ltb limit nowhere) (refused 4 limit)
    (cond (ltb header nowhere) (refused 12 header)
    (cond (ltb name nowhere) (refused 7 name)
    (cond (ltb sort nowhere) (refused 8 sort)
    (with_body (record { first = word_of (item 4 c); term = term_of view (item 4 c) (inside 4 c) }) later)))))))

-- A `define-fun` past the last function: shape and limits, then "one too many: its bracket".
unfoldable pub judged_extra : Counts → (nowhere at : ℕ) → Items → Answered
judged_extra counts nowhere at c =
    let limit = min (header_past counts nowhere c) (node_past counts nowhere (item 4 c) (inside 4 c)) in
    cond (not (is "define-fun" (item 0 c))) (refused 5 at)
    (cond (any_uncarried c) (refused 6 at)
    (cond (not (define_fun_shape c)) (refused 5 at)
    (cond (ltb limit nowhere) (refused 4 limit)
    (refused 12 at))))

-- The items of the outer list, for the functions that are left, in script order; `close` is the outer list's last bracket, and `after` what follows it.
unfoldable pub judged_all : Counts → (nowhere : ℕ) → (defs : List Defined) → (close : ℕ) → List Function → Items → (after : Answered) → Answered
judged_all counts nowhere defs close [] none after = after
judged_all counts nowhere defs close (f ∷ fs) none after = refused 12 close
judged_all counts nowhere defs close [] (tree l c more) after = cond (is_list l) (judged_extra counts nowhere (word_of l) c) (refused 5 (word_of l))
judged_all counts nowhere defs close (f ∷ fs) (tree l c more) after =
    let later = judged_all counts nowhere defs close fs more after in
    cond (is_list l) (judged_body counts nowhere defs f (word_of l) c later) (refused 5 (word_of l))

-- Behind the outer list nothing may stand.
abbrev pub nothing_behind : Items → Answered
nothing_behind none = bodies []
nothing_behind (tree l c more) = refused 5 (word_of l)

-- "10 and 11 (the text is that one word)"
abbrev pub is_alone : (items : Items) → Bool
is_alone items = eqb (count items) 1

-- The response of a script whose functions are in script order: 10, 11, 5 where it is no list, or what its commands give.
unfoldable pub answered : Counts → (nowhere : ℕ) → (defs : List Defined) → List Function → Items → Answered
answered counts nowhere defs fs none = refused 5 nowhere
answered counts nowhere defs fs (tree l c more) =
    cond (is "fail" l && is_alone (tree l c more)) (refused 10 0)
    (cond (is "infeasible" l && is_alone (tree l c more)) (refused 11 0)
    (cond (is_list l) (judged_all counts nowhere defs (close_of l) fs c (nothing_behind more))
    (refused 5 (word_of l))))

-- Functions that stand the last first, in script order.
unfoldable pub in_script_order : List Function → List Function
in_script_order [] = []
in_script_order (f ∷ earlier) = in_script_order earlier ++ f ∷ []
