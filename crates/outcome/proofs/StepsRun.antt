-- Running the list of steps of an accepted body: the body has a value for arguments of the right sorts, and the run ends with it alone on the stack.
use Prim.Native.Nat.{ℕ, suc, ◌+◌, ◌*◌, ◌≤◌, ◌<◌}
use native.Mathlib.Nat.{zero-add}
use native.Mathlib.Omega.{arith}
use mathlib.Core.Bool.{true, false}
use mathlib.Core.List.{List, [], ◌∷◌}
use mathlib.Core.Option.{Option, some}
use mathlib.Core.Path.{◌≡◌, refl, sym, ap, subst₂, ◌∙◌}
use borrow.Author.Tests.{eq-eqb, ne_eqb}
use lib.ListN.{drop, length, take}
use lib.Seq.{drop_at, sets, sets-eq, take_at}
use Rattle.forest.proofs.Nodes.{length_nodes}
use Rattle.forest.specs.Limits.{most_nodes}
use Rattle.forest.specs.code.Cursors.{size}
use Rattle.words.specs.Limits.{response_limits}
use Rattle.operators.specs.Sorts.{AllFit}
use Rattle.operators.specs.Sorts.AllFit.{no_more, also}
use Rattle.terms.proofs.Sound.{OneValue, one_value}
use Rattle.terms.specs.Labels.{Terms}
use Rattle.terms.specs.Sorts.{Definition, same_sorts, sorts_of as termSorts}
use Rattle.terms.specs.Values.{called, defined_value, function_value, meaning_at, numbers_in, result_of, sorts_in}
use Rattle.terms.specs.code.Sorted.{FunctionsSorted}
use Rattle.terms.specs.declared.Value.{Value}
use Rattle.steps.proofs.Ends.{stated}
use Rattle.steps.proofs.Lists.{as_many}
use Rattle.steps.specs.Ends.{Body as Runnable}
use Rattle.steps.specs.Stack.{as_values, node_count}
use Rattle.steps.specs.Steps.{steps_of, uses_defined}
use Rattle.names.specs.Scopes.{Defined, Function, named_sorts, signature_of}
use Rattle.term_faults.specs.Faults.{scope_of}
use Rattle.script.specs.Script.{Known, definitions_of}
use Rattle.script.specs.Response.{Body, in_script_order, response_view}
use Rattle.outcome.specs.Checked.{Passing}
use Rattle.outcome.specs.Derived.{terms_of}
use Rattle.outcome.specs.Evaluated.{completed, functions_with}
use Rattle.outcome.specs.StepList.{FunctionAt, ListStated, Runs, StepList, area_missized, here, later, listed, no_function, not_accepted}
use Rattle.outcome.specs.StepList.{step_numbers, uses_define}
use Rattle.outcome.specs.code.Assured.{BodiesFit}
use Rattle.outcome.specs.declared.Answer.{Answer}
use Rattle.outcome.proofs.Promised.{script_sorted}
use Rattle.outcome.proofs.ResponseFits.{response_fits}
use Rattle.outcome.proofs.Sorts.{seen_by_all}
use Rattle.outcome.proofs.StepsOnce.{at_below}

-- The sorts of numbers as values are those that were given along.
as_sorts : {ss vs : List ℕ} → AllFit ss vs → sorts_in (as_values ss vs) ≡ ss
unfolding as_values
as_sorts no_more = refl
as_sorts (also {s = s} f more) = ap (λ (l : List ℕ). s ∷ l) (as_sorts more)

-- Their numbers are the numbers.
as_numbers : {ss vs : List ℕ} → AllFit ss vs → numbers_in (as_values ss vs) ≡ vs
unfolding as_values
as_numbers no_more = refl
as_numbers (also {v = v} f more) = ap (λ (l : List ℕ). v ∷ l) (as_numbers more)

-- Sorts are the same as themselves.
same_self : (ss : List ℕ) → same_sorts ss ss ≡ true
unfolding same_sorts
same_self [] = refl
same_self (s ∷ ss) = rw (eq-eqb s s refl, same_self ss)

-- What a body gives is its one value, where that is of the result's sort.
gives_one : {m : Option (List Value)} {v : Value} {result : ℕ} → m ≡ some (v ∷ []) → v.sort ≡ result → result_of result m ≡ some v
unfolding result_of
gives_one {v = v} {result = result} is sort = rw (is, eq-eqb v.sort result sort)

module _ (defs : List Definition) (vs : List Value) where
  -- A function keeps its value where others come behind it.
  kept : (fs : List Function) (ts : List Terms) (earlier : List Definition) (j : ℕ) → j < length earlier
      → function_value defs (completed fs ts earlier) j vs ≡ function_value defs earlier j vs
  unfolding completed function_value
  kept [] ts earlier j h = refl
  kept (f ∷ fs) [] earlier j h = refl
  kept (f ∷ fs) (t ∷ ts) earlier j h =
      let differs : j ≡ length earlier → ⊥ = λ e. absurd (omega arith) in
      kept fs ts (record { signature = signature_of f; body = t } ∷ earlier) j (omega arith) ∙ rw (ne_eqb j (length earlier) differs)

  -- A function by its number gives what its body does.
  function_gives : {fs : List Function} {ts : List Terms} (earlier : List Definition) {j : ℕ} {f : Function} {t : Terms} → FunctionAt fs ts j f t
      → function_value defs (completed fs ts earlier) (length earlier + j) vs ≡ called (defined_value defs) (record { signature = signature_of f; body = t }) vs
  unfolding completed function_value
  function_gives earlier (here {f = f} {t = t} {fs = fs} {ts = ts}) =
      let n = length earlier in
      let one : Definition = record { signature = signature_of f; body = t } in
      let last : n + 0 ≡ n = omega arith in
      ap (λ (j : ℕ). function_value defs (completed fs ts (one ∷ earlier)) j vs) last ∙ kept fs ts (one ∷ earlier) n (omega arith) ∙ rw (eq-eqb n n refl)
  function_gives earlier (later {f = f} {t = t} {fs = fs} {ts = ts} {j = j} a) =
      let one : Definition = record { signature = signature_of f; body = t } in
      let next : length earlier + suc j ≡ suc (length earlier) + j = omega arith in
      ap (λ (i : ℕ). function_value defs (completed fs ts (one ∷ earlier)) i vs) next ∙ function_gives (one ∷ earlier) a

-- A body of a response that passes has its function's sort, and few nodes.
record Fitting (defs : List Defined) (f : Function) (t : Terms) : Type 0 where
  sort : termSorts (scope_of (response_view defs f)).terms t ≡ some (f.result ∷ [])
  few : size t ≤ most_nodes

-- So has that of the function of a number.
body_fits : (defs : List Defined) (fs : List Function) (bs : List Body) {j : ℕ} {f : Function} {t : Terms} → BodiesFit defs fs bs
    → FunctionAt fs (terms_of bs) j f t → Fitting defs f t
unfolding BodiesFit
body_fits defs [] [] fit a = let h = at_below a in absurd (omega arith)
body_fits defs [] (b ∷ bs) fit a = absurd fit
body_fits defs (f ∷ fs) [] fit a = absurd fit
body_fits defs (f ∷ fs) (b ∷ bs) fit here = record { sort = fit.0; few = fit.1 }
body_fits defs (f ∷ fs) (b ∷ bs) fit (later a) = body_fits defs fs bs fit.2 a

module _ {script response points area : List ℕ} {k : Known} {bs : List Body} (p : Passing script response points area k bs)
    {function : ℕ} {f : Function} {t : Terms} (a : FunctionAt (in_script_order k.functions) (terms_of bs) function f t) where
  -- What is known of the body.
  fitting : Fitting k.defined f t
  fitting = body_fits k.defined (in_script_order k.functions) bs (response_fits response_limits k response p.gives) a

  -- It has no more nodes than a body may have.
  pub small : node_count t ≤ most_nodes
  small = omega (arith, fitting.few, length_nodes t)

  module _ {numbers : List ℕ} (fit : AllFit (named_sorts f.arguments) numbers) where
    -- The arguments.
    abbrev point : List Value
    point = as_values (named_sorts f.arguments) numbers

    -- The body has one value for them.
    value-of : OneValue (meaning_at (definitions_of k.defined) [] point) t f.result
    unfolding FunctionsSorted
    value-of =
        let defs = definitions_of k.defined in
        one_value defs [] (script_sorted script p.says).bodies tt point (subst₂ AllFit (sym (as_sorts fit)) (sym (as_numbers fit)) fit) t
        (rw (as_sorts fit) (seen_by_all k.defined f t fitting.sort))

    -- It is what the function gives for them.
    function_has : function_value (definitions_of k.defined) (functions_with k (terms_of bs)) function point ≡ some value-of.v
    unfolding called function_value
    function_has =
        let defs = definitions_of k.defined in
        let funs = functions_with k (terms_of bs) in
        ap (λ (j : ℕ). function_value defs funs j point) (sym (zero-add function)) ∙ function_gives defs point [] a
        ∙ rw (as_sorts fit, same_self (named_sorts f.arguments)) (gives_one value-of.is value-of.sort)

    -- The run of its list.
    pub runs : uses_defined t ≡ false → Runs k bs function f t numbers
    runs none_used =
        let body : Runnable (named_sorts f.arguments) numbers t =
        record {
          fit = fit;
          small = small;
          unused = none_used;
          meaning = meaning_at (definitions_of k.defined) [] point;
          names = refl;
          v = value-of.v;
          has = value-of.is;
        } in
        record { body = body; meaning_is = refl; gives = function_has; stated = stated body }

-- A list of steps in front of an area.
in_front : (t : Terms) (area : List ℕ) → uses_defined t ≡ false → node_count t ≤ most_nodes → length area ≡ step_numbers
    → (take (4 * node_count t) (sets area 0 (steps_of t)) ≡ steps_of t) × (drop (4 * node_count t) (sets area 0 (steps_of t)) ≡ drop (4 * node_count t) area)
in_front t area u few sized =
    let n = 4 * node_count t in
    let long : length (steps_of t) ≡ n = as_many t u in
    let is = sets-eq (steps_of t) area 0 (omega (arith, long)) in
    let rest = drop (0 + length (steps_of t)) area in (
      ap (take n) is ∙ take_at (steps_of t) rest n long,
      ap (drop n) is ∙ drop_at (steps_of t) rest n long ∙ ap (λ (m : ℕ). drop m area) (zero-add (length (steps_of t)) ∙ long),
    )

-- "Running the list on any arguments of the right sorts ends with the body's value alone on the stack. After each step the stack holds exactly the values of the
-- finished subterms whose parent is not finished, oldest lowest.": of every list that is given, for accepted texts.
pub list_stated : {script response points : List ℕ} {budget function : ℕ} {area : List ℕ} {answer : Answer} {count : ℕ} {areaAfter : List ℕ}
    → StepList script response points budget function area answer count areaAfter → answer.outcome.number ≡ 0
    → ListStated script response points function area count areaAfter
list_stated (area_missized m) e = absurd (omega arith)
list_stated (not_accepted s c n) e = absurd (n e)
list_stated (no_function s p l) e = absurd (omega arith)
list_stated (uses_define s p a u) e = absurd (omega arith)
list_stated {area = area} (listed {k = k} {bs} {f} {t} s p a u) e =
    let front = in_front t area u (small p.passing a) s in
    record {
      k = k;
      bs = bs;
      f = f;
      t = t;
      passing = p.passing;
      at = a;
      as_many = refl;
      list_is = front.0;
      rest_is = front.1;
      runs = λ numbers fit. runs p.passing a fit u;
    }
