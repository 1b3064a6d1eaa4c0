-- Function j of a script that passes and its body, in script order: what is known of them.
use Prim.Native.Nat.{ℕ, zero, suc, ◌+◌, ◌≤◌, ◌<◌}
use native.Mathlib.Nat.{suc-add}
use native.Mathlib.Omega.{arith}
use mathlib.Core.Path.{◌≡◌, refl, ap}
use mathlib.Core.List.{List, [], ◌∷◌}
use mathlib.Core.Option.{some}
use lib.ListN.{drop, length}
use Rattle.forest.specs.Limits.{most_nodes}
use Rattle.forest.specs.code.Cursors.{size}
use Rattle.terms.specs.Sorts.{sorts_of as termSorts}
use Rattle.names.specs.Scopes.{Defined, Function}
use Rattle.term_faults.specs.Faults.{scope_of}
use Rattle.script.specs.Response.{Body, response_view}
use Rattle.outcome.specs.code.Assured.{BodiesFit}

-- Function j and its body, of the function's sort and with no more nodes than it may have.
pub record Both (defs : List Defined) (fs : List Function) (bs : List Body) (j : ℕ) : Type 0 where
  pub function : Function
  pub body : Body
  pub function_is : drop j fs ≡ function ∷ drop (j + 1) fs
  pub body_is : drop j bs ≡ body ∷ drop (j + 1) bs
  pub sort : termSorts (scope_of (response_view defs function)).terms body.term ≡ some (function.result ∷ [])
  pub few : size body.term ≤ most_nodes

-- They are there.
pub both : (defs : List Defined) (fs : List Function) (bs : List Body) (j : ℕ) → BodiesFit defs fs bs → j < length fs → Both defs fs bs j
unfolding BodiesFit
both defs [] bs j fit low = absurd (omega arith)
both defs (f ∷ fs) [] j fit low = absurd fit
both defs (f ∷ fs) (b ∷ bs) zero fit low =
    record { function = f; body = b; function_is = refl; body_is = refl; sort = fit.0; few = fit.1 }
both defs (f ∷ fs) (b ∷ bs) (suc j) fit low =
    let r = both defs fs bs j fit.2 (omega arith) in
    record {
      function = r.function;
      body = r.body;
      function_is = rw suc-add r.function_is;
      body_is = rw suc-add r.body_is;
      sort = r.sort;
      few = r.few;
    }

-- There is a body for each function.
pub as_many : (defs : List Defined) (fs : List Function) (bs : List Body) → BodiesFit defs fs bs → length bs ≡ length fs
unfolding BodiesFit
as_many defs [] [] fit = refl
as_many defs [] (b ∷ bs) fit = absurd fit
as_many defs (f ∷ fs) [] fit = absurd fit
as_many defs (f ∷ fs) (b ∷ bs) fit = ap suc (as_many defs fs bs fit.2)
