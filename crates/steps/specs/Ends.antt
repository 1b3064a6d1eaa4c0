-- What running the list of a body's steps comes to (E11): "Running the list on any arguments of the right sorts ends with the body's value alone on the stack.
-- After each step the stack holds exactly the values of the finished subterms whose parent is not finished, oldest lowest." A list and arguments have one
-- outcome, as `ran` is a function: what the runner gives is said by an equation.
use Rattle.std.specs.Prelude.{ℕ, ◌*◌, ◌≤◌, false, List, [], ◌∷◌, ◌≡◌, Ok, length, take}
use Rattle.std.proofs.Math.Option.{some}
use Rattle.forest.specs.Limits.{most_nodes}
use Rattle.operators.specs.Sorts.{AllFit}
use Rattle.terms.specs.Labels.{Terms}
use Rattle.terms.specs.Values.{Meaning, values_in}
use Rattle.terms.specs.declared.Value.{Value}
use Rattle.steps.specs.Stack.{as_values, ended, finished, node_count, ran, run_from, turned}
use Rattle.steps.specs.Steps.{steps_of, uses_defined}

-- A body that applies no function of the script, has a value over arguments of the right sorts, and at most 256 nodes.
pub record Body (sorts numbers : List ℕ) (t : Terms) : Type 0 where
  pub fit : AllFit sorts numbers
  pub small : node_count t ≤ most_nodes
  pub unused : uses_defined t ≡ false
  pub meaning : Meaning
  pub names : meaning.names ≡ as_values sorts numbers
  pub v : Value
  pub has : values_in meaning t ≡ some (v ∷ [])

-- The values of terms that have one each.
pub data EachHas (meaning : Meaning) : List Terms → List Value → Type 0 where
  no_more : EachHas meaning [] []
  also : {t : Terms} {v : Value} {ts : List Terms} {vs : List Value} → values_in meaning t ≡ some (v ∷ []) → EachHas meaning ts vs
      → EachHas meaning (t ∷ ts) (v ∷ vs)

-- The stack after the first n steps, the newest first: the values of what is finished and has no finished parent.
pub record Holds (meaning : Meaning) (t : Terms) (n : ℕ) : Type 0 where
  pub values : List Value
  pub each : EachHas meaning (finished n t) values
  pub stack : run_from meaning.names 0 (take (4 * n) (steps_of t)) [] ≡ ended (turned values)

-- What is said of the list.
pub record Stated {sorts numbers : List ℕ} {t : Terms} (b : Body sorts numbers t) : Type 0 where
  -- "The list has as many steps as the body has nodes"
  pub as_many : length (steps_of t) ≡ 4 * node_count t
  -- "ends with the body's value alone on the stack"
  pub alone : ran sorts numbers (steps_of t) ≡ Ok b.v
  -- "After each step the stack holds exactly the values .."
  pub after_each : (n : ℕ) → n ≤ node_count t → Holds b.meaning t n
