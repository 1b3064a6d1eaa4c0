-- What the tests of the items of a list ask.
use Rattle.std.specs.Prelude.{ℕ, ◌≤◌, true, List, ◌≡◌}
use Rattle.forest.specs.Forest.{count, tree}
use Rattle.lexemes.specs.Lists.{Items, inside, item}
use Rattle.lexemes.specs.code.Standing.{ListAt, Stands}
use Rattle.shapes.specs.Carried.{ends_in_list}

-- A list of n items or more stands at word i.
pub record Long (lexemes : List ℕ) (i n : ℕ) : Type 0 where
  pub here : ListAt lexemes i
  pub enough : (x : ListAt lexemes i) → n ≤ count x.operands

-- A list of n items and one more, which is a list, stands at word i.
pub record EndsInList (lexemes : List ℕ) (i n : ℕ) : Type 0 where
  pub here : ListAt lexemes i
  pub ending : (x : ListAt lexemes i) → ends_in_list n x.operands ≡ true

-- Item n of a list stands at word i.
pub record ItemOf {lexemes : List ℕ} {list : ℕ} (here : ListAt lexemes list) (n i : ℕ) : Type 0 where
  pub more : Items
  pub end : ℕ
  pub stands : Stands here.source i (tree (item n here.operands) (inside n here.operands) more) end
