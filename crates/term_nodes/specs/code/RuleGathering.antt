-- What the gathering of rules asks and gives. Definitions that serve a step.
use Rattle.std.specs.Prelude.{ℕ, ◌+◌, ◌-◌, ◌*◌, ◌≤◌, min, true, List, ◌++◌, [], ◌∷◌, ◌≡◌, length}
use Rattle.forest.specs.Forest.{none, tree}
use Rattle.forest.specs.code.Cursors.{size}
use Rattle.words.specs.Trees.{Lexeme}
use Rattle.lexemes.specs.Lists.{Items}
use Rattle.lexemes.specs.code.Standing.{Source, Stands}
use Rattle.shapes.specs.Shapes.{all, group_shape, rule_shape}
use Rattle.term_nodes.specs.code.Table.{uncounted_table, row_width}
use Rattle.term_nodes.specs.Rules.{Ruled, nodes_past, rule_past, rules_in, rules_of, sides, weight_in}
use Rattle.term_nodes.specs.declared.Gathered.{Gathered}
use Rattle.derivation.specs.code.Rules.{rule_width}
use Rattle.forest.specs.Limits.{most_nodes, most_rules}

-- Three numbers for each rule: the node where its right side starts, its non-terminal, and its weight.
unfoldable pub start_table : (start : ℕ) → List Ruled → List ℕ
start_table start [] = []
start_table start (r ∷ more) = start ∷ r.head ∷ weight_in r ∷ start_table (start + size r.side) more

-- The rules `done` are gathered: their nodes stand in the first rows of one table, where each starts, its non-terminal and its weight in another, which has room
-- for `most`; there is a node for each rule or more; the word past a limit is found; and the tables are as long as those that were lent.
pub record Holds (nowhere most nodes : ℕ) (rawLent rulesLent raw rules : List ℕ) (done : List Ruled) (g : Gathered) : Type 0 where
  pub rest : List ℕ
  pub raw_is : raw ≡ uncounted_table (sides done) ++ rest
  pub raw_long : length raw ≡ length rawLent
  pub rows : g.row ≡ size (sides done)
  pub counted : g.rule ≡ length done
  pub few : g.rule ≤ g.row
  pub more : List ℕ
  pub rules_are : g.rule ≤ most → rules ≡ start_table 0 done ++ more
  pub rules_long : length rules ≡ length rulesLent
  pub room : rule_width * most ≤ length rules
  pub place_is : g.place ≡ min (rule_past nowhere most done) (nodes_past nowhere nodes done)

-- A rule stands at word i, behind rules that are gathered, and there is a row for each of its words.
pub record RuleAt (lexemes : List ℕ) (i : ℕ) (nowhere most nodes : ℕ) (raw rules : List ℕ) (g : Gathered) : Type 0 where
  pub source : Source
  pub same : source.lexemes ≡ lexemes
  pub label : Lexeme
  pub operands : Items
  pub end : ℕ
  pub stands : Stands source i (tree label operands none) end
  pub shaped : rule_shape label operands ≡ true
  pub done : List Ruled
  pub holds : Holds nowhere most nodes raw rules raw rules done g
  pub room : row_width * (g.row + (end - i)) ≤ length raw

-- That rule of the non-terminal A is gathered behind those before it.
abbrev pub RuleGathered : {lexemes : List ℕ} {i nowhere most nodes : ℕ} {raw rules : List ℕ} {g : Gathered}
    → RuleAt lexemes i nowhere most nodes raw rules g → (A : ℕ) → (rawAfter rulesAfter : List ℕ) → Gathered → Type 0
RuleGathered {nowhere = nowhere} {most = most} {nodes = nodes} {raw = raw} {rules = rules} p A rawAfter rulesAfter g =
    Holds nowhere most nodes raw rules rawAfter rulesAfter (p.done ++ rules_of A (tree p.label p.operands none)) g

-- Rules of a shape stand from word i to before word e, behind rules that are gathered, and there is a row for each of their words.
pub record RulesBetween (lexemes : List ℕ) (i e : ℕ) (nowhere most nodes : ℕ) (raw rules : List ℕ) (g : Gathered) : Type 0 where
  pub source : Source
  pub same : source.lexemes ≡ lexemes
  pub items : Items
  pub stands : Stands source i items e
  pub shaped : all rule_shape items ≡ true
  pub done : List Ruled
  pub holds : Holds nowhere most nodes raw rules raw rules done g
  pub room : row_width * (g.row + (e - i)) ≤ length raw

-- The rules of the non-terminal A are gathered behind those before them.
abbrev pub GroupGathered : {lexemes : List ℕ} {i e nowhere most nodes : ℕ} {raw rules : List ℕ} {g : Gathered}
    → RulesBetween lexemes i e nowhere most nodes raw rules g → (A : ℕ) → (rawAfter rulesAfter : List ℕ) → Gathered → Type 0
GroupGathered {nowhere = nowhere} {most = most} {nodes = nodes} {raw = raw} {rules = rules} p A rawAfter rulesAfter g =
    Holds nowhere most nodes raw rules rawAfter rulesAfter (p.done ++ rules_of A p.items) g

-- Groups stand from word i to before word e, and there is a row for each of their words.
pub record GroupsBetween (lexemes : List ℕ) (i e : ℕ) (most : ℕ) (raw rules : List ℕ) : Type 0 where
  pub source : Source
  pub same : source.lexemes ≡ lexemes
  pub items : Items
  pub stands : Stands source i items e
  pub shaped : all group_shape items ≡ true
  pub raw_room : row_width * (e - i) ≤ length raw
  pub rules_room : rule_width * most ≤ length rules

-- Their rules are gathered.
abbrev pub RulesGathered : {lexemes : List ℕ} {i e most : ℕ} {raw rules : List ℕ} → GroupsBetween lexemes i e most raw rules
    → (nowhere nodes : ℕ) → (rawAfter rulesAfter : List ℕ) → Gathered → Type 0
RulesGathered {most = most} {raw = raw} {rules = rules} p nowhere nodes rawAfter rulesAfter g =
    Holds nowhere most nodes raw rules rawAfter rulesAfter (rules_in 0 p.items) g

-- The same, for whatever the tables hold.
abbrev pub GathersOne : (lexemes : List ℕ) → (i A nowhere : ℕ) → (raw rules : List ℕ) → Gathered → (rawAfter rulesAfter : List ℕ) → Gathered → Type 0
GathersOne lexemes i A nowhere raw rules g rawAfter rulesAfter gAfter =
    (p : RuleAt lexemes i nowhere most_rules most_nodes raw rules g) → RuleGathered p A rawAfter rulesAfter gAfter

-- The same, for whatever the tables hold.
abbrev pub GathersGroup : (lexemes : List ℕ) → (i e A nowhere : ℕ) → (raw rules : List ℕ) → Gathered → (rawAfter rulesAfter : List ℕ) → Gathered → Type 0
GathersGroup lexemes i e A nowhere raw rules g rawAfter rulesAfter gAfter =
    (p : RulesBetween lexemes i e nowhere most_rules most_nodes raw rules g) → GroupGathered p A rawAfter rulesAfter gAfter

-- The same, for whatever the tables hold.
abbrev pub GathersRules : (lexemes : List ℕ) → (i e nowhere : ℕ) → (raw rules rawAfter rulesAfter : List ℕ) → Gathered → Type 0
GathersRules lexemes i e nowhere raw rules rawAfter rulesAfter g =
    (p : GroupsBetween lexemes i e most_rules raw rules) → RulesGathered p nowhere most_nodes rawAfter rulesAfter g
