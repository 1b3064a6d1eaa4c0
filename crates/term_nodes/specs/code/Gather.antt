-- What the gathering of the nodes of terms and rules asks and gives.
use Rattle.std.specs.Prelude.{ℕ, ◌+◌, ◌-◌, ◌*◌, ◌≤◌, cond, false, true, List, ◌++◌, ◌≡◌, length}
use Rattle.forest.specs.Forest.{Forest, join, none, tree}
use Rattle.forest.specs.code.Cursors.{size}
use Rattle.words.specs.Trees.{Lexeme}
use Rattle.lexemes.specs.Lists.{Items, is, is_list, item}
use Rattle.lexemes.specs.code.Standing.{Source, Stands}
use Rattle.lexemes.specs.code.Table.{next_at}
use Rattle.shapes.specs.Shapes.{is_annotated, rule_shape, term_shapes}
use Rattle.term_nodes.specs.Terms.{Raw, raw_rule, raw_terms}
use Rattle.term_nodes.specs.code.Table.{uncounted_table, row_width}

-- A term stands at word i, and other terms behind it.
pub record TermAt (lexemes : List ℕ) (i : ℕ) : Type 0 where
  pub source : Source
  pub same : source.lexemes ≡ lexemes
  pub label : Lexeme
  pub operands : Items
  pub more : Items
  pub end : ℕ
  pub stands : Stands source i (tree label operands more) end
  pub shaped : term_shapes false (tree label operands more) ≡ true

-- The walk goes on from that term at word r: past a word or `(_ extract i j)`, and behind the head of an application.
abbrev pub Onward : {lexemes : List ℕ} {i : ℕ} → TermAt lexemes i → (r : ℕ) → Type 0
Onward {lexemes} {i} here r =
    r ≡ cond (is_list here.label) (cond (is "_" (item 0 here.operands)) (next_at lexemes i) (next_at lexemes (i + 1))) (i + 1)

-- The first n rows of a table hold the nodes of the terms `before`, and there is room behind them for so many more.
pub record Rows (raw : List ℕ) (n more : ℕ) : Type 0 where
  pub before : Forest Raw
  pub rest : List ℕ
  pub is : raw ≡ uncounted_table before ++ rest
  pub counted : n ≡ size before
  pub room : row_width * (n + more) ≤ length raw

-- The nodes of the terms F stand behind those of `before`, n rows in all.
pub record Behind (raw : List ℕ) (before F : Forest Raw) (rawAfter : List ℕ) (n : ℕ) : Type 0 where
  pub rest : List ℕ
  pub is : rawAfter ≡ uncounted_table (join before F) ++ rest
  pub counted : n ≡ size (join before F)
  pub long : length rawAfter ≡ length raw

-- Terms stand from word i to before word e, and the table has a row for each of these words behind its first n.
pub record Gathering (lexemes : List ℕ) (i e : ℕ) (raw : List ℕ) (n : ℕ) : Type 0 where
  pub source : Source
  pub same : source.lexemes ≡ lexemes
  pub items : Items
  pub stands : Stands source i items e
  pub shaped : term_shapes false items ≡ true
  pub rows : Rows raw n (e - i)

-- Their nodes are gathered.
abbrev pub Gathered : {lexemes : List ℕ} {i e : ℕ} {raw : List ℕ} {n : ℕ} → Gathering lexemes i e raw n → (rawAfter : List ℕ) → (m : ℕ) → Type 0
Gathered {raw = raw} p rawAfter m = Behind raw p.rows.before (raw_terms false p.items) rawAfter m

-- The word at which the term of a rule stands that is one: behind `(!` where it has attributes.
abbrev pub term_word : (i : ℕ) → Lexeme → Items → ℕ
term_word i l ops = cond (is_annotated l ops) (i + 2) i

-- A rule stands at word i, before word e, and the table has a row for each of its words behind its first n.
pub record GatheringRule (lexemes : List ℕ) (i : ℕ) (raw : List ℕ) (n : ℕ) : Type 0 where
  pub source : Source
  pub same : source.lexemes ≡ lexemes
  pub label : Lexeme
  pub operands : Items
  pub end : ℕ
  pub stands : Stands source i (tree label operands none) end
  pub shaped : rule_shape label operands ≡ true
  pub rows : Rows raw n (end - i)

-- Its nodes are gathered.
abbrev pub GatheredRule : {lexemes : List ℕ} {i : ℕ} {raw : List ℕ} {n : ℕ} → GatheringRule lexemes i raw n → (rawAfter : List ℕ) → (m : ℕ) → Type 0
GatheredRule {raw = raw} p rawAfter m = Behind raw p.rows.before (raw_rule p.label p.operands) rawAfter m
