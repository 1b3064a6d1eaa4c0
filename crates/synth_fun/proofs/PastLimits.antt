-- What is past a limit within a command stands behind the command's first word, which is the least where the command itself is past one.
use Prim.Native.Nat.{ℕ, zero, suc, ◌+◌, ◌-◌, ◌≤◌, ◌<◌, min}
use native.Mathlib.Nat.{le_refl}
use native.Mathlib.Omega.{arith}
use mathlib.Core.Path.{◌≡◌, refl}
use mathlib.Core.Bool.{Bool, true, false, cond, ◌&&◌}
use mathlib.Core.List.{List, [], ◌∷◌, ◌++◌, append_assoc, append-nil}
use lib.Dec.{leb, ltb}
use borrow.Author.Tests.{leb-false, le-ltb, ltb-true}
use Rattle.forest.specs.Forest.{Forest, Node, count, join, nodes_of, none, tree}
use Rattle.forest.proofs.Bools.{apart}
use Rattle.word_kinds.specs.Decimals.{is_decimal, is_long}
use Rattle.words.specs.Trees.{Lexeme, keyword, list, literal, numeral, symbol, word_of}
use Rattle.lexemes.specs.Lists.{Items, after, inside, is, is_constant_word, is_list, is_numeral, item, name_of, numeral_of}
use Rattle.lexemes.specs.code.Standing.{Source, Stands, bracketed, ends, word}
use Rattle.lexemes.proofs.Standing.{forward, here}
use Rattle.shapes.specs.Shapes.{attributes_of, is_annotated, is_pattern}
use Rattle.written_sorts.specs.Written.{group_place, least_in, pair_place, rule_place, sort_place}
use Rattle.written_sorts.specs.declared.Fault.TheVariants.{TooWide}
use Rattle.term_nodes.specs.Terms.{Raw, constant_past, constants_past, cut_by, decimal, first_word, headed_by, is_node, node_word, pattern, raw_of, raw_term, raw_terms}
use Rattle.term_nodes.specs.Terms.{word as rawWord}
use Rattle.term_nodes.specs.code.Table.{operands_of}
use Rattle.term_faults.specs.code.Grammars.{AllSingle}
use Rattle.term_faults.specs.code.Bodies.{Rising}
use Rattle.derivation.specs.Derivation.{most_weight}
use Rattle.term_nodes.specs.Rules.{Ruled, attributes_past, item_past, nodes_past, rule_past, rules_in, rules_of, sides}
use Rattle.headers.specs.Heads.{header_past}
use Rattle.forest.specs.Limits.{allowed, most_arguments, most_functions, most_nodes, most_non_terminals, most_rules}
use Rattle.operators.specs.Sorts.{max_width}
use Rattle.grammars.specs.Grammars.{grammar_past}
use Rattle.script.specs.Script.{limit_place}
use Rattle.script.specs.code.Tables.{CommandOf}
use Rattle.script.specs.declared.Progress.{Progress}
use Rattle.script.proofs.WordsBelow.{command_word}
use Rattle.synth_fun.specs.code.Synthesizing.{ruled_by}
use Rattle.synth_fun.proofs.SynthFunParts.{groups_amid, limit_is, rules_rising, rules_trees}

-- The words of all items are n or behind it.
unfoldable Ahead : (n : ℕ) → Items → Type 0
Ahead n none = Unit {0}
Ahead n (tree l ops more) = (n ≤ word_of l) × Ahead n ops × Ahead n more

-- Items that stand from word n on, or from a later one, are so.
stands_ahead : {s : Source} {n i e : ℕ} {F : Items} → n ≤ i → Stands s i F e → Ahead n F
unfolding Ahead
stands_ahead h ends = tt
stands_ahead h (word w rest) = (omega (arith, w.placed), tt, stands_ahead (omega arith) rest)
stands_ahead h (bracketed b inner rest) = (h, stands_ahead (omega arith) inner, stands_ahead (omega (arith, forward inner)) rest)

-- One of two words, each of which is n or behind it.
either_ahead : (b : Bool) (n x y : ℕ) → n ≤ x → n ≤ y → n ≤ cond b x y
either_ahead true n x y one other = one
either_ahead false n x y one other = other

module _ {n nowhere : ℕ} (low : n ≤ nowhere) where
  -- One of the items is behind n.
  item_ahead : (k : ℕ) (F : Items) → k < count F → Ahead n F → n ≤ word_of (item k F)
  unfolding Ahead count item
  item_ahead k none h a = absurd (omega arith)
  item_ahead zero (tree l ops more) h a = a.0
  item_ahead (suc k) (tree l ops more) h a = item_ahead k more (omega arith) a.2

  -- So is one that says a number.
  number_ahead : (k : ℕ) (F : Items) → 0 < numeral_of (item k F) → Ahead n F → n ≤ word_of (item k F)
  unfolding Ahead item
  number_ahead k none h a = absurd (omega arith)
  number_ahead zero (tree l ops more) h a = a.0
  number_ahead (suc k) (tree l ops more) h a = number_ahead k more h a.2

  -- A rule that is no term has no constants.
  pattern_constant : (at : ℕ) (c : Bool) (sort : Lexeme) (held : Items) → n ≤ constants_past nowhere (nodes_of (tree (pattern at c sort held) none none))
  unfolding constants_past nodes_of
  pattern_constant at c sort held = omega arith

  -- And what one of them holds.
  inside_ahead : (k : ℕ) (F : Items) → Ahead n F → Ahead n (inside k F)
  unfolding Ahead inside
  inside_ahead k none a = tt
  inside_ahead zero (tree l ops more) a = a.1
  inside_ahead (suc k) (tree l ops more) a = inside_ahead k more a.2

  -- The item past a limit.
  items_ahead : (most : ℕ) (F : Items) → Ahead n F → n ≤ item_past nowhere most F
  items_ahead most F a = go (leb (count F) most) refl
    where
      go : (few : Bool) → leb (count F) most ≡ few → n ≤ cond few nowhere (word_of (item most F))
      go true e = low
      go false e = item_ahead most F (leb-false (count F) most e) a

  -- A width past the limit.
  sort_ahead : (l : Lexeme) (ops : Items) → Ahead n ops → n ≤ sort_place TooWide nowhere l ops
  sort_ahead l ops a = go (is_list l) (ltb max_width (numeral_of (item 2 ops))) refl
    where
      go : (listed wide : Bool) → ltb max_width (numeral_of (item 2 ops)) ≡ wide → n ≤ cond (listed && wide) (word_of (item 2 ops)) nowhere
      go true true e = number_ahead 2 ops (omega (arith, ltb-true max_width (numeral_of (item 2 ops)) e)) a
      go true false e = low
      go false wide e = low

  -- The least place of items, each of which has one behind n.
  least_ahead : (place : Lexeme → Items → ℕ) → ((l : Lexeme) (ops : Items) → Ahead n ops → n ≤ place l ops) → (F : Items) → Ahead n F
      → n ≤ least_in nowhere place F
  unfolding Ahead least_in
  least_ahead place each none a = low
  least_ahead place each (tree l ops more) a = omega (arith, each l ops a.1, least_ahead place each more a.2)

  -- A sort in a pair, in a rule, and in what a grammar lists of a non-terminal.
  pair_ahead : (l : Lexeme) (ops : Items) → Ahead n ops → n ≤ pair_place TooWide nowhere l ops
  pair_ahead l ops a = sort_ahead (item 1 ops) (inside 1 ops) (inside_ahead 1 ops a)

  rule_ahead : (l : Lexeme) (ops : Items) → Ahead n ops → n ≤ rule_place TooWide nowhere l ops
  rule_ahead l ops a = either_ahead (is_pattern l ops) n (pair_place TooWide nowhere l ops) nowhere (pair_ahead l ops a) low

  group_ahead : (l : Lexeme) (ops : Items) → Ahead n ops → n ≤ group_place TooWide nowhere l ops
  group_ahead l ops a =
      omega (arith, pair_ahead l ops a, least_ahead (rule_place TooWide nowhere) rule_ahead (inside 2 ops) (inside_ahead 2 ops a))

  -- A node, before others that are behind n.
  node_ahead : (x : Node Raw) (more : List (Node Raw)) → n ≤ first_word x.label → ((m : ℕ) → n ≤ node_word nowhere m more) → (m : ℕ)
      → n ≤ node_word nowhere m (x ∷ more)
  unfolding node_word
  node_ahead x more h later (suc m) = later (cond (is_node x.label) m (suc m))
  node_ahead x more h later zero = either_ahead (is_node x.label) n (first_word x.label) (node_word nowhere zero more) h (later zero)

  -- Nodes that rise from n on, or from a later word.
  nodes_ahead : (F : Forest Raw) (from to : ℕ) → n ≤ from → Rising from to F → (rest : List (Node Raw)) → ((m : ℕ) → n ≤ node_word nowhere m rest)
      → (m : ℕ) → n ≤ node_word nowhere m (nodes_of F ++ rest)
  unfolding Rising nodes_of
  nodes_ahead none from to h rising rest later = later
  nodes_ahead (tree r ops more) from to h (mid, above, below, by, inner, behind) rest later =
      let last = nodes_ahead more mid to (omega arith) behind rest later in
      let others = nodes_ahead ops (suc (first_word r)) mid (omega arith) inner (nodes_of more ++ rest) last in
      node_ahead (record { label = r; operands = ops }) (nodes_of ops ++ nodes_of more ++ rest) (omega arith) (λ m. rw append_assoc (others m))

  -- So is the word of a constant.
  word_ahead : (k : ℕ) (F : Items) → is_constant_word (item k F) ≡ true → Ahead n F → n ≤ word_of (item k F)
  unfolding Ahead is_decimal item
  word_ahead k none h a = apart h
  word_ahead zero (tree l ops more) h a = a.0
  word_ahead (suc k) (tree l ops more) h a = word_ahead k more h a.2

  -- The word past a limit of a node, and of those of items.
  headed_constant : (at : ℕ) (l : Lexeme) (held ops : Items) → Ahead n ops → n ≤ constant_past nowhere (headed_by at l held ops)
  headed_constant at (symbol head name) held ops a = go (is "_" (symbol head name)) (is_constant_word (item 1 ops)) refl
    where
      go : (b c : Bool) → is_constant_word (item 1 ops) ≡ c
          → n ≤ constant_past nowhere
          (cond b (cond c (decimal at (word_of (item 1 ops)) (name_of (item 1 ops)) (numeral_of (item 2 ops))) (cut_by at ops)) (rawWord at head name))
      go true true e =
          let there = word_ahead 1 ops e a in
          either_ahead (is_long (name_of (item 1 ops))) n (word_of (item 1 ops)) _ there
          (either_ahead (ltb max_width (numeral_of (item 2 ops))) n (word_of (item 1 ops) + 1) nowhere (omega arith) low)
      go true false e = low
      go false c e = low
  headed_constant at (list head close) held ops a = low
  headed_constant at (numeral head v) held ops a = low
  headed_constant at (keyword head name) held ops a = low
  headed_constant at (literal head width v bytes) held ops a = low

  node_constant : (l : Lexeme) (ops : Items) → Ahead n ops → n ≤ constant_past nowhere (raw_of l ops)
  node_constant (symbol at name) ops a = low
  node_constant (numeral at v) ops a = low
  node_constant (keyword at name) ops a = low
  node_constant (literal at width v bytes) ops a = low
  node_constant (list at close) ops a = headed_constant at (item 0 ops) (inside 0 ops) ops a

  constants_append : (xs ys : List (Node Raw)) → n ≤ constants_past nowhere xs → n ≤ constants_past nowhere ys → n ≤ constants_past nowhere (xs ++ ys)
  unfolding constants_past
  constants_append [] ys x y = y
  constants_append (r ∷ xs) ys x y = omega (arith, constants_append xs ys (omega arith) y)

  constants_ahead : (headed : Bool) (F : Items) → Ahead n F → n ≤ constants_past nowhere (nodes_of (raw_terms headed F))
  unfolding Ahead constants_past nodes_of raw_terms
  constants_ahead headed none a = low
  constants_ahead true (tree l ops more) a = constants_ahead false more a.2
  constants_ahead false (tree l ops more) a =
      let later = constants_ahead false more a.2 in
      let held = operands (is "_" (item 0 ops)) (constants_ahead true ops a.1) in
      omega (arith, node_constant l ops a.1, constants_append (nodes_of (operands_of ops)) (nodes_of (raw_terms false more)) held later)
    where
      operands : (b : Bool) → n ≤ constants_past nowhere (nodes_of (raw_terms true ops)) → n ≤ constants_past nowhere (nodes_of (cond b none (raw_terms true ops)))
      operands true h = low
      operands false h = h

  -- A term's constants are behind n, where those of its list are.
  term_constants : (l : Lexeme) (ops : Items) → Ahead n ops → n ≤ constants_past nowhere (nodes_of (raw_term l ops))
  unfolding constants_past nodes_of raw_terms
  term_constants l ops a =
      omega (arith, node_constant l ops a, constants_append (nodes_of (operands_of ops)) [] (operands (is "_" (item 0 ops)) (constants_ahead true ops a)) low)
    where
      operands : (b : Bool) → n ≤ constants_past nowhere (nodes_of (raw_terms true ops)) → n ≤ constants_past nowhere (nodes_of (cond b none (raw_terms true ops)))
      operands true h = low
      operands false h = h

  -- So are attributes, where the items of their list are.
  after_ahead : (k : ℕ) (F : Items) → Ahead n F → Ahead n (after k F)
  unfolding Ahead after
  after_ahead zero F a = a
  after_ahead (suc k) none a = tt
  after_ahead (suc k) (tree l ops more) a = after_ahead k more a.2

  attributes_ahead : (F : Items) → Ahead n F → n ≤ attributes_past nowhere F
  unfolding Ahead least_in
  attributes_ahead none a = low
  attributes_ahead (tree l ops more) a =
      omega (arith, either_ahead (is_numeral l && ltb most_weight (numeral_of l)) n (word_of l) nowhere a.0 low, attributes_ahead more a.2)

  -- Every rule, its constants and its attributes are behind n.
  unfoldable ConstantsAhead : List Ruled → Type 0
  ConstantsAhead [] = Unit {0}
  ConstantsAhead (r ∷ more) =
      (n ≤ r.first) × (n ≤ constants_past nowhere (nodes_of r.side)) × (n ≤ attributes_past nowhere r.attributes) × ConstantsAhead more

  both_ahead : (rules others : List Ruled) → ConstantsAhead rules → ConstantsAhead others → ConstantsAhead (rules ++ others)
  unfolding ConstantsAhead
  both_ahead [] others x y = y
  both_ahead (r ∷ rules) others x y = (x.0, x.1, x.2, both_ahead rules others x.3 y)

  rules_constants : (A : ℕ) (F : Items) → Ahead n F → ConstantsAhead (rules_of A F)
  unfolding Ahead ConstantsAhead rules_of
  rules_constants A none a = tt
  rules_constants A (tree l ops more) a =
      (a.0, side (is_pattern l ops) (is_annotated l ops), attributes (is_annotated l ops), rules_constants A more a.2)
    where
      side : (b t : Bool)
          → n ≤ constants_past nowhere
          (nodes_of (cond b (tree (pattern (word_of l) (is "Constant" (item 0 ops)) (item 1 ops) (inside 1 ops)) none none)
          (cond t (raw_term (item 1 ops) (inside 1 ops)) (raw_term l ops))))
      side true t = pattern_constant (word_of l) (is "Constant" (item 0 ops)) (item 1 ops) (inside 1 ops)
      side false true = term_constants (item 1 ops) (inside 1 ops) (inside_ahead 1 ops a.1)
      side false false = term_constants l ops a.1

      attributes : (t : Bool) → n ≤ attributes_past nowhere (cond t (attributes_of ops) none)
      attributes true = attributes_ahead (attributes_of ops) (after_ahead 2 ops a.1)
      attributes false = attributes_ahead none tt

  groups_constants : (A : ℕ) (F : Items) → Ahead n F → ConstantsAhead (rules_in A F)
  unfolding Ahead ConstantsAhead rules_in
  groups_constants A none a = tt
  groups_constants A (tree l ops more) a =
      both_ahead (rules_of A (inside 2 ops)) (rules_in (A + 1) more) (rules_constants A (inside 2 ops) (inside_ahead 2 ops a.1))
      (groups_constants (A + 1) more a.2)

  -- The rule past the limit, and the words past those of a rule.
  rules_ahead : (lexemes : List ℕ) (rules : List Ruled) (from to : ℕ) → n ≤ from → AllSingle lexemes rules → Rising from to (sides rules) → ConstantsAhead rules
      → (rulesMost nodesMost : ℕ)
      → n ≤ min (rule_past nowhere rulesMost rules) (nodes_past nowhere nodesMost rules)
  unfolding AllSingle ConstantsAhead Rising join node_word nodes_past rule_past sides
  rules_ahead lexemes [] from to h single rising constants rulesMost nodesMost = omega arith
  rules_ahead lexemes (r ∷ more) from to h ((root, operands, is, begins), others) rising constants rulesMost nodesMost =
      let rise : Rising from to (tree root operands (sides more)) = rw is at rising in
      let own : Rising from rise.0 (tree root operands none) = (rise.0, rise.1, rise.2, le_refl rise.0, rise.4, tt) in
      let nodes = rw append-nil at (nodes_ahead (tree root operands none) from rise.0 h own [] (λ m. low) nodesMost) in
      let later = rules_ahead lexemes more rise.0 to (omega (arith, rise.1, rise.2)) others rise.5 constants.3 in
      let past = rule_past nowhere (rulesMost - 1) more in
      let one = either_ahead (leb 1 rulesMost) n past r.first (omega (arith, later (rulesMost - 1) nodesMost)) constants.0 in
      let own-nodes : n ≤ node_word nowhere nodesMost (nodes_of r.side) = rw is nodes in
      let behind : n ≤ nodes_past nowhere nodesMost more = omega (arith, later rulesMost nodesMost) in
      both one (both (both (both own-nodes constants.1) constants.2) behind)
    where
      both : {a b : ℕ} → n ≤ a → n ≤ b → n ≤ min a b
      both h k = omega arith

-- A number that is no more than two others is the least of the three.
least_first : (i a b : ℕ) → i ≤ a → i ≤ b → i ≡ min i (min a b)
least_first i a b one other = omega arith

-- The command's first word is the least past a limit where there are as many functions before it as there may be.
pub command_first : {text lexemes : List ℕ} {p : Progress} {i nowhere : ℕ} (of : CommandOf "synth-fun" text lexemes p i nowhere) → most_functions ≤ p.functions
    → i ≡ limit_place allowed nowhere of.known i of.here.command
command_first {lexemes = lexemes} {p = p} {i} {nowhere} of full =
    let c = of.here.command in
    let low : i ≤ nowhere = omega (arith, command_word of.here) in
    let all = stands_ahead {n = i} (omega arith) ((here refl of.here.stands).a_list refl).stands in
    let pairs : (k : ℕ) → i ≤ least_in nowhere (pair_place TooWide nowhere) (inside k c) =
    λ k. least_ahead low (pair_place TooWide nowhere) (pair_ahead low) (inside k c) (inside_ahead low k c all) in
    let head : i ≤ header_past allowed nowhere c =
    omega (
      arith,
      items_ahead low most_arguments (inside 2 c) (inside_ahead low 2 c all),
      pairs 2,
      sort_ahead low (item 3 c) (inside 3 c) (inside_ahead low 3 c all),
    ) in
    let groups = least_ahead low (group_place TooWide nowhere) (group_ahead low) (inside 5 c) (inside_ahead low 5 c all) in
    let amid = groups_amid of in
    let rules = rules_ahead low lexemes (ruled_by c) amid.first amid.last (omega (arith, amid.begins)) (rules_trees of) (rules_rising of)
    (groups_constants low 0 (inside 5 c) (inside_ahead low 5 c all)) most_rules most_nodes in
    let grammar : i ≤ grammar_past allowed nowhere c =
    omega (arith, items_ahead low most_non_terminals (inside 4 c) (inside_ahead low 4 c all), pairs 4, groups, rules) in
    rw (limit_is of, ← of.counted.functions_are, le-ltb p.functions most_functions full) (least_first i _ _ head grammar)
