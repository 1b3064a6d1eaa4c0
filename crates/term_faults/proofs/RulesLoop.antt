-- The loop over rules: what is left of the tables before each of them, and the least word that was found.
use Prim.Native.Nat.{ℕ, suc, ◌+◌, ◌*◌, ◌≤◌, ◌<◌, min}
use native.Mathlib.Nat.{add-zero, min-eq_left, min-eq_right}
use native.Mathlib.Omega.{arith}
use mathlib.Core.Path.{◌≡◌, refl, sym, ap, ◌∙◌}
use mathlib.Core.Bool.{cond}
use mathlib.Core.List.{List, [], ◌∷◌, ◌++◌}
use lib.ListN.{drop, get_or, length, length-append, length-map}
use lib.Seq.{drop-drop, get_or-drop}
use Rattle.forest.specs.Forest.{Forest, join, none, tree}
use Rattle.forest.specs.code.Cursors.{from, size}
use Rattle.forest.proofs.Laws.{from_over}
use Rattle.derivation.specs.code.Rules.{rule_width}
use Rattle.term_nodes.specs.Terms.{Raw, first_word}
use Rattle.names.specs.Scopes.{Named, View, named_sorts}
use Rattle.term_nodes.specs.Rules.{Ruled, sides}
use Rattle.term_nodes.specs.code.RuleGathering.{start_table}
use Rattle.term_faults.specs.Faults.{one_sort, raw_sorts, rule_misfit}
use Rattle.term_faults.specs.code.Grammars.{AllSingle, HeadSort, Heads, RulesFound, RulesSought}
use Rattle.term_faults.specs.code.Roots.{RootAt, SideFits, rule_first}

-- Three numbers for each rule.
starts_long : (start : ℕ) (rules : List Ruled) → length (start_table start rules) ≡ rule_width * length rules
unfolding start_table
starts_long start [] = refl
starts_long start (r ∷ more) = omega (arith, starts_long (start + size r.side) more)

-- The least word is not past `nowhere`.
misfit_low : (nowhere : ℕ) (view : View) (rules : List Ruled) → rule_misfit nowhere view rules ≤ nowhere
unfolding rule_misfit
misfit_low nowhere view [] = omega arith
misfit_low nowhere view (r ∷ more) = omega (arith, misfit_low nowhere view more)

-- The sorts of the non-terminals are in the table.
abbrev pub heads : {lexemes raw rules signatures column : List ℕ} {count listed : ℕ} → RulesSought lexemes raw rules signatures column count listed → Heads signatures listed
heads p = record {
  sorts = named_sorts p.view.non_terminals;
  are = p.sorts_are;
  counted = p.listed_are ∙ sym (length-map p.view.non_terminals (λ (n : Named). n.sort));
  few = p.few;
}

-- The rules that are left, the node where the first of them starts, and what is owed of them.
pub record Left {lexemes raw rules signatures column : List ℕ} {count listed : ℕ} (p : RulesSought lexemes raw rules signatures column count listed) (nowhere place rule : ℕ)
    : Type 0 where
  pub left : List Ruled
  pub start : ℕ
  pub starts : drop (rule_width * rule) rules ≡ start_table start left ++ p.others
  pub stands : from (sides p.ruled) start ≡ sides left
  pub single : AllSingle lexemes left
  pub counted : count ≡ rule + length left
  pub owed : min place (rule_misfit nowhere p.view left) ≡ rule_misfit nowhere p.view p.ruled

-- The same whatever the rules are.
pub record Passing (lexemes raw rules signatures column : List ℕ) (count listed nowhere place rule : ℕ) : Type 0 where
  pub given : RulesSought lexemes raw rules signatures column count listed
  pub room : rule_width * count ≤ length rules
  pub passed : rule ≤ count
  pub low : place ≤ nowhere
  pub each : (p : RulesSought lexemes raw rules signatures column count listed) → Left p nowhere place rule

-- The first rule that is left: where it starts, its non-terminal and its tree; and what is left behind it.
record First {lexemes raw rules signatures column : List ℕ} {count listed : ℕ} (p : RulesSought lexemes raw rules signatures column count listed) (nowhere place rule : ℕ)
    : Type 0 where
  pub first : Ruled
  pub more : List Ruled
  pub start : ℕ
  pub root : Raw
  pub operands : Forest Raw
  pub start_is : get_or rules (rule_width * rule) 0 ≡ start
  pub head_is : get_or rules (rule_width * rule + 1) 0 ≡ first.head
  pub side_is : first.side ≡ tree root operands none
  pub first_is : rule_first lexemes (first_word root) ≡ first.first
  pub stands : from (sides p.ruled) start ≡ tree root operands (sides more)
  pub starts : drop (rule_width * (rule + 1)) rules ≡ start_table (start + size first.side) more ++ p.others
  pub single : AllSingle lexemes more
  pub counted : count ≡ rule + 1 + length more
  pub owed : min place (rule_misfit nowhere p.view (first ∷ more)) ≡ rule_misfit nowhere p.view p.ruled

-- The right sides of rules, of which the first is one tree.
one_side : (r : Ruled) (more : List Ruled) (root : Raw) (operands : Forest Raw) → r.side ≡ tree root operands none
    → sides (r ∷ more) ≡ tree root operands (sides more)
unfolding join sides
one_side r more root operands e = ap (λ (F : Forest Raw). join F (sides more)) e

-- What stands behind a tree, by how many nodes the tree has.
past_one : (F : Forest Raw) (start : ℕ) (root : Raw) (operands later : Forest Raw) → from F start ≡ tree root operands later
    → from F (start + size (tree root operands none)) ≡ later
unfolding size
past_one F start root operands later e =
    let same : start + suc (size operands + 0) ≡ start + suc (size operands) = omega arith in
    rw same (from_over F start root operands later e)

module _ {lexemes raw rules signatures column : List ℕ} {count listed nowhere : ℕ} where
  -- Before the first rule.
  pub passing_begins : RulesSought lexemes raw rules signatures column count listed → Passing lexemes raw rules signatures column count listed nowhere nowhere 0
  unfolding from
  passing_begins p = record {
    given = p;
    room = omega (arith, p.counted, starts_long 0 p.ruled, ap length p.is_rules, length-append (start_table 0 p.ruled) p.others);
    passed = omega arith;
    low = omega arith;
    each = λ q. record {
      left = q.ruled;
      start = 0;
      starts = q.is_rules;
      stands = refl;
      single = q.single;
      counted = omega (arith, q.counted);
      owed = min-eq_right (misfit_low nowhere q.view q.ruled);
    };
  }

  module _ {place rule : ℕ} (t : Passing lexemes raw rules signatures column count listed nowhere place rule) where
    -- Past the last rule.
    pub passing_ends : count ≤ rule → (p : RulesSought lexemes raw rules signatures column count listed) → RulesFound p nowhere place
    unfolding rule_misfit
    passing_ends h p = go (t.each p).left (t.each p).counted (t.each p).owed
      where
        go : (left : List Ruled) → count ≡ rule + length left → min place (rule_misfit nowhere p.view left) ≡ rule_misfit nowhere p.view p.ruled
            → place ≡ rule_misfit nowhere p.view p.ruled
        go [] counted owed = sym (min-eq_left t.low) ∙ owed
        go (r ∷ more) counted owed = absurd (omega arith)

    module _ (h : rule < count) where
      -- The rule at which the loop stands.
      first_of : (p : RulesSought lexemes raw rules signatures column count listed) → First p nowhere place rule
      unfolding AllSingle start_table
      first_of p = go l.left l.starts l.stands l.single l.counted l.owed
        where
          l : Left p nowhere place rule
          l = t.each p

          go : (left : List Ruled) → drop (rule_width * rule) rules ≡ start_table l.start left ++ p.others → from (sides p.ruled) l.start ≡ sides left
              → AllSingle lexemes left → count ≡ rule + length left
              → min place (rule_misfit nowhere p.view left) ≡ rule_misfit nowhere p.view p.ruled → First p nowhere place rule
          go [] starts stands single counted owed = absurd (omega arith)
          go (r ∷ more) starts stands single counted owed =
              let at : (i : ℕ) → get_or rules (rule_width * rule + i) 0 ≡ get_or (start_table l.start (r ∷ more) ++ p.others) i 0 =
              λ i. sym (get_or-drop (rule_width * rule) rules i 0) ∙ ap (λ (x : List ℕ). get_or x i 0) starts
              in
              let next : rule_width * (rule + 1) ≡ rule_width * rule + rule_width = omega arith in
              record {
                first = r;
                more = more;
                start = l.start;
                root = single.0.0;
                operands = single.0.1;
                start_is = ap (λ (i : ℕ). get_or rules i 0) (sym (add-zero (rule_width * rule))) ∙ at 0;
                head_is = at 1;
                side_is = single.0.2;
                first_is = single.0.3;
                stands = stands ∙ one_side r more single.0.0 single.0.1 single.0.2;
                starts = rw next (sym (drop-drop rule_width (rule_width * rule) rules) ∙ ap (drop rule_width) starts);
                single = single.1;
                counted = omega arith;
                owed = owed;
              }

      module _ {start head sort : ℕ} (start_is : start ≡ get_or rules (rule_width * rule) 0) (head_is : head ≡ get_or rules (rule_width * rule + 1) 0)
          (sorts : (q : Heads signatures listed) → HeadSort q head sort) where
        -- Its right side stands where it starts.
        root_of : (p : RulesSought lexemes raw rules signatures column count listed) → RootAt raw column start sort
        root_of p =
            let o = first_of p in
            record {
              F = sides p.ruled;
              rest = p.rest;
              is_raw = p.is_raw;
              view = p.view;
              more = p.more;
              is_column = p.is_column;
              root = o.root;
              operands = o.operands;
              later = sides o.more;
              here = rw (start_is ∙ o.start_is) o.stands;
              low = (sorts (heads p)).low;
            }

        -- So it can be held against a sort.
        pub root_here : RootAt raw column start sort
        root_here = root_of t.given

        module _ {found : ℕ} (fits : (q : RootAt raw column start sort) → SideFits lexemes q nowhere found) {lower : ℕ} (lower-is : lower ≡ min place found) where
          -- What is owed of the rules behind it.
          owed_behind : (p : RulesSought lexemes raw rules signatures column count listed)
              → min lower (rule_misfit nowhere p.view (first_of p).more) ≡ rule_misfit nowhere p.view p.ruled
          unfolding root_of rule_misfit
          owed_behind p =
              let o = first_of p in
              let sort_is : sort ≡ get_or (named_sorts p.view.non_terminals) o.first.head 0 =
              (sorts (heads p)).is ∙ ap (λ (k : ℕ). get_or (named_sorts p.view.non_terminals) k 0) (head_is ∙ o.head_is)
              in
              let same = one_sort (raw_sorts p.view o.first.side) (get_or (named_sorts p.view.non_terminals) o.first.head 0) in
              let found_is : found ≡ cond same nowhere o.first.first = rw (o.side_is, ← sort_is, ← o.first_is) (fits (root_of p)) in
              omega (arith, o.owed)

          -- One rule more.
          pub passing_goes : Passing lexemes raw rules signatures column count listed nowhere lower (rule + 1)
          passing_goes = record {
            given = t.given;
            room = t.room;
            passed = omega arith;
            low = omega (arith, t.low);
            each = λ p.
                let o = first_of p in
                record {
                  left = o.more;
                  start = o.start + size o.first.side;
                  starts = o.starts;
                  stands = rw o.side_is (past_one (sides p.ruled) o.start o.root o.operands (sides o.more) o.stands);
                  single = o.single;
                  counted = o.counted;
                  owed = owed_behind p;
                };
          }
