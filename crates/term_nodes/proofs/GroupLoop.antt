-- The loop over the groups of a grammar.
use Prim.Native.Nat.{ℕ, ◌+◌, ◌-◌, ◌*◌, ◌≤◌, ◌<◌}
use native.Mathlib.Omega.{arith}
use mathlib.Core.Path.{◌≡◌, refl, subst}
use mathlib.Core.Bool.{true}
use mathlib.Core.List.{List, []}
use lib.ListN.{length}
use Rattle.forest.specs.Forest.{nodes_of, tree}
use Rattle.forest.specs.code.Cursors.{size}
use Rattle.forest.specs.Tables.{rows}
use Rattle.forest.proofs.Bools.{and_left, and_right}
use Rattle.lexemes.specs.Lists.{Items, after, inside, is_list, item}
use Rattle.lexemes.specs.code.Standing.{Between, ItemAt, Source, Stands}
use Rattle.lexemes.specs.code.Table.{next_at, row_width as lexemeWidth}
use Rattle.lexemes.proofs.Along.{Along, along_ahead, along_end, along_here, along_start, along_turn, item-of}
use Rattle.lexemes.proofs.Listed.{at_item, from_item}
use Rattle.lexemes.proofs.Standing.{forward, here_as}
use Rattle.shapes.specs.Shapes.{all, group_shape, rule_shape}
use Rattle.written_sorts.proofs.PairParts.{group_parts}
use Rattle.term_nodes.specs.code.Table.{uncounted_table}
use Rattle.term_nodes.specs.Rules.{Ruled, nodes_past, rule_past, rules_in, rules_of, sides}
use Rattle.term_nodes.specs.code.RuleGathering.{GroupGathered, GroupsBetween, Holds, RulesBetween, RulesGathered, start_table}
use Rattle.term_nodes.specs.declared.Gathered.{Gathered}
use Rattle.term_nodes.proofs.Listing.{rules_fit}
use Rattle.term_nodes.proofs.Onward.{GatheredTo, gathered_all, gathered_on, lent_as, next_within}

-- The rules of the group at word `at` are of their shape and stand in the list at word `list`, between the brackets of the group.
record GroupRules (s : Source) (lexemes : List ℕ) (at : ℕ) (ops : Items) (list : ℕ) : Type 0 where
  close : ℕ
  next : next_at lexemes list ≡ close + 1
  stands : Stands s (list + 1) (inside 2 ops) close
  shaped : all rule_shape (inside 2 ops) ≡ true
  behind : at < list
  within : close < next_at lexemes at
  room : lexemeWidth * list < length lexemes

-- a group has such rules
group_rules : {lexemes : List ℕ} {at : ℕ} (x : ItemAt lexemes at) → group_shape x.label x.operands ≡ true → {list : ℕ} → list ≡ next_at lexemes (at + 2)
    → GroupRules x.source lexemes at x.operands list
unfolding after
group_rules {lexemes} {at} x shape {list} e =
    let ops = x.operands in
    let parts = group_parts x.label ops shape in
    let group = (at_item x).a_list parts.sorted.a_list in
    let name = here_as x.same (from_item 0 ops (omega (arith, parts.sorted.long))) group.stands in
    let next : next_at lexemes (at + 1) ≡ at + 2 = omega (arith, (name.a_word parts.sorted.a_word).0) in
    let sort = here_as x.same (from_item 1 ops (omega (arith, parts.sorted.long))) (rw next at name.rest) in
    let rules = here_as x.same (from_item 2 ops parts.sorted.long) (rw (← e) at sort.rest) in
    let held = rules.a_list (and_left (is_list (item 2 ops)) (all rule_shape (inside 2 ops)) parts.rules) in
    record {
      close = held.close;
      next = held.next;
      stands = held.stands;
      shaped = and_right (is_list (item 2 ops)) (all rule_shape (inside 2 ops)) parts.rules;
      behind = omega (arith, sort.ahead);
      within = omega (arith, held.next, forward rules.rest, group.next);
      room = rules.room;
    }

-- where groups stand
abbrev pub groups_between : {lexemes : List ℕ} {first close most : ℕ} {rawLent rulesLent : List ℕ}
    → GroupsBetween lexemes first close most rawLent rulesLent → Between lexemes first close
groups_between p = record { source = p.source; same = p.same; items = p.items; stands = p.stands }

-- Of the groups from one word to another the loop has come to word `at`, with the non-terminal A, and the rules of those before are gathered.
abbrev pub GroupsTo : (lexemes : List ℕ) (first close nowhere most nodes : ℕ) (rawLent rulesLent : List ℕ) (A : ℕ) (raw rules : List ℕ)
    (g : Gathered) (at : ℕ) → Type 0
GroupsTo lexemes first close nowhere most nodes rawLent rulesLent A raw rules g at =
    Along (λ (p : GroupsBetween lexemes first close most rawLent rulesLent). groups_between p) at
    (λ p. GatheredTo group_shape rules_in A nowhere most nodes at close rawLent rulesLent raw rules g (rules_in 0 p.items))

module _ {lexemes : List ℕ} {first close nowhere most nodes : ℕ} {rawLent rulesLent : List ℕ} where
  -- no rule is gathered yet
  none_gathered : GroupsBetween lexemes first close most rawLent rulesLent
      → Holds nowhere most nodes rawLent rulesLent rawLent rulesLent [] (record { row = 0; rule = 0; place = nowhere })
  unfolding nodes_of nodes_past rows rule_past sides size start_table uncounted_table
  none_gathered p = record {
    rest = rawLent;
    raw_is = refl;
    raw_long = refl;
    rows = refl;
    counted = refl;
    few = omega arith;
    more = rulesLent;
    rules_are = λ _. refl;
    rules_long = refl;
    room = p.rules_room;
    place_is = omega arith;
  }

  -- no group is passed yet
  pub groups_start : GroupsBetween lexemes first close most rawLent rulesLent
      → GroupsTo lexemes first close nowhere most nodes rawLent rulesLent 0 rawLent rulesLent (record { row = 0; rule = 0; place = nowhere }) first
  groups_start given =
      along_start (λ p. groups_between p) given
      (λ p. record { shaped = p.shaped; done = []; whole_is = refl; holds = none_gathered p; room = omega (arith, p.raw_room) })

  module _ {A : ℕ} {raw rules : List ℕ} {g : Gathered} {at : ℕ}
      (a : GroupsTo lexemes first close nowhere most nodes rawLent rulesLent A raw rules g at) where
    -- at the end the rules of all of the groups are gathered
    pub groups_end : close ≤ at → (p : GroupsBetween lexemes first close most rawLent rulesLent) → RulesGathered p nowhere nodes raw rules g
    unfolding rules_in
    groups_end h p = gathered_all refl (along_end a h p)

    -- there are no more non-terminals than words
    pub heads_few : A ≤ at → at < close → {next : ℕ} → next ≡ next_at lexemes at → A + 1 ≤ next
    heads_few few h e = omega (arith, along_ahead a h e)

    module _ (h : at < close) {list : ℕ} (el : list ≡ next_at lexemes (at + 2)) where
      -- the rules of a group of those that are left
      rules-of : {whole : List Ruled} (x : ItemAt lexemes at)
          → GatheredTo group_shape rules_in A nowhere most nodes at close rawLent rulesLent raw rules g whole (tree x.label x.operands x.more)
          → GroupRules x.source lexemes at x.operands list
      unfolding all
      rules-of x here = group_rules x (and_left (group_shape x.label x.operands) (all group_shape x.more) here.shaped) el

      -- those of the group at that word
      rules_next : GroupRules a.given.source lexemes at (item-of a h a.given).operands list
      rules_next = rules-of (item-of a h a.given) (along_here a h a.given)

      -- the word of their list is in the table
      pub list_room : lexemeWidth * list < length lexemes
      list_room = rules_next.room

      module _ {inner : ℕ} (ei : inner ≡ next_at lexemes list) where
        -- the list has a bracket that closes it
        pub list_closes : 1 ≤ inner
        list_closes = omega (arith, rules_next.next)

        -- a group of those that are left
        group_of : {whole : List Ruled} (x : ItemAt lexemes at)
            → GatheredTo group_shape rules_in A nowhere most nodes at close rawLent rulesLent raw rules g whole (tree x.label x.operands x.more)
            → RulesBetween lexemes (list + 1) (inner - 1) nowhere most nodes raw rules g
        group_of x here =
            let group = rules-of x here in
            let closed : group.close ≡ inner - 1 = omega (arith, group.next) in
            record {
              source = x.source;
              same = x.same;
              items = inside 2 x.operands;
              stands = subst (λ (n : ℕ). Stands x.source (list + 1) (inside 2 x.operands) n) closed group.stands;
              shaped = group.shaped;
              done = here.done;
              holds = lent_as refl refl here.holds;
              room = omega (arith, next_within a h, group.within, group.behind, here.room, here.holds.raw_long);
            }

        -- the group at that word
        pub group_next : RulesBetween lexemes (list + 1) (inner - 1) nowhere most nodes raw rules g
        group_next = group_of (item-of a h a.given) (along_here a h a.given)

        -- a turn
        pub groups_turn : {rawAfter rulesAfter : List ℕ} {found : Gathered}
            → ((q : RulesBetween lexemes (list + 1) (inner - 1) nowhere most nodes raw rules g) → GroupGathered q A rawAfter rulesAfter found)
            → {next : ℕ} → next ≡ next_at lexemes at
            → GroupsTo lexemes first close nowhere most nodes rawLent rulesLent (A + 1) rawAfter rulesAfter found next
        unfolding group_of rules_in
        groups_turn known {next} e =
            along_turn a h e
            (λ p x source here.
            let group = rules-of x here in
            gathered_on here (A + 1) (rules_of A (inside 2 x.operands)) refl
            (omega (arith, rules_fit A group.stands, group.within, group.behind))
            (omega (arith, next_within a h)) (known (group_of x here)))
