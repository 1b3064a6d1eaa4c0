-- The pass from the last node to the first.
use Prim.Native.Nat.{ℕ, ◌+◌, ◌-◌, ◌^◌, ◌≤◌, ◌<◌}
use native.Mathlib.Decide.{ℕ_discrete}
use native.Mathlib.Omega.{arith}
use mathlib.Core.Bool.{Bool, cond, ◌&&◌}
use mathlib.Core.Path.{◌≡◌, refl, sym, ap, ◌∙◌}
use mathlib.Core.List.{List}
use lib.Dec.{eqb}
use lib.ListN.{get_or, length, length-set, set}
use lib.Seq.{ext_get_or, get_or-set_other, get_or-set_same}
use Rattle.forest.proofs.Laws.{Tree, from_one, size_from, size_zero, tree_at}
use Rattle.forest.specs.Forest.{join, none, tree}
use Rattle.forest.specs.code.Cursors.{from, size}
use Rattle.forest.specs.Tables.{over}
use Rattle.terms.specs.code.Nodes.{operands_at}
use Rattle.term_sorts.specs.Forms.{sorted}
use Rattle.term_sorts.specs.code.Forms.{fault_from, sort_column, sort_number}
use Rattle.term_sorts.specs.code.Sorting.{SortsFilled, SortsFilling}
use Rattle.term_sorts.specs.code.Nodes.{NodeAt, NodeGives, tree_sorts}
use Rattle.term_sorts.specs.code.Operands.{AllSorted, Trees}
use Rattle.term_sorts.proofs.Columns.{column_at, column_length, over_length, over_past, trees_stand}
use Rattle.term_sorts.proofs.Faults.{fault_none, fault_turn}
use Rattle.term_sorts.proofs.Narrow.{number_small}
use Rattle.term_sorts.proofs.NodeSorts.{form_says, sorts_count, sorts_together}

-- The column that is to be.
abbrev pub whole_column : {forms signatures : List ℕ} {count : ℕ} {lent : List ℕ} → SortsFilling forms signatures count lent → List ℕ
whole_column p = sort_column p.given.scope p.given.F

-- The column is right from a node on, and the fault is the first from there on.
pub record Right {forms signatures : List ℕ} {count : ℕ} {lent : List ℕ} (p : SortsFilling forms signatures count lent) (column : List ℕ)
    (fault node : ℕ) : Type 0 where
  pub right : (j : ℕ) → node ≤ j → get_or column j 0 ≡ get_or (over (whole_column p) lent) j 0
  pub first : fault ≡ fault_from p.given.scope count node (from p.given.F node)

-- The same, for whatever the tables hold.
pub record Filled (forms signatures : List ℕ) (count : ℕ) (lent column : List ℕ) (fault node : ℕ) : Type 0 where
  pub low : node ≤ count
  pub room : count ≤ length column
  pub as_long : length column ≡ length lent
  pub done : (p : SortsFilling forms signatures count lent) → Right p column fault node

module _ {forms signatures : List ℕ} {count : ℕ} {lent : List ℕ} where
  -- It has a number for each node.
  whole_length : (p : SortsFilling forms signatures count lent) → length (whole_column p) ≡ count
  whole_length p = column_length p.given.scope p.given.F ∙ sym p.counted

  -- Nothing is left past the last node.
  none_past : (p : SortsFilling forms signatures count lent) → from p.given.F count ≡ none
  none_past p = size_zero (from p.given.F count) (omega (arith, size_from p.given.F count, p.counted))

  -- Nothing is to be right past the last node, at the start.
  pub filled_begins : SortsFilling forms signatures count lent → Filled forms signatures count lent lent count count
  filled_begins p = record {
    low = omega arith;
    room = p.room;
    as_long = refl;
    done = λ q. record {
      right = λ j h. sym (over_past (whole_column q) lent j (omega (arith, whole_length q)));
      first = sym (ap (fault_from q.given.scope count count) (none_past q) ∙ fault_none q.given.scope count count);
    };
  }

  module _ {column : List ℕ} {fault node : ℕ} (f : Filled forms signatures count lent column fault node) where
    -- All is right, at the end.
    pub filled_ends : node ≤ 0 → (p : SortsFilling forms signatures count lent) → SortsFilled p column fault
    unfolding from
    filled_ends h p =
        let q : node ≡ 0 = omega arith in
        let d = f.done p in
        record {
          column_is = ext_get_or 0 column _ (f.as_long ∙ sym (over_length (whole_column p) lent (omega (arith, whole_length p, p.room))))
              (λ i l. d.right i (omega arith));
          fault_is = rw q at d.first;
        }

    module _ (h : 0 < node) where
      -- The node before.
      here : (p : SortsFilling forms signatures count lent) → Tree (from p.given.F (node - 1))
      here p = tree_at p.given.F (node - 1) (omega (arith, f.low, p.counted))

      module _ {n : ℕ} (n-is : n ≡ operands_at forms (node - 1)) where
        -- Its operands stand behind it.
        pub operands_after : (p : SortsFilling forms signatures count lent) → Trees sort_number forms column (node - 1 + 1) n
        operands_after p =
            let t = here p in
            let g = p.given in
            let next = from_one g.F (node - 1) t.l t.ops t.rest t.is in
            record {
              sorts = tree_sorts g.scope t.ops;
              stand = trees_stand column lent g.scope g.F g.rest g.is_forms (omega (arith, f.room, p.counted)) t.ops t.rest
                  (node - 1 + 1) next (λ j l. (f.done p).right j (omega arith));
              counted = n-is ∙ (form_says g.F g.rest g.is_forms t.is).operands ∙ sym (sorts_count g.scope t.ops);
            }

        module _ {whole : Bool} (whole_is : AllSorted forms column (node - 1 + 1) n whole) where
          -- It can be asked for its sort.
          pub node_before : SortsFilling forms signatures count lent → NodeAt forms signatures column (node - 1) whole
          unfolding operands_after
          node_before p =
              let t = here p in
              record {
                given = p.given;
                item = t.l;
                operands = t.ops;
                rest = t.rest;
                is = t.is;
                within = omega (arith, f.low, f.room);
                stand = (operands_after p).stand;
                whole_is = whole_is (operands_after p) ∙ ap sorted (sorts_together p.given.scope t.ops);
              }

          module _ {sort : ℕ} (gives : NodeGives forms signatures column (node - 1) whole sort) where
            -- It fits a byte.
            pub number_fits : SortsFilling forms signatures count lent → sort < 2 ^ 8
            number_fits p = let e = node_before p in omega (arith, gives e, number_small e)

            -- The column with the node's number.
            right_here : (p : SortsFilling forms signatures count lent) (j : ℕ) → node - 1 ≤ j → Dec (j ≡ node - 1)
                → get_or (set column (node - 1) sort) j 0 ≡ get_or (over (whole_column p) lent) j 0
            unfolding node_before
            right_here p j l (yes e) =
                let t = here p in
                let same = get_or-set_same column (node - 1) sort 0 (omega (arith, f.low, f.room)) in
                let at = column_at p.given.scope p.given.F lent (node - 1) t.l t.ops t.rest t.is in
                rw e (same ∙ gives (node_before p) ∙ sym at)
            right_here p j l (no e) = get_or-set_other column (node - 1) j sort 0 e ∙ (f.done p).right j (omega arith)

            -- The first fault from the node on.
            first_here : {found : ℕ} → found ≡ cond (whole && eqb sort 0) (node - 1) fault → (p : SortsFilling forms signatures count lent)
                → found ≡ fault_from p.given.scope count (node - 1) (from p.given.F (node - 1))
            unfolding node_before
            first_here q p =
                let t = here p in
                let F = p.given.F in
                let faults = fault_from p.given.scope count in
                let one : node ≡ node - 1 + 1 = omega arith in
                let next = from_one F (node - 1) t.l t.ops t.rest t.is in
                let later : fault ≡ faults (node - 1 + 1) (join t.ops t.rest) =
                (f.done p).first ∙ ap (λ (m : ℕ). faults m (from F m)) one ∙ ap (faults (node - 1 + 1)) next
                in
                let low : node - 1 + size (tree t.l t.ops t.rest) ≤ count =
                omega (arith, f.low, p.counted, size_from F (node - 1), ap size t.is)
                in
                let turn = fault_turn p.given.scope count (node - 1) t.l t.ops t.rest low (node_before p).whole_is (gives (node_before p)) in
                q ∙ ap (cond (whole && eqb sort 0) (node - 1)) later ∙ turn ∙ sym (ap (faults (node - 1)) t.is)

            -- One node more is right.
            pub filled_goes : {found : ℕ} → found ≡ cond (whole && eqb sort 0) (node - 1) fault
                → Filled forms signatures count lent (set column (node - 1) sort) found (node - 1)
            filled_goes q = record {
              low = omega (arith, f.low);
              room = rw length-set f.room;
              as_long = length-set column (node - 1) sort ∙ f.as_long;
              done = λ p. record { right = λ j l. right_here p j l (ℕ_discrete j (node - 1)); first = first_here q p };
            }
