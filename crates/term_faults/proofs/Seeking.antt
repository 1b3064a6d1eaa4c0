-- The least word at fault in terms, by the first node at fault in their forms.
use Prim.Native.Nat.{ℕ, ◌+◌, ◌≤◌, ◌<◌}
use native.Mathlib.Omega.{arith}
use mathlib.Core.Path.{◌≡◌, sym, ap, ◌∙◌}
use mathlib.Core.List.{List}
use lib.ListN.{length-map}
use Rattle.forest.specs.Forest.{none}
use Rattle.forest.specs.code.Cursors.{size}
use Rattle.forest.proofs.Laws.{join_none}
use Rattle.term_sorts.specs.code.Sorting.{SortsFilled, SortsFilling}
use Rattle.term_nodes.specs.code.Table.{first_at}
use Rattle.names.specs.Scopes.{forms_of}
use Rattle.term_faults.specs.Faults.{scope_of, term_fault}
use Rattle.term_faults.specs.code.Bodies.{Found, Sought}
use Rattle.term_faults.proofs.Agreeing.{Agree, clear, faulty, faults_agree}
use Rattle.term_faults.proofs.Forms.{from_first, size_form}
use Rattle.term_faults.proofs.Narrow.{forms_narrow}
use Rattle.term_faults.proofs.Reals.{all_real}

module _ {raw forms signatures column : List ℕ} {count nowhere : ℕ} where
  -- The forms can be asked for their sorts.
  abbrev pub filling : Sought raw forms signatures column count nowhere → SortsFilling forms signatures count column
  filling p = record {
    given = record {
      F = forms_of p.view p.F;
      scope = scope_of p.view;
      rest = p.more;
      is_forms = p.is_forms;
      real = all_real p.view p.source p.lawful.bounded.fit p.F p.say;
      narrow = forms_narrow p.view p.narrow_names p.F p.narrow_nodes;
      defined_are = p.signed.defined_are;
      functions_are = p.signed.functions_are;
      non_terminals_are = p.signed.non_terminals_are;
      few_defined = rw length-map p.signed.few_defined;
      few_functions = rw length-map p.signed.few_functions;
      few_non_terminals = rw length-map p.signed.few_non_terminals;
    };
    counted = p.counted ∙ sym (size_form p.view p.F);
    room = p.room;
  }

  module _ {after : List ℕ} {fault : ℕ} (filled : (q : SortsFilling forms signatures count column) → SortsFilled q after fault) where
    -- The node that is found and the word that is looked for say the same fault.
    same_fault : (p : Sought raw forms signatures column count nowhere)
        → Agree (first_at raw) count nowhere 0 (0 + size p.F) 0 nowhere fault (term_fault nowhere p.view p.F)
    same_fault p =
        let all = from_first p.F ∙ sym (join_none p.F) in
        rw (filled (filling p)).fault_is
        (faults_agree p.view count nowhere p.F p.rest p.is_raw 0 p.F none 0 nowhere all (omega (arith, p.counted)) (omega arith) p.rising)

    -- A node is at fault.
    pub node_found : fault < count → {r : ℕ} → r ≡ first_at raw fault → (p : Sought raw forms signatures column count nowhere) → Found p after r
    node_found h {r} e p = record { place_is = go (same_fault p); column_is = (filled (filling p)).column_is }
      where
        go : Agree (first_at raw) count nowhere 0 (0 + size p.F) 0 nowhere fault (term_fault nowhere p.view p.F)
            → r ≡ term_fault nowhere p.view p.F
        go (clear x y) = absurd (omega arith)
        go (faulty at x y f l m n) = e ∙ ap (first_at raw) x ∙ sym y

    -- No node is at fault.
    pub none_found : count ≤ fault → (p : Sought raw forms signatures column count nowhere) → Found p after nowhere
    none_found h p = record { place_is = go (same_fault p); column_is = (filled (filling p)).column_is }
      where
        go : Agree (first_at raw) count nowhere 0 (0 + size p.F) 0 nowhere fault (term_fault nowhere p.view p.F)
            → nowhere ≡ term_fault nowhere p.view p.F
        go (clear x y) = sym y
        go (faulty at x y f l m n) = absurd (omega (arith, p.counted))
