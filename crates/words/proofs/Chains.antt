-- The rows of the word table, and the column `next`.
use Prim.Native.Nat.{ℕ, zero, suc, ◌+◌, ◌-◌, ◌*◌, ◌≤◌, ◌<◌, ◌^◌}
use native.Mathlib.Nat.{add-zero, sub_self}
use native.Mathlib.Omega.{arith}
use mathlib.Core.Path.{◌≡◌, refl, sym, ap, ◌∙◌}
use mathlib.Core.Bool.{Bool, true, false, cond}
use mathlib.Core.List.{List, [], ◌∷◌, ◌++◌, append_assoc, map, map-append}
use borrow.Author.Tests.{eq-eqb, eqb-false, eqb-true, ne_eqb}
use lib.Dec.{eqb}
use lib.ListN.{length, drop, set, take, drop_of_length-le, length-append, length-drop, length-map, length-set}
use lib.Seq.{drop-append-add, drop_at, drop-drop, length-take-le, take_at}
use Rattle.forest.specs.Tables.{rows}
use Rattle.forest.proofs.Lists.{Stands, drop_more, stands, take_more, within}
use Rattle.forest.proofs.Rows.{length_rows, row_at, row_set}
use Rattle.words.specs.Table.{closes, opens, Entry, past_close, entries, kind_number, next_of, row, word_table}
use Rattle.words.proofs.Offsets.{drop_past}
use Rattle.words.specs.code.Links.{Closing, Linked, Linking, Next, linked_from}
use Rattle.words.specs.code.Rows.{unlinked}
use Rattle.words.specs.code.Table.{kind_at, next_at}
use Rattle.words.specs.Words.{Word}
use Rattle.word_kinds.specs.declared.Kind.{Kind}

-- what is `)` is not `(`
close_apart : (kind : Kind) → closes kind ≡ true → opens kind ≡ false
close_apart kind e = rw (eqb-true (kind_number kind) 2 e)

-- ---- where lists are closed

-- the bracket that closes a list is not before its first word, nor past the last
pub close_bounds : (ws : List Word) (inner i : ℕ) → (i ≤ past_close ws inner i) × (past_close ws inner i ≤ i + length ws)
unfolding past_close
close_bounds [] inner i = omega arith
close_bounds (w ∷ ws) inner i =
    go (opens w.kind) (closes w.kind) (eqb inner 0)
    (close_bounds ws (inner + 1) (i + 1)) (close_bounds ws (inner - 1) (i + 1)) (close_bounds ws inner (i + 1))
  where
    Within : ℕ → Type 0
    Within x = (i + 1 ≤ x) × (x ≤ i + 1 + length ws)

    go : (o c z : Bool) {x y later : ℕ} → Within x → Within y → Within later
        → (i ≤ cond o x (cond c (cond z (i + 1) y) later)) × (cond o x (cond c (cond z (i + 1) y) later) ≤ i + suc (length ws))
    go true c z p q r = omega (arith, p)
    go false true true p q r = omega arith
    go false true false p q r = omega (arith, q)
    go false false z p q r = omega (arith, r)

-- past the bracket that closes the lists within, one list is still open
deeper : (ws : List Word) (inner i : ℕ) → past_close ws (inner + 1) i ≡ past_close (drop (past_close ws inner i - i) ws) 0 (past_close ws inner i)
unfolding past_close
deeper [] inner i = rw (sub_self i)
deeper (w ∷ ws) inner i = go (opens w.kind) refl (closes w.kind) refl (eqb inner 0) refl (λ n. deeper ws n (i + 1))
  where
    skip : (n : ℕ) → past_close ws (n + 1) (i + 1) ≡ past_close (drop (past_close ws n (i + 1) - (i + 1)) ws) 0 (past_close ws n (i + 1))
        → past_close ws (n + 1) (i + 1) ≡ past_close (drop (past_close ws n (i + 1) - i) (w ∷ ws)) 0 (past_close ws n (i + 1))
    skip n r = rw (drop_past w ws i (past_close ws n (i + 1)) (close_bounds ws n (i + 1)).0) r

    go : (o : Bool) → opens w.kind ≡ o → (c : Bool) → closes w.kind ≡ c → (z : Bool) → eqb inner 0 ≡ z
        → ((n : ℕ) → past_close ws (n + 1) (i + 1) ≡ past_close (drop (past_close ws n (i + 1) - (i + 1)) ws) 0 (past_close ws n (i + 1)))
        → past_close (w ∷ ws) (inner + 1) i ≡ past_close (drop (past_close (w ∷ ws) inner i - i) (w ∷ ws)) 0 (past_close (w ∷ ws) inner i)
    go true eo c ec z ez r = rw eo (skip (inner + 1) (r (inner + 1)))
    go false eo true ec true ez r =
        let none : inner ≡ 0 = eqb-true inner 0 ez in
        let one : i + 1 - i ≡ 1 = omega arith in
        rw (eo, ec, none, one)
    go false eo true ec false ez r =
        let some : inner ≡ 0 → ⊥ = eqb-false inner 0 ez in
        let back : inner - 1 + 1 ≡ inner = omega arith in
        let less : inner + 1 - 1 ≡ inner = omega arith in
        let more : eqb (inner + 1) 0 ≡ false = ne_eqb (inner + 1) 0 (λ e. omega arith) in
        rw (eo, ec, more, less, ez) (rw back at (skip (inner - 1) (r (inner - 1))))
    go false eo false ec z ez r = rw (eo, ec) (skip inner (r inner))

-- what follows a word, or the list that it begins, is in the same list
close_next : (w : Word) (more : List Word) (i : ℕ) → closes w.kind ≡ false
    → past_close (w ∷ more) 0 i ≡ past_close (drop (next_of w more i - i) (w ∷ more)) 0 (next_of w more i)
unfolding past_close next_of
close_next w more i ec = go (opens w.kind) refl
  where
    go : (o : Bool) → opens w.kind ≡ o → past_close (w ∷ more) 0 i ≡ past_close (drop (next_of w more i - i) (w ∷ more)) 0 (next_of w more i)
    go true eo = rw (eo, drop_past w more i (past_close more 0 (i + 1)) (close_bounds more 0 (i + 1)).0) (deeper more 0 (i + 1))
    go false eo = let one : i + 1 - i ≡ 1 = omega arith in rw (eo, ec, one)

next_bounds : (w : Word) (more : List Word) (i : ℕ) → (i < next_of w more i) × (next_of w more i ≤ i + suc (length more))
unfolding next_of
next_bounds w more i = go (opens w.kind) (close_bounds more 0 (i + 1))
  where
    go : (o : Bool) {x : ℕ} → (i + 1 ≤ x) × (x ≤ i + 1 + length more) → (i < cond o x (i + 1)) × (cond o x (i + 1) ≤ i + suc (length more))
    go true r = omega (arith, r)
    go false r = omega arith

-- the same among all words, by index
pub close_on : (ws : List Word) (i : ℕ) (w : Word) (more : List Word) → drop i ws ≡ w ∷ more → closes w.kind ≡ false → (next : ℕ) → next_of w more i ≡ next
    → past_close (drop i ws) 0 i ≡ past_close (drop next ws) 0 next
close_on ws i w more here apart next is-next =
    let reach : i + (next - i) ≡ next = omega (arith, next_bounds w more i) in
    rw (here, close_next w more i apart, is-next, ← here, drop-drop (next - i) i ws, reach)

-- ---- the entries of words, from an index on

-- the words from index j on, each with the index past it
pub entries_drop : (ws : List Word) (i j : ℕ) → drop j (entries ws i) ≡ entries (drop j ws) (i + j)
unfolding entries
entries_drop ws i zero = rw add-zero
entries_drop [] i (suc j) = refl
entries_drop (w ∷ ws) i (suc j) = let q : i + suc j ≡ i + 1 + j = omega arith in rw q (entries_drop ws (i + 1) j)

linked_drop : (ws : List Word) (at i : ℕ) → at ≤ i → at ≤ length ws → drop i (linked_from ws at) ≡ entries (drop i ws) i
unfolding linked_from
linked_drop ws at i low top =
    let long : length (map unlinked (take at ws)) ≡ at = length-map (take at ws) unlinked ∙ length-take-le at ws top in
    let sum : at + (i - at) ≡ i = omega arith in
    let reach : i ≡ length (map unlinked (take at ws)) + (i - at) = omega arith in
    ap (λ (k : ℕ). drop k (map unlinked (take at ws) ++ entries (drop at ws) at)) reach
    ∙ drop-append-add (map unlinked (take at ws)) (entries (drop at ws) at) (i - at)
    ∙ entries_drop (drop at ws) at (i - at)
    ∙ rw (drop-drop (i - at) at ws, sum)

pub wide : (e : Entry) → length (row e) ≡ 5
wide e = refl

-- what the table says of word i, which is linked
pub record Says (table : List ℕ) (ws : List Word) (i : ℕ) : Type 0 where
  pub w : Word
  pub more : List Word
  pub here : drop i ws ≡ w ∷ more
  pub kind_is : kind_at table i ≡ kind_number w.kind
  pub next_is : next_at table i ≡ next_of w more i
  pub left : i + suc (length more) ≡ length ws

says : {table : List ℕ} {count at : ℕ} (e : Linking table count at) (i : ℕ) → at ≤ i → i < count → Says table e.ws i
unfolding entries
says {table} {count} {at} e i low high =
    let st = stands e.ws i (omega (arith, e.counted)) in
    let later = drop (i + 1) e.ws in
    let entry : drop i (linked_from e.ws at) ≡ record { word = st.here; next = next_of st.here later i } ∷ entries later (i + 1) =
    linked_drop e.ws at i low (omega (arith, e.counted)) ∙ ap (λ (l : List Word). entries l i) st.is in
    record {
      w = st.here;
      more = drop (i + 1) e.ws;
      here = st.is;
      kind_is = rw e.is (row_at row 5 wide (linked_from e.ws at) e.rest i 0 _ _ entry (omega arith));
      next_is = rw e.is (row_at row 5 wide (linked_from e.ws at) e.rest i 4 _ _ entry (omega arith));
      left = omega (arith, e.counted, length-drop (i + 1) e.ws);
    }

-- ---- the turns of the loops

-- word i stands in the list in which word `at` stands
pub record Inside (table : List ℕ) (count at i : ℕ) : Type 0 where
  pub low : at ≤ i
  pub top : i ≤ count
  pub same : (e : Linking table count at) → past_close (drop i e.ws) 0 i ≡ past_close (drop at e.ws) 0 at

pub inside_begins : {table : List ℕ} {count at : ℕ} → Linking table count at → Inside table count at at
inside_begins e = record { low = omega arith; top = e.reached; same = λ f. refl }

module _ {table : List ℕ} {count at i : ℕ} (inside : Inside table count at i) where
  pub inside_ends : count ≤ i → Closing table count at i
  unfolding past_close
  inside_ends h e =
      let past : length e.ws ≤ i = omega (arith, e.counted) in
      sym (rw (drop_of_length-le e.ws past)) ∙ inside.same e

  module _ (h : i < count) (kind : ℕ) (ek : kind ≡ kind_at table i) where
    pub inside_closes : kind ≡ 2 → Closing table count at (i + 1)
    unfolding past_close
    inside_closes c e =
        let y = says e i inside.low h in
        let shut : closes y.w.kind ≡ true = eq-eqb _ 2 (sym y.kind_is ∙ sym ek ∙ c) in
        let first : past_close (drop i e.ws) 0 i ≡ i + 1 = rw (y.here, close_apart _ shut, shut) in
        sym first ∙ inside.same e

    module _ (linking : Linking table count at) (next : ℕ) (en : next ≡ next_at table i) where
      pub inside_less : count - next < count - i
      inside_less =
          let y = says linking i inside.low h in
          omega (arith, next_bounds y.w y.more i, y.next_is)

      pub inside_goes : (kind ≡ 2 → ⊥) → Inside table count at next
      inside_goes other =
          let y = says linking i inside.low h in
          record {
            low = omega (arith, inside.low, next_bounds y.w y.more i, y.next_is);
            top = omega (arith, next_bounds y.w y.more i, y.next_is, y.left, linking.counted);
            same = λ e. sym (goes e) ∙ inside.same e;
          }
        where
          goes : (e : Linking table count at) → past_close (drop i e.ws) 0 i ≡ past_close (drop next e.ws) 0 next
          goes e =
              let y = says e i inside.low h in
              let apart : closes y.w.kind ≡ false = ne_eqb _ 2 (λ q. other (ek ∙ y.kind_is ∙ q)) in
              close_on e.ws i y.w y.more y.here apart next (sym y.next_is ∙ sym en)

-- ---- a word that is to be linked

-- word i is the last that is not linked
module _ (ws : List Word) (i : ℕ) (w : Word) (more : List Word) (here : drop i ws ≡ w ∷ more) where
  before : length (map unlinked (take i ws)) ≡ i
  before = length-map (take i ws) unlinked ∙ length-take-le i ws (omega (arith, within ws i w more here))

  last_unlinked : linked_from ws (i + 1) ≡ map unlinked (take i ws) ++ (unlinked w ∷ entries more (i + 1))
  unfolding linked_from
  last_unlinked = rw (take_more ws i w more here, drop_more ws i w more here, map-append, append_assoc)

  pub last_drop : drop i (linked_from ws (i + 1)) ≡ unlinked w ∷ entries more (i + 1)
  last_drop = rw last_unlinked (drop_at (map unlinked (take i ws)) _ i before)

  pub last_take : take i (linked_from ws (i + 1)) ≡ map unlinked (take i ws)
  last_take = rw last_unlinked (take_at (map unlinked (take i ws)) _ i before)

-- the index past a word, by what the table says of it
module _ (table : List ℕ) (count i kind : ℕ) (ek : kind ≡ kind_at table i) where
  kind_here : (e : Linking table count (i + 1)) (w : Word) (more : List Word) → drop i e.ws ≡ w ∷ more → kind_at table i ≡ kind_number w.kind
  kind_here e w more h = rw e.is (row_at row 5 wide (linked_from e.ws (i + 1)) e.rest i 0 _ _ (last_drop e.ws i w more h) (omega arith))

  pub next_open : kind ≡ 1 → (r : ℕ) → Closing table count (i + 1) r → Next table count i r
  unfolding next_of
  next_open c r closing e w h = rw (eq-eqb _ 1 (sym (kind_here e w _ h) ∙ sym ek ∙ c)) (closing e)

  pub next_word : (kind ≡ 1 → ⊥) → Next table count i (i + 1)
  unfolding next_of
  next_word n e w h = rw (ne_eqb _ 1 (λ q. n (ek ∙ kind_here e w _ h ∙ q)))

-- the row of word i, linked
link_row : (ws : List Word) (rest : List ℕ) (i : ℕ) (w : Word) → drop i ws ≡ w ∷ drop (i + 1) ws → (next : ℕ) → next ≡ next_of w (drop (i + 1) ws) i
    → set (rows row (linked_from ws (i + 1)) ++ rest) (5 * i + 4) next ≡ rows row (linked_from ws i) ++ rest
unfolding linked_from entries
link_row ws rest i w here next en =
    row_set row 5 wide (linked_from ws (i + 1)) rest i 4 next (unlinked w) (record { word = w; next = next }) _ (last_drop ws i w _ here) (omega arith) refl
    ∙ rw (last_take ws i w _ here, here, en)

-- the words from i on are linked
pub record Linkage (table₀ : List ℕ) (count : ℕ) (table : List ℕ) (i : ℕ) : Type 0 where
  pub reached : i ≤ count
  pub long : length table ≡ length table₀
  pub is : (e : Linking table₀ count count) → table ≡ rows row (linked_from e.ws i) ++ e.rest

pub linkage_ends : {table₀ : List ℕ} {count : ℕ} {table : List ℕ} {i : ℕ} → Linkage table₀ count table i → i ≤ 0 → Linked table₀ count table
unfolding word_table linked_from
linkage_ends {i = i} linkage h e = let z : i ≡ 0 = omega arith in linkage.is e ∙ rw z

pub entries_long : (ws : List Word) (i : ℕ) → length (entries ws i) ≡ length ws
unfolding entries
entries_long [] i = refl
entries_long (w ∷ ws) i = ap suc (entries_long ws (i + 1))

linked_long : (ws : List Word) (at : ℕ) → at ≤ length ws → length (linked_from ws at) ≡ length ws
unfolding linked_from
linked_long ws at h = simp (length-append, length-map, length-take-le at ws h, entries_long, length-drop) (omega arith)

module _ {table₀ : List ℕ} {count : ℕ} {table : List ℕ} {i : ℕ} (linkage : Linkage table₀ count table i) (h : 0 < i) where
  linkage_asks : Linking table₀ count count → Linking table count (i - 1 + 1)
  linkage_asks p =
      let back : i - 1 + 1 ≡ i = omega arith in
      record { ws = p.ws; rest = p.rest; is = rw back (linkage.is p); counted = p.counted; reached = omega (arith, linkage.reached); small = p.small }

  here : (p : Linking table₀ count count) → Stands p.ws (i - 1)
  here p = stands p.ws (i - 1) (omega (arith, linkage.reached, p.counted))

  pub linkage_room : Linking table₀ count count → 5 * (i - 1) + 4 < length table
  linkage_room p =
      let long = length_rows row 5 wide (linked_from p.ws i) in
      let all = linked_long p.ws i (omega (arith, linkage.reached, p.counted)) in
      rw (linkage.is p, length-append, long, all) (omega (arith, linkage.reached, p.counted))

  module _ (next : ℕ) (en : Next table count (i - 1) next) where
    pub linkage_small : Linking table₀ count count → next < 2 ^ 32
    unfolding linkage_asks
    linkage_small p =
        let is-next = en (linkage_asks p) (here p).here (here p).is in
        let bounds = next_bounds (here p).here (drop (i - 1 + 1) p.ws) (i - 1) in
        omega (arith, p.counted, p.small, linkage.reached, length-drop (i - 1 + 1) p.ws)

    pub linkage_goes : Linkage table₀ count (set table (5 * (i - 1) + 4) next) (i - 1)
    unfolding linkage_asks
    linkage_goes = record { reached = omega (arith, linkage.reached); long = length-set table _ next ∙ linkage.long; is = goes }
      where
        goes : (p : Linking table₀ count count) → set table (5 * (i - 1) + 4) next ≡ rows row (linked_from p.ws (i - 1)) ++ p.rest
        goes p =
            let is-next = en (linkage_asks p) (here p).here (here p).is in
            rw (linkage_asks p).is (link_row p.ws p.rest (i - 1) (here p).here (here p).is next is-next)
