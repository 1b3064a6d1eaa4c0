-- A walk into items: through the lists that hold lists, without a stack.
use Prim.Native.Nat.{ℕ, ◌+◌, ◌-◌, ◌≤◌, ◌<◌}
use native.Mathlib.Omega.{arith}
use mathlib.Core.Path.{◌≡◌, refl, sym, ◌∙◌}
use mathlib.Core.Bool.{false, true≢false}
use mathlib.Core.List.{List, [], ◌∷◌}
use borrow.Author.Tests.{eq-eqb}
use Rattle.forest.specs.Forest.{count, none, tree}
use Rattle.forest.proofs.Laws.{tree_of_count}
use Rattle.words.specs.Trees.{Lexeme, list}
use Rattle.lexemes.specs.Lists.{Items, is_list}
use Rattle.lexemes.specs.code.Table.{close_code, code_at, code_of, next_at, open_code}
use Rattle.lexemes.specs.code.Standing.{Between, ItemAt, ListAt, Source, Stands, bracketed, ends, word}
use Rattle.lexemes.proofs.ByCode.{list_code}
use Rattle.lexemes.proofs.Standing.{forward, here, here_as, none_left}

-- From word i the items stand to the bracket that closes their list; behind it stand the first of the outer items to the bracket that closes
-- theirs, and so on, and the outermost to before word e.
pub data Pending (s : Source) : (i : ℕ) → (items : Items) → (outer : List Items) → (e : ℕ) → Type 0 where
  outermost : {i e : ℕ} {items : Items} → Stands s i items e → Pending s i items [] e
  inner : {i c e : ℕ} {items next : Items} {outer : List Items} → Stands s i items c → code_at s.lexemes c ≡ close_code
      → Pending s (c + 1) next outer e → Pending s i items (next ∷ outer) e

-- Where the innermost items end, and that others may stand in their place.
pub record Level (s : Source) (i : ℕ) (items : Items) (outer : List Items) (e : ℕ) : Type 0 where
  pub close : ℕ
  pub stands : Stands s i items close
  pub within : close ≤ e
  pub onward : (j : ℕ) (others : Items) → Stands s j others close → Pending s j others outer e

-- What stands at word i: a word; a list, which is entered or skipped; or the bracket that closes the innermost list.
pub data Turn (s : Source) (lexemes : List ℕ) (i : ℕ) : (items : Items) → (outer : List Items) → (e : ℕ) → Type 0 where
  at_word : {l : Lexeme} {last : ℕ} {more : Items} {outer : List Items} {e : ℕ} → Stands s i (tree l none more) last → is_list l ≡ false
      → Pending s (i + 1) more outer e → Turn s lexemes i (tree l none more) outer e
  at_list : {c last : ℕ} {ops more : Items} {outer : List Items} {e : ℕ} → Stands s i (tree (list i c) ops more) last
      → Pending s (i + 1) ops (more ∷ outer) e → Pending s (next_at lexemes i) more outer e → Turn s lexemes i (tree (list i c) ops more) outer e
  at_close : {next : Items} {outer : List Items} {e : ℕ} → code_at lexemes i ≡ close_code → Pending s (i + 1) next outer e
      → Turn s lexemes i none (next ∷ outer) e

module _ {s : Source} where
  pub pending_forward : {i e : ℕ} {items : Items} {outer : List Items} → Pending s i items outer e → i ≤ e
  pending_forward (outermost stands) = forward stands
  pending_forward (inner stands closed rest) = omega (arith, forward stands, pending_forward rest)

  pub level : {i e : ℕ} {items : Items} {outer : List Items} → Pending s i items outer e → Level s i items outer e
  level {e = e} (outermost stands) = record { close = e; stands = stands; within = omega arith; onward = λ j others x. outermost x }
  level (inner {c = c} stands closed rest) =
      record { close = c; stands = stands; within = omega (arith, pending_forward rest); onward = λ j others x. inner x closed rest }

  none_ends : {i e : ℕ} → Stands s i none e → i ≡ e
  none_ends ends = refl

  module _ {lexemes : List ℕ} (same : s.lexemes ≡ lexemes) where
    at_item : {i c e : ℕ} {l : Lexeme} {ops more : Items} {outer : List Items} → Stands s i (tree l ops more) c
        → ((j : ℕ) (others : Items) → Stands s j others c → Pending s j others outer e) → Turn s lexemes i (tree l ops more) outer e
    at_item {i} (word {more = more} w rest) onward = at_word (word w rest) w.no_list (onward (i + 1) more rest)
    at_item {i} (bracketed {c = d} {more = more} b held rest) onward =
        let behind = onward (d + 1) more rest in
        let next : next_at lexemes i ≡ d + 1 = rw same at b.followed in
        at_list (bracketed b held rest) (inner held b.closed behind) (rw next behind)

    pub turn : {i e : ℕ} {items : Items} {outer : List Items} → Pending s i items outer e → i < e → Turn s lexemes i items outer e
    turn {items = none} (outermost stands) h = absurd (omega (arith, none_ends stands))
    turn {items = none} (inner stands closed rest) h = let at_end = sym (none_ends stands) in at_close (rw (at_end, same) at closed) (rw at_end at rest)
    turn {items = tree l ops more} p h = let v = level p in at_item v.stands v.onward

-- Of the items from one word to another the walk has come to word `at`, and something holds of what is pending there.
pub record Inside {lexemes : List ℕ} {first end : ℕ} (b : Between lexemes first end) (at : ℕ) (holds : (items : Items) → (outer : List Items) → Type 0)
    : Type 0 where
  pub items : Items
  pub outer : List Items
  pub pending : Pending b.source at items outer end
  pub known : holds items outer

-- What is known where a word that is no bracket stands there.
pub record AtWord {lexemes : List ℕ} {first end : ℕ} (b : Between lexemes first end) (at : ℕ) (holds : (items : Items) → (outer : List Items) → Type 0)
    : Type 0 where
  pub word_here : ItemAt lexemes at
  pub no_list : is_list word_here.label ≡ false
  pub outer : List Items
  pub known : holds (tree word_here.label none word_here.more) outer

-- What is known where a list stands at that word.
pub record AtList {lexemes : List ℕ} {first end : ℕ} (b : Between lexemes first end) (at : ℕ) (holds : (items : Items) → (outer : List Items) → Type 0)
    : Type 0 where
  pub list_here : ListAt lexemes at
  pub source : list_here.source ≡ b.source
  pub outer : List Items
  pub entered : Pending b.source (at + 1) list_here.operands (list_here.more ∷ outer) end
  pub skipped : Pending b.source (next_at lexemes at) list_here.more outer end
  pub known : holds (tree (list at list_here.close) list_here.operands list_here.more) outer

module _ {lexemes : List ℕ} {first end : ℕ} {G : Type 0} where
  -- The walk for each thing g that may be given and says where items stand.
  pub record Down (items_of : G → Between lexemes first end) (at : ℕ) (holds : G → (items : Items) → (outer : List Items) → Type 0) : Type 0 where
    pub given : G
    pub inside : (g : G) → Inside (items_of g) at (holds g)

  pub down_start : (items_of : G → Between lexemes first end) {holds : G → (items : Items) → (outer : List Items) → Type 0} → G
      → ((g : G) → holds g (items_of g).items []) → Down items_of first holds
  down_start items_of given start = record {
    given = given;
    inside = λ g. record { items = (items_of g).items; outer = []; pending = outermost (items_of g).stands; known = start g };
  }

  module _ {items_of : G → Between lexemes first end} {at : ℕ} {holds : G → (items : Items) → (outer : List Items) → Type 0} (d : Down items_of at holds) where
    -- at the end nothing is pending
    pub down_end : end ≤ at → (g : G) → holds g none []
    down_end h g = go (d.inside g).pending (d.inside g).known
      where
        go : {items : Items} {outer : List Items} → Pending (items_of g).source at items outer end → holds g items outer → holds g none []
        go (outermost stands) k = rw (none_left stands h) at k
        go (inner stands closed rest) k = absurd (omega (arith, forward stands, pending_forward rest))

    module _ (h : at < end) {code : ℕ} (ec : code ≡ code_at lexemes at) where
      turn_of : (g : G) → Turn (items_of g).source lexemes at (d.inside g).items (d.inside g).outer end
      turn_of g = turn (items_of g).same (d.inside g).pending h

      -- a word, or the bracket that closes the innermost list
      pub down_word : (code ≡ open_code → ⊥) → {later : G → (items : Items) → (outer : List Items) → Type 0}
          → ((g : G) (x : ItemAt lexemes at) → x.source ≡ (items_of g).source → is_list x.label ≡ false → (outer : List Items)
          → holds g (tree x.label none x.more) outer → later g x.more outer)
          → ((g : G) (next : Items) (outer : List Items) → holds g none (next ∷ outer) → later g next outer)
          → Down items_of (at + 1) later
      down_word other {later} by_word_lem by-close = record { given = d.given; inside = λ g. go g (turn_of g) (d.inside g).known }
        where
          go : (g : G) {items : Items} {outer : List Items} → Turn (items_of g).source lexemes at items outer end → holds g items outer
              → Inside (items_of g) (at + 1) (later g)
          go g (at_word {l = l} {last = last} {more = more} {outer = outer} stands no_list p) k =
              let b = items_of g in
              let x : ItemAt lexemes at =
              record { source = b.source; same = b.same; label = l; operands = none; more = more; end = last; stands = stands } in
              record { items = more; outer = outer; pending = p; known = by_word_lem g x refl no_list outer k }
          go g (at_list stands p q) k = absurd (other (ec ∙ (here (items_of g).same stands).code))
          go g (at_close {next = next} {outer = outer} closes p) k =
              record { items = next; outer = outer; pending = p; known = by-close g next outer k }

      -- a word that is no bracket
      pub at_a_word : (code ≡ open_code → ⊥) → (code ≡ close_code → ⊥) → (g : G) → AtWord (items_of g) at (holds g)
      at_a_word no-open no-close g = go (turn_of g) (d.inside g).known
        where
          b : Between lexemes first end
          b = items_of g

          go : {items : Items} {outer : List Items} → Turn b.source lexemes at items outer end → holds g items outer → AtWord b at (holds g)
          go (at_word {l = l} {last = last} {more = more} {outer = outer} stands no_list p) k = record {
            word_here = record { source = b.source; same = b.same; label = l; operands = none; more = more; end = last; stands = stands };
            no_list = no_list;
            outer = outer;
            known = k;
          }
          go (at_list stands p q) k = absurd (no-open (ec ∙ (here b.same stands).code))
          go (at_close closes p) k = absurd (no-close (ec ∙ closes))

      module _ (opens : code ≡ open_code) where
        -- a list
        pub at_a_list : (g : G) → AtList (items_of g) at (holds g)
        at_a_list g = go (turn_of g) (d.inside g).known
          where
            b : Between lexemes first end
            b = items_of g

            go : {items : Items} {outer : List Items} → Turn b.source lexemes at items outer end → holds g items outer → AtList b at (holds g)
            go (at_word {l = l} stands no_list p) k =
                let is_open : code_of l ≡ open_code = sym (here b.same stands).code ∙ sym ec ∙ opens in
                absurd (true≢false (sym (eq-eqb (code_of l) open_code is_open) ∙ sym (list_code l) ∙ no_list))
            go (at_list {c = c} {last = last} {ops = ops} {more = more} {outer = outer} stands p q) k = record {
              list_here = record { source = b.source; same = b.same; close = c; operands = ops; more = more; end = last; stands = stands };
              source = refl;
              outer = outer;
              entered = p;
              skipped = q;
              known = k;
            }
            go (at_close closes p) k = absurd (omega arith)

        pub list_given : ListAt lexemes at
        list_given = (at_a_list d.given).list_here

        -- the list is skipped
        module _ {next : ℕ} (e : next ≡ next_at lexemes at) where
          pub skip_less : end - next < end - at
          skip_less = let x = list_given in omega (arith, (here x.same x.stands).ahead)

          pub down_skip : {later : G → (items : Items) → (outer : List Items) → Type 0}
              → ((g : G) (x : ListAt lexemes at) → x.source ≡ (items_of g).source → (outer : List Items)
              → holds g (tree (list at x.close) x.operands x.more) outer → later g x.more outer)
              → Down items_of next later
          down_skip step = record {
            given = d.given;
            inside = λ g.
                let v = at_a_list g in
                let x = v.list_here in
                record { items = x.more; outer = v.outer; pending = rw e v.skipped; known = step g x v.source v.outer v.known };
          }

        -- the list is entered
        pub down_enter : {later : G → (items : Items) → (outer : List Items) → Type 0}
            → ((g : G) (x : ListAt lexemes at) → x.source ≡ (items_of g).source → (outer : List Items)
            → holds g (tree (list at x.close) x.operands x.more) outer → later g x.operands (x.more ∷ outer))
            → Down items_of (at + 1) later
        down_enter step = record {
          given = d.given;
          inside = λ g.
              let v = at_a_list g in
              let x = v.list_here in
              record { items = x.operands; outer = x.more ∷ v.outer; pending = v.entered; known = step g x v.source v.outer v.known };
        }

        -- the list is entered behind its head
        module _ (headed : (x : ListAt lexemes at) → 0 < count x.operands) {next : ℕ} (e : next ≡ next_at lexemes (at + 1)) where
          pub behind_less : end - next < end - at
          behind_less =
              let v = at_a_list d.given in
              let x = v.list_here in
              let t = tree_of_count x.operands (headed x) in
              omega (arith, (here_as (items_of d.given).same t.is (level v.entered).stands).ahead)

          pub down_behind : {later : G → (items : Items) → (outer : List Items) → Type 0}
              → ((g : G) (x : ListAt lexemes at) → x.source ≡ (items_of g).source → (l : Lexeme) (ops rest : Items) → x.operands ≡ tree l ops rest
              → (outer : List Items) → holds g (tree (list at x.close) x.operands x.more) outer → later g rest (x.more ∷ outer))
              → Down items_of next later
          down_behind step = record {
            given = d.given;
            inside = λ g.
                let v = at_a_list g in
                let x = v.list_here in
                let t = tree_of_count x.operands (headed x) in
                let w = level v.entered in
                record {
                  items = t.rest;
                  outer = x.more ∷ v.outer;
                  pending = w.onward next t.rest (rw e (here_as (items_of g).same t.is w.stands).rest);
                  known = step g x v.source t.l t.ops t.rest t.is v.outer v.known;
                };
          }

-- a walk into whatever items stand from one word to another
abbrev pub DownAny : (lexemes : List ℕ) (first end at : ℕ) → (Between lexemes first end → (items : Items) → (outer : List Items) → Type 0) → Type 0
DownAny lexemes first end at holds = Down (λ (b : Between lexemes first end). b) at holds
