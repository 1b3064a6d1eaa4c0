-- "answer 7 returns it as second number; 0 for unknown or reserved" (E8): what the second number of a name at fault speaks of.
use Prim.Native.Nat.{ℕ, zero, suc, ◌+◌, ◌≤◌, ◌<◌}
use native.Mathlib.Omega.{arith}
use mathlib.Core.Bool.{Bool, true, false, cond, ◌&&◌}
use mathlib.Core.List.{List, [], ◌∷◌, ◌++◌, Memᴰ, append-nil}
use mathlib.Core.Path.{◌≡◌, refl, ap, sym, ◌∙◌, subst}
use borrow.Author.Tests.{eq-eqb, eqb-false, eqb-true, lt-ltb, ne_eqb}
use lib.Dec.{eqb, ltb}
use Rattle.forest.specs.Forest.{count, none}
use Rattle.forest.specs.Lists.{same_bytes}
use Rattle.forest.proofs.Bools.{and_left, and_right, apart}
use Rattle.words.specs.Trees.{Lexeme, list, word_of}
use Rattle.lexemes.specs.Lists.{Items, close_of, inside, is_list, is_symbol, item}
use Rattle.lexemes.specs.code.Standing.{Source, Stands, bracketed, ends, word}
use Rattle.lexemes.proofs.Standing.{forward}
use Rattle.lexemes.specs.Reserved.{is_reserved}
use Rattle.names.specs.New.{named_by}
use Rattle.names.specs.Earlier.{Declared, declared_names, earlier, last_before, spellings}
use Rattle.names.proofs.Taken.{earlier_found}
use Rattle.shapes.specs.Shapes.{all, command_shape, header_shape, is_list_of, pair_shape}
use Rattle.script.proofs.WordsBelow.{item_below, stands_below}
use Rattle.script.specs.Script.{Known, arguments_of, declared_in, earlier_place, name_place, new_names, refused}
use Rattle.script.specs.Outcome.{ScriptOutcome, script_outcome}
use Rattle.script.specs.code.Answers.{name_answer}
use Rattle.outcome.specs.Scoped.{Apart, InScope, NameRefused, NewAt, SecondStated, TakenBy, declared_before, in_scope_at}
use Rattle.outcome.proofs.Apart.{earlier_only, last_kept, reserved_none}
use Rattle.outcome.proofs.OneCommand.{Command, another, assuming, command, constraining, declaring, defining, synthesizing}
use Rattle.outcome.proofs.Refusals.{Gives, a_name, another as another-number, met_in, name_refusal}
use Rattle.outcome.proofs.Scoped.{definition_shape, function_shape, item_ahead, item_from, new_apart}

-- ---- the places of new names

-- Declarations at rising words, the first of them not before word i.
unfoldable Rising : (i : ℕ) → List Declared → Type 0
Rising i [] = Unit {0}
Rising i (d ∷ more) = (i ≤ d.at) × Rising (d.at + 1) more

-- They are not before an earlier word.
rising_from : (ds : List Declared) (i j : ℕ) → j ≤ i → Rising i ds → Rising j ds
unfolding Rising
rising_from [] i j h r = tt
rising_from (d ∷ more) i j h r = (omega (arith, r.0), r.1)

-- None of them is before it.
rising_past : (ds : List Declared) (i : ℕ) {d : Declared} → Rising i ds → Memᴰ d ds → i ≤ d.at
unfolding Rising
rising_past [] i r m = elim m [ ]
rising_past (e ∷ more) i r (Memᴰ.head q) = omega (arith, r.0, ap (λ (d : Declared). d.at) q)
rising_past (e ∷ more) i r (Memᴰ.tail m) = omega (arith, r.0, rising_past more (e.at + 1) r.1 m)

-- A pair has two items.
two_items : (l : Lexeme) (ops : Items) → pair_shape l ops ≡ true → count ops ≡ 2
two_items l ops h = eqb-true (count ops) 2 (and_right (is_list l) _ (and_left _ _ (and_left _ _ h)))

-- Pairs that stand before others.
pairs_rise : {s : Source} {i e : ℕ} {pairs : Items} (more : List Declared) → all pair_shape pairs ≡ true → Stands s i pairs e → Rising e more
    → Rising i (declared_names (named_by pairs) ++ more)
unfolding Rising all named_by
pairs_rise more shaped ends r = r
pairs_rise more shaped (word {l = l} {more = rest} w stands) r =
    let pair = and_left (pair_shape l none) (all pair_shape rest) shaped in
    apart (sym w.no_list ∙ and_left _ _ (and_left _ _ (and_left _ _ pair)))
pairs_rise more shaped (bracketed {i = i} {c = c} {ops = ops} {more = rest} b inner stands) r =
    let two = two_items (list i c) ops (and_left (pair_shape (list i c) ops) (all pair_shape rest) shaped) in
    let from = item_from 0 (omega arith) inner in
    let below = (item_below (omega (arith, forward inner)) 0 ops (stands_below c inner (omega arith))).first in
    let rest-rises = pairs_rise more (and_right (pair_shape (list i c) ops) (all pair_shape rest) shaped) stands r in
    (omega arith, rising_from (declared_names (named_by rest) ++ more) (c + 1) (word_of (item 0 ops) + 1) (omega arith) rest-rises)

-- What a list that is an item holds stands behind its bracket, up to the bracket that closes it.
held_stands : {s : Source} {i e : ℕ} {F : Items} (n : ℕ) → n < count F → is_list (item n F) ≡ true → Stands s i F e
    → Stands s (word_of (item n F) + 1) (inside n F) (close_of (item n F))
unfolding count inside item
held_stands n h t ends = absurd (omega arith)
held_stands zero h t (word w rest) = apart (sym w.no_list ∙ t)
held_stands zero h t (bracketed b inner rest) = inner
held_stands (suc n) h t (word w rest) = held_stands n (omega arith) t rest
held_stands (suc n) h t (bracketed b inner rest) = held_stands n (omega arith) t rest

-- The pairs that item n holds, before other declarations.
held_rise : {s : Source} {i e : ℕ} {F : Items} (n : ℕ) → n < count F → is_list_of pair_shape (item n F) (inside n F) ≡ true → Stands s i F e
    → (more : List Declared) → Rising (close_of (item n F)) more → Rising (word_of (item n F) + 1) (declared_names (named_by (inside n F)) ++ more)
held_rise {F = F} n h t stands more r =
    pairs_rise more (and_right (is_list (item n F)) (all pair_shape (inside n F)) t)
    (held_stands n h (and_left (is_list (item n F)) (all pair_shape (inside n F)) t) stands) r

-- The new names of a command of a right shape stand at rising words.
new_rise : (c : Items) → command_shape c ≡ true → {s : Source} {i e : ℕ} → Stands s i c e → Command c → Rising 0 (new_names c)
unfolding Rising new_names
new_rise c shape stands (declaring t) = rw t.declares (omega arith, tt)
new_rise c shape stands (defining t) =
    let shaped = and_left _ _ (definition_shape c shape t.defines) in
    let long = eqb-true (count c) 5 (and_left _ _ shaped) in
    let header = and_left _ _ (and_right (eqb (count c) 5) (header_shape c) shaped) in
    let pairs = held_rise 2 (omega arith) (and_right (is_symbol (item 1 c)) _ header) stands [] tt in
    let arguments = subst (Rising (word_of (item 2 c) + 1)) (append-nil (declared_names (arguments_of c))) pairs in
    let own = (item_ahead 1 2 (omega arith) (omega arith) stands).itself.first in
    rw (t.declares, t.defines)
    (omega arith, rising_from (declared_names (arguments_of c)) (word_of (item 2 c) + 1) (word_of (item 1 c) + 1) (omega arith) arguments)
new_rise c shape stands (synthesizing t) =
    let shaped = and_left _ _ (function_shape c shape t.synthesizes) in
    let front = and_left _ _ shaped in
    let long = eqb-true (count c) 6 (and_left _ _ front) in
    let header = and_left _ _ (and_right (eqb (count c) 6) (header_shape c) front) in
    let non_terminals = declared_names (named_by (inside 4 c)) in
    let predeclared = and_right (eqb (count c) 6 && header_shape c) (is_list_of pair_shape (item 4 c) (inside 4 c)) shaped in
    let listed = held_rise 4 (omega arith) predeclared stands [] tt in
    let last = subst (Rising (word_of (item 4 c) + 1)) (append-nil non_terminals) listed in
    let closed = (item_ahead 2 4 (omega arith) (omega arith) stands).itself.last in
    let later = rising_from non_terminals (word_of (item 4 c) + 1) (close_of (item 2 c)) (omega arith) last in
    let pairs = held_rise 2 (omega arith) (and_right (is_symbol (item 1 c)) _ header) stands non_terminals later in
    let own = (item_ahead 1 2 (omega arith) (omega arith) stands).itself.first in
    rw (t.declares, t.defines, t.synthesizes)
    (omega arith, rising_from (declared_names (arguments_of c) ++ non_terminals) (word_of (item 2 c) + 1) (word_of (item 1 c) + 1) (omega arith) pairs)
new_rise c shape stands (constraining t) = rw (t.declares, t.defines, t.synthesizes) tt
new_rise c shape stands (assuming t) = rw (t.declares, t.defines, t.synthesizes) tt
new_rise c shape stands (another t) = rw (t.declares, t.defines, t.synthesizes) tt

-- So the earlier declaration of one of them is that of its spelling.
first-at : (ds new : List Declared) (i : ℕ) {d : Declared} → Rising i new → Memᴰ d new → earlier ds new d.at ≡ last_before ds d.at d.name
unfolding Rising earlier
first-at ds [] i r m = elim m [ ]
first-at ds (e ∷ more) i {d} r (Memᴰ.head q) = rw (← q, eq-eqb d.at d.at refl) refl
first-at ds (e ∷ more) i {d} r (Memᴰ.tail m) =
    let past = rising_past more (e.at + 1) r.1 m in
    rw (ne_eqb e.at d.at (λ same. omega arith)) (first-at ds more (e.at + 1) r.1 m)

-- ---- the second number

-- What is declared before the word is left where names that are not are left out.
kept : (front ds : List Declared) {w : ℕ} {d : Declared} → d.at < w → Memᴰ d (front ++ ds) → Memᴰ d (front ++ declared_before w ds)
unfolding declared_before
kept (e ∷ front) ds h (Memᴰ.head q) = Memᴰ.head q
kept (e ∷ front) ds h (Memᴰ.tail m) = Memᴰ.tail (kept front ds h m)
kept [] [] h m = elim m [ ]
kept [] (e ∷ ds) {w} {d} h (Memᴰ.head q) = rw (← q, lt-ltb d.at w h) (Memᴰ.head refl)
kept [] (e ∷ ds) {w} {d} h (Memᴰ.tail m) = go (ltb e.at w) (kept [] ds h m)
  where
    go : (t : Bool) → Memᴰ d (declared_before w ds) → Memᴰ d (cond t (e ∷ declared_before w ds) (declared_before w ds))
    go true m = Memᴰ.tail m
    go false m = m

module _ (nowhere : ℕ) {w at : ℕ} (k : Known) (c : Items) (s : InScope k at) (first : w ≤ name_place nowhere k c) where
  -- The names in scope at the first name at fault have distinct spellings, none of them reserved.
  pub fault_apart : Apart (spellings (in_scope_at k c w))
  fault_apart = new_apart w nowhere k c s.apart first (command c)

  -- The name that is spelt so and declared before is the only one.
  taken_only : (n : List ℕ) {d : Declared} → Memᴰ d (in_scope_at k c w) → same_bytes d.name n ≡ true → d.at < w
      → last_before (declared_in k ++ new_names c) w n ≡ d.at
  taken_only n m same h = last_kept (declared_in k) (new_names c) w n ∙ earlier_only (in_scope_at k c w) w n fault_apart m same h

  -- No reserved word has an earlier declaration.
  none_reserved : (n : List ℕ) → is_reserved n ≡ true → last_before (declared_in k ++ new_names c) w n ≡ 0
  none_reserved n h = last_kept (declared_in k) (new_names c) w n ∙ reserved_none (in_scope_at k c w) w n fault_apart h

  -- So a word that has one is not reserved.
  unreserved : (n : List ℕ) {d : Declared} → Memᴰ d (in_scope_at k c w) → same_bytes d.name n ≡ true → d.at < w → 0 < d.at → is_reserved n ≡ false
  unreserved n {d} m same h some = go (is_reserved n) refl
    where
      go : (reserved : Bool) → is_reserved n ≡ reserved → reserved ≡ false
      go true e = absurd (omega (arith, some, none_reserved n e, taken_only n m same h))
      go false e = refl

  -- A second number that is not 0 is the place of the declaration of the name that the new name takes.
  second_taken : 0 < earlier_place k c w → TakenBy k c w (earlier_place k c w)
  second_taken h =
      let t = earlier_found (declared_in k ++ new_names c) (new_names c) w h in
      let n = t.taken.name in
      let d = t.declaration in
      let member = kept (declared_in k) (new_names c) d.before d.known in
      record {
        new = t.taken;
        new_at = record { is_new = t.among_new; at_word = t.at_word };
        unreserved = unreserved n member d.spelt d.before (omega (arith, h, d.is));
        declaration = d.declared;
        spelt_before = record { in_scope = member; spelt = d.spelt; before = d.before };
        place_is = d.is;
      }

  -- A word that is no new name's has none.
  second_unknown : ((new : Declared) → NewAt c w new → ⊥) → earlier_place k c w ≡ 0
  second_unknown none_there = go (eqb (earlier_place k c w) 0) refl
    where
      go : (t : Bool) → eqb (earlier_place k c w) 0 ≡ t → earlier_place k c w ≡ 0
      go true e = eqb-true (earlier_place k c w) 0 e
      go false e =
          let some : 0 < earlier_place k c w = let ne = eqb-false (earlier_place k c w) 0 e in omega arith in
          let t = earlier_found (declared_in k ++ new_names c) (new_names c) w some in
          absurd (none_there t.taken (record { is_new = t.among_new; at_word = t.at_word }))

  module _ (shape : command_shape c ≡ true) {source : Source} {i e : ℕ} (stands : Stands source i c e) where
    -- The second number of a new name is by its spelling.
    by_spelling : {new : Declared} → NewAt c w new → earlier_place k c w ≡ last_before (declared_in k ++ new_names c) w new.name
    by_spelling {new} n =
        subst (λ (v : ℕ). earlier_place k c v ≡ last_before (declared_in k ++ new_names c) v new.name) n.at_word
        (first-at (declared_in k ++ new_names c) (new_names c) 0 (new_rise c shape stands (command c)) n.is_new)

    -- So it is the place of the one declaration in scope that is spelt alike, 0 for a reserved word, and 0 for a word that is no new name's.
    stated : SecondStated k c w (earlier_place k c w)
    stated = record {
      apart = fault_apart;
      taken = λ {new} n d. by_spelling n ∙ taken_only new.name d.in_scope d.spelt d.before;
      taken_by = second_taken;
      reserved = λ {new} n h. by_spelling n ∙ none_reserved new.name h;
      unknown = second_unknown;
    }

-- ---- a script

-- What a command gives that is refused by 7.
second_stated : {source : Source} {nowhere at close : ℕ} (k : Known) (c : Items) {word earlier : ℕ} → InScope k at → Stands source (at + 1) c close
    → Gives nowhere k at c (refused name_answer word earlier) → SecondStated k c word earlier
second_stated k c s stands (another-number other) = absurd (other.no_name refl)
second_stated {nowhere = nowhere} k c s stands (a_name shape) = stated nowhere k c s (omega arith) shape stands

-- "answer 7 returns it as second number; 0 for unknown or reserved" (E8), of every script that is refused by 7.
pub name_refused : (script : List ℕ) {place second : ℕ} → script_outcome script ≡ ScriptOutcome.faulty 7 place second → NameRefused script place second
name_refused script e =
    let r = name_refusal script e in
    record {
      known = r.by.known;
      at = r.by.at;
      command = r.by.command;
      met = met_in r;
      word = r.word;
      earlier = r.earlier;
      stated = second_stated r.by.known r.by.command r.by.in_scope r.by.stands r.by.gives;
      place_is = r.place_is;
      second_is = r.second_is;
    }
