-- The loop over pairs, each held to the argument in the next row.
use Prim.Native.Nat.{ℕ, suc, ◌+◌, ◌-◌, ◌≤◌, ◌<◌}
use native.Mathlib.Omega.{arith}
use mathlib.Core.Path.{◌≡◌, refl, sym, ◌∙◌, subst}
use mathlib.Core.Bool.{Bool, true, false}
use Rattle.std.specs.Prelude.{Option, None, Some, is_some}
use mathlib.Core.List.{List, [], ◌∷◌, ◌++◌, append_assoc}
use Rattle.forest.specs.Forest.{none, tree}
use Rattle.forest.proofs.Bools.{and_left, and_right, apart}
use Rattle.words.specs.Trees.{Lexeme, keyword, list, literal, numeral, symbol, word_of}
use Rattle.lexemes.specs.Lists.{Items, is_list}
use Rattle.lexemes.specs.code.Standing.{Between, ItemAt, Source, Stands}
use Rattle.lexemes.specs.code.Table.{next_at}
use Rattle.lexemes.proofs.Along.{Along, along_end, along_here, along_start, along_turn, item-of}
use Rattle.shapes.specs.Shapes.{all, pair_shape}
use Rattle.written_sorts.proofs.Walked.{placed}
use Rattle.names.specs.Scopes.{Named, names_of, named_sorts}
use Rattle.names.specs.code.Lookup.{source_of}
use Rattle.names.specs.code.Table.{name_in, names_from, sort_in, sorts_from}
use Rattle.headers.specs.code.Compare.{Held, PairAt, PairHeld, PairsAt, PairsHeld, ended, other, same}
use Rattle.headers.specs.Tokens.{Placed, Token, argument_tokens, closing, sort_tokens, words_in}
use Rattle.headers.proofs.Held.{held_then, held_there}
use Rattle.headers.proofs.Worded.{words_first}
use Rattle.headers.proofs.Rows.{FirstRow, first-row, no_row}

-- the bracket that closes a list
abbrev bracket : (close : ℕ) → List Placed
bracket close = record { at = close; token = closing } ∷ []

-- the words of an argument stand before those of the others
arguments_first : (a : Named) (more : List Named) → argument_tokens (a ∷ more) ≡ argument_tokens (a ∷ []) ++ argument_tokens more
unfolding argument_tokens
arguments_first a more = rw (append_assoc (sort_tokens a.sort) (closing ∷ []) (argument_tokens more))

module _ (l : Lexeme) (ops more : Items) (a : Named) (others : List Named) (close : ℕ) {q : Option ℕ}
    (h : Held (words_in (tree l ops none)) (argument_tokens (a ∷ [])) q) where
  -- a pair that is the same, and the pairs behind it
  pair_then : is_some q ≡ false → {r : Option ℕ} → Held (words_in more ++ bracket close) (argument_tokens others ++ closing ∷ []) r
      → Held (words_in (tree l ops more) ++ bracket close) (argument_tokens (a ∷ others) ++ closing ∷ []) r
  pair_then same_pair behind =
      rw (
        words_first l ops more,
        arguments_first a others,
        append_assoc (words_in (tree l ops none)) (words_in more) (bracket close),
        append_assoc (argument_tokens (a ∷ [])) (argument_tokens others) (closing ∷ []),
      ) (held_then h same_pair behind)

  -- a pair in which a word differs
  pair_there : is_some q ≡ true → Held (words_in (tree l ops more) ++ bracket close) (argument_tokens (a ∷ others) ++ closing ∷ []) q
  pair_there differs =
      rw (
        words_first l ops more,
        arguments_first a others,
        append_assoc (words_in (tree l ops none)) (words_in more) (bracket close),
        append_assoc (argument_tokens (a ∷ [])) (argument_tokens others) (closing ∷ []),
      ) (held_there _ _ h differs)

-- a pair where the list of arguments is closed
pair_for_bracket : (l : Lexeme) → is_list l ≡ true → (ops more : Items) (us : List Placed) (ts : List Token)
    → Held (words_in (tree l ops more) ++ us) (closing ∷ ts) (Some (word_of l))
unfolding words_in
pair_for_bracket (list at close) e ops more us ts = other refl
pair_for_bracket (symbol at name) e ops more us ts = apart e
pair_for_bracket (numeral at v) e ops more us ts = apart e
pair_for_bracket (keyword at name) e ops more us ts = apart e
pair_for_bracket (literal at width v written) e ops more us ts = apart e

-- the bracket where an argument is declared
bracket_for_pair : (a : Named) (more : List Named) (close : ℕ) (ts : List Token)
    → Held (words_in none ++ bracket close) (argument_tokens (a ∷ more) ++ ts) (Some close)
unfolding argument_tokens words_in
bracket_for_pair a more close ts = other refl

module _ {lexemes : List ℕ} {at : ℕ} (i : ItemAt lexemes at) (shaped : all pair_shape (tree i.label i.operands i.more) ≡ true) where
  -- the first of pairs is one
  first_shaped : pair_shape i.label i.operands ≡ true
  unfolding all
  first_shaped = and_left (pair_shape i.label i.operands) (all pair_shape i.more) shaped

  -- and so are the others
  rest_shaped : all pair_shape i.more ≡ true
  unfolding all
  rest_shaped = and_right (pair_shape i.label i.operands) (all pair_shape i.more) shaped

module _ {text lexemes names : List ℕ} {first close row arguments : ℕ} where
  -- where the pairs stand
  abbrev pub pairs_between : PairsAt text lexemes names first close row arguments → Between lexemes first close
  pairs_between p = record { source = source_of text lexemes; same = refl; items = p.items; stands = p.stands }

  -- The pairs that are left have their shape, and what they and the bracket are, held to the arguments from a row on, is what all are.
  pub record PairsLeft (argument : ℕ) (p : PairsAt text lexemes names first close row arguments) (left : Items) : Type 0 where
    pub shaped : all pair_shape left ≡ true
    pub declared : List Named
    pub names_are : names_from names argument (row + arguments - argument) ≡ names_of declared
    pub sorts_are : sorts_from names argument (row + arguments - argument) ≡ named_sorts declared
    pub back : {r : Option ℕ} → Held (words_in left ++ bracket close) (argument_tokens declared ++ closing ∷ []) r → PairsHeld p r

-- The pairs before word `at` are the same as the arguments before a row.
pub record Passing (text lexemes names : List ℕ) (first close row arguments argument at : ℕ) : Type 0 where
  pub walk : Along (λ (p : PairsAt text lexemes names first close row arguments). pairs_between p) at (PairsLeft argument)

module _ {text lexemes names : List ℕ} {first close row arguments : ℕ} where
  -- before the first pair
  pub pass_start : PairsAt text lexemes names first close row arguments → Passing text lexemes names first close row arguments row first
  pass_start given = let whole : row + arguments - row ≡ arguments = omega arith in record {
    walk = along_start pairs_between given (λ p. record {
      shaped = p.shaped;
      declared = p.declared;
      names_are = rw whole p.names_are;
      sorts_are = rw whole p.sorts_are;
      back = λ h. h;
    });
  }

  module _ {argument : ℕ} {p : PairsAt text lexemes names first close row arguments} {left : Items} (x : PairsLeft argument p left) where
    -- an argument is left
    argument_left : argument < row + arguments → FirstRow names argument (row + arguments - (argument + 1)) x.declared
    argument_left h =
        let more : row + arguments - argument ≡ suc (row + arguments - (argument + 1)) = omega arith in
        first-row names argument (row + arguments - (argument + 1)) x.declared (rw more at x.names_are) (rw more at x.sorts_are)

    -- no argument is left
    no_argument_left : row + arguments ≤ argument → x.declared ≡ []
    no_argument_left h =
        let over : row + arguments - argument ≡ 0 = omega arith in
        no_row names argument x.declared (rw over at x.names_are)

  module _ {argument at : ℕ} (s : Passing text lexemes names first close row arguments argument at) where
    module _ (h : close ≤ at) where
      -- the list is closed where an argument is declared
      pub pass_few : argument < row + arguments → (p : PairsAt text lexemes names first close row arguments) → PairsHeld p (Some close)
      pass_few m p =
          let x = along_end s.walk h p in
          let a = argument_left x m in
          x.back (rw a.is (bracket_for_pair _ a.more close (closing ∷ [])))

      -- the list is closed as declared
      pub pass_end : row + arguments ≤ argument → (p : PairsAt text lexemes names first close row arguments) → PairsHeld p None
      unfolding argument_tokens words_in
      pass_end m p =
          let x = along_end s.walk h p in
          x.back (rw (no_argument_left x m) (same refl ended))

    module _ (h : at < close) where
      -- a pair stands where the list of arguments is closed
      pub pass_many : row + arguments ≤ argument → (p : PairsAt text lexemes names first close row arguments) → PairsHeld p (Some at)
      unfolding argument_tokens
      pass_many m p =
          let i = item-of s.walk h p in
          let x = along_here s.walk h p in
          let place = placed i.stands in
          let listed = and_left _ _ (and_left _ _ (and_left _ _ (first_shaped i x.shaped))) in
          x.back
          (rw (no_argument_left x m)
          (subst (λ (word : ℕ). Held (words_in (tree i.label i.operands i.more) ++ bracket close) (closing ∷ []) (Some word)) place
          (pair_for_bracket i.label listed i.operands i.more (bracket close) [])))

      module _ (m : argument < row + arguments) where
        -- a pair that stands at the word
        abbrev pair_from : (p : PairsAt text lexemes names first close row arguments) (i : ItemAt lexemes at) → i.source ≡ source_of text lexemes
            → pair_shape i.label i.operands ≡ true → PairAt text lexemes names at argument
        pair_from p i source shape = record {
          label = i.label;
          operands = i.operands;
          more = i.more;
          end = i.end;
          stands = subst (λ (o : Source). Stands o at (tree i.label i.operands i.more) i.end) source i.stands;
          shaped = shape;
          table = p.table;
          low = omega (arith, p.fits);
        }

        -- the first of the pairs that are left
        pub pass_pair : PairsAt text lexemes names first close row arguments → PairAt text lexemes names at argument
        pass_pair p =
            let i = item-of s.walk h p in
            pair_from p i refl (first_shaped i (along_here s.walk h p).shaped)

        module _ {found : Option ℕ} (known : (q : PairAt text lexemes names at argument) → PairHeld q found) {differs : Bool}
            (differs_is : differs ≡ is_some found) where
          -- a word of the pair differs
          pub pass_other : differs ≡ true → (p : PairsAt text lexemes names first close row arguments) → PairsHeld p found
          unfolding argument_tokens
          pass_other e p =
              let i = item-of s.walk h p in
              let x = along_here s.walk h p in
              let a = argument_left x m in
              let one : Named = record { name = name_in names argument; at = a.at; sort = sort_in names argument } in
              x.back
              (rw a.is
              (pair_there i.label i.operands i.more one a.more close (known (pair_from p i refl (first_shaped i x.shaped))) (sym differs_is ∙ e)))

          -- a turn
          pub pass_turn : differs ≡ false → {next : ℕ} → next ≡ next_at lexemes at
              → Passing text lexemes names first close row arguments (argument + 1) next
          unfolding argument_tokens
          pass_turn e n = record {
            walk = along_turn s.walk h n (λ p i source x.
                let a = argument_left x m in
                let one : Named = record { name = name_in names argument; at = a.at; sort = sort_in names argument } in
                record {
                  shaped = rest_shaped i x.shaped;
                  declared = a.more;
                  names_are = a.names_are;
                  sorts_are = a.sorts_are;
                  back = λ held.
                      x.back
                      (rw a.is
                      (pair_then i.label i.operands i.more one a.more close (known (pair_from p i source (first_shaped i x.shaped)))
                      (sym differs_is ∙ e)
                      held));
                });
          }
