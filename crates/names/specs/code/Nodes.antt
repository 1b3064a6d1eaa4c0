-- What a node of a term is told by, and what it stands for.
use Rattle.std.specs.Prelude.{ℕ, ◌+◌, Bool, cond, ◌&&◌, ◌||◌, List, ◌≡◌, eqb, ltb}
use Rattle.terms.specs.code.Codes.{any_argument_kind, any_literal_kind}
use Rattle.words.specs.Trees.{Lexeme}
use Rattle.lexemes.specs.Lists.{Items}
use Rattle.lexemes.specs.code.Codes.{constant_code, variable_code}
use Rattle.lexemes.specs.code.Standing.{Source}
use Rattle.term_nodes.specs.code.Says.{Says, SaysPattern}
use Rattle.term_nodes.specs.code.Table.{head_word}
use Rattle.term_nodes.specs.Terms.{Raw, constant, cut, decimal, first_word, number, pattern, word}
use Rattle.names.specs.Scopes.{View, means}
use Rattle.names.specs.Unknown.{unknown_at}
use Rattle.names.specs.declared.Meaning.{Meaning}
use Rattle.names.specs.declared.Seen.{Seen}
use Rattle.names.specs.code.Lookup.{Sees, Stated, source_of, Bounded, Headed}

-- The word of a node at which a name stands that may be unknown.
abbrev pub name_word : Raw → ℕ
name_word (word at head name) = head
name_word (number at v) = at
name_word (constant at width v) = at
name_word (decimal at head name width) = head
name_word (cut at head i j) = head
name_word (pattern at c s held) = at + 2

-- What a node stands for, and whether the name at that word is known.
pub record NodeMeans (view : View) (r : Raw) (m : Meaning) : Type 0 where
  pub stated : Stated (means view r) m
  pub known_is : (nowhere : ℕ) → unknown_at nowhere view r ≡ cond m.known nowhere (name_word r)

-- `(Constant σ)` or `(Variable σ)`, by the word that says which it is.
pub record PatternAt (lexemes : List ℕ) (head : ℕ) : Type 0 where
  pub source : Source
  pub same : source.lexemes ≡ lexemes
  pub bounded : Bounded source
  pub at : ℕ
  pub here : head ≡ at + 1
  pub constant : Bool
  pub sort : Lexeme
  pub held : Items
  pub says : SaysPattern source at constant sort held

-- A node, of which the words say what it is, by its first word and the word that says what it is; and names that are seen.
pub record NodeAt (names : List ℕ) (seen : Seen) (text lexemes : List ℕ) (first head : ℕ) : Type 0 where
  pub view : View
  pub sees : Sees names seen view
  pub bounded : Bounded (source_of text lexemes)
  pub node : Raw
  pub begins : first ≡ first_word node
  pub heads : head ≡ head_word node
  pub says : Says (source_of text lexemes) node
  pub headed : Headed node

-- Whether a node is `(Constant σ)` or `(Variable σ)`, by its first word, the word that says what it is and the code of that.
abbrev pub is_pattern_head : (first head code : ℕ) → Bool
is_pattern_head first head code = ltb first head && (eqb code constant_code || eqb code variable_code)

-- The kind of `(Constant σ)` or `(Variable σ)`, by the code of the word that says which it is.
abbrev pub pattern_kind : (code : ℕ) → ℕ
pattern_kind code = cond (eqb code variable_code) any_argument_kind any_literal_kind

-- The word of a node at which a name stands, by the same.
abbrev pub word_by : (first head code : ℕ) → ℕ
word_by first head code = cond (is_pattern_head first head code) (head + 1) head
