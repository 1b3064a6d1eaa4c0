-- 7, "name unknown", in a term: the least word at fault; nowhere, a number past every word, where there is none.
use Rattle.std.specs.Prelude.{ℕ}
use Rattle.forest.specs.Forest.{nodes_of}
use Rattle.words.specs.Trees.{Lexeme}
use Rattle.lexemes.specs.Lists.{Items}
use Rattle.names.specs.Scopes.{View}
use Rattle.names.specs.Unknown.{unknown_in}
use Rattle.term_nodes.specs.Terms.{raw_term}

-- In a term.
abbrev pub term_names : (nowhere : ℕ) → View → Lexeme → Items → ℕ
term_names nowhere view l ops = unknown_in nowhere view (nodes_of (raw_term l ops))
