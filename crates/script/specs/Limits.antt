-- 4, "past a limit", in a command whose shape is right: the least word at fault; nowhere, a number past every word, where there is none.
use Rattle.std.specs.Prelude.{ℕ, cond, ltb}
use Rattle.forest.specs.Forest.{nodes_of}
use Rattle.words.specs.Trees.{Lexeme}
use Rattle.lexemes.specs.Lists.{Items}
use Rattle.forest.specs.Limits.{Counts}
use Rattle.term_nodes.specs.Terms.{raw_term, word_past}

-- The word past a limit of a term: its nodes, or a constant.
abbrev pub node_past : Counts → (nowhere : ℕ) → Lexeme → Items → ℕ
node_past counts nowhere l ops = word_past nowhere counts.nodes (nodes_of (raw_term l ops))

-- The command itself, where there are as many of its kind before it as there may be.
abbrev pub command_past : (nowhere most before at : ℕ) → ℕ
command_past nowhere most before at = cond (ltb before most) nowhere at
