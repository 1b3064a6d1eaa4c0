use Rattle.names.proofs.ByWords.{cut_coded, cut_node, decimal_coded, decimal_node, literal_narrow, literal_node, number_node, pattern_at, pattern_node}
use Rattle.names.proofs.ByWords.{symbol_coded, symbol_node}
use Rattle.names.proofs.nodes.node_means.Goals as goal

pub pattern_means-requires : goal.pattern_means-requires
pattern_means-requires c = search pattern_at

pub returns-then-is_pattern : goal.returns-then-is_pattern
returns-then-is_pattern c = λ given. search pattern_node

pub decimal_means-requires : goal.decimal_means-requires
decimal_means-requires c = search decimal_coded

pub returns-then-is_constant : goal.returns-then-is_constant
returns-then-is_constant c = λ given. search decimal_node

pub symbol_means-requires : goal.symbol_means-requires
symbol_means-requires c = record { seeing = record { view = c.requires.view; sees = c.requires.sees }; code_value = search symbol_coded }

pub returns-then-code-ge-SYMBOL : goal.returns-then-code-ge-SYMBOL
returns-then-code-ge-SYMBOL c = λ given. search symbol_node

pub literal_means-requires : goal.literal_means-requires
literal_means-requires c = search literal_narrow

pub returns-then-code-eq-LITERAL : goal.returns-then-code-eq-LITERAL
returns-then-code-eq-LITERAL c = λ given. search literal_node

pub cut_means-requires : goal.cut_means-requires
cut_means-requires c = search cut_coded

pub returns-then-first-head : goal.returns-then-first-head
returns-then-first-head c = λ given. search cut_node

pub returns : goal.returns
returns c = λ given. rw c.known_as.ensures (search number_node)
