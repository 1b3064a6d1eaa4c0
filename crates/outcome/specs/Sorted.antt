-- What the rules of a function see, in the words of the theorem that a derived term has its function's sort.
use Rattle.std.specs.Prelude.{◌-◌, List, [], drop, length}
use Rattle.term_sorts.specs.Forms.{FormScope}
use Rattle.names.specs.Scopes.{Defined, Function}
use Rattle.term_faults.specs.Faults.{scope_of}

-- What the rules of a function see: its arguments, the `define-fun`s before it, and its non-terminals.
abbrev pub grammar_scope : (defs : List Defined) → Function → FormScope
grammar_scope defs f = scope_of (record {
  names = f.arguments;
  defined = drop (length defs - f.before) defs;
  functions = [];
  non_terminals = f.non_terminals;
})
