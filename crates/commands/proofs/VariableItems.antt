-- A `declare-var` that stands at a word: its name and its sort.
use Prim.Native.Nat.{ℕ, ◌+◌, ◌*◌, ◌<◌}
use native.Mathlib.Omega.{arith}
use mathlib.Core.Bool.{true, false, ◌&&◌}
use mathlib.Core.List.{List}
use mathlib.Core.Path.{◌≡◌, refl}
use lib.Dec.{eqb}
use lib.ListN.{length}
use borrow.Author.Tests.{eqb-true}
use Rattle.forest.specs.Forest.{count}
use Rattle.forest.specs.Lists.{same_bytes}
use Rattle.forest.proofs.Bools.{and_left, and_right}
use Rattle.lexemes.specs.Reserved.{is_word}
use Rattle.lexemes.specs.Lists.{Items, inside, is_list, is_symbol, item}
use Rattle.lexemes.specs.code.Standing.{ItemAt, ListAt}
use Rattle.lexemes.specs.code.Table.{row_width as lexemeWidth}
use Rattle.lexemes.proofs.ByCode.{code_for}
use Rattle.lexemes.proofs.Listed.{item_room}
use Rattle.lexemes.specs.code.Codes.{declare_var_code}
use Rattle.shapes.specs.Shapes.{command_shape, declare_var_shape, sort_shape}
use Rattle.written_sorts.specs.code.Places.{SortAt}
use Rattle.written_sorts.proofs.PairParts.{shaped_come}
use Rattle.written_sorts.proofs.Walked.{Come, come_behind, come_first, item_come, named_word, symbol_word}
use Rattle.names.specs.code.Lookup.{source_of}
use Rattle.script.specs.code.Tables.{CommandOf}
use Rattle.script.specs.declared.Progress.{Progress}
use Rattle.script.proofs.CommandByCode.{Chosen, chosen}
use Rattle.commands.specs.code.DeclareVar.{VariableAt}

-- A variable's name and sort.
pub record VariableParts (c : Items) : Type 0 where
  pub three : count c ≡ 3
  pub named : is_symbol (item 1 c) ≡ true
  pub sort : sort_shape (item 2 c) (inside 2 c) ≡ true

-- The items of a command of the shape.
pub variable_parts : (c : Items) → declare_var_shape c ≡ true → VariableParts c
variable_parts c e =
    let three = eqb (count c) 3 in
    let named = is_symbol (item 1 c) in
    let sort = sort_shape (item 2 c) (inside 2 c) in
    let front = and_left (three && named) sort e in
    record { three = eqb-true (count c) 3 (and_left three named front); named = and_right three named front; sort = and_right (three && named) sort e }

module _ {text lexemes : List ℕ} {i : ℕ} (x : VariableAt text lexemes i) where
  -- The command is a list.
  abbrev pub list_here : ListAt lexemes i
  list_here = record {
    source = source_of text lexemes;
    same = refl;
    close = x.close;
    operands = x.command;
    more = x.more;
    end = x.end;
    stands = x.stands;
  }

  -- Its name and its sort.
  pub parts : VariableParts x.command
  parts = variable_parts x.command x.shaped

  -- Where its name stands.
  pub come_name : Come list_here 1 (i + 2)
  come_name = come_behind list_here (come_first list_here) (omega (arith, parts.three)) x.a_word (omega arith)

  -- The item that is its name.
  abbrev pub name_item : ItemAt lexemes (i + 2)
  name_item = item_come list_here come_name (omega (arith, parts.three))

  -- Where its sort stands.
  pub come_sort : Come list_here 2 (i + 3)
  come_sort = come_behind list_here come_name (omega (arith, parts.three)) (symbol_word (item 1 x.command) parts.named) (omega arith)

  -- Its sort.
  abbrev pub sort_here : SortAt lexemes (i + 3)
  sort_here = shaped_come list_here come_sort (omega (arith, parts.three)) parts.sort

  -- Which stands within the table of lexemes.
  pub sort_room : lexemeWidth * (i + 3) < length lexemes
  sort_room = item_room sort_here.here

module _ {text lexemes : List ℕ} {p : Progress} {i nowhere : ℕ} (d : CommandOf "declare-var" text lexemes p i nowhere) where
  -- It is the command of that word.
  pub is_declaring : Chosen d.here.command declare_var_code
  unfolding code_for
  is_declaring = chosen "declare-var" refl d.here.command d.by

  -- Its first item is a word.
  pub no_list : is_list (item 0 d.here.command) ≡ false
  unfolding same_bytes
  no_list = named_word (is_word "declare-var") refl (item 0 d.here.command) d.by

  -- Its shape is that of the word.
  pub declared : declare_var_shape d.here.command ≡ true
  unfolding command_shape
  declared = rw (is_declaring.sets, is_declaring.declares) at d.shaped

  -- A `declare-var` stands there.
  abbrev pub variable_here : VariableAt text lexemes i
  variable_here = record {
    close = d.here.close;
    command = d.here.command;
    more = d.here.more;
    end = d.here.end;
    stands = d.here.stands;
    a_word = no_list;
    shaped = declared;
  }
