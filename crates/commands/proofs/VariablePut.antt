-- The variable of a `declare-var`, put into its row.
use Prim.Native.Nat.{ℕ, suc, ◌+◌, ◌*◌, ◌≤◌, ◌<◌}
use native.Mathlib.Omega.{arith}
use mathlib.Core.List.{List, [], ◌∷◌, ◌++◌, map-append}
use mathlib.Core.Path.{◌≡◌, ◌∙◌}
use lib.ListN.{length, length-append}
use lib.Seq.{sets}
use Rattle.forest.specs.Limits.{most_variables}
use Rattle.operators.specs.Sorts.{max_width}
use Rattle.words.specs.Trees.{word_of}
use Rattle.lexemes.specs.Lists.{inside, item, name_of}
use Rattle.written_sorts.specs.code.Places.{SortAt}
use Rattle.written_sorts.specs.Written.{sort_of}
use Rattle.names.specs.Scopes.{Named, names_of, named_sorts}
use Rattle.names.specs.Earlier.{declared_names}
use Rattle.names.specs.code.Lookup.{bytes_at}
use Rattle.names.specs.code.Table.{
  argument_row,
  declared_from,
  defined_row,
  function_row,
  longest,
  name_row,
  names_from,
  own_argument_row,
  row_width,
  sorts_from,
  variable_row,
  words_told,
}
use Rattle.names.proofs.NamePut.{Put, put-row}
use Rattle.names.proofs.NewNameTested.{SymbolAt, symbol_at}
use Rattle.script.specs.Script.{known_after, new_names}
use Rattle.script.specs.code.Tables.{After, NamesHold}
use Rattle.script.specs.code.Taken.{VariableTaken}
use Rattle.script.specs.declared.Progress.{Progress}
use Rattle.script.proofs.NamesKept.{few_before, names_kept, one_declared_more, one_name_more, one_sort_more}
use Rattle.commands.specs.code.DeclareVar.{Added, Adding, Declaring}
use Rattle.commands.proofs.VariableItems.{is_declaring, name_item, parts, sort_here}

module _ {text lexemes names : List ℕ} {row i : ℕ} (a : Adding text lexemes names row i) where
  -- The symbol that is its name.
  symbol_here : SymbolAt text lexemes (i + 2) (item 1 a.here.command)
  symbol_here = symbol_at (name_item a.here).stands (parts a.here).named

  -- The name is not too long for a row.
  pub name_fits : length (name_of (item 1 a.here.command)) ≤ longest
  name_fits = rw (← symbol_here.spelled) (a.short (i + 2) (omega (arith, symbol_here.coded)))

  -- Nor its word too high for one.
  pub word_fits : i + 2 < words_told
  word_fits = a.low_words (i + 2) (omega (arith, symbol_here.coded))

  module _ {bytes : List ℕ} (eb : bytes ≡ bytes_at text lexemes (i + 2)) where
    -- Its bytes are those of the name.
    bytes_are : bytes ≡ name_of (item 1 a.here.command)
    bytes_are = eb ∙ symbol_here.spelled

    -- And so they are not too many.
    pub bytes_fit : length bytes ≤ longest
    bytes_fit = rw bytes_are name_fits

  module _ {sort : ℕ} (es : (q : SortAt lexemes (i + 3)) → sort ≡ sort_of q.here.label q.here.operands) where
    -- The sort is not too wide.
    pub sort_small : sort ≤ max_width
    sort_small = omega (arith, es (sort_here a.here), a.narrow)

    -- Name, word and sort are put into the row.
    pub variable_added : {bytes : List ℕ} → bytes ≡ bytes_at text lexemes (i + 2)
        → {after : List ℕ} → after ≡ sets names (row_width * row) (name_row sort (i + 2) bytes) → Added a after
    variable_added eb e = rw (← es (sort_here a.here), ← bytes_are eb, symbol_here.is_placed) e

  -- The row holds them, and the other rows what they held.
  pub variable_put : {after : List ℕ} → Added a after
      → let c = a.here.command in Put names row (sort_of (item 2 c) (inside 2 c)) (word_of (item 1 c)) (name_of (item 1 c)) after
  variable_put e = put-row a.table a.fits _ _ _ name_fits a.narrow (rw symbol_here.is_placed word_fits) e

module _ {text lexemes names : List ℕ} {p : Progress} {i nowhere : ℕ} (d : Declaring text lexemes names p i nowhere) where
  -- The variable that the command says.
  abbrev variable : Named
  variable = let c = d.of.here.command in record { name = name_of (item 1 c); at = word_of (item 1 c); sort = sort_of (item 2 c) (inside 2 c) }

  module _ (room : p.variables < most_variables) {after : List ℕ}
      (put : Put names (variable_row + p.variables) variable.sort variable.at variable.name after) where
    -- The table has the names that were known.
    others_kept : NamesHold after d.of.known
    others_kept =
        let k = d.of.known in
        let counted = d.of.counted.variables_are in
        names_kept put.table
        (put.kept.rows_before variable_row (length k.variables) (omega arith))
        (put.kept.rows_behind defined_row (length k.defined) (omega arith))
        (put.kept.rows_behind function_row (length k.functions) (omega arith))
        (λ j m h few. put.kept.rows_behind (own_argument_row j) m (omega arith)) d.names_hold

    -- And that of the variable, which is new.
    new_declared : declared_from after (variable_row + p.variables) 1 ≡ record { name = variable.name; at = variable.at } ∷ []
    unfolding declared_from
    new_declared = rw (put.name, put.word_is)

    -- So where its name is taken, the table has what tells by which.
    pub variable_taken : VariableTaken after p d.of.known d.of.here.command
    unfolding declared_from new_names
    variable_taken = record {
      listing = record { table = put.table; few = few_before d.of.counted argument_row (omega arith); own_fits = omega arith; few_listed = omega arith };
      placed = others_kept.placed;
      new_are = rw (is_declaring d.of).declares new_declared;
    }

    -- Behind the variables that were known, the table has the one that is declared.
    pub names_declared : NamesHold after (After d.of)
    unfolding known_after
    names_declared =
        let t = is_declaring d.of in
        let k = d.of.known in
        let counted = d.of.counted.variables_are in
        let hold = d.names_hold in
        let others = others_kept in
        let same = put.kept.rows_before variable_row p.variables (omega arith) in
        let places : declared_from names variable_row p.variables ≡ declared_names k.variables = rw counted hold.placed.variables_are in
        let long : length (k.variables ++ variable ∷ []) ≡ suc p.variables = omega (arith, length-append k.variables (variable ∷ [])) in
        let before : names_from names variable_row p.variables ≡ names_of k.variables = rw counted hold.variables_are in
        let sorts : sorts_from names variable_row p.variables ≡ named_sorts k.variables = rw counted hold.variable-sorts in
        rw (t.declares, t.defines, t.synthesizes) (record {
          table = put.table;
          variables_are = rw (long, map-append) (one_name_more same before put.name);
          variable-sorts = rw (long, map-append) (one_sort_more same sorts put.sort_is);
          defined_are = others.defined_are;
          functions_are = others.functions_are;
          arguments_are = others.arguments_are;
          placed = record {
            variables_are = rw (long, map-append) (one_declared_more same places new_declared);
            defined_are = others.placed.defined_are;
            functions_are = others.placed.functions_are;
          };
        })
