use mathlib.Core.Path.{◌∙◌}
use Rattle.script_reader.proofs.ScriptWalk.{command_at, walk_end, walk_less, walk_start, walk_stop, walk_turn, walk_word}
use Rattle.script_reader.proofs.scripts.read_script.Goals as goal

pub loop-at-init : goal.loop-at-init
loop-at-init c = walk_start c.nothing_said-progress.ensures c.requires

pub shape_of-names-then-code_at-ne-OPEN : goal.shape_of-names-then-code_at-ne-OPEN
shape_of-names-then-code_at-ne-OPEN c = c.loop-at.invariant.names_long

pub shape_of-raw-then-code_at-ne-OPEN : goal.shape_of-raw-then-code_at-ne-OPEN
shape_of-raw-then-code_at-ne-OPEN c = c.loop-at.invariant.raw_long

pub shape_of-places-then-code_at-ne-OPEN : goal.shape_of-places-then-code_at-ne-OPEN
shape_of-places-then-code_at-ne-OPEN c = c.loop-at.invariant.places_long

pub shape_of-nodes-then-code_at-ne-OPEN : goal.shape_of-nodes-then-code_at-ne-OPEN
shape_of-nodes-then-code_at-ne-OPEN c = c.loop-at.invariant.nodes_long

pub shape_of-forms-then-code_at-ne-OPEN : goal.shape_of-forms-then-code_at-ne-OPEN
shape_of-forms-then-code_at-ne-OPEN c = c.loop-at.invariant.forms_long

pub returns-then-code_at-ne-OPEN : goal.returns-then-code_at-ne-OPEN
returns-then-code_at-ne-OPEN c = walk_word c.loop-at.invariant c.loop-at-test.true c.code_at.ensures c.if-code_at-ne-OPEN.true c.answer.ensures

pub read_command-step-requires : goal.read_command-step-requires
read_command-step-requires c = command_at c.loop-at.invariant c.loop-at-test.true c.code_at.ensures c.if-code_at-ne-OPEN.false c.loop-at.invariant.given

pub shape_of-names-then-step-ne0 : goal.shape_of-names-then-step-ne0
shape_of-names-then-step-ne0 c = c.names-1.given ∙ c.loop-at.invariant.names_long

pub shape_of-raw-then-step-ne0 : goal.shape_of-raw-then-step-ne0
shape_of-raw-then-step-ne0 c = c.raw-1.given ∙ c.loop-at.invariant.raw_long

pub shape_of-places-then-step-ne0 : goal.shape_of-places-then-step-ne0
shape_of-places-then-step-ne0 c = c.places-1.given ∙ c.loop-at.invariant.places_long

pub shape_of-nodes-then-step-ne0 : goal.shape_of-nodes-then-step-ne0
shape_of-nodes-then-step-ne0 c = c.nodes-1.given ∙ c.loop-at.invariant.nodes_long

pub shape_of-forms-then-step-ne0 : goal.shape_of-forms-then-step-ne0
shape_of-forms-then-step-ne0 c = c.forms-1.given ∙ c.loop-at.invariant.forms_long

pub returns-then-step-ne0 : goal.returns-then-step-ne0
returns-then-step-ne0 c =
    walk_stop
    c.loop-at.invariant
    c.loop-at-test.true
    c.code_at.ensures
    c.if-code_at-ne-OPEN.false
    c.read_command-step.ensures
    c.if-step-ne0.true

pub loop-at-smaller : goal.loop-at-smaller
loop-at-smaller c =
    walk_less
    c.loop-at.invariant
    c.loop-at-test.true
    c.code_at.ensures
    c.if-code_at-ne-OPEN.false
    c.read_command-step.ensures
    c.next_at-at.ensures

pub loop-at-preserved : goal.loop-at-preserved
loop-at-preserved c =
    walk_turn
    c.loop-at.invariant
    c.loop-at-test.true
    c.code_at.ensures
    c.if-code_at-ne-OPEN.false
    c.read_command-step.ensures
    c.next_at-at.ensures
    c.if-step-ne0.false
    c.names-1.given
    c.raw-1.given
    c.places-1.given
    c.nodes-1.given
    c.forms-1.given

pub shape_of-names : goal.shape_of-names
shape_of-names c = c.loop-at.invariant.names_long

pub shape_of-raw : goal.shape_of-raw
shape_of-raw c = c.loop-at.invariant.raw_long

pub shape_of-places : goal.shape_of-places
shape_of-places c = c.loop-at.invariant.places_long

pub shape_of-nodes : goal.shape_of-nodes
shape_of-nodes c = c.loop-at.invariant.nodes_long

pub shape_of-forms : goal.shape_of-forms
shape_of-forms c = c.loop-at.invariant.forms_long

pub returns : goal.returns
returns c = walk_end c.loop-at.invariant c.loop-at-test.false c.end_of_script.ensures
