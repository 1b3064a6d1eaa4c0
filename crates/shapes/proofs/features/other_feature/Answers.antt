use Rattle.shapes.proofs.FeatureTests.{feature_test, no_feature_test}
use Rattle.lexemes.proofs.Listed.{list_room}
use native.Mathlib.Omega.{arith}
use Rattle.shapes.proofs.features.other_feature.Goals as goal

pub overflow_add-at : goal.overflow_add-at
overflow_add-at c = omega (arith, list_room c.requires)

pub returns-then-code_at-ne-SET_FEATURE : goal.returns-then-code_at-ne-SET_FEATURE
returns-then-code_at-ne-SET_FEATURE c = search no_feature_test

pub overflow_add-at-2 : goal.overflow_add-at-2
overflow_add-at-2 c = omega (arith, list_room c.requires)

pub overflow_add-at-3 : goal.overflow_add-at-3
overflow_add-at-3 c = omega (arith, list_room c.requires)

pub returns : goal.returns
returns c = search feature_test
