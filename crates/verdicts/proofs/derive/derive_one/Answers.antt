use native.Mathlib.Omega.{arith}
use Rattle.one_function.proofs.OneFunction.{body_end, few_rules, forms_end}
use Rattle.verdicts.proofs.OneFunction.{one_judged, sought}
use Rattle.verdicts.proofs.derive.derive_one.Goals as goal

pub rules_of-rules-requires : goal.rules_of-rules-requires
rules_of-rules-requires c = let q = c.requires.held in record { function_lt_most_functions = q.low; places_len = q.long; function_bound = few_rules q }

pub rows_from-sides-requires : goal.rows_from-sides-requires
rows_from-sides-requires c = forms_end c.requires.held c.forms_of.ensures c.form_rows_of.ensures

pub rows_from-body-requires : goal.rows_from-body-requires
rows_from-body-requires c =
    body_end c.requires.held c.body_of-node.ensures c.size_at.ensures

pub derive-requires : goal.derive-requires
derive-requires c =
    let q = c.requires in
    sought q c.rules_of-rules.ensures c.forms_of.ensures c.form_rows_of.ensures c.rows_from-sides.ensures c.body_of-node.ensures
    c.size_at.ensures c.rows_from-body.ensures (omega (arith, q.held.low))

pub returns : goal.returns
returns c =
    λ q. one_judged q c.rules_of-rules.ensures c.forms_of.ensures c.form_rows_of.ensures c.rows_from-sides.ensures c.body_of-node.ensures
    c.size_at.ensures c.rows_from-body.ensures c.derive.new.area c.derive.result c.derive.ensures
