use Rattle.policy_text.proofs.Common.{spread_found}
use Rattle.policy_text.proofs.Labelling.{labelling_fails}
use Rattle.policy_text.proofs.labelled.label_objects.Goals as goal

pub returns-in_err-by_object-clause-labels : goal.returns-in_err-by_object-clause-labels
returns-in_err-by_object-clause-labels c =
    labelling_fails c.args.spec.now c.args.policy.now (spread_found c.in_ok-table.table) c.from_residual-in_err-by_object.result
    c.in_err-by_object.field-0.0
    (rw c.as_slice.ensures at c.in_ok-table.ensures) c.from_residual-in_err-by_object.ensures.1
    (rw c.as_slice-2.ensures at c.in_err-by_object.ensures.fault)
