use Rattle.cap_model.proofs.Common.{refl, slice_get_read}
use Rattle.cap_model.proofs.LabelLookups.{label_name-there, label_name-found_now}
use Rattle.cap_model.proofs.policy.Policy.name_of.Goals as goal

pub returns-in-Some-clause-one : goal.returns-in-Some-clause-one
returns-in-Some-clause-one c = let h = c.in-Some.ensures.lookup in
    rw (← c.as_slice-labels.ensures)
    (label_name-there c.as_slice-labels.result.now c.args.label c.args.label c.in-Some.field-0.now c.as_bytes.result.now
    (slice_get_read c.as_slice-labels.result.now _ c.args.label c.in-Some.field-0.now refl h.3.0 h.1) c.if-number-label.true
    c.as_bytes.ensures)

pub returns-in_default-clause-found : goal.returns-in_default-clause-found
returns-in_default-clause-found c =
    rw (← c.as_slice-labels.ensures) (label_name-found_now c.as_slice-labels.result.now c.args.label c.first_name_of.result
    c.first_name_of.ensures)
