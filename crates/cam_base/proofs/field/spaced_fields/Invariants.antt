use Rattle.cam_base.proofs.Common.{drop, filter, length, not, spaced_fields, texts, ◌++◌, ◌==◌, ◌≡◌}
use Rattle.cam_base.proofs.field.spaced_fields.Given as goal

abbrev pub invariant-loop-field : goal.invariant-loop-field
invariant-loop-field l = texts l.fields.items ++ filter (λ field. not (length field == 0))
    (texts (drop l.field-index l.field-items)) ≡ spaced_fields l.line
