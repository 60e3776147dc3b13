use Rattle.system_spec.proofs.Common.{◌∙◌}
use Rattle.system_spec.proofs.landmarks.plan_of.Goals as goal

pub landmarks_of-requires-clause-sections : goal.landmarks_of-requires-clause-sections
landmarks_of-requires-clause-sections c = c.as_slice.ensures ∙ c.in_ok-sections.ensures
