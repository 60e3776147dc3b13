use Rattle.assigned_laws.proofs.PolicyTriples.{all_assigned}
use Rattle.assigned_laws.proofs.laws.policies_are_all_that_is_assigned.Goals as goal

pub returns : goal.returns
returns c = λ s sound spelled types edges policy sorted. all_assigned s sound spelled types edges policy sorted
