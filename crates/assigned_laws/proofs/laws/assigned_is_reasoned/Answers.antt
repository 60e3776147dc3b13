use Rattle.assigned_laws.proofs.AssignedReasons.{assigned_reasoned}
use Rattle.assigned_laws.proofs.LabelPaths.{paths_apart}
use Rattle.assigned_laws.proofs.laws.assigned_is_reasoned.Goals as goal

pub returns : goal.returns
returns c = λ s sound dotted types numbers apart p a q. assigned_reasoned s sound dotted types numbers apart
    (paths_apart s sound) p a q
