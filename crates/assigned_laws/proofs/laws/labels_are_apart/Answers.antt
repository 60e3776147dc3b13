use Rattle.assigned_laws.proofs.TextReasons.{labels_apart}
use Rattle.assigned_laws.proofs.laws.labels_are_apart.Goals as goal

pub returns : goal.returns
returns c = λ s sound spelled. labels_apart s sound spelled
