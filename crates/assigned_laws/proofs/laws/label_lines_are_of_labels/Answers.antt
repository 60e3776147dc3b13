use Rattle.assigned_laws.proofs.LabelsStand.{label_lines_stand}
use Rattle.assigned_laws.proofs.laws.label_lines_are_of_labels.Goals as goal

pub returns : goal.returns
returns c = λ s sound. label_lines_stand s sound
