use Rattle.assigned_laws.proofs.Ranked.{lines_apart}
use Rattle.assigned_laws.proofs.laws.label_lines_are_apart.Goals as goal

pub returns : goal.returns
returns c = lines_apart
