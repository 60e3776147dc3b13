use Rattle.cap_model.proofs.laws.conditions_are_sharp.Goals as goal
use Rattle.cap_model.proofs.KeptExamples.{kept_ones_kept, faulty_ones_not_kept}

pub returns : goal.returns
returns c = record { kept = kept_ones_kept; faulty = faulty_ones_not_kept }
