use Rattle.step_text.proofs.Lengths.{steps_short}
use Rattle.step_text.proofs.Runs.{run_readable}
use Rattle.step_text.proofs.back_laws.runs_are_readable.Goals as goal

pub returns-clause-readable : goal.returns-clause-readable
returns-clause-readable c = λ spec steps new kept named run few. run_readable spec kept named steps new run few

pub returns-clause-short : goal.returns-clause-short
returns-clause-short c = λ spec steps named readable. steps_short spec named steps readable
