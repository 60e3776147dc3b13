use Rattle.front_laws.proofs.StepFaults.{from_no_step_fault, from_step_fault, in_no_step_fault, in_step_fault}
use Rattle.front_laws.proofs.text_laws.step_faults_are_the_first.Goals as goal

pub returns-clause-first : goal.returns-clause-first
returns-clause-first c = λ spec bytes f. (from_step_fault spec bytes f, in_step_fault spec bytes f)

pub returns-clause-none : goal.returns-clause-none
returns-clause-none c = λ spec bytes. (from_no_step_fault spec bytes, in_no_step_fault spec bytes)
